-- How whole items go on by one more item.
use Rattle.std.proofs.Common.{◌≡◌, ℕ, false, List, [], ◌∷◌, ◌++◌, refl, sym, ◌∙◌, subst, append_assoc}
use Rattle.std.proofs.lemmas.List.{append-nil}
use Rattle.std.specs.Prelude.{IsTrue, codes, encode_utf8_all}
use Rattle.plain_tree.specs.Document.{Node}
use Rattle.ft_base.specs.Characters.{is_space}
use Rattle.doc_grammar.specs.Grammar as g
use Rattle.doc_grammar.specs.Grammar.{text_node, Spaces, Reference, Skipped, Misc, Tag, Element, Content}
use Rattle.doc_grammar.specs.steps.Machine.{Place, is_content, takes_element, with_node, left}
use Rattle.doc_grammar.proofs.Spelled.{EndPart, Next, go}
use Rattle.doc_grammar.specs.Opened.{At, before, after, in_fragment, within}

pub at_same : {u w : List ℕ} {p : Place} → At u p → u ≡ w → At w p
at_same {p = p} a e = subst (λ f. At f p) e a

-- content goes on by an item
pub at_grown : {v : List ℕ} {p : Place} → At v p → IsTrue (is_content p.outer) → (z : List ℕ) (kids : List Node) (text : List ℕ) → ((u : List ℕ) → Content u p.kids p.text → Content (u ++ z) kids text) → At (v ++ z) (record { kids = kids; text = text; outer = p.outer })
at_grown (before x) h z kids text grow = cc
at_grown (after x e y) h z kids text grow = cc
at_grown (in_fragment {u = u} x) h z kids text grow = in_fragment (grow u x)
at_grown (within {w = w} {t = t} {s = s} {u = u} a takes tag sp x) h z kids text grow = at_same (within a takes tag sp (grow u x)) (sym (append_assoc (((w ++ t) ++ s) ++ codes ">") u z))

pub at_skipped : {v z : List ℕ} {p : Place} → At v p → Skipped z → At (v ++ z) p
at_skipped (before x) k = before (g.Misc.skipped x k)
at_skipped {z = z} (after {u = u} {v = v} {w = w} x e y) k = at_same (after x e (g.Misc.skipped y k)) (sym (append_assoc (u ++ v) w z))
at_skipped {z = z} (in_fragment x) k = in_fragment (g.Content.skipped x k)
at_skipped {z = z} (within {w = w} {t = t} {s = s} {u = u} a takes tag sp x) k = at_same (within a takes tag sp (g.Content.skipped x k)) (sym (append_assoc (((w ++ t) ++ s) ++ codes ">") u z))

pub at_space : {v : List ℕ} {p : Place} → At v p → is_content p.outer ≡ false → (c : ℕ) → IsTrue (is_space c) → At (v ++ c ∷ []) p
at_space (before x) h c k = before (g.Misc.space x c k)
at_space (after {u = u} {v = v} {w = w} x e y) h c k = at_same (after x e (g.Misc.space y c k)) (sym (append_assoc (u ++ v) w (c ∷ [])))
at_space (in_fragment x) h c k = cc
at_space (within a takes tag sp x) h c k = cc

pub at_child : {v z : List ℕ} {p : Place} {node : Node} → At v p → IsTrue (takes_element p) → Element z node → At (v ++ z) (with_node p.kids p.text p.outer node)
at_child {z = z} (before {u = u} x) h e = at_same (after x e g.Misc.nothing) (append-nil (u ++ z))
at_child (after x e y) h f = cc
at_child (in_fragment x) h e = in_fragment (g.Content.child x e)
at_child {z = z} (within {w = w} {t = t} {s = s} {u = u} a takes tag sp x) h e = at_same (within a takes tag sp (g.Content.child x e)) (sym (append_assoc (((w ++ t) ++ s) ++ codes ">") u z))

regrouped : (w t s u cs sp : List ℕ) → w ++ (((((((t ++ s) ++ codes ">") ++ u) ++ codes "</") ++ cs) ++ sp) ++ codes ">") ≡ ((((w ++ t) ++ s) ++ codes ">") ++ u) ++ (((codes "</" ++ cs) ++ sp) ++ codes ">")
regrouped w t s u cs sp = simp append_assoc

-- an end tag leaves the element
pub at_left : {v : List ℕ} {p : Place} → At v p → (cs s : List ℕ) → EndPart p.outer cs [] → Spaces s → (w : List ℕ) → w ≡ v ++ (((codes "</" ++ cs) ++ s) ++ codes ">") → Next w (left p)
unfolding left
at_left (before x) cs sp h k w e = elim h [ ]
at_left (after x f y) cs sp h k w e = elim h [ ]
at_left (in_fragment x) cs sp h k w e = elim h [ ]
at_left (within {w = w0} {t = t} {s = s} {u = u} a takes tag gap x) cs sp h k w e =
    go (record { prefix = w; part = []; is_at = at_same (at_child a takes (g.Element.whole tag gap x cs (sym (append-nil (encode_utf8_all cs)) ∙ h) k)) (regrouped w0 t s u cs sp ∙ sym e); is_part = refl; spelled = sym (append-nil w) })
