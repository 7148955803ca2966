-- The machine reads attributes, tags, elements and whole documents.
use Rattle.std.proofs.Common.{◌≡◌, ℕ, true, false, ◌||◌, List, [], ◌∷◌, ◌++◌, length, drop, Some, refl, sym, ◌∙◌, ap, subst, append_assoc, arith}
use Rattle.std.proofs.lemmas.List.{length-append}
use Rattle.std.proofs.lemmas.Str.{length-encode, len_utf8_bounds}
use Rattle.std.proofs.Math.Seq.{drop-append_seam}
use Rattle.std.specs.Prelude.{◌==◌, codes, encode_utf8, encode_utf8_all, nat_eq}
use Rattle.std.specs.List.{starts_with}
use Rattle.plain_tree.specs.Document.{Node, element, no_nodes, nodes}
use Rattle.plain_tree.specs.declared.tree.Attr.{Attr}
use Rattle.ft_base.specs.Characters.{is_char, is_space, is_name_start, is_name_char}
use Rattle.doc_grammar.specs.Grammar.{is_quote, has_name, text_node, Attribute, Tag, Element, Content, Document}
use Rattle.doc_grammar.specs.Opened.{At, before, after, in_fragment, within, bottom}
use Rattle.doc_grammar.specs.steps.Machine as m
use Rattle.doc_grammar.specs.steps.Machine.{Outer, document, fragment, level, Place, Phase, State, takes_element, is_content, with_text, with_node, entered, step_at, start}
use Rattle.doc_grammar.proofs.Bytes.{starts_with-append}
use Rattle.std.proofs.lemmas.Bool.{eq-eqb}
use Rattle.doc_grammar.proofs.Classes.{space_fails, space-start, space-name, space-is}
use Rattle.doc_grammar.proofs.Walks.{st, Runs, Steps, Gives, same, past, here, still, join, then, first_then, spaces_then, start_name_runs, attr_name_runs, reference_runs, value_runs, skipped_runs, misc_runs}

-- between an attribute's name and its value
attr_name_space : (p : Place) (name : List ℕ) (attrs : List Attr) (attr : List ℕ) → has_name attr attrs ≡ false → (c : ℕ) → is_space c ≡ true → Steps (st p (m.attr_name name attrs attr)) c (st p (m.attr_named name attrs attr))
unfolding step_at m.from_attr_name m.from_attr_named
attr_name_space p name attrs attr new c h = record { gives = past _ (space-name c h) (past _ new (past _ (space-is 61 refl refl refl refl c h) (here _ h same))) }

attr_named_space : (p : Place) (name : List ℕ) (attrs : List Attr) (attr : List ℕ) (c : ℕ) → is_space c ≡ true → Steps (st p (m.attr_named name attrs attr)) c (st p (m.attr_named name attrs attr))
unfolding step_at m.from_attr_named
attr_named_space p name attrs attr c h = record { gives = past _ (space-is 61 refl refl refl refl c h) (here _ h same) }

pub attr_name_equals : (p : Place) (name : List ℕ) (attrs : List Attr) (attr : List ℕ) → has_name attr attrs ≡ false → Steps (st p (m.attr_name name attrs attr)) 61 (st p (m.equals name attrs attr))
unfolding step_at m.from_attr_name m.from_attr_named is_name_char is_name_start
attr_name_equals p name attrs attr new = record { gives = past _ new same }

pub attr_named_equals : (p : Place) (name : List ℕ) (attrs : List Attr) (attr : List ℕ) → Steps (st p (m.attr_named name attrs attr)) 61 (st p (m.equals name attrs attr))
unfolding step_at m.from_attr_named
attr_named_equals p name attrs attr = record { gives = same }

equals_space : (p : Place) (name : List ℕ) (attrs : List Attr) (attr : List ℕ) (c : ℕ) → is_space c ≡ true → Steps (st p (m.equals name attrs attr)) c (st p (m.equals name attrs attr))
unfolding step_at m.from_equals
equals_space p name attrs attr c h = record { gives = past _ (space_quote c h) (here _ h same) }
  where
    space_quote : (c : ℕ) → is_space c ≡ true → is_quote c ≡ false
    space_quote = space_fails is_quote refl refl refl refl

pub equals_quote : (p : Place) (name : List ℕ) (attrs : List Attr) (attr : List ℕ) (c : ℕ) → is_quote c ≡ true → Steps (st p (m.equals name attrs attr)) c (st p (m.quoted name attrs attr c []))
unfolding step_at m.from_equals
equals_quote p name attrs attr c h = record { gives = here _ h same }

pub quoted_quote : (p : Place) (name : List ℕ) (attrs : List Attr) (attr : List ℕ) (quote : ℕ) (value : List ℕ) → (quote == quote) ≡ true → Steps (st p (m.quoted name attrs attr quote value)) quote (st p (m.valued name (attrs ++ record { name = attr; value = value } ∷ [])))
unfolding step_at m.from_quoted
quoted_quote p name attrs attr quote value h = record { gives = here _ h same }

regroup : {s t : State} (u v w : List ℕ) → Runs s (u ++ (v ++ w)) t → Runs s ((u ++ v) ++ w) t
regroup {s = s} {t = t} u v w r = subst (λ z. Runs s z t) (sym (append_assoc u v w)) r

attribute_runs : (p : Place) (name : List ℕ) (attrs : List Attr) {u : List ℕ} {a : Attr} → Attribute u a → has_name a.name attrs ≡ false → Runs (st p (m.spaced name attrs)) u (st p (m.valued name (attrs ++ a ∷ [])))
attribute_runs p name attrs (Attribute.attribute {u = u} {s = s} {t = t} {v = v} {name = attr} {value = value} is_name sp rest q is_q val) new =
    let equal_sign : Runs (st p (m.attr_name name attrs attr)) (s ++ codes "=") (st p (m.equals name attrs attr)) =
    spaces_then _ (st p (m.attr_named name attrs attr)) _ 61 (attr_name_space p name attrs attr new) (attr_named_space p name attrs attr) (attr_name_equals p name attrs attr new) (attr_named_equals p name attrs attr) sp in
    let opening : Runs (st p (m.equals name attrs attr)) (t ++ q ∷ []) (st p (m.quoted name attrs attr q [])) =
    spaces_then _ _ _ q (equals_space p name attrs attr) (equals_space p name attrs attr) (equals_quote p name attrs attr q is_q) (equals_quote p name attrs attr q is_q) rest in
    then (join (regroup ((u ++ s) ++ codes "=") t (q ∷ []) (join (regroup u s (codes "=") (join (attr_name_runs p name attrs is_name) equal_sign)) opening)) (value_runs p name attrs attr q is_q val)) (quoted_quote p name attrs attr q value (eq-eqb q q refl))

-- after a tag's name, or an attribute
after_tag : List ℕ → List Attr → Phase
after_tag name [] = m.start_name name
after_tag name (a ∷ attrs) = m.valued name (a ∷ attrs)

after_tag-append : (name : List ℕ) (attrs : List Attr) (a : Attr) → m.valued name (attrs ++ a ∷ []) ≡ after_tag name (attrs ++ a ∷ [])
unfolding after_tag
after_tag-append name [] a = refl
after_tag-append name (b ∷ attrs) a = refl

tag_space : (p : Place) (name : List ℕ) (attrs : List Attr) (c : ℕ) → is_space c ≡ true → Gives (m.from_tag p name attrs c) (Some (st p (m.spaced name attrs)))
unfolding m.from_tag
tag_space p name attrs c h = past _ (space-is 62 refl refl refl refl c h) (past _ (space-is 47 refl refl refl refl c h) (here _ h same))

after_tag_space : (p : Place) (name : List ℕ) (attrs : List Attr) (c : ℕ) → is_space c ≡ true → Steps (st p (after_tag name attrs)) c (st p (m.spaced name attrs))
unfolding after_tag step_at m.from_start_name
after_tag_space p name [] c h = record { gives = past _ (space-name c h) (tag_space p name [] c h) }
after_tag_space p name (a ∷ attrs) c h = record { gives = tag_space p name (a ∷ attrs) c h }

spaced_space : (p : Place) (name : List ℕ) (attrs : List Attr) (c : ℕ) → is_space c ≡ true → Steps (st p (m.spaced name attrs)) c (st p (m.spaced name attrs))
unfolding step_at m.from_spaced
spaced_space p name attrs c h = record { gives = past _ (space-start c h) (tag_space p name attrs c h) }

-- `>` and `/`, at once or after white space
after_tag_close : (p : Place) (name : List ℕ) (attrs : List Attr) → Steps (st p (after_tag name attrs)) 62 (st (entered p name attrs) m.ready)
unfolding after_tag step_at m.from_start_name m.from_tag is_name_char is_name_start
after_tag_close p name [] = record { gives = same }
after_tag_close p name (a ∷ attrs) = record { gives = same }

spaced_close : (p : Place) (name : List ℕ) (attrs : List Attr) → Steps (st p (m.spaced name attrs)) 62 (st (entered p name attrs) m.ready)
unfolding step_at m.from_spaced m.from_tag is_name_start
spaced_close p name attrs = record { gives = same }

after_tag_slash : (p : Place) (name : List ℕ) (attrs : List Attr) → Steps (st p (after_tag name attrs)) 47 (st p (m.slashed name attrs))
unfolding after_tag step_at m.from_start_name m.from_tag is_name_char is_name_start
after_tag_slash p name [] = record { gives = same }
after_tag_slash p name (a ∷ attrs) = record { gives = same }

pub spaced_slash : (p : Place) (name : List ℕ) (attrs : List Attr) → Steps (st p (m.spaced name attrs)) 47 (st p (m.slashed name attrs))
unfolding step_at m.from_spaced m.from_tag is_name_start
spaced_slash p name attrs = record { gives = same }

ready_opened : (p : Place) → Steps (st p m.ready) 60 (st p m.opened)
unfolding step_at m.from_ready
ready_opened p = record { gives = same }

tag_runs : (p : Place) → takes_element p ≡ true → {u name : List ℕ} {attrs : List Attr} → Tag u name attrs → Runs (st p m.ready) u (st p (after_tag name attrs))
unfolding after_tag
tag_runs p takes (Tag.named x) = first_then (ready_opened p) (start_name_runs p takes x)
tag_runs p takes (Tag.attribute {u = u} {s = s} {v = v} {name = name} {attrs = attrs} {a = a} tag sp c h attr new) =
    let spaced : Runs (st p (after_tag name attrs)) (s ++ c ∷ []) (st p (m.spaced name attrs)) =
    spaces_then _ (st p (m.spaced name attrs)) _ c (after_tag_space p name attrs) (spaced_space p name attrs) (after_tag_space p name attrs c h) (spaced_space p name attrs c h) sp in
    let phase : m.valued name (attrs ++ a ∷ []) ≡ after_tag name (attrs ++ a ∷ []) = after_tag-append name attrs a in
    subst (λ f. Runs (st p m.ready) ((u ++ (s ++ c ∷ [])) ++ v) (st p f)) phase (join (join (tag_runs p takes tag) spaced) (attribute_runs p name attrs attr new))

-- an end tag
not_nil : (c : ℕ) (r : List ℕ) → encode_utf8 c ++ r ≡ [] → ⊥
not_nil c r e = absurd (omega (arith, ap length e, length-append (encode_utf8 c) r, length-encode c, (len_utf8_bounds c).0))

pub end_left : (p : Place) (c : ℕ) (left r : List ℕ) → encode_utf8 c ++ r ≡ left → Steps (st p (m.end_name left)) c (st p (m.end_name r))
unfolding step_at m.from_end_name
end_left p c [] r e = absurd (not_nil c r e)
end_left p c (b ∷ bytes) r e = record {
  gives = here _ (ap (λ z. starts_with nat_eq z (encode_utf8 c)) (sym e) ∙ starts_with-append (encode_utf8 c) r)
      (record { is = ap (λ z. Some (st p (m.end_name z))) (ap (λ z. drop (length (encode_utf8 c)) z) (sym e) ∙ drop-append_seam (encode_utf8 c) r) });
}

pub end_name_runs : (p : Place) (cs : List ℕ) → Runs (st p (m.end_name (encode_utf8_all cs))) cs (st p (m.end_name []))
end_name_runs p [] = still _
end_name_runs p (c ∷ cs) = first_then (end_left p c (encode_utf8_all (c ∷ cs)) (encode_utf8_all cs) refl) (end_name_runs p cs)

end_name_space : (p : Place) (c : ℕ) → is_space c ≡ true → Steps (st p (m.end_name [])) c (st p m.end_spaced)
unfolding step_at m.from_end_name m.from_end_spaced
end_name_space p c h = record { gives = past _ (space-is 62 refl refl refl refl c h) (here _ h same) }

end_spaced_space : (p : Place) (c : ℕ) → is_space c ≡ true → Steps (st p m.end_spaced) c (st p m.end_spaced)
unfolding step_at m.from_end_spaced
end_spaced_space p c h = record { gives = past _ (space-is 62 refl refl refl refl c h) (here _ h same) }

-- a place in the content of an element
abbrev pub inside : List Node → List ℕ → Place → List ℕ → List Attr → Place
inside kids bytes p name attrs = record { kids = kids; text = bytes; outer = level name attrs p.kids p.text p.outer }

pub end_name_close : (p : Place) (kids : List Node) (bytes name : List ℕ) (attrs : List Attr) → Steps (st (inside kids bytes p name attrs) (m.end_name [])) 62 (st (with_node p.kids p.text p.outer (element name attrs (nodes (kids ++ text_node bytes)))) m.ready)
unfolding step_at m.from_end_name m.from_end_spaced m.left
end_name_close p kids bytes name attrs = record { gives = same }

pub end_spaced_close : (p : Place) (kids : List Node) (bytes name : List ℕ) (attrs : List Attr) → Steps (st (inside kids bytes p name attrs) m.end_spaced) 62 (st (with_node p.kids p.text p.outer (element name attrs (nodes (kids ++ text_node bytes)))) m.ready)
unfolding step_at m.from_end_spaced m.left
end_spaced_close p kids bytes name attrs = record { gives = same }

pub end_begins : (p : Place) (kids : List Node) (bytes name : List ℕ) (attrs : List Attr) → Runs (st (inside kids bytes p name attrs) m.ready) (codes "</") (st (inside kids bytes p name attrs) (m.end_name name))
unfolding step_at m.from_ready m.from_opened
end_begins p kids bytes name attrs = record { ends = refl }

pub empty_close : (p : Place) (name : List ℕ) (attrs : List Attr) → Steps (st p (m.slashed name attrs)) 62 (st (with_node p.kids p.text p.outer (element name attrs no_nodes)) m.ready)
unfolding step_at m.from_slashed
empty_close p name attrs = record { gives = same }

-- elements and content
ready_character : (p : Place) (c : ℕ) → is_content p.outer ≡ true → is_char c ≡ true → (c == 60) ≡ false → (c == 38) ≡ false → Steps (st p m.ready) c (st (with_text p c) m.ready)
unfolding step_at m.from_ready
ready_character p c h k a b = record { gives = past _ a (here _ h (past _ b (here _ k same))) }

abbrev pub content_of : List Node → List ℕ → Outer → Place
content_of kids text outer = record { kids = kids; text = text; outer = outer }

mutual
  pub element_runs : {u : List ℕ} {node : Node} → Element u node → (p : Place) → takes_element p ≡ true → Runs (st p m.ready) u (st (with_node p.kids p.text p.outer node) m.ready)
  element_runs (Element.empty {u = u} {s = s} {name = name} {attrs = attrs} tag sp) p takes =
      let slash : Runs (st p (after_tag name attrs)) (s ++ codes "/") (st p (m.slashed name attrs)) =
      spaces_then _ (st p (m.spaced name attrs)) _ 47 (after_tag_space p name attrs) (spaced_space p name attrs) (after_tag_slash p name attrs) (spaced_slash p name attrs) sp in
      let whole : Runs (st p m.ready) (((u ++ s) ++ codes "/") ++ codes ">") (st (with_node p.kids p.text p.outer (element name attrs no_nodes)) m.ready) =
      then (regroup u s (codes "/") (join (tag_runs p takes tag) slash)) (empty_close p name attrs) in
      subst (λ z. Runs (st p m.ready) z (st (with_node p.kids p.text p.outer (element name attrs no_nodes)) m.ready)) (append_assoc (u ++ s) (codes "/") (codes ">")) whole
  element_runs (Element.whole {u = u} {s = s} {v = v} {t = t} {name = name} {bytes = bytes} {attrs = attrs} {kids = kids} tag sp content cs same_name rest) p takes =
      let entering : Runs (st p (after_tag name attrs)) (s ++ codes ">") (st (entered p name attrs) m.ready) =
      spaces_then _ (st p (m.spaced name attrs)) _ 62 (after_tag_space p name attrs) (spaced_space p name attrs) (after_tag_close p name attrs) (spaced_close p name attrs) sp in
      let q : Place = inside kids bytes p name attrs in
      let named : Runs (st q (m.end_name name)) cs (st q (m.end_name [])) = subst (λ z. Runs (st q (m.end_name z)) cs (st q (m.end_name []))) same_name (end_name_runs q cs) in
      let leaving : Runs (st q (m.end_name [])) (t ++ codes ">") (st (with_node p.kids p.text p.outer (element name attrs (nodes (kids ++ text_node bytes)))) m.ready) =
      spaces_then _ (st q m.end_spaced) _ 62 (end_name_space q) (end_spaced_space q) (end_name_close p kids bytes name attrs) (end_spaced_close p kids bytes name attrs) rest in
      regroup (((((u ++ s) ++ codes ">") ++ v) ++ codes "</") ++ cs) t (codes ">")
      (join (join (join (join (regroup u s (codes ">") (join (tag_runs p takes tag) entering)) (content_runs content (level name attrs p.kids p.text p.outer) refl)) (end_begins p kids bytes name attrs)) named) leaving)

  pub content_runs : {u bytes : List ℕ} {kids : List Node} → Content u kids bytes → (outer : Outer) → is_content outer ≡ true → Runs (st (content_of [] [] outer) m.ready) u (st (content_of kids bytes outer) m.ready)
  content_runs Content.nothing outer h = still _
  content_runs (Content.character {bytes = bytes} {kids = kids} x c k a b) outer h = then (content_runs x outer h) (ready_character (content_of kids bytes outer) c h k a b)
  content_runs (Content.reference {bytes = bytes} {kids = kids} x ref) outer h = join (content_runs x outer h) (reference_runs (content_of kids bytes outer) h ref)
  content_runs (Content.skipped {bytes = bytes} {kids = kids} x y) outer h = join (content_runs x outer h) (skipped_runs (content_of kids bytes outer) y)
  content_runs (Content.child {bytes = bytes} {kids = kids} x e) outer h = join (content_runs x outer h) (element_runs e (content_of kids bytes outer) (ap (λ b. b || m.is_none kids) h))

pub document_runs : {u : List ℕ} {node : Node} → Document u node → Runs (start document) u (st (content_of (node ∷ []) [] document) m.ready)
document_runs (Document.document {node = node} x e y) = join (join (misc_runs (content_of [] [] document) refl x) (element_runs e (content_of [] [] document) refl)) (misc_runs (content_of (node ∷ []) [] document) refl y)

-- the machine stands at the place that the grammar gives a prefix
pub at_runs : {w : List ℕ} {p : Place} → At w p → Runs (start (bottom p.outer)) w (st p m.ready)
at_runs (before x) = misc_runs (content_of [] [] document) refl x
at_runs (after {node = node} x e y) = join (join (misc_runs (content_of [] [] document) refl x) (element_runs e (content_of [] [] document) refl)) (misc_runs (content_of (node ∷ []) [] document) refl y)
at_runs (in_fragment x) = content_runs x fragment refl
at_runs (within {w = w} {t = t} {s = s} {name = name} {outer_text = ot} {attrs = attrs} {outer_kids = ok} {outer = o} a takes tag sp x) =
    let p : Place = content_of ok ot o in
    let entering : Runs (st p (after_tag name attrs)) (s ++ codes ">") (st (entered p name attrs) m.ready) =
    spaces_then _ (st p (m.spaced name attrs)) _ 62 (after_tag_space p name attrs) (spaced_space p name attrs) (after_tag_close p name attrs) (spaced_close p name attrs) sp in
    join (regroup (w ++ t) s (codes ">") (join (join (at_runs a) (tag_runs p takes tag)) entering)) (content_runs x (level name attrs ok ot o) refl)
