-- What is printed of a tree spells it.
use Rattle.std.proofs.Common.{◌≡◌, ℕ, Bool, true, false, ◌&&◌, not, cond, ◌⊎◌, inl, inr, List, [], ◌∷◌, ◌++◌, refl, sym, ◌∙◌, ap, subst, append_assoc}
use Rattle.std.proofs.lemmas.List.{append-nil}
use Rattle.std.proofs.lemmas.Str.{encodes-chars}
use Rattle.std.specs.Prelude.{◌==◌, codes, encode_utf8_all}
use Rattle.std.specs.List.{flat_map}
use Rattle.std.specs.Str.{chars}
use Rattle.std.proofs.lemmas.Bool.{and_parts, not-true}
use Rattle.ft_base.specs.Lists.{is_empty}
use Rattle.plain_tree.specs.Document.{Node, element, text, Nodes, no_nodes, node_then, nodes, is_text, is_joined, are_joined, begins_with_text, is_document}
use Rattle.plain_tree.specs.declared.tree.Attr.{Attr}
use Rattle.ft_base.specs.Characters.{is_space}
use Rattle.doc_grammar.specs.Grammar as g
use Rattle.doc_grammar.specs.Grammar.{text_node, Spaces, Value, Attribute, Tag, Element, Content, Misc, Document}
use Rattle.doc_grammar.specs.Printed.{escaped_in_text, escaped_in_value, printed_value, printed_attribute, printed_attributes, printed, printed_all, IsName, AreChars, AreAttributes, IsPrintable, ArePrintable}
use Rattle.doc_grammar.specs.Texts.{Kind, Spells}
use Rattle.doc_grammar.proofs.Spelled.{no_return}
use Rattle.doc_grammar.proofs.Completed.{no_return-append}
use Rattle.doc_grammar.proofs.Decided.{lines-plain}
use Rattle.doc_grammar.proofs.CompletedTags.{name_bytes, name_plain}
use Rattle.doc_grammar.proofs.PrintedPieces.{text_printed, value_printed}

attribute_regrouped : (name value : List ℕ) → (((((name ++ []) ++ codes "=") ++ []) ++ codes "\"") ++ value) ++ codes "\"" ≡ (name ++ codes "=\"") ++ value ++ codes "\""
attribute_regrouped name value = simp (append-nil, append_assoc)

attribute_printed : (a : Attr) → IsName a.name → AreChars a.value → Attribute ((chars a.name ++ codes "=\"") ++ printed_value a.value ++ codes "\"") a
attribute_printed a name value =
    let spelled : Value 34 (printed_value a.value) a.value = subst (λ z. Value 34 (printed_value a.value) z) (encodes-chars a.value value.0) (value_printed (chars a.value) value.1 Value.nothing) in
    subst (λ z. Attribute z a) (attribute_regrouped (chars a.name) (printed_value a.value)) (Attribute.attribute name Spaces.nothing Spaces.nothing 34 refl spelled)

tag_regrouped : (u name value : List ℕ) → (u ++ ([] ++ 32 ∷ [])) ++ ((name ++ codes "=\"") ++ value ++ codes "\"") ≡ u ++ (((codes " " ++ name) ++ codes "=\"") ++ value ++ codes "\"")
tag_regrouped u name value = simp append_assoc

space_is_one : is_space 32 ≡ true
unfolding is_space
space_is_one = refl

tag_printed : (attrs before : List Attr) (u name : List ℕ) → Tag u name before → AreAttributes before attrs → Tag (u ++ printed_attributes attrs) name (before ++ attrs)
tag_printed [] before u name tag ok = subst (λ z. Tag z name (before ++ [])) (sym (append-nil u)) (subst (λ z. Tag u name z) (sym (append-nil before)) tag)
tag_printed (a ∷ attrs) before u name tag ok =
    let one : Tag (u ++ printed_attribute a) name (before ++ a ∷ []) = subst (λ z. Tag z name (before ++ a ∷ [])) (tag_regrouped u (chars a.name) (printed_value a.value)) (Tag.attribute tag Spaces.nothing 32 space_is_one (attribute_printed a ok.0 ok.1) ok.2) in
    let rest = tag_printed attrs (before ++ a ∷ []) (u ++ printed_attribute a) name one ok.3 in
    subst (λ z. Tag z name (before ++ a ∷ attrs)) (append_assoc u (printed_attribute a) (printed_attributes attrs))
    (subst (λ z. Tag ((u ++ printed_attribute a) ++ printed_attributes attrs) name z) (append_assoc before (a ∷ []) attrs) rest)

-- the nodes, as a list
abbrev pub list_of : Nodes → List Node
list_of no_nodes = []
list_of (node_then n ns) = n ∷ list_of ns

nodes-list_of : (ns : Nodes) → nodes (list_of ns) ≡ ns
nodes-list_of no_nodes = refl
nodes-list_of (node_then n ns) = ap (node_then n) (nodes-list_of ns)

-- content with these nodes more
pub record Further (u : List ℕ) (all : List Node) : Type 0 where
  pub kids : List Node
  pub bytes : List ℕ
  pub content : Content u kids bytes
  pub is_all : kids ++ text_node bytes ≡ all

element_moved : {u w : List ℕ} {n k : Node} → Element u n → u ≡ w → n ≡ k → Element w k
element_moved {u = u} {k = k} x e h = subst (λ z. Element z k) e (subst (λ z. Element u z) h x)

moved : {u w : List ℕ} {all every : List Node} → Further u all → u ≡ w → all ≡ every → Further w every
moved f e h = record { kids = f.kids; bytes = f.bytes; content = subst (λ z. Content z f.kids f.bytes) e f.content; is_all = f.is_all ∙ h }

text_node-some : (bytes : List ℕ) → not (is_empty bytes) ≡ true → text_node bytes ≡ text bytes ∷ []
text_node-some [] h = cc
text_node-some (b ∷ bytes) h = refl

empty_regrouped : (u : List ℕ) → (u ++ []) ++ codes "/>" ≡ u ++ codes "/>"
empty_regrouped u = ap (λ z. z ++ codes "/>") (append-nil u)

whole_regrouped : (u v cs : List ℕ) → ((((((u ++ []) ++ codes ">") ++ v) ++ codes "</") ++ cs) ++ []) ++ codes ">" ≡ ((((u ++ codes ">") ++ v) ++ codes "</") ++ cs) ++ codes ">"
whole_regrouped u v cs = simp append-nil

after_text : (b : Bool) → not (true && b) ≡ true → b ≡ false
after_text true h = cc
after_text false h = refl

-- the parts of the test that texts are joined
first_joined : (n : Node) (ns : Nodes) → are_joined (node_then n ns) ≡ true → (is_joined n ≡ true) × (not (is_text n && begins_with_text ns) ≡ true) × (are_joined ns ≡ true)
first_joined n ns h = let two = and_parts (is_joined n && not (is_text n && begins_with_text ns)) (are_joined ns) h in let one = and_parts (is_joined n) (not (is_text n && begins_with_text ns)) two.0 in (one.0, one.1, two.1)

nodes_regrouped : (xs : List Node) (n : Node) (ls : List Node) → ((xs ++ n ∷ []) ++ []) ++ ls ≡ xs ++ (n ∷ ls)
nodes_regrouped xs n ls = simp (append-nil, append_assoc)

text_regrouped : (kids : List Node) (bs bytes : List ℕ) (ls : List Node) → text_node bs ≡ text bs ∷ [] → bytes ≡ [] → (kids ++ text_node bs) ++ ls ≡ (kids ++ text_node bytes) ++ (text bs ∷ ls)
text_regrouped kids bs bytes ls e h = ap (λ z. (kids ++ z) ++ ls) e ∙ append_assoc kids (text bs ∷ []) ls ∙ ap (λ z. z ++ (text bs ∷ ls)) (sym (append-nil kids)) ∙ ap (λ z. (kids ++ text_node z) ++ (text bs ∷ ls)) (sym h)

no_text : (bytes : List ℕ) → ((bytes ≡ []) ⊎ (true ≡ false)) → bytes ≡ []
no_text bytes (inl e) = e
no_text bytes (inr e) = cc

mutual
  pub element_printed : (n : Node) → IsPrintable n → is_joined n ≡ true → is_text n ≡ false → Element (printed n) n
  element_printed (text bytes) ok j t = cc
  element_printed (element name attrs no_nodes) ok j t =
      let tag = tag_printed attrs [] (codes "<" ++ chars name) name (Tag.named ok.0) ok.1 in
      subst (λ z. Element z (element name attrs no_nodes)) (empty_regrouped ((codes "<" ++ chars name) ++ printed_attributes attrs)) (Element.empty tag Spaces.nothing)
  element_printed (element name attrs (node_then n ns)) ok j t =
      let tag = tag_printed attrs [] (codes "<" ++ chars name) name (Tag.named ok.0) ok.1 in
      let inner = content_printed (node_then n ns) ok.2 j Content.nothing (inl refl) in
      let whole = Element.whole tag Spaces.nothing inner.content (chars name) (name_bytes ok.0) Spaces.nothing in
      element_moved whole (whole_regrouped ((codes "<" ++ chars name) ++ printed_attributes attrs) (printed_all (node_then n ns)) (chars name)) (ap (element name attrs) (ap nodes inner.is_all ∙ nodes-list_of (node_then n ns)))

  pub content_printed : (ns : Nodes) → ArePrintable ns → are_joined ns ≡ true → {u bytes : List ℕ} {kids : List Node} → Content u kids bytes → ((bytes ≡ []) ⊎ (begins_with_text ns ≡ false)) → Further (u ++ printed_all ns) ((kids ++ text_node bytes) ++ list_of ns)
  content_printed no_nodes ok j {u = u} {bytes = bytes} {kids = kids} x h = record { kids = kids; bytes = bytes; content = subst (λ z. Content z kids bytes) (sym (append-nil u)) x; is_all = sym (append-nil (kids ++ text_node bytes)) }
  content_printed (node_then (element name attrs inner) ns) ok j {u = u} {bytes = bytes} {kids = kids} x h =
      let parts = first_joined (element name attrs inner) ns j in
      let rest = content_printed ns ok.1 parts.2 (g.Content.child x (element_printed (element name attrs inner) ok.0 parts.0 refl)) (inl refl) in
      moved rest (append_assoc u (printed (element name attrs inner)) (printed_all ns)) (nodes_regrouped (kids ++ text_node bytes) (element name attrs inner) (list_of ns))
  content_printed (node_then (text bs) ns) ok j {u = u} {bytes = bytes} {kids = kids} x h =
      let parts = first_joined (text bs) ns j in
      let none = no_text bytes h in
      let spelled = text_printed (chars bs) ok.0.1 x in
      let is_text_bytes : bytes ++ encode_utf8_all (chars bs) ≡ bs = ap (λ z. z ++ encode_utf8_all (chars bs)) none ∙ encodes-chars bs ok.0.0 in
      let rest = content_printed ns ok.1 parts.2 (subst (λ z. Content (u ++ printed (text bs)) kids z) is_text_bytes spelled) (inr (after_text (begins_with_text ns) parts.1)) in
      moved rest (append_assoc u (printed (text bs)) (printed_all ns)) (text_regrouped kids bs bytes (list_of ns) (text_node-some bs parts.0) none)

pub document_printed : (n : Node) → IsPrintable n → is_document n ≡ true → Document (printed n) n
document_printed n ok h =
    let two = and_parts (not (is_text n)) (is_joined n) h in
    subst (λ z. Document z n) (append-nil (printed n)) (Document.document Misc.nothing (element_printed n ok two.1 (not-true (is_text n) two.0)) Misc.nothing)

-- no carriage return is printed
plain_if : (b : Bool) (x y : List ℕ) → (b ≡ true → no_return x ≡ true) → (b ≡ false → no_return y ≡ true) → no_return (cond b x y) ≡ true
plain_if true x y f h = f refl
plain_if false x y f h = h refl

plain_char : (c : ℕ) → (c == 13) ≡ false → no_return (c ∷ []) ≡ true
plain_char c h = ap (λ b. not b && true) h

text_char_plain : (c : ℕ) → no_return (escaped_in_text c) ≡ true
text_char_plain c = plain_if (c == 38) _ _ (λ _. refl) (λ _. plain_if (c == 60) _ _ (λ _. refl) (λ _. plain_if (c == 62) _ _ (λ _. refl) (λ _. plain_if (c == 13) _ _ (λ _. refl) (λ h. plain_if (c == 10) _ _ (λ _. refl) (λ _. plain_char c h)))))

value_char_plain : (c : ℕ) → no_return (escaped_in_value c) ≡ true
value_char_plain c = plain_if (c == 38) _ _ (λ _. refl) (λ _. plain_if (c == 60) _ _ (λ _. refl) (λ _. plain_if (c == 34) _ _ (λ _. refl) (λ _. plain_if (c == 9) _ _ (λ _. refl) (λ _. plain_if (c == 13) _ _ (λ _. refl) (λ h. plain_if (c == 10) _ _ (λ _. refl) (λ _. plain_char c h))))))

all_plain : (f : ℕ → List ℕ) → ((c : ℕ) → no_return (f c) ≡ true) → (cs : List ℕ) → no_return (flat_map f cs) ≡ true
all_plain f h [] = refl
all_plain f h (c ∷ cs) = no_return-append (f c) (flat_map f cs) (h c) (all_plain f h cs)

attributes_plain : (attrs before : List Attr) → AreAttributes before attrs → no_return (printed_attributes attrs) ≡ true
attributes_plain [] before ok = refl
attributes_plain (a ∷ attrs) before ok =
    no_return-append (printed_attribute a) (printed_attributes attrs)
    (no_return-append (((codes " " ++ chars a.name) ++ codes "=\"") ++ printed_value a.value) (codes "\"")
    (no_return-append ((codes " " ++ chars a.name) ++ codes "=\"") (printed_value a.value) (no_return-append (codes " " ++ chars a.name) (codes "=\"") (name_plain ok.0) refl) (all_plain escaped_in_value value_char_plain (chars a.value))) refl)
    (attributes_plain attrs (before ++ a ∷ []) ok.3)

tag_plain : (name : List ℕ) (attrs : List Attr) → IsName name → AreAttributes [] attrs → no_return ((codes "<" ++ chars name) ++ printed_attributes attrs) ≡ true
tag_plain name attrs n ok = no_return-append (codes "<" ++ chars name) (printed_attributes attrs) (name_plain n) (attributes_plain attrs [] ok)

mutual
  pub printed_plain : (n : Node) → IsPrintable n → no_return (printed n) ≡ true
  printed_plain (text bytes) ok = all_plain escaped_in_text text_char_plain (chars bytes)
  printed_plain (element name attrs no_nodes) ok = no_return-append ((codes "<" ++ chars name) ++ printed_attributes attrs) (codes "/>") (tag_plain name attrs ok.0 ok.1) refl
  printed_plain (element name attrs (node_then n ns)) ok =
      let t = (codes "<" ++ chars name) ++ printed_attributes attrs in
      let v = printed_all (node_then n ns) in
      no_return-append ((((t ++ codes ">") ++ v) ++ codes "</") ++ chars name) (codes ">")
      (no_return-append (((t ++ codes ">") ++ v) ++ codes "</") (chars name)
      (no_return-append ((t ++ codes ">") ++ v) (codes "</")
      (no_return-append (t ++ codes ">") v (no_return-append t (codes ">") (tag_plain name attrs ok.0 ok.1) refl) (all_printed_plain (node_then n ns) ok.2)) refl)
      (name_plain ok.0)) refl

  pub all_printed_plain : (ns : Nodes) → ArePrintable ns → no_return (printed_all ns) ≡ true
  all_printed_plain no_nodes ok = refl
  all_printed_plain (node_then n ns) ok = no_return-append (printed n) (printed_all ns) (printed_plain n ok.0) (all_printed_plain ns ok.1)

-- a printed document spells itself
pub printed_spells : (n : Node) → IsPrintable n → is_document n ≡ true → Spells Kind.document (printed n) (n ∷ [])
printed_spells n ok h = (n, refl, subst (λ z. Document z n) (sym (lines-plain (printed n) (printed_plain n ok))) (document_printed n ok h))
