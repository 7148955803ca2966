-- What the grammar spells can be printed: its names are names, its texts and values are made of characters that may stand in a document.
use Rattle.std.proofs.Common.{◌≡◌, ℕ, Bool, true, false, cond, List, [], ◌∷◌, ◌++◌, refl, sym, ◌∙◌, ap, subst, append_assoc, arith}
use Rattle.std.proofs.lemmas.List.{append-nil}
use Rattle.std.proofs.lemmas.Bool.Decides.{nat_tests}
use Rattle.std.proofs.lemmas.Str.{chars-encodes}
use Rattle.std.proofs.Math.Utf8.{scalar, scalars}
use Rattle.std.specs.Prelude.{encode_utf8, encode_utf8_all}
use Rattle.std.specs.List.{list_all}
use Rattle.std.specs.Str.{chars}
use Rattle.std.proofs.lemmas.Bool.{and_parts, and_from}
use Rattle.plain_tree.specs.Document.{Node, nodes}
use Rattle.plain_tree.specs.declared.tree.Attr.{Attr}
use Rattle.ft_base.specs.Characters.{is_char, is_space, is_name_start, is_name_char}
use Rattle.ft_base.proofs.WalkLemmas.{encodes-last}
use Rattle.doc_grammar.specs.Grammar.{text_node, has_name, in_value, Name, Reference, Value, Attribute, Tag, Element, Content, Document, Fragment}
use Rattle.doc_grammar.specs.Printed.{IsName, AreChars, AreAttributes, IsPrintable, ArePrintable}
use Rattle.doc_grammar.specs.Texts.{Kind, Spells}
use Rattle.doc_grammar.proofs.CompletedTags.{name_bytes}

char_scalar : (c : ℕ) → is_char c ≡ true → scalar c ≡ true
unfolding is_char
char_scalar c h = grind (arith, nat_tests)

start_scalar : (c : ℕ) → is_name_start c ≡ true → scalar c ≡ true
unfolding is_name_start
start_scalar c h = grind (arith, nat_tests)

name_scalar : (c : ℕ) → is_name_char c ≡ true → scalar c ≡ true
unfolding is_name_char is_name_start
name_scalar c h = grind (arith, nat_tests)

-- bytes that spell such characters
record Chars (bytes : List ℕ) : Type 0 where
  pub cs : List ℕ
  pub spelled : encode_utf8_all cs ≡ bytes
  pub all : list_all is_char cs ≡ true

scalars_by : (p : ℕ → Bool) → ((c : ℕ) → p c ≡ true → scalar c ≡ true) → (cs : List ℕ) → list_all p cs ≡ true → scalars cs ≡ true
scalars_by p each [] h = refl
scalars_by p each (c ∷ cs) h = let two = and_parts _ _ h in and_from _ _ (each c two.0) (scalars_by p each cs two.1)

are_chars : {bytes : List ℕ} → Chars bytes → AreChars bytes
are_chars {bytes = bytes} x =
    let ok = scalars_by is_char char_scalar x.cs x.all in
    let same : x.cs ≡ chars bytes = sym (chars-encodes x.cs ok) ∙ ap chars x.spelled in
    ((x.cs, (ok, x.spelled)), subst (λ z. list_all is_char z ≡ true) same x.all)

no_chars : Chars []
no_chars = record { cs = []; spelled = refl; all = refl }

all_after : (p : ℕ → Bool) (cs : List ℕ) (c : ℕ) → list_all p cs ≡ true → p c ≡ true → list_all p (cs ++ c ∷ []) ≡ true
all_after p [] c h k = and_from _ _ k refl
all_after p (d ∷ cs) c h k = let two = and_parts _ _ h in and_from _ _ two.0 (all_after p cs c two.1 k)

one_more : {bytes : List ℕ} → Chars bytes → (c : ℕ) → is_char c ≡ true → Chars (bytes ++ encode_utf8 c)
one_more x c h = record { cs = x.cs ++ c ∷ []; spelled = encodes-last x.cs c ∙ ap (λ z. z ++ encode_utf8 c) x.spelled; all = all_after is_char x.cs c x.all h }

-- names
name_all : {u bytes : List ℕ} → Name u bytes → scalars u ≡ true
name_all (Name.first c h) = and_from _ _ (start_scalar c h) refl
name_all (Name.further {u = u} x c h) = scalars_after u c (name_all x) (name_scalar c h)
  where
    scalars_after : (cs : List ℕ) (c : ℕ) → scalars cs ≡ true → scalar c ≡ true → scalars (cs ++ c ∷ []) ≡ true
    scalars_after [] c h k = and_from _ _ k refl
    scalars_after (d ∷ cs) c h k = let two = and_parts _ _ h in and_from _ _ two.0 (scalars_after cs c two.1 k)

is_name : {u bytes : List ℕ} → Name u bytes → IsName bytes
is_name {u = u} {bytes = bytes} x = subst (λ z. Name z bytes) (sym (chars-encodes u (name_all x)) ∙ ap chars (name_bytes x)) x

-- references, values and attributes
reference_char : {v : List ℕ} {c : ℕ} → Reference v c → is_char c ≡ true
unfolding is_char
reference_char Reference.less = refl
reference_char Reference.greater = refl
reference_char Reference.ampersand = refl
reference_char Reference.quotation = refl
reference_char Reference.apostrophe = refl
reference_char (Reference.decimal x h) = h
reference_char (Reference.hexadecimal x h) = h

value_char : (c : ℕ) → is_char c ≡ true → is_char (in_value c) ≡ true
unfolding is_char
value_char c h = go (is_space c)
  where
    go : (b : Bool) → is_char (cond b 32 c) ≡ true
    go true = refl
    go false = h

value_chars : {q : ℕ} {v bytes : List ℕ} → Value q v bytes → Chars bytes
value_chars Value.nothing = no_chars
value_chars (Value.character x c h a b d) = one_more (value_chars x) (in_value c) (value_char c h)
value_chars (Value.reference {c = c} x r) = one_more (value_chars x) c (reference_char r)

attribute_is : {v : List ℕ} {a : Attr} → Attribute v a → IsName a.name × AreChars a.value
attribute_is (Attribute.attribute n s t q h v) = (is_name n, are_chars (value_chars v))

attribute_after : (before attrs : List Attr) (a : Attr) → AreAttributes before attrs → IsName a.name → AreChars a.value → has_name a.name (before ++ attrs) ≡ false → AreAttributes before (attrs ++ a ∷ [])
attribute_after before [] a ok name value new = (name, value, ap (has_name a.name) (sym (append-nil before)) ∙ new, tt)
attribute_after before (b ∷ attrs) a ok name value new = (ok.0, ok.1, ok.2, attribute_after (before ++ b ∷ []) attrs a ok.3 name value (ap (has_name a.name) (append_assoc before (b ∷ []) attrs) ∙ new))

tag_is : {u name : List ℕ} {attrs : List Attr} → Tag u name attrs → IsName name × AreAttributes [] attrs
tag_is (Tag.named n) = (is_name n, tt)
tag_is (Tag.attribute {attrs = attrs} {a = a} tag s c h x new) =
    let before = tag_is tag in
    let one = attribute_is x in
    (before.0, attribute_after [] attrs a before.1 one.0 one.1 new)

-- content
all_printable : (ks ls : List Node) → ArePrintable (nodes ks) → ArePrintable (nodes ls) → ArePrintable (nodes (ks ++ ls))
all_printable [] ls a b = b
all_printable (k ∷ ks) ls a b = (a.0, all_printable ks ls a.1 b)

text_printable : (bytes : List ℕ) → Chars bytes → ArePrintable (nodes (text_node bytes))
text_printable [] x = tt
text_printable (b ∷ bytes) x = (are_chars x, tt)

mutual
  element_printable : {u : List ℕ} {n : Node} → Element u n → IsPrintable n
  element_printable (Element.empty tag s) = let t = tag_is tag in (t.0, t.1, tt)
  element_printable (Element.whole {bytes = bytes} {kids = kids} tag s content cs e t) =
      let x = tag_is tag in
      let y = content_printable content in
      (x.0, x.1, all_printable kids (text_node bytes) y.0 (text_printable bytes y.1))

  content_printable : {u bytes : List ℕ} {ks : List Node} → Content u ks bytes → ArePrintable (nodes ks) × Chars bytes
  content_printable Content.nothing = (tt, no_chars)
  content_printable (Content.character x c h a b) = let y = content_printable x in (y.0, one_more y.1 c h)
  content_printable (Content.reference {c = c} x r) = let y = content_printable x in (y.0, one_more y.1 c (reference_char r))
  content_printable (Content.skipped x s) = content_printable x
  content_printable (Content.child {bytes = bytes} {kids = kids} {node = n} x e) =
      let y = content_printable x in
      (all_printable (kids ++ text_node bytes) (n ∷ []) (all_printable kids (text_node bytes) y.0 (text_printable bytes y.1)) (element_printable e, tt), no_chars)

document_printable : {w : List ℕ} {n : Node} → Document w n → IsPrintable n
document_printable (Document.document x e y) = element_printable e

fragment_printable : {w : List ℕ} {ks : List Node} → Fragment w ks → ArePrintable (nodes ks)
fragment_printable (Fragment.fragment {bytes = bytes} {kids = kids} x) = let y = content_printable x in all_printable kids (text_node bytes) y.0 (text_printable bytes y.1)

pub document : (text : List ℕ) (tree : Node) → Spells Kind.document text (tree ∷ []) → IsPrintable tree
document text tree (n, e, d) = let same : n ≡ tree = cc in subst IsPrintable same (document_printable d)

pub fragment : (text : List ℕ) (kids : List Node) → Spells Kind.fragment text kids → ArePrintable (nodes kids)
fragment text kids x = fragment_printable x
