-- Joining texts, for the program's lists of trees.
use Rattle.std.proofs.Common.{◌≡◌, ℕ, true, List, [], ◌∷◌, ◌++◌, map, length, refl, sym, ap, ◌∙◌}
use Rattle.std.proofs.lemmas.List.{map-append}
use Rattle.plain_tree.specs.Document.{element, text, Nodes, nodes, are_joined}
use Rattle.plain_tree.specs.Edits.{only, append, joined}
use Rattle.plain_tree.specs.View.{node}
use Rattle.plain_tree.specs.declared.tree.Attr.{Attr}
use Rattle.plain_tree.specs.declared.tree.Tree.{Tree}
use Rattle.plain_tree.specs.declared.tree.Tree.TheVariants.{Elem, Text}
use Rattle.plain_tree.proofs.JoiningLemmas.{append_none, append_append, nodes_append, joined_same, joined_prefix, nothing_after, text_following_text, text_following_element, element_following}
use Rattle.plain_tree.proofs.Views.{node_elem, node_text}

abbrev pub row : List Tree → Nodes
row trees = nodes (map node trees)

pub row_append : (ts us : List Tree) → row (ts ++ us) ≡ append (row ts) (row us)
row_append ts us = ap nodes (map-append node ts us) ∙ nodes_append (map node ts) (map node us)

pub row_text : (ts : List Tree) (bytes : List ℕ) → row (ts ++ Text bytes ∷ []) ≡ append (row ts) (only (text bytes))
row_text ts bytes = row_append ts (Text bytes ∷ []) ∙ ap (λ n. append (row ts) (only n)) (node_text bytes)

pub row_elem : (ts : List Tree) (name : List ℕ) (attrs : List Attr) (kids : List Tree) → row (ts ++ Elem name attrs kids ∷ []) ≡ append (row ts) (only (element name attrs (row kids)))
row_elem ts name attrs kids = row_append ts (Elem name attrs kids ∷ []) ∙ ap (λ n. append (row ts) (only n)) (node_elem name attrs kids)

-- ---- a text after trees

pub text_after_text : (old before : List Tree) (bytes more : List ℕ) → are_joined (row old) ≡ true → old ≡ before ++ Text bytes ∷ [] → (length more ≡ 0 → ⊥)
    → row (before ++ Text (bytes ++ more) ∷ []) ≡ joined (append (row old) (only (text more)))
text_after_text old before bytes [] h is some = absurd (some refl)
text_after_text old before bytes (c ∷ more) h is some =
    let same = ap row is ∙ row_text before bytes in
    row_text before (bytes ++ c ∷ more)
    ∙ text_following_text (row before) bytes c more (ap are_joined (sym same) ∙ h)
    ∙ ap (λ ns. joined (append ns (only (text (c ∷ more))))) (sym same)

pub text_after_element : (old before : List Tree) (name : List ℕ) (attrs : List Attr) (kids : List Tree) (more : List ℕ)
    → are_joined (row old) ≡ true → old ≡ before ++ Elem name attrs kids ∷ [] → (length more ≡ 0 → ⊥)
    → row ((before ++ Elem name attrs kids ∷ []) ++ Text more ∷ []) ≡ joined (append (row old) (only (text more)))
text_after_element old before name attrs kids [] h is some = absurd (some refl)
text_after_element old before name attrs kids (c ∷ more) h is some =
    let same = ap row is ∙ row_elem before name attrs kids in
    row_text (before ++ Elem name attrs kids ∷ []) (c ∷ more)
    ∙ ap (λ ns. append ns (only (text (c ∷ more)))) (row_elem before name attrs kids)
    ∙ text_following_element (row before) name attrs (row kids) c more (ap are_joined (sym same) ∙ h)
    ∙ ap (λ ns. joined (append ns (only (text (c ∷ more))))) (sym same)

first_text : (bytes : List ℕ) → (length bytes ≡ 0 → ⊥) → row (Text bytes ∷ []) ≡ joined (only (text bytes))
first_text [] some = absurd (some refl)
first_text (c ∷ bytes) some = ap only (node_text (c ∷ bytes))

pub text_alone : (old before : List Tree) (more : List ℕ) → old ≡ before ++ [] → length old ≡ 0 → (length more ≡ 0 → ⊥)
    → row (before ++ Text more ∷ []) ≡ joined (append (row old) (only (text more)))
text_alone [] [] more is none some = first_text more some
text_alone [] (t ∷ before) more is none some = cc
text_alone (o ∷ old) before more is none some = cc

pub no_text_after : (old : List Tree) (more : List ℕ) → are_joined (row old) ≡ true → length more ≡ 0 → row old ≡ joined (append (row old) (only (text more)))
no_text_after old [] h none = nothing_after (row old) h
no_text_after old (c ∷ more) h none = cc

-- ---- an element after trees

pub element_after : (old : List Tree) (name : List ℕ) (attrs : List Attr) (kids made : List Tree) → are_joined (row old) ≡ true → row made ≡ joined (row kids)
    → row (old ++ Elem name attrs made ∷ []) ≡ joined (append (row old) (only (node (Elem name attrs kids))))
element_after old name attrs kids made h is =
    row_elem old name attrs made
    ∙ ap (λ ns. append (row old) (only (element name attrs ns))) is
    ∙ element_following (row old) name attrs (row kids) h
    ∙ ap (λ n. joined (append (row old) (only n))) (sym (node_elem name attrs kids))

-- ---- one tree more

pub none_more : (old : List Tree) → are_joined (row old) ≡ true → row old ≡ joined (append (row old) (row []))
none_more old h = sym (ap joined (append_none (row old)) ∙ joined_same (row old) h)

pub one_more : (old now done : List Tree) (t : Tree) (new : List Tree) → row now ≡ joined (append (row old) (row done)) → row new ≡ joined (append (row now) (only (node t)))
    → row new ≡ joined (append (row old) (row (done ++ t ∷ [])))
one_more old now done t new before is =
    is ∙ ap (λ ns. joined (append ns (only (node t)))) before
    ∙ joined_prefix (append (row old) (row done)) (only (node t))
    ∙ ap joined (append_append (row old) (row done) (only (node t)))
    ∙ ap (λ ns. joined (append (row old) ns)) (sym (row_append done (t ∷ [])))

-- three lists, each joined to those before it
pub three_joined : (prefix content back none first second third prefix_copy back_copy : List Tree) → none ≡ [] → map node prefix_copy ≡ map node prefix → map node back_copy ≡ map node back
    → row first ≡ joined (append (row none) (row prefix_copy)) → row second ≡ joined (append (row first) (row content)) → row third ≡ joined (append (row second) (row back_copy))
    → row third ≡ joined (append (row prefix) (append (row content) (row back)))
three_joined prefix content back none first second third prefix_copy back_copy none_is prefix_is back_is first_is second_is third_is =
    let one : row first ≡ joined (row prefix) = first_is ∙ ap (λ z. joined (append (row z) (row prefix_copy))) none_is ∙ ap (λ m. joined (nodes m)) prefix_is in
    let two : row second ≡ joined (append (row prefix) (row content)) = second_is ∙ ap (λ z. joined (append z (row content))) one ∙ joined_prefix (row prefix) (row content) in
    third_is ∙ ap (λ z. joined (append z (row back_copy))) two
    ∙ joined_prefix (append (row prefix) (row content)) (row back_copy)
    ∙ ap joined (append_append (row prefix) (row content) (row back_copy))
    ∙ ap (λ m. joined (append (row prefix) (append (row content) (nodes m)))) back_is
