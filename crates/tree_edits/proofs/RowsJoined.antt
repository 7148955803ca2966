-- Joining texts, for the program's lists of trees with references.
use Rattle.std.proofs.Common.{◌≡◌, ℕ, true, List, [], ◌∷◌, ◌++◌, map, length, refl, sym, ap, ◌∙◌}
use Rattle.std.proofs.lemmas.List.{map-append}
use Rattle.ft_base.specs.declared.ids.NodeRef.{NodeRef}
use Rattle.ordered_tree.specs.Numbered.{Numbered, element_at, text_at, Children, no_children, child_then, plain_children}
use Rattle.ordered_tree.specs.RefView.{ref_node, ref_nodes}
use Rattle.ordered_tree.specs.declared.ref_tree.RefTree.{RefTree}
use Rattle.ordered_tree.specs.declared.ref_tree.RefTree.TheVariants.{Element, Text}
use Rattle.ordered_tree.proofs.RefViews.{ref_node_element, ref_node_text}
use Rattle.plain_tree.specs.Document.{text, are_joined, is_joined}
use Rattle.plain_tree.specs.Edits as plain_edit
use Rattle.plain_tree.specs.declared.tree.Attr.{Attr}
use Rattle.plain_tree.proofs.JoiningLemmas.{prefix, rest_joined}
use Rattle.tree_edits.specs.Edits.{only, append, joined}
use Rattle.tree_edits.proofs.JoiningLemmas.{are_joined_at, joined_same, joined_prefix, joined-are_joined, nothing_after, text_following_text, text_following_element, element_following}
use Rattle.tree_edits.proofs.PlainLemmas.{append_append, append_none, plain-append}

abbrev pub row : List RefTree → Children
row trees = ref_nodes (map ref_node trees)

ref_nodes_append : (xs ys : List Numbered) → ref_nodes (xs ++ ys) ≡ append (ref_nodes xs) (ref_nodes ys)
ref_nodes_append [] ys = refl
ref_nodes_append (n ∷ xs) ys = ap (child_then n) (ref_nodes_append xs ys)

pub row_append : (ts us : List RefTree) → row (ts ++ us) ≡ append (row ts) (row us)
row_append ts us = ap ref_nodes (map-append ref_node ts us) ∙ ref_nodes_append (map ref_node ts) (map ref_node us)

pub row_text : (ts : List RefTree) (r : NodeRef) (bytes : List ℕ) → row (ts ++ Text r bytes ∷ []) ≡ append (row ts) (only (text_at r bytes))
row_text ts r bytes = row_append ts (Text r bytes ∷ []) ∙ ap (λ n. append (row ts) (only n)) (ref_node_text r bytes)

pub row_element : (ts : List RefTree) (r : NodeRef) (name : List ℕ) (attrs : List Attr) (kids : List RefTree) → row (ts ++ Element r name attrs kids ∷ []) ≡ append (row ts) (only (element_at r name attrs (row kids)))
row_element ts r name attrs kids = row_append ts (Element r name attrs kids ∷ []) ∙ ap (λ n. append (row ts) (only n)) (ref_node_element r name attrs kids)

-- ---- a text after trees

-- the last text of joined nodes isn't empty
last_text : (ys : Children) (r : NodeRef) (bytes : List ℕ) → are_joined_at (append ys (only (text_at r bytes))) ≡ true → is_joined (text bytes) ≡ true
last_text ys r bytes h =
    let plainly : are_joined (plain_edit.append (plain_children ys) (plain_edit.only (text bytes))) ≡ true = ap are_joined (sym (plain-append ys (only (text_at r bytes)))) ∙ h in
    (prefix (text bytes) (plain_children no_children) (rest_joined (plain_children ys) (plain_edit.only (text bytes)) plainly)).own

pub text_after_text : (old before : List RefTree) (r q : NodeRef) (bytes more : List ℕ) → are_joined_at (row old) ≡ true → old ≡ before ++ Text r bytes ∷ [] → (length more ≡ 0 → ⊥)
    → row (before ++ Text r (bytes ++ more) ∷ []) ≡ joined (append (row old) (only (text_at q more)))
text_after_text old before r q bytes [] h is some = absurd (some refl)
text_after_text old before r q bytes (c ∷ more) h is some =
    let same = ap row is ∙ row_text before r bytes in
    let whole : are_joined_at (append (row before) (only (text_at r bytes))) ≡ true = ap are_joined_at (sym same) ∙ h in
    row_text before r (bytes ++ c ∷ more)
    ∙ text_following_text (row before) r q bytes c more whole (last_text (row before) r bytes whole)
    ∙ ap (λ ns. joined (append ns (only (text_at q (c ∷ more))))) (sym same)

pub text_after_element : (old before : List RefTree) (r q : NodeRef) (name : List ℕ) (attrs : List Attr) (kids : List RefTree) (more : List ℕ)
    → are_joined_at (row old) ≡ true → old ≡ before ++ Element r name attrs kids ∷ [] → (length more ≡ 0 → ⊥)
    → row ((before ++ Element r name attrs kids ∷ []) ++ Text q more ∷ []) ≡ joined (append (row old) (only (text_at q more)))
text_after_element old before r q name attrs kids [] h is some = absurd (some refl)
text_after_element old before r q name attrs kids (c ∷ more) h is some =
    let same = ap row is ∙ row_element before r name attrs kids in
    row_text (before ++ Element r name attrs kids ∷ []) q (c ∷ more)
    ∙ ap (λ ns. append ns (only (text_at q (c ∷ more)))) (row_element before r name attrs kids)
    ∙ text_following_element (row before) r q name attrs (row kids) c more (ap are_joined_at (sym same) ∙ h)
    ∙ ap (λ ns. joined (append ns (only (text_at q (c ∷ more))))) (sym same)

first_text : (q : NodeRef) (bytes : List ℕ) → (length bytes ≡ 0 → ⊥) → row (Text q bytes ∷ []) ≡ joined (only (text_at q bytes))
first_text q [] some = absurd (some refl)
first_text q (c ∷ bytes) some = ap only (ref_node_text q (c ∷ bytes))

pub text_alone : (old before : List RefTree) (q : NodeRef) (more : List ℕ) → old ≡ before ++ [] → length old ≡ 0 → (length more ≡ 0 → ⊥)
    → row (before ++ Text q more ∷ []) ≡ joined (append (row old) (only (text_at q more)))
text_alone [] [] q more is none some = first_text q more some
text_alone [] (t ∷ before) q more is none some = cc
text_alone (o ∷ old) before q more is none some = cc

pub no_text_after : (old : List RefTree) (q : NodeRef) (more : List ℕ) → are_joined_at (row old) ≡ true → length more ≡ 0 → row old ≡ joined (append (row old) (only (text_at q more)))
no_text_after old q [] h none = nothing_after (row old) q h
no_text_after old q (c ∷ more) h none = cc

-- ---- an element after trees

pub element_after : (old : List RefTree) (r : NodeRef) (name : List ℕ) (attrs : List Attr) (kids : Children) (made : List RefTree) → are_joined_at (row old) ≡ true → row made ≡ joined kids
    → row (old ++ Element r name attrs made ∷ []) ≡ joined (append (row old) (only (element_at r name attrs kids)))
element_after old r name attrs kids made h is =
    row_element old r name attrs made
    ∙ ap (λ ns. append (row old) (only (element_at r name attrs ns))) is
    ∙ element_following (row old) r name attrs kids h

-- ---- one step more

pub none_more : (old : List RefTree) → are_joined_at (row old) ≡ true → row old ≡ joined (append (row old) no_children)
none_more old h = sym (ap joined (append_none (row old)) ∙ joined_same (row old) h)

-- nodes joined after nodes that were joined after others
pub one_more : (old now new done more : Children) → now ≡ joined (append old done) → new ≡ joined (append now more) → new ≡ joined (append old (append done more))
one_more old now new done more before is =
    is ∙ ap (λ ns. joined (append ns more)) before ∙ joined_prefix (append old done) more ∙ ap joined (append_append old done more)

pub still_joined : (old now done : Children) → now ≡ joined (append old done) → are_joined_at now ≡ true
still_joined old now done is = ap are_joined_at is ∙ joined-are_joined (append old done)

pub ruleset ref_views = (ref_node_element, ref_node_text)
