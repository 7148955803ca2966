-- Joining texts of nodes with references: what is joined stays as it is, and parts may be joined first.
use Rattle.std.proofs.Common.{◌≡◌, ℕ, Bool, true, ◌&&◌, not, List, [], ◌∷◌, ◌++◌, refl, sym, ap, ◌∙◌}
use Rattle.std.proofs.lemmas.List.{append-nil, append_assoc}
use Rattle.ft_base.specs.declared.ids.NodeRef.{NodeRef}
use Rattle.ordered_tree.specs.Numbered.{Numbered, element_at, text_at, Children, no_children, child_then, plain, plain_children}
use Rattle.plain_tree.specs.Document.{element, text, no_nodes, is_text, is_joined, are_joined, begins_with_text}
use Rattle.plain_tree.specs.Edits as plain_edit
use Rattle.plain_tree.specs.declared.tree.Attr.{Attr}
use Rattle.plain_tree.proofs.JoiningLemmas.{prefix, joined_are, before_text, before_element, after_element, together}
use Rattle.tree_edits.specs.Edits.{only, append, text_then, joined, joined_then}
use Rattle.tree_edits.proofs.PlainLemmas.{append_append, append_none, plain-append, plain-joined}

-- whether texts are joined already
abbrev pub are_joined_at : Children → Bool
are_joined_at ns = are_joined (plain_children ns)

pub joined-are_joined : (ns : Children) → are_joined_at (joined ns) ≡ true
joined-are_joined ns = ap are_joined (plain-joined ns) ∙ joined_are (plain_children ns)

-- ---- a text before

-- a text in two pieces, the first with its reference
two_texts_then : (r q : NodeRef) (c : ℕ) (a b : List ℕ) (ns : Children) → text_then r ((c ∷ a) ++ b) ns ≡ text_then r (c ∷ a) (text_then q b ns)
two_texts_then r q c a [] no_children = ap (λ z. only (text_at r z)) (append-nil (c ∷ a))
two_texts_then r q c a [] (child_then (text_at p more) ns) = ap (λ z. child_then (text_at r (z ++ more)) ns) (append-nil (c ∷ a))
two_texts_then r q c a [] (child_then (element_at p name attrs kids) ns) = ap (λ z. child_then (text_at r z) (child_then (element_at p name attrs kids) ns)) (append-nil (c ∷ a))
two_texts_then r q c a (d ∷ b) no_children = refl
two_texts_then r q c a (d ∷ b) (child_then (text_at p more) ns) = ap (λ z. child_then (text_at r z) ns) (append_assoc (c ∷ a) (d ∷ b) more)
two_texts_then r q c a (d ∷ b) (child_then (element_at p name attrs kids) ns) = refl

-- the text before the joined rest is the joined text before the rest
text_then_append : (r : NodeRef) (bytes : List ℕ) (ns more : Children) → joined (append (text_then r bytes ns) more) ≡ text_then r bytes (joined (append ns more))
text_then_append r [] ns more = refl
text_then_append r (c ∷ bytes) no_children more = refl
text_then_append r (c ∷ bytes) (child_then (text_at q b) ns) more = two_texts_then r q c bytes b (joined (append ns more))
text_then_append r (c ∷ bytes) (child_then (element_at q name attrs kids) ns) more = refl

-- ---- what is joined

alone : (r : NodeRef) (bytes : List ℕ) (ns : Children) → not (begins_with_text no_nodes) ≡ true → is_joined (text bytes) ≡ true → not (begins_with_text (plain_children ns)) ≡ true → text_then r bytes ns ≡ child_then (text_at r bytes) ns
alone r [] ns k h e = cc
alone r (c ∷ bytes) no_children k h e = refl
alone r (c ∷ bytes) (child_then (text_at q b) ns) k h e = cc
alone r (c ∷ bytes) (child_then (element_at q name attrs kids) ns) k h e = refl

mutual
  pub joined_same : (ns : Children) → are_joined_at ns ≡ true → joined ns ≡ ns
  joined_same no_children h = refl
  joined_same (child_then n ns) h =
      let f = prefix (plain n) (plain_children ns) h in
      ap (joined_then n) (joined_same ns f.rest) ∙ joined_then_same n ns f.own f.apart

  joined_then_same : (n : Numbered) (ns : Children) → is_joined (plain n) ≡ true → not (is_text (plain n) && begins_with_text (plain_children ns)) ≡ true → joined_then n ns ≡ child_then n ns
  joined_then_same (element_at r name attrs kids) ns h e = ap (λ k. child_then (element_at r name attrs k) ns) (joined_same kids h)
  joined_then_same (text_at r bytes) ns h e = alone r bytes ns refl h e

-- ---- parts joined first

pub joined_prefix : (ns more : Children) → joined (append (joined ns) more) ≡ joined (append ns more)
joined_prefix no_children more = refl
joined_prefix (child_then (element_at r name attrs kids) ns) more =
    ap (λ k. child_then (element_at r name attrs k) (joined (append (joined ns) more))) (joined_same (joined kids) (joined-are_joined kids))
    ∙ ap (child_then (element_at r name attrs (joined kids))) (joined_prefix ns more)
joined_prefix (child_then (text_at r bytes) ns) more = text_then_append r bytes (joined ns) more ∙ ap (text_then r bytes) (joined_prefix ns more)

pub joined_rest : (ns more : Children) → joined (append ns (joined more)) ≡ joined (append ns more)
joined_rest no_children more = joined_same (joined more) (joined-are_joined more)
joined_rest (child_then n ns) more = ap (joined_then n) (joined_rest ns more)

-- nodes and a joined rest, where the whole is joined
joined_whole : (ns more : Children) → are_joined_at (append ns (joined more)) ≡ true → append ns (joined more) ≡ joined (append ns more)
joined_whole ns more h = sym (joined_same (append ns (joined more)) h) ∙ joined_rest ns more

-- ---- one node more

some_text : (first : List ℕ) (c : ℕ) (more : List ℕ) → are_joined (plain_edit.only (text (first ++ c ∷ more))) ≡ true
some_text [] c more = refl
some_text (d ∷ first) c more = refl

-- two texts, of which the second isn't empty, are one under the first's reference
one_text : (r q : NodeRef) (first : List ℕ) (c : ℕ) (more : List ℕ) → is_joined (text first) ≡ true → joined (child_then (text_at r first) (only (text_at q (c ∷ more)))) ≡ only (text_at r (first ++ c ∷ more))
one_text r q [] c more h = cc
one_text r q (d ∷ first) c more h = refl

pub text_following_text : (ys : Children) (r q : NodeRef) (first : List ℕ) (c : ℕ) (more : List ℕ) → are_joined_at (append ys (only (text_at r first))) ≡ true → is_joined (text first) ≡ true
    → append ys (only (text_at r (first ++ c ∷ more))) ≡ joined (append (append ys (only (text_at r first))) (only (text_at q (c ∷ more))))
text_following_text ys r q first c more h some =
    let is : joined (child_then (text_at r first) (only (text_at q (c ∷ more)))) ≡ only (text_at r (first ++ c ∷ more)) = one_text r q first c more some in
    let plainly : are_joined (plain_edit.append (plain_children ys) (plain_edit.only (text first))) ≡ true = ap are_joined (sym (plain-append ys (only (text_at r first)))) ∙ h in
    let whole : are_joined_at (append ys (only (text_at r (first ++ c ∷ more)))) ≡ true =
    ap are_joined (plain-append ys (only (text_at r (first ++ c ∷ more))))
    ∙ before_text (plain_children ys) no_nodes (plain_edit.only (text (first ++ c ∷ more))) first plainly (some_text first c more) in
    ap (append ys) (sym is)
    ∙ joined_whole ys (child_then (text_at r first) (only (text_at q (c ∷ more)))) (ap (λ ms. are_joined_at (append ys ms)) is ∙ whole)
    ∙ ap joined (sym (append_append ys (only (text_at r first)) (only (text_at q (c ∷ more)))))

pub text_following_element : (ys : Children) (r q : NodeRef) (name : List ℕ) (attrs : List Attr) (kids : Children) (c : ℕ) (more : List ℕ) → are_joined_at (append ys (only (element_at r name attrs kids))) ≡ true
    → append (append ys (only (element_at r name attrs kids))) (only (text_at q (c ∷ more))) ≡ joined (append (append ys (only (element_at r name attrs kids))) (only (text_at q (c ∷ more))))
text_following_element ys r q name attrs kids c more h =
    let plainly : are_joined (plain_edit.append (plain_children ys) (plain_edit.only (element name attrs (plain_children kids)))) ≡ true = ap are_joined (sym (plain-append ys (only (element_at r name attrs kids)))) ∙ h in
    joined_whole (append ys (only (element_at r name attrs kids))) (only (text_at q (c ∷ more)))
    (ap are_joined (plain-append (append ys (only (element_at r name attrs kids))) (only (text_at q (c ∷ more))))
    ∙ ap (λ ms. are_joined (plain_edit.append ms (plain_edit.only (text (c ∷ more))))) (plain-append ys (only (element_at r name attrs kids)))
    ∙ after_element (plain_children ys) (plain_edit.only (text (c ∷ more))) name attrs (plain_children kids) plainly refl)

pub element_following : (ys : Children) (r : NodeRef) (name : List ℕ) (attrs : List Attr) (kids : Children) → are_joined_at ys ≡ true
    → append ys (only (element_at r name attrs (joined kids))) ≡ joined (append ys (only (element_at r name attrs kids)))
element_following ys r name attrs kids h =
    joined_whole ys (only (element_at r name attrs kids))
    (ap are_joined (plain-append ys (only (element_at r name attrs (joined kids))))
    ∙ before_element (plain_children ys) (plain_edit.only (element name attrs (plain_children (joined kids)))) h
    (together (element name attrs (plain_children (joined kids))) no_nodes (record { own = joined-are_joined kids; apart = refl; rest = refl })) refl)

pub nothing_after : (ys : Children) (r : NodeRef) → are_joined_at ys ≡ true → ys ≡ joined (append ys (only (text_at r [])))
nothing_after ys r h = sym (append_none ys) ∙ joined_whole ys (only (text_at r [])) (ap are_joined_at (append_none ys) ∙ h)
