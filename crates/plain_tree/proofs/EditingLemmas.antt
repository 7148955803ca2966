-- Which places name elements, and what an edit at a place makes of an element's children.
use Rattle.std.proofs.Common.{◌≡◌, ℕ, zero, suc, ◌+◌, ◌<◌, Bool, true, false, ◌&&◌, List, [], ◌∷◌, length, take, drop, get_or, refl, sym, ap, ◌∙◌, arith, drop-cons}
use Rattle.std.proofs.lemmas.List.{take_more, take_all}
use Rattle.std.proofs.lemmas.Bool.{and_parts}
use Rattle.ft_base.specs.Lists.{is_not_empty}
use Rattle.plain_tree.specs.Document.{Node, element, text, Nodes}
use Rattle.plain_tree.specs.Edits.{only, append, joined, at_child, at_place, holds_of_child, names_element, names_inner, inserted, may_insert}
use Rattle.plain_tree.specs.View.{node}
use Rattle.plain_tree.specs.declared.tree.Attr.{Attr}
use Rattle.plain_tree.specs.declared.tree.Tree.{Tree}
use Rattle.plain_tree.specs.declared.tree.Tree.TheVariants.{Text}
use Rattle.plain_tree.specs.declared.change.Change.{Change}
use Rattle.plain_tree.specs.declared.change.Change.TheVariants as C
use Rattle.plain_tree.specs.declared.change.End.{End}
use Rattle.plain_tree.specs.declared.change.Side.{Side}
use Rattle.plain_tree.specs.declared.place.How.{How}
use Rattle.plain_tree.specs.declared.place.How.TheVariants as H
use Rattle.plain_tree.specs.steps.Changes.{changed, may_change, insertion_of}
use Rattle.plain_tree.proofs.JoiningLemmas.{append_none, append_append}
use Rattle.plain_tree.proofs.RangesJoined.{child_split}
use Rattle.plain_tree.proofs.TreesJoined.{row, row_append}

-- ---- places

pub text_named : (place bytes : List ℕ) → names_element place (text bytes) ≡ false
text_named [] bytes = refl
text_named (k ∷ place) bytes = refl

inner : (place : List ℕ) (n : Node) → names_inner place n ≡ true → names_element place n ≡ true
inner place n h = (and_parts (is_not_empty place) (names_element place n) h).1

pub no_change_of_text : (change : Change) (place bytes : List ℕ) → may_change change place (text bytes) ≡ true → ⊥
no_change_of_text (C.Into end) place bytes h = let none = text_named place bytes in cc
no_change_of_text (C.Beside side) place bytes h = let none = text_named place bytes in let some = inner place (text bytes) h in cc

-- names and attributes of the node have no part in it
names_any : (place name name' : List ℕ) (attrs attrs' : List Attr) (ns : Nodes) → names_element place (element name attrs ns) ≡ names_element place (element name' attrs' ns)
names_any [] name name' attrs attrs' ns = refl
names_any (k ∷ place) name name' attrs attrs' ns = refl

pub change_any : (change : Change) (place name name' : List ℕ) (attrs attrs' : List Attr) (ns : Nodes)
    → may_change change place (element name attrs ns) ≡ may_change change place (element name' attrs' ns)
change_any (C.Into end) place name name' attrs attrs' ns = names_any place name name' attrs attrs' ns
change_any (C.Beside side) place name name' attrs attrs' ns = ap (λ b. is_not_empty place && b) (names_any place name name' attrs attrs' ns)

pub holds_at : (test : Node → Bool) (ts : List Tree) (i : ℕ) (t : Tree) → i < length ts → t ≡ get_or ts i t → holds_of_child test (suc i) (row ts) ≡ test (node t)
holds_at test [] i t within is = absurd (omega arith)
holds_at test (u ∷ ts) zero t within is = ap (λ v. test (node v)) (sym is)
holds_at test (u ∷ ts) (suc i) t within is = holds_at test ts i t (omega arith) is

pub none_at_zero : (test : Node → Bool) (ts : List Tree) (number : ℕ) → number ≡ 0 → holds_of_child test number (row ts) ≡ false
none_at_zero test [] zero h = refl
none_at_zero test (t ∷ ts) zero h = refl
none_at_zero test ts (suc k) h = absurd (omega (arith, h))

pub none_past : (test : Node → Bool) (ts : List Tree) (number : ℕ) → length ts < number → holds_of_child test number (row ts) ≡ false
none_past test ts zero h = absurd (omega (arith, h))
none_past test [] (suc k) h = refl
none_past test (t ∷ ts) (suc zero) h = absurd (omega (arith, h))
none_past test (t ∷ ts) (suc (suc k)) h = none_past test ts (suc k) (omega (arith, h))

module _ (name : List ℕ) (attrs : List Attr) (ns : Nodes) where
  pub names_there : (place : List ℕ) → 0 < length place → names_element place (element name attrs ns) ≡ holds_of_child (names_element (drop 1 place)) (get_or place 0 0) ns
  names_there [] h = absurd (omega (arith, h))
  names_there (k ∷ place) h = refl

  pub inner_there : (place : List ℕ) → names_inner place (element name attrs ns) ≡ true → holds_of_child (names_element (drop 1 place)) (get_or place 0 0) ns ≡ true
  inner_there [] h = cc
  inner_there (k ∷ place) h = h

  pub inner_some : (place : List ℕ) → names_inner place (element name attrs ns) ≡ true → 0 < length place
  inner_some [] h = cc
  inner_some (k ∷ place) h = omega arith

  pub inner_below : (place : List ℕ) → names_inner place (element name attrs ns) ≡ true → (length place ≡ 1 → ⊥) → holds_of_child (names_inner (drop 1 place)) (get_or place 0 0) ns ≡ true
  inner_below [] h long = cc
  inner_below (k ∷ []) h long = absurd (long refl)
  inner_below (k ∷ j ∷ place) h long = h

  pub place_here : (change : Node → Nodes) (place : List ℕ) → length place ≡ 0 → at_place change place (element name attrs ns) ≡ change (element name attrs ns)
  place_here change [] h = refl
  place_here change (k ∷ place) h = absurd (omega (arith, h))

  pub place_below : (change : Node → Nodes) (place : List ℕ) → 0 < length place
      → at_place change place (element name attrs ns) ≡ only (element name attrs (at_child (at_place change (drop 1 place)) (get_or place 0 0) ns))
  place_below change [] h = absurd (omega (arith, h))
  place_below change (k ∷ place) h = refl

-- ---- the change below a child

pub into_below : (change : Change) (end : End) (place : List ℕ) (ns : Nodes) → change ≡ C.Into end → 0 < length place → may_change change place (element [] [] ns) ≡ true
    → holds_of_child (names_element (drop 1 place)) (get_or place 0 0) ns ≡ true
into_below change end place ns is some h = sym (names_there [] [] ns place some) ∙ ap (λ ch. may_change ch place (element [] [] ns)) (sym is) ∙ h

pub beside_allowed : (change : Change) (side : Side) (place : List ℕ) (ns : Nodes) → change ≡ C.Beside side → may_change change place (element [] [] ns) ≡ true
    → names_inner place (element [] [] ns) ≡ true
beside_allowed change side place ns is h = ap (λ ch. may_change ch place (element [] [] ns)) (sym is) ∙ h

pub beside_below : (change : Change) (side : Side) (place : List ℕ) (ns : Nodes) → change ≡ C.Beside side → (length place ≡ 1 → ⊥) → may_change change place (element [] [] ns) ≡ true
    → holds_of_child (names_inner (drop 1 place)) (get_or place 0 0) ns ≡ true
beside_below change side place ns is long h = inner_below [] [] ns place (beside_allowed change side place ns is h) long

-- ---- insertions

pub insertion_allowed : (how : How) (place : List ℕ) (root : Node) → may_change (insertion_of how) place root ≡ may_insert how place root
insertion_allowed H.First place root = refl
insertion_allowed H.Last place root = refl
insertion_allowed H.Before place root = refl
insertion_allowed H.After place root = refl

pub insertion_changed : (how : How) (content : Nodes) (place : List ℕ) (root : Node) → at_place (changed (insertion_of how) content) place root ≡ at_place (inserted how content) place root
insertion_changed H.First content place root = refl
insertion_changed H.Last content place root = refl
insertion_changed H.Before content place root = refl
insertion_changed H.After content place root = refl

-- ---- ranges

drop_all : (us : List Tree) → drop (length us) us ≡ []
drop_all [] = refl
drop_all (u ∷ us) = drop_all us

module _ (ts content new : List Tree) where
  pub into_last : row new ≡ joined (append (row (take (length ts) ts)) (append (row content) (row (drop (length ts) ts)))) → row new ≡ joined (append (row ts) (row content))
  into_last is =
      is ∙ ap (λ z. joined (append (row z) (append (row content) (row (drop (length ts) ts))))) (take_all (length ts) ts (omega arith))
      ∙ ap (λ z. joined (append (row ts) z)) (ap (λ z. append (row content) (row z)) (drop_all ts) ∙ append_none (row content))

  module _ (i : ℕ) (within : i < length ts) where
    pub before_child : row new ≡ joined (append (row (take i ts)) (append (row content) (row (drop i ts)))) → row new ≡ joined (at_child (inserted H.Before (row content)) (suc i) (row ts))
    before_child is =
        let d = Text [] in
        is
        ∙ ap (λ z. joined (append (row (take i ts)) (append (row content) (row z)))) (drop-cons ts i d within)
        ∙ ap (λ z. joined (append (row (take i ts)) z)) (sym (append_append (row content) (only (node (get_or ts i d))) (row (drop (suc i) ts))))
        ∙ ap joined (sym (child_split (inserted H.Before (row content)) ts i d within))

    pub after_child : row new ≡ joined (append (row (take (suc i) ts)) (append (row content) (row (drop (suc i) ts)))) → row new ≡ joined (at_child (inserted H.After (row content)) (suc i) (row ts))
    after_child is =
        let d = Text [] in
        let more : suc i ≡ i + 1 = omega arith in
        let prefix : row (take (suc i) ts) ≡ append (row (take i ts)) (only (node (get_or ts i d))) =
        ap (λ k. row (take k ts)) more ∙ ap row (take_more ts i d within) ∙ row_append (take i ts) (get_or ts i d ∷ []) in
        is
        ∙ ap (λ z. joined (append z (append (row content) (row (drop (suc i) ts))))) prefix
        ∙ ap joined (append_append (row (take i ts)) (only (node (get_or ts i d))) (append (row content) (row (drop (suc i) ts))))
        ∙ ap joined (sym (child_split (inserted H.After (row content)) ts i d within))

    pub instead_of_child : row new ≡ joined (append (row (take i ts)) (append (row content) (row (drop (suc i) ts)))) → row new ≡ joined (at_child (λ n. row content) (suc i) (row ts))
    instead_of_child is = is ∙ ap joined (sym (child_split (λ n. row content) ts i (Text []) within))
