-- Children that make way for others, and a child that is changed: what is joined round them.
use Rattle.std.proofs.Common.{◌≡◌, ℕ, zero, suc, ◌+◌, ◌-◌, ◌<◌, ◌≤◌, Bool, true, false, ◌&&◌, not, List, [], ◌∷◌, ◌++◌, length, take, drop, get_or, set, refl, sym, ap, ◌∙◌, arith, length-drop}
use Rattle.std.proofs.lemmas.List.{append_assoc, take-append-drop, take_more, drop_more}
use Rattle.std.proofs.lemmas.List.Folds.{drop_split}
use Rattle.std.proofs.Math.Seq.{set_split, take-add, take-append-add, take-take, take_at, drop_at}
use Rattle.std.specs.List.{slice_range}
use Rattle.plain_tree.specs.Document.{Node, element, text, Nodes, no_nodes, node_then, is_text, is_joined, are_joined, begins_with_text}
use Rattle.plain_tree.specs.Edits.{only, append, joined, at_child, holds_of_child}
use Rattle.plain_tree.specs.View.{node}
use Rattle.plain_tree.specs.declared.tree.Attr.{Attr}
use Rattle.plain_tree.specs.declared.tree.Tree.{Tree}
use Rattle.plain_tree.specs.declared.tree.Tree.TheVariants.{Elem, Text}
use Rattle.plain_tree.proofs.JoiningLemmas.{append_append, joined_are, joined_same, joined_prefix, joined_rest, after_element, before_text, before_element, prefix_joined, rest_joined, no_text_next, prefix, together}
use Rattle.plain_tree.proofs.TreesJoined.{row, row_append}
use Rattle.plain_tree.proofs.Views.{node_elem, node_text}

-- ---- a row in parts

row_parts : (i : ℕ) (ts : List Tree) → row ts ≡ append (row (take i ts)) (row (drop i ts))
row_parts i ts = ap row (sym (take-append-drop i ts)) ∙ row_append (take i ts) (drop i ts)

row_split : (ts : List Tree) (i : ℕ) (t : Tree) → i < length ts → t ≡ get_or ts i t → row ts ≡ append (row (take i ts)) (node_then (node t) (row (drop (i + 1) ts)))
row_split ts i t h is =
    row_parts i ts ∙ ap (λ z. append (row (take i ts)) (row z)) (drop_more ts i t h)
    ∙ ap (λ u. append (row (take i ts)) (node_then (node u) (row (drop (i + 1) ts)))) (sym is)

-- ---- where a range may begin and end

module _ (ts : List Tree) (joined_all : are_joined (row ts) ≡ true) (i : ℕ) (t : Tree) (h : i < length ts) (is : t ≡ get_or ts i t) where
  split_text : (bytes : List ℕ) → t ≡ Text bytes → are_joined (append (row (take i ts)) (node_then (text bytes) (row (drop (i + 1) ts)))) ≡ true
  split_text bytes text_is =
      ap are_joined (sym (row_split ts i t h is ∙ ap (λ n. append (row (take i ts)) (node_then n (row (drop (i + 1) ts)))) (ap node text_is ∙ node_text bytes)))
      ∙ joined_all

  pub prefix_of_text : (bytes : List ℕ) → t ≡ Text bytes → (ns : Nodes) → are_joined ns ≡ true → are_joined (append (row (take i ts)) ns) ≡ true
  prefix_of_text bytes text_is ns z = before_text (row (take i ts)) (row (drop (i + 1) ts)) ns bytes (split_text bytes text_is) z

  pub after_a_text : (bytes : List ℕ) → t ≡ Text bytes → begins_with_text (row (drop (i + 1) ts)) ≡ false
  after_a_text bytes text_is =
      no_text_next bytes (row (drop (i + 1) ts)) (rest_joined (row (take i ts)) (node_then (text bytes) (row (drop (i + 1) ts))) (split_text bytes text_is))

  pub after_an_element : (name : List ℕ) (attrs : List Attr) (kids : List Tree) → t ≡ Elem name attrs kids
      → (ns : Nodes) → are_joined ns ≡ true → are_joined (append (row (take (i + 1) ts)) ns) ≡ true
  after_an_element name attrs kids elem_is ns z =
      let e : row (take (i + 1) ts) ≡ append (row (take i ts)) (only (element name attrs (row kids))) =
      ap row (take_more ts i t h) ∙ row_append (take i ts) (get_or ts i t ∷ [])
      ∙ ap (λ u. append (row (take i ts)) (only (node u))) (sym is ∙ elem_is)
      ∙ ap (λ n. append (row (take i ts)) (only n)) (node_elem name attrs kids) in
      ap (λ y. are_joined (append y ns)) e
      ∙ after_element (row (take i ts)) ns name attrs (row kids)
      (ap are_joined (sym e) ∙ prefix_joined (row (take (i + 1) ts)) (row (drop (i + 1) ts)) (ap are_joined (sym (row_parts (i + 1) ts)) ∙ joined_all)) z

  pub prefix_of_element : (name : List ℕ) (attrs : List Attr) (kids : List Tree) → t ≡ Elem name attrs kids → begins_with_text (row (drop i ts)) ≡ false
  prefix_of_element name attrs kids elem_is =
      ap (λ z. begins_with_text (row z)) (drop_more ts i t h) ∙ ap (λ u. is_text (node u)) (sym is ∙ elem_is) ∙ ap is_text (node_elem name attrs kids)

-- ---- what is left when a range makes way

pub moved : (ts between : List Tree) (first last n b : ℕ) (turned cut grown new : List Tree) → first ≤ last → last ≤ length ts
    → turned ≡ drop last ts ++ take last ts → n ≡ (length ts - last) + first → cut ≡ take n turned → grown ≡ cut ++ between → b ≡ length ts - last
    → new ≡ drop b grown ++ take b grown → new ≡ take first ts ++ (between ++ drop last ts)
moved ts between first last n b turned cut grown new order within is_turned is_n is_cut is_grown is_b is_new =
    let back = drop last ts in
    let long : length back ≡ length ts - last = length-drop last ts in
    let n_is : n ≡ length back + first = omega (arith, is_n, long) in
    let b_is : length back ≡ b = omega (arith, is_b, long) in
    let cut_is : cut ≡ back ++ take first ts =
    is_cut ∙ ap (take n) is_turned ∙ ap (λ k. take k (back ++ take last ts)) n_is ∙ take-append-add back (take last ts) first
    ∙ ap (λ z. back ++ z) (take-take first last ts order) in
    let grown_is : grown ≡ back ++ (take first ts ++ between) = is_grown ∙ ap (λ z. z ++ between) cut_is ∙ append_assoc back (take first ts) between in
    is_new
    ∙ ap (λ z. drop b z ++ take b z) grown_is
    ∙ ap (λ z. z ++ take b (back ++ (take first ts ++ between))) (drop_at back (take first ts ++ between) b b_is)
    ∙ ap (λ z. (take first ts ++ between) ++ z) (take_at back (take first ts ++ between) b b_is)
    ∙ append_assoc (take first ts) between back

-- ---- what is joined when content comes in a range's place

joined_inside : (xs ys zs : Nodes) → joined (append xs (append (joined ys) zs)) ≡ joined (append xs (append ys zs))
joined_inside xs ys zs =
    sym (joined_rest xs (append (joined ys) zs)) ∙ ap (λ z. joined (append xs z)) (joined_prefix ys zs) ∙ joined_rest xs (append ys zs)

pub made_way : (ts content between new : List Tree) (from to first last : ℕ) → first ≤ from → from ≤ to → to ≤ last → are_joined (row ts) ≡ true
    → ((ns : Nodes) → are_joined ns ≡ true → are_joined (append (row (take first ts)) ns) ≡ true) → begins_with_text (row (drop last ts)) ≡ false
    → row between ≡ joined (append (row (slice_range ts first from)) (append (row content) (row (slice_range ts to last))))
    → new ≡ take first ts ++ (between ++ drop last ts)
    → row new ≡ joined (append (row (take from ts)) (append (row content) (row (drop to ts))))
made_way ts content between new from to first last before order suffix joined_all prefix_open back_closed between_is new_is =
    let prefix = row (take first ts) in
    let back = row (drop last ts) in
    let left = row (slice_range ts first from) in
    let right = row (slice_range ts to last) in
    let inner = append left (append (row content) right) in
    let whole : are_joined (append prefix (append (joined inner) back)) ≡ true =
    prefix_open (append (joined inner) back) (before_element (joined inner) back (joined_are inner) (rest_joined (row (take last ts)) back (ap are_joined (sym (row_parts last ts)) ∙ joined_all)) back_closed) in
    let from_is : first + (from - first) ≡ from = omega (arith, before) in
    let prefix_is : append prefix left ≡ row (take from ts) =
    sym (row_append (take first ts) (slice_range ts first from)) ∙ ap row (sym (take-add first (from - first) ts)) ∙ ap (λ k. row (take k ts)) from_is in
    let back_is : append right back ≡ row (drop to ts) = sym (row_append (slice_range ts to last) (drop last ts)) ∙ ap row (sym (drop_split ts to last suffix)) in
    ap row new_is ∙ row_append (take first ts) (between ++ drop last ts) ∙ ap (append prefix) (row_append between (drop last ts) ∙ ap (λ z. append z back) between_is)
    ∙ sym (joined_same (append prefix (append (joined inner) back)) whole)
    ∙ joined_inside prefix inner back
    ∙ ap (λ z. joined (append prefix z)) (append_append left (append (row content) right) back ∙ ap (append left) (append_append (row content) right back ∙ ap (append (row content)) back_is))
    ∙ ap joined (sym (append_append prefix left (append (row content) (row (drop to ts)))) ∙ ap (λ z. append z (append (row content) (row (drop to ts)))) prefix_is)

-- ---- a child by its number

pub child_split : (change : Node → Nodes) (ts : List Tree) (i : ℕ) (d : Tree) → i < length ts
    → at_child change (suc i) (row ts) ≡ append (row (take i ts)) (append (change (node (get_or ts i d))) (row (drop (suc i) ts)))
child_split change [] i d h = absurd (omega arith)
child_split change (t ∷ ts) zero d h = refl
child_split change (t ∷ ts) (suc i) d h = ap (node_then (node t)) (child_split change ts i d (omega arith))

row_set : (ts : List Tree) (i : ℕ) (new : Tree) → i < length ts → row (set ts i new) ≡ append (row (take i ts)) (node_then (node new) (row (drop (suc i) ts)))
row_set ts i new h = ap row (set_split ts i new h) ∙ row_append (take i ts) (new ∷ drop (suc i) ts)

-- an element that was changed and joined stands where it stood
pub child_changed : (change : Node → Nodes) (ts : List Tree) (i : ℕ) (d new : Tree) → i < length ts → are_joined (row ts) ≡ true
    → only (node new) ≡ joined (change (node (get_or ts i d))) → is_text (node new) ≡ false → row (set ts i new) ≡ joined (at_child change (suc i) (row ts))
child_changed change ts i d new h joined_all is elem =
    let prefix_nodes = row (take i ts) in
    let back = row (drop (suc i) ts) in
    let old = node (get_or ts i d) in
    let more : suc i ≡ i + 1 = omega arith in
    let own : is_joined (node new) ≡ true = (prefix (node new) no_nodes (ap are_joined is ∙ joined_are (change old))).own in
    let back_joined : are_joined back ≡ true = rest_joined (row (take (suc i) ts)) back (ap are_joined (sym (row_parts (suc i) ts)) ∙ joined_all) in
    let prefix_is : are_joined prefix_nodes ≡ true = prefix_joined prefix_nodes (row (drop i ts)) (ap are_joined (sym (row_parts i ts)) ∙ joined_all) in
    let rest : are_joined (node_then (node new) back) ≡ true =
    together (node new) back (record { own = own; apart = ap (λ b. not (b && begins_with_text back)) elem; rest = back_joined }) in
    row_set ts i new h
    ∙ sym (joined_same (append prefix_nodes (node_then (node new) back)) (before_element prefix_nodes (node_then (node new) back) prefix_is rest elem))
    ∙ ap (λ z. joined (append prefix_nodes (append z back))) is
    ∙ joined_inside prefix_nodes (change old) back
    ∙ ap joined (sym (child_split change ts i d h))

pub child_joined : (ts : List Tree) (i : ℕ) (d : Tree) → i < length ts → are_joined (row ts) ≡ true → is_joined (node (get_or ts i d)) ≡ true
child_joined [] i d h joined_all = absurd (omega arith)
child_joined (t ∷ ts) zero d h joined_all = (prefix (node t) (row ts) joined_all).own
child_joined (t ∷ ts) (suc i) d h joined_all = child_joined ts i d (omega arith) (prefix (node t) (row ts) joined_all).rest

-- a node that stays
pub child_kept : (ts : List Tree) (i : ℕ) (d new : Tree) → i < length ts → node new ≡ node (get_or ts i d) → row (set ts i new) ≡ row ts
child_kept [] i d new h same = absurd (omega arith)
child_kept (t ∷ ts) zero d new h same = ap (λ n. node_then n (row ts)) same
child_kept (t ∷ ts) (suc i) d new h same = ap (node_then (node t)) (child_kept ts i d new (omega arith) same)

-- the child of a number is there, and the test holds of it
pub record Child (test : Node → Bool) (number : ℕ) (ts : List Tree) : Type 0 where
  pub before : ℕ
  pub is : number ≡ suc before
  pub within : before < length ts
  pub holds : (d : Tree) → test (node (get_or ts before d)) ≡ true

pub child_there : (test : Node → Bool) (number : ℕ) (ts : List Tree) → holds_of_child test number (row ts) ≡ true → Child test number ts
child_there test zero [] h = cc
child_there test (suc k) [] h = cc
child_there test zero (t ∷ ts) h = cc
child_there test (suc zero) (t ∷ ts) h = record { before = zero; is = refl; within = omega arith; holds = λ d. h }
child_there test (suc (suc k)) (t ∷ ts) h =
    let c = child_there test (suc k) ts h in
    record { before = suc c.before; is = ap suc c.is; within = omega (arith, c.within); holds = c.holds }
