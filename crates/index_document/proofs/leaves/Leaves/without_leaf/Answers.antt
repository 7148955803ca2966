-- The directory without the leaf, and without the gap that it leaves.
use Rattle.std.proofs.Common.{◌≡◌, ◌+◌, ◌-◌, ◌<◌, ℕ, List, length, get_or, ap, sym, subst, ◌∙◌, arith, inl, inr}
use Rattle.std.proofs.lemmas.Bool.{cases_lt}
use Rattle.std.proofs.lemmas.List.{length-map, get_or_past}
use Rattle.index_document.specs.Terms.{Leaf, TermDocument, leaf_ids}
use Rattle.index_document.specs.steps.Directory.{IsClosed, IsDirectory}
use Rattle.index_document.proofs.DirectoryLemmas.{directory-without, words_at}
use Rattle.index_document.proofs.LeafLemmas.{id-read, slot-at, words-read}
use Rattle.index_document.proofs.leaves.Leaves.without_leaf.Goals as goal

suffix-end : (xs : List ℕ) (k n : ℕ) → get_or xs k 0 ≡ n + 1 → k < length xs
suffix-end xs k n is = elim (cases_lt k (length xs)) [
  | inl there ↦ there
  | inr past ↦ absurd (omega (arith, is, get_or_past xs k 0 past))
]

pub close_gap-requires-clause-place : goal.close_gap-requires-clause-place
close_gap-requires-clause-place c =
    let leaves = c.self.inside.leaves in
    let at = c.args.at in
    let there : at < length leaves = omega (arith, c.requires, ap (λ (d : TermDocument). length d.leaves) c.self.view_is) in
    let id = c.leaf-2.ensures ∙ id-read leaves at c.in_ok-leaf.leaf there c.in_ok-leaf.ensures.item in
    ap (λ i. get_or c.self.inside.slots.items i 0) id ∙ c.self.invariant.slots_are (get_or (leaf_ids leaves) at 0)
    ∙ slot-at (leaf_ids leaves) at (omega (arith, there, length-map leaves (λ (l : Leaf). l.id))) c.self.invariant.distinct

pub close_gap-requires-clause-there : goal.close_gap-requires-clause-there
close_gap-requires-clause-there c =
    let leaves = c.self.inside.leaves in
    let at = c.args.at in
    let there : at < length leaves = omega (arith, c.requires, ap (λ (d : TermDocument). length d.leaves) c.self.view_is) in
    let id = c.leaf-2.ensures ∙ id-read leaves at c.in_ok-leaf.leaf there c.in_ok-leaf.ensures.item in
    suffix-end c.self.inside.slots.items c.leaf-2.result.0 at (
    ap (λ i. get_or c.self.inside.slots.items i 0) id ∙ c.self.invariant.slots_are (get_or (leaf_ids leaves) at 0)
    ∙ slot-at (leaf_ids leaves) at (omega (arith, there, length-map leaves (λ (l : Leaf). l.id))) c.self.invariant.distinct)

pub invariant_of-result : goal.invariant_of-result
invariant_of-result c =
    let inside = c.self.inside in
    let leaves = inside.leaves in
    let at = c.args.at in
    let s₁ = c.close_gap.new.slots.items in
    let b₁ = c.close_gap.new.befores.items in
    let there : at < length leaves = omega (arith, c.requires, ap (λ (d : TermDocument). length d.leaves) c.self.view_is) in
    let id = c.leaf-2.ensures ∙ id-read leaves at c.in_ok-leaf.leaf there c.in_ok-leaf.ensures.item in
    let count : length c.terms-count.result.now ≡ length (words_at leaves at) = ap length (c.terms-count.ensures ∙ words-read leaves at c.in_ok-leaf.leaf there c.in_ok-leaf.ensures.item) in
    let closed = subst (λ (n : ℕ). IsClosed at n (get_or (leaf_ids leaves) at 0) inside.slots.items inside.befores.items s₁ b₁) count
    (subst (λ (n : ℕ). IsClosed at (length c.terms-count.result.now) n inside.slots.items inside.befores.items s₁ b₁) id c.close_gap.ensures) in
    subst (λ (ls : List Leaf). IsDirectory ls s₁ b₁ c.saturating_sub.result) (sym c.in_ok-leaf.ensures.ok)
    (directory-without leaves inside.slots.items inside.befores.items inside.words at s₁ b₁ c.saturating_sub.result c.self.invariant there closed
    (c.saturating_sub.ensures ∙ ap (λ n. inside.words - n) count))
