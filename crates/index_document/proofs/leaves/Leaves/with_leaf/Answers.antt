-- The directory with a gap at the place, and in the gap the new leaf.
use Rattle.std.proofs.Common.{◌≡◌, ◌+◌, ◌≤◌, ℕ, List, length, take, cond, nat_lt, false, ap, sym, subst, ◌∙◌, arith}
use Rattle.std.proofs.lemmas.List.{length-map}
use Rattle.index_document.specs.Terms.{Leaf, TermDocument, leaf_ids, words_of, has}
use Rattle.index_document.specs.steps.Directory.{IsChanged, IsDirectory, IsOpened}
use Rattle.index_document.proofs.DirectoryLemmas.{directory-with}
use Rattle.index_document.proofs.LeafLemmas.{slot-most}
use Rattle.index_document.proofs.leaves.Leaves.with_leaf.Goals as goal

pub open_gap-requires-clause-within : goal.open_gap-requires-clause-within
open_gap-requires-clause-within c = λ k.
    let ids = leaf_ids c.self.inside.leaves in
    omega (arith, c.self.invariant.slots_are k, slot-most ids k, c.len.ensures, length-map c.self.inside.leaves (λ (l : Leaf). l.id))

pub invariant_of-result : goal.invariant_of-result
invariant_of-result c =
    let inside = c.self.inside in
    let leaf = c.args.leaf in
    let leaves_are = ap (λ (d : TermDocument). d.leaves) c.self.view_is in
    let s₁ = c.open_gap.new.slots.items in
    let b₁ = c.open_gap.new.befores.items in
    let s₂ = c.put_number.new.numbers.items in
    let b₂ = c.put_number-2.new.numbers.items in
    let number = c.leaf-number.result.0 in
    let opened = subst (λ (n : ℕ). IsOpened c.args.at n inside.slots.items inside.befores.items s₁ b₁) (ap length c.terms-count.ensures) c.in_ok-open_gap.ensures in
    let slot_set = subst (λ (n : ℕ). IsChanged n (c.args.at + 1) s₁ s₂) c.leaf-number.ensures c.in_ok-put_number.ensures.changed in
    let before_set = subst (λ (n : ℕ). IsChanged n c.words_before-before.result b₁ b₂) c.leaf-number.ensures c.in_ok-put_number-2.ensures.changed in
    let same : length b₂ ≡ length s₂ = c.in_ok-put_number-2.ensures.length ∙ ap (λ m. cond (nat_lt number m) m (number + 1)) (opened.befores_length ∙ sym opened.slots_length) ∙ sym c.in_ok-put_number.ensures.length in
    let within : c.args.at ≤ length inside.leaves = omega (arith, c.requires.place, ap length leaves_are) in
    let none : has leaf.id (leaf_ids inside.leaves) ≡ false = ap (λ ls. has leaf.id (leaf_ids ls)) leaves_are ∙ c.requires.new in
    let before_is = c.words_before-before.ensures ∙ ap (λ ls. length (words_of (take c.args.at ls))) (sym leaves_are) in
    let sum_is : c.in_ok-words.words ≡ inside.words + length leaf.words = c.in_ok-words.ensures.0 ∙ ap (λ ws. inside.words + length ws) c.terms-count.ensures in
    subst (λ (ls : List Leaf). IsDirectory ls s₂ b₂ c.in_ok-words.words) (sym c.in_ok-insert.ensures.ok)
    (directory-with inside.leaves inside.slots.items inside.befores.items inside.words c.args.at leaf s₁ b₁ s₂ b₂ c.words_before-before.result c.in_ok-words.words
    c.self.invariant within none opened slot_set before_set before_is same sum_is c.in_ok-words.ensures.1)
