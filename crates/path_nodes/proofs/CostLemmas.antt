-- What was spent on a part, and the price of the rest, are no more than the price of all.
use Rattle.std.proofs.Common.{◌≡◌, ◌+◌, ◌≤◌, ℕ, arith, ◌∙◌}
use Rattle.std.specs.Borrow.{MutBor}
use Rattle.path_nodes.specs.steps.Found.{Spends, SpendsOf}

module _ {T : Type 0} {cost : T → ℕ} where
  -- one part, then the rest
  pub cost-next : {first before after : MutBor T} {one rest all price : ℕ} → Spends cost before after one → SpendsOf cost first before all price → all ≡ one + rest → SpendsOf cost first after rest price
  cost-next h i e = record { same = h.same ∙ i.same; within = omega arith }

  pub cost-part : {first before after : MutBor T} {one all price : ℕ} (rest : ℕ) → Spends cost before after one → SpendsOf cost first before all price → all ≡ one + rest → Spends cost first after price
  cost-part rest h i e = record { same = h.same ∙ i.same; within = omega arith }

  -- what is left to be spent isn't spent
  pub cost-end : {first after : MutBor T} {rest price : ℕ} → SpendsOf cost first after rest price → Spends cost first after price
  cost-end h = record { same = h.same; within = omega arith }

  pub at-price : {before after : MutBor T} {one other : ℕ} → Spends cost before after one → one ≡ other → Spends cost before after other
  at-price h e = record { same = h.same; within = omega arith }

  -- a price that is no more than another
  pub at-most : {before after : MutBor T} {one other all : ℕ} → Spends cost before after one → one ≤ other → other ≡ all → Spends cost before after all
  at-most h less e = record { same = h.same; within = omega arith }

  -- one part after the other
  pub both-cost : {before between after : MutBor T} {one two all : ℕ} → Spends cost before between one → Spends cost between after two → one + two ≡ all → Spends cost before after all
  both-cost h i e = record { same = i.same ∙ h.same; within = omega arith }

  pub first-part-cost : {before after : MutBor T} {one all : ℕ} (two : ℕ) → Spends cost before after one → one + two ≡ all → Spends cost before after all
  first-part-cost two h e = record { same = h.same; within = omega arith }
