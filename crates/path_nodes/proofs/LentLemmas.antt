-- What a test that is lent means comes back with the loan.
use Rattle.std.proofs.Common.{◌≡◌, ℕ, drop, get_or, ap}
use Rattle.path_nodes.specs.Says.{Meaning}
use Rattle.path_nodes.specs.steps.Lent.{lent_too}

pub same-loan : (a b : ℕ) (m n : Meaning) → lent_too a m ≡ lent_too b n → a ≡ b
same-loan a b m n same = ap (λ (x : Meaning). get_or x.lent 0 a) same

pub same-test : (a b : ℕ) (m n : Meaning) → lent_too a m ≡ lent_too b n → m ≡ n
same-test a b m n same = ap (λ (x : Meaning). record { may_ask = x.may_ask; says = x.says; price = x.price; span = x.span; lent = drop 1 x.lent }) same
