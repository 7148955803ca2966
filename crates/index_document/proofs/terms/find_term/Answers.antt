-- Ascending terms are in order, so that the search finds one or shows that there is none.
use Rattle.std.proofs.Common.{◌≡◌, ◌≤◌, ◌<◌, ℕ, List, length, get_or, ap, sym, ◌∙◌, arith, inl, inr, Ok, Err, true, false}
use Rattle.std.proofs.lemmas.Bool.{cases_lt, false_from_ne_true}
use Rattle.std.proofs.lemmas.List.Sorted.{searched}
use Rattle.ft_base.specs.Places.{is_ascending}
use Rattle.index_document.specs.Terms.{has}
use Rattle.index_document.proofs.TermLemmas.{ascending-at, find-at}
use Rattle.index_document.proofs.terms.find_term.Goals as goal

in-order : (xs : List ℕ) → is_ascending xs ≡ true → (i j : ℕ) → i ≤ j → j < length xs → get_or xs i 0 ≤ get_or xs j 0
in-order xs up i j le there = elim (cases_lt i j) [
  | inl below ↦ omega (arith, ascending-at xs i j up below there)
  | inr same ↦ let is : i ≡ j = omega (arith, le, same) in omega (arith, ap (λ k. get_or xs k 0) is)
]

absent : (xs : List ℕ) (x i : ℕ) → ((k : ℕ) → k < i → get_or xs k 0 < x) → ((k : ℕ) → i ≤ k → k < length xs → x < get_or xs k 0) → has x xs ≡ false
absent xs x i below above = false_from_ne_true (has x xs) (λ there.
    let found = find-at xs x there in
    elim (cases_lt found.0 i) [
      | inl prefix ↦ omega (arith, below found.0 prefix, found.2)
      | inr suffix ↦ omega (arith, above found.0 suffix found.1, found.2)
    ])

pub returns-in-Ok-clause-found : goal.returns-in-Ok-clause-found
returns-in-Ok-clause-found c =
    let xs = c.args.ids.now.items in
    let same = c.deref.ensures.value in
    let found = searched c.deref.result.now c.args.term (Ok c.in-Ok.number) c.in-Ok.ensures.position (in-order c.deref.result.now (ap is_ascending same ∙ c.requires)) in
    (omega (arith, found.0, ap length same), ap (λ ys. get_or ys c.in-Ok.number 0) (sym same) ∙ found.1)

pub returns-in-Err-clause-none : goal.returns-in-Err-clause-none
returns-in-Err-clause-none c =
    let same = c.deref.ensures.value in
    let nowhere = searched c.deref.result.now c.args.term (Err c.in-Err.field-0) c.in-Err.ensures.position (in-order c.deref.result.now (ap is_ascending same ∙ c.requires)) in
    ap (has c.args.term) (sym same) ∙ absent c.deref.result.now c.args.term c.in-Err.field-0 nowhere.1 nowhere.2
