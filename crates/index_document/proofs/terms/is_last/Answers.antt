-- The last of ascending terms is the greatest, so that a term which none is above is the last one or isn't there.
use Rattle.std.proofs.Common.{◌≡◌, ◌==◌, ◌+◌, ℕ, List, length, get_or, ap, sym, ◌∙◌, arith, inl, inr, true}
use Rattle.std.proofs.lemmas.Bool.{cases_eq, cases_lt, eq-eqb, ne_eqb, false_from_ne_true}
use Rattle.std.proofs.lemmas.List.{get_or_default}
use Rattle.ft_base.specs.Places.{is_ascending}
use Rattle.index_document.specs.Terms.{has}
use Rattle.index_document.specs.steps.Widening.{AreUpTo}
use Rattle.index_document.proofs.TermLemmas.{ascending-at, find-at, has-at}
use Rattle.index_document.proofs.terms.is_last.Goals as goal

last-only : (t : ℕ) (xs : List ℕ) (k : ℕ) → is_ascending xs ≡ true → AreUpTo t xs → k + 1 ≡ length xs → (get_or xs k 0 == t) ≡ has t xs
last-only t xs k rising most end = elim (cases_eq (get_or xs k 0) t) [
  | inl same ↦ eq-eqb (get_or xs k 0) t same ∙ sym (ap (λ u. has u xs) (sym same) ∙ has-at xs k (omega (arith, end)))
  | inr other ↦ ne_eqb (get_or xs k 0) t other ∙ sym (false_from_ne_true (has t xs) (λ there.
      let found = find-at xs t there in
      elim (cases_lt found.0 k) [
        | inl prefix ↦ omega (arith, ascending-at xs found.0 k rising prefix (omega (arith, end)), found.2, most (get_or xs k 0) (has-at xs k (omega (arith, end))))
        | inr suffix ↦ let is : found.0 ≡ k = omega (arith, suffix, found.1, end) in other (ap (λ j. get_or xs j 0) (sym is) ∙ found.2)
      ]))
]

pub returns : goal.returns
returns c =
    let ids = c.args.ids.now.items in
    let k = c.in-Some.last in
    let end : k + 1 ≡ length ids = omega (arith, c.in-Some.ensures, c.len.ensures, c.args.ids.now.ok.0) in
    ap (λ last. last == c.args.term) (c.index.ensures ∙ get_or_default ids k c.index.result.now 0 (omega (arith, end)))
    ∙ last-only c.args.term ids k c.requires.rising c.requires.up_to end
