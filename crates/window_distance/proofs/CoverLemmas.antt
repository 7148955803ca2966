-- Words that hits cover, up to one word after the other.
use Rattle.std.proofs.Common.{◌≡◌, refl, ap, sym, ◌∙◌, ℕ, zero, suc, ◌+◌, ◌-◌, ◌<◌, ◌≤◌, Bool, true, false, ◌&&◌, ◌||◌, List, length, get_or, drop, cond, ◌⊎◌, inl, inr, subst, arith}
use Rattle.std.specs.Prelude.{nat_lt, nat_le}
use Rattle.std.specs.List.{list_all, range_with_len}
use Rattle.std.proofs.Math.Bool.{and_assoc}
use Rattle.std.proofs.lemmas.Bool.{and_from, and_parts, cases_lt, le-leb, leb-true, lt-ltb, ltb-false, true≢false}
use Rattle.std.proofs.lemmas.List.{at_drop_more, get_or_default}
use Rattle.std.proofs.lemmas.List.Folds.{list_any_at}
use Rattle.ft_base.specs.declared.hit.Hit.{Hit}
use Rattle.all_matches.specs.Positions.{covers}
use Rattle.window_distance.specs.steps.Covering.{is_covered, end_with}

module _ (p : ℕ → Bool) where
  all_split : (a m n : ℕ) → list_all p (range_with_len a (m + n)) ≡ (list_all p (range_with_len a m) && list_all p (range_with_len (a + m) n))
  all_split a zero n =
      let same : a ≡ a + 0 = omega arith in
      let size : 0 + n ≡ n = omega arith in
      λ i. list_all p (range_with_len (same i) (size i))
  all_split a (suc m) n =
      let size : suc m + n ≡ suc (m + n) = omega arith in
      let same : a + 1 + m ≡ a + suc m = omega arith in
      ap (λ k. list_all p (range_with_len a k)) size
      ∙ ap (λ b. p a && b) (all_split (a + 1) m n ∙ ap (λ b. list_all p (range_with_len (a + 1) m) && list_all p (range_with_len b n)) same)
      ∙ sym (and_assoc (p a) (list_all p (range_with_len (a + 1) m)) (list_all p (range_with_len (a + suc m) n)))

  pub all_up_to : (a b c : ℕ) → a ≤ b → b ≤ c → list_all p (range_with_len a (c - a)) ≡ (list_all p (range_with_len a (b - a)) && list_all p (range_with_len b (c - b)))
  all_up_to a b c h k =
      let sum : c - a ≡ (b - a) + (c - b) = omega arith in
      let there : a + (b - a) ≡ b = omega arith in
      ap (λ n. list_all p (range_with_len a n)) sum ∙ all_split a (b - a) (c - b) ∙ ap (λ q. list_all p (range_with_len a (b - a)) && list_all p (range_with_len q (c - b))) there

module _ (hits : List Hit) (i : ℕ) (hit : Hit) (there : i < length hits) (is : hit ≡ get_or hits i hit) where
  covered_here : (place : ℕ) → hit.whole ≡ true → hit.from ≤ place → place ≤ hit.to → is_covered hits place ≡ true
  covered_here place whole from to =
      list_any_at (λ other. other.whole && covers other place) hits i hit there
      (ap (λ other. other.whole && covers other place) (sym is)
      ∙ and_from hit.whole (covers hit place) whole (and_from (nat_le hit.from place) (nat_le place hit.to) (le-leb hit.from place from) (le-leb place hit.to to)))

  covered_run : (n place : ℕ) → hit.whole ≡ true → hit.from ≤ place → place + n ≤ suc hit.to → list_all (is_covered hits) (range_with_len place n) ≡ true
  covered_run zero place whole from to = refl
  covered_run (suc n) place whole from to =
      and_from (is_covered hits place) (list_all (is_covered hits) (range_with_len (place + 1) n))
      (covered_here place whole from (omega arith)) (covered_run n (place + 1) whole (omega arith) (omega arith))

  -- the end moves after a hit that covers it
  pub covered_on : (place end : ℕ) → place ≤ end → list_all (is_covered hits) (range_with_len place (end - place)) ≡ true
      → hit.whole ≡ true → hit.from ≤ end → end ≤ hit.to → list_all (is_covered hits) (range_with_len place (suc hit.to - place)) ≡ true
  covered_on place end within so_far whole from to =
      let sum : end + (suc hit.to - end) ≤ suc hit.to = omega arith in
      all_up_to (is_covered hits) place end (suc hit.to) within (omega arith)
      ∙ and_from (list_all (is_covered hits) (range_with_len place (end - place))) (list_all (is_covered hits) (range_with_len end (suc hit.to - end))) so_far (covered_run (suc hit.to - end) end whole from sum)

-- what is known after the first hits
pub record Covering (hits rest : List Hit) (place end : ℕ) : Type 0 where
  pub within : place ≤ end
  pub moved : (nat_lt place end || is_covered rest place) ≡ is_covered hits place
  pub covered : list_all (is_covered hits) (range_with_len place (end - place)) ≡ true

module _ (hits : List Hit) (i : ℕ) (hit : Hit) (there : i < length hits) (is : hit ≡ get_or hits i hit) (place end : ℕ) (c : Covering hits (drop i hits) place end) where
  next-moved : (nat_lt place end || ((hit.whole && covers hit place) || is_covered (drop (i + 1) hits) place)) ≡ is_covered hits place
  next-moved =
      ap (λ other. nat_lt place end || ((other.whole && covers other place) || is_covered (drop (i + 1) hits) place)) is
      ∙ sym (ap (λ b. nat_lt place end || b) (at_drop_more (λ hits. is_covered hits place) hits i hit there)) ∙ c.moved

  passed_by : (a b r x : Bool) → (a || (b || r)) ≡ x → (a ≡ false → b ≡ false) → (a || r) ≡ x
  passed_by true b r x e f = e
  passed_by false true r x e f = absurd (true≢false (f refl))
  passed_by false false r x e f = e

  -- a hit that doesn't cover the end leaves it where it is
  stays : (hit.whole && covers hit end) ≡ false → Covering hits (drop (i + 1) hits) place end
  stays none = record {
    within = c.within;
    moved = passed_by (nat_lt place end) (hit.whole && covers hit place) (is_covered (drop (i + 1) hits) place) (is_covered hits place) next-moved
        (λ e. let same : place ≡ end = omega (arith, c.within, ltb-false place end e) in ap (λ q. hit.whole && covers hit q) same ∙ none);
    covered = c.covered;
  }

  goes : (hit.whole && covers hit end) ≡ true → Covering hits (drop (i + 1) hits) place (suc hit.to)
  goes all =
      let parts = and_parts hit.whole (covers hit end) all in
      let ends = and_parts (nat_le hit.from end) (nat_le end hit.to) parts.1 in
      let from : hit.from ≤ end = leb-true hit.from end ends.0 in
      let to : end ≤ hit.to = leb-true end hit.to ends.1 in
      record {
        within = omega (arith, c.within);
        moved = ap (λ b. b || is_covered (drop (i + 1) hits) place) (lt-ltb place (suc hit.to) (omega (arith, c.within))) ∙ sym (there_covered parts.0 from to (cases_lt place end));
        covered = covered_on hits i hit there is place end c.within c.covered parts.0 from to;
      }
    where
      there_covered : hit.whole ≡ true → hit.from ≤ end → end ≤ hit.to → (place < end) ⊎ (end ≤ place) → is_covered hits place ≡ true
      there_covered whole from to (inl less) = sym c.moved ∙ ap (λ b. b || is_covered (drop i hits) place) (lt-ltb place end less)
      there_covered whole from to (inr le) =
          let same : end ≡ place = omega (arith, c.within) in
          covered_here hits i hit there is place whole (omega (arith, c.within)) (omega (arith, c.within))

  covering_goes_on : Covering hits (drop (i + 1) hits) place (end_with hit end)
  covering_goes_on = one (hit.whole && covers hit end) refl
    where
      one : (b : Bool) → (hit.whole && covers hit end) ≡ b → Covering hits (drop (i + 1) hits) place (cond b (suc hit.to) end)
      one true e = goes e
      one false e = stays e

pub next_covering : (hits : List Hit) (i : ℕ) (d : Hit) (place end next : ℕ) → i < length hits → next ≡ end_with (get_or hits i d) end
    → Covering hits (drop i hits) place end → Covering hits (drop (i + 1) hits) place next
next_covering hits i d place end next there is c =
    subst (Covering hits (drop (i + 1) hits) place) (sym is)
    (covering_goes_on hits i (get_or hits i d) there (get_or_default hits i d (get_or hits i d) there) place end c)

-- the walk from end to end
module _ (hits : List Hit) (place end to : ℕ) (within : place ≤ end) (covered : list_all (is_covered hits) (range_with_len place (end - place)) ≡ true) where
  pub rest_decides : place < to → list_all (is_covered hits) (range_with_len end (to - end)) ≡ list_all (is_covered hits) (range_with_len place (to - place))
  rest_decides less = one (cases_lt end to)
    where
      one : (end < to) ⊎ (to ≤ end) → list_all (is_covered hits) (range_with_len end (to - end)) ≡ list_all (is_covered hits) (range_with_len place (to - place))
      one (inl h) = sym (all_up_to (is_covered hits) place end to within (omega arith) ∙ ap (λ b. b && list_all (is_covered hits) (range_with_len end (to - end))) covered)
      one (inr h) =
          let none : to - end ≡ 0 = omega arith in
          let both = and_parts (list_all (is_covered hits) (range_with_len place (to - place))) (list_all (is_covered hits) (range_with_len to (end - to))) (sym (all_up_to (is_covered hits) place to end (omega arith) h) ∙ covered) in
          ap (λ n. list_all (is_covered hits) (range_with_len end n)) none ∙ sym both.0
