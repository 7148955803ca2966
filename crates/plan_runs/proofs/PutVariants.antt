-- Where a variant is put: behind groups of other lengths, into the one of its length, or after all of them.
use Rattle.std.proofs.Common.{◌≡◌, ◌<◌, ◌≤◌, ◌==◌, ℕ, zero, suc, Bool, true, false, cond, List, [], ◌∷◌, ◌++◌, map, take, drop, length, get_or, slice_set, refl, sym, ap, ◌∙◌, arith}
use Rattle.all_matches.specs.Counting.{put_variant, with_variant}
use Rattle.index_phrases.specs.declared.word_terms.WordTerms.{WordTerms}
use Rattle.index_phrases.specs.steps.Aiming.{variant_words}
use Rattle.plan_runs.specs.declared.run_counts.TermGroup.{TermGroup}
use Rattle.plan_runs.specs.steps.Counts.{TermGroups}
use Rattle.plan_runs.specs.steps.RunShapes.{term_groups}

-- one that isn't empty is put
pub put_some : (groups : TermGroups) (variant : List WordTerms) → 0 < length variant → with_variant groups variant ≡ put_variant variant groups
put_some groups [] some = absurd (omega (arith, some))
put_some groups (word ∷ words) some = refl

module _ (variant : List WordTerms) where
  abbrev entry : TermGroup → ℕ × List (List WordTerms)
  entry group = (group.words, map variant_words group.variants.items)

  abbrev longer : TermGroup → ℕ × List (List WordTerms)
  longer group = (group.words, map variant_words group.variants.items ++ variant ∷ [])

  -- put, by whether the first group has the variant's length
  put_first : (first : TermGroup) (rest : List TermGroup) (group : TermGroup) (b : Bool) → group ≡ first → (length variant == group.words) ≡ b
      → put_variant variant (term_groups (first ∷ rest)) ≡ cond b (longer first ∷ term_groups rest) (entry first ∷ put_variant variant (term_groups rest))
  put_first first rest group b is test =
      ap (λ c. cond c (longer first ∷ term_groups rest) (entry first ∷ put_variant variant (term_groups rest))) (ap (λ (g : TermGroup). length variant == g.words) (sym is) ∙ test)

  pub put_past : (groups : List TermGroup) (n : ℕ) (group : TermGroup) → n < length groups → group ≡ get_or groups n group → (length variant == group.words) ≡ false
      → take n (term_groups groups) ++ put_variant variant (drop n (term_groups groups)) ≡ take (suc n) (term_groups groups) ++ put_variant variant (drop (suc n) (term_groups groups))
  put_past [] n group within is other = absurd (omega (arith, within))
  put_past (first ∷ rest) zero group within is other = put_first first rest group false is other
  put_past (first ∷ rest) (suc n) group within is other = ap (λ (groups : TermGroups). entry first ∷ groups) (put_past rest n group (omega (arith, within)) is other)

  pub put_here : (groups : List TermGroup) (n : ℕ) (tested group after : TermGroup) → n < length groups → tested ≡ get_or groups n tested → group ≡ get_or groups n group
      → (length variant == tested.words) ≡ true → entry after ≡ longer group
      → take n (term_groups groups) ++ put_variant variant (drop n (term_groups groups)) ≡ term_groups (slice_set groups n after)
  put_here [] n tested group after within found is same one = absurd (omega (arith, within))
  put_here (first ∷ rest) zero tested group after within found is same one =
      put_first first rest tested true found same
      ∙ ap (λ (g : TermGroup). longer g ∷ term_groups rest) (sym is)
      ∙ ap (λ (e : ℕ × List (List WordTerms)). e ∷ term_groups rest) (sym one)
  put_here (first ∷ rest) (suc n) tested group after within found is same one =
      ap (λ (groups : TermGroups). entry first ∷ groups) (put_here rest n tested group after (omega (arith, within)) found is same one)

  pub put_last : (groups : List TermGroup) (n : ℕ) → length groups ≤ n
      → take n (term_groups groups) ++ put_variant variant (drop n (term_groups groups)) ≡ term_groups groups ++ (length variant, variant ∷ []) ∷ []
  put_last [] zero past = refl
  put_last [] (suc n) past = refl
  put_last (first ∷ rest) zero past = absurd (omega (arith, past))
  put_last (first ∷ rest) (suc n) past = ap (λ (groups : TermGroups). entry first ∷ groups) (put_last rest n (omega (arith, past)))
