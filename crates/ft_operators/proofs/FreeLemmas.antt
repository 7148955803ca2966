-- Words that no hit covers, one word after the other.
use Rattle.std.proofs.Common.{◌≡◌, ap, ◌∙◌, ℕ, suc, ◌+◌, ◌-◌, ◌<◌, ◌≤◌, List, Bool, true, false, not, ◌||◌, arith}
use Rattle.std.specs.List.{list_any, range_with_len}
use Rattle.ft_base.specs.declared.hit.Hit.{Hit}
use Rattle.all_matches.specs.Positions.{covers}

abbrev pub is_free : List Hit → ℕ → Bool
is_free hits place = not (list_any (λ hit. covers hit place) hits)

module _ (p : ℕ → Bool) (from to : ℕ) where
  any_from : from < to → list_any p (range_with_len from (to - from)) ≡ (p from || list_any p (range_with_len (from + 1) (to - (from + 1))))
  any_from less = let size : to - from ≡ suc (to - (from + 1)) = omega arith in ap (λ n. list_any p (range_with_len from n)) size

  pub any_here : from < to → p from ≡ true → list_any p (range_with_len from (to - from)) ≡ true
  any_here less passes = any_from less ∙ ap (λ b. b || list_any p (range_with_len (from + 1) (to - (from + 1)))) passes

  pub any_after : from < to → p from ≡ false → list_any p (range_with_len from (to - from)) ≡ list_any p (range_with_len (from + 1) (to - (from + 1)))
  any_after less bars = any_from less ∙ ap (λ b. b || list_any p (range_with_len (from + 1) (to - (from + 1)))) bars

  pub any_none : to ≤ from → list_any p (range_with_len from (to - from)) ≡ false
  any_none over = let none : to - from ≡ 0 = omega arith in ap (λ n. list_any p (range_with_len from n)) none
