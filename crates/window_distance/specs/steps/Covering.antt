-- Words that hits cover, one after the other.
use Rattle.std.specs.Prelude.{ℕ, suc, Bool, ◌&&◌, if◌then◌else◌, List}
use Rattle.std.specs.List.{list_any}
use Rattle.ft_base.specs.declared.hit.Hit.{Hit}
use Rattle.all_matches.specs.Positions.{covers}

-- whether a hit that is whole covers a word
abbrev pub is_covered : List Hit → ℕ → Bool
is_covered hits place = list_any (λ hit. hit.whole && covers hit place) hits

-- the word after a hit that is whole and covers the end so far; else that end
abbrev pub end_with : Hit → ℕ → ℕ
end_with hit end = if hit.whole && covers hit end then suc hit.to else end
