-- What is known of the strings that were passed, string by string.
use Rattle.std.specs.Prelude.{ℕ, ◌+◌, Bool, nat_lt, if◌then◌else◌, List, [], ◌∷◌, Option, Some, None}
use Rattle.std.specs.Option.{is_some}
use Rattle.ft_base.specs.Limits.{max_phrases}
use Rattle.selection_grammar.specs.declared.parsed.MatchOption.{MatchOption}
use Rattle.selection_grammar.specs.declared.parsed.MatchOption.TheVariants as O
use Rattle.selection_faults.specs.Least.{earlier, itself}
use Rattle.selection_faults.specs.Strings.{Written, phrases_of, is_bad}
use Rattle.selection_faults.specs.declared.strings.StringWalk.{StringWalk}

abbrev pub start : StringWalk
start = record { phrases = 0; past_at = None; bad_at = None }

abbrev pub counted : StringWalk → ℕ → ℕ → StringWalk
counted walk phrases at =
    if is_some walk.past_at then walk
    else (if nat_lt max_phrases (walk.phrases + phrases) then record walk { past_at = Some at } else record walk { phrases = walk.phrases + phrases })

abbrev pub bad_after : Option ℕ → Bool → ℕ → Option ℕ
bad_after bad_at is_bad at = if is_bad then earlier itself bad_at (Some at) else bad_at

abbrev pub after : StringWalk → Written → StringWalk
after walk s = record (counted walk (phrases_of s) s.string.at) { bad_at = bad_after walk.bad_at (is_bad s) s.string.at }

unfoldable pub after_all : StringWalk → List Written → StringWalk
after_all walk [] = walk
after_all walk (s ∷ rest) = after_all (after walk s) rest

abbrev pub wildcards_after : Bool → MatchOption → Bool
wildcards_after wildcards (O.Wildcards on) = on
wildcards_after wildcards other = wildcards
