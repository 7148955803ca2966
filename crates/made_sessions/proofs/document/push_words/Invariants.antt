-- The first word and the next ones were added.
use Rattle.std.proofs.Common.{◌≡◌, ◌+◌, ◌-◌, ◌++◌}
use Rattle.std.specs.Prelude.{codes, flat_map, string_bytes}
use Rattle.std.specs.List.{range_with_len}
use Rattle.made_sessions.specs.Made.{word}
use Rattle.made_sessions.proofs.document.push_words.Given as goal

abbrev pub invariant-loop-further : goal.invariant-loop-further
invariant-loop-further l =
    string_bytes l.text ≡ string_bytes l.initial.text ++ flat_map (λ further. codes " " ++ word (l.first + further)) (range_with_len 1 (l.further - 1))
