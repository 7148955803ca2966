-- The first paragraphs were added.
use Rattle.std.proofs.Common.{◌≡◌, ◌+◌, ◌*◌, ◌++◌}
use Rattle.std.specs.Prelude.{flat_map, string_bytes}
use Rattle.std.specs.List.{range_with_len}
use Rattle.made_sessions.specs.Made.{paragraph}
use Rattle.made_sessions.proofs.document.push_paragraphs.Given as goal

abbrev pub invariant-loop-further : goal.invariant-loop-further
invariant-loop-further l =
    string_bytes l.text ≡ string_bytes l.initial.text ++ flat_map (λ further. paragraph (l.first + 20 * further)) (range_with_len 0 l.further)
