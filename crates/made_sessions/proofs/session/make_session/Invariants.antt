-- The first documents were added.
use Rattle.std.proofs.Common.{◌≡◌, ◌-◌}
use Rattle.std.specs.Prelude.{flat_map, string_bytes}
use Rattle.std.specs.List.{range_with_len}
use Rattle.made_sessions.specs.Made.{document}
use Rattle.made_sessions.proofs.session.make_session.Given as goal

abbrev pub invariant-loop-number : goal.invariant-loop-number
invariant-loop-number l = string_bytes l.text ≡ flat_map document (range_with_len 1 (l.number - 1))
