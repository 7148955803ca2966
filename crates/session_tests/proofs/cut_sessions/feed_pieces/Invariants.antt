-- What the reader took and what is left are together no more than it can count.
use Rattle.std.proofs.Common.{◌+◌, ◌<◌, ◌^◌, length}
use Rattle.session_tests.proofs.cut_sessions.feed_pieces.Given as goal

abbrev pub invariant-loop-turn : goal.invariant-loop-turn
invariant-loop-turn l = l.reader.bytes + length l.rest < 2 ^ 63
