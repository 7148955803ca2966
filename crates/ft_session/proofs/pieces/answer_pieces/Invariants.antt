-- What was read is as long as the file was reached, and all that became whole with it is answered.
use Rattle.std.proofs.Common.{◌≡◌, ◌+◌, ◌-◌, ◌≤◌}
use Rattle.std.specs.Prelude.{string_bytes, vec_len}
use Rattle.ft_base.specs.Limits.{max_piece_bytes, max_session_bytes}
use Rattle.ft_io.specs.Shelf.{known_bytes}
use Rattle.ft_session.proofs.ProgressLemmas.{Progress}
use Rattle.ft_session.proofs.pieces.answer_pieces.Given as goal

abbrev pub invariant-loop-taken : goal.invariant-loop-taken
invariant-loop-taken g l = record {
  below : l.taken ≤ max_session_bytes + 1;
  room : vec_len l.piece ≡ max_piece_bytes;
  reached : g.S.Shelf.reached l.shelf (string_bytes l.name) ≡ l.taken;
  read_faults : g.S.Shelf.faults l.shelf (string_bytes l.name) ≡ g.S.Shelf.faults l.fn.shelf (string_bytes l.name);
  files : g.S.Shelf.files l.shelf ≡ g.S.Shelf.files l.fn.shelf;
  write_faults : g.K.Sink.faults l.sink ≡ g.K.Sink.faults l.fn.sink;
  bytes : l.answering.lines.bytes ≡ l.taken;
  progress : Progress g.J.Judge.says (known_bytes (g.S.Shelf.files l.fn.shelf) (string_bytes l.name)) (g.K.Sink.written l.fn.sink) (g.K.Sink.written l.sink) l.taken l.answering.lines l.answering.session.state l.refused;
}

abbrev pub decreases-loop-taken : goal.decreases-loop-taken
decreases-loop-taken g l = (max_session_bytes + 1) - l.taken
