-- Nothing is read or written where memory runs out first.
use Rattle.std.proofs.Common.{arith}
use Rattle.std.specs.Prelude.{string_bytes}
use Rattle.ft_io.specs.Shelf.{known_bytes}
use Rattle.ft_session.proofs.FileLemmas.{memory_stopped, nothing_written}
use Rattle.ft_session.proofs.pieces.answer_file.Goals as goal

pub returns-in_err-session : goal.returns-in_err-session
returns-in_err-session g c =
    let few = c.requires.fresh in
    memory_stopped g.J.Judge.says _ _ _ _ _ _ _ _ _ c.from_residual.result c.from_residual.ensures.1
    (nothing_written g.J.Judge.says (known_bytes (g.S.Shelf.files c.args.shelf.now) (string_bytes c.args.name.now)) (g.K.Sink.written c.args.sink.now)) (omega (arith, few))
