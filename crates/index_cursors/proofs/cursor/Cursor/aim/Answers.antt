-- From the first place of the span on the hits are those of the span.
use Rattle.index_cursors.proofs.SpanLemmas.{first-hit}
use Rattle.index_cursors.proofs.cursor.Cursor.aim.Goals as goal

pub returns-clause-cursor : goal.returns-clause-cursor
returns-clause-cursor g c =
    first-hit c.args.breaks.breaks.now c.args.span c.first_from-first.result.number c.args.places c.first_from-first.ensures.ascending c.first_from-first.ensures.number
