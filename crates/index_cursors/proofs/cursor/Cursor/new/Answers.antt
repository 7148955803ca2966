-- From the first place of the span on the hits are those of the span.
use Rattle.index_cursors.proofs.SpanLemmas.{first-hit}
use Rattle.index_cursors.proofs.cursor.Cursor.new.Goals as goal

pub returns-clause-cursor : goal.returns-clause-cursor
returns-clause-cursor g c =
    first-hit c.args.breaks.breaks.now c.args.span c.first_place-first.result.number c.args.places c.first_place-first.ensures.ascending c.first_place-first.ensures.number
