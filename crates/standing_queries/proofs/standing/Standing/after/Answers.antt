-- The stamp is another one than those of the turns before.
use Rattle.std.proofs.Common.{◌≡◌, ◌∷◌, ◌++◌, [], ap, ◌∙◌, sym, None}
use Rattle.std.specs.Prelude.{nat_eq}
use Rattle.std.specs.Map.{lookup}
use Rattle.indexmap.proofs.CallerLemmas.{insert_entry-new}
use Rattle.standing_queries.specs.Answers.{turn_lines}
use Rattle.standing_queries.proofs.AnswerLemmas.{answers-more, fresh-stamp}
use Rattle.standing_queries.proofs.standing.Standing.after.Goals as goal

pub loop-turn-preserved : goal.loop-turn-preserved
loop-turn-preserved c =
    let kept = c.args.self.now in
    let turns = c.args.now.now in
    let i = c.loop-turn.turn-index in
    let t = c.turn-item.result in
    let es = c.loop-turn.answers.entries in
    let none : lookup (nat_eq t.stamp) es ≡ None = ap (lookup (nat_eq t.stamp)) c.loop-turn.invariant ∙ fresh-stamp kept turns i t c.requires.stamps c.loop-turn-test.true c.turn-item.is in
    c.in_ok-insert.ensures.entries
    ∙ insert_entry-new nat_eq c.loop-turn.answers t.stamp c.in_ok-lines.lines none
    ∙ ap (λ l. es ++ (t.stamp, l) ∷ []) c.in_ok-lines.ensures
    ∙ ap (λ l. l ++ (t.stamp, turn_lines kept t) ∷ []) c.loop-turn.invariant
    ∙ sym (answers-more kept turns i t c.loop-turn-test.true c.turn-item.is)
