-- One word that is missing is enough.
use Rattle.std.proofs.Common.{◌<◌, ◌∙◌, ap, get_or, length, arith}
use Rattle.plan_runs.specs.steps.Skips.{word_skip}
use Rattle.plan_runs.proofs.MissingLemmas.{one_missing}
use Rattle.plan_runs.proofs.looking_up.look_variant_up.Goals as goal

pub returns-then-not-look_word_up-clause-none : goal.returns-then-not-look_word_up-clause-none
returns-then-not-look_word_up-clause-none c h =
    let words = c.args.words.now.items in
    let test = c.loop-number-test.true in
    let end = c.len-number-end.ensures in
    let within : c.loop-number.number < length words = omega arith in
    one_missing (λ part word. word_skip c.args.doc.0 part word) words c.loop-number.number c.index_mut.result.now within
    (c.index_mut.ensures.value ∙ ap (λ l. get_or l c.loop-number.number c.index_mut.result.now) c.loop-number.invariant)
    (c.look_word_up.ensures.none c.if-not-look_word_up.true)
