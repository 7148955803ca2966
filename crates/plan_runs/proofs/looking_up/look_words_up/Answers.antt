-- Where the words have to occur, their phrases say it.
use Rattle.std.proofs.Common.{◌≡◌, false, cond, map, Some, sym, ap, ◌∙◌, arith}
use Rattle.all_matches.specs.Compositional.{enough}
use Rattle.index_versions.specs.FirstPlaces.{soonest}
use Rattle.plan_runs.specs.steps.RunShapes.{phrase_shape}
use Rattle.plan_runs.specs.steps.RunSkips.{phrase_skip}
use Rattle.plan_runs.specs.steps.Skips.{latest}
use Rattle.plan_runs.proofs.looking_up.look_words_up.Goals as goal

pub returns-then-words-clause-none : goal.returns-then-words-clause-none
returns-then-words-clause-none c h part =
    let words = c.args.words.now in
    let phrases = map phrase_shape words.phrases.items in
    let skips = phrase_skip c.args.doc.0 part in
    let needed : enough words.times 0 ≡ false = sym (c.is_enough.ensures 0 (omega arith)) ∙ c.if-is_enough.false in
    ap (λ b. cond b (Some 0) (cond words.all (latest (map skips phrases)) (soonest (map skips phrases)))) needed
    ∙ ap (λ b. cond b (latest (map skips phrases)) (soonest (map skips phrases))) c.if-words.true
    ∙ c.look_all_phrases_up.ensures.none h part

pub returns-else-words-clause-none : goal.returns-else-words-clause-none
returns-else-words-clause-none c h part =
    let words = c.args.words.now in
    let phrases = map phrase_shape words.phrases.items in
    let skips = phrase_skip c.args.doc.0 part in
    let needed : enough words.times 0 ≡ false = sym (c.is_enough.ensures 0 (omega arith)) ∙ c.if-is_enough.false in
    ap (λ b. cond b (Some 0) (cond words.all (latest (map skips phrases)) (soonest (map skips phrases)))) needed
    ∙ ap (λ b. cond b (latest (map skips phrases)) (soonest (map skips phrases))) c.if-words.false
    ∙ c.look_one_phrase_up.ensures.none h part
