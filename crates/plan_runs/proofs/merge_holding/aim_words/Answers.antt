-- The cursors of one word more were aimed.
use Rattle.std.proofs.Common.{◌<◌, ◌∙◌, List, length, get_or, map, sym, ap, arith}
use Rattle.std.proofs.lemmas.List.{length-map}
use Rattle.index_versions.specs.Terms.{VersionTerm, aimed_at}
use Rattle.plan_runs.specs.steps.RunShapes.{count_of, cursors_of}
use Rattle.index_phrases.proofs.PartLemmas.{both_at, parts_more, same_length, set_kept}
use Rattle.plan_runs.proofs.SumLemmas.{one_more}
use Rattle.plan_runs.proofs.merge_holding.aim_words.Goals as goal

pub aim-requires-clause-sized : goal.aim-requires-clause-sized
aim-requires-clause-sized g c =
    let words = c.args.words.now.items in
    let number = c.loop-number.number in
    let terms = c.index_mut-terms.result.now in
    let many = same_length count_of length c.args.cursors.now.items words c.requires.sized in
    let test = c.loop-number-test.true in
    let end = c.len-number-end.ensures in
    let within : number < length words = omega (arith, many, test, end) in
    let is = c.index_mut-terms.ensures.value ∙ ap (λ (ws : List (List VersionTerm)). get_or ws number terms) c.loop-number.invariant.words in
    both_at count_of length c.loop-number.cursors.items words number c.index_mut-word.result.now terms c.loop-number.invariant.sized within c.index_mut-word.ensures.value is

pub loop-number-preserved : goal.loop-number-preserved
loop-number-preserved g c =
    let words = c.args.words.now.items in
    let number = c.loop-number.number in
    let terms = c.index_mut-terms.result.now in
    let place = c.args.place.now in
    let many = same_length count_of length c.args.cursors.now.items words c.requires.sized in
    let test = c.loop-number-test.true in
    let end = c.len-number-end.ensures in
    let within : number < length words = omega (arith, many, test, end) in
    let is = c.index_mut-terms.ensures.value ∙ ap (λ (ws : List (List VersionTerm)). get_or ws number terms) c.loop-number.invariant.words in
    let sized = both_at count_of length c.loop-number.cursors.items words number c.index_mut-word.result.now terms c.loop-number.invariant.sized within c.index_mut-word.ensures.value is in
    let kept = ap length c.aim.ensures.aimed ∙ length-map terms (aimed_at place.doc.0 place.span) ∙ sym sized in
    let count = c.aim.ensures.counted in
    let more = parts_more count_of length cursors_of (map (aimed_at place.doc.0 place.span)) c.loop-number.cursors.items words number
    c.args.moves.now c.loop-number.moves c.aim.new.steps c.index_mut-word.result.now c.aim.new.cursors terms
    c.loop-number.invariant.sized within c.index_mut-word.ensures.value is kept c.aim.ensures.aimed c.loop-number.invariant.done
    c.loop-number.invariant.grown (omega (arith, count)) in
    record {
      words = set_kept c.loop-number.words.items words number terms c.aim.new.self c.loop-number.invariant.words c.index_mut-terms.ensures.value c.aim.ensures.same;
      sized = more.sized;
      done = more.done;
      price = one_more length words number c.args.moves.now terms c.loop-number.moves c.aim.new.steps within is c.loop-number.invariant.price (omega (arith, count));
      grown = more.grown;
    }
