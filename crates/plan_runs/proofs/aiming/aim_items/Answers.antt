-- The cursors of one word more were aimed.
use Rattle.std.proofs.Common.{◌<◌, ◌∙◌, List, length, get_or, subst, sym, ap, arith}
use Rattle.std.proofs.lemmas.List.Elements.{All-get_or}
use Rattle.place_merges.specs.Sources.{wanted}
use Rattle.index_phrases.specs.steps.Aiming.{AreThere, size_of, wanted_size}
use Rattle.plan_runs.specs.steps.AskedPlaces.{wanted_at}
use Rattle.plan_runs.specs.steps.RunCosts.{term_count}
use Rattle.index_phrases.specs.declared.word_terms.WordTerms.{WordTerms}
use Rattle.plan_runs.proofs.SumLemmas.{one_more, so_far}
use Rattle.index_phrases.proofs.PartLemmas.{both_at, parts_more, same_length, set_kept}
use Rattle.plan_runs.proofs.aiming.aim_items.Goals as goal

pub index_mut-word-requires : goal.index_mut-word-requires
index_mut-word-requires g c =
    let many = same_length size_of wanted_size c.args.items.now.items c.args.terms.now.items c.requires.sized in
    let still = ap length c.loop-number.invariant.terms in
    let test = c.loop-number-test.true in
    let end = c.len-number-end.ensures in
    omega arith

pub aim_item-requires-clause-sized : goal.aim_item-requires-clause-sized
aim_item-requires-clause-sized g c =
    let terms = c.args.terms.now.items in
    let number = c.loop-number.number in
    let word = c.index_mut-word.result.now in
    let many = same_length size_of wanted_size c.args.items.now.items terms c.requires.sized in
    let test = c.loop-number-test.true in
    let end = c.len-number-end.ensures in
    let within : number < length terms = omega arith in
    let is = c.index_mut-word.ensures.value ∙ ap (λ (ts : List WordTerms). get_or ts number word) c.loop-number.invariant.terms in
    both_at size_of wanted_size c.loop-number.items.items terms number c.index_mut-item.result.now word
    c.loop-number.invariant.sized within c.index_mut-item.ensures.value is

pub aim_item-requires-clause-there : goal.aim_item-requires-clause-there
aim_item-requires-clause-there g c =
    let terms = c.args.terms.now.items in
    let number = c.loop-number.number in
    let word = c.index_mut-word.result.now in
    let many = same_length size_of wanted_size c.args.items.now.items terms c.requires.sized in
    let test = c.loop-number-test.true in
    let end = c.len-number-end.ensures in
    let within : number < length terms = omega arith in
    let is = c.index_mut-word.ensures.value ∙ ap (λ (ts : List WordTerms). get_or ts number word) c.loop-number.invariant.terms in
    subst (AreThere c.args.place.now.version.now) (sym is) (All-get_or (AreThere c.args.place.now.version.now) terms number word within c.requires.there)

pub loop-number-preserved : goal.loop-number-preserved
loop-number-preserved g c =
    let terms = c.args.terms.now.items in
    let number = c.loop-number.number in
    let word = c.index_mut-word.result.now in
    let many = same_length size_of wanted_size c.args.items.now.items terms c.requires.sized in
    let test = c.loop-number-test.true in
    let end = c.len-number-end.ensures in
    let within : number < length terms = omega arith in
    let is = c.index_mut-word.ensures.value ∙ ap (λ (ts : List WordTerms). get_or ts number word) c.loop-number.invariant.terms in
    let more = parts_more size_of wanted_size (wanted (λ cursor. cursor)) (wanted_at c.args.place.now) c.loop-number.items.items terms number
    c.args.moves.now c.loop-number.moves c.aim_item.new.moves c.index_mut-item.result.now c.aim_item.new.item word
    c.loop-number.invariant.sized within c.index_mut-item.ensures.value is c.aim_item.ensures.same c.aim_item.ensures.aimed c.loop-number.invariant.done
    c.loop-number.invariant.grown c.aim_item.ensures.grown in
    record {
      terms = set_kept c.loop-number.terms.items terms number word c.aim_item.new.terms c.loop-number.invariant.terms c.index_mut-word.ensures.value c.aim_item.ensures.terms;
      sized = more.sized;
      done = more.done;
      price = one_more term_count terms number c.args.moves.now word c.loop-number.moves c.aim_item.new.moves within is
          c.loop-number.invariant.price c.aim_item.ensures.price;
      grown = more.grown;
    }

pub returns-clause-price : goal.returns-clause-price
returns-clause-price g c = so_far term_count c.args.terms.now.items c.loop-number.number c.args.moves.now c.loop-number.moves c.loop-number.invariant.price
