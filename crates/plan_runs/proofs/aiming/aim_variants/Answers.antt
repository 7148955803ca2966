-- The cursors of one variant more were aimed.
use Rattle.std.proofs.Common.{◌≤◌, ◌<◌, ◌+◌, ◌*◌, List, length, map, take, subst, arith}
use Rattle.std.specs.List.{All, sum_by}
use Rattle.std.proofs.lemmas.List.{take_all}
use Rattle.ft_base.specs.Hits.{HitPlace}
use Rattle.place_merges.specs.Sources.{all_left}
use Rattle.place_merges.specs.declared.item.Variant.{Variant}
use Rattle.plan_runs.specs.steps.AskedPlaces.{AreAimed}
use Rattle.plan_runs.specs.steps.RunCosts.{moves_for}
use Rattle.index_phrases.specs.steps.Aiming.{AreThere, sizes_of, variant_words, wanted_size}
use Rattle.index_phrases.specs.declared.word_terms.WordTerms.{WordTerms}
use Rattle.plan_runs.proofs.AimLemmas.{more_aimed, more_price}
use Rattle.index_phrases.proofs.PartLemmas.{as_many, both_at, holds_at, part_at, parts_kept, same_length}
use Rattle.plan_runs.proofs.SumLemmas.{so_far}
use Rattle.plan_runs.proofs.aiming.aim_variants.Goals as goal

pub index_mut-words-requires : goal.index_mut-words-requires
index_mut-words-requires g c =
    let terms = map variant_words c.args.terms.now.items in
    let many = same_length sizes_of (map wanted_size) c.args.variants.now.items terms c.requires.sized in
    let still = as_many variant_words c.loop-number.terms.items terms c.loop-number.invariant.terms in
    let test = c.loop-number-test.true in
    let end = c.len-number-end.ensures in
    omega arith

pub aim_variant-requires-clause-sized : goal.aim_variant-requires-clause-sized
aim_variant-requires-clause-sized g c =
    let terms = map variant_words c.args.terms.now.items in
    let number = c.loop-number.number in
    let words = c.index_mut-words.result.now in
    let many = same_length sizes_of (map wanted_size) c.args.variants.now.items terms c.requires.sized in
    let test = c.loop-number-test.true in
    let end = c.len-number-end.ensures in
    let within : number < length terms = omega arith in
    both_at sizes_of (map wanted_size) c.loop-number.variants.items terms number c.index_mut-variant.result.now words.items
    c.loop-number.invariant.sized within c.index_mut-variant.ensures.value
    (part_at variant_words c.loop-number.terms.items terms number words c.loop-number.invariant.terms c.index_mut-words.ensures.value)

pub aim_variant-requires-clause-there : goal.aim_variant-requires-clause-there
aim_variant-requires-clause-there g c =
    let terms = map variant_words c.args.terms.now.items in
    let number = c.loop-number.number in
    let many = same_length sizes_of (map wanted_size) c.args.variants.now.items terms c.requires.sized in
    let still = as_many variant_words c.loop-number.terms.items terms c.loop-number.invariant.terms in
    let test = c.loop-number-test.true in
    let end = c.len-number-end.ensures in
    let within : number < length c.loop-number.terms.items = omega arith in
    holds_at variant_words (All (AreThere c.args.place.now.version.now)) c.loop-number.terms.items terms number c.index_mut-words.result.now
    c.requires.there c.loop-number.invariant.terms within c.index_mut-words.ensures.value

pub loop-number-preserved : goal.loop-number-preserved
loop-number-preserved g c =
    let place = c.args.place.now in
    let terms = map variant_words c.args.terms.now.items in
    let now = c.loop-number.variants.items in
    let number = c.loop-number.number in
    let words = c.index_mut-words.result.now in
    let many = same_length sizes_of (map wanted_size) c.args.variants.now.items terms c.requires.sized in
    let still = same_length sizes_of (map wanted_size) now terms c.loop-number.invariant.sized in
    let test = c.loop-number-test.true in
    let end = c.len-number-end.ensures in
    let within : number < length terms = omega arith in
    let there : number < length now = omega arith in
    let first = c.loop-number.invariant.grown in
    let then = c.aim_variant.ensures.grown in
    let is = part_at variant_words c.loop-number.terms.items terms number words c.loop-number.invariant.terms c.index_mut-words.ensures.value in
    record {
      terms = parts_kept variant_words c.loop-number.terms.items terms number words c.aim_variant.new.terms c.loop-number.invariant.terms c.index_mut-words.ensures.value c.aim_variant.ensures.terms;
      sized = parts_kept sizes_of now (map (map wanted_size) terms) number c.index_mut-variant.result.now c.aim_variant.new.variant c.loop-number.invariant.sized c.index_mut-variant.ensures.value
          c.aim_variant.ensures.same;
      aimed = more_aimed place now terms number c.aim_variant.new.variant words.items there within is c.loop-number.invariant.aimed c.aim_variant.ensures.aimed;
      price = more_price place now terms number c.aim_variant.new.variant words.items there within is c.args.moves.now c.loop-number.moves c.aim_variant.new.moves
          c.loop-number.invariant.price c.aim_variant.ensures.price;
      grown = omega arith;
    }

pub returns-clause-aimed : goal.returns-clause-aimed
returns-clause-aimed g c =
    let terms = map variant_words c.args.terms.now.items in
    let many = same_length sizes_of (map wanted_size) c.args.variants.now.items terms c.requires.sized in
    let still = same_length sizes_of (map wanted_size) c.loop-number.variants.items terms c.loop-number.invariant.sized in
    let test = c.loop-number-test.false in
    let end = c.len-number-end.ensures in
    subst (λ (ts : List (List WordTerms)). AreAimed c.args.place.now ts c.loop-number.variants.items) (take_all c.loop-number.number terms (omega arith))
    (subst (λ (variants : List (Variant HitPlace)). AreAimed c.args.place.now (take c.loop-number.number terms) variants) (take_all c.loop-number.number c.loop-number.variants.items (omega arith)) c.loop-number.invariant.aimed)

pub returns-clause-price : goal.returns-clause-price
returns-clause-price g c =
    let terms = map variant_words c.args.terms.now.items in
    let many = same_length sizes_of (map wanted_size) c.args.variants.now.items terms c.requires.sized in
    let still = same_length sizes_of (map wanted_size) c.loop-number.variants.items terms c.loop-number.invariant.sized in
    let test = c.loop-number-test.false in
    let end = c.len-number-end.ensures in
    subst (λ (variants : List (Variant HitPlace)). c.loop-number.moves + 2 * all_left (λ cursor. cursor) variants ≤ c.args.moves.now + sum_by (sum_by (moves_for c.args.place.now)) terms)
    (take_all c.loop-number.number c.loop-number.variants.items (omega arith))
    (so_far (sum_by (moves_for c.args.place.now)) terms c.loop-number.number c.args.moves.now
    (c.loop-number.moves + 2 * all_left (λ cursor. cursor) (take c.loop-number.number c.loop-number.variants.items)) c.loop-number.invariant.price)
