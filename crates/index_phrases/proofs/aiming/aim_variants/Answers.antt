-- The cursors of one variant more were aimed.
use Rattle.std.proofs.Common.{◌≤◌, ◌<◌, ◌∙◌, Bool, List, ap, sym, length, map, true, arith}
use Rattle.std.specs.List.{All}
use Rattle.std.proofs.lemmas.List.{take_all}
use Rattle.place_merges.specs.Places.{Wanted}
use Rattle.index_phrases.specs.steps.Aiming.{HasDocument, counted_words, own_wanted, sizes_of, variant_words, wanted_size}
use Rattle.index_phrases.specs.declared.word_terms.WordTerms.{WordTerms}
use Rattle.index_phrases.proofs.AimLemmas.{all_wanted}
use Rattle.index_phrases.proofs.PartLemmas.{as_many, both_at, holds_at, part_at, parts_kept, parts_more, same_length}
use Rattle.index_phrases.proofs.aiming.aim_variants.Goals as goal

pub index_mut-words-requires : goal.index_mut-words-requires
index_mut-words-requires g c =
    let terms = map variant_words c.args.terms.now.items in
    let many = same_length sizes_of (map wanted_size) c.args.variants.now.items terms c.requires.sized in
    let still = as_many variant_words c.loop-number.terms.items terms c.loop-number.invariant.terms in
    let test = c.loop-number-test.true in
    let end = c.len-number-end.ensures in
    omega arith

pub aim_variant-requires-clause-sized : goal.aim_variant-requires-clause-sized
aim_variant-requires-clause-sized g c =
    let terms = map variant_words c.args.terms.now.items in
    let number = c.loop-number.number in
    let words = c.index_mut-words.result.now in
    let many = same_length sizes_of (map wanted_size) c.args.variants.now.items terms c.requires.sized in
    let test = c.loop-number-test.true in
    let end = c.len-number-end.ensures in
    let within : number < length terms = omega arith in
    both_at sizes_of (map wanted_size) c.loop-number.variants.items terms number c.index_mut-variant.result.now words.items
    c.loop-number.invariant.sized within c.index_mut-variant.ensures.value
    (part_at variant_words c.loop-number.terms.items terms number words c.loop-number.invariant.terms c.index_mut-words.ensures.value)

pub aim_variant-requires-clause-there : goal.aim_variant-requires-clause-there
aim_variant-requires-clause-there g c =
    let terms = map variant_words c.args.terms.now.items in
    let number = c.loop-number.number in
    let many = same_length sizes_of (map wanted_size) c.args.variants.now.items terms c.requires.sized in
    let still = as_many variant_words c.loop-number.terms.items terms c.loop-number.invariant.terms in
    let test = c.loop-number-test.true in
    let end = c.len-number-end.ensures in
    let within : number < length c.loop-number.terms.items = omega arith in
    holds_at variant_words (All (HasDocument c.args.target.now.doc.0)) c.loop-number.terms.items terms number c.index_mut-words.result.now
    c.requires.there c.loop-number.invariant.terms within c.index_mut-words.ensures.value

pub loop-number-preserved : goal.loop-number-preserved
loop-number-preserved g c =
    let terms = map variant_words c.args.terms.now.items in
    let number = c.loop-number.number in
    let words = c.index_mut-words.result.now in
    let to_make : List WordTerms → Bool × List Wanted = λ words. (true, map (own_wanted c.args.target.now.doc.0 c.args.target.now.span) words) in
    let many = same_length sizes_of (map wanted_size) c.args.variants.now.items terms c.requires.sized in
    let test = c.loop-number-test.true in
    let end = c.len-number-end.ensures in
    let within : number < length terms = omega arith in
    let is = part_at variant_words c.loop-number.terms.items terms number words c.loop-number.invariant.terms c.index_mut-words.ensures.value in
    let more = parts_more sizes_of (map wanted_size) counted_words to_make c.loop-number.variants.items terms number
    c.args.steps.now c.loop-number.steps c.aim_variant.new.steps c.index_mut-variant.result.now c.aim_variant.new.variant words.items
    c.loop-number.invariant.sized within c.index_mut-variant.ensures.value is c.aim_variant.ensures.same c.aim_variant.ensures.aimed c.loop-number.invariant.done
    c.loop-number.invariant.grown c.aim_variant.ensures.grown in
    record {
      terms = parts_kept variant_words c.loop-number.terms.items terms number words c.aim_variant.new.terms c.loop-number.invariant.terms c.index_mut-words.ensures.value c.aim_variant.ensures.terms;
      sized = more.sized;
      done = more.done;
      grown = more.grown;
    }

pub returns-clause-aimed : goal.returns-clause-aimed
returns-clause-aimed g c =
    let terms = map variant_words c.args.terms.now.items in
    let want = own_wanted c.args.target.now.doc.0 c.args.target.now.span in
    let to_make : List WordTerms → Bool × List Wanted = λ words. (true, map want words) in
    let many = same_length sizes_of (map wanted_size) c.args.variants.now.items terms c.requires.sized in
    let still = same_length sizes_of (map wanted_size) c.loop-number.variants.items terms c.loop-number.invariant.sized in
    let test = c.loop-number-test.false in
    let end = c.len-number-end.ensures in
    let all : length terms ≤ c.loop-number.number = omega arith in
    let each : length c.loop-number.variants.items ≤ c.loop-number.number = omega arith in
    all_wanted want c.loop-number.variants.items terms
    (sym (ap (map counted_words) (take_all c.loop-number.number c.loop-number.variants.items each))
    ∙ c.loop-number.invariant.done
    ∙ ap (map to_make) (take_all c.loop-number.number terms all))

pub returns-clause-same : goal.returns-clause-same
returns-clause-same g c = c.loop-number.invariant.sized ∙ sym c.requires.sized
