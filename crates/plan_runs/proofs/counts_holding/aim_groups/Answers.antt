-- The front and the back of one group more were aimed.
use Rattle.std.proofs.Common.{◌≤◌, ◌<◌, ◌∙◌, length, map, sym, ap, subst, arith}
use Rattle.std.specs.List.{All, sum_by}
use Rattle.ft_base.specs.Hits.{HitPlace}
use Rattle.count_merges.specs.Groups.{group_left}
use Rattle.count_merges.specs.declared.item.VariantGroup.{VariantGroup}
use Rattle.index_phrases.specs.steps.Aiming.{AreThere, variant_words}
use Rattle.index_phrases.proofs.PartLemmas.{as_many, both_at, holds_at, part_at, parts_kept, parts_more, same_length}
use Rattle.plan_runs.specs.steps.AskedPlaces.{wanted_at}
use Rattle.plan_runs.specs.steps.RunCosts.{moves_for}
use Rattle.plan_runs.specs.steps.RunShapes.{term_groups}
use Rattle.plan_runs.proofs.CountAims.{all_left, all_made, back_size, back_wants, front_size, front_wants, group_moves, group_terms, group_wants, more_left, terms_size}
use Rattle.plan_runs.proofs.GroupLaw.{aimed_words}
use Rattle.plan_runs.proofs.counts_holding.aim_groups.Goals as goal

pub index_mut-group-requires : goal.index_mut-group-requires
index_mut-group-requires g c =
    let terms = term_groups c.args.terms.now.items in
    let many = same_length front_size terms_size c.args.groups.now.items terms c.requires.fronts in
    let still = same_length front_size terms_size c.loop-number.groups.items terms c.loop-number.invariant.front_sized in
    omega (arith, many, still, c.loop-number-test.true, c.len-number-end.ensures)

pub index_mut-requires : goal.index_mut-requires
index_mut-requires g c =
    let terms = term_groups c.args.terms.now.items in
    let many = same_length front_size terms_size c.args.groups.now.items terms c.requires.fronts in
    let still = as_many group_terms c.loop-number.terms.items terms c.loop-number.invariant.terms in
    omega (arith, many, still, c.loop-number-test.true, c.len-number-end.ensures)

pub aim_variants-requires-clause-sized : goal.aim_variants-requires-clause-sized
aim_variants-requires-clause-sized g c =
    let terms = term_groups c.args.terms.now.items in
    let number = c.loop-number.number in
    let row = c.index_mut.result.now in
    let many = same_length front_size terms_size c.args.groups.now.items terms c.requires.fronts in
    let within : number < length terms = omega (arith, many, c.loop-number-test.true, c.len-number-end.ensures) in
    let sizes = both_at front_size terms_size c.loop-number.groups.items terms number c.index_mut-group.result.now (group_terms row) c.loop-number.invariant.front_sized within c.index_mut-group.ensures.value
    (part_at group_terms c.loop-number.terms.items terms number row c.loop-number.invariant.terms c.index_mut.ensures.value) in
    λ i. (sizes i).1

pub aim_variants-requires-clause-there : goal.aim_variants-requires-clause-there
aim_variants-requires-clause-there g c =
    let terms = term_groups c.args.terms.now.items in
    let many = same_length front_size terms_size c.args.groups.now.items terms c.requires.fronts in
    let still = as_many group_terms c.loop-number.terms.items terms c.loop-number.invariant.terms in
    let within : c.loop-number.number < length c.loop-number.terms.items = omega (arith, many, still, c.loop-number-test.true, c.len-number-end.ensures) in
    holds_at group_terms (λ group. All (All (AreThere c.args.place.now.version.now)) group.1) c.loop-number.terms.items terms c.loop-number.number c.index_mut.result.now
    c.requires.there c.loop-number.invariant.terms within c.index_mut.ensures.value

pub aim_variants-requires-in-loop-number-clause-sized : goal.aim_variants-requires-in-loop-number-clause-sized
aim_variants-requires-in-loop-number-clause-sized g c =
    let terms = term_groups c.args.terms.now.items in
    let number = c.loop-number.number in
    let row = c.index_mut.result.now in
    let many = same_length front_size terms_size c.args.groups.now.items terms c.requires.fronts in
    let within : number < length terms = omega (arith, many, c.loop-number-test.true, c.len-number-end.ensures) in
    let is = part_at group_terms c.loop-number.terms.items terms number row c.loop-number.invariant.terms c.index_mut.ensures.value in
    let sizes = both_at back_size terms_size c.loop-number.groups.items terms number c.index_mut-group.result.now (group_terms row) c.loop-number.invariant.back_sized within c.index_mut-group.ensures.value is in
    let same = c.aim_variants.ensures.terms in
    (λ i. (sizes i).1) ∙ (λ i. (terms_size (row.words, sym same i)).1)

pub aim_variants-requires-in-loop-number-clause-there : goal.aim_variants-requires-in-loop-number-clause-there
aim_variants-requires-in-loop-number-clause-there g c =
    let terms = term_groups c.args.terms.now.items in
    let many = same_length front_size terms_size c.args.groups.now.items terms c.requires.fronts in
    let still = as_many group_terms c.loop-number.terms.items terms c.loop-number.invariant.terms in
    let within : c.loop-number.number < length c.loop-number.terms.items = omega (arith, many, still, c.loop-number-test.true, c.len-number-end.ensures) in
    subst (All (All (AreThere c.args.place.now.version.now))) (sym c.aim_variants.ensures.terms)
    (holds_at group_terms (λ group. All (All (AreThere c.args.place.now.version.now)) group.1) c.loop-number.terms.items terms c.loop-number.number c.index_mut.result.now
    c.requires.there c.loop-number.invariant.terms within c.index_mut.ensures.value)

pub loop-number-preserved : goal.loop-number-preserved
loop-number-preserved g c =
    let place = c.args.place.now in
    let terms = term_groups c.args.terms.now.items in
    let now = c.loop-number.groups.items in
    let number = c.loop-number.number in
    let group = c.index_mut-group.result.now in
    let row = c.index_mut.result.now in
    let first = c.aim_variants.ensures in
    let then = c.aim_variants-in-loop-number.ensures in
    let aimed : VariantGroup HitPlace = record {
      words = group.words;
      front = c.aim_variants.new.variants;
      back = c.aim_variants-in-loop-number.new.variants;
      come = group.come;
      gone = group.gone;
    } in
    let many = same_length front_size terms_size c.args.groups.now.items terms c.requires.fronts in
    let still = same_length front_size terms_size now terms c.loop-number.invariant.front_sized in
    let within : number < length terms = omega (arith, many, c.loop-number-test.true, c.len-number-end.ensures) in
    let there : number < length now = omega (arith, still, within) in
    let is = part_at group_terms c.loop-number.terms.items terms number row c.loop-number.invariant.terms c.index_mut.ensures.value in
    let grown : c.loop-number.moves ≤ c.aim_variants-in-loop-number.new.moves = omega (arith, first.grown, then.grown) in
    let front = parts_more front_size terms_size front_wants (group_wants place) now terms number c.args.moves.now c.loop-number.moves c.aim_variants-in-loop-number.new.moves group aimed (group_terms row)
    c.loop-number.invariant.front_sized within c.index_mut-group.ensures.value is (λ i. (group.words, first.same i))
    (aimed_words place (map variant_words row.variants.items) c.aim_variants.new.variants.items first.aimed) c.loop-number.invariant.fronts c.loop-number.invariant.grown grown in
    let back = parts_more back_size terms_size back_wants (group_wants place) now terms number c.args.moves.now c.loop-number.moves c.aim_variants-in-loop-number.new.moves group aimed (group_terms row)
    c.loop-number.invariant.back_sized within c.index_mut-group.ensures.value is (λ i. (group.words, then.same i))
    (aimed_words place (map variant_words c.aim_variants.new.terms.items) c.aim_variants-in-loop-number.new.variants.items then.aimed ∙ ap (map (map (wanted_at place))) first.terms)
    c.loop-number.invariant.backs c.loop-number.invariant.grown grown in
    let cost = ap (sum_by (sum_by (moves_for place))) first.terms in
    let kept = then.terms ∙ first.terms in
    record {
      terms = parts_kept group_terms c.loop-number.terms.items terms number row (record { words = row.words; variants = c.aim_variants-in-loop-number.new.terms }) c.loop-number.invariant.terms c.index_mut.ensures.value
          (λ i. (row.words, kept i));
      front_sized = front.sized;
      back_sized = back.sized;
      fronts = front.done;
      backs = back.done;
      price = more_left (group_left (λ cursor. cursor)) (group_moves place) now terms number aimed (group_terms row) there within is c.args.moves.now c.loop-number.moves c.aim_variants-in-loop-number.new.moves
          c.loop-number.invariant.price (omega (arith, cost, first.price, then.price));
      grown = front.grown;
    }

pub returns-clause-fronts : goal.returns-clause-fronts
returns-clause-fronts g c =
    let terms = term_groups c.args.terms.now.items in
    let many = same_length front_size terms_size c.args.groups.now.items terms c.requires.fronts in
    let still = same_length front_size terms_size c.loop-number.groups.items terms c.loop-number.invariant.front_sized in
    let ends : length terms ≤ c.loop-number.number = omega (arith, many, c.loop-number-test.false, c.len-number-end.ensures) in
    all_made c.loop-number.groups.items terms c.loop-number.number (omega (arith, still, ends)) ends front_wants (group_wants c.args.place.now) c.loop-number.invariant.fronts

pub returns-clause-backs : goal.returns-clause-backs
returns-clause-backs g c =
    let terms = term_groups c.args.terms.now.items in
    let many = same_length front_size terms_size c.args.groups.now.items terms c.requires.fronts in
    let still = same_length front_size terms_size c.loop-number.groups.items terms c.loop-number.invariant.front_sized in
    let ends : length terms ≤ c.loop-number.number = omega (arith, many, c.loop-number-test.false, c.len-number-end.ensures) in
    all_made c.loop-number.groups.items terms c.loop-number.number (omega (arith, still, ends)) ends back_wants (group_wants c.args.place.now) c.loop-number.invariant.backs

pub returns-clause-front_sizes : goal.returns-clause-front_sizes
returns-clause-front_sizes g c = c.loop-number.invariant.front_sized ∙ sym c.requires.fronts

pub returns-clause-back_sizes : goal.returns-clause-back_sizes
returns-clause-back_sizes g c = c.loop-number.invariant.back_sized ∙ sym c.requires.backs

pub returns-clause-price : goal.returns-clause-price
returns-clause-price g c =
    let terms = term_groups c.args.terms.now.items in
    let many = same_length front_size terms_size c.args.groups.now.items terms c.requires.fronts in
    let still = same_length front_size terms_size c.loop-number.groups.items terms c.loop-number.invariant.front_sized in
    let ends : length terms ≤ c.loop-number.number = omega (arith, many, c.loop-number-test.false, c.len-number-end.ensures) in
    all_left c.loop-number.groups.items terms c.loop-number.number (omega (arith, still, ends)) ends (group_left (λ cursor. cursor)) (group_moves c.args.place.now) c.args.moves.now c.loop-number.moves
    c.loop-number.invariant.price
