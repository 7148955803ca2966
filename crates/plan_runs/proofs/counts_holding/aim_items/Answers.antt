-- The front and the back of one item more were aimed.
use Rattle.std.proofs.Common.{◌≤◌, ◌<◌, ◌∙◌, length, map, sym, arith}
use Rattle.std.specs.List.{All, sum_by}
use Rattle.ft_base.specs.Hits.{HitPlace}
use Rattle.count_merges.specs.Groups.{group_left}
use Rattle.count_merges.specs.declared.item.CountedItem.{CountedItem}
use Rattle.index_phrases.specs.steps.Aiming.{AreThere}
use Rattle.index_phrases.proofs.PartLemmas.{as_many, both_at, holds_at, part_at, parts_kept, parts_more, same_length}
use Rattle.plan_runs.specs.steps.RunShapes.{item_backs, item_bounds, item_fronts, term_counts}
use Rattle.plan_runs.proofs.CountAims.{all_left, all_made, item_back_wants, item_front_wants, terms_moves, terms_sizes, terms_wants, more_left}
use Rattle.plan_runs.proofs.counts_holding.aim_items.Goals as goal

pub index_mut-requires : goal.index_mut-requires
index_mut-requires g c =
    let terms = map term_counts c.args.words.now.items in
    let many = same_length item_fronts terms_sizes c.args.items.now.items terms c.requires.fronts in
    let still = as_many term_counts c.loop-number.words.items terms c.loop-number.invariant.words in
    omega (arith, many, still, c.loop-number-test.true, c.len-number-end.ensures)

pub index_mut-requires-in-loop-number : goal.index_mut-requires-in-loop-number
index_mut-requires-in-loop-number g c =
    let terms = map term_counts c.args.words.now.items in
    let many = same_length item_fronts terms_sizes c.args.items.now.items terms c.requires.fronts in
    let still = same_length item_fronts terms_sizes c.loop-number.items.items terms c.loop-number.invariant.front_sized in
    omega (arith, many, still, c.loop-number-test.true, c.len-number-end.ensures)

pub aim_groups-requires-clause-fronts : goal.aim_groups-requires-clause-fronts
aim_groups-requires-clause-fronts g c =
    let terms = map term_counts c.args.words.now.items in
    let number = c.loop-number.number in
    let row = c.index_mut.result.now in
    let many = same_length item_fronts terms_sizes c.args.items.now.items terms c.requires.fronts in
    let within : number < length terms = omega (arith, many, c.loop-number-test.true, c.len-number-end.ensures) in
    both_at item_fronts terms_sizes c.loop-number.items.items terms number c.index_mut-in-loop-number.result.now (term_counts row) c.loop-number.invariant.front_sized within c.index_mut-in-loop-number.ensures.value
    (part_at term_counts c.loop-number.words.items terms number row c.loop-number.invariant.words c.index_mut.ensures.value)

pub aim_groups-requires-clause-backs : goal.aim_groups-requires-clause-backs
aim_groups-requires-clause-backs g c =
    let terms = map term_counts c.args.words.now.items in
    let number = c.loop-number.number in
    let row = c.index_mut.result.now in
    let many = same_length item_fronts terms_sizes c.args.items.now.items terms c.requires.fronts in
    let within : number < length terms = omega (arith, many, c.loop-number-test.true, c.len-number-end.ensures) in
    both_at item_backs terms_sizes c.loop-number.items.items terms number c.index_mut-in-loop-number.result.now (term_counts row) c.loop-number.invariant.back_sized within c.index_mut-in-loop-number.ensures.value
    (part_at term_counts c.loop-number.words.items terms number row c.loop-number.invariant.words c.index_mut.ensures.value)

pub aim_groups-requires-clause-there : goal.aim_groups-requires-clause-there
aim_groups-requires-clause-there g c =
    let terms = map term_counts c.args.words.now.items in
    let many = same_length item_fronts terms_sizes c.args.items.now.items terms c.requires.fronts in
    let still = as_many term_counts c.loop-number.words.items terms c.loop-number.invariant.words in
    let within : c.loop-number.number < length c.loop-number.words.items = omega (arith, many, still, c.loop-number-test.true, c.len-number-end.ensures) in
    holds_at term_counts (λ item. All (λ group. All (All (AreThere c.args.place.now.version.now)) group.1) item.groups) c.loop-number.words.items terms c.loop-number.number c.index_mut.result.now
    c.requires.there c.loop-number.invariant.words within c.index_mut.ensures.value

pub loop-number-preserved : goal.loop-number-preserved
loop-number-preserved g c =
    let place = c.args.place.now in
    let terms = map term_counts c.args.words.now.items in
    let now = c.loop-number.items.items in
    let number = c.loop-number.number in
    let item = c.index_mut-in-loop-number.result.now in
    let row = c.index_mut.result.now in
    let made = c.aim_groups.ensures in
    let aimed : CountedItem HitPlace = record { least = item.least; most = item.most; groups = c.aim_groups.new.groups } in
    let many = same_length item_fronts terms_sizes c.args.items.now.items terms c.requires.fronts in
    let still = same_length item_fronts terms_sizes now terms c.loop-number.invariant.front_sized in
    let within : number < length terms = omega (arith, many, c.loop-number-test.true, c.len-number-end.ensures) in
    let there : number < length now = omega (arith, still, within) in
    let is = part_at term_counts c.loop-number.words.items terms number row c.loop-number.invariant.words c.index_mut.ensures.value in
    let front = parts_more item_fronts terms_sizes item_front_wants (terms_wants place) now terms number c.args.moves.now c.loop-number.moves c.aim_groups.new.moves item aimed (term_counts row)
    c.loop-number.invariant.front_sized within c.index_mut-in-loop-number.ensures.value is made.front_sizes made.fronts c.loop-number.invariant.fronts c.loop-number.invariant.grown made.grown in
    let back = parts_more item_backs terms_sizes item_back_wants (terms_wants place) now terms number c.args.moves.now c.loop-number.moves c.aim_groups.new.moves item aimed (term_counts row)
    c.loop-number.invariant.back_sized within c.index_mut-in-loop-number.ensures.value is made.back_sizes made.backs c.loop-number.invariant.backs c.loop-number.invariant.grown made.grown in
    record {
      words = parts_kept term_counts c.loop-number.words.items terms number row (record { least = row.least; most = row.most; groups = c.aim_groups.new.terms }) c.loop-number.invariant.words c.index_mut.ensures.value
          (λ i. record { least = row.least; most = row.most; groups = made.terms i });
      bounds = parts_kept item_bounds now (map item_bounds c.args.items.now.items) number item aimed c.loop-number.invariant.bounds c.index_mut-in-loop-number.ensures.value (λ i. item_bounds item);
      front_sized = front.sized;
      back_sized = back.sized;
      fronts = front.done;
      backs = back.done;
      price = more_left (λ (one : CountedItem HitPlace). sum_by (group_left (λ cursor. cursor)) one.groups.items) (terms_moves place) now terms number aimed (term_counts row) there within is c.args.moves.now c.loop-number.moves
          c.aim_groups.new.moves c.loop-number.invariant.price made.price;
      grown = front.grown;
    }

pub returns-clause-fronts : goal.returns-clause-fronts
returns-clause-fronts g c =
    let terms = map term_counts c.args.words.now.items in
    let many = same_length item_fronts terms_sizes c.args.items.now.items terms c.requires.fronts in
    let still = same_length item_fronts terms_sizes c.loop-number.items.items terms c.loop-number.invariant.front_sized in
    let ends : length terms ≤ c.loop-number.number = omega (arith, many, c.loop-number-test.false, c.len-number-end.ensures) in
    all_made c.loop-number.items.items terms c.loop-number.number (omega (arith, still, ends)) ends item_front_wants (terms_wants c.args.place.now) c.loop-number.invariant.fronts

pub returns-clause-backs : goal.returns-clause-backs
returns-clause-backs g c =
    let terms = map term_counts c.args.words.now.items in
    let many = same_length item_fronts terms_sizes c.args.items.now.items terms c.requires.fronts in
    let still = same_length item_fronts terms_sizes c.loop-number.items.items terms c.loop-number.invariant.front_sized in
    let ends : length terms ≤ c.loop-number.number = omega (arith, many, c.loop-number-test.false, c.len-number-end.ensures) in
    let fronts = all_made c.loop-number.items.items terms c.loop-number.number (omega (arith, still, ends)) ends item_front_wants (terms_wants c.args.place.now) c.loop-number.invariant.fronts in
    let backs = all_made c.loop-number.items.items terms c.loop-number.number (omega (arith, still, ends)) ends item_back_wants (terms_wants c.args.place.now) c.loop-number.invariant.backs in
    backs ∙ sym fronts

pub returns-clause-front_sizes : goal.returns-clause-front_sizes
returns-clause-front_sizes g c = c.loop-number.invariant.front_sized ∙ sym c.requires.fronts

pub returns-clause-back_sizes : goal.returns-clause-back_sizes
returns-clause-back_sizes g c = c.loop-number.invariant.back_sized ∙ sym c.requires.backs

pub returns-clause-price : goal.returns-clause-price
returns-clause-price g c =
    let terms = map term_counts c.args.words.now.items in
    let many = same_length item_fronts terms_sizes c.args.items.now.items terms c.requires.fronts in
    let still = same_length item_fronts terms_sizes c.loop-number.items.items terms c.loop-number.invariant.front_sized in
    let ends : length terms ≤ c.loop-number.number = omega (arith, many, c.loop-number-test.false, c.len-number-end.ensures) in
    all_left c.loop-number.items.items terms c.loop-number.number (omega (arith, still, ends)) ends (λ (one : CountedItem HitPlace). sum_by (group_left (λ cursor. cursor)) one.groups.items) (terms_moves c.args.place.now)
    c.args.moves.now c.loop-number.moves c.loop-number.invariant.price
