-- List by list.
use Rattle.std.proofs.Common.{map, arith, length, ◌<◌}
use Rattle.std.proofs.lemmas.List.{length-map}
use Rattle.phrase_merges.specs.steps.Passing.{list_behind, next_of_lists}
use Rattle.phrase_merges.proofs.ListLoops.{changed_at, changing_at, changing_count, changing_ends, changing_on}
use Rattle.phrase_merges.proofs.PassingLemmas.{next_ends, next_on, start_on}
use Rattle.std.proofs.Common.{ap, sym, ◌∙◌}
use Rattle.phrase_merges.proofs.passing.pass_lists.Goals as goal

pub loop-number-preserved : goal.loop-number-preserved
loop-number-preserved g c =
    let state = g.P.PhraseHits.state in
    let f = list_behind c.args.end in
    let old = c.args.lists.now.items in
    let now = c.loop-number.lists.items in
    let so_far = c.loop-number.invariant.changing in
    let read = c.index_mut.ensures.value in
    let many = changing_count f state old now c.loop-number.number c.args.steps.now c.loop-number.steps so_far in
    let within : c.loop-number.number < length now = omega (arith, c.loop-number-test.true, c.len-number-end.ensures, many, c.args.lists.now.ok.0) in
    let few = length-map old state in
    let fewer = length-map (map state old) f in
    record {
      changing = changing_on f state old now c.loop-number.number c.args.steps.now c.loop-number.steps c.pass_list-one.new.steps c.index_mut.result.now c.pass_list-one.new.list
          so_far within read c.pass_list-one.ensures.left c.pass_list-one.ensures.grown;
      start = start_on c.args.end (map state old) c.loop-number.number c.loop-number.passed.start c.args.start c.pass_list-one.result.start (state c.index_mut.result.now)
          (omega (arith, within, many, few)) (changing_at f state old now c.loop-number.number c.args.steps.now c.loop-number.steps c.index_mut.result.now so_far read)
          c.loop-number.invariant.start c.pass_list-one.ensures.start;
      next = next_on (map f (map state old)) c.loop-number.number c.loop-number.passed.next c.pass_list-one.result.next c.soonest.result (state c.pass_list-one.new.list)
          (omega (arith, within, many, few, fewer))
          (changed_at f state old now c.loop-number.number c.args.steps.now c.loop-number.steps c.index_mut.result.now c.pass_list-one.new.list so_far read c.pass_list-one.ensures.left)
          c.loop-number.invariant.next c.pass_list-one.ensures.next c.soonest.ensures;
    }

pub returns-clause-left : goal.returns-clause-left
returns-clause-left g c =
    let state = g.P.PhraseHits.state in
    let f = list_behind c.args.end in
    let so_far = c.loop-number.invariant.changing in
    let many = changing_count f state c.args.lists.now.items c.loop-number.lists.items c.loop-number.number c.args.steps.now c.loop-number.steps so_far in
    changing_ends f state c.args.lists.now.items c.loop-number.lists.items c.loop-number.number c.args.steps.now c.loop-number.steps so_far
    (omega (arith, c.loop-number-test.false, c.len-number-end.ensures, many, c.args.lists.now.ok.0))

pub returns-clause-next : goal.returns-clause-next
returns-clause-next g c =
    let state = g.P.PhraseHits.state in
    let f = list_behind c.args.end in
    let old = c.args.lists.now.items in
    let so_far = c.loop-number.invariant.changing in
    let many = changing_count f state old c.loop-number.lists.items c.loop-number.number c.args.steps.now c.loop-number.steps so_far in
    let few = length-map old state in
    let fewer = length-map (map state old) f in
    next_ends (map f (map state old)) c.loop-number.number c.loop-number.passed.next (omega (arith, c.loop-number-test.false, c.len-number-end.ensures, few, fewer, c.args.lists.now.ok.0)) c.loop-number.invariant.next
    ∙ ap next_of_lists (sym (changing_ends f state old c.loop-number.lists.items c.loop-number.number c.args.steps.now c.loop-number.steps so_far
    (omega (arith, c.loop-number-test.false, c.len-number-end.ensures, many, c.args.lists.now.ok.0))))
