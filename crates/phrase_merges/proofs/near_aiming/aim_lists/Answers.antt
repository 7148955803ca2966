-- List by list.
use Rattle.std.proofs.Common.{ap, sym, ◌∙◌, map, arith, length, ◌<◌}
use Rattle.std.proofs.lemmas.List.{length-map}
use Rattle.ft_operators.specs.Phrases.{PhraseState, aimed_at}
use Rattle.phrase_merges.specs.steps.Passing.{next_of_lists}
use Rattle.phrase_merges.proofs.ListLoops.{changed_at, changing_at, changing_count, changing_ends, changing_on}
use Rattle.phrase_merges.proofs.PassingLemmas.{next_ends, next_on}
use Rattle.place_merges.proofs.MoveLemmas.{all_at}
use Rattle.phrase_merges.proofs.near_aiming.aim_lists.Goals as goal

pub index_mut-list-requires : goal.index_mut-list-requires
index_mut-list-requires g c =
    let f = aimed_at c.args.doc.0 c.args.span in
    let many = changing_count f g.P.PhraseHits.state c.args.lists.now.items c.loop-number.lists.items c.loop-number.number c.args.steps.now c.loop-number.steps c.loop-number.invariant.changing in
    omega (arith, c.loop-number-test.true, c.len-number-end.ensures, many, c.args.lists.now.ok.0, c.loop-number.lists.ok.0)

pub aim-requires : goal.aim-requires
aim-requires g c =
    let state = g.P.PhraseHits.state in
    let f = aimed_at c.args.doc.0 c.args.span in
    let old = c.args.lists.now.items in
    let many = changing_count f state old c.loop-number.lists.items c.loop-number.number c.args.steps.now c.loop-number.steps c.loop-number.invariant.changing in
    all_at (λ (s : PhraseState). s.aims.may c.args.doc.0 c.args.span) (map state old) c.loop-number.number (state c.index_mut-list.result.now)
    (omega (arith, c.loop-number-test.true, c.len-number-end.ensures, length-map old state, c.args.lists.now.ok.0))
    (changing_at f state old c.loop-number.lists.items c.loop-number.number c.args.steps.now c.loop-number.steps c.index_mut-list.result.now c.loop-number.invariant.changing c.index_mut-list.ensures.value)
    c.requires

pub loop-number-preserved : goal.loop-number-preserved
loop-number-preserved g c =
    let state = g.P.PhraseHits.state in
    let f = aimed_at c.args.doc.0 c.args.span in
    let old = c.args.lists.now.items in
    let now = c.loop-number.lists.items in
    let so_far = c.loop-number.invariant.changing in
    let read = c.index_mut-list.ensures.value in
    let many = changing_count f state old now c.loop-number.number c.args.steps.now c.loop-number.steps so_far in
    let within : c.loop-number.number < length now = omega (arith, c.loop-number-test.true, c.len-number-end.ensures, many, c.args.lists.now.ok.0) in
    let few = length-map old state in
    let fewer = length-map (map state old) f in
    record {
      changing = changing_on f state old now c.loop-number.number c.args.steps.now c.loop-number.steps c.aim.new.steps c.index_mut-list.result.now c.aim.new.self
          so_far within read c.aim.ensures.moved c.aim.ensures.grown;
      next = next_on (map f (map state old)) c.loop-number.number c.loop-number.next c.end_here.result c.soonest-next.result (state c.aim.new.self)
          (omega (arith, within, many, few, fewer))
          (changed_at f state old now c.loop-number.number c.args.steps.now c.loop-number.steps c.index_mut-list.result.now c.aim.new.self so_far read c.aim.ensures.moved)
          c.loop-number.invariant.next c.end_here.ensures c.soonest-next.ensures;
    }

pub returns-clause-aimed : goal.returns-clause-aimed
returns-clause-aimed g c =
    let state = g.P.PhraseHits.state in
    let f = aimed_at c.args.doc.0 c.args.span in
    let so_far = c.loop-number.invariant.changing in
    let many = changing_count f state c.args.lists.now.items c.loop-number.lists.items c.loop-number.number c.args.steps.now c.loop-number.steps so_far in
    changing_ends f state c.args.lists.now.items c.loop-number.lists.items c.loop-number.number c.args.steps.now c.loop-number.steps so_far
    (omega (arith, c.loop-number-test.false, c.len-number-end.ensures, many, c.args.lists.now.ok.0))

pub returns-clause-first : goal.returns-clause-first
returns-clause-first g c =
    let state = g.P.PhraseHits.state in
    let f = aimed_at c.args.doc.0 c.args.span in
    let old = c.args.lists.now.items in
    let so_far = c.loop-number.invariant.changing in
    let many = changing_count f state old c.loop-number.lists.items c.loop-number.number c.args.steps.now c.loop-number.steps so_far in
    let few = length-map old state in
    let fewer = length-map (map state old) f in
    next_ends (map f (map state old)) c.loop-number.number c.loop-number.next (omega (arith, c.loop-number-test.false, c.len-number-end.ensures, few, fewer, c.args.lists.now.ok.0)) c.loop-number.invariant.next
    ∙ ap next_of_lists (sym (changing_ends f state old c.loop-number.lists.items c.loop-number.number c.args.steps.now c.loop-number.steps so_far
    (omega (arith, c.loop-number-test.false, c.len-number-end.ensures, many, c.args.lists.now.ok.0))))
