-- Until a window holds the first hits, the next ones are sought.
use Rattle.std.proofs.Common.{sym, ap, ◌∙◌}
use Rattle.match_marks.specs.steps.WindowRuns.{places_of}
use Rattle.match_marks.proofs.WindowSearch.{search_fails, search_fewer, search_found, search_on, search_starts}
use Rattle.match_marks.proofs.window.first_in_window.Goals as goal

pub loop-joined-init : goal.loop-joined-init
loop-joined-init g c =
    search_starts c.args.size c.args.phrases.now.items c.join_from-joined.new.phrases.items c.join_from-joined.result c.args.steps.now c.join_from-joined.new.steps
    c.requires.hits c.join_from-joined.ensures.walks c.join_from-joined.ensures.joined c.join_from-joined.ensures.grown

pub returns-then-is_within-clause-found : goal.returns-then-is_within-clause-found
returns-then-is_within-clause-found g c =
    ap places_of (sym c.in-Some.is)
    ∙ search_found c.args.size c.args.phrases.now.items c.loop-joined.phrases.items c.loop-joined.joined c.args.steps.now c.loop-joined.steps c.loop-joined.invariant
    c.in-Some.found c.in-Some.is (sym c.is_within.ensures ∙ c.if-is_within.true)

pub loop-joined-smaller : goal.loop-joined-smaller
loop-joined-smaller g c =
    search_fewer c.args.size c.args.phrases.now.items c.loop-joined.phrases.items c.loop-joined.joined c.args.steps.now c.loop-joined.steps c.loop-joined.invariant
    c.in-Some.found c.in-Some.is (sym c.is_within.ensures ∙ c.if-is_within.false) c.next_start.result c.next_start.ensures
    c.join_from-joined-in-Some.new.phrases.items c.join_from-joined-in-Some.ensures.walks

pub loop-joined-preserved : goal.loop-joined-preserved
loop-joined-preserved g c =
    search_on c.args.size c.args.phrases.now.items c.loop-joined.phrases.items c.loop-joined.joined c.args.steps.now c.loop-joined.steps c.loop-joined.invariant
    c.in-Some.found c.in-Some.is (sym c.is_within.ensures ∙ c.if-is_within.false) c.next_start.result c.next_start.ensures
    c.join_from-joined-in-Some.new.phrases.items c.join_from-joined-in-Some.ensures.walks
    c.join_from-joined-in-Some.result c.join_from-joined-in-Some.new.steps c.join_from-joined-in-Some.ensures.joined c.join_from-joined-in-Some.ensures.grown

pub returns-clause-found : goal.returns-clause-found
returns-clause-found g c =
    search_fails c.args.size c.args.phrases.now.items c.loop-joined.phrases.items c.loop-joined.joined c.args.steps.now c.loop-joined.steps c.loop-joined.invariant
    c.in_default.is
