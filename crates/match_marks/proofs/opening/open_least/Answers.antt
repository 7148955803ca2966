-- A window round phrases, where it is one.
use Rattle.std.proofs.Common.{sym}
use Rattle.match_marks.proofs.WindowOpened.{is_window, window_opened}
use Rattle.match_marks.proofs.opening.open_least.Goals as goal

pub open_window-requires-clause-some : goal.open_window-requires-clause-some
open_window-requires-clause-some c = (is_window c.args.plan.now.operator c.in-Some.size c.in-Some.operand.now (sym c.in-Some.ensures)).some

pub open_window-requires-clause-joined : goal.open_window-requires-clause-joined
open_window-requires-clause-joined c = (is_window c.args.plan.now.operator c.in-Some.size c.in-Some.operand.now (sym c.in-Some.ensures)).joins

pub returns-in_ok-open_window-in-Some : goal.returns-in_ok-open_window-in-Some
returns-in_ok-open_window-in-Some c =
    let opening = c.args.opening.now in
    window_opened opening.looks opening.lists.now.stems opening.version.now c.in_ok-open_window-in-Some.field-0 c.args.plan.now c.in-Some.size c.in-Some.operand.now
    (is_window c.args.plan.now.operator c.in-Some.size c.in-Some.operand.now (sym c.in-Some.ensures)) c.in_ok-open_window-in-Some.ensures.size c.in_ok-open_window-in-Some.ensures.phrases
