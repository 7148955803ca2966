-- The first line goes on, or ends and says what blocks end at.
use Rattle.std.proofs.Common.{◌≡◌, ◌∙◌, sym, ap, ◌+◌, arith, true, false}
use Rattle.std.proofs.lemmas.List.{take_rest}
use Rattle.std.proofs.lemmas.Result.{IfOk-weaker}
use Rattle.session_text.specs.Commands.{says_second}
use Rattle.session_text.specs.Lines.{without_mark}
use Rattle.session_text.proofs.ReachedLemmas.{first_period_as, first_place_as, first_sized_as, first_unended_as}
use Rattle.session_text.proofs.reached.Reached.take_first.Goals as goal

pub returns-then-end-piece-clause-place : goal.returns-then-end-piece-clause-place
returns-then-end-piece-clause-place c =
    first_place_as _ c.args.self.now c.hold.new.self c.args.taken c.args.piece.now c.line_end-end.result c.self.view_is c.requires.first c.requires.place c.line_end-end.ensures.first c.in_ok-hold.ensures

pub returns-then-says_second-clause-commands : goal.returns-then-says_second-clause-commands
returns-then-says_second-clause-commands c =
    let says : says_second (without_mark c.hold.new.self.rest) ≡ true = ap (λ w. says_second (without_mark w)) (sym c.held.ensures) ∙ (ap says_second (sym c.skip_mark.ensures) ∙ sym c.if-says_second.ensures) in
    IfOk-weaker c.take_piece.result _ _
    (λ found given at_end more.
    first_sized_as at_end _ c.args.self.now c.hold.new.self c.args.taken c.args.piece.now _ more c.line_end-end.result c.self.view_is c.requires.first c.requires.place c.line_end-end.ensures.first
    (omega (arith, c.if-end-piece.false, c.line_end-end.ensures.within)) c.in_ok-hold.ensures says (take_rest c.args.piece.now (c.line_end-end.result + 1)) ∙ given at_end more)
    c.take_piece.ensures.commands

pub take_piece-requires-2-clause-unended : goal.take_piece-requires-2-clause-unended
take_piece-requires-2-clause-unended c =
    first_unended_as _ c.args.self.now c.hold.new.self c.args.taken c.args.piece.now c.line_end-end.result c.self.view_is c.requires.place c.line_end-end.ensures.first c.in_ok-hold.ensures

pub returns-clause-commands : goal.returns-clause-commands
returns-clause-commands c =
    let says : says_second (without_mark c.hold.new.self.rest) ≡ false = ap (λ w. says_second (without_mark w)) (sym c.held.ensures) ∙ (ap says_second (sym c.skip_mark.ensures) ∙ sym c.if-says_second.ensures) in
    IfOk-weaker c.take_piece-2.result _ _
    (λ found given at_end more.
    first_period_as at_end _ c.args.self.now c.hold.new.self c.args.taken c.args.piece.now _ more c.line_end-end.result c.self.view_is c.requires.first c.requires.place c.line_end-end.ensures.first
    (omega (arith, c.if-end-piece.false, c.line_end-end.ensures.within)) c.in_ok-hold.ensures says (take_rest c.args.piece.now c.line_end-end.result) ∙ given at_end more)
    c.take_piece-2.ensures.commands
