-- White space ends the part, and another character belongs to it.
use Rattle.std.proofs.Common.{◌++◌, ◌∙◌, sym, ap}
use Rattle.match_options.specs.steps.PartsLeft.{ended, parts_left}
use Rattle.match_options.proofs.PartLemmas.{white_passed, letter_passed}
use Rattle.match_options.proofs.splitting.pass_letter.Goals as goal

pub returns-in_ok-end_part : goal.returns-in_ok-end_part
returns-in_ok-end_part c rest =
    ap (λ p. c.end_part.new.parts ++ parts_left p rest) c.clear.ensures.items
    ∙ white_passed c.args.parts.now c.end_part.new.parts c.args.part.now.items c.args.letter rest (sym c.is_whitespace.ensures ∙ c.if-is_whitespace.true)
    (c.in_ok-end_part.ensures ∙ ap (λ p. c.args.parts.now ++ ended p) c.as_slice.ensures.value)

pub returns-in_ok-push : goal.returns-in_ok-push
returns-in_ok-push c rest =
    letter_passed c.args.parts.now c.args.part.now.items c.push.new.self.items c.args.letter rest (sym c.is_whitespace.ensures ∙ c.if-is_whitespace.false) c.in_ok-push.ensures.items
