-- A command that is whole with the last line is all that is left, and else the one whose block was to follow.
use Rattle.std.proofs.Common.{◌≡◌, ◌∙◌, sym, ap, ◌∷◌, [], length, arith, rules}
use Rattle.std.proofs.lemmas.Result.{IfOk-weaker}
use Rattle.reply_lines.specs.declared.command.Command.TheVariants as command
use Rattle.session_text.specs.steps.SizedReading.{SizedPlace}
use Rattle.session_text.proofs.SizedEndLemmas.{end_blocks, end_in_block, end_last, end_nothing, end_readable, end_whole, last_blocks_held, last_readable_as}
use Rattle.session_text.proofs.SizedPartLemmas.{end_counted}
use Rattle.session_text.proofs.sized.SizedUnfinished.finish.Goals as goal

pub returns-then-left-gt0-clause-command : goal.returns-then-left-gt0-clause-command
returns-then-left-gt0-clause-command c =
    end_in_block c.args.self.now c.requires.place (omega (arith, c.if-left-gt0.true, c.left.ensures)) ∙ ap (λ (p : SizedPlace). command.BadCommand p.number ∷ []) (sym c.self.view_is)

pub returns-then-is_none-clause-command : goal.returns-then-is_none-clause-command
returns-then-is_none-clause-command c =
    let empty : length c.self.inside.rest.items ≡ 0 = search (rules, c.is_empty.ensures, c.if-is_empty.true) in
    end_nothing c.self.inside.number c.self.inside.rest.items c.self.inside.opened c.args.self.now c.self.view_is empty c.if-is_none.ensures

pub returns-in-Some-clause-command : goal.returns-in-Some-clause-command
returns-in-Some-clause-command c =
    end_whole c.args.self.now c.in-Some.command c.requires.place (omega (arith, c.if-left-gt0.false, c.left.ensures)) (sym c.in-Some.is ∙ c.in_ok-command.ensures.command)

pub returns-in-Some-clause-readable : goal.returns-in-Some-clause-readable
returns-in-Some-clause-readable c = end_readable c.args.self.now c.in-Some.command (sym c.in-Some.is ∙ c.in_ok-command.ensures.command)

pub returns-in-Some-clause-blocks : goal.returns-in-Some-clause-blocks
returns-in-Some-clause-blocks c = end_blocks c.args.self.now c.in-Some.command (sym c.in-Some.is ∙ c.in_ok-command.ensures.command)

pub finish_block-requires : goal.finish_block-requires
finish_block-requires c = omega (arith, c.requires.room, end_counted c.args.self.now c.end_rest.new.self c.in_ok-command.ensures.place)

pub returns-clause-command : goal.returns-clause-command
returns-clause-command c =
    IfOk-weaker c.finish_block.result _ _
    (λ last says. end_last c.args.self.now c.end_rest.new.self last c.requires.place (omega (arith, c.if-left-gt0.false, c.left.ensures)) (sym c.in_default.is ∙ c.in_ok-command.ensures.command) c.in_ok-command.ensures.place says)
    c.finish_block.ensures

pub returns-clause-readable : goal.returns-clause-readable
returns-clause-readable c = IfOk-weaker c.finish_block.result _ _ (λ last says. last_readable_as c.end_rest.new.self last says) c.finish_block.ensures

pub returns-clause-blocks : goal.returns-clause-blocks
returns-clause-blocks c = IfOk-weaker c.finish_block.result _ _ (λ last says. last_blocks_held c.args.self.now c.end_rest.new.self last c.in_ok-command.ensures.place says) c.finish_block.ensures
