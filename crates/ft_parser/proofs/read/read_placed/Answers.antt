-- As all symbols are read, to the end.
use Rattle.std.proofs.Common.{List, sym, ◌∙◌, ap, subst}
use Rattle.std.specs.Prelude.{option_map}
use Rattle.ft_syntax.specs.View.{form}
use Rattle.selection_grammar.specs.View.{tree}
use Rattle.selection_grammar.specs.declared.symbol.Placed.{Placed}
use Rattle.ft_parser.specs.Answer.{Answered}
use Rattle.ft_parser.specs.steps.Scan.{read_to_end}
use Rattle.ft_parser.proofs.read.read_placed.Goals as goal

pub rest-requires : goal.rest-requires
rest-requires c = c.in-Ok.ensures.within

pub returns-in-Ok : goal.returns-in-Ok
returns-in-Ok c =
    subst (λ e. Answered form e c.read_to_end.result) (
    ap (λ (w : List Placed). read_to_end c.in-Ok.scan.depth w c.args.bad c.args.size (option_map tree c.in-Ok.scan.whole)) c.rest.ensures
    ∙ sym (c.in-Ok.ensures.to_end c.args.bad c.args.size)
    ) c.read_to_end.ensures

pub returns-in-Err : goal.returns-in-Err
returns-in-Err c = c.in-Err.ensures.to_end c.args.bad c.args.size
