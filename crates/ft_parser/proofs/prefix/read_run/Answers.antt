-- As the run by itself is read.
use Rattle.std.proofs.Common.{List, sym, ◌∙◌, ap}
use Rattle.std.specs.Prelude.{option_map}
use Rattle.ft_syntax.specs.View.{form}
use Rattle.selection_grammar.specs.View.{tree}
use Rattle.selection_grammar.specs.declared.symbol.Placed.{Placed}
use Rattle.ft_parser.specs.Prefix.{with_number, run_read, numbered_form}
use Rattle.ft_parser.specs.steps.Scan.{read_alone}
use Rattle.ft_parser.proofs.Prefixes.{fault_kept}
use Rattle.ft_parser.proofs.prefix.read_run.Goals as goal

pub rest-requires : goal.rest-requires
rest-requires c = c.in-Ok.ensures.within

pub returns-in-Ok-read_alone-clause-value : goal.returns-in-Ok-read_alone-clause-value
returns-in-Ok-read_alone-clause-value c =
    ap (with_number c.in-Ok.scan.count) c.in-Ok-read_alone.ensures
    ∙ ap (λ (w : List Placed). with_number c.in-Ok.scan.count (read_alone c.in-Ok.scan.depth w c.args.bad c.args.size (option_map tree c.in-Ok.scan.whole))) c.rest.ensures
    ∙ sym (c.in-Ok.ensures.alone c.args.bad c.args.size)

pub returns-in-Ok-read_alone-clause-within : goal.returns-in-Ok-read_alone-clause-within
returns-in-Ok-read_alone-clause-within c = c.in-Ok.ensures.within

pub returns-in-Err-read_alone-clause-value : goal.returns-in-Err-read_alone-clause-value
returns-in-Err-read_alone-clause-value c =
    fault_kept form numbered_form (read_alone c.in-Ok.scan.depth c.rest.result.now c.args.bad c.args.size (option_map tree c.in-Ok.scan.whole)) (run_read c.args.symbols.now c.args.bad c.args.size) c.in-Err-read_alone.fault
    (λ f h.
    ap (with_number c.in-Ok.scan.count) h
    ∙ ap (λ (w : List Placed). with_number c.in-Ok.scan.count (read_alone c.in-Ok.scan.depth w c.args.bad c.args.size (option_map tree c.in-Ok.scan.whole))) c.rest.ensures
    ∙ sym (c.in-Ok.ensures.alone c.args.bad c.args.size)) c.in-Err-read_alone.ensures

pub returns-in-Err-clause-value : goal.returns-in-Err-clause-value
returns-in-Err-clause-value c = c.in-Err.ensures.alone c.args.bad c.args.size
