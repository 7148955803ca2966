-- The next term was added; then all were.
use Rattle.std.proofs.Common.{sym, ap, ◌∙◌, arith}
use Rattle.ft_syntax.specs.steps.Page.{put_all}
use Rattle.ft_syntax.specs.OptionSymbols.{source_symbols, further_term_symbols, terms_symbols}
use Rattle.ft_syntax.proofs.Pages.{next_item, all_items}
use Rattle.ft_syntax.proofs.print_options.print_terms.Goals as goal

pub loop-term-preserved : goal.loop-term-preserved
loop-term-preserved c =
    next_item c.print_source.new.out c.loop-term.out c.print_further_term.new.out further_term_symbols c.in-Some.rest.now c.loop-term.term-index c.term-item.result
    c.loop-term.invariant c.in_ok-print_further_term.ensures c.term-item.is (omega arith)

pub returns : goal.returns
returns c =
    all_items c.args.out.now c.print_source.new.out c.loop-term.out (source_symbols c.in-Some.first.now.source) further_term_symbols c.in-Some.rest.now c.loop-term.term-index
    c.in_ok-print_source.ensures c.loop-term.invariant (omega arith)
    ∙ ap (λ terms. put_all c.args.out.now (terms_symbols terms)) (sym c.in-Some.ensures.cases.0)
