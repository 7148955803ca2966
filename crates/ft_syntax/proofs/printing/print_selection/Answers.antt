-- The text of the symbols is the printed form.
use Rattle.std.proofs.Common.{ap, ◌∙◌}
use Rattle.ft_syntax.specs.steps.Page.{put_all}
use Rattle.ft_syntax.specs.Symbols.{symbols, printed}
use Rattle.ft_syntax.specs.View.{form}
use Rattle.ft_syntax.proofs.Pages.{text_of_page}
use Rattle.ft_syntax.proofs.printing.print_selection.Goals as goal

pub returns : goal.returns
unfolding printed
returns c = c.into_line.ensures ∙ ap (λ page. page.text) (c.in_ok-print.ensures ∙ ap (λ page. put_all page (symbols (form c.args.selection.now))) c.new-out.ensures) ∙ text_of_page (symbols (form c.args.selection.now))
