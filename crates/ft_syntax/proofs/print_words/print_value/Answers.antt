-- More strings than one, or none, stand in braces.
use Rattle.std.proofs.Common.{codes, ap, ◌∙◌}
use Rattle.ft_syntax.specs.steps.Page.{put_all}
use Rattle.ft_syntax.specs.OptionSymbols.{strings_symbols}
use Rattle.ft_syntax.proofs.Pages.{in_brackets}
use Rattle.ft_syntax.proofs.Values.{other_values}
use Rattle.ft_syntax.proofs.print_words.print_value.Goals as goal

pub returns : goal.returns
returns c =
    in_brackets c.args.out.now c.symbol.new.self c.print_strings.new.out c.symbol-2.new.self (codes "{") (codes "}") (strings_symbols c.args.texts.now)
    c.in_ok-symbol.ensures c.in_ok-print_strings.ensures c.in_ok-symbol-2.ensures
    ∙ ap (put_all c.args.out.now) (other_values c.args.texts.now c.if-texts-eq1.false)
