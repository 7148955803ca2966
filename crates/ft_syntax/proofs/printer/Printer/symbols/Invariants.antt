-- The first symbols were added.
use Rattle.std.proofs.Common.{◌≡◌, take, map}
use Rattle.ft_syntax.specs.steps.Page.{put_all}
use Rattle.ft_syntax.proofs.printer.Printer.symbols.Given as goal

abbrev pub invariant-loop-symbol : goal.invariant-loop-symbol
invariant-loop-symbol l = l.self ≡ put_all l.initial.self (map (λ symbol. symbol.now) (take l.symbol-index l.symbols))
