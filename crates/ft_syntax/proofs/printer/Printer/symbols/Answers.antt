-- The next symbol was added.
use Rattle.std.proofs.Common.{List, [], ℕ, Bor, arith}
use Rattle.ft_syntax.proofs.Pages.{next_symbol}
use Rattle.ft_syntax.proofs.printer.Printer.symbols.Goals as goal

pub loop-symbol-preserved : goal.loop-symbol-preserved
loop-symbol-preserved c =
    next_symbol c.args.self.now c.loop-symbol.self c.symbol.new.self (λ (symbol : Bor (List ℕ)). symbol.now) c.args.symbols.now c.loop-symbol.symbol-index
    (record { ref_ptr = (0, 0); now = [] }) c.loop-symbol.invariant c.in_ok-symbol.ensures (omega arith)
