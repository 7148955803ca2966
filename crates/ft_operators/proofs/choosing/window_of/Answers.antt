-- The last number of a window is that of the hit and the number of the window, taken together.
use Rattle.std.proofs.Common.{arith}
use Rattle.all_matches.specs.Positions.{end_in}
use Rattle.ft_operators.proofs.WindowLemmas.{window_shown}
use Rattle.ft_operators.proofs.choosing.window_of.Goals as goal

pub returns : goal.returns
returns c = window_shown c.args.size (end_in c.args.unit c.args.hit.now) c.args.lead c.window_to.result _ c.window_to.ensures.from c.window_to.ensures.to (omega arith)
