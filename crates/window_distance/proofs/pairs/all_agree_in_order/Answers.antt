-- The call's result is the test of all elements, one after the other.
use Rattle.std.proofs.Common.{rules, tests}
use Rattle.std.proofs.lemmas.Iterator.{YieldsList-from_slice}
use Rattle.std.proofs.lemmas.Iterator.Search.{all_from_yields_List}
use Rattle.all_matches.specs.Positions.{agree_in_order}
use Rattle.window_distance.proofs.pairs.all_agree_in_order.Goals as goal

pub returns : goal.returns
returns c = all_from_yields_List (agree_in_order c.args.hit.now) _ _ _ c.all.ensures.ran (YieldsList-from_slice _ c.iter.ensures.rest) (λ x b q k. search (rules, tests))
