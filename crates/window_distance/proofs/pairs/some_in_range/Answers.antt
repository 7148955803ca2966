-- The call's result is the test of all elements, one after the other.
use Rattle.std.proofs.Common.{rules, tests}
use Rattle.std.proofs.lemmas.Iterator.{YieldsList-from_slice}
use Rattle.std.proofs.lemmas.Iterator.Search.{any_from_yields_List}
use Rattle.all_matches.specs.Distance.{distance_in_range}
use Rattle.window_distance.proofs.pairs.some_in_range.Goals as goal

pub returns : goal.returns
returns c = any_from_yields_List (distance_in_range c.args.range c.args.unit c.args.hit.now) _ _ _ c.any.ensures.ran (YieldsList-from_slice _ c.iter.ensures.rest) (λ x b q k. search (rules, tests))
