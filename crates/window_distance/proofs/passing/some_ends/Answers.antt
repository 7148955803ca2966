-- The call's result is the test of all elements, one after the other.
use Rattle.std.proofs.Common.{◌==◌, suc, rules, tests}
use Rattle.std.proofs.lemmas.Iterator.{YieldsList-from_slice}
use Rattle.std.proofs.lemmas.Iterator.Search.{any_from_yields_List}
use Rattle.ft_base.specs.declared.hit.Hit.{Hit}
use Rattle.window_distance.proofs.passing.some_ends.Goals as goal

pub returns : goal.returns
returns c = any_from_yields_List (λ (hit : Hit). suc hit.to == c.args.to) _ _ _ c.any.ensures.ran (YieldsList-from_slice _ c.iter.ensures.rest) (λ x b q k. search (rules, tests))
