-- Each list is shared under a copy of its name.
use Rattle.plan_compiler.proofs.ListLemmas.{lists_shared}
use Rattle.plan_compiler.proofs.lists.copy_lists.Goals as goal

pub returns : goal.returns
returns g c = lists_shared c.args.lists.now.entries c.in_ok-clone.field-0.entries c.in_ok-clone.ensures.cases
