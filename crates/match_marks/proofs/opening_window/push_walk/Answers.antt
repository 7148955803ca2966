-- By the walk.
use Rattle.std.proofs.Common.{ap, ◌∙◌}
use Rattle.std.proofs.lemmas.List.{map_push}
use Rattle.plan_runs.specs.steps.OpenedOperators.{aims_of}
use Rattle.match_marks.specs.steps.WindowRuns.{all_aims}
use Rattle.match_marks.proofs.WindowOpened.{put_walk}
use Rattle.match_marks.proofs.opening_window.push_walk.Goals as goal

pub returns : goal.returns
returns c found is =
    put_walk c.args.opening.now.looks c.args.opening.now.lists.now.stems c.args.opening.now.version.now (all_aims c.args.phrases.now.items) (all_aims c.push.new.self.items) (aims_of c.in_ok-walk.walk) c.args.plan.now found is c.in_ok-walk.ensures
    (ap all_aims c.in_ok-push.ensures.items ∙ map_push aims_of c.args.phrases.now.items c.in_ok-walk.walk)
