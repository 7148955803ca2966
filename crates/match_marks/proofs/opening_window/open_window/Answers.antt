-- From none on.
use Rattle.std.proofs.Common.{ap}
use Rattle.match_marks.specs.steps.WindowRuns.{all_aims}
use Rattle.match_marks.proofs.WindowOpened.{put_all}
use Rattle.match_marks.proofs.opening_window.open_window.Goals as goal

pub returns-in-Ok-clause-phrases : goal.returns-in-Ok-clause-phrases
returns-in-Ok-clause-phrases c =
    put_all c.args.opening.now.looks c.args.opening.now.lists.now.stems c.args.opening.now.version.now (all_aims c.new-phrases.result.items) (all_aims c.push_phrases.new.phrases.items) c.args.operand.now c.requires.joined
    (ap all_aims c.new-phrases.ensures.items) c.in-Ok.ensures
