-- By the walk.
use Rattle.std.proofs.Common.{refl}
use Rattle.match_marks.proofs.OpeningLemmas.{first_opened}
use Rattle.match_marks.proofs.opening.open_first.Goals as goal

pub returns : goal.returns
returns c =
    first_opened c.args.opening.now.looks c.args.opening.now.lists.now.stems c.args.opening.now.version.now
    (record { tuples = c.in_ok-tuples.tuples; most = c.args.first.now.most }) c.args.first.now refl c.in_ok-tuples.ensures
