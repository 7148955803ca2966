-- The law is the lemma.
use Rattle.all_matches.proofs.SomeWindow.{some_window}
use Rattle.all_matches.proofs.laws.window.some_window_law.Goals as goal

pub returns : goal.returns
returns c = some_window
