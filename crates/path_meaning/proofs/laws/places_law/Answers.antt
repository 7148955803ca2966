-- The law.
use Rattle.path_meaning.proofs.laws.places_law.Goals as goal
use Rattle.path_meaning.proofs.Traced as laws

pub returns : goal.returns
returns c = laws.elements_placed
