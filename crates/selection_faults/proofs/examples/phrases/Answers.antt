-- By computation.
use Rattle.std.proofs.Common.{refl}
use Rattle.selection_faults.specs.Excludes.{within}
use Rattle.selection_faults.specs.Faults.{fault_of}
use Rattle.selection_faults.specs.Strings.{strings_inside}
use Rattle.selection_faults.proofs.examples.phrases.Goals as goal

pub returns-clause-sixty_four : goal.returns-clause-sixty_four
unfolding fault_of within strings_inside
returns-clause-sixty_four c = refl

pub returns-clause-sixty_five : goal.returns-clause-sixty_five
unfolding fault_of within strings_inside
returns-clause-sixty_five c = refl

pub returns-clause-in_one_phrase : goal.returns-clause-in_one_phrase
unfolding fault_of within strings_inside
returns-clause-in_one_phrase c = refl
