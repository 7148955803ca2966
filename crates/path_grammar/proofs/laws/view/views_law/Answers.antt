-- The laws.
use Rattle.path_grammar.proofs.laws.view.views_law.Goals as goal
use Rattle.path_grammar.proofs.Views as laws

pub returns-clause-number : goal.returns-clause-number
returns-clause-number c = laws.view_number

pub returns-clause-holds : goal.returns-clause-holds
returns-clause-holds c = laws.view_holds

pub returns-clause-either : goal.returns-clause-either
returns-clause-either c = laws.view_or

pub returns-clause-exists : goal.returns-clause-exists
returns-clause-exists c = laws.view_exists

pub returns-clause-contains : goal.returns-clause-contains
returns-clause-contains c = laws.view_contains
