-- The laws of what paths select, for the selections of a session's path.
use Rattle.session_state.proofs.laws.selected_law.Goals as goal
use Rattle.session_state.specs.Paths.{satisfies, selections_of}

pub returns-clause-members : goal.returns-clause-members
returns-clause-members c = λ says state p d. c.elements_law.ensures (satisfies says state.abbreviations state.lists (selections_of p)) p.path.steps d.root

pub returns-clause-order : goal.returns-clause-order
returns-clause-order c = λ says state p d. c.order_law.ensures.ordered (satisfies says state.abbreviations state.lists (selections_of p)) p.path.steps d.root
