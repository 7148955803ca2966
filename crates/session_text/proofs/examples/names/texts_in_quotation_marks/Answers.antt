-- Quoted texts, by computation.
use Rattle.std.proofs.Common.{refl}
use Rattle.session_text.proofs.examples.names.texts_in_quotation_marks.Goals as goal

pub returns-clause-alone : goal.returns-clause-alone
returns-clause-alone c = refl

pub returns-clause-behind : goal.returns-clause-behind
returns-clause-behind c = refl

pub returns-clause-doubled : goal.returns-clause-doubled
returns-clause-doubled c = refl

pub returns-clause-doubled_alone : goal.returns-clause-doubled_alone
returns-clause-doubled_alone c = refl

pub returns-clause-empty : goal.returns-clause-empty
returns-clause-empty c = refl

pub returns-clause-open : goal.returns-clause-open
returns-clause-open c = refl

pub returns-clause-open_at_once : goal.returns-clause-open_at_once
returns-clause-open_at_once c = refl

pub returns-clause-open_behind_a_doubled_one : goal.returns-clause-open_behind_a_doubled_one
returns-clause-open_behind_a_doubled_one c = refl

pub returns-clause-later : goal.returns-clause-later
returns-clause-later c = refl

pub returns-clause-nothing : goal.returns-clause-nothing
returns-clause-nothing c = refl
