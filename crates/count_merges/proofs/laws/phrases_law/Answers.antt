-- The law is the lemmas.
use Rattle.count_merges.proofs.PhraseLemmas.{phrases_unit, phrases_window}
use Rattle.count_merges.proofs.laws.phrases_law.Goals as goal

pub returns : goal.returns
returns g c = record {
  window = λ stand unit span size kind items asked same asks. phrases_window stand unit span items asked same asks size kind;
  unit = λ stand unit span kind items asked same asks. phrases_unit stand unit span items asked same asks kind;
}
