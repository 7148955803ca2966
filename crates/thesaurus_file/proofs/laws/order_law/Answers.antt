-- A level is put in order.
use Rattle.std.proofs.Common.{filter, not}
use Rattle.thesaurus_file.specs.Expansion.{ends, is_nearer, level}
use Rattle.thesaurus_file.proofs.OrderLemmas.{sorted_in_order}
use Rattle.thesaurus_file.proofs.laws.order_law.Goals as goal

pub returns : goal.returns
unfolding level
returns c = λ thesaurus relation n start. sorted_in_order (filter (λ phrase. not (is_nearer thesaurus relation n start phrase)) (ends thesaurus relation n start))
