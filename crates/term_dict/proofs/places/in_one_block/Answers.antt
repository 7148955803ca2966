-- At first the place is among all terms.
use Rattle.std.proofs.Common.{arith}
use Rattle.std.proofs.lemmas.List.{length-map}
use Rattle.index_meaning.specs.Dictionaries.{Term, entries}
use Rattle.term_dict.proofs.RankLemmas.{rank_within}
use Rattle.term_dict.proofs.places.in_one_block.Goals as goal

pub loop-place-init : goal.loop-place-init
loop-place-init c =
    let terms = c.args.terms.now.terms in
    let size = length-map terms (λ (t : Term). t.entry) in
    record {
      within = omega (arith, c.len.ensures);
      from = omega arith;
      to = omega (arith, c.len.ensures, rank_within c.args.place c.args.sought.now (entries terms));
    }
