-- The tree passed all that ends before some place, and nothing is found there.
use Rattle.std.proofs.Common.{◌≤◌, None}
use Rattle.phrase_merges.specs.NearTrees.{passage_of}
use Rattle.phrase_merges.specs.steps.Passing.{aimed}
use Rattle.phrase_merges.proofs.NearPassLemmas.{Ahead, ends_left}
use Rattle.phrase_merges.proofs.near_pass.stand_near_at.Given as goal

abbrev pub invariant-loop-next : goal.invariant-loop-next
invariant-loop-next g l = record {
  ahead : Ahead (aimed l.fn.doc.0 l.fn.span (passage_of g.P.PhraseHits.state l.fn.tree)) (passage_of g.P.PhraseHits.state l.tree) None l.next;
  grown : l.fn.steps ≤ l.steps;
}

abbrev pub decreases-loop-next : goal.decreases-loop-next
decreases-loop-next g l = ends_left l.next
