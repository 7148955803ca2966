-- The documents so far came under the new abbreviations, and the others are as they were.
use Rattle.std.proofs.Common.{◌≡◌, ℕ, List}
use Rattle.document_store.specs.steps.Numbering.{IsNumbered}
use Rattle.document_store.proofs.RebreakLemmas.{rebroken}
use Rattle.document_store.proofs.rebreaking.rebreak_all.Given as goal

abbrev pub invariant-loop-at : goal.invariant-loop-at
invariant-loop-at l = (before : List (List ℕ)) → (next : ℕ) → IsNumbered before l.documents l.version next → l.made ≡ rebroken before l.abbreviations l.at l.documents
