-- Whatever new terms were done before, they are done still, and no term above the bound is.
use Rattle.std.proofs.Common.{ℕ, List, ◌-◌, length}
use Rattle.index_document.specs.Rows.{entries_of}
use Rattle.index_document.specs.steps.Widening.{AreUpTo, IsWidening}
use Rattle.index_document.proofs.terms.copy_up_to.Given as goal

abbrev pub invariant-loop-made : goal.invariant-loop-made
invariant-loop-made l = record {
  widening : (done : List ℕ) → IsWidening (entries_of l.parts.leaves) l.parts.ids.items l.fn.made.number done l.fn.made.ids.items l.fn.made.starts.items →
      IsWidening (entries_of l.parts.leaves) l.parts.ids.items l.made.number done l.made.ids.items l.made.starts.items;
  up_to : AreUpTo l.term l.fn.made.ids.items → AreUpTo l.term l.made.ids.items;
}

abbrev pub decreases-loop-made : goal.decreases-loop-made
decreases-loop-made l = length l.parts.ids.items - l.made.number
