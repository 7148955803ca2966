-- The terms of the entries up to the next one are done, and none is greater than one that is to come.
use Rattle.std.proofs.Common.{ℕ, ◌≤◌, ◌<◌, length, take, map, get_or}
use Rattle.index_document.specs.declared.entry.Entry.{Entry}
use Rattle.index_document.specs.Rows.{entries_of}
use Rattle.index_document.specs.steps.Groups.{term_of}
use Rattle.index_document.specs.steps.Widening.{AreUpTo, IsWidening}
use Rattle.index_document.proofs.terms.widen.Given as goal

abbrev pub invariant-loop-next : goal.invariant-loop-next
invariant-loop-next l = record {
  widening : IsWidening (entries_of l.fn.parts.leaves) l.fn.parts.ids.items l.made.number (map term_of (take l.next l.entries.items)) l.made.ids.items l.made.starts.items;
  up_to : (j : ℕ) (d : Entry) → l.next ≤ j → j < length l.entries.items → AreUpTo (term_of (get_or l.entries.items j d)) l.made.ids.items;
}
