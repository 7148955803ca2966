-- What is left of the text.
use Rattle.std.proofs.Common.{length, ◌≤◌, ◌+◌, ◌-◌, false}
use denote.Shadow.{shadow}
use denote.Text.{Utf8}
use Rattle.std.specs.Str.{chars}
use Rattle.doc_profile.specs.Readings.{walk}
use Rattle.doc_profile.specs.steps.View.{state_of}
use Rattle.doc_profile.proofs.Left.{Left}
use Rattle.doc_profile.proofs.read.read_text.Given as goal

abbrev pub invariant-loop-c : goal.invariant-loop-c
invariant-loop-c l = record {
  text : shadow (Utf8 l.rest);
  within : length l.rest ≤ length l.text;
  left : Left l.rest (state_of l.reader) l.after_return (l.from + (length l.text - length l.rest)) l.nodes (walk (chars l.text) (state_of l.fn.reader) false l.from);
}

abbrev pub decreases-loop-c : goal.decreases-loop-c
decreases-loop-c l = length l.rest
