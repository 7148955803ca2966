-- The prefix so far is plain.
use Rattle.std.proofs.Common.{◌≡◌, ◌≤◌, length, take, ◌-◌, true}
use Rattle.std.specs.List.{list_all}
use Rattle.std.specs.Str.{IsCharBoundary}
use Rattle.doc_profile.specs.steps.Plain.{is_plain}
use Rattle.doc_profile.proofs.plain.plain_len.Given as goal

abbrev pub invariant-loop-at : goal.invariant-loop-at
invariant-loop-at l = record {
  within : l.at ≤ length l.text;
  boundary : IsCharBoundary l.text l.at;
  plain : list_all is_plain (take l.at l.text) ≡ true;
}

abbrev pub decreases-loop-at : goal.decreases-loop-at
decreases-loop-at l = length l.text - l.at
