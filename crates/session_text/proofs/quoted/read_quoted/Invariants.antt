-- What was read so far, and what is left.
use Rattle.std.proofs.Common.{◌≡◌, length, false}
use Rattle.std.specs.Prelude.{string_bytes}
use Rattle.std.specs.Str.{IsUtf8}
use Rattle.session_text.specs.Quoted.{prefixed, unquoted_on}
use Rattle.session_text.proofs.quoted.read_quoted.Given as goal

abbrev pub invariant-loop-before : goal.invariant-loop-before
invariant-loop-before l = record {
  read : unquoted_on false l.text ≡ prefixed (string_bytes l.said) (unquoted_on false l.rest);
  text : IsUtf8 l.rest;
}

abbrev pub decreases-loop-before : goal.decreases-loop-before
decreases-loop-before l = length l.rest
