-- What was read stands before what is left.
use Rattle.std.proofs.Common.{◌≡◌, ◌-◌, ◌≤◌, drop, length, string_bytes}
use Rattle.query_lexer.specs.Symbols.{quoted_at}
use Rattle.query_lexer.proofs.QuotedStrings.{after_read}
use Rattle.query_lexer.proofs.prefix.quoted.Given as goal

abbrev pub invariant-loop-next : goal.invariant-loop-next
invariant-loop-next l = record {
  within : l.next ≤ length l.letters;
  known : after_read (string_bytes l.text) l.next (quoted_at l.quote (drop l.next l.letters)) ≡ quoted_at l.quote l.letters;
}

abbrev pub decreases-loop-next : goal.decreases-loop-next
decreases-loop-next l = length l.letters - l.next
