-- The symbols read so far stand before those that the rest has within the steps that are left.
use Rattle.std.proofs.Common.{◌≡◌, ◌+◌, ◌-◌, ◌≤◌, drop, length, encode_utf8_all}
use Rattle.query_lexer.specs.Symbols.{after_placed, symbols_within}
use Rattle.query_lexer.proofs.lexer.all_symbols.Given as goal

abbrev pub invariant-loop-step : goal.invariant-loop-step
invariant-loop-step l = record {
  within : l.next ≤ length l.letters;
  fits : l.place + length (encode_utf8_all (drop l.next l.letters)) ≤ l.bytes;
  known : after_placed l.placed (symbols_within (length l.letters - l.step) l.place (drop l.next l.letters)) ≡ symbols_within (length l.letters) l.from l.letters;
}
