-- A letter of what is left was written.
use Rattle.std.proofs.Common.{◌++◌, string_bytes}
use Rattle.std.specs.Prelude.{flat_map, encode_utf8}
use Rattle.ft_syntax.specs.OptionSymbols.{in_quotes}
use Rattle.ft_syntax.proofs.Quotes.{one_more_letter}
use Rattle.ft_syntax.proofs.printer.push_quoted.Goals as goal

pub loop-letter-preserved : goal.loop-letter-preserved
loop-letter-preserved c =
    one_more_letter (string_bytes c.loop-letter.out) (string_bytes c.push_letter.new.out) (string_bytes c.push.new.self ++ flat_map in_quotes c.args.text.now)
    (encode_utf8 c.in-Some.letter) c.loop-letter.letter-iterator.rest.now c.next.new.self.rest.now
    c.loop-letter.invariant c.in-Some.ensures.steps.0 c.in_ok-push_letter.ensures
