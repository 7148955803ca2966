-- One letter more, a doubled quote, and the closing quote.
use Rattle.std.proofs.Common.{◌≡◌, ◌+◌, ◌<◌, length, drop, string_bytes, Some, sym, ap, ◌∙◌, arith, append-nil, true, false, eq-eqb}
use Rattle.std.proofs.lemmas.Bool.{ne_eqb}
use Rattle.std.proofs.lemmas.List.{take_rest}
use Rattle.ft_base.specs.Letters.{begins_with}
use Rattle.query_lexer.specs.Symbols.{quoted_at}
use Rattle.query_lexer.proofs.QuotedStrings.{letter_read, quote_read, closed, some_letter, over_two}
use Rattle.query_lexer.proofs.prefix.quoted.Goals as goal

pub loop-next-preserved-then-letter-quote : goal.loop-next-preserved-then-letter-quote
loop-next-preserved-then-letter-quote c = record {
  within = omega arith;
  known = letter_read c.args.quote c.args.letters.now (quoted_at c.args.quote c.args.letters.now) (string_bytes c.loop-next.text) (string_bytes c.push.new.self) c.loop-next.next c.index-letters-next.result
      c.loop-next-test.true c.index-letters-next.is c.loop-next.invariant.known (ne_eqb c.index-letters-next.result c.args.quote c.if-letter-quote.true) c.in_ok-push.ensures.bytes;
}

pub loop-next-preserved : goal.loop-next-preserved
loop-next-preserved c =
    let doubled : begins_with c.args.quote (drop (c.loop-next.next + 1) c.args.letters.now) ≡ true = ap (begins_with c.args.quote) (sym (take_rest c.args.letters.now (c.loop-next.next + 1))) ∙ sym c.begins_with.ensures ∙ c.if-begins_with.true in
    let more : c.loop-next.next + 1 < length c.args.letters.now = some_letter c.args.quote c.args.letters.now (c.loop-next.next + 1) doubled in
    record {
      within = omega arith;
      known = over_two c.args.quote c.args.letters.now (string_bytes c.push-then-begins_with.new.self) c.loop-next.next ∙ quote_read c.args.quote c.args.letters.now (quoted_at c.args.quote c.args.letters.now) (string_bytes c.loop-next.text) (string_bytes c.push-then-begins_with.new.self) c.loop-next.next c.index-letters-next.result
          c.loop-next-test.true c.index-letters-next.is c.loop-next.invariant.known (eq-eqb c.index-letters-next.result c.args.quote c.if-letter-quote.false) doubled c.in_ok-push-2.ensures.bytes;
    }

pub returns-else-begins_with-clause-value : goal.returns-else-begins_with-clause-value
returns-else-begins_with-clause-value c =
    let single : begins_with c.args.quote (drop (c.loop-next.next + 1) c.args.letters.now) ≡ false = ap (begins_with c.args.quote) (sym (take_rest c.args.letters.now (c.loop-next.next + 1))) ∙ sym c.begins_with.ensures ∙ c.if-begins_with.false in
    (λ i. Some record { text = (c.from_string.ensures ∙ sym (append-nil (string_bytes c.loop-next.text))) i; size = c.loop-next.next + 1 })
    ∙ closed c.args.quote c.args.letters.now (quoted_at c.args.quote c.args.letters.now) (string_bytes c.loop-next.text) (string_bytes c.loop-next.text) c.loop-next.next c.index-letters-next.result
    c.loop-next-test.true c.index-letters-next.is c.loop-next.invariant.known (eq-eqb c.index-letters-next.result c.args.quote c.if-letter-quote.false) single
