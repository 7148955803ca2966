-- Before the first word; one word more.
use Rattle.std.proofs.Common.{◌≡◌, ℕ, ◌+◌, List, [], ◌++◌, Bor, map, get_or, max, nat_lt, sym, ap, ap₂, ◌∙◌, arith}
use Rattle.std.specs.Prelude.{string_bytes}
use Rattle.element_lines.specs.Marked.{marked_line}
use Rattle.element_lines.specs.steps.SpanEnds.{end_up_to}
use Rattle.element_lines.proofs.MarkedLemmas.{words-from-first, marked-by-end, end-up-to-first, end-up-to-next, first-from, one-word-more}
use Rattle.std.proofs.lemmas.Grind.{get_or_default_zero}
use Rattle.element_lines.proofs.marked.put_line.Goals as goal

pub loop-number-init : goal.loop-number-init
loop-number-init c =
    let ends = c.put_span_ends.new.ends in
    record {
      within = omega arith;
      end = c.index-end.ensures ∙ get_or_default_zero ends.items 0 c.index-end.result.now (omega (arith, c.in_ok-put_span_ends.ensures.size)) ∙ c.in_ok-put_span_ends.ensures.ends 0 (omega arith) ∙ sym (end-up-to-first c.args.spans.now);
      line = ap (λ l. string_bytes c.args.line.now ++ l) (words-from-first c.args.spans.now (map (λ word. word.now) c.args.words.now));
    }

pub loop-number-preserved : goal.loop-number-preserved
loop-number-preserved c =
    let spans = c.args.spans.now in
    let number = c.loop-number.number in
    let words = map (λ word. word.now) c.args.words.now in
    let ends = c.put_span_ends.new.ends in
    let none : Bor (List ℕ) = record { ref_ptr = (0, 0); now = [] } in
    let more = c.loop-number-test.true in
    let end : c.max-end.result ≡ end_up_to spans (number + 1) =
    c.max-end.ensures ∙ ap₂ max c.loop-number.invariant.end (c.index.ensures ∙ get_or_default_zero ends.items (number + 1) c.index.result.now (omega (arith, c.in_ok-put_span_ends.ensures.size, more)) ∙ c.in_ok-put_span_ends.ensures.ends (number + 1) (omega (arith, more))) ∙ end-up-to-next spans number in
    record {
      within = omega (arith, more);
      end = end;
      line = one-word-more spans number words (get_or c.args.words.now number none).now (string_bytes c.args.line.now ++ marked_line spans words)
          (string_bytes c.loop-number.line) (string_bytes c.push_word.new.line) (nat_lt (number + 1) c.max-end.result)
          (first-from (λ word. word.now) c.args.words.now number none more)
          (ap (nat_lt (number + 1)) end ∙ sym (marked-by-end spans (number + 1))) c.loop-number.invariant.line c.in_ok-push_word.ensures;
    }
