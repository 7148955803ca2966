-- At first all parts of the text are left, each segment is the next of them, and a word stands after those so far.
use Rattle.std.proofs.Common.{◌≡◌, ◌++◌, [], true, false, length, append_assoc, subst, sym, ap, ◌∙◌, arith}
use Rattle.tokenizer.specs.steps.Behind.{has_word}
use Rattle.tokenizer.specs.steps.SegmentParts.{words_of_segment}
use Rattle.tokenizer.specs.steps.SegmentsLeft.{Steps, parts_left}
use Rattle.tokenizer.specs.steps.TextsKnown.{Reads}
use Rattle.tokenizer.proofs.PartsLemmas.{words_among, words_among-all}
use Rattle.tokenizer.proofs.SegmentsLemmas.{step-count, step-parts, step-stands, step-text, step-words}
use Rattle.tokenizer.proofs.text_starts.TextRead.read.Goals as goal

pub loop-segment-init : goal.loop-segment-init
loop-segment-init c =
    let text = c.args.text.now in
    let all = c.in_ok-segments.ensures in
    let words = words_among-all [] text (parts_left [] c.in_ok-segments.segments) (all.parts []) in
    record {
      text = all.text;
      behind = λ has. (let none : false ≡ true = sym (ap has_word all.before) ∙ has in cc);
      reads = subst (Reads text c.new-starts.result) (λ i abbreviations. sym (all.parts abbreviations) i) (c.new-starts.ensures.reads text);
      counted = omega (arith, c.new-starts.ensures.words, ap length words);
      list = ap (λ l. l ++ words_among (parts_left [] c.in_ok-segments.segments)) c.in_ok-words.ensures ∙ words;
      few = omega (arith, c.new-starts.ensures.words);
    }

pub loop-segment-preserved : goal.loop-segment-preserved
loop-segment-preserved c =
    let text = c.args.text.now in
    let old = c.loop-segment.segments in
    let segment = c.in-Some.segment in
    let new = c.next.new.self in
    let steps : Steps old segment new = c.in-Some.ensures in
    let same = c.loop-segment.invariant.text in
    let passed = c.in_ok-pass_segment.ensures in
    record {
      text = step-text old segment new steps text same;
      behind = λ has. passed.at_word (steps.behind_word has);
      reads = passed.reads text (λ abbreviations. parts_left abbreviations new) (step-stands old segment new steps text same)
          (subst (Reads text c.loop-segment.starts) (λ i abbreviations. step-parts old segment new steps text same abbreviations i) c.loop-segment.invariant.reads);
      counted = omega (arith, passed.counted, c.loop-segment.invariant.counted, step-count old segment new steps text same []);
      list = ap (λ l. l ++ words_among (parts_left [] new)) c.in_ok-push_word.ensures ∙ append_assoc c.loop-segment.words (words_of_segment segment) (words_among (parts_left [] new))
          ∙ ap (λ l. c.loop-segment.words ++ l) (sym (step-words old segment new steps text same [])) ∙ c.loop-segment.invariant.list;
      few = c.pass_segment.ensures.few;
    }
