-- At first all parts of the text are left, and each segment is the next of them.
use Rattle.std.proofs.Common.{◌≡◌, [], true, false, length, subst, sym, ap, ◌∙◌, arith}
use Rattle.tokenizer.specs.steps.Behind.{has_word}
use Rattle.tokenizer.specs.steps.SegmentsLeft.{Steps, parts_left}
use Rattle.tokenizer.specs.steps.TextsKnown.{Reads}
use Rattle.tokenizer.proofs.PartsLemmas.{words_among-all}
use Rattle.tokenizer.proofs.SegmentsLemmas.{step-count, step-parts, step-stands, step-text}
use Rattle.tokenizer.proofs.text_starts.TextStarts.read.Goals as goal

pub loop-segment-init : goal.loop-segment-init
loop-segment-init c =
    let text = c.args.text.now in
    let all = c.in_ok-segments.ensures in
    record {
      text = all.text;
      behind = λ has. (let none : false ≡ true = sym (ap has_word all.before) ∙ has in cc);
      reads = subst (Reads text c.new-known.result) (λ i abbreviations. sym (all.parts abbreviations) i) (c.new-known.ensures.reads text);
      counted = omega (arith, c.new-known.ensures.words, ap length (words_among-all [] text (parts_left [] c.in_ok-segments.segments) (all.parts [])));
      few = omega (arith, c.new-known.ensures.words);
    }

pub loop-segment-preserved : goal.loop-segment-preserved
loop-segment-preserved c =
    let text = c.args.text.now in
    let old = c.loop-segment.segments in
    let segment = c.in-Some.segment in
    let new = c.next.new.self in
    let steps : Steps old segment new = c.in-Some.ensures in
    let same = c.loop-segment.invariant.text in
    let passed = c.in-Ok.ensures in
    record {
      text = step-text old segment new steps text same;
      behind = λ has. passed.at_word (steps.behind_word has);
      reads = passed.reads text (λ abbreviations. parts_left abbreviations new) (step-stands old segment new steps text same)
          (subst (Reads text c.loop-segment.known) (λ i abbreviations. step-parts old segment new steps text same abbreviations i) c.loop-segment.invariant.reads);
      counted = omega (arith, passed.counted, c.loop-segment.invariant.counted, step-count old segment new steps text same []);
      few = c.pass_segment.ensures.few;
    }
