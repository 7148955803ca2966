-- At first all parts of the text are left.
use Rattle.std.proofs.Common.{◌+◌, ◌++◌, length, sym, ap}
use Rattle.tokenizer.specs.steps.SegmentsLeft.{parts_left}
use Rattle.tokenizer.specs.steps.StartsLeft.{sentences_in, paragraphs_in}
use Rattle.tokenizer.proofs.PartsLemmas.{words_among-all}
use Rattle.tokenizer.proofs.breaks.pass_text.Goals as goal

pub loop-segment-init : goal.loop-segment-init
loop-segment-init c =
    let starts = c.args.starts.now in
    let abbreviations = c.args.abbreviations.now in
    let all = c.in_ok-segments.ensures in
    record {
      text = all.text;
      sentences = λ rest. ap (λ l. sentences_in starts (l ++ rest)) (sym (all.parts abbreviations));
      paragraphs = λ rest. ap (λ l. paragraphs_in starts (l ++ rest)) (sym (all.parts abbreviations));
      words = ap (λ l. starts.words + length l) (words_among-all abbreviations c.args.text.now (parts_left abbreviations c.in_ok-segments.segments) (all.parts abbreviations));
    }
