-- The places inside are no greater than the number of words there, and their numbers are few.
use Rattle.std.proofs.Common.{◌+◌, ap, arith}
use Rattle.tokenizer.proofs.PeriodsLemmas.{staying-few}
use Rattle.tokenizer.proofs.starts.Starts.pass_begun.Goals as goal

pub invariant_of-self : goal.invariant_of-self
invariant_of-self c =
    let words = c.pass_word.ensures.words in
    let some = c.requires.some in
    record {
      sentences_after = c.push_sentences.ensures.most (c.args.self.now.words + c.args.known.now.after.words)
          (λ x last. let h = c.pass_word.new.self.sentences_after x last in omega (arith, h, words, some)) (omega arith);
      paragraphs_after = λ x last. let h = c.pass_word.new.self.paragraphs_after x last in omega (arith, h, words, some);
      sentences_few = omega (arith, words, c.pass_word.new.self.sentences_few, some);
      paragraphs_few = omega (arith, words, c.pass_word.new.self.paragraphs_few, some);
    }

pub invariant_of-self-in-Break-branch-4 : goal.invariant_of-self-in-Break-branch-4
invariant_of-self-in-Break-branch-4 c =
    let all = c.args.self.now.words + c.args.known.now.after.words in
    let words = c.pass_word.ensures.words in
    let some = c.requires.some in
    record {
      sentences_after = c.push_sentences.ensures.most all
          (λ x last. let h = c.pass_word.new.self.sentences_after x last in omega (arith, h, words, some)) (omega arith);
      paragraphs_after = c.push_places.ensures.most all
          (λ x last. let h = c.pass_word.new.self.paragraphs_after x last in omega (arith, h, words, some))
          (λ x last. let h = c.args.known.now.after.paragraphs_after x last in omega (arith, h));
      sentences_few = omega (arith, words, c.pass_word.new.self.sentences_few, some);
      paragraphs_few = omega (arith, words, c.pass_word.new.self.paragraphs_few, some);
    }

pub pass_numbering-requires-clause-sentence_fits : goal.pass_numbering-requires-clause-sentence_fits
pass_numbering-requires-clause-sentence_fits c =
    let known = c.args.known.now in
    let few = staying-few c.args.abbreviations.now c.args.text.now known.after.breaks.sentences known.by_period.items in
    omega (arith, c.pass_word.ensures.words, c.pass_word.new.self.sentences_few, c.in_ok-sentences.ensures.count, few, known.begun.counted, known.begun.sentences_few c.requires.some, c.requires.few)

pub invariant_of-self-2 : goal.invariant_of-self-2
invariant_of-self-2 c =
    let all = c.args.self.now.words + c.args.known.now.after.words in
    let known = c.args.known.now in
    let words = c.pass_word.ensures.words in
    let some = c.requires.some in
    let few = staying-few c.args.abbreviations.now c.args.text.now known.after.breaks.sentences known.by_period.items in
    record {
      sentences_after = c.push_sentences.ensures.most all
          (λ x last. let h = c.pass_word.new.self.sentences_after x last in omega (arith, h, words, some)) (omega arith);
      paragraphs_after = c.push_places.ensures.most all
          (λ x last. let h = c.pass_word.new.self.paragraphs_after x last in omega (arith, h, words, some))
          (λ x last. let h = known.after.paragraphs_after x last in omega (arith, h));
      sentences_few = omega (arith, words, ap (λ l. l.sentence) c.pass_numbering.ensures, c.pass_word.new.self.sentences_few, c.in_ok-sentences.ensures.count, few, known.begun.counted, known.begun.sentences_few some);
      paragraphs_few = omega (arith, words, ap (λ l. l.paragraph) c.pass_numbering.ensures, c.pass_word.new.self.paragraphs_few, known.begun.paragraphs_few some);
    }
