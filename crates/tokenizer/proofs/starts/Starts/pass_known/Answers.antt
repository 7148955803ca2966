-- What is known of the text stands for it, where it has words and where it has none.
use Rattle.std.proofs.Common.{◌≡◌, ◌++◌, sym, ap, ap₂, ◌∙◌, append-nil, arith}
use Rattle.tokenizer.specs.steps.Begun.{after_begun, places_begun}
use Rattle.tokenizer.specs.steps.Numbering.{paragraph_ends, sentence_ends}
use Rattle.tokenizer.specs.steps.TextsKnown.{before_first, known_under, sentences_under}
use Rattle.tokenizer.proofs.KnownLemmas.{paragraphs_in-known, sentences_in-known}
use Rattle.tokenizer.proofs.starts.Starts.pass_known.Goals as goal

pub returns-in_ok-pass_begun-clause-sentences : goal.returns-in_ok-pass_begun-clause-sentences
returns-in_ok-pass_begun-clause-sentences c =
    let old = c.args.self.now in
    let after = c.args.known.now.after in
    let part = c.pass_part.ensures in
    let done = c.in_ok-pass_begun.ensures in
    sentences_in-known c.args.abbreviations.now c.args.text.now old c.pass_begun.new.self c.args.known.now c.requires.tells (omega (arith, done.counted, part.words)) (done.last ∙ ap (after_begun after.words (known_under c.args.abbreviations.now c.args.text.now c.args.known.now).inside) part.last)
    (done.sentences ∙ ap₂ (λ b l. b.sentences ++ places_begun after.words (sentences_under c.args.abbreviations.now c.args.text.now c.args.known.now) (sentence_ends l) c.pass_part.new.self.words) part.breaks part.last
    ∙ ap (λ n. old.breaks.sentences ++ places_begun after.words (sentences_under c.args.abbreviations.now c.args.text.now c.args.known.now) (sentence_ends (before_first (known_under c.args.abbreviations.now c.args.text.now c.args.known.now) old.last)) n) part.words)

pub returns-in_ok-pass_begun-clause-paragraphs : goal.returns-in_ok-pass_begun-clause-paragraphs
returns-in_ok-pass_begun-clause-paragraphs c =
    let old = c.args.self.now in
    let after = c.args.known.now.after in
    let part = c.pass_part.ensures in
    let done = c.in_ok-pass_begun.ensures in
    paragraphs_in-known c.args.abbreviations.now c.args.text.now old c.pass_begun.new.self c.args.known.now c.requires.tells (omega (arith, done.counted, part.words)) (done.last ∙ ap (after_begun after.words (known_under c.args.abbreviations.now c.args.text.now c.args.known.now).inside) part.last)
    (done.paragraphs ∙ ap₂ (λ b l. b.paragraphs ++ places_begun after.words after.breaks.paragraphs (paragraph_ends l) c.pass_part.new.self.words) part.breaks part.last
    ∙ ap (λ n. old.breaks.paragraphs ++ places_begun after.words after.breaks.paragraphs (paragraph_ends (before_first (known_under c.args.abbreviations.now c.args.text.now c.args.known.now) old.last)) n) part.words)

pub returns-else-known-gt0-clause-sentences : goal.returns-else-known-gt0-clause-sentences
returns-else-known-gt0-clause-sentences c =
    let old = c.args.self.now in
    let after = c.args.known.now.after in
    let part = c.pass_part.ensures in
    let none : 0 ≡ after.words = omega arith in
    let first = before_first (known_under c.args.abbreviations.now c.args.text.now c.args.known.now) old.last in
    sentences_in-known c.args.abbreviations.now c.args.text.now old c.pass_part.new.self c.args.known.now c.requires.tells (omega (arith, part.words)) (part.last ∙ ap (λ w. after_begun w (known_under c.args.abbreviations.now c.args.text.now c.args.known.now).inside first) none)
    (ap (λ b. b.sentences) part.breaks ∙ sym (append-nil _) ∙ ap (λ w. old.breaks.sentences ++ places_begun w (sentences_under c.args.abbreviations.now c.args.text.now c.args.known.now) (sentence_ends first) old.words) none)

pub returns-else-known-gt0-clause-paragraphs : goal.returns-else-known-gt0-clause-paragraphs
returns-else-known-gt0-clause-paragraphs c =
    let old = c.args.self.now in
    let after = c.args.known.now.after in
    let part = c.pass_part.ensures in
    let none : 0 ≡ after.words = omega arith in
    let first = before_first (known_under c.args.abbreviations.now c.args.text.now c.args.known.now) old.last in
    paragraphs_in-known c.args.abbreviations.now c.args.text.now old c.pass_part.new.self c.args.known.now c.requires.tells (omega (arith, part.words)) (part.last ∙ ap (λ w. after_begun w (known_under c.args.abbreviations.now c.args.text.now c.args.known.now).inside first) none)
    (ap (λ b. b.paragraphs) part.breaks ∙ sym (append-nil _) ∙ ap (λ w. old.breaks.paragraphs ++ places_begun w after.breaks.paragraphs (paragraph_ends first) old.words) none)
