-- The word is one more of those that were seen, and nothing was seen behind it.
use Rattle.std.proofs.Common.{◌+◌, ◌==◌, [], ◌∷◌, ◌++◌, refl, ap, ◌∙◌, if◌then◌else◌}
use Rattle.tokenizer.specs.steps.GapSteps.{with_period_if}
use Rattle.tokenizer.specs.steps.Numbering.{after_word}
use Rattle.tokenizer.proofs.ReadsLemmas.{Reads-word}
use Rattle.tokenizer.proofs.text_starts.TextStarts.pass_word.Goals as goal

pub returns-clause-reads : goal.returns-clause-reads
returns-clause-reads c text segment left reads =
    let old = c.args.self.now in
    let first = c.pass_period_if.ensures in
    let more = c.in_ok-pass_word.ensures in
    let last = more.last ∙ ap after_word first.last ∙ ap (λ stands. after_word (record old.after.last { gap = with_period_if stands old.after.last.gap })) c.is_some.ensures in
    Reads-word text segment left old _ old.begun old.behind_word refl (more.words ∙ ap (λ n. n + 1) first.words) last c.none-self.ensures c.in_ok-push_word_before.ensures.ok
    (more.sentence_places ∙ (λ i. (first.breaks i).sentences ++ (if c.pass_word.new.self.last.sentence == (first.last i).sentence then [] else c.pass_word.new.self.words ∷ [])))
    (more.paragraph_places ∙ (λ i. (first.breaks i).paragraphs ++ (if c.pass_word.new.self.last.paragraph == (first.last i).paragraph then [] else c.pass_word.new.self.words ∷ [])))
    reads
