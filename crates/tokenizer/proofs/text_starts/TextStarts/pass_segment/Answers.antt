-- A segment is a word, or characters that may stand directly behind one.
use Rattle.std.proofs.Common.{◌∷◌, subst, if◌then◌else◌}
use Rattle.tokenizer.specs.Parts.{gap_characters, without_period, word}
use Rattle.tokenizer.specs.steps.Behind.{spares}
use Rattle.tokenizer.specs.steps.TextsKnown.{Reads}
use Rattle.tokenizer.proofs.text_starts.TextStarts.pass_segment.Goals as goal

pub returns-then-not-segment-clause-reads : goal.returns-then-not-segment-clause-reads
returns-then-not-segment-clause-reads c text left stands reads =
    let segment = c.args.segment.now in
    c.pass_characters.ensures.reads text left stands
    (subst (Reads text c.args.self.now)
    (λ i abbreviations. (if c.if-not-segment.true i then word segment.text.now else gap_characters (without_period (spares abbreviations text segment.before) segment.text.now)) ∷ left abbreviations) reads)

pub returns-clause-reads : goal.returns-clause-reads
returns-clause-reads c text left stands reads =
    let segment = c.args.segment.now in
    c.in_ok-pass_word.ensures.reads text segment.text.now left
    (subst (Reads text c.args.self.now)
    (λ i abbreviations. (if c.if-not-segment.false i then word segment.text.now else gap_characters (without_period (spares abbreviations text segment.before) segment.text.now)) ∷ left abbreviations) reads)
