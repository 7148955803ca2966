-- A period directly behind a word is kept by that word, and of the gap counts what is behind the period; else all characters count.
use Rattle.std.proofs.Common.{◌∷◌, refl, ap, ◌∙◌, sym, subst}
use Rattle.std.specs.Str.{chars}
use Rattle.tokenizer.specs.Parts.{gap_characters, without_period}
use Rattle.tokenizer.specs.steps.Behind.{period_ends, spares}
use Rattle.tokenizer.specs.steps.GapSteps.{after_characters, with_period_if}
use Rattle.tokenizer.specs.steps.TextsKnown.{Reads}
use Rattle.tokenizer.proofs.PeriodsLemmas.{gap-behind, period_ends-none}
use Rattle.tokenizer.proofs.ReadsLemmas.{Reads-gap}
use Rattle.tokenizer.proofs.text_starts.TextStarts.pass_characters.Goals as goal

pub returns-in_default-clause-reads : goal.returns-in_default-clause-reads
returns-in_default-clause-reads c text left stands reads =
    c.pass_apart.ensures.reads text left
    (subst (Reads text c.args.self.now) (λ i abbreviations. gap_characters (c.in_default.ensures.none abbreviations text i) ∷ left abbreviations) reads)

pub returns-clause-reads : goal.returns-clause-reads
returns-clause-reads c text left stands reads =
    let old = c.args.self.now in
    let word = c.args.word in
    let rest = c.in-Some.rest.now in
    let characters = c.args.characters.now in
    let behind = c.in-Some.ensures in
    let at = c.requires behind.word in
    let more = c.pass_characters.ensures in
    let gap = ap (λ l. l.gap) more.last ∙ ap (λ g. after_characters g (chars rest)) at.nothing in
    Reads-gap text left old _ refl refl more.words more.breaks (ap (λ l. l.paragraph) more.last) (record { by_period = reads.stand.by_period; last_period = stands })
    (λ abbreviations. without_period (spares abbreviations text word) characters) at.some
    (λ abbreviations. ap (with_period_if (period_ends abbreviations text word)) gap ∙ gap-behind abbreviations text word characters rest c.utf8.characters behind.some behind.word
    ∙ ap (λ g. after_characters g (chars (without_period (spares abbreviations text word) characters)))
    (sym (ap (λ ends. with_period_if ends old.after.last.gap) (period_ends-none abbreviations text old.last_period at.no_period) ∙ at.nothing)))
    reads
