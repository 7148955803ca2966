-- Characters before the first word change the gap there, and others the gap after the last word.
use Rattle.std.proofs.Common.{refl, ap, ◌∙◌, arith, sym}
use Rattle.std.specs.Str.{chars}
use Rattle.tokenizer.specs.Parts.{parts_of_text}
use Rattle.tokenizer.specs.steps.Behind.{period_ends}
use Rattle.tokenizer.specs.steps.GapSteps.{with_period_if}
use Rattle.tokenizer.specs.steps.TextsKnown.{known_under}
use Rattle.tokenizer.proofs.KnownLemmas.{Leads-prefix}
use Rattle.tokenizer.proofs.PeriodsLemmas.{with_period_if-characters}
use Rattle.tokenizer.proofs.ReadsLemmas.{Reads-gap}
use Rattle.tokenizer.proofs.text_starts.TextStarts.pass_apart.Goals as goal

pub returns-then-self-eq0-clause-reads : goal.returns-then-self-eq0-clause-reads
returns-then-self-eq0-clause-reads c text left reads = record {
  told = reads.told;
  stand = record { by_period = reads.stand.by_period; last_period = reads.stand.last_period };
  leads = λ abbreviations.
      Leads-prefix (parts_of_text abbreviations text) (left abbreviations) c.args.characters.now (known_under abbreviations text c.args.self.now) _ refl refl refl (reads.leads abbreviations) (omega arith) refl c.pass_characters.ensures;
}

pub returns-else-self-eq0-clause-reads : goal.returns-else-self-eq0-clause-reads
returns-else-self-eq0-clause-reads c text left reads =
    let old = c.args.self.now in
    let more = c.pass_characters-else-self-eq0.ensures in
    let gap = ap (λ l. l.gap) more.last in
    Reads-gap text left old _ refl refl more.words more.breaks (ap (λ l. l.paragraph) more.last) (record { by_period = reads.stand.by_period; last_period = reads.stand.last_period })
    (λ _. c.args.characters.now) (omega arith)
    (λ abbreviations. ap (with_period_if (period_ends abbreviations text old.last_period)) gap ∙ sym (with_period_if-characters (period_ends abbreviations text old.last_period) old.after.last.gap (chars c.args.characters.now)))
    reads
