-- The word before each start stands in the text.
use Rattle.std.proofs.Common.{subst, sym}
use Rattle.std.proofs.lemmas.List.Elements.{All-get_or}
use Rattle.tokenizer.specs.steps.Behind.{StandsIn}
use Rattle.tokenizer.proofs.text_starts.TextStarts.starts_sentence.Goals as goal

pub is_abbreviation-requires : goal.is_abbreviation-requires
is_abbreviation-requires c =
    let text = c.args.text.now in
    subst (StandsIn text) (sym c.index.ensures)
    (All-get_or (StandsIn text) c.args.self.now.by_period.items c.args.number c.index.result.now c.requires.number c.requires.stand.by_period)
