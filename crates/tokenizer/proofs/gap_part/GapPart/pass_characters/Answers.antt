-- Both gaps go past the characters, and what was seen before them stays seen.
use Rattle.std.proofs.Common.{◌∙◌, sym, ap₂, if◌then◌else◌}
use Rattle.std.specs.Str.{chars}
use Rattle.tokenizer.specs.steps.GapSteps.{both_seen}
use Rattle.tokenizer.proofs.GapLemmas.{after_part-characters}
use Rattle.tokenizer.proofs.gap_part.GapPart.pass_characters.Goals as goal

pub returns : goal.returns
returns c known =
    ap₂ (λ fed alone. both_seen known (if known.after_line_feed then fed else alone)) c.pass_characters-2.ensures c.pass_characters.ensures
    ∙ sym (after_part-characters c.args.self.now known (chars c.args.text.now))
