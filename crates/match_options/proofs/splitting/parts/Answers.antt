-- The parts of the characters are those of the text.
use Rattle.std.proofs.Common.{◌≡◌, IfOk, List, ℕ, [], ap, ◌∙◌, subst}
use Rattle.match_options.specs.steps.PartsLeft.{parts_left}
use Rattle.match_options.proofs.PartLemmas.{text_parts}
use Rattle.match_options.proofs.splitting.parts.Goals as goal

pub returns : goal.returns
returns c =
    subst (λ (all : List (List ℕ)). IfOk c.split.result (λ found. found ≡ all))
    (ap (parts_left []) (c.deref.ensures.value ∙ c.in_ok-letters.ensures) ∙ text_parts c.args.string.now) c.split.ensures
