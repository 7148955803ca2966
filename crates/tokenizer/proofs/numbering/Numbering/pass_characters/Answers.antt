-- The tokens after characters in no word are those after the gap with them.
use Rattle.std.proofs.Common.{sym, ap, ◌∙◌}
use Rattle.tokenizer.specs.steps.Numbering.{tokens_left}
use Rattle.tokenizer.proofs.NumberingLemmas.{tokens_left-characters}
use Rattle.tokenizer.proofs.numbering.Numbering.pass_characters.Goals as goal

pub returns-clause-tokens : goal.returns-clause-tokens
returns-clause-tokens c rest =
    tokens_left-characters c.args.self.now rest c.args.text.now ∙ ap (λ known. tokens_left (record c.args.self.now { gap = known }) rest) (sym c.pass_characters.ensures)
