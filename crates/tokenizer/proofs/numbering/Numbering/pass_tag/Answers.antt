-- The tokens after a tag are those after the gap with it.
use Rattle.std.proofs.Common.{sym, ap, ◌∙◌}
use Rattle.tokenizer.specs.steps.Numbering.{tokens_left}
use Rattle.tokenizer.proofs.NumberingLemmas.{tokens_left-tag}
use Rattle.tokenizer.proofs.numbering.Numbering.pass_tag.Goals as goal

pub returns-clause-tokens : goal.returns-clause-tokens
returns-clause-tokens c rest =
    tokens_left-tag c.args.self.now rest c.args.name.now ∙ ap (λ known. tokens_left (record c.args.self.now { gap = known }) rest) (sym c.pass_tag.ensures)
