-- The tests of the documents are those of their roots.
use Rattle.std.proofs.Common.{◌∙◌, sym}
use Rattle.document_store.proofs.ApplyLemmas.{limit-deep, limit-nodes, limit-none, limit-tokens}
use Rattle.document_store.proofs.limits.exceeded.Goals as goal

pub returns-then-any_too_deep : goal.returns-then-any_too_deep
returns-then-any_too_deep c = sym (limit-deep c.args.planned.now (sym c.any_too_deep.ensures ∙ c.if-any_too_deep.true))

pub returns-then-any_with_too_many_nodes : goal.returns-then-any_with_too_many_nodes
returns-then-any_with_too_many_nodes c =
    sym (limit-nodes c.args.planned.now (sym c.any_too_deep.ensures ∙ c.if-any_too_deep.false) (sym c.any_with_too_many_nodes.ensures ∙ c.if-any_with_too_many_nodes.true))

pub returns-then-any_with_too_many_tokens : goal.returns-then-any_with_too_many_tokens
returns-then-any_with_too_many_tokens c =
    sym (limit-tokens c.args.planned.now (sym c.any_too_deep.ensures ∙ c.if-any_too_deep.false) (sym c.any_with_too_many_nodes.ensures ∙ c.if-any_with_too_many_nodes.false)
    (sym c.any_with_too_many_tokens.ensures ∙ c.if-any_with_too_many_tokens.true))

pub returns-else-any_with_too_many_tokens : goal.returns-else-any_with_too_many_tokens
returns-else-any_with_too_many_tokens c =
    sym (limit-none c.args.planned.now (sym c.any_too_deep.ensures ∙ c.if-any_too_deep.false) (sym c.any_with_too_many_nodes.ensures ∙ c.if-any_with_too_many_nodes.false)
    (sym c.any_with_too_many_tokens.ensures ∙ c.if-any_with_too_many_tokens.false))
