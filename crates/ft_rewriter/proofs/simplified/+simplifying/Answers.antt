-- All selections are simplified, and negated.
use Rattle.std.proofs.Common.{◌≡◌, map, take, ap, ◌∙◌, arith}
use Rattle.std.proofs.lemmas.List.{take_all}
use Rattle.ft_rewriter.specs.Rewriting.{negated, simplified}
use Rattle.ft_syntax.specs.View.{form}
use Rattle.ft_rewriter.proofs.EachSelection.{negated_each, simplified_each}
use Rattle.ft_rewriter.proofs.simplified.+simplifying.Goals as goal

pub all_simplified-returns : goal.all_simplified-returns
all_simplified-returns t c =
    let all : take c.loop-part.part-index c.as_slice-part-items.result.now ≡ c.args.parts.now = take_all c.loop-part.part-index c.as_slice-part-items.result.now (omega arith) ∙ c.as_slice-part-items.ensures in
    c.loop-part.invariant ∙ ap (map (λ part. simplified (form part))) all ∙ simplified_each c.args.parts.now

pub all_negated-returns : goal.all_negated-returns
all_negated-returns t c =
    let all : take c.loop-part.part-index c.as_slice-part-items.result.now ≡ c.args.parts.now = take_all c.loop-part.part-index c.as_slice-part-items.result.now (omega arith) ∙ c.as_slice-part-items.ensures in
    c.loop-part.invariant ∙ ap (map (λ part. negated (form part))) all ∙ negated_each c.args.parts.now
