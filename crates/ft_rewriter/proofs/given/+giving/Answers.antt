-- All selections have the options.
use Rattle.std.proofs.Common.{◌≡◌, map, take, ap, ◌∙◌, arith}
use Rattle.std.proofs.lemmas.List.{take_all}
use Rattle.ft_rewriter.specs.Rewriting.{given}
use Rattle.ft_syntax.specs.View.{form, forms_of}
use Rattle.ft_rewriter.proofs.EachSelection.{given_each}
use Rattle.ft_rewriter.proofs.given.+giving.Goals as goal

pub all_given-returns : goal.all_given-returns
all_given-returns t c =
    let all : take c.loop-part.part-index c.as_slice-part-items.result.now ≡ c.args.parts.now = take_all c.loop-part.part-index c.as_slice-part-items.result.now (omega arith) ∙ c.as_slice-part-items.ensures in
    ap forms_of (c.loop-part.invariant ∙ ap (map (λ part. given c.args.outer.now (form part))) all) ∙ given_each c.args.outer.now c.args.parts.now
