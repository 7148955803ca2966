-- Nothing is left after the last run.
use Rattle.std.proofs.Common.{◌++◌, sym, ap, ◌∙◌, map, arith}
use Rattle.std.proofs.lemmas.List.{drop_all}
use Rattle.match_options.specs.declared.atom.Atom.TheVariants.{Letter}
use Rattle.match_options.specs.Wildcards.{formed, form_by}
use Rattle.match_options.proofs.WildLemmas.{all_formed}
use Rattle.match_options.proofs.wild.formed.Goals as goal

pub returns : goal.returns
returns c =
    c.in_ok-end_run.ensures
    ∙ ap (λ r. c.loop-atom.out.items ++ map Letter (form_by c.args.case c.args.marks r)) c.deref.ensures.value
    ∙ ap (λ xs. c.loop-atom.out.items ++ xs) (sym (all_formed (form_by c.args.case c.args.marks) c.loop-atom.run.items))
    ∙ ap (λ d. c.loop-atom.out.items ++ formed (form_by c.args.case c.args.marks) c.loop-atom.run.items d) (sym (drop_all c.loop-atom.atom-index c.args.atoms.now (omega arith)))
    ∙ c.loop-atom.invariant
