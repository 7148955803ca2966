-- The ids that stay are those of the terms that do.
use Rattle.std.proofs.Common.{remove, length, ap, ◌∙◌}
use Rattle.index_meaning.specs.Dictionaries.{Dictionary, dictionary}
use Rattle.term_dict.specs.Given.{are_below, terms_of}
use Rattle.term_dict.proofs.TermsOfLemmas.{below-remove, terms-take}
use Rattle.term_dict.proofs.terms.Terms.take.Goals as goal

pub invariant_of-self-2 : goal.invariant_of-self-2
invariant_of-self-2 c =
    let inside = c.self.inside in
    ap (are_below (length inside.given)) c.in_ok-remove.ensures.ok ∙ below-remove (length inside.given) inside.ids c.args.number c.self.invariant

pub returns-clause-ok : goal.returns-clause-ok
returns-clause-ok c =
    let inside = c.self.inside in
    ap (λ ns. dictionary (terms_of inside.given ns) inside.given) c.in_ok-remove.ensures.ok
    ∙ ap (λ ts. dictionary ts inside.given) (terms-take inside.given inside.ids c.args.number)
    ∙ ap (λ (d : Dictionary). dictionary (remove d.terms c.args.number) d.given) c.self.view_is
