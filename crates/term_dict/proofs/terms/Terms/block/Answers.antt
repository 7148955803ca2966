-- The ids are those of the terms.
use Rattle.std.proofs.Common.{◌≡◌, ℕ, List, IfSome, subst, ap, sym, ◌∙◌}
use Rattle.index_meaning.specs.Dictionaries.{Dictionary, ids}
use Rattle.shared_list.specs.Blocks.{IsRun}
use Rattle.term_dict.proofs.TermsOfLemmas.{ids-of}
use Rattle.term_dict.proofs.terms.Terms.block.Goals as goal

pub returns : goal.returns
returns c =
    let inside = c.self.inside in
    let is : inside.ids ≡ ids c.args.self.now.terms = sym (ids-of inside.given inside.ids) ∙ ap (λ (d : Dictionary). ids d.terms) c.self.view_is in
    subst (λ (ns : List ℕ). IfSome c.block.result (λ block. IsRun ns block.0 block.1.now)) is c.block.ensures
