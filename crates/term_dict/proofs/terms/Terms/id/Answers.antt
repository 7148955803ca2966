-- The id is one of those that came in, and the term is that of its entry.
use Rattle.std.proofs.Common.{◌≡◌, ◌<◌, ℕ, List, length, get_or, subst, ap, sym, ◌∙◌, arith}
use Rattle.index_meaning.specs.Dictionaries.{Dictionary, entries, ids}
use Rattle.term_dict.proofs.TermsOfLemmas.{length-terms, ids-of, below-at, entry-of}
use Rattle.term_dict.proofs.terms.Terms.id.Goals as goal

pub returns-clause-given : goal.returns-clause-given
returns-clause-given c =
    let inside = c.self.inside in
    let within : c.args.number < length inside.ids = omega (arith, c.requires, length-terms inside.given inside.ids, ap (λ (d : Dictionary). length d.terms) c.self.view_is) in
    omega (arith, c.get.ensures, below-at (length inside.given) inside.ids c.args.number c.get.result.now c.self.invariant within, ap (λ (d : Dictionary). length d.given) c.self.view_is)

pub returns-clause-id : goal.returns-clause-id
returns-clause-id c =
    let inside = c.self.inside in
    let is : inside.ids ≡ ids c.args.self.now.terms = sym (ids-of inside.given inside.ids) ∙ ap (λ (d : Dictionary). ids d.terms) c.self.view_is in
    c.get.ensures ∙ ap (λ (ns : List ℕ). get_or ns c.args.number c.get.result.now) is

pub returns-clause-entry : goal.returns-clause-entry
returns-clause-entry c = λ e.
    let inside = c.self.inside in
    let within : c.args.number < length inside.ids = omega (arith, c.requires, length-terms inside.given inside.ids, ap (λ (d : Dictionary). length d.terms) c.self.view_is) in
    subst (λ (d : Dictionary). get_or d.given c.get.result.now e ≡ get_or (entries d.terms) c.args.number e) c.self.view_is
    (entry-of inside.given inside.ids c.args.number c.get.result.now e c.self.invariant within c.get.ensures)
