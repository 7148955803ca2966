-- Terms in order whose ids name them have different ids, below the number of those that were given.
use Rattle.std.proofs.Common.{length, ap, sym, ◌∙◌}
use Rattle.index_meaning.specs.Dictionaries.{Dictionary, are_apart, ids_below}
use Rattle.term_dict.proofs.TermLemmas.{given_apart, given_below}
use Rattle.term_dict.proofs.dictionary.TermDict.len.Goals as goal

pub returns-clause-apart : goal.returns-clause-apart
returns-clause-apart c =
    ap (λ (d : Dictionary). are_apart d.terms) (sym c.self.view_is) ∙ given_apart c.self.inside.terms.given c.self.inside.terms.terms c.self.invariant.sorted c.self.invariant.named

pub returns-clause-below : goal.returns-clause-below
returns-clause-below c =
    ap (λ (d : Dictionary). ids_below (length d.given) d.terms) (sym c.self.view_is) ∙ given_below c.self.inside.terms.given c.self.inside.terms.terms c.self.invariant.named
