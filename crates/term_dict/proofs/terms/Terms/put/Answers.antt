-- The new id is that of the entry that came last.
use Rattle.std.proofs.Common.{◌++◌, ◌∷◌, [], insert, length, ap, ◌∙◌, arith, length-append}
use Rattle.index_meaning.specs.Entries.{entry}
use Rattle.index_meaning.specs.Dictionaries.{Dictionary, dictionary, term}
use Rattle.term_dict.proofs.TermsOfLemmas.{below-put, terms-put}
use Rattle.term_dict.proofs.terms.Terms.put.Goals as goal

pub invariant_of-result : goal.invariant_of-result
invariant_of-result c =
    let inside = c.self.inside in
    let e = entry c.args.key.now c.args.word.now in
    let longer = length-append inside.given (e ∷ []) in
    below-put (length inside.given) (length c.in_ok-given.given) inside.ids c.insert.new.self c.args.number c.in_ok-id.id
    (omega (arith, c.in_ok-id.ensures.0, longer, ap length c.in_ok-given.ensures)) (omega (arith, longer, ap length c.in_ok-given.ensures))
    c.in_ok-insert.ensures.ok c.self.invariant

pub returns-clause-becomes : goal.returns-clause-becomes
returns-clause-becomes c =
    let inside = c.self.inside in
    let e = entry c.args.key.now c.args.word.now in
    terms-put inside.given c.in_ok-given.given e inside.ids c.insert.new.self c.args.number c.in_ok-id.id c.self.invariant c.in_ok-insert.ensures.ok
    c.in_ok-id.ensures.0 c.in_ok-given.ensures
    ∙ ap (λ (d : Dictionary). dictionary (insert d.terms c.args.number (term e (length d.given))) (d.given ++ e ∷ [])) c.self.view_is
