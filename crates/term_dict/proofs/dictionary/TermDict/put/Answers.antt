-- What the terms, and the ids and names of others become with a new term.
use Rattle.std.proofs.Common.{ap, sym, ◌∙◌}
use Rattle.std.specs.Prelude.{slice_get}
use Rattle.index_meaning.specs.Entries.{entry, is_sorted}
use Rattle.index_meaning.specs.Dictionaries.{Dictionary, entries, id_of}
use Rattle.term_dict.proofs.DictionaryLemmas.{new_entries}
use Rattle.term_dict.proofs.IdLemmas.{id_kept, named_still}
use Rattle.term_dict.proofs.dictionary.TermDict.put.Goals as goal

pub returns-in-Ok-clause-listed : goal.returns-in-Ok-clause-listed
returns-in-Ok-clause-listed c =
    let e = entry c.args.key.now c.args.word.now in
    let sorted = ap (λ (d : Dictionary). is_sorted (entries d.terms)) (sym c.self.view_is) ∙ c.self.invariant.sorted in
    ap (λ (d : Dictionary). entries d.terms) c.in-Ok.ensures.becomes ∙ new_entries e c.args.self sorted

pub returns-in-Ok-clause-kept : goal.returns-in-Ok-clause-kept
returns-in-Ok-clause-kept c = λ f there.
    let e = entry c.args.key.now c.args.word.now in
    ap (λ (d : Dictionary). id_of f d.terms) c.in-Ok.ensures.becomes ∙ id_kept f e c.args.self there

pub returns-in-Ok-clause-named : goal.returns-in-Ok-clause-named
returns-in-Ok-clause-named c = λ id given.
    let e = entry c.args.key.now c.args.word.now in
    ap (λ (d : Dictionary). slice_get d.given id) c.in-Ok.ensures.becomes ∙ named_still e c.args.self id given
