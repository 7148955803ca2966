-- What the terms and the ids of others become without a term.
use Rattle.std.proofs.Common.{ap, ◌∙◌}
use Rattle.index_meaning.specs.Entries.{entry}
use Rattle.index_meaning.specs.Dictionaries.{Dictionary, entries, id_of}
use Rattle.term_dict.proofs.TermLemmas.{entries_without}
use Rattle.term_dict.proofs.IdLemmas.{id_left}
use Rattle.term_dict.proofs.dictionary.TermDict.take.Goals as goal

pub returns-clause-listed : goal.returns-clause-listed
returns-clause-listed c =
    let e = entry c.args.key.now c.args.word.now in
    ap (λ (d : Dictionary). entries d.terms) c.in_ok-take_out.ensures.ok ∙ entries_without e c.args.self.now.terms

pub returns-clause-kept : goal.returns-clause-kept
returns-clause-kept c = λ f there.
    let e = entry c.args.key.now c.args.word.now in
    ap (λ (d : Dictionary). id_of f d.terms) c.in_ok-take_out.ensures.ok ∙ id_left f e c.args.self.now.terms there
