-- An entry that is there stands at its place.
use Rattle.std.proofs.Common.{Some, None, cond, ap, sym, ◌∙◌}
use Rattle.index_meaning.specs.Entries.{entry, number_of}
use Rattle.index_meaning.specs.Dictionaries.{Dictionary, entries}
use Rattle.term_dict.proofs.DictionaryLemmas.{told_number}
use Rattle.term_dict.proofs.dictionary.TermDict.find_word.Goals as goal

pub returns-then-stands_at : goal.returns-then-stands_at
returns-then-stands_at c =
    let e = entry c.args.key.now c.args.word.now in
    let number = c.count_before-number.result in
    ap (λ b. cond b (Some number) None) (sym c.if-stands_at.true)
    ∙ told_number e (entries c.self.inside.terms.terms) number c.stands_at.result c.self.invariant.sorted c.count_before-number.ensures.count c.stands_at.ensures
    ∙ ap (λ (d : Dictionary). number_of e (entries d.terms)) c.self.view_is

pub returns : goal.returns
returns c =
    let e = entry c.args.key.now c.args.word.now in
    let number = c.count_before-number.result in
    ap (λ b. cond b (Some number) None) (sym c.if-stands_at.false)
    ∙ told_number e (entries c.self.inside.terms.terms) number c.stands_at.result c.self.invariant.sorted c.count_before-number.ensures.count c.stands_at.ensures
    ∙ ap (λ (d : Dictionary). number_of e (entries d.terms)) c.self.view_is
