-- The numbers of a key begin after the smaller keys, and end after its own terms.
use Rattle.std.proofs.Common.{[], ap, ◌∙◌, arith}
use Rattle.index_meaning.specs.Entries.{found}
use Rattle.index_meaning.specs.Dictionaries.{Dictionary, entries}
use Rattle.term_dict.proofs.ReadLemmas.{found_nothing, found_numbers}
use Rattle.term_dict.proofs.dictionary.TermDict.find.Goals as goal

pub returns-then-from-to : goal.returns-then-from-to
returns-then-from-to c =
    found_nothing c.args.key.now [] (entries c.self.inside.terms.terms) c.count_before-from.result c.count_before-to.result c.count_before-from.ensures.count c.count_before-to.ensures.count c.if-from-to.true
    ∙ ap (λ (d : Dictionary). found c.args.key.now (entries d.terms)) c.self.view_is

pub overflow_cast-result : goal.overflow_cast-result
overflow_cast-result c = omega (arith, c.count_before-from.ensures.within, c.self.invariant.fewer, c.self.invariant.fits)

pub overflow_cast-result-2 : goal.overflow_cast-result-2
overflow_cast-result-2 c = omega (arith, c.count_before-to.ensures.within, c.self.invariant.fewer, c.self.invariant.fits)

pub returns : goal.returns
returns c =
    found_numbers c.args.key.now [] (entries c.self.inside.terms.terms) c.count_before-from.result c.count_before-to.result c.count_before-from.ensures.count c.count_before-to.ensures.count c.if-from-to.false
    ∙ ap (λ (d : Dictionary). found c.args.key.now (entries d.terms)) c.self.view_is
