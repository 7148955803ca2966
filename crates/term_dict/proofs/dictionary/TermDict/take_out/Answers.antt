-- A term that is not there changes nothing; one that is goes from its place.
use Rattle.std.proofs.Common.{◌≡◌, ◌-◌, cond, remove, refl, subst, ap, sym, ◌∙◌}
use Rattle.index_meaning.specs.Entries.{entry}
use Rattle.index_meaning.specs.Dictionaries.{Dictionary, entries, without_term}
use Rattle.term_dict.specs.Places.{brings_key}
use Rattle.term_dict.specs.Sound.{IsSound}
use Rattle.term_dict.proofs.DictionaryLemmas.{known, left_is, at_place, take_whole, take_bounded, take_sound}
use Rattle.term_dict.proofs.dictionary.TermDict.take_out.Goals as goal

pub returns-then-not-stands_at-clause-ok : goal.returns-then-not-stands_at-clause-ok
returns-then-not-stands_at-clause-ok c =
    let e = entry c.args.key.now c.args.word.now in
    let inside = c.self.inside in
    let none = known e inside.terms.terms c.count_before-number.result c.stands_at.result c.self.invariant.sorted c.count_before-number.ensures.count c.stands_at.ensures ∙ c.if-not-stands_at.true in
    subst (λ (d : Dictionary). d ≡ without_term e d) c.self.view_is (left_is inside.terms e none)

pub take-requires : goal.take-requires
take-requires c =
    let e = entry c.args.key.now c.args.word.now in
    (at_place e c.count_before-number.result c.self.inside.terms.terms (sym c.stands_at.ensures ∙ c.if-not-stands_at.false)).0

pub overflow_sub-self : goal.overflow_sub-self
overflow_sub-self c =
    let e = entry c.args.key.now c.args.word.now in
    let inside = c.self.inside in
    let ts = inside.terms.terms in
    let number = c.count_before-number.result in
    let there = known e ts number c.stands_at.result c.self.invariant.sorted c.count_before-number.ensures.count c.stands_at.ensures ∙ c.if-not-stands_at.false in
    let brought = c.brought_keys.ensures ∙ ap (λ (d : Dictionary). cond (brings_key c.args.key.now number (entries d.terms)) 1 0) c.in_ok-take.ensures.ok in
    take_bounded ts (remove ts number) inside.keys number c.brought_keys.result inside.terms.given e c.count_before-number.ensures.count refl c.self.invariant there brought

pub invariant_of-self-2 : goal.invariant_of-self-2
invariant_of-self-2 c =
    let e = entry c.args.key.now c.args.word.now in
    let inside = c.self.inside in
    let ts = inside.terms.terms in
    let number = c.count_before-number.result in
    let there = known e ts number c.stands_at.result c.self.invariant.sorted c.count_before-number.ensures.count c.stands_at.ensures ∙ c.if-not-stands_at.false in
    let brought = c.brought_keys.ensures ∙ ap (λ (d : Dictionary). cond (brings_key c.args.key.now number (entries d.terms)) 1 0) c.in_ok-take.ensures.ok in
    subst (λ (d : Dictionary). IsSound d.terms (inside.keys - c.brought_keys.result) d.given) (sym c.in_ok-take.ensures.ok)
    (take_sound ts (remove ts number) inside.keys number c.brought_keys.result inside.terms.given e c.count_before-number.ensures.count refl c.self.invariant there brought)

pub returns-clause-ok : goal.returns-clause-ok
returns-clause-ok c =
    let e = entry c.args.key.now c.args.word.now in
    let inside = c.self.inside in
    let ts = inside.terms.terms in
    let number = c.count_before-number.result in
    let there = known e ts number c.stands_at.result c.self.invariant.sorted c.count_before-number.ensures.count c.stands_at.ensures ∙ c.if-not-stands_at.false in
    c.in_ok-take.ensures.ok
    ∙ take_whole ts (remove ts number) inside.keys number 0 inside.terms.given e c.count_before-number.ensures.count refl c.self.invariant.sorted there
    ∙ ap (without_term e) c.self.view_is
