-- A term that is there changes nothing; a new one comes to its place, under the next id.
use Rattle.std.proofs.Common.{◌≡◌, ◌<◌, length, Some, cond, None, subst, ap, sym, ◌∙◌, arith}
use Rattle.index_meaning.specs.Entries.{entry, number_of}
use Rattle.index_meaning.specs.Dictionaries.{Dictionary, entries, dictionary, id_of, with_new}
use Rattle.term_dict.specs.Places.{brings_key}
use Rattle.term_dict.proofs.DictionaryLemmas.{at_place, known, told_number, kept_is, keys_bounded, put_whole, put_sound}
use Rattle.term_dict.proofs.IdLemmas.{new_id, numbered_id}
use Rattle.term_dict.proofs.dictionary.TermDict.placed.Goals as goal

pub id-id-requires : goal.id-id-requires
id-id-requires c =
    let e = entry c.args.key.now c.args.word.now in
    let stands = at_place e c.count_before-number.result c.self.inside.terms.terms (sym c.stands_at.ensures ∙ c.if-stands_at.true) in
    subst (λ (d : Dictionary). c.count_before-number.result < length d.terms) c.self.view_is stands.0

pub returns-then-stands_at-clause-becomes : goal.returns-then-stands_at-clause-becomes
returns-then-stands_at-clause-becomes c =
    let e = entry c.args.key.now c.args.word.now in
    let inside = c.self.inside in
    let there = known e inside.terms.terms c.count_before-number.result c.stands_at.result c.self.invariant.sorted c.count_before-number.ensures.count c.stands_at.ensures ∙ c.if-stands_at.true in
    subst (λ (d : Dictionary). d ≡ with_new e d) c.self.view_is (kept_is (dictionary inside.terms.terms inside.terms.given) e there)

pub returns-then-stands_at-clause-id : goal.returns-then-stands_at-clause-id
returns-then-stands_at-clause-id c =
    let e = entry c.args.key.now c.args.word.now in
    let number = c.count_before-number.result in
    let found =
    ap (λ b. cond b (Some number) None) (sym c.if-stands_at.true)
    ∙ told_number e (entries c.self.inside.terms.terms) number c.stands_at.result c.self.invariant.sorted c.count_before-number.ensures.count c.stands_at.ensures
    ∙ ap (λ (d : Dictionary). number_of e (entries d.terms)) c.self.view_is in
    numbered_id e c.args.self.terms number c.id-id.result (sym found) c.id-id.ensures

pub overflow_add-keys : goal.overflow_add-keys
overflow_add-keys c =
    let inside = c.self.inside in
    omega (arith, c.self.invariant.fits, keys_bounded inside.terms.terms inside.keys c.brought_keys.result inside.terms.given (brings_key c.args.key.now c.count_before-number.result (entries inside.terms.terms)) c.self.invariant c.brought_keys.ensures)

pub invariant_of-result : goal.invariant_of-result
invariant_of-result c =
    let e = entry c.args.key.now c.args.word.now in
    let inside = c.self.inside in
    let number = c.count_before-number.result in
    let new = known e inside.terms.terms number c.stands_at.result c.self.invariant.sorted c.count_before-number.ensures.count c.stands_at.ensures ∙ c.if-stands_at.false in
    put_sound inside.terms.terms c.in-Ok.terms.terms inside.keys number c.brought_keys.result inside.terms.given c.in-Ok.terms.given e c.count_before-number.ensures.count
    (ap (λ (d : Dictionary). d.terms) c.in-Ok.ensures.becomes) (ap (λ (d : Dictionary). d.given) c.in-Ok.ensures.becomes) c.self.invariant new c.in-Ok.ensures.fits c.brought_keys.ensures

pub returns-in-Ok-clause-becomes : goal.returns-in-Ok-clause-becomes
returns-in-Ok-clause-becomes c =
    let e = entry c.args.key.now c.args.word.now in
    let inside = c.self.inside in
    let number = c.count_before-number.result in
    let new = known e inside.terms.terms number c.stands_at.result c.self.invariant.sorted c.count_before-number.ensures.count c.stands_at.ensures ∙ c.if-stands_at.false in
    put_whole inside.terms.terms c.in-Ok.terms.terms inside.keys number c.brought_keys.result inside.terms.given c.in-Ok.terms.given e c.count_before-number.ensures.count
    (ap (λ (d : Dictionary). d.terms) c.in-Ok.ensures.becomes) (ap (λ (d : Dictionary). d.given) c.in-Ok.ensures.becomes) c.self.invariant.sorted new
    ∙ ap (with_new e) c.self.view_is

pub returns-in-Ok-clause-id : goal.returns-in-Ok-clause-id
returns-in-Ok-clause-id c =
    let e = entry c.args.key.now c.args.word.now in
    let inside = c.self.inside in
    let number = c.count_before-number.result in
    let new = known e inside.terms.terms number c.stands_at.result c.self.invariant.sorted c.count_before-number.ensures.count c.stands_at.ensures ∙ c.if-stands_at.false in
    let whole = put_whole inside.terms.terms c.in-Ok.terms.terms inside.keys number c.brought_keys.result inside.terms.given c.in-Ok.terms.given e c.count_before-number.ensures.count
    (ap (λ (d : Dictionary). d.terms) c.in-Ok.ensures.becomes) (ap (λ (d : Dictionary). d.given) c.in-Ok.ensures.becomes) c.self.invariant.sorted new in
    ap (λ (d : Dictionary). id_of e d.terms) whole ∙ new_id e (dictionary inside.terms.terms inside.terms.given) new ∙ ap Some (sym c.in-Ok.ensures.id)
