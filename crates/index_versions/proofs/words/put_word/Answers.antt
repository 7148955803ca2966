-- The word is put under its key, so that the dictionary has its entry under the id then.
use Rattle.std.proofs.Common.{◌≡◌, ◌<◌, ◌≤◌, ◌∷◌, [], length, ap, sym, subst, ◌∙◌}
use Rattle.text_forms.specs.Forms.{key_of}
use Rattle.index_meaning.specs.Entries.{Entry, entry, is_sorted}
use Rattle.index_meaning.specs.Dictionaries.{Dictionary, are_given, entries, id_of}
use Rattle.index_meaning.specs.Index.{term_of}
use Rattle.term_dict.proofs.IdLemmas.{last_id}
use Rattle.index_versions.specs.steps.Naming.{IsNamed}
use Rattle.index_versions.proofs.NamingLemmas.{named_is}
use Rattle.index_versions.proofs.words.put_word.Goals as goal

pub returns-clause-named : goal.returns-clause-named
returns-clause-named c =
    let e = entry c.as_str.result.now c.args.word.now in
    let key = c.as_str.ensures ∙ c.in_ok-key.ensures in
    let is : e ≡ term_of key_of c.args.word.now = λ i. entry (key i) c.args.word.now in
    let old = c.args.dictionary.now in
    let before = c.replace-before.result in
    let value : before ≡ old = c.replace-before.ensures.value in
    let new = c.in_ok-after.after in
    subst (λ (f : Entry). IsNamed old (f ∷ []) new (c.in_ok-after.id ∷ [])) is
    (subst (λ (d : Dictionary). IsNamed d (e ∷ []) new (c.in_ok-after.id ∷ [])) value
    (named_is before new (e ∷ []) (c.in_ok-after.id ∷ [])
    (record {
      sorted = ap (λ (d : Dictionary). is_sorted (entries d.terms)) value ∙ c.len-terms.ensures.sorted;
      sorted_new = c.len-all_terms.ensures.sorted;
      given = ap (λ (d : Dictionary). are_given d.given d.terms) value ∙ c.len-terms.ensures.given;
      given_new = c.len-all_terms.ensures.given;
      becomes = c.in_ok-after.ensures.becomes;
      listed = c.in_ok-after.ensures.listed;
      kept = c.in_ok-after.ensures.kept;
      named = c.in_ok-after.ensures.named;
    })
    (ap (λ o. o ∷ []) (sym c.in_ok-after.ensures.id))))

pub returns-clause-given : goal.returns-clause-given
returns-clause-given c = λ other from to.
    let e = entry c.as_str.result.now c.args.word.now in
    let before = c.replace-before.result in
    let value : before ≡ c.args.dictionary.now = c.replace-before.ensures.value in
    let becomes = c.in_ok-after.ensures.becomes in
    last_id e before c.in_ok-after.id other (ap (λ (d : Dictionary). id_of e d.terms) (sym becomes) ∙ c.in_ok-after.ensures.id)
    (subst (λ (d : Dictionary). length d.given ≤ other) (sym value) from)
    (subst (λ (d : Dictionary). other < length d.given) becomes to)
