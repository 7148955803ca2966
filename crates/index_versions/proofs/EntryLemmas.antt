-- Entries of a dictionary and their ids: the ids that are there are those of entries, and each entry has one.
use Rattle.std.proofs.Common.{◌≡◌, ℕ, ◌<◌, zero, suc, true, false, ◌||◌, ◌==◌, cond, List, [], ◌∷◌, length, Some, None, refl, ap, sym, subst, ◌∙◌, true≢false, inl, inr}
use Rattle.std.specs.Prelude.{slice_get}
use Rattle.std.specs.Option.{option_map_or}
use Rattle.std.specs.Ordering.{is_eq}
use Rattle.std.specs.Cmp.{Equal-is}
use Rattle.std.specs.FinMap.{slice_cmp-IsAntisymmetric, nat_cmp-IsAntisymmetric}
use Rattle.std.proofs.lemmas.Bool.{and_parts, or_cases, or_left, or_right, cases_Bool, false_from_ne_true, eqb-true, eq-eqb}
use Rattle.std.proofs.lemmas.Cmp.{eq_by_cmp_equiv}
use Rattle.std.proofs.lemmas.Option.{same_Some, none-some, slice_get_within}
use Rattle.text_forms.specs.Forms.{key_of}
use Rattle.index_document.specs.Terms.{has}
use Rattle.index_meaning.specs.Entries.{Entry, entry, entry_cmp, text_cmp, has_entry, is_below, is_sorted, stands_at}
use Rattle.index_meaning.specs.Dictionaries.{Term, entries, ids, id_of, are_given}
use Rattle.index_meaning.specs.Index.{term_of}
use Rattle.term_dict.proofs.OrderLemmas.{entry_total, same_entry}
use Rattle.term_dict.proofs.RankLemmas.{not_among}
use Rattle.index_versions.specs.steps.Held.{word_of}
use Rattle.index_versions.specs.steps.Naming.{are_keyed}

pub equal_is : (e f : Entry) → is_eq (entry_cmp e f) ≡ true → e ≡ f
equal_is e f h = same_entry e f ((Equal-is (entry_cmp e f)).0 h)

pub equal_same : (e : Entry) → is_eq (entry_cmp e e) ≡ true
equal_same e = (eq_by_cmp_equiv entry_total).refl e

-- ---- an entry that has an id is there, and one that is there has one

pub id_there : (e : Entry) (ts : List Term) (id : ℕ) → id_of e ts ≡ Some id → has_entry e (entries ts) ≡ true
id_there e [] id h = absurd (none-some id h)
id_there e (t ∷ ts) id h =
    elim (is_eq (entry_cmp e t.entry)) as (λ b. cond b (Some t.id) (id_of e ts) ≡ Some id → (b || has_entry e (entries ts)) ≡ true) [
      | true ↦ λ h₂. refl
      | false ↦ λ h₂. id_there e ts id h₂
    ] h

pub there_id : (e : Entry) (ts : List Term) → has_entry e (entries ts) ≡ true → (id : ℕ) × (id_of e ts ≡ Some id)
there_id e [] h = absurd (true≢false (sym h))
there_id e (t ∷ ts) h =
    elim (is_eq (entry_cmp e t.entry)) as (λ b. (b || has_entry e (entries ts)) ≡ true → (id : ℕ) × (cond b (Some t.id) (id_of e ts) ≡ Some id)) [
      | true ↦ λ h₂. (t.id, refl)
      | false ↦ λ h₂. there_id e ts h₂
    ] h

pub id_live : (e : Entry) (ts : List Term) (id : ℕ) → id_of e ts ≡ Some id → has id (ids ts) ≡ true
id_live e [] id h = absurd (none-some id h)
id_live e (t ∷ ts) id h =
    elim (is_eq (entry_cmp e t.entry)) as (λ b. cond b (Some t.id) (id_of e ts) ≡ Some id → has id (ids (t ∷ ts)) ≡ true) [
      | true ↦ λ h₂. or_left (t.id == id) (has id (ids ts)) (eq-eqb t.id id (same_Some t.id id h₂))
      | false ↦ λ h₂. or_right (t.id == id) (has id (ids ts)) (id_live e ts id h₂)
    ] h

-- an id that is there is that of an entry
pub live_id : (id : ℕ) (ts : List Term) → is_sorted (entries ts) ≡ true → has id (ids ts) ≡ true → (e : Entry) × (id_of e ts ≡ Some id)
live_id id [] sorted there = absurd (true≢false (sym there))
live_id id (t ∷ ts) sorted there =
    let parts = and_parts (is_below t.entry (entries ts)) (is_sorted (entries ts)) sorted in
    elim (or_cases (t.id == id) (has id (ids ts)) there) [
      | inl here ↦ (t.entry, ap (λ b. cond b (Some t.id) (id_of t.entry ts)) (equal_same t.entry) ∙ ap Some (eqb-true t.id id here))
      | inr further ↦
          let rest = live_id id ts parts.1 further in
          let other : is_eq (entry_cmp rest.0 t.entry) ≡ false = false_from_ne_true (is_eq (entry_cmp rest.0 t.entry)) (λ same.
          true≢false (sym (id_there rest.0 ts id rest.1) ∙ ap (λ (f : Entry). has_entry f (entries ts)) (equal_is rest.0 t.entry same) ∙ not_among t.entry (entries ts) parts.0)) in
          (rest.0, ap (λ b. cond b (Some t.id) (id_of rest.0 ts)) other ∙ rest.1)
    ]

-- ---- an id names its entry among those that were given

pub stands_is : (e : Entry) (n : ℕ) (es : List Entry) → stands_at e n es ≡ true → slice_get es n ≡ Some e
stands_is e n es h =
    elim (slice_get es n) as (λ o. option_map_or (λ f. is_eq (entry_cmp e f)) o false ≡ true → o ≡ Some e) [
      | None ↦ λ h₂. absurd (true≢false (sym h₂))
      | Some f ↦ λ h₂. ap Some (sym (equal_is e f h₂))
    ] h

pub id_names : (given : List Entry) (e : Entry) (ts : List Term) (id : ℕ) → are_given given ts ≡ true → id_of e ts ≡ Some id → slice_get given id ≡ Some e
id_names given e [] id all h = absurd (none-some id h)
id_names given e (t ∷ ts) id all h =
    let parts = and_parts (stands_at t.entry t.id given) (are_given given ts) all in
    elim (cases_Bool (is_eq (entry_cmp e t.entry))) [
      | inl same ↦
          let number : t.id ≡ id = same_Some t.id id (sym (ap (λ b. cond b (Some t.id) (id_of e ts)) same) ∙ h) in
          ap (slice_get given) (sym number) ∙ stands_is t.entry t.id given parts.0 ∙ ap Some (sym (equal_is e t.entry same))
      | inr other ↦ id_names given e ts id parts.1 (sym (ap (λ b. cond b (Some t.id) (id_of e ts)) other) ∙ h)
    ]

-- an id that is there names an entry
pub record Names (given : List Entry) (ts : List Term) (id : ℕ) : Type 0 where
  pub named : Entry
  pub given_is : slice_get given id ≡ Some named
  pub id_is : id_of named ts ≡ Some id

pub names : (given : List Entry) (ts : List Term) (id : ℕ) → is_sorted (entries ts) ≡ true → are_given given ts ≡ true → has id (ids ts) ≡ true → Names given ts id
names given ts id sorted all there =
    let found = live_id id ts sorted there in
    record { named = found.0; given_is = id_names given found.0 ts id all found.1; id_is = found.1 }

pub live_below : (given : List Entry) (ts : List Term) (id : ℕ) → is_sorted (entries ts) ≡ true → are_given given ts ≡ true → has id (ids ts) ≡ true → id < length given
live_below given ts id sorted all there = let n = names given ts id sorted all there in slice_get_within given id n.named n.given_is

-- ---- an id's word, and the key of an entry

pub word_is : (given : List Entry) (id : ℕ) (e : Entry) → slice_get given id ≡ Some e → word_of given id ≡ e.word
word_is given id e h = ap (λ o. option_map_or (λ (f : Entry). f.word) o []) h

keyed_is : (e : Entry) → is_eq (text_cmp e.key (key_of e.word)) ≡ true → e ≡ term_of key_of e.word
keyed_is e same =
    let key : e.key ≡ key_of e.word = slice_cmp-IsAntisymmetric nat_cmp-IsAntisymmetric e.key (key_of e.word) ((Equal-is (text_cmp e.key (key_of e.word))).0 same) in
    λ i. entry (key i) e.word

pub keyed_at : (given : List Entry) (id : ℕ) (e : Entry) → are_keyed given ≡ true → slice_get given id ≡ Some e → e ≡ term_of key_of e.word
keyed_at [] id e all h = absurd (none-some e h)
keyed_at (f ∷ given) zero e all h =
    subst (λ (g : Entry). g ≡ term_of key_of g.word) (same_Some f e h) (keyed_is f (and_parts (is_eq (text_cmp f.key (key_of f.word))) (are_keyed given) all).0)
keyed_at (f ∷ given) (suc id) e all h = keyed_at given id e (and_parts (is_eq (text_cmp f.key (key_of f.word))) (are_keyed given) all).1 h

-- two ids that are there and name one word are one
pub one_id : (given : List Entry) (ts : List Term) (a b : ℕ) → is_sorted (entries ts) ≡ true → are_given given ts ≡ true → are_keyed given ≡ true
    → has a (ids ts) ≡ true → has b (ids ts) ≡ true → word_of given a ≡ word_of given b → a ≡ b
one_id given ts a b sorted all keyed there₁ there₂ same =
    let first = names given ts a sorted all there₁ in
    let second = names given ts b sorted all there₂ in
    let words : first.named.word ≡ second.named.word = sym (word_is given a first.named first.given_is) ∙ same ∙ word_is given b second.named second.given_is in
    let entries_are : first.named ≡ second.named =
    keyed_at given a first.named keyed first.given_is ∙ ap (term_of key_of) words ∙ sym (keyed_at given b second.named keyed second.given_is) in
    same_Some a b (sym first.id_is ∙ ap (λ (e : Entry). id_of e ts) entries_are ∙ second.id_is)
