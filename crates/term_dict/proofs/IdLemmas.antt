-- That an entry keeps its id where others come in and go out, and an id its entry.
use Rattle.std.proofs.Common.{◌≡◌, ℕ, ◌+◌, ◌<◌, ◌≤◌, zero, suc, true, false, ◌||◌, cond, not, List, [], ◌∷◌, ◌++◌, length, Some, None, refl, ap, sym, subst, ◌∙◌, arith, true≢false, inl, inr, length-append}
use Rattle.std.specs.Prelude.{slice_get}
use Rattle.std.specs.declared.cmp.Ordering.TheVariants.{Less, Equal, Greater}
use Rattle.std.specs.Option.{option_map}
use Rattle.std.specs.Ordering.{is_eq}
use Rattle.std.specs.Cmp.{Equal-is}
use Rattle.std.proofs.lemmas.Bool.{cases_Bool}
use Rattle.std.proofs.lemmas.Cmp.{eq_by_cmp_equiv}
use Rattle.std.proofs.lemmas.Option.{same_Some, none-some}
use Rattle.index_meaning.specs.Entries.{Entry, entry_cmp, by_order, has_entry, number_of}
use Rattle.index_meaning.specs.Dictionaries.{Term, term, entries, ids, Dictionary, id_of, with_term, with_new}
use Rattle.term_dict.proofs.OrderLemmas.{entry_total, same_entry}
use Rattle.term_dict.proofs.TermLemmas.{others, grown}

id_with : (f : Entry) (t : Term) (ts : List Term) → is_eq (entry_cmp f t.entry) ≡ false → id_of f (with_term t ts) ≡ id_of f ts
id_with f t [] other = ap (λ b. cond b (Some t.id) None) other
id_with f t (u ∷ ts) other =
    elim (entry_cmp t.entry u.entry) as (λ o. id_of f (by_order o (t ∷ u ∷ ts) (u ∷ ts) (u ∷ with_term t ts)) ≡ id_of f (u ∷ ts)) [
      | Less ↦ ap (λ b. cond b (Some t.id) (id_of f (u ∷ ts))) other
      | Equal ↦ refl
      | Greater ↦ ap (λ o. cond (is_eq (entry_cmp f u.entry)) (Some u.id) o) (id_with f t ts other)
    ]

-- an entry that is there keeps its id where another comes in
pub id_kept : (f e : Entry) (d : Dictionary) → has_entry f (entries d.terms) ≡ true → id_of f (with_new e d).terms ≡ id_of f d.terms
id_kept f e d there = elim (cases_Bool (has_entry e (entries d.terms))) [
  | inl old ↦ ap (λ b. id_of f (cond b d (grown e d)).terms) old
  | inr new ↦ ap (λ b. id_of f (cond b d (grown e d)).terms) new
      ∙ elim (cases_Bool (is_eq (entry_cmp f e))) [
        | inl same ↦ absurd (true≢false (sym there ∙ ap (λ g. has_entry g (entries d.terms)) (same_entry f e ((Equal-is (entry_cmp f e)).0 same)) ∙ new))
        | inr other ↦ id_with f (term e (length d.given)) d.terms other
      ]
]

-- an entry keeps its id where another goes out
pub id_left : (f e : Entry) (ts : List Term) → is_eq (entry_cmp e f) ≡ false → id_of f (others e ts) ≡ id_of f ts
id_left f e [] other = refl
id_left f e (u ∷ ts) other = elim (cases_Bool (is_eq (entry_cmp e u.entry))) [
  | inl same ↦
      let apart : is_eq (entry_cmp f u.entry) ≡ false =
      ap (λ g. is_eq (entry_cmp f g)) (sym (same_entry e u.entry ((Equal-is (entry_cmp e u.entry)).0 same))) ∙ (eq_by_cmp_equiv entry_total).symm f e ∙ other in
      ap (λ b. id_of f (cond (not b) (u ∷ others e ts) (others e ts))) same
      ∙ id_left f e ts other
      ∙ sym (ap (λ b. cond b (Some u.id) (id_of f ts)) apart)
  | inr kept ↦
      ap (λ b. id_of f (cond (not b) (u ∷ others e ts) (others e ts))) kept
      ∙ ap (λ o. cond (is_eq (entry_cmp f u.entry)) (Some u.id) o) (id_left f e ts other)
]

-- ---- the id of an entry that comes in, and of one that is there

id_with_own : (t : Term) (ts : List Term) → has_entry t.entry (entries ts) ≡ false → id_of t.entry (with_term t ts) ≡ Some t.id
id_with_own t [] none = ap (λ b. cond b (Some t.id) None) ((eq_by_cmp_equiv entry_total).refl t.entry)
id_with_own t (u ∷ ts) none =
    elim (entry_cmp t.entry u.entry) as (λ o. entry_cmp t.entry u.entry ≡ o → (is_eq o || has_entry t.entry (entries ts)) ≡ false →
    id_of t.entry (by_order o (t ∷ u ∷ ts) (u ∷ ts) (u ∷ with_term t ts)) ≡ Some t.id) [
      | Less ↦ λ is h. ap (λ b. cond b (Some t.id) (id_of t.entry (u ∷ ts))) ((eq_by_cmp_equiv entry_total).refl t.entry)
      | Equal ↦ λ is h. absurd (true≢false h)
      | Greater ↦ λ is h. ap (λ o. cond (is_eq o) (Some u.id) (id_of t.entry (with_term t ts))) is ∙ id_with_own t ts h
    ] refl none

pub new_id : (e : Entry) (d : Dictionary) → has_entry e (entries d.terms) ≡ false → id_of e (with_new e d).terms ≡ Some (length d.given)
new_id e d new = ap (λ b. id_of e (cond b d (grown e d)).terms) new ∙ id_with_own (term e (length d.given)) d.terms new

-- the only id that is given then is the entry's
pub last_id : (e : Entry) (d : Dictionary) (n id : ℕ) → id_of e (with_new e d).terms ≡ Some n → length d.given ≤ id → id < length (with_new e d).given → id ≡ n
last_id e d n id is from to = elim (cases_Bool (has_entry e (entries d.terms))) [
  | inl there ↦
      let size : length (with_new e d).given ≡ length d.given = ap (λ b. length (cond b d (grown e d)).given) there in
      absurd (omega (arith, size, from, to))
  | inr new ↦
      let size : length (with_new e d).given ≡ length (d.given ++ e ∷ []) = ap (λ b. length (cond b d (grown e d)).given) new in
      let number : length d.given ≡ n = same_Some (length d.given) n (sym (new_id e d new) ∙ is) in
      omega (arith, size, from, to, number, length-append d.given (e ∷ []))
]

pub numbered_id : (e : Entry) (ts : List Term) (n id : ℕ) → number_of e (entries ts) ≡ Some n → slice_get (ids ts) n ≡ Some id → id_of e ts ≡ Some id
numbered_id e [] n id h at = absurd (none-some n h)
numbered_id e (t ∷ ts) n id h at =
    elim (is_eq (entry_cmp e t.entry)) as (λ b. cond b (Some 0) (option_map (λ k. k + 1) (number_of e (entries ts))) ≡ Some n → cond b (Some t.id) (id_of e ts) ≡ Some id) [
      | true ↦ λ first. subst (λ k. slice_get (ids (t ∷ ts)) k ≡ Some id) (sym (same_Some 0 n first)) at
      | false ↦ λ later.
          elim (number_of e (entries ts)) as (λ o. number_of e (entries ts) ≡ o → option_map (λ k. k + 1) o ≡ Some n → id_of e ts ≡ Some id) [
            | None ↦ λ is found. absurd (none-some n found)
            | Some m ↦ λ is found.
                let next : n ≡ suc m = omega (arith, same_Some (m + 1) n found) in
                numbered_id e ts m id is (subst (λ k. slice_get (ids (t ∷ ts)) k ≡ Some id) next at)
          ] refl later
    ] h

-- ---- an id that was given names what it named

get_prefix : (es fs : List Entry) (n : ℕ) → n < length es → slice_get (es ++ fs) n ≡ slice_get es n
get_prefix [] fs n within = absurd (omega arith)
get_prefix (e ∷ es) fs zero within = refl
get_prefix (e ∷ es) fs (suc n) within = get_prefix es fs n (omega arith)

pub named_still : (e : Entry) (d : Dictionary) (id : ℕ) → id < length d.given → slice_get (with_new e d).given id ≡ slice_get d.given id
named_still e d id within = elim (has_entry e (entries d.terms)) as (λ b. slice_get (cond b d (grown e d)).given id ≡ slice_get d.given id) [
  | true ↦ refl
  | false ↦ get_prefix d.given (e ∷ []) id within
]
