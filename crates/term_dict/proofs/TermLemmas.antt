-- Terms with one more, and with one less: where they change, that they stay in order, and that their ids name them.
use Rattle.std.proofs.Common.{◌≡◌, Bool, true, false, ◌&&◌, ◌||◌, cond, not, nat_lt, ◌==◌, List, [], ◌∷◌, ◌++◌, length, refl, ap, sym, ◌∙◌, true≢false}
use Rattle.std.specs.Prelude.{insert, remove}
use Rattle.std.specs.List.{filter, list_all}
use Rattle.std.specs.declared.cmp.Ordering.TheVariants.{Less, Equal, Greater}
use Rattle.std.specs.Ordering.{is_lt, is_eq, is_gt}
use Rattle.std.proofs.lemmas.Bool.{and_parts, lt-ltb, ne_eqb}
use Rattle.std.proofs.lemmas.Cmp.{tied_itself}
use Rattle.index_meaning.specs.Entries.{Entry, entry_cmp, is_below, is_sorted, has_entry, by_order, with_entry, without_entry, stands_at}
use Rattle.index_meaning.specs.Dictionaries.{Term, term, entries, Dictionary, dictionary, are_apart, are_given, ids_below, with_term}
use Rattle.term_dict.specs.Places.{count_before}
use Rattle.term_dict.specs.declared.places.Place.TheVariants.{AtEntry}
use Rattle.term_dict.proofs.OrderLemmas.{entry_total, turned_less, below_less, below_equal, stands_there, one_stands, stands_still, stands_last}
use Rattle.term_dict.proofs.RankLemmas.{no_rank, one_rank, not_among}

-- the dictionary with an entry that isn't there
abbrev pub grown : Entry → Dictionary → Dictionary
grown e d = dictionary (with_term (term e (length d.given)) d.terms) (d.given ++ e ∷ [])

-- ---- where the terms change

pub put_at : (t : Term) (ts : List Term) → is_sorted (entries ts) ≡ true → has_entry t.entry (entries ts) ≡ false →
    with_term t ts ≡ insert ts (count_before AtEntry t.entry (entries ts)) t
put_at t [] h new = refl
put_at t (u ∷ ts) h new =
    let e = t.entry in
    let parts = and_parts (is_below u.entry (entries ts)) (is_sorted (entries ts)) h in
    elim (entry_cmp e u.entry) as (λ o. entry_cmp e u.entry ≡ o → (is_eq o || has_entry e (entries ts)) ≡ false →
    by_order o (t ∷ u ∷ ts) (u ∷ ts) (u ∷ with_term t ts) ≡ insert (u ∷ ts) (count_before AtEntry e (u.entry ∷ entries ts)) t) [
      | Less ↦ λ is none. sym (ap (λ n. insert (u ∷ ts) n t) (no_rank AtEntry e u.entry (entries ts) parts.0 (ap is_gt is)))
      | Equal ↦ λ is none. absurd (true≢false none)
      | Greater ↦ λ is none.
          ap (λ us. u ∷ us) (put_at t ts parts.1 none)
          ∙ sym (ap (λ n. insert (u ∷ ts) n t) (one_rank AtEntry e u.entry (entries ts) (ap is_gt is)))
    ] refl new

-- the terms whose entry is another
abbrev pub others : Entry → List Term → List Term
others e ts = filter (λ t. not (is_eq (entry_cmp e t.entry))) ts

pub none_taken : (e : Entry) (ts : List Term) → has_entry e (entries ts) ≡ false → others e ts ≡ ts
none_taken e [] none = refl
none_taken e (u ∷ ts) none =
    elim (is_eq (entry_cmp e u.entry)) as (λ b. (b || has_entry e (entries ts)) ≡ false → cond (not b) (u ∷ others e ts) (others e ts) ≡ u ∷ ts) [
      | true ↦ λ h. absurd (true≢false h)
      | false ↦ λ h. ap (λ us. u ∷ us) (none_taken e ts h)
    ] none

pub take_at : (e : Entry) (ts : List Term) → is_sorted (entries ts) ≡ true → has_entry e (entries ts) ≡ true →
    others e ts ≡ remove ts (count_before AtEntry e (entries ts))
take_at e [] h there = refl
take_at e (u ∷ ts) h there =
    let parts = and_parts (is_below u.entry (entries ts)) (is_sorted (entries ts)) h in
    elim (entry_cmp e u.entry) as (λ o. entry_cmp e u.entry ≡ o → (is_eq o || has_entry e (entries ts)) ≡ true →
    cond (not (is_eq o)) (u ∷ others e ts) (others e ts) ≡ remove (u ∷ ts) (count_before AtEntry e (u.entry ∷ entries ts))) [
      | Less ↦ λ is h₂. absurd (true≢false (sym h₂ ∙ not_among e (entries ts) (below_less e u.entry (entries ts) is parts.0)))
      | Equal ↦ λ is h₂.
          none_taken e ts (not_among e (entries ts) (below_equal e u.entry (entries ts) is parts.0))
          ∙ sym (ap (λ n. remove (u ∷ ts) n) (no_rank AtEntry e u.entry (entries ts) parts.0 (ap is_gt is)))
      | Greater ↦ λ is h₂.
          ap (λ us. u ∷ us) (take_at e ts parts.1 h₂)
          ∙ sym (ap (λ n. remove (u ∷ ts) n) (one_rank AtEntry e u.entry (entries ts) (ap is_gt is)))
    ] refl there

-- ---- the entries of the changed terms

pub entries_with : (t : Term) (ts : List Term) → entries (with_term t ts) ≡ with_entry t.entry (entries ts)
entries_with t [] = refl
entries_with t (u ∷ ts) =
    elim (entry_cmp t.entry u.entry) as (λ o. entries (by_order o (t ∷ u ∷ ts) (u ∷ ts) (u ∷ with_term t ts))
    ≡ by_order o (t.entry ∷ u.entry ∷ entries ts) (u.entry ∷ entries ts) (u.entry ∷ with_entry t.entry (entries ts))) [
      | Less ↦ refl
      | Equal ↦ refl
      | Greater ↦ ap (λ es. u.entry ∷ es) (entries_with t ts)
    ]

pub entries_without : (e : Entry) (ts : List Term) → entries (others e ts) ≡ without_entry e (entries ts)
entries_without e [] = refl
entries_without e (u ∷ ts) =
    elim (not (is_eq (entry_cmp e u.entry))) as (λ b. entries (cond b (u ∷ others e ts) (others e ts)) ≡ cond b (u.entry ∷ without_entry e (entries ts)) (without_entry e (entries ts))) [
      | true ↦ ap (λ es. u.entry ∷ es) (entries_without e ts)
      | false ↦ entries_without e ts
    ]

pub nothing_new : (e : Entry) (es : List Entry) → is_sorted es ≡ true → has_entry e es ≡ true → with_entry e es ≡ es
nothing_new e [] h there = absurd (true≢false (sym there))
nothing_new e (f ∷ es) h there =
    let parts = and_parts (is_below f es) (is_sorted es) h in
    elim (entry_cmp e f) as (λ o. entry_cmp e f ≡ o → (is_eq o || has_entry e es) ≡ true → by_order o (e ∷ f ∷ es) (f ∷ es) (f ∷ with_entry e es) ≡ f ∷ es) [
      | Less ↦ λ is h₂. absurd (true≢false (sym h₂ ∙ not_among e es (below_less e f es is parts.0)))
      | Equal ↦ λ is h₂. refl
      | Greater ↦ λ is h₂. ap (λ fs. f ∷ fs) (nothing_new e es parts.1 h₂)
    ] refl there

-- ---- they stay in order

below_with : (x e : Entry) (es : List Entry) → entry_cmp x e ≡ Less → is_below x es ≡ true → is_below x (with_entry e es) ≡ true
below_with x e [] less h = λ i. is_lt (less i) && true
below_with x e (f ∷ es) less h =
    let parts = and_parts (is_lt (entry_cmp x f)) (is_below x es) h in
    elim (entry_cmp e f) as (λ o. is_below x (by_order o (e ∷ f ∷ es) (f ∷ es) (f ∷ with_entry e es)) ≡ true) [
      | Less ↦ λ i. is_lt (less i) && h i
      | Equal ↦ h
      | Greater ↦ λ i. parts.0 i && below_with x e es less parts.1 i
    ]

pub sorted_with : (e : Entry) (es : List Entry) → is_sorted es ≡ true → is_sorted (with_entry e es) ≡ true
sorted_with e [] h = refl
sorted_with e (f ∷ es) h =
    let parts = and_parts (is_below f es) (is_sorted es) h in
    elim (entry_cmp e f) as (λ o. entry_cmp e f ≡ o → is_sorted (by_order o (e ∷ f ∷ es) (f ∷ es) (f ∷ with_entry e es)) ≡ true) [
      | Less ↦ λ is. (λ i. (is_lt (is i) && below_less e f es is parts.0 i) && h i)
      | Equal ↦ λ is. h
      | Greater ↦ λ is. (λ i. below_with f e es (turned_less e f is) parts.0 i && sorted_with e es parts.1 i)
    ] refl

all_filter : {T : Type 0} (p q : T → Bool) (xs : List T) → list_all p xs ≡ true → list_all p (filter q xs) ≡ true
all_filter p q [] h = refl
all_filter p q (x ∷ xs) h =
    let parts = and_parts (p x) (list_all p xs) h in
    elim (q x) as (λ b. list_all p (cond b (x ∷ filter q xs) (filter q xs)) ≡ true) [
      | true ↦ λ i. parts.0 i && all_filter p q xs parts.1 i
      | false ↦ all_filter p q xs parts.1
    ]

pub sorted_without : (e : Entry) (es : List Entry) → is_sorted es ≡ true → is_sorted (without_entry e es) ≡ true
sorted_without e [] h = refl
sorted_without e (f ∷ es) h =
    let parts = and_parts (is_below f es) (is_sorted es) h in
    let kept = all_filter (λ g. is_lt (entry_cmp f g)) (λ g. not (is_eq (entry_cmp e g))) es parts.0 in
    elim (not (is_eq (entry_cmp e f))) as (λ b. is_sorted (cond b (f ∷ without_entry e es) (without_entry e es)) ≡ true) [
      | true ↦ λ i. kept i && sorted_without e es parts.1 i
      | false ↦ sorted_without e es parts.1
    ]

-- ---- their ids name them

all_with : (p : Term → Bool) (t : Term) (ts : List Term) → p t ≡ true → list_all p ts ≡ true → list_all p (with_term t ts) ≡ true
all_with p t [] first h = λ i. first i && true
all_with p t (u ∷ ts) first h =
    let parts = and_parts (p u) (list_all p ts) h in
    elim (entry_cmp t.entry u.entry) as (λ o. list_all p (by_order o (t ∷ u ∷ ts) (u ∷ ts) (u ∷ with_term t ts)) ≡ true) [
      | Less ↦ λ i. first i && h i
      | Equal ↦ h
      | Greater ↦ λ i. parts.0 i && all_with p t ts first parts.1 i
    ]

-- an entry that is there stays there, and a new one stands after it
given_more : (e : Entry) (given : List Entry) (ts : List Term) → are_given given ts ≡ true → are_given (given ++ e ∷ []) ts ≡ true
given_more e given [] h = refl
given_more e given (u ∷ ts) h =
    let parts = and_parts (stands_at u.entry u.id given) (are_given given ts) h in
    λ i. stands_still u.entry e u.id given parts.0 i && given_more e given ts parts.1 i

pub given_with : (e : Entry) (given : List Entry) (ts : List Term) → are_given given ts ≡ true → are_given (given ++ e ∷ []) (with_term (term e (length given)) ts) ≡ true
given_with e given ts h = all_with (λ t. stands_at t.entry t.id (given ++ e ∷ [])) (term e (length given)) ts (stands_last e given) (given_more e given ts h)

pub given_without : (e : Entry) (given : List Entry) (ts : List Term) → are_given given ts ≡ true → are_given given (others e ts) ≡ true
given_without e given ts h = all_filter (λ (t : Term). stands_at t.entry t.id given) (λ (t : Term). not (is_eq (entry_cmp e t.entry))) ts h

-- what has an id is among those that were given
pub given_below : (given : List Entry) (ts : List Term) → are_given given ts ≡ true → ids_below (length given) ts ≡ true
given_below given [] h = refl
given_below given (u ∷ ts) h =
    let parts = and_parts (stands_at u.entry u.id given) (are_given given ts) h in
    let under : nat_lt u.id (length given) ≡ true = lt-ltb u.id (length given) (stands_there u.entry u.id given parts.0).0 in
    λ i. under i && given_below given ts parts.1 i

-- terms with one id would have one entry
other_ids : (given : List Entry) (t : Term) (ts : List Term) → is_below t.entry (entries ts) ≡ true → stands_at t.entry t.id given ≡ true → are_given given ts ≡ true →
    list_all (λ (u : Term). not (t.id == u.id)) ts ≡ true
other_ids given t [] below here h = refl
other_ids given t (u ∷ ts) below here h =
    let under = and_parts (is_lt (entry_cmp t.entry u.entry)) (is_below t.entry (entries ts)) below in
    let parts = and_parts (stands_at u.entry u.id given) (are_given given ts) h in
    let other : (t.id == u.id) ≡ false = ne_eqb t.id u.id (λ same.
    let one = one_stands t.entry u.entry t.id given here (ap (λ n. stands_at u.entry n given) same ∙ parts.0) in
    true≢false (sym under.0 ∙ ap (λ e. is_lt (entry_cmp t.entry e)) (sym one) ∙ ap is_lt (tied_itself entry_total t.entry))) in
    λ i. not (other i) && other_ids given t ts under.1 here parts.1 i

pub given_apart : (given : List Entry) (ts : List Term) → is_sorted (entries ts) ≡ true → are_given given ts ≡ true → are_apart ts ≡ true
given_apart given [] sorted h = refl
given_apart given (u ∷ ts) sorted h =
    let order = and_parts (is_below u.entry (entries ts)) (is_sorted (entries ts)) sorted in
    let parts = and_parts (stands_at u.entry u.id given) (are_given given ts) h in
    λ i. other_ids given u ts order.0 parts.0 parts.1 i && given_apart given ts order.1 parts.1 i
