-- Entries that come into a dictionary, and one that leaves it: which ids are there then, and what they name.
use Rattle.std.proofs.Common.{◌≡◌, ℕ, ◌<◌, Bool, true, false, ◌&&◌, ◌||◌, ◌==◌, cond, not, List, [], ◌∷◌, length, map, Some, None, refl, ap, sym, ◌∙◌, true≢false, inl, inr}
use Rattle.std.specs.Prelude.{slice_get}
use Rattle.std.specs.Option.{option_map_or}
use Rattle.std.specs.declared.cmp.Ordering.TheVariants.{Less, Equal, Greater}
use Rattle.std.specs.Ordering.{is_eq}
use Rattle.std.specs.Cmp.{both_ways}
use Rattle.std.proofs.lemmas.Bool.{and_parts, and_from, or_cases, or_left, or_right, or_from, cases_Bool, false_from_ne_true, not_from_false, eqb-true, ne_eqb, eq-eqb}
use Rattle.std.proofs.lemmas.List.Folds.{list_all-append}
use Rattle.std.proofs.lemmas.Option.{same_Some}
use Rattle.text_forms.specs.Forms.{key_of}
use Rattle.ft_base.proofs.Truth.{or_swap, or_again, or_turned}
use Rattle.index_document.specs.Terms.{has}
use Rattle.index_meaning.specs.Entries.{Entry, entry_cmp, text_cmp, by_order, has_entry, is_sorted, with_entry, with_entries, without_entry}
use Rattle.index_meaning.specs.Dictionaries.{Dictionary, entries, ids, id_of, are_given, with_new, with_all_new, without_term}
use Rattle.term_dict.proofs.TermLemmas.{entries_without, sorted_without, grown}
use Rattle.term_dict.proofs.IdLemmas.{id_left}
use Rattle.index_versions.specs.steps.Held.{word_of}
use Rattle.index_versions.specs.steps.Naming.{are_keyed, IsNamed}
use Rattle.index_versions.proofs.EntryLemmas.{equal_is, equal_same, id_there, id_live, live_id, id_names, word_is, names, live_below}

-- ---- which entries are there

has_with_entry : (f e : Entry) (es : List Entry) → has_entry f (with_entry e es) ≡ (is_eq (entry_cmp f e) || has_entry f es)
has_with_entry f e [] = refl
has_with_entry f e (g ∷ es) =
    elim (entry_cmp e g) as (λ o. entry_cmp e g ≡ o → has_entry f (by_order o (e ∷ g ∷ es) (g ∷ es) (g ∷ with_entry e es)) ≡ (is_eq (entry_cmp f e) || has_entry f (g ∷ es))) [
      | Less ↦ λ is. refl
      | Equal ↦ λ is.
          or_again (is_eq (entry_cmp f g)) (has_entry f es)
          ∙ ap (λ (h : Entry). is_eq (entry_cmp f h) || has_entry f (g ∷ es)) (sym (equal_is e g (ap is_eq is)))
      | Greater ↦ λ is.
          ap (λ b. is_eq (entry_cmp f g) || b) (has_with_entry f e es) ∙ or_swap (is_eq (entry_cmp f g)) (is_eq (entry_cmp f e)) (has_entry f es)
    ] refl

pub has_with_entries : (f : Entry) (new es : List Entry) → has_entry f (with_entries new es) ≡ (has_entry f new || has_entry f es)
has_with_entries f [] es = refl
has_with_entries f (e ∷ new) es =
    has_with_entries f new (with_entry e es)
    ∙ ap (λ b. has_entry f new || b) (has_with_entry f e es)
    ∙ or_turned (has_entry f new) (is_eq (entry_cmp f e)) (has_entry f es)

gone : (e : Entry) (es : List Entry) → has_entry e (without_entry e es) ≡ false
gone e [] = refl
gone e (f ∷ es) = elim (cases_Bool (is_eq (entry_cmp e f))) [
  | inl same ↦ ap (λ b. has_entry e (cond (not b) (f ∷ without_entry e es) (without_entry e es))) same ∙ gone e es
  | inr other ↦
      ap (λ b. has_entry e (cond (not b) (f ∷ without_entry e es) (without_entry e es))) other
      ∙ or_from (is_eq (entry_cmp e f)) (has_entry e (without_entry e es)) other (gone e es)
]

-- ---- entries that come

-- the keys of those that were given stay those of their words
keyed_new : (e : Entry) (d : Dictionary) → are_keyed d.given ≡ true → is_eq (text_cmp e.key (key_of e.word)) ≡ true → are_keyed (with_new e d).given ≡ true
keyed_new e d all key = elim (has_entry e (entries d.terms)) as (λ b. are_keyed (cond b d (grown e d)).given ≡ true) [
  | true ↦ all
  | false ↦
      list_all-append (λ (f : Entry). is_eq (text_cmp f.key (key_of f.word))) d.given (e ∷ [])
      ∙ and_from (are_keyed d.given) (are_keyed (e ∷ [])) all (and_from (is_eq (text_cmp e.key (key_of e.word))) true key refl)
]

keyed_all : (es : List Entry) (d : Dictionary) → are_keyed d.given ≡ true → are_keyed es ≡ true → are_keyed (with_all_new es d).given ≡ true
keyed_all [] d all keys = all
keyed_all (e ∷ es) d all keys =
    let parts = and_parts (is_eq (text_cmp e.key (key_of e.word))) (are_keyed es) keys in
    keyed_all es (with_new e d) (keyed_new e d all parts.0) parts.1

-- what the clauses of a dictionary say where all of these come
pub record Comes (old : Dictionary) (es : List Entry) (new : Dictionary) : Type 0 where
  pub sorted : is_sorted (entries old.terms) ≡ true
  pub sorted_new : is_sorted (entries new.terms) ≡ true
  pub given : are_given old.given old.terms ≡ true
  pub given_new : are_given new.given new.terms ≡ true
  pub becomes : new ≡ with_all_new es old
  pub listed : entries new.terms ≡ with_entries es (entries old.terms)
  pub kept : (e : Entry) → has_entry e (entries old.terms) ≡ true → id_of e new.terms ≡ id_of e old.terms
  pub named : (id : ℕ) → id < length old.given → slice_get new.given id ≡ slice_get old.given id

abbrev IdsOf : Dictionary → List Entry → List ℕ → Type 0
IdsOf d es named = map (λ (id : ℕ). Some id) named ≡ map (λ (e : Entry). id_of e d.terms) es

cons-parts : {T : Type 0} (d x y : T) (xs ys : List T) → x ∷ xs ≡ y ∷ ys → (x ≡ y) × (xs ≡ ys)
cons-parts d x y xs ys h = (ap (head_or d) h, ap tail h)
  where
    head_or : {T : Type 0} → T → List T → T
    head_or d [] = d
    head_or d (x ∷ xs) = x

    tail : {T : Type 0} → List T → List T
    tail [] = []
    tail (x ∷ xs) = xs

no-cons : {T : Type 0} (x : T) (xs : List T) → [] ≡ x ∷ xs → ⊥
no-cons x xs h = true≢false (ap is_empty h)
  where
    is_empty : {T : Type 0} → List T → Bool
    is_empty [] = true
    is_empty (x ∷ xs) = false

words_named : (d : Dictionary) (es : List Entry) (named : List ℕ) → are_given d.given d.terms ≡ true → IdsOf d es named → map (word_of d.given) named ≡ map (λ (e : Entry). e.word) es
words_named d [] [] all h = refl
words_named d [] (n ∷ named) all h = absurd (no-cons (Some n) (map (λ (id : ℕ). Some id) named) (sym h))
words_named d (e ∷ es) [] all h = absurd (no-cons (id_of e d.terms) (map (λ (f : Entry). id_of f d.terms) es) h)
words_named d (e ∷ es) (n ∷ named) all h =
    let parts = cons-parts None (Some n) (id_of e d.terms) (map (λ (id : ℕ). Some id) named) (map (λ (f : Entry). id_of f d.terms) es) h in
    let first = word_is d.given n e (id_names d.given e d.terms n all (sym parts.0)) in
    λ i. first i ∷ words_named d es named all parts.1 i

-- an id is one of those exactly where it is that of one of the entries
named_there : (d : Dictionary) (es : List Entry) (named : List ℕ) (e : Entry) (id : ℕ) → IdsOf d es named → has_entry e es ≡ true → id_of e d.terms ≡ Some id → has id named ≡ true
named_there d [] named e id h there is = absurd (true≢false (sym there))
named_there d (f ∷ es) [] e id h there is = absurd (no-cons (id_of f d.terms) (map (λ (g : Entry). id_of g d.terms) es) h)
named_there d (f ∷ es) (n ∷ named) e id h there is =
    let parts = cons-parts None (Some n) (id_of f d.terms) (map (λ (id : ℕ). Some id) named) (map (λ (g : Entry). id_of g d.terms) es) h in
    elim (or_cases (is_eq (entry_cmp e f)) (has_entry e es) there) [
      | inl here ↦
          or_left (n == id) (has id named) (eq-eqb n id (same_Some n id (parts.0 ∙ ap (λ (g : Entry). id_of g d.terms) (sym (equal_is e f here)) ∙ is)))
      | inr further ↦ or_right (n == id) (has id named) (named_there d es named e id parts.1 further is)
    ]

named_live : (d : Dictionary) (es : List Entry) (named : List ℕ) (id : ℕ) → IdsOf d es named → has id named ≡ true → has id (ids d.terms) ≡ true
named_live d es [] id h there = absurd (true≢false (sym there))
named_live d [] (n ∷ named) id h there = absurd (no-cons (Some n) (map (λ (id : ℕ). Some id) named) (sym h))
named_live d (e ∷ es) (n ∷ named) id h there =
    let parts = cons-parts None (Some n) (id_of e d.terms) (map (λ (id : ℕ). Some id) named) (map (λ (f : Entry). id_of f d.terms) es) h in
    elim (or_cases (n == id) (has id named) there) [
      | inl here ↦ id_live e d.terms id (sym parts.0 ∙ ap Some (eqb-true n id here))
      | inr further ↦ named_live d es named id parts.1 further
    ]

members_named : (old new : Dictionary) (es : List Entry) (named : List ℕ) (id : ℕ) → Comes old es new → IdsOf new es named → has id (ids new.terms) ≡ (has id named || has id (ids old.terms))
members_named old new es named id c h = both_ways (has id (ids new.terms)) (has id named || has id (ids old.terms)) from to
  where
    from : has id (ids new.terms) ≡ true → (has id named || has id (ids old.terms)) ≡ true
    from there =
        let found = live_id id new.terms c.sorted_new there in
        let member : (has_entry found.0 es || has_entry found.0 (entries old.terms)) ≡ true =
        sym (has_with_entries found.0 es (entries old.terms)) ∙ ap (has_entry found.0) (sym c.listed) ∙ id_there found.0 new.terms id found.1 in
        elim (cases_Bool (has_entry found.0 (entries old.terms))) [
          | inl before ↦ or_right (has id named) (has id (ids old.terms)) (id_live found.0 old.terms id (sym (c.kept found.0 before) ∙ found.1))
          | inr not_before ↦ elim (or_cases (has_entry found.0 es) (has_entry found.0 (entries old.terms)) member) [
            | inl among ↦ or_left (has id named) (has id (ids old.terms)) (named_there new es named found.0 id h among found.1)
            | inr before ↦ absurd (true≢false (sym before ∙ not_before))
          ]
        ]

    to : (has id named || has id (ids old.terms)) ≡ true → has id (ids new.terms) ≡ true
    to there = elim (or_cases (has id named) (has id (ids old.terms)) there) [
      | inl among ↦ named_live new es named id h among
      | inr before ↦
          let found = live_id id old.terms c.sorted before in
          id_live found.0 new.terms id (c.kept found.0 (id_there found.0 old.terms id found.1) ∙ found.1)
    ]

pub named_is : (old new : Dictionary) (es : List Entry) (named : List ℕ) → Comes old es new → IdsOf new es named → IsNamed old es new named
named_is old new es named c h = record {
  kept = λ id there. ap (λ o. option_map_or (λ (e : Entry). e.word) o []) (c.named id (live_below old.given old.terms id c.sorted c.given there));
  words = words_named new es named c.given_new h;
  members = λ id. members_named old new es named id c h;
  keyed = λ all keys. ap (λ (d : Dictionary). are_keyed d.given) c.becomes ∙ keyed_all es old all keys;
}

-- ---- an entry that leaves

pub left_is : (d new : Dictionary) (e : Entry) (id other : ℕ) → is_sorted (entries d.terms) ≡ true → are_given d.given d.terms ≡ true → has id (ids d.terms) ≡ true
    → slice_get d.given id ≡ Some e → new ≡ without_term e d → has other (ids new.terms) ≡ (not (id == other) && has other (ids d.terms))
left_is d new e id other sorted all there is becomes =
    both_ways (has other (ids new.terms)) (not (id == other) && has other (ids d.terms)) from to
  where
    listed : entries new.terms ≡ without_entry e (entries d.terms)
    listed = ap (λ (n : Dictionary). entries n.terms) becomes ∙ entries_without e d.terms

    sorted_new : is_sorted (entries new.terms) ≡ true
    sorted_new = ap is_sorted listed ∙ sorted_without e (entries d.terms) sorted

    kept : (f : Entry) → is_eq (entry_cmp e f) ≡ false → id_of f new.terms ≡ id_of f d.terms
    kept f apart = ap (λ (n : Dictionary). id_of f n.terms) becomes ∙ id_left f e d.terms apart

    own : id_of e d.terms ≡ Some id
    own =
        let n = names d.given d.terms id sorted all there in
        ap (λ (f : Entry). id_of f d.terms) (same_Some e n.named (sym is ∙ n.given_is)) ∙ n.id_is

    from : has other (ids new.terms) ≡ true → (not (id == other) && has other (ids d.terms)) ≡ true
    from live =
        let found = live_id other new.terms sorted_new live in
        let apart : is_eq (entry_cmp e found.0) ≡ false = false_from_ne_true (is_eq (entry_cmp e found.0)) (λ same.
        true≢false (sym (id_there found.0 new.terms other found.1) ∙ ap (has_entry found.0) listed
        ∙ ap (λ (f : Entry). has_entry f (without_entry e (entries d.terms))) (sym (equal_is e found.0 same)) ∙ gone e (entries d.terms))) in
        let before : id_of found.0 d.terms ≡ Some other = sym (kept found.0 apart) ∙ found.1 in
        let differ : (id ≡ other → ⊥) = λ same.
        true≢false (sym (equal_same e) ∙ ap (λ (f : Entry). is_eq (entry_cmp e f)) (same_Some e found.0 (sym is ∙ ap (slice_get d.given) same ∙ id_names d.given found.0 d.terms other all before)) ∙ apart) in
        and_from (not (id == other)) (has other (ids d.terms)) (not_from_false (id == other) (ne_eqb id other differ)) (id_live found.0 d.terms other before)

    to : (not (id == other) && has other (ids d.terms)) ≡ true → has other (ids new.terms) ≡ true
    to both =
        let parts = and_parts (not (id == other)) (has other (ids d.terms)) both in
        let found = live_id other d.terms sorted parts.1 in
        let apart : is_eq (entry_cmp e found.0) ≡ false = false_from_ne_true (is_eq (entry_cmp e found.0)) (λ same.
        let number : id ≡ other = same_Some id other (sym own ∙ ap (λ (f : Entry). id_of f d.terms) (equal_is e found.0 same) ∙ found.1) in
        true≢false (sym parts.0 ∙ ap not (eq-eqb id other number))) in
        id_live found.0 new.terms other (kept found.0 apart ∙ found.1)
