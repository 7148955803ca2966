-- The keys of the terms of documents are the different keys of their words.
use Rattle.std.proofs.Common.{◌≡◌, ◌∙◌, subst, sym, ap, ap₂, refl, ℕ, ◌+◌, Bool, true, false, true≢false, cond, ◌||◌, ◌&&◌, List, [], ◌∷◌, ◌++◌, length, map, flat_map, arith, inl, inr}
use Rattle.std.specs.List.{AllByRecursion, IsDistinct, list_any}
use Rattle.std.specs.Ordering.{is_eq, is_gt, is_lt, ordering_reverse}
use Rattle.std.specs.FinMap.{slice_cmp-IsAntisymmetric, nat_cmp-IsAntisymmetric}
use Rattle.std.specs.Set.{distinct_count, is_member}
use Rattle.std.specs.Str.{bytes_eq}
use Rattle.std.specs.declared.cmp.Ordering.{Ordering}
use Rattle.std.specs.declared.cmp.Ordering.TheVariants.{Less, Equal, Greater}
use Rattle.std.proofs.lemmas.Bool.{and_parts, cases_Bool}
use Rattle.std.proofs.lemmas.Cmp.{nat_list_cmp_total, nat_list_eq_equiv}
use Rattle.std.proofs.lemmas.Map.Made.{length-from_keys}
use Rattle.std.proofs.lemmas.Slice.Eq.{bytes_eq-Decides}
use Rattle.index_meaning.specs.Documents.{Numbered, words_of}
use Rattle.index_meaning.specs.Entries.{Entry, by_order, entry_cmp, is_below, is_sorted, key_count, text_cmp, with_entries, with_entry}
use Rattle.index_meaning.specs.Index.{term_of, terms}
use Rattle.index_versions.proofs.TermsLemmas.{sorted_all}
use Rattle.term_dict.proofs.OrderLemmas.{keys_in_order, less_is, same_entry, squeezed}

abbrev ends : Bool → List ℕ → List (List ℕ) → List (List ℕ)
ends same key keys = cond same keys (key ∷ keys)

-- the keys of entries, each once where they are in order
abbrev keys_in : List Entry → List (List ℕ)
keys_in [] = []
keys_in (e ∷ []) = e.key ∷ []
keys_in (e ∷ f ∷ rest) = ends (is_eq (text_cmp e.key f.key)) e.key (keys_in (f ∷ rest))

length-keys_in : (es : List Entry) → length (keys_in es) ≡ key_count es
length-keys_in [] = refl
length-keys_in (e ∷ []) = refl
length-keys_in (e ∷ f ∷ rest) =
    elim (is_eq (text_cmp e.key f.key)) as (λ b. length (ends b e.key (keys_in (f ∷ rest))) ≡ cond b 0 1 + key_count (f ∷ rest))
    [ true ↦ (let later = length-keys_in (f ∷ rest) in omega (arith, later)) | false ↦ (let later = length-keys_in (f ∷ rest) in omega (arith, later)) ]

-- ---- one that has a key

abbrev has_key : List ℕ → List Entry → Bool
has_key key es = list_any (λ e. bytes_eq key e.key) es

has-with : (key : List ℕ) (e : Entry) (es : List Entry) → has_key key (with_entry e es) ≡ (bytes_eq key e.key || has_key key es)
has-with key e [] = refl
has-with key e (f ∷ es) =
    elim (entry_cmp e f) as (λ o. entry_cmp e f ≡ o → has_key key (by_order o (e ∷ f ∷ es) (f ∷ es) (f ∷ with_entry e es)) ≡ (bytes_eq key e.key || (bytes_eq key f.key || has_key key es))) [
      | Less ↦ λ is. refl
      | Equal ↦ λ is. sym (ap (λ (g : Entry). bytes_eq key g.key || (bytes_eq key f.key || has_key key es)) (same_entry e f is) ∙ twice (bytes_eq key f.key) (has_key key es))
      | Greater ↦ λ is. ap (λ b. bytes_eq key f.key || b) (has-with key e es) ∙ turned (bytes_eq key f.key) (bytes_eq key e.key) (has_key key es)
    ] refl
  where
    twice : (a b : Bool) → (a || (a || b)) ≡ (a || b)
    twice true b = refl
    twice false b = refl

    turned : (a b c : Bool) → (a || (b || c)) ≡ (b || (a || c))
    turned true true c = refl
    turned true false c = refl
    turned false b c = refl

has-all : (key : List ℕ) (new es : List Entry) → has_key key (with_entries new es) ≡ (has_key key new || has_key key es)
has-all key [] es = refl
has-all key (e ∷ new) es = has-all key new (with_entry e es) ∙ (ap (λ b. has_key key new || b) (has-with key e es) ∙ turned (has_key key new) (bytes_eq key e.key) (has_key key es))
  where
    turned : (a b c : Bool) → (a || (b || c)) ≡ ((b || a) || c)
    turned true true c = refl
    turned true false c = refl
    turned false true c = refl
    turned false false c = refl

-- ---- each key once

itself : (o : Ordering) → o ≡ ordering_reverse o → is_eq o ≡ true
itself Less is = absurd (true≢false (ap is_lt is))
itself Equal is = refl
itself Greater is = absurd (true≢false (ap is_gt is))

equal-is : (o : Ordering) → is_eq o ≡ true → o ≡ Equal
equal-is Less is = absurd (true≢false (sym is))
equal-is Equal is = refl
equal-is Greater is = absurd (true≢false (sym is))

same-key : (a b : List ℕ) → is_eq (text_cmp a b) ≡ true → a ≡ b
same-key a b is = slice_cmp-IsAntisymmetric nat_cmp-IsAntisymmetric a b (equal-is (text_cmp a b) is)

other-key : (a b : List ℕ) → is_eq (text_cmp a b) ≡ false → bytes_eq a b ≡ false
other-key a b differs = elim (cases_Bool (bytes_eq a b)) [
  | inl same ↦
      let is : a ≡ b = (bytes_eq-Decides a b).0 same in
      let equal : is_eq (text_cmp a b) ≡ true = subst (λ c. is_eq (text_cmp a c) ≡ true) is (itself (text_cmp a a) (nat_list_cmp_total.antisymm a a)) in
      absurd (true≢false (sym equal ∙ differs))
  | inr other ↦ other
]

apart-keys : (key : List ℕ) (es : List Entry) → AllByRecursion (λ g. is_eq (text_cmp key g.key) ≡ false) es → AllByRecursion (λ k. bytes_eq key k ≡ false) (keys_in es)
apart-keys key [] all = tt
apart-keys key (e ∷ []) all = (other-key key e.key all.0, tt)
apart-keys key (e ∷ f ∷ rest) all =
    elim (is_eq (text_cmp e.key f.key)) as (λ b. AllByRecursion (λ k. bytes_eq key k ≡ false) (ends b e.key (keys_in (f ∷ rest))))
    [ true ↦ apart-keys key (f ∷ rest) all.1 | false ↦ (other-key key e.key all.0, apart-keys key (f ∷ rest) all.1) ]

later-keys : (e f : Entry) (gs : List Entry) → is_gt (text_cmp e.key f.key) ≡ false → is_eq (text_cmp e.key f.key) ≡ false → is_below f gs ≡ true
    → AllByRecursion (λ g. is_eq (text_cmp e.key g.key) ≡ false) gs
later-keys e f [] order differs below = tt
later-keys e f (g ∷ gs) order differs below =
    let parts = and_parts (is_lt (entry_cmp f g)) (is_below f gs) below in (
      squeezed e.key f.key g.key order (keys_in_order f g (less_is (entry_cmp f g) parts.0)) ∙ ap (λ b. b && is_eq (text_cmp f.key g.key)) differs,
      later-keys e f gs order differs parts.1,
    )

distinct-keys : (es : List Entry) → is_sorted es ≡ true → IsDistinct bytes_eq (keys_in es)
unfolding IsDistinct
distinct-keys [] sorted = tt
distinct-keys (e ∷ []) sorted = (tt, tt)
distinct-keys (e ∷ f ∷ rest) sorted =
    let first = and_parts (is_below e (f ∷ rest)) (is_sorted (f ∷ rest)) sorted in
    let second = and_parts (is_below f rest) (is_sorted rest) first.1 in
    let less = less_is (entry_cmp e f) (and_parts (is_lt (entry_cmp e f)) (is_below e rest) first.0).0 in
    let later = distinct-keys (f ∷ rest) first.1 in
    elim (is_eq (text_cmp e.key f.key)) as (λ b. is_eq (text_cmp e.key f.key) ≡ b → IsDistinct bytes_eq (ends b e.key (keys_in (f ∷ rest)))) [
      | true ↦ λ is. later
      | false ↦ λ is. (apart-keys e.key (f ∷ rest) (is, later-keys e f rest (keys_in_order e f less) is second.0), later)
    ] refl

keys-there : (key : List ℕ) (es : List Entry) → is_member bytes_eq (keys_in es) key ≡ has_key key es
keys-there key [] = refl
keys-there key (e ∷ []) = refl
keys-there key (e ∷ f ∷ rest) =
    elim (is_eq (text_cmp e.key f.key)) as (λ b. is_eq (text_cmp e.key f.key) ≡ b → is_member bytes_eq (ends b e.key (keys_in (f ∷ rest))) key ≡ (bytes_eq key e.key || has_key key (f ∷ rest))) [
      | true ↦ λ is. keys-there key (f ∷ rest)
          ∙ sym (ap (λ k. bytes_eq key k || (bytes_eq key f.key || has_key key rest)) (same-key e.key f.key is) ∙ twice (bytes_eq key f.key) (has_key key rest))
      | false ↦ λ is. ap (λ b. bytes_eq key e.key || b) (keys-there key (f ∷ rest))
    ] refl
  where
    twice : (a b : Bool) → (a || (a || b)) ≡ (a || b)
    twice true b = refl
    twice false b = refl

module _ (key_by : List ℕ → List ℕ) where
  words-there : (key : List ℕ) (words : List (List ℕ)) → (has_key key (map (term_of key_by) words) || false) ≡ is_member bytes_eq (map key_by words) key
  words-there key [] = refl
  words-there key (word ∷ words) = assoc (bytes_eq key (key_by word)) (has_key key (map (term_of key_by) words)) ∙ ap (λ b. bytes_eq key (key_by word) || b) (words-there key words)
    where
      assoc : (a b : Bool) → ((a || b) || false) ≡ (a || (b || false))
      assoc true b = refl
      assoc false b = refl

  pub keys-counted : (documents : List Numbered)
      → key_count (terms key_by documents) ≡ distinct_count bytes_eq (map key_by (flat_map (λ d. words_of d.document) documents))
  keys-counted documents =
      let words = flat_map (λ (d : Numbered). words_of d.document) documents in
      let all = with_entries (map (term_of key_by) words) [] in
      sym (length-keys_in all)
      ∙ length-from_keys nat_list_eq_equiv (keys_in all) (map key_by words) (distinct-keys all (sorted_all (map (term_of key_by) words) [] refl))
      (λ key. keys-there key all ∙ (has-all key (map (term_of key_by) words) [] ∙ words-there key words))
