-- One document is exchanged for another: how often an id is counted then, and which ids stay in the dictionary.
use Rattle.std.proofs.Common.{◌≡◌, ℕ, ◌<◌, ◌+◌, ◌-◌, Bool, true, false, ◌&&◌, ◌||◌, ◌==◌, cond, not, List, [], ◌∷◌, Option, Some, None, refl, ap, sym, ◌∙◌, arith, true≢false, inl, inr, subst}
use Rattle.std.specs.Prelude.{nat_lt, filter}
use Rattle.std.specs.List.{All}
use Rattle.std.proofs.lemmas.Bool.{and_parts, and_from, or_cases, or_left, or_right, false_from_ne_true, not_from_false, lt-ltb, eqb-true}
use Rattle.std.proofs.lemmas.List.Sums.{sum_by-cons}
use Rattle.std.proofs.lemmas.List.Elements.{All-weaker}
use Rattle.ft_base.specs.Places.{is_ascending}
use Rattle.index_document.specs.Terms.{are_distinct, has, terms_of}
use Rattle.ft_base.proofs.PlacesLemmas.{rest-ascending}
use Rattle.index_document.proofs.TermLemmas.{first-below, terms_of-ascending}
use Rattle.index_meaning.specs.Dictionaries.{ids}
use Rattle.index_counts.specs.Counts.{count_of, fallen}
use Rattle.index_versions.specs.declared.parts.Parts.{Parts}
use Rattle.index_versions.specs.steps.Held.{Held, held_ids, documents_with, numbers, listed, listed_ids}
use Rattle.index_versions.specs.steps.Exchange.{held_before, of_number, in_back, exchanged}
use Rattle.index_versions.specs.steps.Naming.{are_keyed}
use Rattle.index_versions.specs.steps.Sound.{IsGrouped, IsSound, IsSoundFor}
use Rattle.index_versions.proofs.ExchangeLemmas.{whole, counts_exchanged, ascending_exchanged, HasNumber}
use Rattle.index_versions.proofs.GroupLemmas.{exchanged_grouped}

-- ---- the ids that no document has any more are all different

filter_has : (p : ℕ → Bool) (n : ℕ) (xs : List ℕ) → has n (filter p xs) ≡ true → has n xs ≡ true
filter_has p n [] there = there
filter_has p n (x ∷ xs) there =
    elim (p x) as (λ b. has n (cond b (x ∷ filter p xs) (filter p xs)) ≡ true → has n (x ∷ xs) ≡ true) [
      | true ↦ λ t. elim (or_cases (x == n) (has n (filter p xs)) t) [
        | inl here ↦ or_left (x == n) (has n xs) here
        | inr further ↦ or_right (x == n) (has n xs) (filter_has p n xs further)
      ]
      | false ↦ λ t. or_right (x == n) (has n xs) (filter_has p n xs t)
    ] there

distinct_filter : (p : ℕ → Bool) (xs : List ℕ) → is_ascending xs ≡ true → are_distinct (filter p xs) ≡ true
distinct_filter p [] up = refl
distinct_filter p (x ∷ xs) up =
    let rest = distinct_filter p xs (rest-ascending x xs up) in
    elim (p x) as (λ b. are_distinct (cond b (x ∷ filter p xs) (filter p xs)) ≡ true) [
      | true ↦
          let new = false_from_ne_true (has x (filter p xs)) (λ there. omega (arith, first-below x xs up x (filter_has p x xs there))) in
          and_from (not (has x (filter p xs))) (are_distinct (filter p xs)) (not_from_false (has x (filter p xs)) new) rest
      | false ↦ rest
    ]

pub fallen_distinct : (counts words : List ℕ) → are_distinct (fallen counts words) ≡ true
fallen_distinct counts words = distinct_filter (λ term. count_of counts term == 0) (terms_of words) (terms_of-ascending words)

-- ---- how many documents have an id

plus_nothing : (n : ℕ) → n + 0 ≡ n
plus_nothing n = omega arith

pub once : (id : ℕ) (o : Option Held) → documents_with id (listed o) ≡ cond (has id (listed_ids o)) 1 0
once id None = refl
once id (Some h) = sum_by-cons (λ (g : Held). cond (has id (held_ids g)) 1 0) h [] ∙ plus_nothing (cond (has id (held_ids h)) 1 0)

once_there : (id : ℕ) (o : Option Held) → has id (listed_ids o) ≡ true → documents_with id (listed o) ≡ 1
once_there id o there = once id o ∙ ap (λ b. cond b 1 0) there

pub parts_of : (id doc : ℕ) (hs : List Held) (old : Option Held) → is_ascending (numbers hs) ≡ true → listed old ≡ of_number doc hs
    → documents_with id hs ≡ documents_with id (held_before doc hs) + (documents_with id (listed old) + documents_with id (in_back doc hs))
parts_of id doc hs old up is =
    ap (documents_with id) (whole doc hs up ∙ ap (λ xs. exchanged doc xs hs) (sym is)) ∙ counts_exchanged id doc (listed old) hs

pub old_counted : (id doc : ℕ) (hs : List Held) (old : Option Held) → is_ascending (numbers hs) ≡ true → listed old ≡ of_number doc hs
    → has id (listed_ids old) ≡ true → 0 < documents_with id hs
old_counted id doc hs old up is there = omega (arith, parts_of id doc hs old up is, once_there id old there)

pub counted_then : (id doc : ℕ) (hs : List Held) (old new : Option Held) (before shifted after : ℕ) → is_ascending (numbers hs) ≡ true → listed old ≡ of_number doc hs
    → before ≡ documents_with id hs → shifted ≡ before + documents_with id (listed new) → after ≡ shifted - documents_with id (listed old)
    → after ≡ documents_with id (exchanged doc (listed new) hs)
counted_then id doc hs old new before shifted after up is first second third =
    omega (arith, parts_of id doc hs old up is, counts_exchanged id doc (listed new) hs, first, second, third)

-- ---- which ids stay

stays : (n o : Bool) (A N O B : ℕ) → N ≡ cond n 1 0 → O ≡ cond o 1 0
    → (not (o && not (nat_lt 0 (A + (N + B)))) && (n || nat_lt 0 (A + (O + B)))) ≡ nat_lt 0 (A + (N + B))
stays true o A N O B one two =
    let some : nat_lt 0 (A + (N + B)) ≡ true = lt-ltb 0 (A + (N + B)) (omega (arith, one)) in
    (λ i. not (o && not (some i)) && true) ∙ none o ∙ sym some
  where
    none : (b : Bool) → (not (b && false) && true) ≡ true
    none true = refl
    none false = refl
stays false true A N O B one two =
    let some : nat_lt 0 (A + (O + B)) ≡ true = lt-ltb 0 (A + (O + B)) (omega (arith, two)) in
    (λ i. not (not (nat_lt 0 (A + (N + B)))) && some i) ∙ twice (nat_lt 0 (A + (N + B)))
  where
    twice : (b : Bool) → (not (not b) && true) ≡ b
    twice true = refl
    twice false = refl
stays false false A N O B one two = ap (λ k. nat_lt 0 (A + (k + B))) (two ∙ sym one)

pub used_then : (id doc : ℕ) (hs : List Held) (old new : Option Held) (before after gone : Bool) (count : ℕ) → is_ascending (numbers hs) ≡ true → listed old ≡ of_number doc hs
    → before ≡ (has id (listed_ids new) || nat_lt 0 (documents_with id hs)) → gone ≡ (has id (listed_ids old) && not (nat_lt 0 count))
    → count ≡ documents_with id (exchanged doc (listed new) hs) → after ≡ (not gone && before) → after ≡ nat_lt 0 (documents_with id (exchanged doc (listed new) hs))
used_then id doc hs old new before after gone count up is first second third fourth =
    let now = third ∙ counts_exchanged id doc (listed new) hs in
    let then_ = parts_of id doc hs old up is in
    fourth
    ∙ (λ i. not ((second ∙ ap (λ k. has id (listed_ids old) && not (nat_lt 0 k)) now) i) && (first ∙ ap (λ k. has id (listed_ids new) || nat_lt 0 k) then_) i)
    ∙ stays (has id (listed_ids new)) (has id (listed_ids old)) (documents_with id (held_before doc hs)) (documents_with id (listed new)) (documents_with id (listed old))
    (documents_with id (in_back doc hs)) (once id new) (once id old)
    ∙ ap (nat_lt 0) (sym (counts_exchanged id doc (listed new) hs))

-- ---- ids that leave one after the other

-- the first of the ids leaves, and the others are still there
pub record Leaves (x : ℕ) (rest : List ℕ) (before after : List ℕ) : Type 0 where
  pub distinct : are_distinct rest ≡ true
  pub there : (id : ℕ) → has id rest ≡ true → has id after ≡ true
  pub left : (id : ℕ) → (not (has id rest) && has id after) ≡ (not (has id (x ∷ rest)) && has id before)

not-both : (a b c : Bool) → (not a && (not b && c)) ≡ (not (b || a) && c)
not-both true true c = refl
not-both true false c = refl
not-both false true c = refl
not-both false false c = refl

pub leaves : (x : ℕ) (rest before after : List ℕ) → are_distinct (x ∷ rest) ≡ true → ((id : ℕ) → has id (x ∷ rest) ≡ true → has id before ≡ true)
    → ((id : ℕ) → has id after ≡ (not (x == id) && has id before)) → Leaves x rest before after
leaves x rest before after distinct there step =
    let parts = and_parts (not (has x rest)) (are_distinct rest) distinct in
    record {
      distinct = parts.1;
      there = λ id member.
          let other : (x == id) ≡ false = false_from_ne_true (x == id) (λ same.
          let here : has x rest ≡ true = ap (λ n. has n rest) (eqb-true x id same) ∙ member in
          true≢false (sym parts.0 ∙ ap not here)) in
          step id ∙ and_from (not (x == id)) (has id before) (not_from_false (x == id) other) (there id (or_right (x == id) (has id rest) member));
      left = λ id. ap (λ b. not (has id rest) && b) (step id) ∙ not-both (has id rest) (x == id) (has id before);
    }

-- ---- all of it

pub sound_then : (doc : ℕ) (old new : Option Held) (before after : Parts) (shifted : ℕ → ℕ) (gone : List ℕ) → HasNumber doc new → IsSoundFor (listed_ids new) before
    → listed old ≡ of_number doc before.documents → after.documents ≡ exchanged doc (listed new) before.documents
    → ((id : ℕ) → shifted id ≡ count_of before.counts id + documents_with id (listed new)) → ((id : ℕ) → count_of after.counts id ≡ shifted id - documents_with id (listed old))
    → ((id : ℕ) → has id gone ≡ (has id (listed_ids old) && not (nat_lt 0 (count_of after.counts id))))
    → ((id : ℕ) → has id (ids after.dictionary.terms) ≡ (not (has id gone) && has id (ids before.dictionary.terms)))
    → ((held : Held) → IsGrouped before.groups held → IsGrouped after.groups held) → All (IsGrouped after.groups) (listed new)
    → after.dictionary.given ≡ before.dictionary.given → IsSound after
sound_then doc old new before after shifted gone number sound is becomes first second fallen_are left others next given =
    let hs = before.documents in
    let counted : (id : ℕ) → count_of after.counts id ≡ documents_with id (exchanged doc (listed new) hs) =
    λ id. counted_then id doc hs old new (count_of before.counts id) (shifted id) (count_of after.counts id) sound.ascending is (sound.counted id) (first id) (second id) in
    record {
      ascending = ap (λ xs. is_ascending (numbers xs)) becomes ∙ ascending_exchanged doc new hs number sound.ascending;
      used = λ id.
          used_then id doc hs old new (has id (ids before.dictionary.terms)) (has id (ids after.dictionary.terms)) (has id gone) (count_of after.counts id) sound.ascending is
          (sound.used id) (fallen_are id) (counted id) (left id)
          ∙ ap (λ xs. nat_lt 0 (documents_with id xs)) (sym becomes);
      counted = λ id. counted id ∙ ap (documents_with id) (sym becomes);
      grouped = subst (All (IsGrouped after.groups)) (sym becomes)
          (exchanged_grouped after.groups doc (listed new) hs (All-weaker (IsGrouped before.groups) (IsGrouped after.groups) others hs sound.grouped) next);
      keyed = ap are_keyed given ∙ sound.keyed;
    }
