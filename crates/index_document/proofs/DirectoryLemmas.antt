-- Where leaves are found by their numbers, when a leaf comes or goes.
use Rattle.std.proofs.Common.{◌≡◌, ℕ, ◌+◌, ◌-◌, ◌<◌, ◌≤◌, suc, zero, Bool, true, false, not, cond, nat_lt, ◌==◌, List, [], ◌∷◌, length, get_or, take, map, refl, ap, sym, ◌∙◌, arith, length-append, inl, inr, true≢false}
use Rattle.std.specs.Prelude.{insert, remove}
use Rattle.std.proofs.lemmas.Bool.{and_parts, and_from, or_cases, or_right, or_left, or_parts, eq-eqb, ne_eqb, eqb-false, cases_eq, cases_lt, cond-true, cond-false, not-true, lt-ltb, le-ltb, not_from_false, false_from_ne_true, true_from_ne_false}
use Rattle.std.proofs.lemmas.List.{length-map, get_or_past}
use Rattle.std.proofs.lemmas.Bool.Decides.{nat_tests}
use Rattle.index_document.specs.Terms.{Leaf, leaf_ids, words_of, has, are_distinct}
use Rattle.index_document.specs.steps.Directory.{slot_of, next_slot, words_before, IsDirectory, IsOpened, IsClosed, IsChanged}
use Rattle.index_document.proofs.TermLemmas.{has-at, has-head, has-other}

-- a number as an opened or a closed gap moves it
abbrev pub shifted : ℕ → ℕ → ℕ
shifted at slot = cond (nat_lt at slot) (slot + 1) slot

abbrev pub lowered : ℕ → ℕ → ℕ
lowered at slot = cond (nat_lt (at + 1) slot) (slot - 1) slot

pub slot-head : (x id : ℕ) (ids : List ℕ) → x ≡ id → slot_of (x ∷ ids) id ≡ 1
slot-head x id ids same = cond-true (x == id) 1 (next_slot (slot_of ids id)) (eq-eqb x id same)

pub slot-other : (x id : ℕ) (ids : List ℕ) → (x ≡ id → ⊥) → slot_of (x ∷ ids) id ≡ next_slot (slot_of ids id)
slot-other x id ids other = cond-false (x == id) 1 (next_slot (slot_of ids id)) (ne_eqb x id other)

pub next-some : (slot : ℕ) → 0 < slot → next_slot slot ≡ slot + 1
next-some zero some = absurd (omega arith)
next-some (suc slot) some = omega arith

next-shifted : (slot : ℕ) → next_slot slot ≡ shifted 0 slot
next-shifted zero = refl
next-shifted (suc slot) = grind (arith, nat_tests)

next-raise : (at slot : ℕ) → next_slot (shifted at slot) ≡ shifted (suc at) (next_slot slot)
next-raise at zero =
    ap next_slot (cond-false (nat_lt at 0) (0 + 1) 0 (le-ltb at 0 (omega arith))) ∙ sym (cond-false (nat_lt (suc at) 0) (0 + 1) 0 (le-ltb (suc at) 0 (omega arith)))
next-raise at (suc slot) = elim (cases_lt at (suc slot)) [
  | inl below ↦ ap next_slot (cond-true (nat_lt at (suc slot)) (suc slot + 1) (suc slot) (lt-ltb at (suc slot) below)) ∙ next-some (suc slot + 1) (omega arith)
      ∙ sym (cond-true (nat_lt (suc at) (suc (suc slot))) (suc (suc slot) + 1) (suc (suc slot)) (lt-ltb (suc at) (suc (suc slot)) (omega arith)) ∙ omega arith)
  | inr above ↦ ap next_slot (cond-false (nat_lt at (suc slot)) (suc slot + 1) (suc slot) (le-ltb at (suc slot) above))
      ∙ sym (cond-false (nat_lt (suc at) (suc (suc slot))) (suc (suc slot) + 1) (suc (suc slot)) (le-ltb (suc at) (suc (suc slot)) (omega arith)))
]

next-lowered : (slot : ℕ) → lowered 0 (next_slot slot) ≡ slot
next-lowered zero = refl
next-lowered (suc slot) = cond-true (nat_lt (0 + 1) (suc (suc slot))) (suc (suc slot) - 1) (suc (suc slot)) (lt-ltb (0 + 1) (suc (suc slot)) (omega arith)) ∙ omega arith

next-lower : (at slot : ℕ) → next_slot (lowered at slot) ≡ lowered (suc at) (next_slot slot)
next-lower at zero =
    ap next_slot (cond-false (nat_lt (at + 1) 0) (0 - 1) 0 (le-ltb (at + 1) 0 (omega arith))) ∙ sym (cond-false (nat_lt (suc at + 1) 0) (0 - 1) 0 (le-ltb (suc at + 1) 0 (omega arith)))
next-lower at (suc slot) = elim (cases_lt (at + 1) (suc slot)) [
  | inl below ↦ ap next_slot (cond-true (nat_lt (at + 1) (suc slot)) (suc slot - 1) (suc slot) (lt-ltb (at + 1) (suc slot) below)) ∙ next-some (suc slot - 1) (omega arith)
      ∙ sym (cond-true (nat_lt (suc at + 1) (suc (suc slot))) (suc (suc slot) - 1) (suc (suc slot)) (lt-ltb (suc at + 1) (suc (suc slot)) (omega arith)) ∙ omega arith)
  | inr above ↦ ap next_slot (cond-false (nat_lt (at + 1) (suc slot)) (suc slot - 1) (suc slot) (le-ltb (at + 1) (suc slot) above))
      ∙ sym (cond-false (nat_lt (suc at + 1) (suc (suc slot))) (suc (suc slot) - 1) (suc (suc slot)) (le-ltb (suc at + 1) (suc (suc slot)) (omega arith)))
]

pub slot-none : (ids : List ℕ) (id : ℕ) → has id ids ≡ false → slot_of ids id ≡ 0
slot-none [] id none = refl
slot-none (x ∷ ids) id none = elim (cases_eq x id) [
  | inl same ↦ absurd (true≢false (sym (has-head x id ids same) ∙ none))
  | inr other ↦ slot-other x id ids other ∙ ap next_slot (slot-none ids id (sym (has-other x id ids other) ∙ none))
]

pub slot-some : (ids : List ℕ) (id : ℕ) → has id ids ≡ true → 0 < slot_of ids id
slot-some [] id there = absurd (true≢false (sym there))
slot-some (x ∷ ids) id there = elim (cases_eq x id) [
  | inl same ↦ omega (arith, slot-head x id ids same)
  | inr other ↦ let more = slot-some ids id (sym (has-other x id ids other) ∙ there) in omega (arith, slot-other x id ids other, next-some (slot_of ids id) more)
]

pub slot-found : (ids : List ℕ) (id : ℕ) → has id ids ≡ true → (slot_of ids id ≤ length ids) × (get_or ids (slot_of ids id - 1) 0 ≡ id)
slot-found [] id there = absurd (true≢false (sym there))
slot-found (x ∷ ids) id there = elim (cases_eq x id) [
  | inl same ↦ let is = slot-head x id ids same in (omega (arith, is), ap (λ s. get_or (x ∷ ids) (s - 1) 0) is ∙ same)
  | inr other ↦
      let inside = sym (has-other x id ids other) ∙ there in
      let some = slot-some ids id inside in
      let found = slot-found ids id inside in
      let is : slot_of (x ∷ ids) id ≡ slot_of ids id + 1 = slot-other x id ids other ∙ next-some (slot_of ids id) some in
      let n : slot_of (x ∷ ids) id - 1 ≡ suc (slot_of ids id - 1) = omega (arith, is, some) in
      (omega (arith, is, found.0), ap (λ k. get_or (x ∷ ids) k 0) n ∙ found.1)
]

-- a number that comes to a place
pub slot-insert : (ids : List ℕ) (at new id : ℕ) → at ≤ length ids → has new ids ≡ false → slot_of (insert ids at new) id ≡ cond (new == id) (at + 1) (shifted at (slot_of ids id))
slot-insert ids zero new id within none = ap (cond (new == id) 1) (next-shifted (slot_of ids id))
slot-insert [] (suc at) new id within none = absurd (omega arith)
slot-insert (x ∷ ids) (suc at) new id within none =
    let parts = or_parts (x == new) (has new ids) none in
    let apart : (x ≡ new) → ⊥ = eqb-false x new parts.0 in
    elim (cases_eq x id) [
      | inl same ↦ slot-head x id (insert ids at new) same
          ∙ sym (cond-false (new == id) (suc at + 1) (shifted (suc at) (slot_of (x ∷ ids) id)) (ne_eqb new id (λ is. apart (omega (arith, same, is))))
          ∙ ap (shifted (suc at)) (slot-head x id ids same) ∙ cond-false (nat_lt (suc at) 1) (1 + 1) 1 (le-ltb (suc at) 1 (omega arith)))
      | inr other ↦ slot-other x id (insert ids at new) other ∙ ap next_slot (slot-insert ids at new id (omega (arith, within)) parts.1)
          ∙ elim (cases_eq new id) [
            | inl same ↦ ap next_slot (cond-true (new == id) (at + 1) (shifted at (slot_of ids id)) (eq-eqb new id same)) ∙ next-some (at + 1) (omega arith)
                ∙ sym (cond-true (new == id) (suc at + 1) (shifted (suc at) (slot_of (x ∷ ids) id)) (eq-eqb new id same) ∙ omega arith)
            | inr not_new ↦ ap next_slot (cond-false (new == id) (at + 1) (shifted at (slot_of ids id)) (ne_eqb new id not_new)) ∙ next-raise at (slot_of ids id)
                ∙ sym (cond-false (new == id) (suc at + 1) (shifted (suc at) (slot_of (x ∷ ids) id)) (ne_eqb new id not_new) ∙ ap (shifted (suc at)) (slot-other x id ids other))
          ]
    ]

-- a number that goes
pub slot-remove : (ids : List ℕ) (at id : ℕ) → at < length ids → are_distinct ids ≡ true → slot_of (remove ids at) id ≡ cond (id == get_or ids at 0) 0 (lowered at (slot_of ids id))
slot-remove [] at id there apart = absurd (omega arith)
slot-remove (x ∷ ids) zero id there apart =
    let parts = and_parts (not (has x ids)) (are_distinct ids) apart in
    elim (cases_eq id x) [
      | inl same ↦ slot-none ids id (ap (λ z. has z ids) same ∙ not-true (has x ids) parts.0) ∙ sym (cond-true (id == x) 0 (lowered 0 (slot_of (x ∷ ids) id)) (eq-eqb id x same))
      | inr other ↦ sym (cond-false (id == x) 0 (lowered 0 (slot_of (x ∷ ids) id)) (ne_eqb id x other)
          ∙ ap (lowered 0) (slot-other x id ids (λ is. other (sym is))) ∙ next-lowered (slot_of ids id))
    ]
slot-remove (x ∷ ids) (suc at) id there apart =
    let parts = and_parts (not (has x ids)) (are_distinct ids) apart in
    let gone = get_or ids at 0 in
    elim (cases_eq x id) [
      | inl same ↦
          let not_gone : (id ≡ get_or ids at 0) → ⊥ = λ is. true≢false (sym (has-at ids at (omega (arith, there))) ∙ ap (λ z. has z ids) (sym (same ∙ is)) ∙ not-true (has x ids) parts.0) in
          slot-head x id (remove ids at) same
          ∙ sym (cond-false (id == gone) 0 (lowered (suc at) (slot_of (x ∷ ids) id)) (ne_eqb id gone not_gone)
          ∙ ap (lowered (suc at)) (slot-head x id ids same) ∙ cond-false (nat_lt (suc at + 1) 1) (1 - 1) 1 (le-ltb (suc at + 1) 1 (omega arith)))
      | inr other ↦ slot-other x id (remove ids at) other ∙ ap next_slot (slot-remove ids at id (omega (arith, there)) parts.1)
          ∙ elim (cases_eq id gone) [
            | inl same ↦ ap next_slot (cond-true (id == gone) 0 (lowered at (slot_of ids id)) (eq-eqb id gone same))
                ∙ sym (cond-true (id == gone) 0 (lowered (suc at) (slot_of (x ∷ ids) id)) (eq-eqb id gone same))
            | inr not_gone ↦ ap next_slot (cond-false (id == gone) 0 (lowered at (slot_of ids id)) (ne_eqb id gone not_gone)) ∙ next-lower at (slot_of ids id)
                ∙ sym (cond-false (id == gone) 0 (lowered (suc at) (slot_of (x ∷ ids) id)) (ne_eqb id gone not_gone) ∙ ap (lowered (suc at)) (slot-other x id ids other))
          ]
    ]

pub slot-zero : (ids : List ℕ) (id : ℕ) → slot_of ids id ≡ 0 → has id ids ≡ false
slot-zero ids id is = false_from_ne_true (has id ids) (λ there. omega (arith, slot-some ids id there))

pub slot-there : (ids : List ℕ) (id : ℕ) → 0 < slot_of ids id → has id ids ≡ true
slot-there ids id some = true_from_ne_false (has id ids) (λ none. omega (arith, slot-none ids id none))

-- how many words stand before a leaf
before-head : (l : Leaf) (id : ℕ) (leaves : List Leaf) → l.id ≡ id → words_before (l ∷ leaves) id ≡ 0
before-head l id leaves same = cond-true (l.id == id) 0 (length l.words + words_before leaves id) (eq-eqb l.id id same)

before-other : (l : Leaf) (id : ℕ) (leaves : List Leaf) → (l.id ≡ id → ⊥) → words_before (l ∷ leaves) id ≡ length l.words + words_before leaves id
before-other l id leaves other = cond-false (l.id == id) 0 (length l.words + words_before leaves id) (ne_eqb l.id id other)

abbrev pub moves : ℕ → ℕ → ℕ → ℕ
moves at slot by = cond (nat_lt at slot) by 0

moves-first : (at by : ℕ) → moves (suc at) 1 by ≡ 0
moves-first at by = cond-false (nat_lt (suc at) 1) by 0 (le-ltb (suc at) 1 (omega arith))

moves-next : (at slot by : ℕ) → moves (suc at) (slot + 1) by ≡ moves at slot by
moves-next at slot by = elim (cases_lt at slot) [
  | inl below ↦ cond-true (nat_lt (suc at) (slot + 1)) by 0 (lt-ltb (suc at) (slot + 1) (omega (arith, below))) ∙ sym (cond-true (nat_lt at slot) by 0 (lt-ltb at slot below))
  | inr above ↦ cond-false (nat_lt (suc at) (slot + 1)) by 0 (le-ltb (suc at) (slot + 1) (omega (arith, above))) ∙ sym (cond-false (nat_lt at slot) by 0 (le-ltb at slot above))
]

before-insert : (leaves : List Leaf) (at : ℕ) (l : Leaf) (id : ℕ) → at ≤ length leaves → has id (leaf_ids leaves) ≡ true → has l.id (leaf_ids leaves) ≡ false →
    words_before (insert leaves at l) id ≡ words_before leaves id + moves at (slot_of (leaf_ids leaves) id) (length l.words)
before-insert leaves zero l id within there none =
    let other : (l.id ≡ id) → ⊥ = λ same. true≢false (sym there ∙ ap (λ z. has z (leaf_ids leaves)) (sym same) ∙ none) in
    omega (arith, before-other l id leaves other, cond-true (nat_lt 0 (slot_of (leaf_ids leaves) id)) (length l.words) 0 (lt-ltb 0 (slot_of (leaf_ids leaves) id) (slot-some (leaf_ids leaves) id there)))
before-insert [] (suc at) l id within there none = absurd (omega arith)
before-insert (x ∷ leaves) (suc at) l id within there none =
    let parts = or_parts (x.id == l.id) (has l.id (leaf_ids leaves)) none in
    elim (cases_eq x.id id) [
      | inl same ↦ omega (arith, before-head x id (insert leaves at l) same, before-head x id leaves same, ap (λ s. moves (suc at) s (length l.words)) (slot-head x.id id (leaf_ids leaves) same), moves-first at (length l.words))
      | inr other ↦
          let inside = sym (has-other x.id id (leaf_ids leaves) other) ∙ there in
          let slot : slot_of (x.id ∷ leaf_ids leaves) id ≡ slot_of (leaf_ids leaves) id + 1 = slot-other x.id id (leaf_ids leaves) other ∙ next-some (slot_of (leaf_ids leaves) id) (slot-some (leaf_ids leaves) id inside) in
          omega (
            arith,
            before-other x id (insert leaves at l) other,
            before-other x id leaves other,
            before-insert leaves at l id (omega (arith, within)) inside parts.1,
            ap (λ s. moves (suc at) s (length l.words)) slot,
            moves-next at (slot_of (leaf_ids leaves) id) (length l.words),
          )
    ]

-- the leaf that comes has before it the words of the leaves before the place
before-new : (leaves : List Leaf) (at : ℕ) (l : Leaf) → at ≤ length leaves → has l.id (leaf_ids leaves) ≡ false → words_before (insert leaves at l) l.id ≡ length (words_of (take at leaves))
before-new leaves zero l within none = before-head l l.id leaves refl
before-new [] (suc at) l within none = absurd (omega arith)
before-new (x ∷ leaves) (suc at) l within none =
    let parts = or_parts (x.id == l.id) (has l.id (leaf_ids leaves)) none in
    before-other x l.id (insert leaves at l) (eqb-false x.id l.id parts.0) ∙ ap (λ n. length x.words + n) (before-new leaves at l (omega (arith, within)) parts.1)
    ∙ sym (length-append x.words (words_of (take at leaves)))

-- the same of a leaf that is there
pub before-there : (leaves : List Leaf) (at : ℕ) → at < length leaves → are_distinct (leaf_ids leaves) ≡ true → words_before leaves (get_or (leaf_ids leaves) at 0) ≡ length (words_of (take at leaves))
before-there [] at there apart = absurd (omega arith)
before-there (x ∷ leaves) zero there apart = before-head x x.id leaves refl
before-there (x ∷ leaves) (suc at) there apart =
    let parts = and_parts (not (has x.id (leaf_ids leaves))) (are_distinct (leaf_ids leaves)) apart in
    let id = get_or (leaf_ids leaves) at 0 in
    let there' : at < length (leaf_ids leaves) = omega (arith, there, length-map leaves (λ (l : Leaf). l.id)) in
    let other : (x.id ≡ id) → ⊥ = λ same. true≢false (sym (has-at (leaf_ids leaves) at there') ∙ ap (λ z. has z (leaf_ids leaves)) (sym same) ∙ not-true (has x.id (leaf_ids leaves)) parts.0) in
    before-other x id leaves other ∙ ap (λ n. length x.words + n) (before-there leaves at (omega (arith, there)) parts.1) ∙ sym (length-append x.words (words_of (take at leaves)))

abbrev pub words_at : List Leaf → ℕ → List ℕ
words_at leaves at = get_or (map (λ (l : Leaf). l.words) leaves) at []

-- what is there without a leaf was there with it
has-removed : (leaves : List Leaf) (at id : ℕ) → has id (leaf_ids (remove leaves at)) ≡ true → has id (leaf_ids leaves) ≡ true
has-removed [] zero id there = absurd (true≢false (sym there))
has-removed [] (suc at) id there = absurd (true≢false (sym there))
has-removed (x ∷ leaves) zero id there = or_right (x.id == id) (has id (leaf_ids leaves)) there
has-removed (x ∷ leaves) (suc at) id there = elim (or_cases (x.id == id) (has id (leaf_ids (remove leaves at))) there) [
  | inl here ↦ or_left (x.id == id) (has id (leaf_ids leaves)) here
  | inr further ↦ or_right (x.id == id) (has id (leaf_ids leaves)) (has-removed leaves at id further)
]

before-remove : (leaves : List Leaf) (at id : ℕ) → at < length leaves → are_distinct (leaf_ids leaves) ≡ true → has id (leaf_ids (remove leaves at)) ≡ true →
    words_before leaves id ≡ words_before (remove leaves at) id + moves (at + 1) (slot_of (leaf_ids leaves) id) (length (words_at leaves at))
before-remove [] at id within apart there = absurd (omega arith)
before-remove (x ∷ leaves) zero id within apart there =
    let parts = and_parts (not (has x.id (leaf_ids leaves))) (are_distinct (leaf_ids leaves)) apart in
    let other : (x.id ≡ id) → ⊥ = λ same. true≢false (sym there ∙ ap (λ z. has z (leaf_ids leaves)) (sym same) ∙ not-true (has x.id (leaf_ids leaves)) parts.0) in
    let some = slot-some (leaf_ids leaves) id there in
    let slot : slot_of (x.id ∷ leaf_ids leaves) id ≡ slot_of (leaf_ids leaves) id + 1 = slot-other x.id id (leaf_ids leaves) other ∙ next-some (slot_of (leaf_ids leaves) id) some in
    omega (arith, before-other x id leaves other, ap (λ s. moves (0 + 1) s (length x.words)) slot, cond-true (nat_lt (0 + 1) (slot_of (leaf_ids leaves) id + 1)) (length x.words) 0 (lt-ltb (0 + 1) (slot_of (leaf_ids leaves) id + 1) (omega (arith, some))))
before-remove (x ∷ leaves) (suc at) id within apart there =
    let parts = and_parts (not (has x.id (leaf_ids leaves))) (are_distinct (leaf_ids leaves)) apart in
    let by = length (words_at leaves at) in
    elim (cases_eq x.id id) [
      | inl same ↦ omega (
        arith,
        before-head x id leaves same,
        before-head x id (remove leaves at) same,
        ap (λ s. moves (suc at + 1) s by) (slot-head x.id id (leaf_ids leaves) same),
        cond-false (nat_lt (suc at + 1) 1) by 0 (le-ltb (suc at + 1) 1 (omega arith)),
      )
      | inr other ↦
          let inside = sym (has-other x.id id (leaf_ids (remove leaves at)) other) ∙ there in
          let some = slot-some (leaf_ids leaves) id (has-removed leaves at id inside) in
          let slot : slot_of (x.id ∷ leaf_ids leaves) id ≡ slot_of (leaf_ids leaves) id + 1 = slot-other x.id id (leaf_ids leaves) other ∙ next-some (slot_of (leaf_ids leaves) id) some in
          let n : suc at + 1 ≡ suc (at + 1) = omega arith in
          omega (
            arith,
            before-other x id leaves other,
            before-other x id (remove leaves at) other,
            before-remove leaves at id (omega (arith, within)) parts.1 inside,
            ap (λ s. moves (suc at + 1) s by) slot,
            ap (λ i. moves i (slot_of (leaf_ids leaves) id + 1) by) n,
            moves-next (at + 1) (slot_of (leaf_ids leaves) id) by,
          )
    ]

-- numbers that differ still differ when another one comes and when one goes
pub ids-insert : (leaves : List Leaf) (at : ℕ) (l : Leaf) → leaf_ids (insert leaves at l) ≡ insert (leaf_ids leaves) at l.id
ids-insert leaves zero l = refl
ids-insert [] (suc at) l = refl
ids-insert (x ∷ leaves) (suc at) l = ap (λ ids. x.id ∷ ids) (ids-insert leaves at l)

pub ids-remove : (leaves : List Leaf) (at : ℕ) → leaf_ids (remove leaves at) ≡ remove (leaf_ids leaves) at
ids-remove [] zero = refl
ids-remove [] (suc at) = refl
ids-remove (x ∷ leaves) zero = refl
ids-remove (x ∷ leaves) (suc at) = ap (λ ids. x.id ∷ ids) (ids-remove leaves at)

has-inserted : (ids : List ℕ) (at new id : ℕ) → has id (insert ids at new) ≡ true → (new ≡ id → ⊥) → has id ids ≡ true
has-inserted ids zero new id there other = sym (has-other new id ids other) ∙ there
has-inserted [] (suc at) new id there other = absurd (true≢false (sym there ∙ has-other new id [] other))
has-inserted (x ∷ ids) (suc at) new id there other = elim (or_cases (x == id) (has id (insert ids at new)) there) [
  | inl here ↦ or_left (x == id) (has id ids) here
  | inr further ↦ or_right (x == id) (has id ids) (has-inserted ids at new id further other)
]

distinct-insert : (ids : List ℕ) (at new : ℕ) → are_distinct ids ≡ true → has new ids ≡ false → are_distinct (insert ids at new) ≡ true
distinct-insert ids zero new apart none = and_from (not (has new ids)) (are_distinct ids) (not_from_false (has new ids) none) apart
distinct-insert [] (suc at) new apart none = refl
distinct-insert (x ∷ ids) (suc at) new apart none =
    let parts = and_parts (not (has x ids)) (are_distinct ids) apart in
    let other = or_parts (x == new) (has new ids) none in
    let still : has x (insert ids at new) ≡ false = false_from_ne_true (has x (insert ids at new)) (λ there.
    true≢false (sym (has-inserted ids at new x there (λ same. eqb-false x new other.0 (sym same))) ∙ not-true (has x ids) parts.0)) in
    and_from (not (has x (insert ids at new))) (are_distinct (insert ids at new)) (not_from_false (has x (insert ids at new)) still) (distinct-insert ids at new parts.1 other.1)

has-left : (ids : List ℕ) (at id : ℕ) → has id (remove ids at) ≡ true → has id ids ≡ true
has-left [] zero id there = absurd (true≢false (sym there))
has-left [] (suc at) id there = absurd (true≢false (sym there))
has-left (x ∷ ids) zero id there = or_right (x == id) (has id ids) there
has-left (x ∷ ids) (suc at) id there = elim (or_cases (x == id) (has id (remove ids at)) there) [
  | inl here ↦ or_left (x == id) (has id ids) here
  | inr further ↦ or_right (x == id) (has id ids) (has-left ids at id further)
]

distinct-remove : (ids : List ℕ) (at : ℕ) → are_distinct ids ≡ true → are_distinct (remove ids at) ≡ true
distinct-remove [] zero apart = refl
distinct-remove [] (suc at) apart = refl
distinct-remove (x ∷ ids) zero apart = (and_parts (not (has x ids)) (are_distinct ids) apart).1
distinct-remove (x ∷ ids) (suc at) apart =
    let parts = and_parts (not (has x ids)) (are_distinct ids) apart in
    let still : has x (remove ids at) ≡ false = false_from_ne_true (has x (remove ids at)) (λ there. true≢false (sym (has-left ids at x there) ∙ not-true (has x ids) parts.0)) in
    and_from (not (has x (remove ids at))) (are_distinct (remove ids at)) (not_from_false (has x (remove ids at)) still) (distinct-remove ids at parts.1)

words-insert : (leaves : List Leaf) (at : ℕ) (l : Leaf) → at ≤ length leaves → length (words_of (insert leaves at l)) ≡ length (words_of leaves) + length l.words
words-insert leaves zero l within = omega (arith, length-append l.words (words_of leaves))
words-insert [] (suc at) l within = absurd (omega arith)
words-insert (x ∷ leaves) (suc at) l within = omega (arith, length-append x.words (words_of leaves), length-append x.words (words_of (insert leaves at l)), words-insert leaves at l (omega (arith, within)))

words-remove : (leaves : List Leaf) (at : ℕ) → at < length leaves → length (words_of leaves) ≡ length (words_of (remove leaves at)) + length (words_at leaves at)
words-remove [] at there = absurd (omega arith)
words-remove (x ∷ leaves) zero there = omega (arith, length-append x.words (words_of leaves))
words-remove (x ∷ leaves) (suc at) there = omega (arith, length-append x.words (words_of leaves), length-append x.words (words_of (remove leaves at)), words-remove leaves at (omega (arith, there)))

-- a number that is past the end is 0, and so is what it becomes
past-opened : (at by : ℕ) (slots befores new_slots new_befores : List ℕ) → IsOpened at by slots befores new_slots new_befores → (k : ℕ) → get_or new_slots k 0 ≡ shifted at (get_or slots k 0)
past-opened at by slots befores new_slots new_befores opened k = elim (cases_lt k (length slots)) [
  | inl there ↦ opened.slots_are k there
  | inr past ↦ get_or_past new_slots k 0 (omega (arith, past, opened.slots_length)) ∙ sym (ap (shifted at) (get_or_past slots k 0 past) ∙ cond-false (nat_lt at 0) (0 + 1) 0 (le-ltb at 0 (omega arith)))
]

-- the directory with a leaf that came
pub directory-with : (leaves : List Leaf) (slots befores : List ℕ) (words at : ℕ) (l : Leaf) (s₁ b₁ s₂ b₂ : List ℕ) (before sum : ℕ) → IsDirectory leaves slots befores words →
    at ≤ length leaves → has l.id (leaf_ids leaves) ≡ false → IsOpened at (length l.words) slots befores s₁ b₁ → IsChanged l.id (at + 1) s₁ s₂ → IsChanged l.id before b₁ b₂ →
    before ≡ length (words_of (take at leaves)) → length b₂ ≡ length s₂ → sum ≡ words + length l.words → sum < 4294967296 → IsDirectory (insert leaves at l) s₂ b₂ sum
directory-with leaves slots befores words at l s₁ b₁ s₂ b₂ before sum old within none opened slot_set before_set before_is same sum_is few =
    let ids = leaf_ids leaves in
    let within' : at ≤ length ids = omega (arith, within, length-map leaves (λ (x : Leaf). x.id)) in
    record {
      slots_are = λ id. slot_set id ∙ elim (cases_eq id l.id) [
        | inl is ↦ cond-true (id == l.id) (at + 1) (get_or s₁ id 0) (eq-eqb id l.id is)
            ∙ sym (ap (λ xs. slot_of xs id) (ids-insert leaves at l) ∙ slot-insert ids at l.id id within' none ∙ cond-true (l.id == id) (at + 1) (shifted at (slot_of ids id)) (eq-eqb l.id id (sym is)))
        | inr other ↦ cond-false (id == l.id) (at + 1) (get_or s₁ id 0) (ne_eqb id l.id other)
            ∙ past-opened at (length l.words) slots befores s₁ b₁ opened id ∙ ap (shifted at) (old.slots_are id)
            ∙ sym (ap (λ xs. slot_of xs id) (ids-insert leaves at l) ∙ slot-insert ids at l.id id within' none ∙ cond-false (l.id == id) (at + 1) (shifted at (slot_of ids id)) (ne_eqb l.id id (λ is. other (sym is))))
      ];
      befores_are = λ id there. before_set id ∙ elim (cases_eq id l.id) [
        | inl is ↦ cond-true (id == l.id) before (get_or b₁ id 0) (eq-eqb id l.id is) ∙ before_is ∙ sym (ap (λ z. words_before (insert leaves at l) z) is ∙ before-new leaves at l within none)
        | inr other ↦
            let inside : has id ids ≡ true = has-inserted ids at l.id id (ap (λ xs. has id xs) (sym (ids-insert leaves at l)) ∙ there) (λ is. other (sym is)) in
            let some : 0 < get_or slots id 0 = omega (arith, old.slots_are id, slot-some ids id inside) in
            let known : id < length slots = elim (cases_lt id (length slots)) [ inl is ↦ is | inr past ↦ absurd (omega (arith, some, get_or_past slots id 0 past)) ] in
            cond-false (id == l.id) before (get_or b₁ id 0) (ne_eqb id l.id other) ∙ opened.befores_are id known
            ∙ cond-sum (nat_lt at (get_or slots id 0)) (get_or befores id 0) (length l.words)
            ∙ ap (λ n. n + moves at (get_or slots id 0) (length l.words)) (old.befores_are id inside)
            ∙ ap (λ s. words_before leaves id + moves at s (length l.words)) (old.slots_are id)
            ∙ sym (before-insert leaves at l id within inside none)
      ];
      same_length = same;
      words_are = omega (arith, sum_is, old.words_are, words-insert leaves at l within);
      few = few;
      distinct = ap are_distinct (ids-insert leaves at l) ∙ distinct-insert ids at l.id old.distinct none;
    }
  where
    cond-sum : (b : Bool) (n m : ℕ) → cond b (n + m) n ≡ n + cond b m 0
    cond-sum true n m = refl
    cond-sum false n m = omega arith

-- the directory without the leaf that went
pub directory-without : (leaves : List Leaf) (slots befores : List ℕ) (words at : ℕ) (s₁ b₁ : List ℕ) (rest : ℕ) → IsDirectory leaves slots befores words →
    at < length leaves → IsClosed at (length (words_at leaves at)) (get_or (leaf_ids leaves) at 0) slots befores s₁ b₁ → rest ≡ words - length (words_at leaves at) →
    IsDirectory (remove leaves at) s₁ b₁ rest
directory-without leaves slots befores words at s₁ b₁ rest old there closed rest_is =
    let ids = leaf_ids leaves in
    let gone = get_or ids at 0 in
    let by = length (words_at leaves at) in
    let there' : at < length ids = omega (arith, there, length-map leaves (λ (x : Leaf). x.id)) in
    let changed : (k : ℕ) → get_or s₁ k 0 ≡ cond (k == gone) 0 (lowered at (get_or slots k 0)) = λ k. elim (cases_lt k (length slots)) [
      | inl known ↦ closed.slots_are k known
      | inr past ↦ get_or_past s₁ k 0 (omega (arith, past, closed.slots_length)) ∙ sym (ap (λ s. cond (k == gone) 0 (lowered at s)) (get_or_past slots k 0 past)
          ∙ ap (λ n. cond (k == gone) 0 n) (cond-false (nat_lt (at + 1) 0) (0 - 1) 0 (le-ltb (at + 1) 0 (omega arith))) ∙ cond-same (k == gone) 0)
    ] in
    record {
      slots_are = λ id. changed id ∙ ap (λ s. cond (id == gone) 0 (lowered at s)) (old.slots_are id)
          ∙ sym (ap (λ xs. slot_of xs id) (ids-remove leaves at) ∙ slot-remove ids at id there' old.distinct);
      befores_are = λ id inside.
          let was = has-removed leaves at id inside in
          let some : 0 < get_or slots id 0 = omega (arith, old.slots_are id, slot-some ids id was) in
          let known : id < length slots = elim (cases_lt id (length slots)) [ inl is ↦ is | inr past ↦ absurd (omega (arith, some, get_or_past slots id 0 past)) ] in
          closed.befores_are id known
          ∙ ap (λ n. cond (nat_lt (at + 1) (get_or slots id 0)) (n - by) n) (old.befores_are id was ∙ before-remove leaves at id there old.distinct inside ∙ ap (λ s. words_before (remove leaves at) id + moves (at + 1) s by) (sym (old.slots_are id)))
          ∙ cond-less (nat_lt (at + 1) (get_or slots id 0)) (words_before (remove leaves at) id) by;
      same_length = closed.befores_length ∙ sym closed.slots_length;
      words_are = omega (arith, rest_is, old.words_are, words-remove leaves at there);
      few = omega (arith, rest_is, old.few);
      distinct = ap are_distinct (ids-remove leaves at) ∙ distinct-remove ids at old.distinct;
    }
  where
    cond-same : (b : Bool) (n : ℕ) → cond b n n ≡ n
    cond-same true n = refl
    cond-same false n = refl

    cond-less : (b : Bool) (n m : ℕ) → cond b (n + cond b m 0 - m) (n + cond b m 0) ≡ n
    cond-less true n m = omega arith
    cond-less false n m = omega arith
