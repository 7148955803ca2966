-- How often a reference stands in a list, and lists that have their common references in one order.
use Rattle.std.proofs.Common.{◌≡◌, ◌≢◌, ℕ, zero, suc, ◌+◌, ◌≤◌, Bool, true, false, ◌||◌, cond, List, [], ◌∷◌, ◌++◌, filter, refl, sym, ap, ◌∙◌, arith, ◌⊎◌, inl, inr}
use Rattle.std.specs.List.{AllPairs, AllByRecursion, IsDistinct}
use Rattle.std.specs.Bool.{Decides}
use Rattle.std.proofs.lemmas.Bool.{cases_Bool, eq-eqb, eqb-true, or_from, or_left, or_right, true≢false}
use Rattle.std.proofs.lemmas.Map.Made.{IsDistinct-from_AllPairs, AllPairs-from_IsDistinct}
use Rattle.ft_base.proofs.Truth.{or_other}
use Rattle.ft_base.specs.declared.ids.NodeRef.{NodeRef}
use Rattle.tree_edits.specs.Edits.{is_same, is_among}

pub same_ref : (r q : NodeRef) → is_same r q ≡ true → r ≡ q
same_ref r q h = ap (λ (n : ℕ). let named : NodeRef = record { 0 = n } in named) (sym (eqb-true q.0 r.0 h))

pub same_self : (r : NodeRef) → is_same r r ≡ true
same_self r = eq-eqb r.0 r.0 refl

-- ---- how often

abbrev pub weight : Bool → ℕ
weight true = 1
weight false = 0

pub weight_yes : (b : Bool) → b ≡ true → weight b ≡ 1
weight_yes b h = ap weight h

pub weight_no : (b : Bool) → b ≡ false → weight b ≡ 0
weight_no b h = ap weight h

pub weight_zero : (b : Bool) (n : ℕ) → weight b + n ≡ 0 → b ≡ false
weight_zero true n h = absurd (omega (arith, h))
weight_zero false n h = refl

pub cases_zero : (n : ℕ) → (n ≡ 0) ⊎ (1 ≤ n)
cases_zero zero = inl refl
cases_zero (suc n) = inr (omega arith)

abbrev pub times : NodeRef → List NodeRef → ℕ
times r [] = 0
times r (q ∷ qs) = weight (is_same r q) + times r qs

pub times-append : (r : NodeRef) (xs ys : List NodeRef) → times r (xs ++ ys) ≡ times r xs + times r ys
times-append r [] ys = omega arith
times-append r (q ∷ xs) ys = omega (arith, times-append r xs ys)

pub none_among : (r : NodeRef) (xs : List NodeRef) → times r xs ≡ 0 → is_among xs r ≡ false
none_among r [] h = refl
none_among r (x ∷ xs) h = elim (cases_Bool (is_same r x)) [
  | inl holds ↦ absurd (omega (arith, h, weight_yes (is_same r x) holds))
  | inr fails ↦ or_from (is_same r x) (is_among xs r) fails (none_among r xs (omega (arith, h)))
]

pub some_among : (r : NodeRef) (xs : List NodeRef) → 1 ≤ times r xs → is_among xs r ≡ true
some_among r [] h = absurd (omega (arith, h))
some_among r (x ∷ xs) h = elim (cases_Bool (is_same r x)) [
  | inl holds ↦ or_left (is_same r x) (is_among xs r) holds
  | inr fails ↦ or_right (is_same r x) (is_among xs r) (some_among r xs (omega (arith, h, weight_no (is_same r x) fails)))
]

pub among_some : (r : NodeRef) (xs : List NodeRef) → is_among xs r ≡ true → 1 ≤ times r xs
among_some r xs h = elim (cases_zero (times r xs)) [
  | inl none ↦ absurd (true≢false (sym h ∙ none_among r xs none))
  | inr some ↦ some
]

pub among_none : (r : NodeRef) (xs : List NodeRef) → is_among xs r ≡ false → times r xs ≡ 0
among_none r [] h = refl
among_none r (x ∷ xs) h = elim (cases_Bool (is_same r x)) [
  | inl holds ↦ absurd (true≢false (sym (or_left (is_same r x) (is_among xs r) holds) ∙ h))
  | inr fails ↦ omega (arith, weight_no (is_same r x) fails, among_none r xs (sym (or_other (is_same r x) (is_among xs r) fails) ∙ h))
]

-- whether a reference is in a list follows from how often it is there
pub same_among : (r : NodeRef) (xs ys : List NodeRef) → times r xs ≡ times r ys → is_among xs r ≡ is_among ys r
same_among r xs ys h = elim (cases_Bool (is_among xs r)) [
  | inl holds ↦ holds ∙ sym (some_among r ys (omega (arith, h, among_some r xs holds)))
  | inr fails ↦ fails ∙ sym (none_among r ys (omega (arith, h, among_none r xs fails)))
]

-- ---- no reference stands twice

abbrev pub Distinct : List NodeRef → Type 0
Distinct xs = (r : NodeRef) → times r xs ≤ 1

pub distinct_rest : (x : NodeRef) (xs : List NodeRef) → Distinct (x ∷ xs) → Distinct xs
distinct_rest x xs d = λ r. omega (arith, d r)

pub distinct_first : (x : NodeRef) (xs : List NodeRef) → Distinct (x ∷ xs) → times x xs ≡ 0
distinct_first x xs d = omega (arith, d x, weight_yes (is_same x x) (same_self x))

same-decides : (a b : NodeRef) → Decides (is_same a b) (a ≡ b)
same-decides a b = ((λ h. same_ref a b h), (λ h. eq-eqb b.0 a.0 (sym (ap (λ (r : NodeRef). r.0) h))))

others_than : (r : NodeRef) (xs : List NodeRef) → AllByRecursion (λ q. is_same r q ≡ false) xs → times r xs ≡ 0
others_than r [] h = refl
others_than r (x ∷ xs) h = omega (arith, weight_no (is_same r x) h.0, others_than r xs h.1)

none_same : (r : NodeRef) (xs : List NodeRef) → times r xs ≡ 0 → AllByRecursion (λ q. is_same r q ≡ false) xs
none_same r [] h = tt
none_same r (x ∷ xs) h = elim (cases_Bool (is_same r x)) [
  | inl holds ↦ absurd (omega (arith, h, weight_yes (is_same r x) holds))
  | inr fails ↦ (fails, none_same r xs (omega (arith, h)))
]

pub few_times : (xs : List NodeRef) → IsDistinct is_same xs → Distinct xs
unfolding IsDistinct
few_times [] h r = omega arith
few_times (x ∷ xs) h r = elim (cases_Bool (is_same r x)) [
  | inl holds ↦
      let none : times x xs ≡ 0 = others_than x xs h.0 in
      let here : times r xs ≡ 0 = ap (λ q. times q xs) (same_ref r x holds) ∙ none in
      omega (arith, here, weight_yes (is_same r x) holds)
  | inr fails ↦ omega (arith, few_times xs h.1 r, weight_no (is_same r x) fails)
]

differ : (xs : List NodeRef) → Distinct xs → IsDistinct is_same xs
unfolding IsDistinct
differ [] d = tt
differ (x ∷ xs) d = (none_same x xs (distinct_first x xs d), differ xs (distinct_rest x xs d))

pub distinct_from : (xs : List NodeRef) → AllPairs (λ a b. a ≢ b) xs → Distinct xs
distinct_from xs h = few_times xs (IsDistinct-from_AllPairs same-decides xs h)

pub distinct_pairs : (xs : List NodeRef) → Distinct xs → AllPairs (λ a b. a ≢ b) xs
distinct_pairs xs d = AllPairs-from_IsDistinct same-decides xs (differ xs d)

-- ---- filters

pub filter_same : (p q : NodeRef → Bool) (xs : List NodeRef) → ((x : NodeRef) → 1 ≤ times x xs → p x ≡ q x) → filter p xs ≡ filter q xs
filter_same p q [] h = refl
filter_same p q (x ∷ xs) h =
    let here : p x ≡ q x = h x (omega (arith, weight_yes (is_same x x) (same_self x))) in
    let rest : filter p xs ≡ filter q xs = filter_same p q xs (λ y some. h y (omega (arith, some))) in
    ap (λ b. cond b (x ∷ filter p xs) (filter p xs)) here ∙ ap (λ ys. cond (q x) (x ∷ ys) ys) rest

pub filter_true : (p : NodeRef → Bool) (xs : List NodeRef) → ((x : NodeRef) → 1 ≤ times x xs → p x ≡ true) → filter p xs ≡ xs
filter_true p [] h = refl
filter_true p (x ∷ xs) h =
    let here : p x ≡ true = h x (omega (arith, weight_yes (is_same x x) (same_self x))) in
    rw here (ap (λ ys. x ∷ ys) (filter_true p xs (λ y some. h y (omega (arith, some)))))

pub filter_false : (p : NodeRef → Bool) (xs : List NodeRef) → ((x : NodeRef) → 1 ≤ times x xs → p x ≡ false) → filter p xs ≡ []
filter_false p [] h = refl
filter_false p (x ∷ xs) h =
    let here : p x ≡ false = h x (omega (arith, weight_yes (is_same x x) (same_self x))) in
    rw here (filter_false p xs (λ y some. h y (omega (arith, some))))

pub filter_swap : (p q : NodeRef → Bool) (xs : List NodeRef) → filter p (filter q xs) ≡ filter q (filter p xs)
filter_swap p q [] = refl
filter_swap p q (x ∷ xs) = elim (cases_Bool (p x)) [
  | inl holds ↦ elim (cases_Bool (q x)) [
    | inl also ↦ rw (holds, also) (rw holds (ap (λ ys. x ∷ ys) (filter_swap p q xs)))
    | inr never ↦ rw (holds, never) (filter_swap p q xs)
  ]
  | inr fails ↦ elim (cases_Bool (q x)) [
    | inl also ↦ rw (fails, also) (rw fails (filter_swap p q xs))
    | inr never ↦ rw (fails, never) (filter_swap p q xs)
  ]
]

pub times_filter : (r : NodeRef) (p : NodeRef → Bool) (xs : List NodeRef) → p r ≡ true → times r (filter p xs) ≡ times r xs
times_filter r p [] h = refl
times_filter r p (x ∷ xs) h = elim (cases_Bool (p x)) [
  | inl holds ↦ rw holds (ap (λ n. weight (is_same r x) + n) (times_filter r p xs h))
  | inr fails ↦ rw fails (
      let other : is_same r x ≡ false = elim (cases_Bool (is_same r x)) [
        | inl same ↦ absurd (true≢false (sym h ∙ ap p (same_ref r x same) ∙ fails))
        | inr differs ↦ differs
      ] in
      omega (arith, weight_no (is_same r x) other, times_filter r p xs h))
]

-- ---- a list that is another one without some of its references

pub data Part : List NodeRef → List NodeRef → Type 0 where
  none : Part [] []
  keep : {xs ys : List NodeRef} → (r : NodeRef) → Part xs ys → Part (r ∷ xs) (r ∷ ys)
  skip : {xs ys : List NodeRef} → (r : NodeRef) → Part xs ys → Part xs (r ∷ ys)

pub part_whole : (xs : List NodeRef) → Part xs xs
part_whole [] = none
part_whole (x ∷ xs) = keep x (part_whole xs)

pub part_none : (xs : List NodeRef) → Part [] xs
part_none [] = none
part_none (x ∷ xs) = skip x (part_none xs)

pub part_append : {xs ys us vs : List NodeRef} → Part xs ys → Part us vs → Part (xs ++ us) (ys ++ vs)
part_append none b = b
part_append (keep r a) b = keep r (part_append a b)
part_append (skip r a) b = skip r (part_append a b)

pub part_after : {xs ys zs : List NodeRef} → Part xs ys → Part ys zs → Part xs zs
part_after a none = a
part_after (keep q a) (keep r b) = keep r (part_after a b)
part_after (skip q a) (keep r b) = skip r (part_after a b)
part_after a (skip r b) = skip r (part_after a b)

pub part_times : {xs ys : List NodeRef} → (r : NodeRef) → Part xs ys → times r xs ≤ times r ys
part_times r none = omega arith
part_times r (keep q a) = omega (arith, part_times r a)
part_times r (skip q a) = omega (arith, part_times r a)

-- what is left of the whole by the part's own references is the part
pub part_is : {xs ys : List NodeRef} → Part xs ys → Distinct ys → filter (is_among xs) ys ≡ xs
part_is none d = refl
part_is (keep {xs = xs} {ys = ys} r a) d =
    let here : is_among (r ∷ xs) r ≡ true = or_left (is_same r r) (is_among xs r) (same_self r) in
    let once : times r ys ≡ 0 = distinct_first r ys d in
    let rest : filter (is_among (r ∷ xs)) ys ≡ filter (is_among xs) ys =
    filter_same (is_among (r ∷ xs)) (is_among xs) ys (λ y some.
    let apart : is_same y r ≡ false = elim (cases_Bool (is_same y r)) [
      | inl same ↦ absurd (omega (arith, some, once, ap (λ q. times q ys) (same_ref y r same)))
      | inr differs ↦ differs
    ] in
    ap (λ b. b || is_among xs y) apart) in
    rw here (ap (λ zs. r ∷ zs) (rest ∙ part_is a (distinct_rest r ys d)))
part_is (skip {xs = xs} {ys = ys} r a) d =
    let gone : is_among xs r ≡ false = none_among r xs (omega (arith, part_times r a, distinct_first r ys d)) in
    rw gone (part_is a (distinct_rest r ys d))

-- ---- the common references of two lists stand in one order

abbrev pub InOrder : List NodeRef → List NodeRef → Type 0
InOrder xs ys = filter (is_among xs) ys ≡ filter (is_among ys) xs

-- those of the second list that are in the first are a part of it
pub in_order : (xs ys : List NodeRef) {common : List NodeRef} → Distinct xs → Part common xs → filter (is_among xs) ys ≡ common → InOrder xs ys
in_order xs ys {common = common} d part is =
    let same : filter (is_among ys) xs ≡ filter (is_among common) xs =
    filter_same (is_among ys) (is_among common) xs (λ x some.
    same_among x ys common (sym (times_filter x (is_among xs) ys (some_among x xs some)) ∙ ap (times x) is)) in
    is ∙ sym (same ∙ part_is part d)

-- the elements that pass a test, of those that pass a weaker one
pub filter_narrow : {X : Type 0} (p q : X → Bool) → ((x : X) → p x ≡ true → q x ≡ true) → (xs : List X) → filter p (filter q xs) ≡ filter p xs
filter_narrow p q h [] = refl
filter_narrow p q h (x ∷ xs) = elim (cases_Bool (q x)) [
  | inl holds ↦ rw holds (ap (λ ys. cond (p x) (x ∷ ys) ys) (filter_narrow p q h xs))
  | inr fails ↦ elim (cases_Bool (p x)) [
    | inl also ↦ absurd (true≢false (sym (h x also) ∙ fails))
    | inr never ↦ rw (fails, never) (filter_narrow p q h xs)
  ]
]

-- a part of the second list keeps the order
pub in_order_part : (xs : List NodeRef) {ys zs : List NodeRef} → Distinct ys → InOrder xs ys → Part zs ys → InOrder xs zs
in_order_part xs {ys = ys} {zs = zs} d is part =
    let narrow : filter (is_among zs) (filter (is_among ys) xs) ≡ filter (is_among zs) xs = filter_narrow (is_among zs) (is_among ys) (λ x h.
    some_among x ys (omega (arith, part_times x part, among_some x zs h))) xs in
    ap (filter (is_among xs)) (sym (part_is part d)) ∙ filter_swap (is_among xs) (is_among zs) ys ∙ ap (filter (is_among zs)) is ∙ narrow
