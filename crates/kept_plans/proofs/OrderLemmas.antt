-- Plans in the order of their use: their texts, their lists, and which of them stay.
use Rattle.std.proofs.Common.{◌≡◌, ◌∙◌, sym, refl, ap, subst, ℕ, zero, suc, ◌+◌, ◌≤◌, Bool, true, false, not, cond, ◌||◌, List, [], ◌∷◌, ◌++◌, length, take, arith}
use mathlib.Core.Bool.{true≢false}
use Rattle.std.specs.Prelude.{All, bytes_eq}
use Rattle.std.specs.Cmp.Lexicographic.{nat_list_eq_equiv}
use Rattle.std.specs.List.{filter, AllByRecursion, IsDistinct}
use Rattle.std.proofs.lemmas.List.{take-map, take_all}
use Rattle.std.proofs.lemmas.List.Elements.{All-cons, All-filter, All-from_recursion, All-take, recursion_from_All}
use Rattle.std.proofs.lemmas.Map.Keys.{IsDistinct-cons, IsDistinct-head, IsDistinct-tail}
use Rattle.plan_compiler.specs.NamedLists.{NamedLists}
use Rattle.kept_plans.specs.Kept.{is_kept, others, used}
use Rattle.kept_plans.specs.PlanOf.{PlanOf}
use Rattle.kept_plans.specs.Preparation.{texts_of}
use Rattle.kept_plans.specs.steps.Recent.{kept_of, with_first}

-- the plans that have another text
abbrev pub other_plans : List ℕ → List PlanOf → List PlanOf
other_plans text plans = filter (λ other. not (bytes_eq text other.text)) plans

texts_if : (b : Bool) (plan : PlanOf) (plans : List PlanOf) (texts : List (List ℕ)) → texts_of plans ≡ texts
    → texts_of (cond b (plan ∷ plans) plans) ≡ cond b (plan.text ∷ texts) texts
texts_if true plan plans texts rest = ap (λ ts. plan.text ∷ ts) rest
texts_if false plan plans texts rest = rest

other_texts : (text : List ℕ) (plans : List PlanOf) → texts_of (other_plans text plans) ≡ others text (texts_of plans)
other_texts text [] = refl
other_texts text (plan ∷ plans) = texts_if (not (bytes_eq text plan.text)) plan (other_plans text plans) (others text (texts_of plans)) (other_texts text plans)

-- the texts of plans where one comes to the front
first_texts : (plan : PlanOf) (plans : List PlanOf) → texts_of (with_first plan plans) ≡ take 64 (plan.text ∷ others plan.text (texts_of plans))
first_texts plan plans =
    sym (take-map (λ (p : PlanOf). p.text) 64 (plan ∷ other_plans plan.text plans)) ∙ ap (λ ts. take 64 (plan.text ∷ ts)) (other_texts plan.text plans)

-- what is kept where one comes to the front that was counted
pub first_used : (plan : PlanOf) (plans : List PlanOf) (hits : ℕ)
    → kept_of (with_first plan plans) (cond (is_kept plan.text (texts_of plans)) (hits + 1) hits) ≡ used plan.text (kept_of plans hits)
first_used plan plans hits =
    λ i. record { texts = first_texts plan plans i; hits = cond (is_kept plan.text (texts_of plans)) (hits + 1) hits }

-- the lists of plans where one comes to the front
pub first_under : (lists : NamedLists) (plan : PlanOf) (plans : List PlanOf) → plan.lists ≡ lists → All (λ p. p.lists ≡ lists) plans
    → All (λ p. p.lists ≡ lists) (with_first plan plans)
first_under lists plan plans one all =
    let under : PlanOf → Type 0 = λ p. p.lists ≡ lists in
    All-take under 64 (plan ∷ other_plans plan.text plans)
    (All-cons under plan (other_plans plan.text plans) one (All-filter (λ other. not (bytes_eq plan.text other.text)) under plans all))

-- where no plan has the text, all of them are others
pub all_others : (text : List ℕ) (plans : List PlanOf) → AllByRecursion (λ t. bytes_eq text t ≡ false) (texts_of plans) → other_plans text plans ≡ plans
all_others text [] h = refl
all_others text (plan ∷ plans) h =
    ap (λ b. cond (not b) (plan ∷ other_plans text plans) (other_plans text plans)) h.0 ∙ ap (λ ps. plan ∷ ps) (all_others text plans h.1)

-- no text comes twice, where one comes to the front
apart_if : (text t : List ℕ) (ts : List (List ℕ)) (b : Bool) → bytes_eq text t ≡ b → AllByRecursion (λ u. bytes_eq text u ≡ false) ts
    → AllByRecursion (λ u. bytes_eq text u ≡ false) (cond (not b) (t ∷ ts) ts)
apart_if text t ts true is h = h
apart_if text t ts false is h = (is, h)

others_apart : (text : List ℕ) (ts : List (List ℕ)) → AllByRecursion (λ u. bytes_eq text u ≡ false) (others text ts)
others_apart text [] = tt
others_apart text (t ∷ ts) = apart_if text t (others text ts) (bytes_eq text t) refl (others_apart text ts)

distinct_if : (b : Bool) (t : List ℕ) (ts : List (List ℕ)) → AllByRecursion (λ u. bytes_eq t u ≡ false) ts → IsDistinct bytes_eq ts
    → IsDistinct bytes_eq (cond b (t ∷ ts) ts)
distinct_if true t ts apart d = IsDistinct-cons bytes_eq t ts apart d
distinct_if false t ts apart d = d

distinct_others : (text : List ℕ) (ts : List (List ℕ)) → IsDistinct bytes_eq ts → IsDistinct bytes_eq (others text ts)
distinct_others text [] d = d
distinct_others text (t ∷ ts) d =
    let apart : List ℕ → Type 0 = λ u. bytes_eq t u ≡ false in
    distinct_if (not (bytes_eq text t)) t (others text ts)
    (recursion_from_All apart (others text ts)
    (All-filter (λ u. not (bytes_eq text u)) apart ts (All-from_recursion apart ts (IsDistinct-head bytes_eq t ts d))))
    (distinct_others text ts (IsDistinct-tail bytes_eq t ts d))

distinct_take : (n : ℕ) (ts : List (List ℕ)) → IsDistinct bytes_eq ts → IsDistinct bytes_eq (take n ts)
unfolding IsDistinct
distinct_take zero ts d = tt
distinct_take (suc n) [] d = d
distinct_take (suc n) (t ∷ ts) d =
    let apart : List ℕ → Type 0 = λ u. bytes_eq t u ≡ false in
    (recursion_from_All apart (take n ts) (All-take apart n ts (All-from_recursion apart ts d.0)), distinct_take n ts d.1)

pub first_distinct : (plan : PlanOf) (plans : List PlanOf) → IsDistinct bytes_eq (texts_of plans) → IsDistinct bytes_eq (texts_of (with_first plan plans))
first_distinct plan plans d =
    let rest : List (List ℕ) = others plan.text (texts_of plans) in
    subst (IsDistinct bytes_eq) (sym (first_texts plan plans))
    (distinct_take 64 (plan.text ∷ rest)
    (IsDistinct-cons bytes_eq plan.text rest (others_apart plan.text (texts_of plans)) (distinct_others plan.text (texts_of plans) d)))

-- a text that is kept stays so where another one comes to the front
stays_if : (text other t : List ℕ) (ts : List (List ℕ)) (a b : Bool) → bytes_eq text t ≡ a → bytes_eq other t ≡ b → bytes_eq other text ≡ false
    → (is_kept other ts ≡ true → is_kept other (others text ts) ≡ true) → (b || is_kept other ts) ≡ true
    → is_kept other (cond (not a) (t ∷ others text ts) (others text ts)) ≡ true
stays_if text other t ts true true same is apart rest h =
    absurd (true≢false (sym (nat_list_eq_equiv.congr other t text is ∙ (nat_list_eq_equiv.symm t text ∙ same)) ∙ apart))
stays_if text other t ts true false same is apart rest h = rest h
stays_if text other t ts false true same is apart rest h = ap (λ b. b || is_kept other (others text ts)) is
stays_if text other t ts false false same is apart rest h = ap (λ b. b || is_kept other (others text ts)) is ∙ rest h

other_stays : (text other : List ℕ) (ts : List (List ℕ)) → bytes_eq other text ≡ false → is_kept other ts ≡ true → is_kept other (others text ts) ≡ true
other_stays text other [] apart h = h
other_stays text other (t ∷ ts) apart h =
    stays_if text other t ts (bytes_eq text t) (bytes_eq other t) refl refl apart (other_stays text other ts apart) h

after_first : (text other : List ℕ) (ts : List (List ℕ)) (b : Bool) → bytes_eq other text ≡ b → is_kept other ts ≡ true
    → (b || is_kept other (others text ts)) ≡ true
after_first text other ts true is h = refl
after_first text other ts false is h = other_stays text other ts is h

pub first_stays : (plan : PlanOf) (plans : List PlanOf) (other : List ℕ) → length (plan ∷ other_plans plan.text plans) ≤ 64
    → is_kept other (texts_of plans) ≡ true → is_kept other (texts_of (with_first plan plans)) ≡ true
first_stays plan plans other fits h =
    ap (λ ps. is_kept other (texts_of ps)) (take_all 64 (plan ∷ other_plans plan.text plans) fits)
    ∙ (ap (λ ts. is_kept other (plan.text ∷ ts)) (other_texts plan.text plans)
    ∙ after_first plan.text other (texts_of plans) (bytes_eq other plan.text) refl h)

-- A plan that stood before some comes before them again.
pub prefix_again : (before : List PlanOf) (plan : PlanOf) (suffix : List PlanOf) → IsDistinct bytes_eq (texts_of (before ++ plan ∷ suffix))
    → length (before ++ plan ∷ suffix) ≤ 64 → with_first plan suffix ≡ plan ∷ suffix
prefix_again [] plan suffix d within =
    ap (λ ps. take 64 (plan ∷ ps)) (all_others plan.text suffix (IsDistinct-head bytes_eq plan.text (texts_of suffix) d))
    ∙ take_all 64 (plan ∷ suffix) within
prefix_again (first ∷ before) plan suffix d within =
    prefix_again before plan suffix (IsDistinct-tail bytes_eq first.text (texts_of (before ++ plan ∷ suffix)) d) (omega (arith, within))

-- one use is at most one hit
pub hits_used : (b : Bool) (hits : ℕ) → cond b (hits + 1) hits ≤ hits + 1
hits_used true hits = omega arith
hits_used false hits = omega arith
