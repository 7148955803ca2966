-- Stamps of documents that come, go or change are different numbers again, all below the next one.
use Rattle.std.proofs.Common.{◌≡◌, ℕ, zero, suc, ◌+◌, ◌<◌, ◌≤◌, Bool, true, false, cond, not, List, [], ◌∷◌, ◌++◌, length, map, take, get_or, refl, ap, ◌∙◌, arith}
use Rattle.std.specs.Prelude.{min, nat_eq}
use Rattle.std.specs.Cmp.{nat_eq_equiv}
use Rattle.std.specs.List.{AllByRecursion, IsDistinct, list_any, slice_set}
use Rattle.std.specs.Str.{bytes_eq}
use Rattle.std.proofs.ByRecursion.{All-push}
use Rattle.std.proofs.lemmas.Bool.{ne_eqb, or_from}
use Rattle.std.proofs.lemmas.List.{length-append, length-set}
use Rattle.std.proofs.lemmas.Map.Keys.{IsDistinct-push}
use Rattle.std.proofs.Math.Seq.{take-nil}
use Rattle.ft_base.specs.Lists.{is_empty}
use Rattle.path_meaning.specs.Collection.{Named}
use Rattle.stamped_documents.specs.Stamps.{AreStamps, restamped, without_stamp}

-- each number is below this one
abbrev Below : ℕ → List ℕ → Type 0
Below next stamps = AllByRecursion (λ s. s < next) stamps

-- each number is another one than this
abbrev Differ : ℕ → List ℕ → Type 0
Differ k stamps = AllByRecursion (λ s. nat_eq k s ≡ false) stamps

below-more : (next more : ℕ) (stamps : List ℕ) → next ≤ more → Below next stamps → Below more stamps
below-more next more [] le below = tt
below-more next more (s ∷ stamps) le below = (omega (arith, le, below.0), below-more next more stamps le below.1)

differ-new : (next k : ℕ) (stamps : List ℕ) → next ≤ k → Below next stamps → Differ k stamps
differ-new next k [] le below = tt
differ-new next k (s ∷ stamps) le below = (ne_eqb k s (λ same. omega (arith, le, below.0, same)), differ-new next k stamps le below.1)

none-among : (k : ℕ) (stamps : List ℕ) → Differ k stamps → list_any (nat_eq k) stamps ≡ false
none-among k [] differ = refl
none-among k (s ∷ stamps) differ = or_from (nat_eq k s) (list_any (nat_eq k) stamps) differ.0 (none-among k stamps differ.1)

none-distinct : IsDistinct nat_eq []
unfolding IsDistinct
none-distinct = tt

pub no-stamps : AreStamps 0 0 []
no-stamps = record { as_many = refl; below = tt; distinct = none-distinct }

-- ---- a document comes

pub stamps-more : (count next : ℕ) (stamps : List ℕ) → AreStamps count next stamps → AreStamps (count + 1) (next + 1) (stamps ++ next ∷ [])
stamps-more count next stamps are = record {
  as_many = length-append stamps (next ∷ []) ∙ ap (λ n. n + 1) are.as_many;
  below = All-push (λ s. s < next + 1) stamps next (below-more next (next + 1) stamps (omega arith) are.below) (omega arith);
  distinct = IsDistinct-push nat_eq_equiv stamps next are.distinct (none-among next stamps (differ-new next next stamps (omega arith) are.below));
}

-- ---- documents change

differ-restamped : {A : Type 0} (k next : ℕ) (lists : List (List A)) (stamps : List ℕ) → k < next → Differ k stamps → Differ k (restamped next lists stamps)
differ-restamped k next [] stamps lt differ = differ
differ-restamped k next (items ∷ lists) [] lt differ = tt
differ-restamped k next ([] ∷ lists) (s ∷ stamps) lt differ = (differ.0, differ-restamped k (suc next) lists stamps (omega (arith, lt)) differ.1)
differ-restamped k next ((x ∷ items) ∷ lists) (s ∷ stamps) lt differ =
    (ne_eqb k next (λ same. omega (arith, lt, same)), differ-restamped k (suc next) lists stamps (omega (arith, lt)) differ.1)

distinct-restamped : {A : Type 0} (first next : ℕ) (lists : List (List A)) (stamps : List ℕ) → first ≤ next → Below first stamps → IsDistinct nat_eq stamps
    → IsDistinct nat_eq (restamped next lists stamps)
unfolding IsDistinct
distinct-restamped first next [] stamps le below distinct = distinct
distinct-restamped first next (items ∷ lists) [] le below distinct = tt
distinct-restamped first next ([] ∷ lists) (s ∷ stamps) le below distinct =
    (differ-restamped s (suc next) lists stamps (omega (arith, le, below.0)) distinct.0, distinct-restamped first (suc next) lists stamps (omega (arith, le)) below.1 distinct.1)
distinct-restamped first next ((x ∷ items) ∷ lists) (s ∷ stamps) le below distinct =
    (differ-restamped next (suc next) lists stamps (omega arith) (differ-new first next stamps le below.1), distinct-restamped first (suc next) lists stamps (omega (arith, le)) below.1 distinct.1)

below-restamped : {A : Type 0} (next last : ℕ) (lists : List (List A)) (stamps : List ℕ) → next + length stamps ≤ last → Below last stamps → Below last (restamped next lists stamps)
below-restamped next last [] stamps le below = below
below-restamped next last (items ∷ lists) [] le below = tt
below-restamped next last ([] ∷ lists) (s ∷ stamps) le below = (below.0, below-restamped (suc next) last lists stamps (omega (arith, le)) below.1)
below-restamped next last ((x ∷ items) ∷ lists) (s ∷ stamps) le below = (omega (arith, le), below-restamped (suc next) last lists stamps (omega (arith, le)) below.1)

length-restamped : {A : Type 0} (next : ℕ) (lists : List (List A)) (stamps : List ℕ) → length (restamped next lists stamps) ≡ length stamps
length-restamped next [] stamps = refl
length-restamped next (items ∷ lists) [] = refl
length-restamped next (items ∷ lists) (s ∷ stamps) = ap suc (length-restamped (suc next) lists stamps)

pub stamps-changed : {A : Type 0} (count next last : ℕ) (lists : List (List A)) (stamps : List ℕ) → last ≡ next + length stamps → AreStamps count next stamps
    → AreStamps count last (restamped next lists stamps)
stamps-changed count next last lists stamps is are = record {
  as_many = length-restamped next lists stamps ∙ are.as_many;
  below = below-restamped next last lists stamps (omega (arith, is)) (below-more next last stamps (omega (arith, is)) are.below);
  distinct = distinct-restamped next next lists stamps (omega arith) are.below are.distinct;
}

-- ---- one document after the other

restamp-more : {A : Type 0} (next i : ℕ) (lists : List (List A)) (stamps : List ℕ) (d : List A) → i < length lists → i < length stamps
    → cond (not (is_empty (get_or lists i d))) (slice_set (restamped next (take i lists) stamps) i (next + i)) (restamped next (take i lists) stamps)
    ≡ restamped next (take (suc i) lists) stamps
restamp-more next i [] stamps d few less = absurd (omega (arith, few))
restamp-more next i (items ∷ lists) [] d few less = absurd (omega (arith, less))
restamp-more next zero ([] ∷ lists) (s ∷ stamps) d few less = refl
restamp-more next zero ((x ∷ items) ∷ lists) (s ∷ stamps) d few less = ap (λ n. n ∷ stamps) (omega arith)
restamp-more next (suc i) (items ∷ lists) (s ∷ stamps) d few less =
    elim (not (is_empty (get_or lists i d))) as (λ b. cond b (h ∷ slice_set rest i (next + suc i)) (h ∷ rest) ≡ h ∷ cond b (slice_set rest i (suc next + i)) rest)
    [ true ↦ ap (λ n. h ∷ slice_set rest i n) (omega arith) | false ↦ refl ]
    ∙ ap (λ l. h ∷ l) (restamp-more (suc next) i lists stamps d (omega (arith, few)) (omega (arith, less)))
  where
    h : ℕ
    h = cond (is_empty items) s next

    rest : List ℕ
    rest = restamped (suc next) (take i lists) stamps

pub tells-empty : {A : Type 0} (empty : Bool) (xs : List A) → (empty ≡ true → xs ≡ []) → (xs ≡ [] → empty ≡ true) → empty ≡ is_empty xs
tells-empty true [] f g = refl
tells-empty false [] f g = g refl
tells-empty true (x ∷ xs) f g = absurd (omega (arith, ap length (f refl)))
tells-empty false (x ∷ xs) f g = refl

-- one document more is passed
pub one-more : {A : Type 0} (next i : ℕ) (lists : List (List A)) (before after stamps : List ℕ) (items d : List A) (empty : Bool) → i < length lists → i < length stamps
    → items ≡ get_or lists i d → empty ≡ is_empty items → before ≡ restamped next (take i lists) stamps
    → after ≡ cond (not empty) (slice_set before i (next + i)) before → after ≡ restamped next (take (i + 1) lists) stamps
one-more next i lists before after stamps items d empty few less at tells so made =
    made
    ∙ (λ k. cond (not (tells k)) (slice_set (so k) i (next + i)) (so k))
    ∙ (λ k. cond (not (is_empty (at k))) (slice_set (restamped next (take i lists) stamps) i (next + i)) (restamped next (take i lists) stamps))
    ∙ restamp-more next i lists stamps d few less
    ∙ ap (λ m. restamped next (take m lists) stamps) later
  where
    later : suc i ≡ i + 1
    later = omega arith

pub length-if : (changes : Bool) (before after : List ℕ) (i n : ℕ) → after ≡ cond changes (slice_set before i n) before → length after ≡ length before
length-if true before after i n made = ap length made ∙ length-set before i n
length-if false before after i n made = ap length made

pub item-of-each : (stamps : List ℕ) (i : ℕ) (d : List ℕ) → i < length stamps → is_empty (get_or (map (λ s. s ∷ []) stamps) i d) ≡ false
item-of-each [] i d less = absurd (omega (arith, less))
item-of-each (s ∷ stamps) zero d less = refl
item-of-each (s ∷ stamps) (suc i) d less = item-of-each stamps i d (omega (arith, less))

-- documents past the last stamp, or past the last list, change nothing
pub restamped-enough : {A : Type 0} (next n : ℕ) (lists : List (List A)) (stamps : List ℕ) → min (length lists) (length stamps) ≤ n
    → restamped next (take n lists) stamps ≡ restamped next lists stamps
restamped-enough next n [] stamps enough = ap (λ l. restamped next l stamps) (take-nil n)
restamped-enough next zero (items ∷ lists) [] enough = refl
restamped-enough next zero (items ∷ lists) (s ∷ stamps) enough = absurd (omega (arith, enough))
restamped-enough next (suc n) (items ∷ lists) [] enough = refl
restamped-enough next (suc n) (items ∷ lists) (s ∷ stamps) enough =
    ap (λ l. cond (is_empty items) s next ∷ l) (restamped-enough (suc next) n lists stamps (omega (arith, enough)))

-- ---- a document goes

all-without : (P : ℕ → Type 0) (name : List ℕ) (documents : List Named) (stamps : List ℕ) → AllByRecursion P stamps → AllByRecursion P (without_stamp name documents stamps)
all-without P name [] stamps all = all
all-without P name (d ∷ documents) [] all = tt
all-without P name (d ∷ documents) (s ∷ stamps) all =
    elim (bytes_eq name d.name) as (λ b. AllByRecursion P (cond b stamps (s ∷ without_stamp name documents stamps)))
    [ true ↦ all.1 | false ↦ (all.0, all-without P name documents stamps all.1) ]

distinct-without : (name : List ℕ) (documents : List Named) (stamps : List ℕ) → IsDistinct nat_eq stamps → IsDistinct nat_eq (without_stamp name documents stamps)
unfolding IsDistinct
distinct-without name [] stamps distinct = distinct
distinct-without name (d ∷ documents) [] distinct = tt
distinct-without name (d ∷ documents) (s ∷ stamps) distinct =
    elim (bytes_eq name d.name) as (λ b. IsDistinct nat_eq (cond b stamps (s ∷ without_stamp name documents stamps)))
    [ true ↦ distinct.1 | false ↦ (all-without (λ y. nat_eq s y ≡ false) name documents stamps distinct.0, distinct-without name documents stamps distinct.1) ]

pub stamps-fewer : (name : List ℕ) (documents : List Named) (count next : ℕ) (stamps : List ℕ) → AreStamps (length documents) next stamps
    → length (without_stamp name documents stamps) ≡ count → AreStamps count next (without_stamp name documents stamps)
stamps-fewer name documents count next stamps are as_many = record {
  as_many = as_many;
  below = all-without (λ s. s < next) name documents stamps are.below;
  distinct = distinct-without name documents stamps are.distinct;
}
