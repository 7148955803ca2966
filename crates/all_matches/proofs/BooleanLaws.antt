-- Or, And, Not and times as truth values and counts.
use Rattle.std.proofs.Common.{◌≡◌, refl, ap, ◌∙◌, ℕ, zero, suc, pred, List, [], ◌∷◌, ◌++◌, Bool, true, false, not, ◌&&◌, ◌||◌, length, arith}
use Rattle.std.specs.Prelude.{map, filter, flat_map, nat_le, nat_lt, ◌==◌, cond, if◌then◌else◌}
use Rattle.std.proofs.lemmas.List.Folds.{list_any-append}
use Rattle.std.proofs.lemmas.Bool.Decides.{nat_tests}
use Rattle.ft_base.specs.declared.hit.Hit.{Hit}
use Rattle.ft_base.specs.declared.hit.Match.{Match}
use Rattle.ft_base.specs.declared.range.Range.{Range}
use Rattle.ft_base.specs.declared.range.Range.TheVariants.{Exactly, AtLeast, AtMost, FromTo}
use Rattle.all_matches.specs.Boolean.{both, with_include, with_exclude, ft_or, ft_and, ft_not, is_clean, satisfied}
use Rattle.all_matches.specs.Times.{at_least, between, ft_times, number_in_range}
use Rattle.all_matches.proofs.ListTests.{list_any-alike, list_any-map, list_any-flat_map, list_any-and, list_any-and_first, list_any-never}

pub satisfied-or : (left right : List Match) → satisfied (ft_or left right) ≡ (satisfied left || satisfied right)
satisfied-or left right = list_any-append is_clean left right

clean-excludes : (xs ys : List Hit) (is ks js : List Hit) → is_clean (record { includes = is; excludes = xs ++ ys }) ≡ (is_clean (record { includes = ks; excludes = xs }) && is_clean (record { includes = js; excludes = ys }))
clean-excludes [] ys is ks js = refl
clean-excludes (x ∷ xs) ys is ks js = refl

pub is_clean-both : (a b : Match) → is_clean (both a b) ≡ (is_clean a && is_clean b)
is_clean-both a b = clean-excludes a.excludes b.excludes (a.includes ++ b.includes) a.includes b.includes

-- a Match put before each of a list
pub satisfied-map_both : (a : Match) (ms : List Match) → satisfied (map (both a) ms) ≡ (is_clean a && satisfied ms)
satisfied-map_both a ms =
    list_any-map is_clean (both a) ms
    ∙ list_any-alike (λ b. is_clean (both a b)) (λ b. is_clean a && is_clean b) ms (is_clean-both a)
    ∙ list_any-and_first (is_clean a) is_clean ms

pub satisfied-and : (left right : List Match) → satisfied (ft_and left right) ≡ (satisfied left && satisfied right)
satisfied-and left right =
    list_any-flat_map is_clean (λ a. map (both a) right) left
    ∙ list_any-alike (λ a. satisfied (map (both a) right)) (λ a. is_clean a && satisfied right) left (λ a. satisfied-map_both a right)
    ∙ list_any-and is_clean (satisfied right) left

-- an include turned about is an exclude, which no clean Match has
turned_include : (hits : List Hit) (ms : List Match) → satisfied (flat_map (λ hit. map (with_exclude hit) ms) hits) ≡ false
turned_include hits ms =
    list_any-flat_map is_clean (λ hit. map (with_exclude hit) ms) hits
    ∙ list_any-alike (λ hit. satisfied (map (with_exclude hit) ms)) (λ hit. false) hits (λ hit. list_any-map is_clean (with_exclude hit) ms ∙ list_any-never ms)
    ∙ list_any-never hits

-- an exclude turned about is an include
turned_exclude : (hits is : List Hit) (ms : List Match) → satisfied (flat_map (λ hit. map (with_include hit) ms) hits) ≡ (not (is_clean (record { includes = is; excludes = hits })) && satisfied ms)
turned_exclude [] is ms = refl
turned_exclude (hit ∷ hits) is ms =
    list_any-append is_clean (map (with_include hit) ms) (flat_map (λ h. map (with_include h) ms) hits)
    ∙ ap (λ b. b || satisfied (flat_map (λ h. map (with_include h) ms) hits)) (list_any-map is_clean (with_include hit) ms)
    ∙ ap (λ b. satisfied ms || b) (turned_exclude hits is ms)
    ∙ absorbed (satisfied ms) (not (is_clean (record { includes = is; excludes = hits })))
  where
    absorbed : (a b : Bool) → (a || (b && a)) ≡ a
    absorbed true b = refl
    absorbed false true = refl
    absorbed false false = refl

pub neither : (a b : Bool) → (not a && not b) ≡ not (a || b)
neither true b = refl
neither false b = refl

pub satisfied-not : (ms : List Match) → satisfied (ft_not ms) ≡ not (satisfied ms)
satisfied-not [] = refl
satisfied-not (m ∷ rest) =
    list_any-append is_clean (flat_map (λ hit. map (with_exclude hit) (ft_not rest)) m.includes) (flat_map (λ hit. map (with_include hit) (ft_not rest)) m.excludes)
    ∙ ap (λ b. b || satisfied (flat_map (λ hit. map (with_include hit) (ft_not rest)) m.excludes)) (turned_include m.includes (ft_not rest))
    ∙ turned_exclude m.excludes m.includes (ft_not rest)
    ∙ ap (λ b. not (is_clean m) && b) (satisfied-not rest)
    ∙ neither (is_clean m) (satisfied rest)

-- how many Matches have no exclude
abbrev pub clean_count : List Match → ℕ
clean_count ms = length (filter is_clean ms)

one_more : (k n : ℕ) → (nat_le (pred k) n || nat_le k n) ≡ nat_le k (suc n)
one_more zero n = grind (arith, nat_tests)
one_more (suc k) n = grind (arith, nat_tests)

-- one more Match, which may be chosen
with_choice : (b : Bool) (k : ℕ) (m : Match) (rest : List Match) → is_clean m ≡ b → ((b && nat_le (pred k) (clean_count rest)) || nat_le k (clean_count rest)) ≡ nat_le k (length (cond b (m ∷ filter is_clean rest) (filter is_clean rest)))
with_choice true k m rest e = one_more k (clean_count rest)
with_choice false k m rest e = refl

none_left : (k : ℕ) → false ≡ nat_le (suc k) 0
none_left k = grind (arith, nat_tests)

pub satisfied-at_least : (k : ℕ) (ms : List Match) → satisfied (at_least k ms) ≡ nat_le k (clean_count ms)
satisfied-at_least zero [] = refl
satisfied-at_least (suc k) [] = none_left k
satisfied-at_least k (m ∷ rest) =
    list_any-append is_clean (map (both m) (at_least (pred k) rest)) (at_least k rest)
    ∙ ap (λ b. b || satisfied (at_least k rest)) (satisfied-map_both m (at_least (pred k) rest))
    ∙ ap (λ b. (is_clean m && b) || satisfied (at_least k rest)) (satisfied-at_least (pred k) rest)
    ∙ ap (λ b. (is_clean m && nat_le (pred k) (clean_count rest)) || b) (satisfied-at_least k rest)
    ∙ with_choice (is_clean m) k m rest refl

in_between : (low high n : ℕ) → (if nat_lt high low then false else (nat_le low n && not (nat_le (suc high) n))) ≡ (nat_le low n && nat_le n high)
in_between low high n = grind (arith, nat_tests)

satisfied-cond : (b : Bool) (ms : List Match) → satisfied (if b then [] else ms) ≡ (if b then false else satisfied ms)
satisfied-cond true ms = refl
satisfied-cond false ms = refl

pub satisfied-between : (low high : ℕ) (ms : List Match) → satisfied (between low high ms) ≡ (nat_le low (clean_count ms) && nat_le (clean_count ms) high)
satisfied-between low high ms =
    satisfied-cond (nat_lt high low) (ft_and (at_least low ms) (ft_not (at_least (suc high) ms)))
    ∙ ap (λ b. if nat_lt high low then false else b) (satisfied-and (at_least low ms) (ft_not (at_least (suc high) ms)))
    ∙ ap (λ b. if nat_lt high low then false else (b && satisfied (ft_not (at_least (suc high) ms)))) (satisfied-at_least low ms)
    ∙ ap (λ b. if nat_lt high low then false else (nat_le low (clean_count ms) && b)) (satisfied-not (at_least (suc high) ms))
    ∙ ap (λ b. if nat_lt high low then false else (nat_le low (clean_count ms) && not b)) (satisfied-at_least (suc high) ms)
    ∙ in_between low high (clean_count ms)

exactly : (n m : ℕ) → (nat_le n m && nat_le m n) ≡ (m == n)
exactly n m = grind (arith, nat_tests)

at_most : (n m : ℕ) → (nat_le 0 m && nat_le m n) ≡ nat_le m n
at_most n m = grind (arith, nat_tests)

pub satisfied-times : (range : Range) (ms : List Match) → satisfied (ft_times range ms) ≡ number_in_range range (length (filter is_clean ms))
satisfied-times (Exactly n) ms = satisfied-between n n ms ∙ exactly n (clean_count ms)
satisfied-times (AtLeast n) ms = satisfied-at_least n ms
satisfied-times (AtMost n) ms = satisfied-between 0 n ms ∙ at_most n (clean_count ms)
satisfied-times (FromTo low high) ms = satisfied-between low high ms
