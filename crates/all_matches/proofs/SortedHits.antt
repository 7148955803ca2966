-- The hits of a phrase are sorted, each once.
use Rattle.std.proofs.Common.{◌≡◌, refl, ◌∙◌, ℕ, zero, suc, ◌+◌, ◌-◌, ◌<◌, List, [], ◌∷◌, ◌++◌, Bool, true, false, ◌&&◌, cond, length, arith}
use Rattle.std.specs.Prelude.{map, filter, flat_map}
use Rattle.std.specs.List.{list_all, range_with_len}
use Rattle.std.proofs.lemmas.Bool.{and_parts}
use Rattle.std.proofs.lemmas.Bool.Decides.{nat_tests}
use Rattle.std.proofs.lemmas.List.Folds.{list_all-append}
use Rattle.ft_base.specs.declared.token.Token.{Token}
use Rattle.ft_base.specs.declared.options.Options.{Options}
use Rattle.all_matches.specs.Variants.{Item, Lexicon}
use Rattle.all_matches.specs.Hits.{Interval, intervals, intervals_of, hit_on, hits}
use Rattle.ft_base.specs.Hits.{every_two, comes_before, is_sorted}

-- tests of every two elements of a list
module _ {X : Type 0} (test : X → X → Bool) where
  abbrev pub every : List X → Bool
  every [] = true
  every (x ∷ xs) = list_all (test x) xs && every xs

  all_kept : (p q : X → Bool) (xs : List X) → list_all q xs ≡ true → list_all q (filter p xs) ≡ true
  all_kept p q [] h = refl
  all_kept p q (x ∷ xs) h = let parts = and_parts (q x) (list_all q xs) h in one (p x) parts.0 (all_kept p q xs parts.1)
    where
      one : (b : Bool) → q x ≡ true → list_all q (filter p xs) ≡ true → list_all q (cond b (x ∷ filter p xs) (filter p xs)) ≡ true
      one true here rest = λ i. here i && rest i
      one false here rest = rest

  every-filter : (p : X → Bool) (xs : List X) → every xs ≡ true → every (filter p xs) ≡ true
  every-filter p [] h = refl
  every-filter p (x ∷ xs) h =
      let parts = and_parts (list_all (test x) xs) (every xs) h in
      one (p x) (all_kept p (test x) xs parts.0) (every-filter p xs parts.1)
    where
      one : (b : Bool) → list_all (test x) (filter p xs) ≡ true → every (filter p xs) ≡ true → every (cond b (x ∷ filter p xs) (filter p xs)) ≡ true
      one true here rest = λ i. here i && rest i
      one false here rest = rest

  every-append : (xs ys : List X) → every xs ≡ true → every ys ≡ true → list_all (λ x. list_all (test x) ys) xs ≡ true → every (xs ++ ys) ≡ true
  every-append [] ys hx hy across = hy
  every-append (x ∷ xs) ys hx hy across =
      let parts = and_parts (list_all (test x) xs) (every xs) hx in
      let over = and_parts (list_all (test x) ys) (list_all (λ z. list_all (test z) ys) xs) across in
      λ i. (list_all-append (test x) xs ys ∙ (λ j. parts.0 j && over.0 j)) i && every-append xs ys parts.1 hy over.1 i

module _ (tokens : List Token) (number : ℕ) where
  -- whether the hit on one interval comes before the hit on another
  before : Interval → Interval → Bool
  before a b = comes_before (hit_on tokens number a) (hit_on tokens number b)

  on : ℕ → ℕ → Interval
  on from to = record { from = from; to = to }

  before-from : (a b c d : ℕ) → a < c → before (on a b) (on c d) ≡ true
  unfolding before on
  before-from a b c d less = grind (arith, nat_tests)

  before-to : (a b d : ℕ) → b < d → before (on a b) (on a d) ≡ true
  unfolding before on
  before-to a b d less = grind (arith, nat_tests)

  later_to : (a b c n : ℕ) → b < c → list_all (before (on a b)) (map (on a) (range_with_len c n)) ≡ true
  later_to a b c zero less = refl
  later_to a b c (suc n) less = let next : b < c + 1 = omega arith in λ i. before-to a b c less i && later_to a b (c + 1) n next i

  row-sorted : (a b n : ℕ) → every before (map (on a) (range_with_len b n)) ≡ true
  row-sorted a b zero = refl
  row-sorted a b (suc n) = let next : b < b + 1 = omega arith in λ i. later_to a b (b + 1) n next i && row-sorted a (b + 1) n i

  later_row : (a b c : ℕ) (ds : List ℕ) → a < c → list_all (before (on a b)) (map (on c) ds) ≡ true
  later_row a b c [] less = refl
  later_row a b c (d ∷ ds) less = λ i. before-from a b c d less i && later_row a b c ds less i

  module _ (row : ℕ → List ℕ) where
    rows : List ℕ → List Interval
    rows froms = flat_map (λ from. map (on from) (row from)) froms

    later_rows : (a b c n : ℕ) → a < c → list_all (before (on a b)) (rows (range_with_len c n)) ≡ true
    unfolding rows
    later_rows a b c zero less = refl
    later_rows a b c (suc n) less =
        let next : a < c + 1 = omega arith in
        list_all-append (before (on a b)) (map (on c) (row c)) (rows (range_with_len (c + 1) n))
        ∙ (λ i. later_row a b c (row c) less i && later_rows a b (c + 1) n next i)

    row_before_rows : (a c n : ℕ) (bs : List ℕ) → a < c → list_all (λ x. list_all (before x) (rows (range_with_len c n))) (map (on a) bs) ≡ true
    row_before_rows a c n [] less = refl
    row_before_rows a c n (b ∷ bs) less = λ i. later_rows a b c n less i && row_before_rows a c n bs less i

    rows-sorted : ((from : ℕ) → every before (map (on from) (row from)) ≡ true) → (c n : ℕ) → every before (rows (range_with_len c n)) ≡ true
    unfolding rows
    rows-sorted each c zero = refl
    rows-sorted each c (suc n) =
        let next : c < c + 1 = omega arith in
        every-append before (map (on c) (row c)) (rows (range_with_len (c + 1) n)) (each c) (rows-sorted each (c + 1) n) (row_before_rows c (c + 1) n (row c) next)

  intervals-sorted : (n : ℕ) → every before (intervals n) ≡ true
  unfolding rows on
  intervals-sorted n = rows-sorted (λ from. range_with_len from (suc n - from)) (λ from. row-sorted from from (suc n - from)) 1 n

  hits-all : (a : Interval) (xs : List Interval) → list_all (comes_before (hit_on tokens number a)) (map (hit_on tokens number) xs) ≡ list_all (before a) xs
  unfolding before
  hits-all a [] = refl
  hits-all a (x ∷ xs) = λ i. before a x && hits-all a xs i

  hits-every : (xs : List Interval) → every_two comes_before (map (hit_on tokens number) xs) ≡ every before xs
  hits-every [] = refl
  hits-every (x ∷ xs) = λ i. hits-all x xs i && hits-every xs i

pub hits_sorted : (lexicon : Lexicon) (options : Options) (number : ℕ) (phrase : List Item) (tokens : List Token) → is_sorted (hits lexicon options number phrase tokens) ≡ true
hits_sorted lexicon options number phrase tokens =
    hits-every tokens number (intervals_of lexicon options phrase tokens)
    ∙ every-filter (before tokens number) _ (intervals (length tokens)) (intervals-sorted tokens number (length tokens))
