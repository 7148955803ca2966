-- The number of the Matches of a value, and of the hits of a phrase.
use Rattle.std.proofs.Common.{◌≡◌, refl, sym, ap, ◌∙◌, ℕ, zero, suc, ◌+◌, ◌-◌, ◌*◌, List, [], ◌∷◌, ◌++◌, Bool, true, false, cond, length, take, drop, arith, length-append, sum, zero-add}
use Rattle.std.specs.Prelude.{map, flat_map, fold}
use Rattle.std.specs.List.{list_any, list_all, count_by, sum_by, range_with_len}
use Rattle.std.proofs.Math.Nat.{suc-mul, mul_assoc, one-mul}
use Rattle.std.proofs.lemmas.List.Sums.{length-filter, sum_by-cons, sum_by-append}
use Rattle.std.proofs.lemmas.List.{length-map}
use Rattle.std.proofs.Math.Numerals.{one-add}
use Rattle.ft_base.specs.Lists.{is_empty}
use Rattle.ft_base.specs.declared.token.Token.{Token}
use Rattle.ft_base.specs.declared.hit.Match.{Match}
use Rattle.ft_base.specs.declared.options.Options.{Options}
use Rattle.ft_base.specs.declared.words.Words.{Words}
use Rattle.ft_base.specs.declared.words.Mode.{Mode}
use Rattle.ft_base.specs.declared.words.Mode.TheVariants.{Any, AnyWord, All, AllWords, Phrase}
use Rattle.all_matches.specs.Variants.{Item, Lexicon, variants}
use Rattle.all_matches.specs.Hits.{stands_as, Interval, intervals, tokens_in, intervals_of, hits, hit_on, match_of_hit}
use Rattle.all_matches.specs.Boolean.{empty_match, both, ft_or, ft_and}
use Rattle.all_matches.specs.Meaning.{phrases_by, strings_of, each_phrase, joined_by}
use Rattle.all_matches.specs.Compositional.{occurrences}
use Rattle.all_matches.specs.Counting.{product, joined_count, hit_count, value_count}

-- ---- sums and products

length-pairs : (left right : List Match) → length (ft_and left right) ≡ length left * length right
length-pairs [] right = omega arith
length-pairs (a ∷ rest) right =
    let this = length-append (map (both a) right) (ft_and rest right) in
    let row = length-map right (both a) in
    let further = length-pairs rest right in
    let product_of = suc-mul (length rest) (length right) in
    omega arith

counts : List (List Match) → List ℕ
counts operands = map length operands

length-or_of : (acc : List Match) (operands : List (List Match)) → length (fold ft_or acc operands) ≡ length acc + sum (counts operands)
unfolding counts
length-or_of acc [] = omega arith
length-or_of acc (a ∷ rest) =
    let grown = length-append acc a in
    let further = length-or_of (acc ++ a) rest in
    let split = sum_by-cons (λ n. n) (length a) (map length rest) in
    omega (arith, grown, further, split)

length-and_of : (acc : List Match) (operands : List (List Match)) → length (fold ft_and acc operands) ≡ length acc * product (counts operands)
unfolding counts
length-and_of acc [] = omega arith
length-and_of acc (a ∷ rest) = length-and_of (ft_and acc a) rest ∙ ap (λ n. n * product (map length rest)) (length-pairs acc a) ∙ mul_assoc (length acc) (length a) (product (map length rest))

joined-counts : (mode : Mode) (operands : List (List Match)) → length (joined_by mode operands) ≡ joined_count mode (counts operands)
joined-counts Any operands = length-or_of [] operands ∙ zero-add (sum (counts operands))
joined-counts AnyWord operands = length-or_of [] operands ∙ zero-add (sum (counts operands))
joined-counts All operands = length-and_of (empty_match ∷ []) operands ∙ one-mul (product (counts operands))
joined-counts AllWords operands = length-and_of (empty_match ∷ []) operands ∙ one-mul (product (counts operands))
joined-counts Phrase operands = length-or_of [] operands ∙ zero-add (sum (counts operands))

phrase_counts : (lexicon : Lexicon) (options : Options) (first : ℕ) (phrases : List (List Item)) (tokens : List Token)
    → counts (each_phrase lexicon options first phrases tokens) ≡ map (hit_count lexicon options tokens) phrases
unfolding counts
phrase_counts lexicon options first [] tokens = refl
phrase_counts lexicon options first (phrase ∷ rest) tokens =
    λ i. (length-map (hits lexicon options first phrase tokens) match_of_hit ∙ length-map (intervals_of lexicon options phrase tokens) (hit_on tokens first)) i
    ∷ phrase_counts lexicon options (first + 1) rest tokens i

length-cond : {X : Type 0} (b : Bool) (xs ys : List X) (m n : ℕ) → length xs ≡ m → length ys ≡ n → length (cond b xs ys) ≡ cond b m n
length-cond true xs ys m n hx hy = hx
length-cond false xs ys m n hx hy = hy

pub value_occurrences : (lexicon : Lexicon) (options : Options) (value : Words) (tokens : List Token) → occurrences lexicon options value tokens ≡ value_count lexicon options value tokens
value_occurrences lexicon options value tokens =
    length-cond (list_all is_empty (strings_of lexicon options value)) [] (joined_by value.mode (each_phrase lexicon options 1 (phrases_by value.mode (strings_of lexicon options value)) tokens)) 0 _ refl
    (joined-counts value.mode (each_phrase lexicon options 1 (phrases_by value.mode (strings_of lexicon options value)) tokens)
    ∙ ap (joined_count value.mode) (phrase_counts lexicon options 1 (phrases_by value.mode (strings_of lexicon options value)) tokens))

-- ---- places

pub count_by-cons : {X : Type 0} (p : X → Bool) (x : X) (xs : List X) → count_by p (x ∷ xs) ≡ cond (p x) 1 0 + count_by p xs
count_by-cons p x xs = sum_by-cons (λ y. cond (p y) 1 0) x xs

count_by-map : {X Y : Type 0} (p : Y → Bool) (f : X → Y) (xs : List X) → count_by p (map f xs) ≡ count_by (λ x. p (f x)) xs
count_by-map p f [] = refl
count_by-map p f (x ∷ xs) = count_by-cons p (f x) (map f xs) ∙ ap (λ n. cond (p (f x)) 1 0 + n) (count_by-map p f xs) ∙ sym (count_by-cons (λ y. p (f y)) x xs)

count_by-append : {X : Type 0} (p : X → Bool) (xs ys : List X) → count_by p (xs ++ ys) ≡ count_by p xs + count_by p ys
count_by-append p xs ys = sum_by-append (λ y. cond (p y) 1 0) xs ys

pub count_by-alike : {X : Type 0} (p q : X → Bool) (xs : List X) → ((x : X) → p x ≡ q x) → count_by p xs ≡ count_by q xs
count_by-alike p q [] same = refl
count_by-alike p q (x ∷ xs) same = count_by-cons p x xs ∙ (λ i. cond (same x i) 1 0 + count_by-alike p q xs same i) ∙ sym (count_by-cons q x xs)

pub count_by-never : {X : Type 0} (xs : List X) → count_by (λ x. false) xs ≡ 0
count_by-never [] = refl
count_by-never (x ∷ xs) = count_by-cons (λ y. false) x xs ∙ zero-add (count_by (λ y. false) xs) ∙ count_by-never xs

-- ---- intervals

-- numbers from a place on are those from 0 on, moved
moved : (b n : ℕ) → range_with_len b n ≡ map (λ k. b + k) (range_with_len 0 n)
moved b zero = refl
moved b (suc n) = further (moved (b + 1) n) (moved 1 n)
  where
    shifted : (ks : List ℕ) → map (λ k. (b + 1) + k) ks ≡ map (λ k. b + k) (map (λ k. 1 + k) ks)
    shifted [] = refl
    shifted (k ∷ ks) = let one : (b + 1) + k ≡ b + (1 + k) = omega arith in λ i. one i ∷ shifted ks i

    further : range_with_len (b + 1) n ≡ map (λ k. (b + 1) + k) (range_with_len 0 n) → range_with_len 1 n ≡ map (λ k. 1 + k) (range_with_len 0 n) → range_with_len b (suc n) ≡ map (λ k. b + k) (range_with_len 0 (suc n))
    further here one = let first : b ≡ b + 0 = omega arith in λ i. first i ∷ (here ∙ shifted (range_with_len 0 n) ∙ ap (map (λ k. b + k)) (sym one)) i

count_by-flat_map : {X Y : Type 0} (p : Y → Bool) (f : X → List Y) (xs : List X) → count_by p (flat_map f xs) ≡ sum_by (λ x. count_by p (f x)) xs
count_by-flat_map p f [] = refl
count_by-flat_map p f (x ∷ xs) = count_by-append p (f x) (flat_map f xs) ∙ ap (λ n. count_by p (f x) + n) (count_by-flat_map p f xs) ∙ sym (sum_by-cons (λ y. count_by p (f y)) x xs)

-- the first number, and those after it
pub first_number : (q : ℕ → Bool) (m : ℕ) → count_by q (range_with_len 0 (suc m)) ≡ cond (q 0) 1 0 + count_by (λ k. q (suc k)) (range_with_len 0 m)
first_number q m =
    count_by-cons q 0 (range_with_len 1 m)
    ∙ ap (λ n. cond (q 0) 1 0 + n) (ap (count_by q) (moved 1 m) ∙ count_by-map q (λ k. 1 + k) (range_with_len 0 m)
    ∙ count_by-alike (λ k. q (1 + k)) (λ k. q (suc k)) (range_with_len 0 m) (λ k. ap q (one-add k)))

module _ (lexicon : Lexicon) (options : Options) (stood : List (List Item)) where
  -- whether one of the lists of items stands on the tokens
  unfoldable pub stands_here : List Token → Bool
  stands_here tokens = list_any (λ items. stands_as lexicon options items tokens) stood

  -- on how many prefixes of a list, but for the empty one
  unfoldable pub prefixes : List Token → ℕ
  prefixes tokens = count_by (λ j. stands_here (take (suc j) tokens)) (range_with_len 0 (length tokens))

  -- on how many prefixes of what is left from each place on
  unfoldable pub all_prefixes : List Token → ℕ
  all_prefixes [] = 0
  all_prefixes (token ∷ tokens) = prefixes (token ∷ tokens) + all_prefixes tokens

  module _ (tokens : List Token) where
    from_place : ℕ → List Interval
    from_place from = map (λ to. record { from = from; to = to }) (range_with_len from (suc (length tokens) - from))

    fits : Interval → Bool
    fits interval = list_any (λ items. stands_as lexicon options items (tokens_in tokens interval)) stood

    -- the intervals from a place on
    from_here : (k : ℕ) (rest : List Token) → drop k tokens ≡ rest → length tokens ≡ k + length rest → count_by fits (from_place (suc k)) ≡ prefixes rest
    unfolding fits from_place stands_here prefixes
    from_here k rest split size =
        let many : suc (length tokens) - suc k ≡ length rest = omega arith in
        count_by-map fits (λ to. record { from = suc k; to = to }) (range_with_len (suc k) (suc (length tokens) - suc k))
        ∙ ap (λ m. count_by (λ to. fits (record { from = suc k; to = to })) (range_with_len (suc k) m)) many
        ∙ ap (count_by (λ to. fits (record { from = suc k; to = to }))) (moved (suc k) (length rest))
        ∙ count_by-map (λ to. fits (record { from = suc k; to = to })) (λ j. suc k + j) (range_with_len 0 (length rest))
        ∙ count_by-alike (λ j. fits (record { from = suc k; to = suc k + j })) (λ j. stands_here (take (suc j) rest)) (range_with_len 0 (length rest)) one_interval
      where
        one_interval : (j : ℕ) → fits (record { from = suc k; to = suc k + j }) ≡ stands_here (take (suc j) rest)
        one_interval j =
            let long : suc (suc k + j) - suc k ≡ suc j = omega arith in
            let start : suc k - 1 ≡ k = omega arith in
            (λ i. stands_here (take (long i) (drop (start i) tokens)))
            ∙ ap (λ xs. stands_here (take (suc j) xs)) split

    all_places : (k : ℕ) (rest : List Token) → drop k tokens ≡ rest → length tokens ≡ k + length rest
        → sum_by (λ from. count_by fits (from_place from)) (range_with_len (suc k) (length rest)) ≡ all_prefixes rest
    unfolding all_prefixes
    all_places k [] split size = refl
    all_places k (token ∷ rest) split size =
        let next : suc k + 1 ≡ suc (suc k) = omega arith in
        let left : length tokens ≡ suc k + length rest = omega arith in
        sum_by-cons (λ from. count_by fits (from_place from)) (suc k) (range_with_len (suc k + 1) (length rest))
        ∙ (λ i. from_here k (token ∷ rest) split size i
        + (ap (λ from. sum_by (λ f. count_by fits (from_place f)) (range_with_len from (length rest))) next ∙ all_places (suc k) rest (after k tokens split) left) i)
      where
        after : (k : ℕ) (ts : List Token) → drop k ts ≡ token ∷ rest → drop (suc k) ts ≡ rest
        after zero [] e = cc
        after zero (t ∷ ts) e = cc
        after (suc k) [] e = cc
        after (suc k) (t ∷ ts) e = after k ts e

-- the hits of a phrase are on prefixes of what is left from each place on
pub hits_on_prefixes : (lexicon : Lexicon) (options : Options) (phrase : List Item) (tokens : List Token) → hit_count lexicon options tokens phrase ≡ all_prefixes lexicon options (variants lexicon options phrase) tokens
unfolding fits from_place
hits_on_prefixes lexicon options phrase tokens =
    let stood = variants lexicon options phrase in
    length-filter (fits lexicon options stood tokens) (intervals (length tokens))
    ∙ count_by-flat_map (fits lexicon options stood tokens) (from_place lexicon options stood tokens) (range_with_len 1 (length tokens))
    ∙ all_places lexicon options stood tokens 0 tokens refl (sym (zero-add (length tokens)))
