-- The hits of a phrase in a part of a text are those of the text that lie in it, told in its numbers.
use Rattle.std.proofs.Common.{◌≡◌, refl, ap, sym, ◌∙◌, ℕ, zero, suc, ◌+◌, ◌-◌, ◌≤◌, List, [], ◌∷◌, Bool, true, false, ◌&&◌, cond, length, take, drop, arith, drop-drop, take-take, get_or, get_or-drop, get_or-take, length-take-le, length-drop}
use Rattle.std.specs.Prelude.{map, filter, flat_map, nat_lt, nat_le, Some, slice_get, option_map}
use Rattle.std.specs.List.{list_any, list_all, range_with_len}
use Rattle.std.specs.Option.{option_map_or}
use Rattle.std.proofs.lemmas.Bool.{and_parts}
use Rattle.std.proofs.lemmas.Bool.Decides.{nat_tests}
use Rattle.std.proofs.lemmas.List.{take-map, drop-map, drop-take, length-map}
use Rattle.std.proofs.lemmas.List.Folds.{list_all-append}
use Rattle.std.proofs.lemmas.Option.{slice_get-get_or, slice_get-map}
use Rattle.ft_base.specs.declared.hit.Hit.{Hit}
use Rattle.ft_base.specs.declared.span.Span.{Span}
use Rattle.ft_base.specs.declared.token.Token.{Token}
use Rattle.ft_base.specs.declared.options.Options.{Options}
use Rattle.all_matches.specs.Variants.{Item, any_word, word, pattern, Lexicon, variants}
use Rattle.all_matches.specs.Hits.{passes_item, stands_as, Interval, intervals, tokens_in, sentence_at, paragraph_at, hit_on, hits}
use Rattle.all_matches.specs.Spans.{renumbered, in_span, lies_in_span, told_in_span}
use Rattle.all_matches.proofs.ListTests.{list_any-alike}
use Rattle.all_matches.proofs.SpanIntervals.{inside, intervals_in}

-- ---- lists

filter_comm : {X : Type 0} (p q : X → Bool) (xs : List X) → filter p (filter q xs) ≡ filter q (filter p xs)
filter_comm p q [] = refl
filter_comm p q (x ∷ xs) = one (p x) (q x) refl refl (filter_comm p q xs)
  where
    one : (b c : Bool) → p x ≡ b → q x ≡ c → filter p (filter q xs) ≡ filter q (filter p xs)
        → filter p (cond c (x ∷ filter q xs) (filter q xs)) ≡ filter q (cond b (x ∷ filter p xs) (filter p xs))
    one true true e f rest =
        let right : filter q (x ∷ filter p xs) ≡ x ∷ filter q (filter p xs) = λ i. cond (f i) (x ∷ filter q (filter p xs)) (filter q (filter p xs)) in
        (λ i. cond (e i) (x ∷ filter p (filter q xs)) (filter p (filter q xs))) ∙ ap (λ ys. x ∷ ys) rest ∙ sym right
    one true false e f rest =
        let right : filter q (x ∷ filter p xs) ≡ filter q (filter p xs) = λ i. cond (f i) (x ∷ filter q (filter p xs)) (filter q (filter p xs)) in
        rest ∙ sym right
    one false true e f rest = (λ i. cond (e i) (x ∷ filter p (filter q xs)) (filter p (filter q xs))) ∙ rest
    one false false e f rest = rest

filter-mapped : {X Y : Type 0} (p : Y → Bool) (q : X → Bool) (f : X → Y) → ((x : X) → p (f x) ≡ q x) → (xs : List X) → filter p (map f xs) ≡ map f (filter q xs)
filter-mapped p q f same [] = refl
filter-mapped p q f same (x ∷ xs) =
    (λ i. cond (same x i) (f x ∷ filter-mapped p q f same xs i) (filter-mapped p q f same xs i)) ∙ one (q x)
  where
    one : (b : Bool) → cond b (f x ∷ map f (filter q xs)) (map f (filter q xs)) ≡ map f (cond b (x ∷ filter q xs) (filter q xs))
    one true = refl
    one false = refl

map-map : {X Y Z : Type 0} (g : Y → Z) (f : X → Y) (xs : List X) → map g (map f xs) ≡ map (λ x. g (f x)) xs
map-map g f [] = refl
map-map g f (x ∷ xs) = ap (λ ys. g (f x) ∷ ys) (map-map g f xs)

-- tests and values that agree where a third test holds
agree_on : {X Y : Type 0} (ok p q : X → Bool) (f g : X → Y) → ((x : X) → ok x ≡ true → p x ≡ q x) → ((x : X) → ok x ≡ true → f x ≡ g x)
    → (xs : List X) → list_all ok xs ≡ true → map f (filter p xs) ≡ map g (filter q xs)
agree_on ok p q f g tests values [] h = refl
agree_on ok p q f g tests values (x ∷ xs) h =
    let parts = and_parts (ok x) (list_all ok xs) h in
    (λ i. map f (cond (tests x parts.0 i) (x ∷ filter p xs) (filter p xs))) ∙ one (q x) (values x parts.0) (agree_on ok p q f g tests values xs parts.1)
  where
    one : (b : Bool) → f x ≡ g x → map f (filter p xs) ≡ map g (filter q xs) → map f (cond b (x ∷ filter p xs) (filter p xs)) ≡ map g (cond b (x ∷ filter q xs) (filter q xs))
    one true here rest = λ i. here i ∷ rest i
    one false here rest = rest

-- ---- the intervals of a text lie in it

module _ (m : ℕ) where
  abbrev valid : Interval → Bool
  valid i = nat_le 1 i.from && (nat_le i.from i.to && nat_le i.to m)

  valid-here : (a b : ℕ) → 1 ≤ a → a ≤ b → b ≤ m → valid (record { from = a; to = b }) ≡ true
  valid-here a b first order last = grind (arith, nat_tests)

  valid-row : (a b x : ℕ) → 1 ≤ a → a ≤ b → b + x ≤ suc m → list_all valid (map (λ to. record { from = a; to = to }) (range_with_len b x)) ≡ true
  valid-row a b zero first order last = refl
  valid-row a b (suc x) first order last = λ i. valid-here a b first order (omega arith) i && valid-row a (b + 1) x first (omega arith) (omega arith) i

  valid-rows : (b x : ℕ) → 1 ≤ b → b + x ≤ suc m → list_all valid (flat_map (λ from. map (λ to. record { from = from; to = to }) (range_with_len from (suc m - from))) (range_with_len b x)) ≡ true
  valid-rows b zero first last = refl
  valid-rows b (suc x) first last =
      let same : b ≤ b = omega arith in
      let fits : b + (suc m - b) ≤ suc m = omega arith in
      let next : 1 ≤ b + 1 = omega arith in
      let left : (b + 1) + x ≤ suc m = omega arith in
      list_all-append valid (map (λ to. record { from = b; to = to }) (range_with_len b (suc m - b))) (flat_map (λ from. map (λ to. record { from = from; to = to }) (range_with_len from (suc m - from))) (range_with_len (b + 1) x))
      ∙ (λ i. valid-row b b (suc m - b) first same fits i && valid-rows (b + 1) x next left i)

  all-valid : list_all valid (intervals m) ≡ true
  all-valid = let first : 1 ≤ 1 = omega arith in let last : 1 + m ≤ suc m = omega arith in valid-rows 1 m first last

  record Places (i : Interval) : Type 0 where
    first : 1 ≤ i.from
    order : i.from ≤ i.to
    last : i.to ≤ m

  places : (i : Interval) → valid i ≡ true → Places i
  places i h = record { first = grind (arith, nat_tests, h); order = grind (arith, nat_tests, h); last = grind (arith, nat_tests, h) }

-- ---- a part of a text

module _ (sentences paragraphs : ℕ → ℕ) (lexicon : Lexicon) (options : Options) where
  passes-same : (item : Item) (token : Token) → passes_item lexicon options item (renumbered sentences paragraphs token) ≡ passes_item lexicon options item token
  passes-same any_word token = refl
  passes-same (word w) token = refl
  passes-same (pattern p) token = refl

  stands-same : (items : List Item) (tokens : List Token) → stands_as lexicon options items (map (renumbered sentences paragraphs) tokens) ≡ stands_as lexicon options items tokens
  stands-same [] [] = refl
  stands-same [] (token ∷ tokens) = refl
  stands-same (item ∷ items) [] = refl
  stands-same (item ∷ items) (token ∷ tokens) = λ i. passes-same item token i && stands-same items tokens i

no_token : Token
no_token = record { word = []; sentence = 0; paragraph = 0 }

module _ (sentences paragraphs : ℕ → ℕ) (tokens : List Token) (k m : ℕ) (fits : k + m ≤ length tokens) where
  abbrev cut : List Token
  cut = map (renumbered sentences paragraphs) (take m (drop k tokens))

  size : length (take m (drop k tokens)) ≡ m
  size = let left = length-drop k tokens in length-take-le m (drop k tokens) (omega (arith, left))

  moved : Interval → Interval
  moved i = record { from = k + i.from; to = k + i.to }

  tokens-moved : (i : Interval) → Places m i → tokens_in cut i ≡ map (renumbered sentences paragraphs) (tokens_in tokens (moved i))
  unfolding moved
  tokens-moved i at =
      let first = at.first in
      let order = at.order in
      let last = at.last in
      let whole : m ≡ (i.from - 1) + (m - (i.from - 1)) = omega arith in
      let within : suc i.to - i.from ≤ m - (i.from - 1) = omega arith in
      let start : k + (i.from - 1) ≡ (k + i.from) - 1 = omega arith in
      let long : suc i.to - i.from ≡ suc (k + i.to) - (k + i.from) = omega arith in
      ap (take (suc i.to - i.from)) (drop-map (renumbered sentences paragraphs) (i.from - 1) (take m (drop k tokens)))
      ∙ take-map (renumbered sentences paragraphs) (suc i.to - i.from) (drop (i.from - 1) (take m (drop k tokens)))
      ∙ ap (map (renumbered sentences paragraphs)) (ap (λ w. take (suc i.to - i.from) (drop (i.from - 1) (take w (drop k tokens)))) whole
      ∙ ap (take (suc i.to - i.from)) (drop-take (i.from - 1) (m - (i.from - 1)) (drop k tokens))
      ∙ take-take (suc i.to - i.from) (m - (i.from - 1)) (drop (i.from - 1) (drop k tokens)) within
      ∙ ap (take (suc i.to - i.from)) (drop-drop (i.from - 1) k tokens)
      ∙ (λ j. take (long j) (drop (start j) tokens)))

  -- the token at a place of the part
  token_there : ℕ → Token
  token_there place = get_or tokens (k + (place - 1)) no_token

  found : (place : ℕ) → 1 ≤ place → place ≤ m → slice_get tokens ((k + place) - 1) ≡ Some (token_there place)
  unfolding token_there
  found place first last =
      let same : (k + place) - 1 ≡ k + (place - 1) = omega arith in
      ap (slice_get tokens) same ∙ slice_get-get_or tokens (k + (place - 1)) no_token (omega arith)

  found-cut : (place : ℕ) → 1 ≤ place → place ≤ m → slice_get cut (place - 1) ≡ Some (renumbered sentences paragraphs (token_there place))
  unfolding token_there
  found-cut place first last =
      let much = size in
      slice_get-map (renumbered sentences paragraphs) (take m (drop k tokens)) (place - 1)
      ∙ ap (option_map (renumbered sentences paragraphs)) (slice_get-get_or (take m (drop k tokens)) (place - 1) no_token (omega (arith, much))
      ∙ ap Some (get_or-take m (drop k tokens) (place - 1) no_token (omega arith) ∙ get_or-drop k tokens (place - 1) no_token))

  sentence-cut : (place : ℕ) → 1 ≤ place → place ≤ m → sentence_at cut place ≡ sentences (sentence_at tokens (k + place))
  sentence-cut place first last =
      ap (λ o. option_map_or (λ token. token.sentence) o 0) (found-cut place first last)
      ∙ sym (ap (λ o. sentences (option_map_or (λ token. token.sentence) o 0)) (found place first last))

  paragraph-cut : (place : ℕ) → 1 ≤ place → place ≤ m → paragraph_at cut place ≡ paragraphs (paragraph_at tokens (k + place))
  paragraph-cut place first last =
      ap (λ o. option_map_or (λ token. token.paragraph) o 0) (found-cut place first last)
      ∙ sym (ap (λ o. paragraphs (option_map_or (λ token. token.paragraph) o 0)) (found place first last))

  -- a hit of the text, told in the numbers of the part
  abbrev known : Hit → Hit
  known hit = record {
    query = hit.query;
    from = hit.from - k;
    to = hit.to - k;
    sent_from = sentences hit.sent_from;
    sent_to = sentences hit.sent_to;
    para_from = paragraphs hit.para_from;
    para_to = paragraphs hit.para_to;
    whole = hit.whole;
  }

  hit-cut : (number : ℕ) (i : Interval) → Places m i → hit_on cut number i ≡ known (hit_on tokens number (moved i))
  unfolding moved
  hit-cut number i at =
      let first = at.first in
      let order = at.order in
      let last = at.last in
      let second : 1 ≤ i.to = omega arith in
      let within : i.from ≤ m = omega arith in
      let from_same : i.from ≡ (k + i.from) - k = omega arith in
      let to_same : i.to ≡ (k + i.to) - k = omega arith in
      λ j. record {
        query = number;
        from = from_same j;
        to = to_same j;
        sent_from = sentence-cut i.from first within j;
        sent_to = sentence-cut i.to second last j;
        para_from = paragraph-cut i.from first within j;
        para_to = paragraph-cut i.to second last j;
        whole = true;
      }

same-tests : (f t a b : ℕ) → 1 ≤ f → f ≤ t → (nat_le f a && nat_lt b t) ≡ (nat_lt (f - 1) a && nat_le b ((f - 1) + ((t - 1) - (f - 1))))
same-tests f t a b first order =
    let left : nat_le f a ≡ nat_lt (f - 1) a = grind (arith, nat_tests) in
    let right : nat_lt b t ≡ nat_le b ((f - 1) + ((t - 1) - (f - 1))) = grind (arith, nat_tests) in
    λ i. left i && right i

pub hits_in_span : (lexicon : Lexicon) (options : Options) (number : ℕ) (phrase : List Item) (tokens : List Token) (span : Span) (sentences paragraphs : ℕ → ℕ)
    → 1 ≤ span.from → span.from ≤ span.to → span.to ≤ suc (length tokens)
    → hits lexicon options number phrase (map (renumbered sentences paragraphs) (in_span span tokens))
    ≡ map (told_in_span sentences paragraphs span) (filter (lies_in_span span) (hits lexicon options number phrase tokens))
unfolding moved
hits_in_span lexicon options number phrase tokens span sentences paragraphs first order last =
    let k = span.from - 1 in
    let m = (span.to - 1) - (span.from - 1) in
    let fits : (span.from - 1) + ((span.to - 1) - (span.from - 1)) ≤ length tokens = omega arith in
    let part = map (renumbered sentences paragraphs) (in_span span tokens) in
    let stands = λ (ts : List Token) (i : Interval). list_any (λ variant. stands_as lexicon options variant (tokens_in ts i)) (variants lexicon options phrase) in
    let there = moved sentences paragraphs tokens k m fits in
    let on = hit_on tokens number in
    ap (λ l. map (hit_on part number) (filter (stands part) (intervals l))) (length-map (in_span span tokens) (renumbered sentences paragraphs) ∙ size sentences paragraphs tokens k m fits)
    ∙ agree_on (valid m) (stands part) (λ i. stands tokens (there i)) (hit_on part number) (λ i. told_in_span sentences paragraphs span (on (there i)))
    (λ i h. (λ j. list_any (λ variant. stands_as lexicon options variant (tokens-moved sentences paragraphs tokens k m fits i (places m i h) j)) (variants lexicon options phrase))
    ∙ list_any-alike (λ variant. stands_as lexicon options variant (map (renumbered sentences paragraphs) (tokens_in tokens (there i)))) (λ variant. stands_as lexicon options variant (tokens_in tokens (there i))) (variants lexicon options phrase)
    (λ variant. stands-same sentences paragraphs lexicon options variant (tokens_in tokens (there i))))
    (λ i h. hit-cut sentences paragraphs tokens k m fits number i (places m i h))
    (intervals m) (all-valid m)
    ∙ sym (map-map (told_in_span sentences paragraphs span) (λ i. on (there i)) (filter (λ i. stands tokens (there i)) (intervals m)))
    ∙ ap (map (told_in_span sentences paragraphs span)) (
    sym (map-map on there (filter (λ i. stands tokens (there i)) (intervals m)))
    ∙ ap (map on) (
    sym (filter-mapped (stands tokens) (λ i. stands tokens (there i)) there (λ x. refl) (intervals m))
    ∙ ap (filter (stands tokens)) (sym (intervals_in (length tokens) k m fits))
    ∙ filter_comm (stands tokens) (inside (length tokens) k m) (intervals (length tokens)))
    ∙ sym (filter-mapped (lies_in_span span) (inside (length tokens) k m) on (λ i. same-tests span.from span.to i.from i.to first order) (filter (stands tokens) (intervals (length tokens)))))
