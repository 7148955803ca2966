-- A selection that asks for a hit has an include in each of its Matches.
use Rattle.std.proofs.Common.{◌≡◌, refl, ap, ◌∙◌, ℕ, zero, suc, ◌+◌, List, [], ◌∷◌, ◌++◌, Bool, true, false, ◌&&◌, ◌||◌}
use Rattle.std.specs.Prelude.{map, fold, nat_lt, if◌then◌else◌, Option, Some, None}
use Rattle.std.specs.List.{list_any, list_all}
use Rattle.std.proofs.lemmas.Bool.{and_parts}
use Rattle.std.proofs.lemmas.List.Folds.{list_all-append}
use Rattle.ft_base.specs.Lists.{is_empty, is_not_empty}
use Rattle.ft_base.specs.declared.token.Token.{Token}
use Rattle.ft_base.specs.declared.hit.Hit.{Hit}
use Rattle.ft_base.specs.declared.hit.Match.{Match}
use Rattle.ft_base.specs.declared.options.Options.{Options}
use Rattle.ft_base.specs.declared.range.Range.{Range}
use Rattle.ft_base.specs.declared.range.Range.TheVariants.{Exactly, AtLeast, AtMost, FromTo}
use Rattle.ft_base.specs.declared.words.Words.{Words}
use Rattle.ft_base.specs.declared.words.Mode.{Mode}
use Rattle.ft_base.specs.declared.words.Mode.TheVariants.{Any, AnyWord, All, AllWords, Phrase}
use Rattle.ft_base.specs.Selection.{Form, Forms, words, or_of, and_of, mild_not, not_of, filtered, with_options, none, more}
use Rattle.all_matches.specs.Variants.{Item, Lexicon}
use Rattle.all_matches.specs.Hits.{hits, match_of_hit}
use Rattle.all_matches.specs.Boolean.{empty_match, both, ft_or, ft_and, ft_not}
use Rattle.all_matches.specs.Times.{at_least, between, occurring}
use Rattle.all_matches.specs.Meaning.{inside, phrases_by, strings_of, each_phrase, joined_by, value_matches, phrase_count, all_matches, each_form}
use Rattle.counted_shapes.specs.Held.{takes_one, needs_one, needs_hit, each_needs_hit, some_needs_hit}

abbrev pub has_include : Match → Bool
has_include m = is_not_empty m.includes

abbrev pub all_have : List Match → Bool
all_have ms = list_all has_include ms

first_has : (xs ys : List Hit) → is_not_empty xs ≡ true → is_not_empty (xs ++ ys) ≡ true
first_has [] ys h = cc
first_has (x ∷ xs) ys h = refl

second_has : (xs ys : List Hit) → is_not_empty ys ≡ true → is_not_empty (xs ++ ys) ≡ true
second_has [] ys h = h
second_has (x ∷ xs) ys h = refl

have-append : (xs ys : List Match) → all_have xs ≡ true → all_have ys ≡ true → all_have (xs ++ ys) ≡ true
have-append xs ys hx hy = list_all-append has_include xs ys ∙ (λ i. hx i && hy i)

-- what has an include on one side has one
have-map_first : (a : Match) (ms : List Match) → has_include a ≡ true → all_have (map (both a) ms) ≡ true
have-map_first a [] h = refl
have-map_first a (m ∷ rest) h = λ i. first_has a.includes m.includes h i && have-map_first a rest h i

have-map_second : (a : Match) (ms : List Match) → all_have ms ≡ true → all_have (map (both a) ms) ≡ true
have-map_second a [] h = refl
have-map_second a (m ∷ rest) h =
    let parts = and_parts (has_include m) (all_have rest) h in
    λ i. second_has a.includes m.includes parts.0 i && have-map_second a rest parts.1 i

have-and_first : (left right : List Match) → all_have left ≡ true → all_have (ft_and left right) ≡ true
have-and_first [] right h = refl
have-and_first (a ∷ rest) right h =
    let parts = and_parts (has_include a) (all_have rest) h in
    have-append (map (both a) right) (ft_and rest right) (have-map_first a right parts.0) (have-and_first rest right parts.1)

have-and_second : (left right : List Match) → all_have right ≡ true → all_have (ft_and left right) ≡ true
have-and_second [] right h = refl
have-and_second (a ∷ rest) right h = have-append (map (both a) right) (ft_and rest right) (have-map_second a right h) (have-and_second rest right h)

-- Or of operands that all have, And of operands of which one has
have-or_of : (acc : List Match) (operands : List (List Match)) → all_have acc ≡ true → list_all all_have operands ≡ true → all_have (fold ft_or acc operands) ≡ true
have-or_of acc [] ha ho = ha
have-or_of acc (a ∷ rest) ha ho =
    let parts = and_parts (all_have a) (list_all all_have rest) ho in
    have-or_of (ft_or acc a) rest (have-append acc a ha parts.0) parts.1

have-and_kept : (acc : List Match) (operands : List (List Match)) → all_have acc ≡ true → all_have (fold ft_and acc operands) ≡ true
have-and_kept acc [] h = h
have-and_kept acc (a ∷ rest) h = have-and_kept (ft_and acc a) rest (have-and_first acc a h)

have-and_of : (acc : List Match) (operands : List (List Match)) → list_any all_have operands ≡ true → all_have (fold ft_and acc operands) ≡ true
have-and_of acc [] h = cc
have-and_of acc (a ∷ rest) h = one (all_have a) refl h (have-and_of (ft_and acc a) rest)
  where
    one : (b : Bool) → all_have a ≡ b → (b || list_any all_have rest) ≡ true
        → (list_any all_have rest ≡ true → all_have (fold ft_and (ft_and acc a) rest) ≡ true) → all_have (fold ft_and (ft_and acc a) rest) ≡ true
    one true e h further = have-and_kept (ft_and acc a) rest (have-and_second acc a e)
    one false e h further = further h

-- a choice of at least one Match
have-at_least : (k : ℕ) (ms : List Match) → nat_lt 0 k ≡ true → all_have ms ≡ true → all_have (at_least k ms) ≡ true
have-at_least zero ms k h = cc
have-at_least (suc k) [] more_than h = refl
have-at_least (suc k) (m ∷ rest) more_than h =
    let parts = and_parts (has_include m) (all_have rest) h in
    have-append (map (both m) (at_least k rest)) (at_least (suc k) rest) (have-map_first m (at_least k rest) parts.0) (have-at_least (suc k) rest more_than parts.1)

have-cond : (b : Bool) (ms : List Match) → all_have ms ≡ true → all_have (if b then [] else ms) ≡ true
have-cond true ms h = refl
have-cond false ms h = h

have-between : (low high : ℕ) (ms : List Match) → nat_lt 0 low ≡ true → all_have ms ≡ true → all_have (between low high ms) ≡ true
have-between low high ms k h =
    have-cond (nat_lt high low) (ft_and (at_least low ms) (ft_not (at_least (suc high) ms)))
    (have-and_first (at_least low ms) (ft_not (at_least (suc high) ms)) (have-at_least low ms k h))

have-occurring : (times : Option Range) (ms : List Match) → needs_one times ≡ true → all_have ms ≡ true → all_have (occurring times ms) ≡ true
have-occurring None ms k h = h
have-occurring (Some (Exactly n)) ms k h = have-between n n ms k h
have-occurring (Some (AtLeast n)) ms k h = have-at_least n ms k h
have-occurring (Some (AtMost n)) ms k h = cc
have-occurring (Some (FromTo low high)) ms k h = have-between low high ms k h

-- ---- words

have-hits : (found : List Hit) → all_have (map match_of_hit found) ≡ true
have-hits [] = refl
have-hits (hit ∷ rest) = have-hits rest

have-phrases : (lexicon : Lexicon) (options : Options) (first : ℕ) (phrases : List (List Item)) (tokens : List Token)
    → list_all all_have (each_phrase lexicon options first phrases tokens) ≡ true
have-phrases lexicon options first [] tokens = refl
have-phrases lexicon options first (phrase ∷ rest) tokens =
    λ i. have-hits (hits lexicon options first phrase tokens) i && have-phrases lexicon options (first + 1) rest tokens i

have-joined : (mode : Mode) (operands : List (List Match)) → takes_one mode ≡ true → list_all all_have operands ≡ true → all_have (joined_by mode operands) ≡ true
have-joined Any operands t h = have-or_of [] operands refl h
have-joined AnyWord operands t h = have-or_of [] operands refl h
have-joined All operands t h = cc
have-joined AllWords operands t h = cc
have-joined Phrase operands t h = have-or_of [] operands refl h

have-value : (lexicon : Lexicon) (options : Options) (first : ℕ) (value : Words) (tokens : List Token) → takes_one value.mode ≡ true
    → all_have (value_matches lexicon options first value tokens) ≡ true
have-value lexicon options first value tokens t =
    have-cond (list_all is_empty (strings_of lexicon options value))
    (joined_by value.mode (each_phrase lexicon options first (phrases_by value.mode (strings_of lexicon options value)) tokens))
    (have-joined value.mode (each_phrase lexicon options first (phrases_by value.mode (strings_of lexicon options value)) tokens) t
    (have-phrases lexicon options first (phrases_by value.mode (strings_of lexicon options value)) tokens))

-- ---- selections

mutual
  unfolding all_matches needs_hit

  pub have-form : (lexicon : Lexicon) (options : Options) (first : ℕ) (tokens : List Token) (form : Form) → needs_hit form ≡ true
      → all_have (all_matches lexicon options first tokens form) ≡ true
  have-form lexicon options first tokens (words value) h =
      let parts = and_parts (takes_one value.mode) (needs_one value.times) h in
      have-occurring value.times (value_matches lexicon (inside value.options options) first value tokens) parts.1
      (have-value lexicon (inside value.options options) first value tokens parts.0)
  have-form lexicon options first tokens (or_of forms) h = have-or_of [] (each_form lexicon options first tokens forms) refl (have-each lexicon options first tokens forms h)
  have-form lexicon options first tokens (and_of forms) h =
      have-and_of (empty_match ∷ []) (each_form lexicon options first tokens forms) (have-some lexicon options first tokens forms h)
  have-form lexicon options first tokens (mild_not left right) h = cc
  have-form lexicon options first tokens (not_of form) h = cc
  have-form lexicon options first tokens (filtered form kind) h = cc
  have-form lexicon options first tokens (with_options form inner) h = have-form lexicon (inside inner options) first tokens form h

  have-each : (lexicon : Lexicon) (options : Options) (first : ℕ) (tokens : List Token) (forms : Forms) → each_needs_hit forms ≡ true
      → list_all all_have (each_form lexicon options first tokens forms) ≡ true
  have-each lexicon options first tokens none h = refl
  have-each lexicon options first tokens (more form rest) h =
      let parts = and_parts (needs_hit form) (each_needs_hit rest) h in
      λ i. have-form lexicon options first tokens form parts.0 i && have-each lexicon options (first + phrase_count lexicon options form) tokens rest parts.1 i

  have-some : (lexicon : Lexicon) (options : Options) (first : ℕ) (tokens : List Token) (forms : Forms) → some_needs_hit forms ≡ true
      → list_any all_have (each_form lexicon options first tokens forms) ≡ true
  have-some lexicon options first tokens none h = cc
  have-some lexicon options first tokens (more form rest) h =
      one_has (needs_hit form) (all_have (all_matches lexicon options first tokens form)) (some_needs_hit rest)
      (list_any all_have (each_form lexicon options (first + phrase_count lexicon options form) tokens rest))
      h (have-form lexicon options first tokens form) (have-some lexicon options (first + phrase_count lexicon options form) tokens rest)
    where
      one_has : (a b c d : Bool) → (a || c) ≡ true → (a ≡ true → b ≡ true) → (c ≡ true → d ≡ true) → (b || d) ≡ true
      one_has true b c d h f g = ap (λ x. x || d) (f refl)
      one_has false true c d h f g = refl
      one_has false false c d h f g = g h
