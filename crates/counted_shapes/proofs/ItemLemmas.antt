-- A counted shape holds in a field exactly where each of its items has enough there.
use Rattle.std.proofs.Common.{◌≡◌, refl, ap, sym, ◌∙◌, ℕ, suc, ◌+◌, List, [], ◌∷◌, ◌++◌, Bool, true, false, not, ◌&&◌, ◌||◌, length, arith, append_assoc}
use Rattle.std.specs.Prelude.{map, filter, fold, cond, nat_le, nat_lt, Option, Some, None}
use Rattle.std.specs.List.{list_any, list_all}
use Rattle.std.proofs.lemmas.Bool.{and_parts}
use Rattle.std.proofs.lemmas.Bool.Decides.{nat_tests}
use Rattle.std.proofs.lemmas.List.{append-nil, map-append}
use Rattle.std.proofs.lemmas.List.Folds.{list_any-append, list_all-append}
use Rattle.std.proofs.Math.Bool.{and-true, or-false}
use Rattle.ft_base.specs.Lists.{is_empty}
use Rattle.ft_base.specs.declared.token.Token.{Token}
use Rattle.ft_base.specs.declared.hit.Hit.{Hit}
use Rattle.ft_base.specs.declared.hit.Match.{Match}
use Rattle.ft_base.specs.declared.options.Options.{Options}
use Rattle.ft_base.specs.declared.range.Range.{Range}
use Rattle.ft_base.specs.declared.range.Range.TheVariants.{Exactly, AtLeast, AtMost, FromTo}
use Rattle.ft_base.specs.declared.words.Words.{Words}
use Rattle.ft_base.specs.declared.words.Mode.{Mode}
use Rattle.ft_base.specs.declared.words.Mode.TheVariants.{Any, AnyWord, All, AllWords, Phrase}
use Rattle.ft_base.specs.Selection.{Form, Forms, words, or_of, and_of, mild_not, not_of, filtered, with_options, none, more}
use Rattle.all_matches.specs.Allowed.{has_no_range}
use Rattle.all_matches.specs.Variants.{Item, Lexicon}
use Rattle.all_matches.specs.Hits.{hits, match_of_hit}
use Rattle.all_matches.specs.Boolean.{ft_or, ft_or_of}
use Rattle.all_matches.specs.Compositional.{enough}
use Rattle.all_matches.specs.Meaning.{inside, phrases_by, strings_of, each_phrase, joined_by, value_matches}
use Rattle.counted_shapes.specs.Fields.{made_in}
use Rattle.counted_shapes.specs.Held.{count_in, holds_in, each_holds_in, is_boolean, are_boolean, takes_one, needs_one, needs_hit, some_needs_hit}
use Rattle.counted_shapes.specs.Shapes.{is_at_most, has_enough, phrase_hits, value_hits, least_times, most_times, is_bare, bare_hits, is_shape, are_shapes, items_of, items_of_each}

-- ---- the Matches of a value are those of its hits

hits_joined : (lexicon : Lexicon) (options : Options) (tokens : List Token) (acc : List Match) (first : ℕ) (phrases : List (List Item))
    → fold ft_or acc (each_phrase lexicon options first phrases tokens) ≡ acc ++ map match_of_hit (phrase_hits lexicon options first phrases tokens)
hits_joined lexicon options tokens acc first [] = sym (append-nil acc)
hits_joined lexicon options tokens acc first (phrase ∷ rest) =
    hits_joined lexicon options tokens (acc ++ map match_of_hit (hits lexicon options first phrase tokens)) (first + 1) rest
    ∙ append_assoc acc (map match_of_hit (hits lexicon options first phrase tokens)) (map match_of_hit (phrase_hits lexicon options (first + 1) rest tokens))
    ∙ ap (λ ms. acc ++ ms) (sym (map-append match_of_hit (hits lexicon options first phrase tokens) (phrase_hits lexicon options (first + 1) rest tokens)))

one_of_phrases : (mode : Mode) (operands : List (List Match)) → takes_one mode ≡ true → joined_by mode operands ≡ ft_or_of operands
one_of_phrases Any operands t = refl
one_of_phrases AnyWord operands t = refl
one_of_phrases All operands t = cc
one_of_phrases AllWords operands t = cc
one_of_phrases Phrase operands t = refl

matches-cond : (b : Bool) (ms : List Match) (found : List Hit) → ms ≡ map match_of_hit found → cond b [] ms ≡ map match_of_hit (cond b [] found)
matches-cond true ms found e = refl
matches-cond false ms found e = e

value_found : (lexicon : Lexicon) (options : Options) (value : Words) (tokens : List Token) → takes_one value.mode ≡ true
    → value_matches lexicon options 1 value tokens ≡ map match_of_hit (value_hits lexicon options value tokens)
value_found lexicon options value tokens t =
    matches-cond (list_all is_empty (strings_of lexicon options value))
    (joined_by value.mode (each_phrase lexicon options 1 (phrases_by value.mode (strings_of lexicon options value)) tokens))
    (phrase_hits lexicon options 1 (phrases_by value.mode (strings_of lexicon options value)) tokens)
    (one_of_phrases value.mode (each_phrase lexicon options 1 (phrases_by value.mode (strings_of lexicon options value)) tokens) t
    ∙ hits_joined lexicon options tokens [] 1 (phrases_by value.mode (strings_of lexicon options value)))

-- ---- bounds

bounds : (times : Option Range) (n : ℕ) → enough times n ≡ (nat_le (least_times times) n && is_at_most (most_times times) n)
bounds None n = grind (arith, nat_tests)
bounds (Some (Exactly k)) n = grind (arith, nat_tests)
bounds (Some (AtLeast k)) n = sym (and-true (nat_le k n))
bounds (Some (AtMost k)) n = grind (arith, nat_tests)
bounds (Some (FromTo low high)) n = refl

none_there : (n : ℕ) → not (nat_lt 0 n) ≡ (nat_le 0 n && nat_le n 0)
none_there n = grind (arith, nat_tests)

-- an item asks for a hit where its range does
needs_least : (times : Option Range) → needs_one times ≡ nat_lt 0 (least_times times)
needs_least None = refl
needs_least (Some (Exactly k)) = refl
needs_least (Some (AtLeast k)) = refl
needs_least (Some (AtMost k)) = refl
needs_least (Some (FromTo low high)) = refl

bare_times : (times : Option Range) → has_no_range times ≡ true → times ≡ None
bare_times None h = refl
bare_times (Some range) h = cc

-- ---- selections in a field

module _ (field : Hit → Bool) where
  counted_hits : (found : List Hit) → length (filter (made_in field) (map match_of_hit found)) ≡ length (filter field found)
  counted_hits [] = refl
  counted_hits (hit ∷ rest) = alone (field hit) ∙ one (field hit) (counted_hits rest)
    where
      alone : (b : Bool) → length (cond ((b && true) && true) (match_of_hit hit ∷ filter (made_in field) (map match_of_hit rest)) (filter (made_in field) (map match_of_hit rest)))
          ≡ length (cond b (match_of_hit hit ∷ filter (made_in field) (map match_of_hit rest)) (filter (made_in field) (map match_of_hit rest)))
      alone true = refl
      alone false = refl

      one : (b : Bool) → length (filter (made_in field) (map match_of_hit rest)) ≡ length (filter field rest)
          → length (cond b (match_of_hit hit ∷ filter (made_in field) (map match_of_hit rest)) (filter (made_in field) (map match_of_hit rest)))
          ≡ length (cond b (hit ∷ filter field rest) (filter field rest))
      one true e = ap suc e
      one false e = e

  counted_value : (lexicon : Lexicon) (options : Options) (value : Words) (tokens : List Token) → takes_one value.mode ≡ true
      → count_in field lexicon options value tokens ≡ length (filter field (value_hits lexicon options value tokens))
  counted_value lexicon options value tokens t =
      ap (λ ms. length (filter (made_in field) ms)) (value_found lexicon options value tokens t) ∙ counted_hits (value_hits lexicon options value tokens)

  bare_holds : (lexicon : Lexicon) (options : Options) (tokens : List Token) (form : Form) → is_bare form ≡ true
      → holds_in field lexicon options tokens form ≡ nat_lt 0 (length (filter field (bare_hits lexicon options tokens form)))
  unfolding holds_in is_bare bare_hits
  bare_holds lexicon options tokens (words value) h =
      let parts = and_parts (takes_one value.mode) (has_no_range value.times) h in
      (λ i. enough (bare_times value.times parts.1 i) (counted_value lexicon (inside value.options options) value tokens parts.0 i))
  bare_holds lexicon options tokens (or_of forms) h = cc
  bare_holds lexicon options tokens (and_of forms) h = cc
  bare_holds lexicon options tokens (mild_not left right) h = cc
  bare_holds lexicon options tokens (not_of form) h = cc
  bare_holds lexicon options tokens (filtered form kind) h = cc
  bare_holds lexicon options tokens (with_options form inner) h = bare_holds lexicon (inside inner options) tokens form h

  mutual
    unfolding holds_in is_shape items_of

    pub items_hold : (lexicon : Lexicon) (options : Options) (tokens : List Token) (form : Form) → is_shape form ≡ true
        → holds_in field lexicon options tokens form ≡ list_all (has_enough field) (items_of lexicon options tokens form)
    items_hold lexicon options tokens (words value) h =
        ap (enough value.times) (counted_value lexicon (inside value.options options) value tokens h)
        ∙ bounds value.times (length (filter field (value_hits lexicon (inside value.options options) value tokens)))
        ∙ sym (and-true (has_enough field (record {
          hits = value_hits lexicon (inside value.options options) value tokens;
          least = least_times value.times;
          most = most_times value.times;
        })))
    items_hold lexicon options tokens (or_of forms) h = cc
    items_hold lexicon options tokens (and_of forms) h = each_item_holds lexicon options tokens forms h
    items_hold lexicon options tokens (mild_not left right) h = cc
    items_hold lexicon options tokens (not_of form) h =
        ap not (bare_holds lexicon options tokens form h)
        ∙ none_there (length (filter field (bare_hits lexicon options tokens form)))
        ∙ sym (and-true (has_enough field (record { hits = bare_hits lexicon options tokens form; least = 0; most = Some 0 })))
    items_hold lexicon options tokens (filtered form kind) h = cc
    items_hold lexicon options tokens (with_options form inner) h = items_hold lexicon (inside inner options) tokens form h

    each_item_holds : (lexicon : Lexicon) (options : Options) (tokens : List Token) (forms : Forms) → are_shapes forms ≡ true
        → each_holds_in field lexicon options tokens forms ≡ list_all (has_enough field) (items_of_each lexicon options tokens forms)
    each_item_holds lexicon options tokens none h = refl
    each_item_holds lexicon options tokens (more form rest) h =
        let parts = and_parts (is_shape form) (are_shapes rest) h in
        (λ i. items_hold lexicon options tokens form parts.0 i && each_item_holds lexicon options tokens rest parts.1 i)
        ∙ sym (list_all-append (has_enough field) (items_of lexicon options tokens form) (items_of_each lexicon options tokens rest))

-- ---- what shapes are

bare-boolean : (form : Form) → is_bare form ≡ true → is_boolean form ≡ true
unfolding is_bare is_boolean
bare-boolean (words value) h = refl
bare-boolean (or_of forms) h = cc
bare-boolean (and_of forms) h = cc
bare-boolean (mild_not left right) h = cc
bare-boolean (not_of form) h = cc
bare-boolean (filtered form kind) h = cc
bare-boolean (with_options form inner) h = bare-boolean form h

mutual
  unfolding is_shape is_boolean

  pub shape-boolean : (form : Form) → is_shape form ≡ true → is_boolean form ≡ true
  shape-boolean (words value) h = refl
  shape-boolean (or_of forms) h = cc
  shape-boolean (and_of forms) h = shapes-boolean forms h
  shape-boolean (mild_not left right) h = cc
  shape-boolean (not_of form) h = bare-boolean form h
  shape-boolean (filtered form kind) h = cc
  shape-boolean (with_options form inner) h = shape-boolean form h

  shapes-boolean : (forms : Forms) → are_shapes forms ≡ true → are_boolean forms ≡ true
  shapes-boolean none h = refl
  shapes-boolean (more form rest) h =
      let parts = and_parts (is_shape form) (are_shapes rest) h in
      λ i. shape-boolean form parts.0 i && shapes-boolean rest parts.1 i

-- some item asks for a hit where the shape does
mutual
  unfolding is_shape needs_hit items_of

  pub shape-needs : (lexicon : Lexicon) (options : Options) (tokens : List Token) (form : Form) → is_shape form ≡ true
      → needs_hit form ≡ list_any (λ item. nat_lt 0 item.least) (items_of lexicon options tokens form)
  shape-needs lexicon options tokens (words value) h = ap (λ b. b && needs_one value.times) h ∙ needs_least value.times ∙ sym (or-false (nat_lt 0 (least_times value.times)))
  shape-needs lexicon options tokens (or_of forms) h = cc
  shape-needs lexicon options tokens (and_of forms) h = shapes-need lexicon options tokens forms h
  shape-needs lexicon options tokens (mild_not left right) h = cc
  shape-needs lexicon options tokens (not_of form) h = refl
  shape-needs lexicon options tokens (filtered form kind) h = cc
  shape-needs lexicon options tokens (with_options form inner) h = shape-needs lexicon (inside inner options) tokens form h

  shapes-need : (lexicon : Lexicon) (options : Options) (tokens : List Token) (forms : Forms) → are_shapes forms ≡ true
      → some_needs_hit forms ≡ list_any (λ item. nat_lt 0 item.least) (items_of_each lexicon options tokens forms)
  shapes-need lexicon options tokens none h = refl
  shapes-need lexicon options tokens (more form rest) h =
      let parts = and_parts (is_shape form) (are_shapes rest) h in
      (λ i. shape-needs lexicon options tokens form parts.0 i || shapes-need lexicon options tokens rest parts.1 i)
      ∙ sym (list_any-append (λ item. nat_lt 0 item.least) (items_of lexicon options tokens form) (items_of_each lexicon options tokens rest))
