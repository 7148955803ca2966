-- Where neither `ftnot` nor `occurs` may stand no Match of a selection has an exclude.
use Rattle.std.proofs.Common.{◌≡◌, refl, ap, ◌∙◌, ℕ, ◌+◌, List, [], ◌∷◌, ◌++◌, Bool, true, false}
use Rattle.std.specs.Prelude.{map, filter, fold, cond, Option, Some, None}
use Rattle.std.specs.List.{list_all, list_any}
use Rattle.std.proofs.lemmas.Bool.{and_parts, and_from}
use Rattle.std.proofs.lemmas.List.Folds.{list_all-append}
use Rattle.ft_base.specs.Lists.{is_empty, is_not_empty}
use Rattle.ft_base.specs.declared.filter.Filter.{Filter}
use Rattle.ft_base.specs.declared.hit.Hit.{Hit}
use Rattle.ft_base.specs.declared.hit.Match.{Match}
use Rattle.ft_base.specs.declared.options.Options.{Options}
use Rattle.ft_base.specs.declared.range.Range.{Range}
use Rattle.ft_base.specs.declared.span.Span.{Span}
use Rattle.ft_base.specs.declared.token.Token.{Token}
use Rattle.ft_base.specs.declared.words.Words.{Words}
use Rattle.ft_base.specs.declared.words.Mode.{Mode}
use Rattle.ft_base.specs.declared.words.Mode.TheVariants.{Any, AnyWord, All, AllWords, Phrase}
use Rattle.ft_base.specs.Selection.{Form, Forms, words, or_of, and_of, mild_not, not_of, filtered, with_options, none, more}
use Rattle.all_matches.specs.Allowed.{has_no_range}
use Rattle.all_matches.specs.Boolean.{both, empty_match, ft_and, ft_and_of, ft_or, ft_or_of, is_clean}
use Rattle.all_matches.specs.declared.window.Window.{Window}
use Rattle.all_matches.specs.Filters.{after, choices, filtered_match, ft_filtered, keeps, passes, through}
use Rattle.all_matches.specs.Hits.{hits, match_of_hit, phrase_matches}
use Rattle.all_matches.specs.Meaning.{all_matches, each_form, each_phrase, inside, joined_by, phrase_count, phrases_by, strings_of, value_matches}
use Rattle.all_matches.specs.MildNot.{ft_mild_not, stands_out}
use Rattle.all_matches.specs.Spans.{whole_text}
use Rattle.all_matches.specs.Times.{occurring}
use Rattle.all_matches.specs.Variants.{Item, Lexicon}
use Rattle.all_matches.proofs.BooleanLaws.{is_clean-both}
use Rattle.best_hits.specs.Showable.{can_show_in, each_can_show_in}

abbrev pub are_clean : List Match → Bool
are_clean ms = list_all is_clean ms

both-clean : (xs ys : List Match) → are_clean xs ≡ true → are_clean ys ≡ true → are_clean (xs ++ ys) ≡ true
both-clean xs ys h k = list_all-append is_clean xs ys ∙ and_from (are_clean xs) (are_clean ys) h k

mapped-clean : (a : Match) (ms : List Match) → is_clean a ≡ true → are_clean ms ≡ true → are_clean (map (both a) ms) ≡ true
mapped-clean a [] h k = refl
mapped-clean a (m ∷ rest) h k =
    let parts = and_parts (is_clean m) (are_clean rest) k in
    and_from (is_clean (both a m)) (are_clean (map (both a) rest)) (is_clean-both a m ∙ and_from (is_clean a) (is_clean m) h parts.0) (mapped-clean a rest h parts.1)

and-clean : (left right : List Match) → are_clean left ≡ true → are_clean right ≡ true → are_clean (ft_and left right) ≡ true
and-clean [] right h k = refl
and-clean (a ∷ left) right h k =
    let parts = and_parts (is_clean a) (are_clean left) h in
    both-clean (map (both a) right) (ft_and left right) (mapped-clean a right parts.0 k) (and-clean left right parts.1 k)

-- operands that are joined one after the other
folded-clean : (join : List Match → List Match → List Match) → ((xs ys : List Match) → are_clean xs ≡ true → are_clean ys ≡ true → are_clean (join xs ys) ≡ true)
    → (done : List Match) (operands : List (List Match)) → are_clean done ≡ true → list_all are_clean operands ≡ true → are_clean (fold join done operands) ≡ true
folded-clean join keeps done [] h all = h
folded-clean join keeps done (next ∷ rest) h all =
    let parts = and_parts (are_clean next) (list_all are_clean rest) all in
    folded-clean join keeps (join done next) rest (keeps done next h parts.0) parts.1

or-of-clean : (operands : List (List Match)) → list_all are_clean operands ≡ true → are_clean (ft_or_of operands) ≡ true
or-of-clean operands all = folded-clean ft_or both-clean [] operands refl all

and-of-clean : (operands : List (List Match)) → list_all are_clean operands ≡ true → are_clean (ft_and_of operands) ≡ true
and-of-clean operands all = folded-clean ft_and and-clean (empty_match ∷ []) operands refl all

-- ---- words

hits-clean : (found : List Hit) → are_clean (map match_of_hit found) ≡ true
hits-clean [] = refl
hits-clean (hit ∷ rest) = hits-clean rest

module _ (lexicon : Lexicon) (options : Options) (tokens : List Token) where
  phrases-clean : (first : ℕ) (phrases : List (List Item)) → list_all are_clean (each_phrase lexicon options first phrases tokens) ≡ true
  phrases-clean first [] = refl
  phrases-clean first (phrase ∷ rest) =
      and_from (are_clean (phrase_matches lexicon options first phrase tokens)) (list_all are_clean (each_phrase lexicon options (first + 1) rest tokens))
      (hits-clean (hits lexicon options first phrase tokens)) (phrases-clean (first + 1) rest)

  joined-clean : (mode : Mode) (operands : List (List Match)) → list_all are_clean operands ≡ true → are_clean (joined_by mode operands) ≡ true
  joined-clean Any operands all = or-of-clean operands all
  joined-clean AnyWord operands all = or-of-clean operands all
  joined-clean All operands all = and-of-clean operands all
  joined-clean AllWords operands all = and-of-clean operands all
  joined-clean Phrase operands all = or-of-clean operands all

  pub value-clean : (first : ℕ) (value : Words) → are_clean (value_matches lexicon options first value tokens) ≡ true
  value-clean first value = by (list_all is_empty (strings_of lexicon options value))
    where
      by : (b : Bool)
          → are_clean (cond b [] (joined_by value.mode (each_phrase lexicon options first (phrases_by value.mode (strings_of lexicon options value)) tokens))) ≡ true
      by true = refl
      by false =
          joined-clean value.mode (each_phrase lexicon options first (phrases_by value.mode (strings_of lexicon options value)) tokens)
          (phrases-clean first (phrases_by value.mode (strings_of lexicon options value)))

-- ---- mild not and filters

kept-clean : (test : Match → Bool) (ms : List Match) → are_clean ms ≡ true → are_clean (filter test ms) ≡ true
kept-clean test [] h = refl
kept-clean test (m ∷ rest) h = let parts = and_parts (is_clean m) (are_clean rest) h in by (test m) parts.0 (kept-clean test rest parts.1)
  where
    by : (b : Bool) → is_clean m ≡ true → are_clean (filter test rest) ≡ true → are_clean (cond b (m ∷ filter test rest) (filter test rest)) ≡ true
    by true one all = and_from (is_clean m) (are_clean (filter test rest)) one all
    by false one all = all

mild-clean : (left right : List Match) → are_clean left ≡ true → are_clean (ft_mild_not left right) ≡ true
mild-clean left right h = by (list_any (λ m. is_not_empty m.includes) right)
  where
    by : (b : Bool) → are_clean (cond b (filter (λ a. list_all (λ b. stands_out a.includes b.includes) right) left) left) ≡ true
    by true = kept-clean (λ a. list_all (λ b. stands_out a.includes b.includes) right) left h
    by false = h

no-excludes : (is es : List Hit) → is_clean (record { includes = is; excludes = es }) ≡ true → es ≡ []
no-excludes is [] h = refl
no-excludes is (hit ∷ rest) h = cc

through-clean : (kind : Filter) (m : Match) → is_clean m ≡ true → (cs : List (Option Window)) → are_clean (map (through kind m) cs) ≡ true
through-clean kind m h [] = refl
through-clean kind m h (c ∷ rest) =
    and_from (is_clean (through kind m c)) (are_clean (map (through kind m) rest))
    (ap (λ es. is_clean (record { includes = after kind m.includes; excludes = filter (keeps kind m.includes c) es })) (no-excludes m.includes m.excludes h))
    (through-clean kind m h rest)

filtered-clean : (kind : Filter) (item : Span) (ms : List Match) → are_clean ms ≡ true → are_clean (ft_filtered kind item ms) ≡ true
filtered-clean kind item [] h = refl
filtered-clean kind item (m ∷ rest) h =
    let parts = and_parts (is_clean m) (are_clean rest) h in
    both-clean (filtered_match kind item m) (ft_filtered kind item rest) (by (passes kind m.includes item) parts.0) (filtered-clean kind item rest parts.1)
  where
    by : (b : Bool) → is_clean m ≡ true → are_clean (cond b (map (through kind m) (choices kind m.includes)) []) ≡ true
    by true one = through-clean kind m one (choices kind m.includes)
    by false one = refl

-- ---- selections

once-clean : (times : Option Range) (ms : List Match) → has_no_range times ≡ true → are_clean ms ≡ true → are_clean (occurring times ms) ≡ true
once-clean None ms h k = k
once-clean (Some range) ms h k = cc

mutual
  unfolding all_matches can_show_in

  pub form-clean : (lexicon : Lexicon) (options : Options) (first : ℕ) (tokens : List Token) (form : Form) → can_show_in false false form ≡ true
      → are_clean (all_matches lexicon options first tokens form) ≡ true
  form-clean lexicon options first tokens (words value) h =
      once-clean value.times (value_matches lexicon (inside value.options options) first value tokens) h (value-clean lexicon (inside value.options options) tokens first value)
  form-clean lexicon options first tokens (or_of forms) h =
      or-of-clean (each_form lexicon options first tokens forms) (forms-clean lexicon options first tokens forms h)
  form-clean lexicon options first tokens (and_of forms) h =
      and-of-clean (each_form lexicon options first tokens forms) (forms-clean lexicon options first tokens forms h)
  form-clean lexicon options first tokens (mild_not left right) h =
      mild-clean (all_matches lexicon options first tokens left) (all_matches lexicon options (first + phrase_count lexicon options left) tokens right)
      (form-clean lexicon options first tokens left (and_parts (can_show_in false false left) (can_show_in false false right) h).0)
  form-clean lexicon options first tokens (not_of form) h = cc
  form-clean lexicon options first tokens (filtered form kind) h =
      filtered-clean kind (whole_text tokens) (all_matches lexicon options first tokens form) (form-clean lexicon options first tokens form h)
  form-clean lexicon options first tokens (with_options form inner) h = form-clean lexicon (inside inner options) first tokens form h

  forms-clean : (lexicon : Lexicon) (options : Options) (first : ℕ) (tokens : List Token) (forms : Forms) → each_can_show_in false false forms ≡ true
      → list_all are_clean (each_form lexicon options first tokens forms) ≡ true
  forms-clean lexicon options first tokens none h = refl
  forms-clean lexicon options first tokens (more form rest) h =
      let parts = and_parts (can_show_in false false form) (each_can_show_in false false rest) h in
      and_from (are_clean (all_matches lexicon options first tokens form)) (list_all are_clean (each_form lexicon options (first + phrase_count lexicon options form) tokens rest))
      (form-clean lexicon options first tokens form parts.0) (forms-clean lexicon options (first + phrase_count lexicon options form) tokens rest parts.1)
