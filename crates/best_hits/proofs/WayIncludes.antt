-- The includes of Matches without excludes, as those of ways.
use Rattle.std.proofs.Common.{◌≡◌, refl, ap, sym, ◌∙◌, ℕ, zero, suc, List, [], ◌∷◌, ◌++◌, Bool, true, false, ◌&&◌, ◌||◌, take}
use Rattle.std.specs.Prelude.{map, filter, flat_map, cond, None}
use Rattle.std.specs.List.{list_any, AllByRecursion}
use Rattle.std.proofs.lemmas.Bool.{and_parts}
use Rattle.ft_base.specs.declared.hit.Hit.{Hit}
use Rattle.ft_base.specs.declared.hit.Match.{Match}
use Rattle.ft_base.specs.declared.options.Options.{Options}
use Rattle.ft_base.specs.declared.span.Span.{Span}
use Rattle.ft_base.specs.declared.token.Token.{Token}
use Rattle.ft_base.specs.declared.words.Words.{Words}
use Rattle.ft_base.specs.Selection.{no_options, Form, words}
use Rattle.all_matches.specs.Allowed.{has_plain_nots, may_be_filtered, without_times}
use Rattle.all_matches.specs.Boolean.{is_clean, survives}
use Rattle.all_matches.specs.Chain.{kept_by}
use Rattle.all_matches.specs.Meaning.{all_matches, value_matches}
use Rattle.all_matches.specs.Operators.{operator_of, value_operator}
use Rattle.all_matches.specs.Spans.{whole_text}
use Rattle.all_matches.specs.Variants.{Lexicon}
use Rattle.all_matches.specs.Ways.{bare_match, clean_under, is_good, is_plain, made, matches_of, Operator, Way, way_includes, ways_of}
use Rattle.all_matches.proofs.BareWays.{bare_matches, good_ways}
use Rattle.all_matches.proofs.ListTests.{list_any-alike, list_any-and}
use Rattle.all_matches.proofs.OperatorMatches.{operator-matches}
use Rattle.all_matches.proofs.PlainOperators.{clean-survives, plain, value-positive}
use Rattle.all_matches.proofs.WayLaws.{any_of, any_way, clean_way, made_includes}
use Rattle.best_hits.specs.Best.{includes_of, spans_of}
use Rattle.best_hits.specs.Least.{clean_includes, least, least_includes}
use Rattle.best_hits.proofs.LeastAlike.{least-alike}

-- ---- words

module _ (lexicon : Lexicon) (options : Options) (first : ℕ) (value : Words) (tokens : List Token) where
  -- the value itself, without options and `occurs`
  abbrev bare_value : Words
  bare_value = record { values = value.values; mode = value.mode; times = None; options = no_options }

  value-bare : value_matches lexicon options first value tokens ≡ map bare_match (ways_of (whole_text tokens) (value_operator lexicon options first value tokens))
  unfolding all_matches operator_of without_times
  value-bare =
      sym (operator-matches lexicon options first tokens (words bare_value) refl)
      ∙ bare_matches (whole_text tokens) (value_operator lexicon options first value tokens) (value-positive lexicon options tokens first value)

bare-includes : (ways : List Way) → map (λ m. m.includes) (map bare_match ways) ≡ map way_includes ways
bare-includes [] = refl
bare-includes (way ∷ rest) = ap (λ l. way_includes way ∷ l) (bare-includes rest)

first-includes : (l : ℕ) (ways : List Way) → includes_of (take l (map bare_match ways)) ≡ flat_map way_includes (take l ways)
first-includes zero [] = refl
first-includes zero (way ∷ rest) = refl
first-includes (suc l) [] = refl
first-includes (suc l) (way ∷ rest) = ap (λ hits. way_includes way ++ hits) (first-includes l rest)

pub words-each : (lexicon : Lexicon) (options : Options) (first : ℕ) (value : Words) (tokens : List Token)
    → map way_includes (ways_of (whole_text tokens) (value_operator lexicon options first value tokens)) ≡ map (λ m. m.includes) (value_matches lexicon options first value tokens)
words-each lexicon options first value tokens =
    sym (ap (map (λ m. m.includes)) (value-bare lexicon options first value tokens) ∙ bare-includes (ways_of (whole_text tokens) (value_operator lexicon options first value tokens)))

pub words-first : (lexicon : Lexicon) (options : Options) (first : ℕ) (value : Words) (tokens : List Token) (l : ℕ)
    → flat_map way_includes (take l (ways_of (whole_text tokens) (value_operator lexicon options first value tokens))) ≡ includes_of (take l (value_matches lexicon options first value tokens))
words-first lexicon options first value tokens l =
    sym (ap (λ ms. includes_of (take l ms)) (value-bare lexicon options first value tokens) ∙ first-includes l (ways_of (whole_text tokens) (value_operator lexicon options first value tokens)))

-- ---- filters and `not in`

any-kept : {X Y : Type 0} (keep : X → Bool) (f : X → Y) (p : Y → Bool) (xs : List X) → list_any p (map f (filter keep xs)) ≡ list_any (λ x. keep x && p (f x)) xs
any-kept keep f p [] = refl
any-kept {X} {Y} keep f p (x ∷ xs) = one (keep x) ∙ ap (λ b. (keep x && p (f x)) || b) (any-kept keep f p xs)
  where
    one : (b : Bool) → list_any p (map f (cond b (x ∷ filter keep xs) (filter keep xs))) ≡ ((b && p (f x)) || list_any p (map f (filter keep xs)))
    one true = refl
    one false = refl

any-included : (p : List Hit → Bool) (hits : List Hit) (ms : List Match) → AllByRecursion (λ m. m.includes ≡ hits) ms
    → list_any (λ m. survives (kept_by []) m && p m.includes) ms ≡ list_any (λ m. survives (kept_by []) m && p hits) ms
any-included p hits [] h = refl
any-included p hits (m ∷ rest) h = λ i. (survives (kept_by []) m && p (h.0 i)) || any-included p hits rest h.1 i

way-passes : (p : List Hit → Bool) (way : Way) → is_good way ≡ true
    → list_any (λ m. survives (kept_by []) m && p m.includes) (made way) ≡ (clean_under (kept_by []) way && p (way_includes way))
way-passes p way h =
    any-included p (way_includes way) (made way) (made_includes way h)
    ∙ list_any-and (survives (kept_by [])) (p (way_includes way)) (made way)
    ∙ ap (λ b. b && p (way_includes way)) (clean_way (kept_by []) way h)

-- some Match without excludes has includes that pass a test exactly where some clean way has
pub includes-alike : (item : Span) (operator : Operator) → is_plain operator ≡ true → (p : List Hit → Bool)
    → list_any p (clean_includes (matches_of item operator)) ≡ list_any p (map way_includes (filter (clean_under (kept_by [])) (ways_of item operator)))
includes-alike item operator h p =
    any-kept is_clean (λ m. m.includes) p (matches_of item operator)
    ∙ list_any-alike (λ m. is_clean m && p m.includes) (λ m. survives (kept_by []) m && p m.includes) (matches_of item operator) (λ m. ap (λ b. b && p m.includes) (clean-survives m))
    ∙ any_way item operator h (λ m. survives (kept_by []) m && p m.includes)
    ∙ any_of is_good (λ w. list_any (λ m. survives (kept_by []) m && p m.includes) (made w)) (λ w. clean_under (kept_by []) w && p (way_includes w)) (way-passes p) (ways_of item operator) (good_ways item operator h)
    ∙ sym (any-kept (clean_under (kept_by [])) way_includes p (ways_of item operator))

pub least-by_ways : (lexicon : Lexicon) (options : Options) (first : ℕ) (tokens : List Token) (form : Form) → may_be_filtered form ≡ true
    → spans_of (least_includes (all_matches lexicon options first tokens form))
    ≡ spans_of (least (map way_includes (filter (clean_under (kept_by [])) (ways_of (whole_text tokens) (operator_of lexicon options first tokens form)))))
least-by_ways lexicon options first tokens form h =
    let parts = and_parts (without_times form) (has_plain_nots form) h in
    let operator = operator_of lexicon options first tokens form in
    ap (λ ms. spans_of (least_includes ms)) (sym (operator-matches lexicon options first tokens form parts.0))
    ∙ least-alike (clean_includes (matches_of (whole_text tokens) operator)) (map way_includes (filter (clean_under (kept_by [])) (ways_of (whole_text tokens) operator)))
    (includes-alike (whole_text tokens) operator (plain lexicon options first tokens form parts.1))
