-- The places of best hits don't depend on the numbers of phrases.
use Rattle.std.proofs.Common.{◌≡◌, refl, ap, sym, ◌∙◌, ℕ, ◌+◌, zero, suc, List, [], ◌∷◌, ◌++◌, Bool, true, false, ◌&&◌, ◌||◌, take, add_assoc}
use Rattle.std.specs.Prelude.{map, filter, cond, None}
use Rattle.std.proofs.lemmas.List.{map-append}
use Rattle.ft_base.specs.declared.hit.Hit.{Hit}
use Rattle.ft_base.specs.declared.hit.Match.{Match}
use Rattle.ft_base.specs.declared.options.Options.{Options}
use Rattle.ft_base.specs.declared.token.Token.{Token}
use Rattle.ft_base.specs.declared.words.Words.{Words}
use Rattle.ft_base.specs.Selection.{Form, Forms, words, or_of, and_of, mild_not, not_of, filtered, with_options, none, more, no_options}
use Rattle.all_matches.specs.Boolean.{is_clean, satisfied}
use Rattle.all_matches.specs.Meaning.{all_matches, inside, phrase_count, value_matches}
use Rattle.all_matches.specs.Numbering.{shifted, shifted_hit, shifted_match}
use Rattle.all_matches.specs.Variants.{Lexicon}
use Rattle.all_matches.proofs.Numbering.{all_matches-shifted, satisfied_by-any_number}
use Rattle.counted_shapes.specs.Shapes.{least_times}
use Rattle.best_hits.specs.Best.{best, each_best, first_best, includes_of, spans_of}
use Rattle.best_hits.specs.Least.{clean_includes, comes_before, has_same_places, is_earlier, least, least_from, least_includes}

-- hits with other numbers, and the places that they cover
module _ (by : ℕ) where
  renumbered : List Hit → List Hit
  renumbered hits = map (shifted_hit by) hits

  same-spans : (hits : List Hit) → spans_of (renumbered hits) ≡ spans_of hits
  unfolding renumbered
  same-spans [] = refl
  same-spans (hit ∷ rest) = ap (λ l. record { from = hit.from; to = suc hit.to } ∷ l) (same-spans rest)

  same-order : (xs ys : List Hit) → comes_before (renumbered xs) (renumbered ys) ≡ comes_before xs ys
  unfolding renumbered
  same-order [] [] = refl
  same-order [] (y ∷ ys) = refl
  same-order (x ∷ xs) [] = refl
  same-order (x ∷ xs) (y ∷ ys) = ap (λ b. is_earlier x y || (has_same_places x y && b)) (same-order xs ys)

  cond-renumbered : (b : Bool) (xs ys : List Hit) → cond b (renumbered xs) (renumbered ys) ≡ renumbered (cond b xs ys)
  cond-renumbered true xs ys = refl
  cond-renumbered false xs ys = refl

  least_from-renumbered : (first : List Hit) (rest : List (List Hit)) → least_from (renumbered first) (map renumbered rest) ≡ renumbered (least_from first rest)
  least_from-renumbered first [] = refl
  least_from-renumbered first (next ∷ rest) =
      ap (λ l. least_from l (map renumbered rest)) (ap (λ b. cond b (renumbered next) (renumbered first)) (same-order next first) ∙ cond-renumbered (comes_before next first) next first)
      ∙ least_from-renumbered (cond (comes_before next first) next first) rest

  least-renumbered : (lists : List (List Hit)) → least (map renumbered lists) ≡ renumbered (least lists)
  unfolding renumbered
  least-renumbered [] = refl
  least-renumbered (first ∷ rest) = least_from-renumbered first rest

  clean-shifted : (m : Match) → is_clean (shifted_match by m) ≡ is_clean m
  clean-shifted m = each m.includes m.excludes
    where
      each : (includes excludes : List Hit) → is_clean (shifted_match by (record { includes = includes; excludes = excludes })) ≡ is_clean (record { includes = includes; excludes = excludes })
      each includes [] = refl
      each includes (hit ∷ rest) = refl

  clean_includes-shifted : (ms : List Match) → clean_includes (shifted by ms) ≡ map renumbered (clean_includes ms)
  unfolding renumbered
  clean_includes-shifted [] = refl
  clean_includes-shifted (m ∷ rest) = ap (λ b. map (λ n. n.includes) (cond b (shifted_match by m ∷ filter is_clean (shifted by rest)) (filter is_clean (shifted by rest)))) (clean-shifted m) ∙ one (is_clean m) (clean_includes-shifted rest)
    where
      one : (b : Bool) → clean_includes (shifted by rest) ≡ map renumbered (clean_includes rest)
          → map (λ n. n.includes) (cond b (shifted_match by m ∷ filter is_clean (shifted by rest)) (filter is_clean (shifted by rest)))
          ≡ map renumbered (map (λ n. n.includes) (cond b (m ∷ filter is_clean rest) (filter is_clean rest)))
      one true later = ap (λ l. renumbered m.includes ∷ l) later
      one false later = later

  least-spans : (ms : List Match) → spans_of (least_includes (shifted by ms)) ≡ spans_of (least_includes ms)
  least-spans ms = ap (λ l. spans_of (least l)) (clean_includes-shifted ms) ∙ ap spans_of (least-renumbered (clean_includes ms)) ∙ same-spans (least (clean_includes ms))

  first-shifted : (l : ℕ) (ms : List Match) → includes_of (take l (shifted by ms)) ≡ renumbered (includes_of (take l ms))
  unfolding renumbered
  first-shifted zero [] = refl
  first-shifted zero (m ∷ rest) = refl
  first-shifted (suc l) [] = refl
  first-shifted (suc l) (m ∷ rest) =
      ap (λ hits. map (shifted_hit by) m.includes ++ hits) (first-shifted l rest) ∙ sym (map-append (shifted_hit by) m.includes (includes_of (take l rest)))

  first-spans : (l : ℕ) (ms : List Match) → spans_of (includes_of (take l (shifted by ms))) ≡ spans_of (includes_of (take l ms))
  first-spans l ms = ap spans_of (first-shifted l ms) ∙ same-spans (includes_of (take l ms))

  value-shifted : (lexicon : Lexicon) (options : Options) (first : ℕ) (value : Words) (tokens : List Token) → value_matches lexicon options (by + first) value tokens ≡ shifted by (value_matches lexicon options first value tokens)
  unfolding all_matches
  value-shifted lexicon options first value tokens =
      all_matches-shifted by lexicon options first tokens (words (record { values = value.values; mode = value.mode; times = None; options = no_options }))

spans-append : (xs ys : List Hit) → spans_of (xs ++ ys) ≡ spans_of xs ++ spans_of ys
spans-append xs ys = map-append (λ hit. record { from = hit.from; to = suc hit.to }) xs ys

-- the first one that is satisfied, or the others
either_spans : (b c : Bool) (xs ys us vs : List Hit) → b ≡ c → spans_of xs ≡ spans_of us → spans_of ys ≡ spans_of vs → spans_of (cond b xs ys) ≡ spans_of (cond c us vs)
either_spans true true xs ys us vs h k l = k
either_spans true false xs ys us vs h k l = cc
either_spans false true xs ys us vs h k l = cc
either_spans false false xs ys us vs h k l = l

module _ (by : ℕ) (lexicon : Lexicon) where
  mutual
    unfolding all_matches best

    pub best-numbered : (options : Options) (first : ℕ) (tokens : List Token) (form : Form)
        → spans_of (best lexicon options (by + first) tokens form) ≡ spans_of (best lexicon options first tokens form)
    best-numbered options first tokens (words value) =
        ap (λ ms. spans_of (includes_of (take (least_times value.times) ms))) (value-shifted by lexicon (inside value.options options) first value tokens)
        ∙ first-spans by (least_times value.times) (value_matches lexicon (inside value.options options) first value tokens)
    best-numbered options first tokens (or_of forms) = first_best-numbered options first tokens forms
    best-numbered options first tokens (and_of forms) = each_best-numbered options first tokens forms
    best-numbered options first tokens (mild_not left right) =
        ap (λ ms. spans_of (least_includes ms)) (all_matches-shifted by lexicon options first tokens (mild_not left right))
        ∙ least-spans by (all_matches lexicon options first tokens (mild_not left right))
    best-numbered options first tokens (not_of form) = refl
    best-numbered options first tokens (filtered form kind) =
        ap (λ ms. spans_of (least_includes ms)) (all_matches-shifted by lexicon options first tokens (filtered form kind))
        ∙ least-spans by (all_matches lexicon options first tokens (filtered form kind))
    best-numbered options first tokens (with_options form inner) = best-numbered (inside inner options) first tokens form

    pub first_best-numbered : (options : Options) (first : ℕ) (tokens : List Token) (forms : Forms)
        → spans_of (first_best lexicon options (by + first) tokens forms) ≡ spans_of (first_best lexicon options first tokens forms)
    first_best-numbered options first tokens none = refl
    first_best-numbered options first tokens (more form rest) =
        let next = first + phrase_count lexicon options form in
        either_spans (satisfied (all_matches lexicon options (by + first) tokens form)) (satisfied (all_matches lexicon options first tokens form))
        (best lexicon options (by + first) tokens form) (first_best lexicon options ((by + first) + phrase_count lexicon options form) tokens rest)
        (best lexicon options first tokens form) (first_best lexicon options next tokens rest)
        (satisfied_by-any_number lexicon options by first tokens form) (best-numbered options first tokens form)
        (ap (λ n. spans_of (first_best lexicon options n tokens rest)) (add_assoc by first (phrase_count lexicon options form)) ∙ first_best-numbered options next tokens rest)

    pub each_best-numbered : (options : Options) (first : ℕ) (tokens : List Token) (forms : Forms)
        → spans_of (each_best lexicon options (by + first) tokens forms) ≡ spans_of (each_best lexicon options first tokens forms)
    each_best-numbered options first tokens none = refl
    each_best-numbered options first tokens (more form rest) =
        let next = first + phrase_count lexicon options form in
        spans-append (best lexicon options (by + first) tokens form) (each_best lexicon options ((by + first) + phrase_count lexicon options form) tokens rest)
        ∙ (λ i. best-numbered options first tokens form i
        ++ (ap (λ n. spans_of (each_best lexicon options n tokens rest)) (add_assoc by first (phrase_count lexicon options form)) ∙ each_best-numbered options next tokens rest) i)
        ∙ sym (spans-append (best lexicon options first tokens form) (each_best lexicon options next tokens rest))
