-- The best hits of a selection that a text satisfies: those by which it is shown why.
use Rattle.std.specs.Prelude.{◌≡◌, ℕ, ◌+◌, suc, true, if◌then◌else◌, List, [], ◌∷◌, ◌++◌, ◌⊎◌, flat_map, map, take}
use Rattle.ft_base.specs.declared.hit.Hit.{Hit}
use Rattle.ft_base.specs.declared.hit.Match.{Match}
use Rattle.ft_base.specs.declared.options.Options.{Options}
use Rattle.ft_base.specs.declared.span.Span.{Span}
use Rattle.ft_base.specs.declared.token.Token.{Token}
use Rattle.ft_base.specs.Selection.{Form, Forms, words, or_of, and_of, mild_not, not_of, filtered, with_options, none, more}
use Rattle.all_matches.specs.Boolean.{is_clean, satisfied}
use Rattle.all_matches.specs.Meaning.{all_matches, inside, phrase_count, value_matches}
use Rattle.all_matches.specs.Variants.{Lexicon}
use Rattle.counted_shapes.specs.Shapes.{least_times}
use Rattle.best_hits.specs.Least.{least_includes}

abbrev pub includes_of : List Match → List Hit
includes_of matches = flat_map (λ m. m.includes) matches

-- the best hits of a selection under the options that stand round it, its phrases being numbered from `first` on. Of words the first Matches,
-- as many as `occurs` asks for at least, and one without it; of an Or those of its first satisfied operand; of an And those of each; of a
-- filter, and of `not in`, the least includes
unfoldable mutual
  pub best : Lexicon → Options → ℕ → List Token → Form → List Hit
  best lexicon options first tokens (words value) =
      includes_of (take (least_times value.times) (value_matches lexicon (inside value.options options) first value tokens))
  best lexicon options first tokens (or_of forms) = first_best lexicon options first tokens forms
  best lexicon options first tokens (and_of forms) = each_best lexicon options first tokens forms
  best lexicon options first tokens (mild_not left right) = least_includes (all_matches lexicon options first tokens (mild_not left right))
  best lexicon options first tokens (not_of form) = []
  best lexicon options first tokens (filtered form kind) = least_includes (all_matches lexicon options first tokens (filtered form kind))
  best lexicon options first tokens (with_options form inner) = best lexicon (inside inner options) first tokens form

  pub first_best : Lexicon → Options → ℕ → List Token → Forms → List Hit
  first_best lexicon options first tokens none = []
  first_best lexicon options first tokens (more form rest) =
      if satisfied (all_matches lexicon options first tokens form) then best lexicon options first tokens form
      else first_best lexicon options (first + phrase_count lexicon options form) tokens rest

  pub each_best : Lexicon → Options → ℕ → List Token → Forms → List Hit
  each_best lexicon options first tokens none = []
  each_best lexicon options first tokens (more form rest) =
      best lexicon options first tokens form ++ each_best lexicon options (first + phrase_count lexicon options form) tokens rest

-- the places that hits cover, from the first of each up to before the one behind its last
abbrev pub spans_of : List Hit → List Span
spans_of hits = map (λ hit. record { from = hit.from; to = suc hit.to }) hits

-- some item of a list is such a one
abbrev pub SomeOf : {X : Type 0} → (X → Type 0) → List X → Type 0
SomeOf P [] = ⊥
SomeOf P (x ∷ xs) = P x ⊎ SomeOf P xs

-- a Match has no exclude, and these includes
pub record Gives (hits : List Hit) (m : Match) : Type 0 where
  pub clean : is_clean m ≡ true
  pub same : m.includes ≡ hits
