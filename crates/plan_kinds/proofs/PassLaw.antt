-- What a filter asks of the hits of phrases that are joined under it.
use Rattle.std.proofs.Common.{◌≡◌, refl, ap, ◌∙◌, ℕ, ◌+◌, true, List, [], ◌∷◌, length, Some, arith}
use Rattle.std.specs.List.{list_all}
use Rattle.std.proofs.lemmas.Option.{cond_some, none-some, same_Some}
use Rattle.ft_base.specs.declared.filter.Filter.{Filter}
use Rattle.ft_base.specs.declared.filter.Filter.TheVariants as F
use Rattle.ft_base.specs.declared.hit.Hit.{Hit}
use Rattle.ft_base.specs.declared.range.Range.{Range}
use Rattle.ft_base.specs.declared.span.Span.{Span}
use Rattle.ft_base.specs.declared.unit.TextUnit.{TextUnit}
use Rattle.all_matches.specs.Boolean.{satisfied}
use Rattle.all_matches.specs.Ways.{matches_of}
use Rattle.phrase_merges.specs.Choices.{are_apart, begin_alike, ends_after}
use Rattle.phrase_merges.proofs.DistanceLemmas.{apart_phrases}
use Rattle.phrase_merges.proofs.UnitLemmas.{ordered}
use Rattle.window_merges.specs.Choices.{some_choice}
use Rattle.window_merges.specs.Words.{are_numbered, filtered_words}
use Rattle.plan_kinds.specs.steps.JoinedPhrases.{are_two}
use Rattle.plan_kinds.specs.steps.PassKinds.{hits_stand, apart_kind, pass_kind}
use Rattle.plan_kinds.specs.declared.joined.Joined.{Joined}
use Rattle.plan_kinds.specs.declared.pass_kind.PassKind.{PassKind}
use Rattle.plan_kinds.specs.declared.pass_kind.PassKind.TheVariants.{Apart, InOrder}
use Rattle.plan_kinds.proofs.JoinedLaw.{pair_count}

-- hits of phrases that are numbered from one on, none of which ends before its own beginning; of two the one that begins no later begins in no
-- later sentence or paragraph
pub record AreOrdinary (number : ℕ) (lists : List (List Hit)) : Type 0 where
  pub numbered : are_numbered number lists ≡ true
  pub ends : (unit : TextUnit) → list_all (list_all (ends_after unit)) lists ≡ true
  pub alike : (unit : TextUnit) (hits others : List Hit) → lists ≡ hits ∷ others ∷ [] → list_all (λ a. list_all (begin_alike unit a) others) hits ≡ true

-- a distance of two phrases
two_phrases : (range : Range) (unit : TextUnit) (number : ℕ) (item : Span) (hits : List Hit) (lists : List (List Hit)) → length lists ≡ 1 → AreOrdinary number (hits ∷ lists)
    → satisfied (matches_of item (filtered_words (F.Distance range unit) (hits ∷ lists))) ≡ some_choice (are_apart range unit) (hits ∷ lists)
two_phrases range unit number item hits [] two are = absurd (omega (arith, two))
two_phrases range unit number item hits (others ∷ []) two are = apart_phrases unit range item hits others (are.ends unit) (are.alike unit hits others refl)
two_phrases range unit number item hits (others ∷ more ∷ rest) two are = absurd (omega (arith, two))

module _ (joined : Joined) (item : Span) (hits : List Hit) (lists : List (List Hit)) (counted : joined.last ≡ joined.first + length lists) where
  distance_says : (range : Range) (unit : TextUnit) (kind : PassKind) → apart_kind range unit joined ≡ Some kind → AreOrdinary joined.first (hits ∷ lists)
      → satisfied (matches_of item (filtered_words (F.Distance range unit) (hits ∷ lists))) ≡ some_choice (hits_stand kind) (hits ∷ lists)
  distance_says range unit kind h are =
      let made = cond_some (are_two joined) (Apart range unit) kind h in
      two_phrases range unit joined.first item hits lists (pair_count joined (length lists) counted made.0) are ∙ ap (λ k. some_choice (hits_stand k) (hits ∷ lists)) made.1

  -- phrases that are joined satisfy a filter exactly where one hit of each can be chosen so that they stand as they have to
  pub pass_law : (filter : Filter) (kind : PassKind) → pass_kind filter joined ≡ Some kind → AreOrdinary joined.first (hits ∷ lists)
      → satisfied (matches_of item (filtered_words filter (hits ∷ lists))) ≡ some_choice (hits_stand kind) (hits ∷ lists)
  pass_law F.Ordered kind h are = ordered joined.first item hits lists are.numbered ∙ ap (λ k. some_choice (hits_stand k) (hits ∷ lists)) (same_Some InOrder kind h)
  pass_law (F.Window size unit) kind h are = absurd (none-some kind h)
  pass_law (F.Distance range unit) kind h are = distance_says range unit kind h are
  pass_law F.SameSentence kind h are = absurd (none-some kind h)
  pass_law F.SameParagraph kind h are = absurd (none-some kind h)
  pass_law F.DifferentSentence kind h are = absurd (none-some kind h)
  pass_law F.DifferentParagraph kind h are = absurd (none-some kind h)
  pass_law F.AtStart kind h are = absurd (none-some kind h)
  pass_law F.AtEnd kind h are = absurd (none-some kind h)
  pass_law F.EntireContent kind h are = absurd (none-some kind h)
