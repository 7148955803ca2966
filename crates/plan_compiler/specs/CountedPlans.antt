-- What a compiled counted shape says of a text, and what its tests cost.
use Rattle.std.specs.Prelude.{ℕ, Bool, List, map, flat_map}
use Rattle.std.specs.List.{sum_by}
use Rattle.ft_base.specs.declared.hit.Hit.{Hit}
use Rattle.counted_shapes.specs.Accepted.{fit_in}
use Rattle.counted_shapes.specs.Shapes.{Counted}
use Rattle.plan_compiler.specs.Operators.{LookedText, hits_by_tests}
use Rattle.plan_compiler.specs.declared.counted_plan.CountedPlan.{CountedPlan}
use Rattle.plan_compiler.specs.declared.counted_plan.CountedWords.{CountedWords}
use Rattle.plan_compiler.specs.declared.item_matching.ItemTest.{ItemTest}
use Rattle.plan_compiler.specs.declared.operator_plan.PhraseTests.{PhraseTests}

-- the hits of phrases over a text, whichever of them it is
abbrev pub hits_of_phrases : LookedText → List PhraseTests → List Hit
hits_of_phrases text phrases = flat_map (λ found. hits_by_tests text found.number found.variants) phrases

-- what is counted of some words over a text
abbrev pub counted_at : LookedText → CountedWords → Counted
counted_at text item = record { hits = hits_of_phrases text item.phrases; least = item.least; most = item.most }

-- whether one field has enough of each item, and not too much
abbrev pub counted_truth : CountedPlan → LookedText → Bool
counted_truth plan text = fit_in plan.field (map (counted_at text) plan.items)

module _ (cost : ItemTest → ℕ) where
  abbrev pub phrases_cost : List PhraseTests → ℕ
  phrases_cost phrases = sum_by (λ found. sum_by (sum_by cost) found.variants) phrases

  abbrev pub items_cost : List CountedWords → ℕ
  items_cost items = sum_by (λ item. phrases_cost item.phrases) items

  abbrev pub counted_cost : CountedPlan → ℕ
  counted_cost plan = items_cost plan.items
