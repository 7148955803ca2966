-- What is shown of each kind of compiled selection.
use Rattle.std.proofs.Common.{◌≡◌, refl, ap, ◌∙◌, Bool, List, [], ◌∷◌, map, flat_map, rules}
use Rattle.ft_base.specs.declared.span.Span.{Span}
use Rattle.plan_compiler.specs.Operators.{LookedText}
use Rattle.plan_compiler.specs.ShownMeaning.{first_shown, first_spans, least_spans, node_layer, part_layer, shown_part, shown_spans}
use Rattle.plan_compiler.specs.declared.operator_plan.WaysPlan.{WaysPlan}
use Rattle.plan_compiler.specs.declared.shown_plan.FirstWays.{FirstWays}
use Rattle.plan_compiler.specs.declared.shown_plan.ShownNode.{ShownNode, First, Or, And, Nothing, Least, the_lemmas}
use Rattle.plan_compiler.specs.declared.shown_plan.ShownPart.{ShownPart, fold-ShownPart}

module _ (text : LookedText) where
  pub shown-First : (first : FirstWays) → shown_spans text (First first) ≡ first_spans text first
  unfolding shown_spans
  shown-First first = search (rules, the_lemmas)

  pub shown-Nothing : shown_spans text Nothing ≡ []
  unfolding shown_spans
  shown-Nothing = search (rules, the_lemmas)

  pub shown-Least : (plan : WaysPlan) → shown_spans text (Least plan) ≡ least_spans text plan
  unfolding shown_spans
  shown-Least plan = search (rules, the_lemmas)

  folded_part : ShownPart → Bool × List Span
  folded_part = fold-ShownPart (List Span) (Bool × List Span) (node_layer text) (part_layer text)

  part-folded : (part : ShownPart) → folded_part part ≡ shown_part text part
  unfolding shown_spans folded_part
  part-folded part = search (rules, the_lemmas)

  shown-parts : (parts : List ShownPart) → shown_spans text (Or parts) ≡ first_shown (map folded_part parts)
  unfolding shown_spans folded_part
  shown-parts parts = search (rules, the_lemmas)

  shown-nodes : (nodes : List ShownNode) → shown_spans text (And nodes) ≡ flat_map (λ spans. spans) (map (shown_spans text) nodes)
  unfolding shown_spans
  shown-nodes nodes = search (rules, the_lemmas)

  parts-folded : (parts : List ShownPart) → map folded_part parts ≡ map (shown_part text) parts
  parts-folded [] = refl
  parts-folded (part ∷ rest) = λ i. part-folded part i ∷ parts-folded rest i

  pub shown-Or : (parts : List ShownPart) → shown_spans text (Or parts) ≡ first_shown (map (shown_part text) parts)
  shown-Or parts = shown-parts parts ∙ ap first_shown (parts-folded parts)

  pub shown-And : (nodes : List ShownNode) → shown_spans text (And nodes) ≡ flat_map (λ spans. spans) (map (shown_spans text) nodes)
  shown-And nodes = shown-nodes nodes
