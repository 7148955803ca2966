-- What is shown of a text by a selection that was compiled for it: places that hits cover.
use Rattle.std.specs.Prelude.{Bool, if◌then◌else◌, List, [], ◌∷◌, map, filter, flat_map, take}
use Rattle.ft_base.specs.declared.span.Span.{Span}
use Rattle.all_matches.specs.Chain.{kept_by}
use Rattle.all_matches.specs.Spans.{whole_text}
use Rattle.all_matches.specs.Ways.{clean_under, Way, way_includes, ways_of}
use Rattle.best_hits.specs.Best.{spans_of}
use Rattle.best_hits.specs.Least.{least}
use Rattle.plan_compiler.specs.NodeMeaning.{truth}
use Rattle.plan_compiler.specs.Operators.{LookedText, operator_at}
use Rattle.plan_compiler.specs.declared.operator_plan.WaysPlan.{WaysPlan}
use Rattle.plan_compiler.specs.declared.shown_plan.FirstWays.{FirstWays}
use Rattle.plan_compiler.specs.declared.shown_plan.ShownNode.{ShownNode, fold-ShownNode}
use Rattle.plan_compiler.specs.declared.shown_plan.ShownNode.TheOpen.{ShownNode-F, ShownPart-F}
use Rattle.plan_compiler.specs.declared.shown_plan.ShownPart.{ShownPart}

-- the ways of a selection over a text
abbrev pub ways_at : LookedText → WaysPlan → List Way
ways_at text plan = ways_of (whole_text text.tokens) (operator_at text plan.operator)

-- of words: the includes of the first ways
abbrev pub first_spans : LookedText → FirstWays → List Span
first_spans text first = spans_of (flat_map way_includes (take first.most (ways_at text first.ways)))

-- of a selection with filters or `not in`: the least includes of the clean ways
abbrev pub least_spans : LookedText → WaysPlan → List Span
least_spans text plan = spans_of (least (map way_includes (filter (clean_under (kept_by [])) (ways_at text plan))))

-- of parts, of each of which it is known whether the text satisfies it and what is shown of it: of the first one that it satisfies
abbrev pub first_shown : List (Bool × List Span) → List Span
first_shown [] = []
first_shown (part ∷ rest) = if part.0 then part.1 else first_shown rest

module _ (text : LookedText) where
  -- one level, where of each part it is known what is shown of it
  abbrev pub node_layer : ShownNode-F (List Span) (Bool × List Span) → List Span
  node_layer (ShownNode-F.First first) = first_spans text first
  node_layer (ShownNode-F.Or parts) = first_shown parts
  node_layer (ShownNode-F.And parts) = flat_map (λ spans. spans) parts
  node_layer ShownNode-F.Nothing = []
  node_layer (ShownNode-F.Least plan) = least_spans text plan

  abbrev pub part_layer : ShownPart-F (List Span) (Bool × List Span) → Bool × List Span
  part_layer part = (truth part.node text, part.shown)

  unfoldable pub shown_spans : ShownNode → List Span
  shown_spans = fold-ShownNode (List Span) (Bool × List Span) node_layer part_layer

  -- whether the text satisfies a part of a choice, and what is shown of it
  abbrev pub shown_part : ShownPart → Bool × List Span
  shown_part part = (truth part.node text, shown_spans part.shown)
