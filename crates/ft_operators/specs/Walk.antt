-- What a walk through the ways of a selection shows: the selection where it is aimed, the ways that are left from the place on,
-- and the includes of the present one.
use Rattle.std.specs.Prelude.{ℕ, ◌-◌, List, [], ◌∷◌, drop, Option, Some, None}
use Rattle.ft_base.specs.declared.hit.Hit.{Hit}
use Rattle.ft_base.specs.declared.span.Span.{Span}
use Rattle.all_matches.specs.Ways.{Operator, phrase, Way, way_includes, ways_of}
use Rattle.ft_operators.specs.Phrases.{PhraseState}
use Rattle.ft_operators.specs.Standing.{Aims, phrase_aims, one_aims, two_aims}

pub record Walk : Type 0 where
  -- the span in whose numbers the hits are told
  pub item : Span
  pub aims : Aims
  pub operator : Operator
  pub rest : List Way
  pub tuple : Option (List Hit)

-- the includes of the present way; there are none before the first way and at the end
abbrev pub tuple_of : List Way → Option (List Hit)
tuple_of [] = None
tuple_of (way ∷ rest) = Some (way_includes way)

-- before the first way
abbrev pub before_first : Span → Aims → Operator → Walk
before_first item aims operator = record { item = item; aims = aims; operator = operator; rest = []; tuple = None }

-- at the first of these ways
abbrev pub walk_at : List Way → Walk → Walk
walk_at ways walk = record { item = walk.item; aims = walk.aims; operator = walk.operator; rest = ways; tuple = tuple_of ways }

-- at the first way
abbrev pub at_first_way : Walk → Walk
at_first_way walk = walk_at (ways_of walk.item walk.operator) walk

-- one way further on
abbrev pub at_next_way : Walk → Walk
at_next_way walk = walk_at (drop 1 walk.rest) walk

-- a span, told in its own numbers: its first word is the first
abbrev pub own_span : Span → Span
own_span span = record { from = span.from - (span.from - 1); to = span.to - (span.from - 1) }

-- no word
abbrev pub nowhere : Span
nowhere = record { from = 1; to = 1 }

-- aimed at a span of a document, before the first way there
abbrev pub aimed_walk : ℕ → Span → Walk → Walk
aimed_walk doc span walk = before_first (own_span span) walk.aims (walk.aims.operators doc span)

-- the walk through the hits of a phrase, and the walks that are made of those of one operand and of two: none of them is at a way
abbrev pub phrase_walk : PhraseState → Walk
phrase_walk state = before_first nowhere (phrase_aims state.aims) (phrase state.hits)

abbrev pub made_walk : (Operator → Operator) → Walk → Walk
made_walk made operand = before_first nowhere (one_aims made operand.aims) (made operand.operator)

abbrev pub joined_walk : (Operator → Operator → Operator) → Walk → Walk → Walk
joined_walk joined left right = before_first nowhere (two_aims joined left.aims right.aims) (joined left.operator right.operator)
