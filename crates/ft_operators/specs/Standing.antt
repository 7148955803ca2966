-- A walk through the ways of an operator, from the first to the last.
use Rattle.std.specs.Prelude.{ℕ, Bool, ◌&&◌, List, [], ◌∷◌, drop}
use Rattle.ft_base.specs.declared.hit.Hit.{Hit}
use Rattle.ft_base.specs.declared.span.Span.{Span}
use Rattle.all_matches.specs.Ways.{Operator, phrase, Way, way_includes}
use Rattle.ft_operators.specs.declared.course.Course.{Course}
use Rattle.ft_operators.specs.Course.{course_beside, ways_on}
use Rattle.ft_operators.specs.Phrases.{PhraseAims}

-- at which spans of which documents an operator may be aimed, and the operator that it is there
pub record Aims : Type 0 where
  pub may : ℕ → Span → Bool
  pub operators : ℕ → Span → Operator

-- those of a phrase, and those of what is made of one operand and of two
abbrev pub phrase_aims : PhraseAims → Aims
phrase_aims aims = record { may = aims.may; operators = λ doc span. phrase (aims.hits doc span) }

abbrev pub one_aims : (Operator → Operator) → Aims → Aims
one_aims made operand = record { may = operand.may; operators = λ doc span. made (operand.operators doc span) }

abbrev pub two_aims : (Operator → Operator → Operator) → Aims → Aims → Aims
two_aims joined left right = record {
  may = λ doc span. left.may doc span && right.may doc span;
  operators = λ doc span. joined (left.operators doc span) (right.operators doc span);
}

-- what an operator is made of: how many hits the walk has to hold at once; how large it is; and how many filters a chain has
-- to hold where it is asked whether a way is clean, and how many hits before them
pub record Shape : Type 0 where
  pub room : ℕ
  pub weight : ℕ
  pub filters : ℕ
  pub hits : ℕ

-- an operator, whatever the place of a walk through its ways
pub record Frame : Type 0 where
  pub aims : Aims
  pub shape : Shape
  pub operator : Operator

-- the same at a span of a document
abbrev pub aimed : ℕ → Span → Frame → Frame
aimed doc span f = record { aims = f.aims; shape = f.shape; operator = f.aims.operators doc span }

-- an operator, and the ways of it that are left from the place of the walk on
pub record Standing : Type 0 where
  pub aims : Aims
  pub shape : Shape
  pub operator : Operator
  pub rest : List Way

abbrev pub frame : Standing → Frame
frame s = record { aims = s.aims; shape = s.shape; operator = s.operator }

-- before the first way of the course
abbrev pub at_prefix : Course → Standing → Standing
at_prefix course s = record { aims = s.aims; shape = s.shape; operator = s.operator; rest = ways_on course s.operator }

-- one way further on
abbrev pub one_on : Standing → Standing
one_on s = record { aims = s.aims; shape = s.shape; operator = s.operator; rest = drop 1 s.rest }

-- the includes of the first of some ways
abbrev pub includes_now : List Way → List Hit
includes_now [] = []
includes_now (way ∷ rest) = way_includes way

-- the course of the right side of an And, at the first of the ways of the left side
abbrev pub course_now : Course → List Way → Course
course_now course ways = course_beside course (includes_now ways)
