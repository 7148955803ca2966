-- Parts of compiled selections that are opened over a version by themselves, and walks through the ways of operators.
use Rattle.std.specs.Prelude.{◌≡◌, ℕ, Bool, true, List}
use Rattle.ft_base.specs.declared.span.Span.{Span}
use Rattle.all_matches.specs.Spans.{whole_text}
use Rattle.ft_operators.specs.Standing.{Aims}
use Rattle.ft_operators.specs.Walk.{own_span}
use Rattle.index_meaning.specs.Documents.{Numbered}
use Rattle.word_lists.specs.Stems.{Stem}
use Rattle.plan_compiler.specs.NodeMeaning.{truth}
use Rattle.plan_compiler.specs.Operators.{looked_text, operator_at}
use Rattle.plan_compiler.specs.declared.looks.Looks.{Looks}
use Rattle.plan_compiler.specs.declared.node.Node.{Node}
use Rattle.plan_compiler.specs.declared.operator_plan.OperatorPlan.{OperatorPlan}
use Rattle.plan_runs.specs.steps.AskedSpans.{AskedSpan, IsAsked, tokens_in}
use Rattle.plan_runs.specs.steps.RunShapes.{Shape, shape}
use Rattle.plan_runs.specs.steps.RunTruth.{IsSound, run_truth}
use Rattle.plan_runs.specs.declared.opened_part.OpenedPart.{OpenedPart}

-- what an opened part is: the version that it reads, and its tree
pub record Part : Type 0 where
  pub version : List Numbered
  pub tree : Shape

abbrev pub part_of : OpenedPart → Part
part_of part = record { version = part.version.now; tree = shape part.node }

-- it fits its version, and may be asked of this span of a document
pub record MayHold (doc : ℕ) (span : Span) (part : Part) : Type 0 where
  pub sound : IsSound part.version part.tree
  pub asked : IsAsked part.version (record { doc = doc; span = span })

-- what it says there
abbrev pub part_says : Part → ℕ → Span → Bool
part_says part doc span = run_truth part.version part.tree (record { doc = doc; span = span })

module _ (looks : Looks) (stems : List Stem) (version : List Numbered) where
  -- a part that fits the version, and says of each span of its documents what the compiled selection says of the tokens
  pub record IsPart (part : Part) (node : Node) : Type 0 where
    pub own : part.version ≡ version
    pub sound : IsSound part.version part.tree
    pub says : (asked : AskedSpan) → IsAsked version asked → part_says part asked.doc asked.span ≡ truth node (looked_text looks stems (tokens_in version asked))

  -- a walk that may be aimed at each of them, and is there over the tokens, in their numbers, what the compiled operator is
  pub record IsWalk (aims : Aims) (plan : OperatorPlan) : Type 0 where
    pub may : (asked : AskedSpan) → IsAsked version asked → aims.may asked.doc asked.span ≡ true
    pub operators : (asked : AskedSpan) → IsAsked version asked
        → aims.operators asked.doc asked.span ≡ operator_at (looked_text looks stems (tokens_in version asked)) plan
    pub item : (asked : AskedSpan) → IsAsked version asked → own_span asked.span ≡ whole_text (tokens_in version asked)
