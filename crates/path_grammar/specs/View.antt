-- The plain data that the parts of a path stand for.
use Rattle.std.specs.Prelude.{map}
use Rattle.path_grammar.specs.Form as form
use Rattle.path_grammar.specs.Form.{steps, predicates, conditions, paths}
use Rattle.path_grammar.specs.declared.path.Path.{Path}
use Rattle.path_grammar.specs.declared.path.Step.{Step, fold-Step}
use Rattle.path_grammar.specs.declared.path.Predicate.{Predicate, fold-Predicate}
use Rattle.path_grammar.specs.declared.path.Condition.{Condition, fold-Condition}
use Rattle.path_grammar.specs.declared.path.RelativePath.{RelativePath, fold-RelativePath}
use Rattle.path_grammar.specs.declared.path.Condition.TheOpen.{Step-F, Predicate-F, Condition-F, RelativePath-F}

-- one level of each, with what is inside already seen as its data
abbrev pub step_layer : Step-F form.Condition form.Predicate form.Steps form.Step → form.Step
step_layer s = form.step s.deep s.test (predicates s.predicates)

abbrev pub relative_path_layer : RelativePath-F form.Condition form.Predicate form.Steps form.Step → form.Steps
relative_path_layer p = steps p.steps

abbrev pub predicate_layer : Predicate-F form.Condition form.Predicate form.Steps form.Step → form.Predicate
predicate_layer (Predicate-F.Number k) = form.number k
predicate_layer (Predicate-F.Holds condition) = form.holds condition

abbrev pub condition_layer : Condition-F form.Condition form.Predicate form.Steps form.Step → form.Condition
condition_layer (Condition-F.Or parts) = form.or_of (conditions parts)
condition_layer (Condition-F.And parts) = form.and_of (conditions parts)
condition_layer (Condition-F.Not operand) = form.not_of operand.value
condition_layer (Condition-F.Attribute name value) = form.attribute name value
condition_layer (Condition-F.Exists further) = form.exists (steps further)
condition_layer (Condition-F.Contains further selection ignored) = form.contains (steps further) selection (paths ignored)

abbrev pub step : Step → form.Step
step = fold-Step form.Condition form.Predicate form.Steps form.Step condition_layer predicate_layer relative_path_layer step_layer

abbrev pub path : Path → form.Path
path p = record { root = p.root; steps = steps (map step p.steps) }

abbrev pub predicate : Predicate → form.Predicate
predicate = fold-Predicate form.Condition form.Predicate form.Steps form.Step condition_layer predicate_layer relative_path_layer step_layer

abbrev pub condition : Condition → form.Condition
condition = fold-Condition form.Condition form.Predicate form.Steps form.Step condition_layer predicate_layer relative_path_layer step_layer

abbrev pub relative_path : RelativePath → form.Steps
relative_path = fold-RelativePath form.Condition form.Predicate form.Steps form.Step condition_layer predicate_layer relative_path_layer step_layer
