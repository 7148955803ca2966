-- The selections so far.
use Rattle.std.proofs.Common.{◌≡◌, map}
use Rattle.ft_syntax.specs.View.{form}
use Rattle.selection_grammar.specs.Form.{form_of}
use Rattle.selection_grammar.specs.View.{tree}
use Rattle.selection_faults.proofs.selection.+make.Given as goal

abbrev pub invariant-selections_of-loop-part : goal.invariant-selections_of-loop-part
invariant-selections_of-loop-part l = map form l.selections ≡ map form_of (map tree l.yielded)
