-- The form of a selection.
use Rattle.std.proofs.Common.{map}
use Rattle.path_subset.specs.Paths.{PlacedForm, found_form}
use Rattle.path_subset.proofs.Extents.{picked}
use Rattle.path_subset.proofs.path.ReadPath.selection.Goals as goal

pub returns : goal.returns
returns c = picked (λ (s : PlacedForm). s.form) (map found_form c.args.self.now.selections) c.args.number (found_form c.get.result.now) (picked found_form c.args.self.now.selections c.args.number c.get.result.now c.get.ensures)
