-- The document's group is the bit that is set.
use Rattle.std.proofs.Common.{◌||◌, ap, ◌∙◌}
use Rattle.index_groups.specs.Groups.{in_group, same_group}
use Rattle.index_groups.proofs.GroupLemmas.{group_more}
use Rattle.index_groups.proofs.groups.Groups.with_group_of.Goals as goal

pub returns : goal.returns
returns c = λ other. group_more c.self.inside.bits c.args.doc.0 other ∙ ap (λ groups. in_group groups other || same_group c.args.doc.0 other) c.self.view_is
