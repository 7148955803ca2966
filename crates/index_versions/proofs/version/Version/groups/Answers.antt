-- A term whose id may not stand in the group of a document doesn't stand there.
use Rattle.std.proofs.Common.{ap, sym, ◌∙◌}
use Rattle.index_groups.specs.Groups.{in_group}
use Rattle.index_versions.specs.Versions.{stands_in}
use Rattle.index_versions.specs.steps.Sound.{meaning}
use Rattle.index_versions.proofs.GroupLemmas.{apart_stands}
use Rattle.index_versions.proofs.version.Version.groups.Goals as goal

pub returns : goal.returns
returns c = λ doc apart.
    let parts = c.self.inside.parts in
    ap (stands_in c.args.term doc) (sym c.self.view_is)
    ∙ apart_stands parts.groups parts.documents (meaning parts) c.args.term c.term_id-id.result doc c.self.invariant.grouped (c.term_id-id.ensures.placed doc)
    (ap (λ groups. in_group groups doc) (sym c.groups_of.ensures) ∙ apart)
