-- Content comes to one element alone.
use Rattle.std.proofs.Common.{◌∙◌, sym, ap, List}
use Rattle.std.specs.List.{sum_by}
use Rattle.std.specs.Prelude.{length}
use Rattle.ft_base.specs.declared.ids.NodeRef.{NodeRef}
use Rattle.session_state.proofs.ChosenLemmas.{as-many-targets, once-holds}
use Rattle.session_state.proofs.editing.edit_within.Goals as goal

pub edit-requires-clause-once : goal.edit-requires-clause-once
edit-requires-clause-once g c =
    let edit = c.args.edit.now in
    let chosen = c.args.chosen.now in
    let many = ap (λ (rs : List (List NodeRef)). sum_by length rs) c.as_slice.ensures ∙ (as-many-targets c.args.stamped.now.indexed.trees chosen.refs c.requires.there ∙ sym c.requires.count) in
    once-holds edit.targets edit.how chosen.count _ chosen.has_root edit.content.now c.requires.accepted edit.once many
