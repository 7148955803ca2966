-- The root alone has the empty place.
use Rattle.std.proofs.Common.{◌∙◌, ap}
use Rattle.ordered_tree.specs.Numbered.{reference}
use Rattle.ordered_tree.specs.Stored.{Stored}
use Rattle.tree_edits.specs.Edits.{is_among}
use Rattle.session_state.proofs.ChosenLemmas.{root-among}
use Rattle.session_state.proofs.targets.has_the_root.Goals as goal

pub returns : goal.returns
returns c =
    c.is_among.ensures
    ∙ (ap (is_among c.args.refs.now) (c.root.ensures.root ∙ ap (λ (t : Stored). reference t.root) c.tree.ensures.tree)
    ∙ root-among c.root_place_law.ensures c.args.document.now.tree.root c.args.refs.now c.requires)
