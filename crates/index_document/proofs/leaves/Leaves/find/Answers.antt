-- The slot of a number is the place of its leaf, counted from 1.
use Rattle.std.proofs.Common.{ap, ◌∙◌}
use Rattle.index_document.specs.Terms.{TermDocument, leaf_ids}
use Rattle.index_document.specs.steps.Directory.{slot_of}
use Rattle.index_document.proofs.LeafLemmas.{found-slot, found-none}
use Rattle.index_document.proofs.leaves.Leaves.find.Goals as goal

pub returns-clause-found : goal.returns-clause-found
returns-clause-found c =
    let id = c.args.leaf.0 in
    found-slot c.checked_sub.result c.number_at.result c.args.self.now.leaves id c.checked_sub.ensures
    (c.number_at.ensures ∙ c.self.invariant.slots_are id ∙ ap (λ (d : TermDocument). slot_of (leaf_ids d.leaves) id) c.self.view_is)

pub returns-clause-none : goal.returns-clause-none
returns-clause-none c =
    let id = c.args.leaf.0 in
    found-none c.checked_sub.result c.number_at.result c.args.self.now.leaves id c.checked_sub.ensures
    (c.number_at.ensures ∙ c.self.invariant.slots_are id ∙ ap (λ (d : TermDocument). slot_of (leaf_ids d.leaves) id) c.self.view_is)
