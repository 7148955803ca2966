-- The references are those of the free slots, and then the numbers after all slots.
use Rattle.std.proofs.Common.{◌≡◌, ◌≢◌, ◌+◌, ◌<◌, ◌++◌, length, max, sym, ap, ◌∙◌, subst}
use Rattle.std.specs.List.{All, AllPairs}
use Rattle.std.proofs.lemmas.Result.{IfOk-weaker}
use Rattle.doc_grammar.specs.Limits.{node_count}
use Rattle.ordered_tree.specs.Numbered.{plain}
use Rattle.ordered_tree.specs.Slots.{root_of}
use Rattle.ordered_tree.specs.Stands.{references}
use Rattle.ordered_tree.specs.steps.FreeSlots.{spare}
use Rattle.ordered_tree.proofs.FreeLemmas.{length-spare}
use Rattle.ordered_tree.proofs.ReferencedLemmas.{free-leads, apart-spare, below-spare}
use Rattle.ordered_tree.proofs.doc_tree.DocTree.spare_references.Goals as goal

pub spare_refs-requires-clause-leads : goal.spare_refs-requires-clause-leads
spare_refs-requires-clause-leads c = free-leads c.self.inside.slots c.self.inside.free (root_of c.self.inside.slots) c.self.invariant.stored

pub returns-clause-count : goal.returns-clause-count
returns-clause-count c =
    let slots = c.self.inside.slots in
    IfOk-weaker c.spare_refs.result (λ refs. refs ≡ spare c.args.count slots c.self.inside.free (length slots)) (λ refs. length refs ≡ c.args.count) (λ refs is. ap length is ∙ length-spare c.args.count slots c.self.inside.free (length slots)) c.spare_refs.ensures

pub returns-clause-apart : goal.returns-clause-apart
returns-clause-apart c =
    let slots = c.self.inside.slots in
    IfOk-weaker c.spare_refs.result (λ refs. refs ≡ spare c.args.count slots c.self.inside.free (length slots))
    (λ refs. AllPairs (λ a b. a ≢ b) (references c.args.self.now.root ++ refs)) (λ refs is.
    subst (λ v. AllPairs (λ a b. a ≢ b) (references v.root ++ refs)) c.self.view_is
    (subst (λ l. AllPairs (λ a b. a ≢ b) (references (root_of slots) ++ l)) (sym is) (apart-spare slots c.self.inside.free (root_of slots) c.self.invariant.stored c.args.count)))
    c.spare_refs.ensures

pub returns-clause-below : goal.returns-clause-below
returns-clause-below c =
    let slots = c.self.inside.slots in
    IfOk-weaker c.spare_refs.result (λ refs. refs ≡ spare c.args.count slots c.self.inside.free (length slots))
    (λ refs. All (λ r. r.0 < max c.args.self.now.slots (node_count (plain c.args.self.now.root) + c.args.count)) refs) (λ refs is.
    subst (λ v. All (λ r. r.0 < max v.slots (node_count (plain v.root) + c.args.count)) refs) c.self.view_is
    (subst (λ l. All (λ r. r.0 < max (length slots) (node_count (plain (root_of slots)) + c.args.count)) l) (sym is) (below-spare slots c.self.inside.free (root_of slots) c.self.invariant.stored c.args.count)))
    c.spare_refs.ensures
