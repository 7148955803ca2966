-- A node stands under no more elements than the tree is deep, so the climb to the root gives its whole place.
use Rattle.std.proofs.Common.{◌≡◌, ◌++◌, ◌≤◌, Some, sym, ap, ◌∙◌, subst, arith}
use Rattle.std.specs.List.{Contains}
use Rattle.std.proofs.lemmas.List.Elements.{All-contains}
use Rattle.ordered_tree.specs.steps.Climbing.{climbed, Climbs}
use Rattle.ordered_tree.specs.Counts.{element_depth}
use Rattle.ordered_tree.specs.Numbered.{plain}
use Rattle.ordered_tree.specs.Places.{at_place}
use Rattle.ordered_tree.specs.Slots.{root_of}
use Rattle.ordered_tree.specs.Stands.{stands_in, references}
use Rattle.ordered_tree.proofs.PlacesLemmas.{Placed, all-placed}
use Rattle.ordered_tree.proofs.ReadingLemmas.{Found, found}
use Rattle.ordered_tree.proofs.doc_tree.DocTree.place_of.Goals as goal

pub add_place-requires : goal.add_place-requires
add_place-requires c =
    let slots = c.self.inside.slots in
    let root = root_of slots in
    let there : Contains (references root) c.args.node = subst (λ v. Contains (references v.root) c.args.node) (sym c.self.view_is) c.requires in
    let f : Found root c.args.node = found root c.args.node there in
    let p : Placed slots root (element_depth (plain root)) f.stand.node =
    All-contains (λ s. Placed slots root (element_depth (plain root)) s.node) (stands_in root) f.stand (all-placed slots root c.self.invariant.stored.stands) f.among in
    let deep : element_depth (plain root) ≤ c.self.inside.depth = omega (arith, c.self.invariant.levels_are) in
    subst (Climbs c.self.inside.depth slots) f.refers (p.may c.self.inside.depth deep)

pub returns : goal.returns
returns c s among refers =
    let slots = c.self.inside.slots in
    let root = root_of slots in
    let among' : Contains (stands_in root) s = subst (λ v. Contains (stands_in v.root) s) (sym c.self.view_is) among in
    let p : Placed slots root (element_depth (plain root)) s.node =
    All-contains (λ s. Placed slots root (element_depth (plain root)) s.node) (stands_in root) s (all-placed slots root c.self.invariant.stored.stands) among' in
    let deep : element_depth (plain root) ≤ c.self.inside.depth = omega (arith, c.self.invariant.levels_are) in
    let is : c.add_place.new.place ≡ p.place =
    c.in_ok-add_place.ensures ∙ ap (λ l. l ++ climbed c.self.inside.depth slots c.args.node) c.new-place.ensures
    ∙ ap (climbed c.self.inside.depth slots) (sym refers) ∙ p.climbs c.self.inside.depth deep in
    subst (λ v. at_place c.add_place.new.place v.root ≡ Some s.node) c.self.view_is (ap (λ l. at_place l root) is ∙ p.leads)
