-- A leaf is found at its place, and the next place is the one directly after it.
use Rattle.std.proofs.Common.{◌≡◌, ap, ◌∙◌, subst, sym, arith, true, true≢false, Option, IfSome}
use Rattle.std.proofs.lemmas.List.{length-map}
use Rattle.ft_base.specs.declared.ids.LeafId.{LeafId}
use Rattle.index_document.specs.Terms as by_id
use Rattle.index_versions.specs.steps.Held.{place_following}
use Rattle.index_versions.proofs.LeafLemmas.{place_found}
use Rattle.index_versions.proofs.leaves.place_following.Goals as goal

pub returns-in-Some-find_leaf-clause-place : goal.returns-in-Some-find_leaf-clause-place
returns-in-Some-find_leaf-clause-place c =
    let ids = by_id.leaf_ids c.args.index.now.leaves in
    let found = c.in-Some-find_leaf.ensures.found in
    let size = length-map c.args.index.now.leaves (λ (l : by_id.Leaf). l.id) in
    place_found c.in-Some.leaf.0 ids c.in-Some-find_leaf.number c.leaf_count-leaves.ensures.distinct (omega (arith, size, found.0)) found.1
    ∙ ap (λ after. place_following after ids) (sym c.in-Some.is)

pub unreachable-requires : goal.unreachable-requires
unreachable-requires c =
    let ids = by_id.leaf_ids c.args.index.now.leaves in
    let there : by_id.has c.in-Some.leaf.0 ids ≡ true = subst (λ (after : Option LeafId). IfSome after (λ other. by_id.has other.0 ids ≡ true)) c.in-Some.is c.requires in
    true≢false (sym there ∙ c.in-None-find_leaf.ensures.none)
