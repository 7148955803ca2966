-- Each node goes to the end, an element once its children are joined.
use Rattle.std.proofs.Common.{◌∷◌, ◌++◌, [], sym, ap, ◌∙◌}
use Rattle.plain_tree.specs.Document.{are_joined}
use Rattle.plain_tree.specs.Edits.{append, joined, only}
use Rattle.plain_tree.specs.View.{node}
use Rattle.plain_tree.specs.declared.tree.Tree.TheVariants.{Elem}
use Rattle.plain_tree.proofs.JoiningLemmas.{joined_are}
use Rattle.plain_tree.proofs.TreesJoined.{row, none_more, one_more, element_after}
use Rattle.plain_tree.proofs.joining.+joining.Goals as goal

pub join_all-loop-tree-init : goal.join_all-loop-tree-init
join_all-loop-tree-init t c = record { can_next = tt; is_finite = tt; joined = none_more c.args.list.now.items c.requires }

pub join_all-loop-tree-preserved : goal.join_all-loop-tree-preserved
join_all-loop-tree-preserved t c =
    let before = c.loop-tree.invariant.joined in
    record {
      can_next = tt;
      is_finite = tt;
      joined = one_more c.args.list.now.items c.loop-tree.list.items c.loop-tree.yielded c.in-Some.tree c.join_tree.new.list.items before
          (c.in_ok-join_tree.ensures (ap are_joined before ∙ joined_are (append (row c.args.list.now.items) (row c.loop-tree.yielded))));
    }

pub join_tree-returns-in_ok-push-in-Elem : goal.join_tree-returns-in_ok-push-in-Elem
join_tree-returns-in_ok-push-in-Elem t c =
    let old = c.args.list.now.items in
    let kids = c.in-Elem.kids in
    λ h.
    ap row c.in_ok-push-in-Elem.ensures.items
    ∙ ap (λ made. row (old ++ Elem c.in-Elem.name c.in-Elem.attrs made ∷ [])) c.from_vec.ensures
    ∙ element_after old c.in-Elem.name c.in-Elem.attrs kids c.join_all.new.list.items h
    (c.in_ok-join_all-in-Elem.ensures.all ∙ ap (λ empty. joined (append (row empty) (row kids))) c.new-joined.ensures.items)
    ∙ ap (λ tree. joined (append (row old) (only (node tree)))) (sym c.in-Elem.is)
