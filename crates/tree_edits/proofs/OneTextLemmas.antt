-- One text that isn't empty is joined, and no edit makes others of it.
use Rattle.std.proofs.Common.{◌≡◌, Bool, true, [], ◌∷◌, refl}
use Rattle.ft_base.specs.declared.ids.NodeRef.{NodeRef}
use Rattle.ordered_tree.specs.Numbered.{Numbered, element_at, text_at, Children, no_children, child_then}
use Rattle.tree_edits.specs.Edits.{all_changed, joined}
use Rattle.tree_edits.specs.steps.Editing.{are_one_text}

pub joined_one : (ns : Children) → are_one_text ns ≡ true → joined ns ≡ ns
joined_one no_children h = refl
joined_one (child_then (element_at r name attrs kids) ns) h = cc
joined_one (child_then (text_at r []) no_children) h = cc
joined_one (child_then (text_at r (c ∷ bytes)) no_children) h = refl
joined_one (child_then (text_at r bytes) (child_then n ns)) h = cc

pub changed_one : (chosen : NodeRef → Bool) (change : Numbered → Children) (ns : Children) → are_one_text ns ≡ true → all_changed chosen change ns ≡ ns
changed_one chosen change no_children h = refl
changed_one chosen change (child_then (element_at r name attrs kids) ns) h = cc
changed_one chosen change (child_then (text_at r bytes) no_children) h = refl
changed_one chosen change (child_then (text_at r bytes) (child_then n ns)) h = cc
