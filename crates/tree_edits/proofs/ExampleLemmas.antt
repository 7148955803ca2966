-- The documents of the examples keep their order, and fit into slots.
use Rattle.std.proofs.Common.{ℕ, ◌<◌, List, [], ◌∷◌, refl, sym, subst, arith}
use Rattle.std.specs.List.{All, IsDistinct}
use Rattle.std.proofs.lemmas.List.Elements.{All-from_recursion}
use Rattle.ft_base.specs.declared.ids.NodeRef.{NodeRef}
use Rattle.ordered_tree.specs.Stands.{references}
use Rattle.tree_edits.specs.Changed.{KeepsOrder}
use Rattle.tree_edits.specs.Edits.{is_same, references_in}
use Rattle.tree_edits.specs.Examples.{letters, without_b}
use Rattle.tree_edits.specs.Fitting.{FitsSlots}
use Rattle.tree_edits.proofs.EditLemmas.{node_pairs, references-are}
use Rattle.tree_edits.proofs.References.{few_times}

abbrev pub first_number : List NodeRef → ℕ
first_number [] = 0
first_number (r ∷ rs) = r.0

apart_letters : IsDistinct is_same (references_in letters)
unfolding IsDistinct
apart_letters = ((refl, (refl, (refl, (refl, tt)))), ((refl, (refl, (refl, tt))), ((refl, (refl, tt)), ((refl, tt), (tt, tt)))))

apart_without : IsDistinct is_same (references_in without_b)
unfolding IsDistinct
apart_without = ((refl, tt), (tt, tt))

pub joined_order : KeepsOrder letters without_b
joined_order = record {
  apart_before = node_pairs letters (few_times (references_in letters) apart_letters);
  apart = node_pairs without_b (few_times (references_in without_b) apart_without);
  order = refl;
}

letters_below : All (λ (r : NodeRef). r.0 < 5) (references letters)
letters_below =
    subst (All (λ (r : NodeRef). r.0 < 5)) (sym (references-are letters))
    (All-from_recursion (λ (r : NodeRef). r.0 < 5) (references_in letters) (omega arith, (omega arith, (omega arith, (omega arith, (omega arith, tt))))))

pub letters_fit : FitsSlots letters 5
letters_fit = record { rooted = refl; document = refl; apart = joined_order.apart_before; below = letters_below; few_slots = omega arith }
