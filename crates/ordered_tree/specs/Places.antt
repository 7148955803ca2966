-- The node at a place: the child numbers that lead to it from the root down, each counted from 1.
use Rattle.std.specs.Prelude.{ℕ, zero, suc, List, [], ◌∷◌, Option, Some, None, option_and_then}
use Rattle.ordered_tree.specs.Numbered.{Numbered, Children, no_children, child_then, children}

abbrev pub child : ℕ → Children → Option Numbered
child number no_children = None
child zero (child_then n ns) = None
child (suc zero) (child_then n ns) = Some n
child (suc (suc k)) (child_then n ns) = child (suc k) ns

abbrev pub at_place : List ℕ → Numbered → Option Numbered
at_place [] n = Some n
at_place (k ∷ place) n = option_and_then (at_place place) (child k (children n))
