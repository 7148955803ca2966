-- What was found at the hits of an operator, told of the node.
use Rattle.std.proofs.Common.{◌≡◌, refl, ap, sym, ◌∙◌, ℕ, Bool, arith}
use Rattle.ft_operators.specs.Ordered.{comes_in_order}
use Rattle.ft_operators.specs.Standing.{Frame}
use Rattle.ft_operators.specs.steps.Ordering.{IsOrdered}

pub ordered_inside : (inside inside_new node node_new : Frame) (start end : ℕ) (answer : Bool) → node ≡ inside → node_new ≡ inside_new
    → IsOrdered inside inside_new start end answer → IsOrdered node node_new start end answer
ordered_inside inside inside_new node node_new start end answer old new o = record {
  same = new ∙ o.same ∙ sym old;
  found = o.found ∙ ap (λ f. comes_in_order f.operator) (sym old);
  grown = o.grown;
}

-- where no hit has to be looked at
pub ordered_still : (inside node : Frame) (start : ℕ) (answer : Bool) → node ≡ inside → answer ≡ comes_in_order inside.operator → IsOrdered node node start start answer
ordered_still inside node start answer is found = record {
  same = refl;
  found = found ∙ ap (λ f. comes_in_order f.operator) (sym is);
  grown = omega arith;
}
