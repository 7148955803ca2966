-- What an evaluation finds.
use Rattle.std.proofs.Common.{◌≡◌, ◌∷◌, [], Option, Some, IfSome, subst}
use Rattle.std.proofs.lemmas.List.Elements.{All-nil, All-cons}
use Rattle.ordered_tree.specs.Numbered.{Numbered}
use Rattle.ft_base.specs.declared.ids.NodeRef.{NodeRef}
use Rattle.path_nodes.specs.References.{IsElement, element_of}
use Rattle.path_nodes.specs.steps.Found.{AreBelow}
use Rattle.path_nodes.specs.steps.Within.{AtOrBelow}
use Rattle.path_nodes.proofs.OrderLemmas.{one-ordered}
use Rattle.path_nodes.proofs.PrefixLemmas.{prefix-itself}

-- what holds of a value that is there
pub some-of : {A : Type 0} {o : Option A} {x : A} (P : A → Type 0) → o ≡ Some x → IfSome o P → P x
some-of P is h = subst (λ v. IfSome v P) is h

pub one-below : (root : Numbered) (item : NodeRef) → IsElement root item → AreBelow root item (item ∷ [])
one-below root item x =
    let e = element_of root item in
    record {
      base_is = x;
      there = All-cons (IsElement root) item [] x (All-nil (IsElement root));
      inside = All-cons (AtOrBelow e) e [] (prefix-itself e.place) (All-nil (AtOrBelow e));
      ordered = one-ordered e;
    }
