-- What is known of the conditions of a path.
use Rattle.std.specs.Prelude.{◌≡◌, ◌≢◌, ℕ, nat_eq, Bool, true, ◌&&◌, List, [], ◌∷◌, Option, Some}
use Rattle.std.specs.HashMap.{HashMap, get}
use Rattle.ordered_tree.specs.Numbered.{Numbered, plain}
use Rattle.ft_base.specs.declared.ids.NodeRef.{NodeRef}
use Rattle.path_grammar.specs.Form.{Condition, Paths, Steps, contains, no_paths}
use Rattle.path_meaning.specs.Elements.{elements}
use Rattle.path_meaning.specs.Meaning.{is_true}
use Rattle.path_nodes.specs.Asked.{MayAsk}
use Rattle.path_nodes.specs.steps.Leading.{StandFrom}
use Rattle.path_nodes.specs.References.{element_of}
use Rattle.path_nodes.specs.Says.{Meaning, satisfied}

-- whether two pairs of a condition's number and a node's are the same
abbrev pub is_same_pair : ℕ × ℕ → ℕ × ℕ → Bool
is_same_pair p q = nat_eq p.0 q.0 && nat_eq p.1 q.1

-- the truth that is known of the condition of a number at a node
abbrev pub known_truth : {S : Type 0} → HashMap (ℕ × ℕ) Bool S → ℕ → NodeRef → Option Bool
known_truth truths number r = get is_same_pair truths (number, r.0)

-- It is the truth of the condition of a number at a node.
abbrev pub IsTruth : Numbered → Meaning → List Condition → ℕ → NodeRef → Bool → Type 0
IsTruth root m conditions number r truth =
    (condition : Condition) → StandFrom conditions number (condition ∷ []) → truth ≡ is_true (satisfied root m) (elements (plain root)) condition (element_of root r)

-- Each truth that is known is the condition's.
abbrev pub AreRight : {S : Type 0} → Numbered → Meaning → List Condition → HashMap (ℕ × ℕ) Bool S → Type 0
AreRight root m conditions truths = (number : ℕ) (r : NodeRef) (truth : Bool) → known_truth truths number r ≡ Some truth → IsTruth root m conditions number r truth

-- Holes may be given for these paths to what is ignored: where there is one.
abbrev pub MayGive : Bool → Paths → Type 0
MayGive takes paths = paths ≢ no_paths → takes ≡ true

-- The test takes holes where a condition has paths to what is ignored.
abbrev pub AreGiven : Bool → List Condition → Type 0
AreGiven takes conditions =
    (number : ℕ) (steps : Steps) (selection : ℕ) (paths : Paths) → StandFrom conditions number (contains steps selection paths ∷ []) → MayGive takes paths

-- The test may be asked for the selection of each condition.
abbrev pub AreAsked : Numbered → Meaning → List Condition → Type 0
AreAsked root m conditions =
    (number : ℕ) (steps : Steps) (selection : ℕ) (paths : Paths) → StandFrom conditions number (contains steps selection paths ∷ []) → MayAsk root m selection
