-- Lists that are empty: their parts are, and a selection without a least fault has no faults.
use Rattle.std.proofs.Common.{◌≡◌, ℕ, Bool, true, false, List, [], ◌∷◌, ◌++◌, Option, Some, None, map, refl, sym, ◌∙◌, cond, nat_le}
use Rattle.std.specs.Prelude.{flat_map, option_map}
use Rattle.std.proofs.lemmas.List.Concat.{flat_map-append}
use Rattle.selection_faults.specs.Least.{earlier, least}
use Rattle.selection_grammar.specs.Tree.{Tree}

pub parts_empty : {A : Type 0} (xs ys : List A) → xs ++ ys ≡ [] → (xs ≡ []) × (ys ≡ [])
parts_empty [] ys h = (refl, h)
parts_empty (x ∷ xs) ys h = cc

-- what selections hold, where some of them stand after others
pub none_in : (places : Tree → List ℕ) (xs ys : List Tree) → flat_map places (xs ++ ys) ≡ [] → (flat_map places xs ≡ []) × (flat_map places ys ≡ [])
none_in places xs ys h = parts_empty (flat_map places xs) (flat_map places ys) (sym (flat_map-append places xs ys) ∙ h)

pub none_mapped : {A B : Type 0} (f : A → B) (xs : List A) → map f xs ≡ [] → xs ≡ []
none_mapped f [] h = refl
none_mapped f (x ∷ xs) h = cc

some_of_two : {A : Type 0} (b : Bool) (x y : A) → cond b (Some x) (Some y) ≡ None → ⊥
some_of_two true x y h = cc
some_of_two false x y h = cc

some_earlier : {A : Type 0} (place : A → ℕ) (x : A) (o : Option A) → earlier place (Some x) o ≡ None → ⊥
some_earlier place x None h = cc
some_earlier place x (Some y) h = some_of_two (nat_le (place x) (place y)) x y h

none_least : {A : Type 0} (place : A → ℕ) (xs : List A) → least place xs ≡ None → xs ≡ []
none_least place [] h = refl
none_least place (x ∷ xs) h = absurd (some_earlier place x (least place xs) h)

none_named : {A B : Type 0} (f : A → B) (o : Option A) → option_map f o ≡ None → o ≡ None
none_named f None h = refl
none_named f (Some x) h = cc

-- where no least one has a name, there is none
pub none_at_all : {A B : Type 0} (f : A → B) (place : A → ℕ) (xs : List A) → option_map f (least place xs) ≡ None → xs ≡ []
none_at_all f place xs h = none_least place xs (none_named f (least place xs) h)
