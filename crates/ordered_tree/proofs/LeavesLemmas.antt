-- The leaves of a list of texts, part by part.
use Rattle.std.proofs.Common.{◌≡◌, ℕ, List, [], ◌∷◌, ◌++◌, Option, Some, refl, ap}
use Rattle.text_words.specs.Words.{words}
use Rattle.ordered_tree.specs.Leaves.{texts, texts_of, leaf_of, leaves_after, last_leaf}
use Rattle.ordered_tree.specs.Numbered.{Numbered, element_at, text_at, reference, children}
use Rattle.ordered_tree.specs.Slots.{held}
use Rattle.ft_base.specs.declared.ids.LeafId.{LeafId}
use Rattle.ft_base.specs.declared.ids.NodeRef.{NodeRef}
use Rattle.ordered_tree.specs.declared.slot.Held.TheVariants.{Element, Text}

pub leaves_after-append : (xs : List (NodeRef × List ℕ)) (ys : List (NodeRef × List ℕ)) (before : Option LeafId) → leaves_after before (xs ++ ys) ≡ leaves_after before xs ++ leaves_after (last_leaf before xs) ys
unfolding leaves_after last_leaf
leaves_after-append [] ys before = refl
leaves_after-append ((r, bytes) ∷ xs) ys before = ap (λ l. record { leaf = leaf_of r; after = before; words = words bytes } ∷ l) (leaves_after-append xs ys (Some (leaf_of r)))

pub last_leaf-append : (xs : List (NodeRef × List ℕ)) (ys : List (NodeRef × List ℕ)) (before : Option LeafId) → last_leaf before (xs ++ ys) ≡ last_leaf (last_leaf before xs) ys
unfolding last_leaf
last_leaf-append [] ys before = refl
last_leaf-append ((r, bytes) ∷ xs) ys before = last_leaf-append xs ys (Some (leaf_of r))

pub leaves_after-nil : (before : Option LeafId) → leaves_after before [] ≡ []
unfolding leaves_after
leaves_after-nil before = refl

pub last_leaf-nil : (before : Option LeafId) → last_leaf before [] ≡ before
unfolding last_leaf
last_leaf-nil before = refl

pub texts-element : (n : Numbered) (name : List ℕ) (attrs : _) → held n ≡ Element name attrs → texts n ≡ texts_of (children n)
texts-element (element_at r name' attrs' kids) name attrs h = refl
texts-element (text_at r bytes) name attrs h = cc

pub texts-text : (n : Numbered) (bytes : List ℕ) → held n ≡ Text bytes → texts n ≡ (reference n, bytes) ∷ []
texts-text (element_at r name attrs kids) bytes h = cc
texts-text (text_at r bytes') bytes h = let e : bytes' ≡ bytes = cc in ap (λ b. (r, b) ∷ []) e
