-- The tags and texts that a walk has left, one step further.
use Rattle.std.proofs.lemmas.List.{drop_all}
use Rattle.std.proofs.Common.{◌≡◌, ℕ, suc, ◌+◌, ◌<◌, ◌≤◌, List, [], ◌∷◌, ◌++◌, Some, None, map, length, drop, get_or, refl, sym, ap, ◌∙◌, append_assoc, append-nil, add-one, drop-cons}
use Rattle.plain_tree.specs.Document.{nodes}
use Rattle.plain_tree.specs.View.{node}
use Rattle.plain_tree.specs.declared.tree.Attr.{Attr}
use Rattle.plain_tree.specs.declared.tree.Tree.{Tree}
use Rattle.plain_tree.specs.declared.tree.Tree.TheVariants.{Elem, Text}
use Rattle.plain_tree.proofs.Views.{node_elem, node_text}
use Rattle.tokenizer.specs.Parts.{tag, characters, events, events_of}
use Rattle.tokenizer.specs.steps.Walks.{open_left, stack_left, events_left}
use Rattle.tokenizer.specs.declared.walk.Open.{Open}
use Rattle.tokenizer.specs.declared.walk.Walk.{Walk}

pub events-text : (bytes : List ℕ) → events (node (Text bytes)) ≡ characters bytes ∷ []
unfolding events
events-text bytes = ap events (node_text bytes)

pub events-elem : (name : List ℕ) (attrs : List Attr) (kids : List Tree) → events (node (Elem name attrs kids)) ≡ tag name ∷ (events_of (nodes (map node kids)) ++ tag name ∷ [])
unfolding events events_of
events-elem name attrs kids = ap events (node_elem name attrs kids)

pub stack_left-push : (outer : List Open) (inner : Open) → stack_left (outer ++ inner ∷ []) ≡ open_left inner ++ stack_left outer
unfolding stack_left
stack_left-push [] inner = sym (append-nil (open_left inner))
stack_left-push (first ∷ outer) inner = ap (λ l. l ++ open_left first) (stack_left-push outer inner) ∙ append_assoc (open_left inner) (stack_left outer) (open_left first)

-- the children from a place on: none, or the first of them and the others
pub events_of-done : (kids : List Tree) (begun : ℕ) → length kids ≤ begun → events_of (nodes (map node (drop begun kids))) ≡ []
unfolding events_of
events_of-done kids begun done = ap (λ l. events_of (nodes (map node l))) (drop_all begun kids done)

pub events_of-next : (kids : List Tree) (begun : ℕ) (kid : Tree) → begun < length kids → kid ≡ get_or kids begun kid → events_of (nodes (map node (drop begun kids))) ≡ events (node kid) ++ events_of (nodes (map node (drop (begun + 1) kids)))
unfolding events_of
events_of-next kids begun kid more is =
    rw add-one (ap (λ l. events_of (nodes (map node l))) (drop-cons kids begun kid more)
    ∙ ap (λ k. events (node k) ++ events_of (nodes (map node (drop (suc begun) kids)))) (sym is))

pub events_left-begun : (walk : Walk) → walk.root ≡ None → events_left walk ≡ stack_left walk.elements.items
unfolding events_left
events_left-begun walk none = rw none refl

pub events_left-new : (walk : Walk) (root : _) → walk.root ≡ Some root → events_left walk ≡ events (node root.now) ++ stack_left walk.elements.items
unfolding events_left
events_left-new walk root some = rw some (ap (λ l. l ++ stack_left walk.elements.items) (append-nil (events (node root.now))))

pub stack_left-nil : stack_left [] ≡ []
unfolding stack_left
stack_left-nil = refl

-- an open element all of whose children were begun, and one with a child to begin
pub open_left-done : (outer : Open) → length outer.kids.now ≤ outer.begun → open_left outer ≡ tag outer.name.now ∷ []
open_left-done outer done = ap (λ l. l ++ tag outer.name.now ∷ []) (events_of-done outer.kids.now outer.begun done)

pub open_left-next : (outer : Open) (kid : Tree) → outer.begun < length outer.kids.now → kid ≡ get_or outer.kids.now outer.begun kid → open_left outer ≡ events (node kid) ++ open_left (record outer { begun = outer.begun + 1 })
open_left-next outer kid more is =
    ap (λ l. l ++ tag outer.name.now ∷ []) (events_of-next outer.kids.now outer.begun kid more is) ∙ append_assoc (events (node kid)) _ _
