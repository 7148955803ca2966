-- What a path selects is a filter of the document's elements.
use Rattle.std.proofs.Common.{◌≡◌, refl, sym, ℕ, Bool, false, List, [], ◌∷◌, filter, map, flat_map}
use Rattle.plain_tree.specs.Document.{Node}
use Rattle.path_meaning.specs.Elements.{Element, elements, is_in}
use Rattle.path_grammar.specs.Form.{Step, step, Steps, no_steps, step_then}
use Rattle.path_meaning.specs.Meaning.{Context, document, item, lists, is_named, stepped, led, filtered, selected}
use Rattle.path_meaning.proofs.Lists.{filter-none}

abbrev pub Part : List Element → List Element → Type 0
Part all some = (p : Element → Bool) × (some ≡ filter p all)

stepped-part : (satisfies : ℕ → List Element → Element → Bool) (all : List Element) (s : Step) (contexts : List Context) → Part all (stepped satisfies all s contexts)
unfolding stepped
stepped-part satisfies all (step deep test predicates) contexts =
    (is_in (map (λ items. filtered satisfies all predicates (filter (λ e. is_named test e.node) items)) (flat_map (lists deep) contexts)), refl)

led-part : (satisfies : ℕ → List Element → Element → Bool) (all : List Element) (rest : Steps) (items : List Element) → Part all items → Part all (led satisfies all rest items)
unfolding led
led-part satisfies all no_steps items part = part
led-part satisfies all (step_then s rest) items part =
    led-part satisfies all rest (stepped satisfies all s (map item items)) (stepped-part satisfies all s (map item items))

pub selected-part : (satisfies : ℕ → List Element → Element → Bool) (path : Steps) (root : Node) → Part (elements root) (selected satisfies path root)
unfolding selected
selected-part satisfies no_steps root = ((λ e. false), sym (filter-none (elements root)))
selected-part satisfies (step_then first rest) root =
    led-part satisfies (elements root) rest (stepped satisfies (elements root) first (document root ∷ [])) (stepped-part satisfies (elements root) first (document root ∷ []))
