-- Which attributes' names stand in the set of a start tag.
use Rattle.std.proofs.Common.{◌≡◌, refl, sym, ◌∙◌, ap, ℕ, ◌<◌, ◌≤◌, Bool, true, false, cond, ◌||◌, List, [], ◌∷◌, ◌++◌, ◌+◌, length, take, drop, take-append-drop, arith}
use Rattle.std.specs.Prelude.{String, string_bytes, bytes_eq}
use Rattle.std.specs.HashSet.{HashSet, contains_text}
use Rattle.std.proofs.lemmas.List.{drop_all, drop-append-le, length-append}
use Rattle.std.proofs.lemmas.List.Folds.{list_any-append}
use Rattle.plain_tree.specs.declared.tree.Attr.{Attr}
use Rattle.doc_grammar.specs.Grammar.{has_name}
use Rattle.doc_profile.specs.steps.LaterNames.{few}

-- a name that isn't among the first is there where it is among the others
pub among_later : (name : List ℕ) (attrs : List Attr) → false ≡ has_name name (take few attrs) → has_name name (drop few attrs) ≡ has_name name attrs
among_later name attrs absent =
    ap (λ b. b || has_name name (drop few attrs)) absent
    ∙ sym (list_any-append (λ (a : Attr). bytes_eq a.name name) (take few attrs) (drop few attrs))
    ∙ ap (has_name name) (take-append-drop few attrs)

-- an attribute among the first adds no name to the others'
pub none_later : (name : List ℕ) (attrs more : List Attr) (attr : Attr) → length attrs < few → more ≡ attrs ++ attr ∷ []
    → has_name name (drop few attrs) ≡ has_name name (drop few more)
none_later name attrs more attr fewer pushed =
    let long : length more ≡ length attrs + 1 = ap length pushed ∙ length-append attrs (attr ∷ []) in
    ap (has_name name) (drop_all few attrs (omega arith) ∙ sym (drop_all few more (omega arith)))

either : (x y : Bool) → cond x true y ≡ (y || (x || false))
either true true = refl
either true false = refl
either false true = refl
either false false = refl

-- an attribute after them adds its own
pub one_later : {Y S : Type 0} (name : List ℕ) (names : HashSet (String Y) S) (text : String Y) (attrs more : List Attr) (attr : Attr)
    → few ≤ length attrs → more ≡ attrs ++ attr ∷ [] → string_bytes text ≡ attr.name → contains_text names name ≡ has_name name (drop few attrs)
    → cond (bytes_eq (string_bytes text) name) true (contains_text names name) ≡ has_name name (drop few more)
one_later name names text attrs more attr many pushed spelled before =
    ap (λ (n : List ℕ). cond (bytes_eq n name) true (contains_text names name)) spelled
    ∙ ap (λ b. cond (bytes_eq attr.name name) true b) before
    ∙ either (bytes_eq attr.name name) (has_name name (drop few attrs))
    ∙ sym (list_any-append (λ (a : Attr). bytes_eq a.name name) (drop few attrs) (attr ∷ []))
    ∙ ap (has_name name) (sym (drop-append-le few attrs (attr ∷ []) many) ∙ ap (drop few) (sym pushed))
