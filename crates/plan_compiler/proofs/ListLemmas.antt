-- Shared lists by their names as texts, and as the bytes of these.
use Rattle.std.proofs.Common.{◌≡◌, refl, ap, ℕ, true, false, cond, List, [], ◌∷◌, map}
use Rattle.std.specs.Prelude.{String, string_bytes, bytes_eq, Some, option_map, is_some}
use Rattle.std.specs.List.{AllZip}
use Rattle.std.specs.Map.{lookup}
use Rattle.std.specs.Rc.{rc_value}
use Rattle.std.specs.String.{string_eq}
use Rattle.std.specs.declared.rc.Rc.{Rc}
use Rattle.indexmap.specs.IndexMap.{insert_entry}
use Rattle.plan_compiler.specs.SharedLists.{named}
use Rattle.plan_compiler.specs.NamedLists.{list_named, with_list}

module _ {L Y Z : Type 0} where
  -- whether there is a list of a name
  pub name_held : (name : List ℕ) (entries : List (String Y × Rc L Z)) → is_some (list_named name (map named entries)) ≡ is_some (lookup (λ t. bytes_eq name (string_bytes t)) entries)
  name_held name [] = refl
  name_held name (e ∷ es) =
      elim (bytes_eq name (string_bytes e.0)) as (λ t. is_some (cond t (Some (rc_value e.1)) (list_named name (map named es))) ≡ is_some (cond t (Some e.1) (lookup (λ t. bytes_eq name (string_bytes t)) es)))
      [ true ↦ refl | false ↦ name_held name es ]

  -- the list of a name
  pub list_found : (name : List ℕ) (entries : List (String Y × Rc L Z)) → list_named name (map named entries) ≡ option_map rc_value (lookup (λ t. bytes_eq name (string_bytes t)) entries)
  list_found name [] = refl
  list_found name (e ∷ es) =
      elim (bytes_eq name (string_bytes e.0)) as (λ t. cond t (Some (rc_value e.1)) (list_named name (map named es)) ≡ option_map rc_value (cond t (Some e.1) (lookup (λ t. bytes_eq name (string_bytes t)) es)))
      [ true ↦ refl | false ↦ list_found name es ]

  -- a list put under a name
  pub list_put : (name : String Y) (list : Rc L Z) (entries : List (String Y × Rc L Z)) → map named (insert_entry string_eq entries name list) ≡ with_list (string_bytes name) (rc_value list) (map named entries)
  list_put name list [] = refl
  list_put name list (e ∷ es) =
      elim (bytes_eq (string_bytes name) (string_bytes e.0)) as (λ t. map named (cond t ((e.0, list) ∷ es) (e ∷ insert_entry string_eq es name list))
      ≡ cond t ((string_bytes e.0, rc_value list) ∷ map named es) (named e ∷ with_list (string_bytes name) (rc_value list) (map named es)))
      [ true ↦ refl | false ↦ ap (λ ls. named e ∷ ls) (list_put name list es) ]

  -- lists that are shared under copies of their names
  pub lists_shared : (entries copies : List (String Y × Rc L Z)) → AllZip (λ p q. (string_bytes q.0 ≡ string_bytes p.0) × (rc_value q.1 ≡ rc_value p.1)) entries copies → map named copies ≡ map named entries
  lists_shared [] [] h = refl
  lists_shared [] (d ∷ ds) h = absurd h
  lists_shared (e ∷ es) [] h = absurd h
  lists_shared (e ∷ es) (d ∷ ds) h = λ i. (h.0.0 i, h.0.1 i) ∷ lists_shared es ds h.1 i
