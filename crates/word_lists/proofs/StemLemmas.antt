-- Pairs of texts, and the pairs of their bytes.
use Rattle.std.proofs.Common.{◌≡◌, ap, refl, ℕ, true, false, cond, ◌||◌, List, [], ◌∷◌, ◌++◌, map}
use Rattle.std.specs.Prelude.{String, string_bytes, bytes_eq, Option, Some, None, is_some, option_map}
use Rattle.std.specs.Map.{lookup}
use Rattle.word_lists.specs.Stems.{Stem, has_stem, with_stem}
use Rattle.word_lists.specs.View.{bytes_of_both}

abbrev pub found_in : {Y Z : Type 0} → List ℕ → List (String Y × String Z) → Option (String Z)
found_in key pairs = lookup (λ t. bytes_eq key (string_bytes t)) pairs

-- the stem of a key, where the texts have one
pub stem_found : {Y Z : Type 0} (key : List ℕ) (pairs : List (String Y × String Z)) → lookup (bytes_eq key) (map bytes_of_both pairs) ≡ option_map string_bytes (found_in key pairs)
stem_found key [] = refl
stem_found key (p ∷ ps) =
    elim (bytes_eq key (string_bytes p.0)) as (λ t. cond t (Some (string_bytes p.1)) (lookup (bytes_eq key) (map bytes_of_both ps)) ≡ option_map string_bytes (cond t (Some p.1) (found_in key ps)))
    [ true ↦ refl | false ↦ stem_found key ps ]

-- whether a key has a stem
pub stem_held : {Y Z : Type 0} (key : List ℕ) (pairs : List (String Y × String Z)) → has_stem key (map bytes_of_both pairs) ≡ is_some (found_in key pairs)
stem_held key [] = refl
stem_held key (p ∷ ps) =
    elim (bytes_eq key (string_bytes p.0)) as (λ t. (t || has_stem key (map bytes_of_both ps)) ≡ is_some (cond t (Some p.1) (found_in key ps)))
    [ true ↦ refl | false ↦ stem_held key ps ]

-- a pair whose key is there is refused, and another goes to the end
pub stem_refused : (stems : List Stem) (stem : Stem) → has_stem stem.0 stems ≡ true → with_stem stems stem ≡ None
stem_refused stems stem h = ap (λ b. cond b None (Some (stems ++ stem ∷ []))) h

pub stem_added : (stems : List Stem) (stem : Stem) → has_stem stem.0 stems ≡ false → with_stem stems stem ≡ Some (stems ++ stem ∷ [])
stem_added stems stem h = ap (λ b. cond b None (Some (stems ++ stem ∷ []))) h
