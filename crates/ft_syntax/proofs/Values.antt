-- A value of no string, or of several.
use Rattle.std.proofs.Common.{◌≡◌, ℕ, List, [], ◌∷◌, ◌++◌, length, codes, refl}
use Rattle.ft_syntax.specs.OptionSymbols.{strings_symbols, value_symbols}

pub other_values : (texts : List (List ℕ)) → (length texts ≡ 1 → ⊥) → codes "{" ∷ strings_symbols texts ++ codes "}" ∷ [] ≡ value_symbols texts
other_values [] h = refl
other_values (text ∷ []) h = absurd (h refl)
other_values (text ∷ next ∷ rest) h = refl
