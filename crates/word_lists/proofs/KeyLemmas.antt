-- A set of texts, and the set of their bytes.
use Rattle.std.proofs.Common.{◌≡◌, ◌∙◌, ap, refl, ℕ, Bool, true, false, cond, ◌||◌, List, [], ◌∷◌, ◌++◌, map}
use Rattle.std.specs.Prelude.{String, string_bytes, bytes_eq}
use Rattle.std.specs.List.{list_any}
use Rattle.std.proofs.lemmas.List.{map-append}
use Rattle.word_lists.specs.KeySets.{with_key}

-- a key is in the set of texts where it is in that of their bytes
pub any_bytes : {Y : Type 0} (key : List ℕ) (texts : List (String Y)) → list_any (λ t. bytes_eq key (string_bytes t)) texts ≡ list_any (bytes_eq key) (map string_bytes texts)
any_bytes key [] = refl
any_bytes key (t ∷ ts) = ap (λ b. bytes_eq key (string_bytes t) || b) (any_bytes key ts)

-- a text that is put into the set puts its bytes into that of the bytes
pub bytes_with_key : {Y : Type 0} (texts : List (String Y)) (text : String Y)
    → map string_bytes (cond (list_any (λ t. bytes_eq (string_bytes text) (string_bytes t)) texts) texts (texts ++ text ∷ [])) ≡ with_key (map string_bytes texts) (string_bytes text)
bytes_with_key texts text =
    by_test (list_any (λ t. bytes_eq (string_bytes text) (string_bytes t)) texts)
    ∙ ap (λ b. cond b (map string_bytes texts) (map string_bytes texts ++ string_bytes text ∷ [])) (any_bytes (string_bytes text) texts)
  where
    by_test : (b : Bool) → map string_bytes (cond b texts (texts ++ text ∷ [])) ≡ cond b (map string_bytes texts) (map string_bytes texts ++ string_bytes text ∷ [])
    by_test true = refl
    by_test false = map-append string_bytes texts (text ∷ [])
