-- A walk begins before a text's first character, goes on by one, and ends when all are passed. Loops over `char_indices` keep it.
use Rattle.std.proofs.Common.{◌≡◌, ◌∙◌, sym, ap, refl, ℕ, ◌+◌, List, [], ◌∷◌, ◌++◌, length, append_assoc}
use Rattle.std.specs.Prelude.{encode_utf8, encode_utf8_all}
use Rattle.std.specs.Str.{chars, IsUtf8}
use Rattle.std.proofs.lemmas.List.{append-nil, length-append, nil_from_length}
use Rattle.std.proofs.lemmas.Str.{encodes-append, chars_from_encodes}
use Rattle.ft_base.specs.steps.Walk.{Walk}

pub walk_start : (text : List ℕ) → Walk text [] 0 text
walk_start text = record { split = refl; counts = refl }

pub encodes-last : (prefix : List ℕ) (c : ℕ) → encode_utf8_all (prefix ++ c ∷ []) ≡ encode_utf8_all prefix ++ encode_utf8 c
encodes-last prefix c = encodes-append prefix (c ∷ []) ∙ ap (λ bytes. encode_utf8_all prefix ++ bytes) (append-nil (encode_utf8 c))

-- one more character is passed
pub walk_further : (text prefix rest left : List ℕ) (place further c : ℕ) → Walk text prefix place rest → rest ≡ encode_utf8 c ++ left → further ≡ place + length (encode_utf8 c)
    → Walk text (prefix ++ c ∷ []) further left
walk_further text prefix rest left place further c walk next on = record {
  split = ap (λ bytes. bytes ++ left) (encodes-last prefix c)
      ∙ (append_assoc (encode_utf8_all prefix) (encode_utf8 c) left ∙ (ap (λ bytes. encode_utf8_all prefix ++ bytes) (sym next) ∙ walk.split));
  counts = on ∙ (ap (λ n. n + length (encode_utf8 c)) walk.counts
      ∙ (sym (length-append (encode_utf8_all prefix) (encode_utf8 c)) ∙ ap length (sym (encodes-last prefix c))));
}

-- with nothing to come, the prefix is the whole text
pub walk_end : (text prefix rest : List ℕ) (place : ℕ) → Walk text prefix place rest → length rest ≡ 0 → IsUtf8 text → prefix ≡ chars text
walk_end text prefix rest place walk none utf8 =
    chars_from_encodes prefix text utf8
    (sym (append-nil (encode_utf8_all prefix)) ∙ (ap (λ bytes. encode_utf8_all prefix ++ bytes) (sym (nil_from_length rest none)) ∙ walk.split))
