-- The bytes of one character more.
use Rattle.std.proofs.Common.{◌≡◌, ℕ, ◌+◌, ◌<◌, List, [], ◌∷◌, ◌++◌, length, get_or, take, ap, sym, ◌∙◌, append-nil}
use Rattle.std.specs.Prelude.{encode_utf8, encode_utf8_all}
use Rattle.std.proofs.lemmas.List.{take_more}
use Rattle.std.proofs.lemmas.Str.{encodes-append}

pub encodes_more : (letters : List ℕ) (i c : ℕ) → i < length letters → c ≡ get_or letters i c → encode_utf8_all (take (i + 1) letters) ≡ encode_utf8_all (take i letters) ++ encode_utf8 c
encodes_more letters i c h is =
    ap encode_utf8_all (take_more letters i c h ∙ ap (λ d. take i letters ++ d ∷ []) (sym is))
    ∙ encodes-append (take i letters) (c ∷ []) ∙ ap (λ bs. encode_utf8_all (take i letters) ++ bs) (append-nil (encode_utf8 c))
