-- A letter other than the quotation mark has no byte of it, so it stands in a name as it is.
use Rattle.std.proofs.Common.{◌≡◌, ℕ, suc, ◌<◌, List, [], ◌∷◌, ◌++◌, length, get_or, refl, sym, ap, ◌∙◌, arith, false, eqb, cond, append-nil, append_assoc}
use Rattle.std.specs.Prelude.{flat_map, encode_utf8}
use Rattle.std.proofs.lemmas.Bool.{ne_eqb}
use Rattle.std.proofs.lemmas.Str.{inside_one}
use Rattle.std.proofs.lemmas.List.Concat.{flat_map-append}
use Rattle.element_lines.specs.Lines.{name_byte}

-- bytes without quotation marks stay
stays : (bs : List ℕ) → ((k : ℕ) → k < length bs → get_or bs k 0 ≡ 34 → ⊥) → flat_map name_byte bs ≡ bs
stays [] h = refl
stays (b ∷ bs) h =
    let other : eqb b 34 ≡ false = ne_eqb b 34 (h 0 (omega arith)) in
    ap (λ t. cond t (34 ∷ 34 ∷ []) (b ∷ []) ++ flat_map name_byte bs) other ∙ ap (λ rest. b ∷ rest) (stays bs (λ k l. h (suc k) (omega arith)))

pub name_letter : (letter : ℕ) → (letter ≡ 34 → ⊥) → flat_map name_byte (encode_utf8 letter) ≡ encode_utf8 letter
name_letter letter h = stays (encode_utf8 letter) (λ k l e. h (
    let small : get_or (encode_utf8 letter) k 0 < 128 = omega arith in
    inside_one letter [] (encode_utf8 letter) k (sym (append-nil (encode_utf8 letter))) l small ∙ e))

-- one more letter was written
pub one_more_letter : (out new whole letter rest left : List ℕ) → out ++ flat_map name_byte rest ≡ whole → rest ≡ letter ++ left → new ≡ out ++ flat_map name_byte letter → new ++ flat_map name_byte left ≡ whole
one_more_letter out new whole letter rest left known split written =
    ap (λ bs. bs ++ flat_map name_byte left) written
    ∙ append_assoc out (flat_map name_byte letter) (flat_map name_byte left)
    ∙ ap (λ bs. out ++ bs) (sym (flat_map-append name_byte letter left) ∙ ap (flat_map name_byte) (sym split))
    ∙ known
