-- Escaped characters, texts and values are read back.
use Rattle.std.proofs.Common.{◌≡◌, ℕ, Bool, true, false, cond, ◌⊎◌, inl, inr, List, [], ◌∷◌, ◌++◌, refl, sym, ◌∙◌, ap, subst, append_assoc}
use Rattle.std.proofs.lemmas.List.{append-nil}
use Rattle.std.proofs.lemmas.Bool.{eqb-true, and_parts}
use Rattle.std.specs.Prelude.{◌==◌, codes, encode_utf8, encode_utf8_all}
use Rattle.std.specs.List.{flat_map, list_all}
use Rattle.plain_tree.specs.Document.{Node}
use Rattle.ft_base.specs.Characters.{is_char, is_space}
use Rattle.doc_grammar.specs.Grammar as g
use Rattle.doc_grammar.specs.Grammar.{Digits, Reference, Value, Content, in_value}
use Rattle.doc_grammar.specs.Printed.{escaped_in_text, escaped_in_value}
use Rattle.doc_grammar.proofs.Classes.{space_is}

-- the numeric references that are printed
tab : Reference (codes "&#9;") 9
unfolding is_char
tab = Reference.decimal (Digits.one 57 refl) refl

line_feed : Reference (codes "&#10;") 10
unfolding is_char
line_feed = Reference.decimal (Digits.more (Digits.one 49 refl) 48 refl) refl

return : Reference (codes "&#13;") 13
unfolding is_char
return = Reference.decimal (Digits.more (Digits.one 49 refl) 51 refl) refl

-- the cases of a chain of tests
pick : (P : List ℕ → Type 0) (b : Bool) (x y : List ℕ) → (b ≡ true → P x) → (b ≡ false → P y) → P (cond b x y)
pick P true x y f h = f refl
pick P false x y f h = h refl

text_reference : {u bytes v : List ℕ} {kids : List Node} → Content u kids bytes → (c k : ℕ) → (c == k) ≡ true → Reference v k → Content (u ++ v) kids (bytes ++ encode_utf8 c)
text_reference {u = u} {bytes = bytes} {v = v} {kids = kids} x c k h ref = subst (λ d. Content (u ++ v) kids (bytes ++ encode_utf8 d)) (sym (eqb-true c k h)) (g.Content.reference x ref)

text_escaped : {u bytes : List ℕ} {kids : List Node} → Content u kids bytes → (c : ℕ) → is_char c ≡ true → Content (u ++ escaped_in_text c) kids (bytes ++ encode_utf8 c)
text_escaped {u = u} {bytes = bytes} {kids = kids} x c ok =
    let P : List ℕ → Type 0 = λ z. Content (u ++ z) kids (bytes ++ encode_utf8 c) in
    pick P (c == 38) _ _ (λ h. text_reference x c 38 h Reference.ampersand)
    (λ h38. pick P (c == 60) _ _ (λ h. text_reference x c 60 h Reference.less)
    (λ h60. pick P (c == 62) _ _ (λ h. text_reference x c 62 h Reference.greater)
    (λ _. pick P (c == 13) _ _ (λ h. text_reference x c 13 h return)
    (λ _. pick P (c == 10) _ _ (λ h. text_reference x c 10 h line_feed)
    (λ _. g.Content.character x c ok h60 h38)))))

pub text_printed : (cs : List ℕ) → list_all is_char cs ≡ true → {u bytes : List ℕ} {kids : List Node} → Content u kids bytes → Content (u ++ flat_map escaped_in_text cs) kids (bytes ++ encode_utf8_all cs)
text_printed [] ok {u = u} {bytes = bytes} {kids = kids} x = subst (λ z. Content z kids (bytes ++ [])) (sym (append-nil u)) (subst (λ z. Content u kids z) (sym (append-nil bytes)) x)
text_printed (c ∷ cs) ok {u = u} {bytes = bytes} {kids = kids} x =
    let two = and_parts _ _ ok in
    let rest = text_printed cs two.1 (text_escaped x c two.0) in
    subst (λ z. Content z kids (bytes ++ encode_utf8_all (c ∷ cs))) (append_assoc u (escaped_in_text c) (flat_map escaped_in_text cs))
    (subst (λ z. Content ((u ++ escaped_in_text c) ++ flat_map escaped_in_text cs) kids z) (append_assoc bytes (encode_utf8 c) (encode_utf8_all cs)) rest)

value_reference : {u bytes v : List ℕ} → Value 34 u bytes → (c k : ℕ) → (c == k) ≡ true → Reference v k → Value 34 (u ++ v) (bytes ++ encode_utf8 c)
value_reference {u = u} {bytes = bytes} {v = v} x c k h ref = subst (λ d. Value 34 (u ++ v) (bytes ++ encode_utf8 d)) (sym (eqb-true c k h)) (g.Value.reference x ref)

same_in_value : (c : ℕ) → (c == 9) ≡ false → (c == 10) ≡ false → (c == 13) ≡ false → in_value c ≡ c
same_in_value c a b d = go (is_space c) refl
  where
    is_blank : (c ≡ 32) ⊎ ((c ≡ 9) ⊎ ((c ≡ 10) ⊎ (c ≡ 13))) → 32 ≡ c
    is_blank (inl e) = sym e
    is_blank (inr (inl e)) = let no : true ≡ false = sym (ap (λ x. x == 9) e) ∙ a in cc
    is_blank (inr (inr (inl e))) = let no : true ≡ false = sym (ap (λ x. x == 10) e) ∙ b in cc
    is_blank (inr (inr (inr e))) = let no : true ≡ false = sym (ap (λ x. x == 13) e) ∙ d in cc

    go : (x : Bool) → is_space c ≡ x → in_value c ≡ c
    go true h = ap (λ x. cond x 32 c) h ∙ is_blank (space_is c h)
    go false h = ap (λ x. cond x 32 c) h

value_escaped : {u bytes : List ℕ} → Value 34 u bytes → (c : ℕ) → is_char c ≡ true → Value 34 (u ++ escaped_in_value c) (bytes ++ encode_utf8 c)
value_escaped {u = u} {bytes = bytes} x c ok =
    let P : List ℕ → Type 0 = λ z. Value 34 (u ++ z) (bytes ++ encode_utf8 c) in
    pick P (c == 38) _ _ (λ h. value_reference x c 38 h Reference.ampersand)
    (λ h38. pick P (c == 60) _ _ (λ h. value_reference x c 60 h Reference.less)
    (λ h60. pick P (c == 34) _ _ (λ h. value_reference x c 34 h Reference.quotation)
    (λ h34. pick P (c == 9) _ _ (λ h. value_reference x c 9 h tab)
    (λ h9. pick P (c == 13) _ _ (λ h. value_reference x c 13 h return)
    (λ h13. pick P (c == 10) _ _ (λ h. value_reference x c 10 h line_feed)
    (λ h10. subst (λ d. Value 34 (u ++ c ∷ []) (bytes ++ encode_utf8 d)) (same_in_value c h9 h10 h13) (g.Value.character x c ok h34 h38 h60)))))))

pub value_printed : (cs : List ℕ) → list_all is_char cs ≡ true → {u bytes : List ℕ} → Value 34 u bytes → Value 34 (u ++ flat_map escaped_in_value cs) (bytes ++ encode_utf8_all cs)
value_printed [] ok {u = u} {bytes = bytes} x = subst (λ z. Value 34 z (bytes ++ [])) (sym (append-nil u)) (subst (λ z. Value 34 u z) (sym (append-nil bytes)) x)
value_printed (c ∷ cs) ok {u = u} {bytes = bytes} x =
    let two = and_parts _ _ ok in
    let rest = value_printed cs two.1 (value_escaped x c two.0) in
    subst (λ z. Value 34 z (bytes ++ encode_utf8_all (c ∷ cs))) (append_assoc u (escaped_in_value c) (flat_map escaped_in_value cs))
    (subst (λ z. Value 34 ((u ++ escaped_in_value c) ++ flat_map escaped_in_value cs) z) (append_assoc bytes (encode_utf8 c) (encode_utf8_all cs)) rest)
