-- The keys with a stem: those that are listed with it, and maybe the stem itself.
use Rattle.std.proofs.Common.{◌≡◌, ◌∙◌, refl, sym, ap, ℕ, Bool, true, false, cond, ◌&&◌, ◌||◌, inl, inr, List, [], ◌∷◌}
use Rattle.std.specs.Prelude.{bytes_eq, Option, Some, None, unwrap_or}
use Rattle.std.specs.List.{list_any}
use Rattle.std.specs.Map.{lookup}
use Rattle.std.proofs.lemmas.Bool.{and_parts, and_from, or_cases, or_left, or_right, false≢true}
use Rattle.std.proofs.lemmas.Slice.Eq.{bytes_eq-Decides}
use Rattle.ft_base.proofs.Truth.{same_tests}
use Rattle.word_lists.specs.Stems.{Stem, stem_in}

module _ (stems : List Stem) (stem : List ℕ) where
  abbrev pub has_it : List ℕ → Bool
  has_it key = bytes_eq (stem_in stems key) stem

  -- whether a pair lists the key with the stem, and no earlier one with another
  abbrev pub lists_key : List ℕ → Stem → Bool
  lists_key key s = bytes_eq key s.0 && (bytes_eq s.1 stem && has_it s.0)

  -- what is listed so has the stem
  listed_has : (key : List ℕ) (pairs : List Stem) → list_any (lists_key key) pairs ≡ true → has_it key ≡ true
  listed_has key [] h = absurd (false≢true h)
  listed_has key (s ∷ pairs) h = elim (or_cases (lists_key key s) (list_any (lists_key key) pairs) h) [
    | inl here ↦
        let key_parts = and_parts (bytes_eq key s.0) (bytes_eq s.1 stem && has_it s.0) here in
        ap has_it ((bytes_eq-Decides key s.0).0 key_parts.0) ∙ (and_parts (bytes_eq s.1 stem) (has_it s.0) key_parts.1).1
    | inr there ↦ listed_has key pairs there
  ]

  -- what has the stem by the pairs is listed so
  has_listed : (key found : List ℕ) (pairs : List Stem) → lookup (bytes_eq key) pairs ≡ Some found → bytes_eq found stem ≡ true → has_it key ≡ true
      → list_any (lists_key key) pairs ≡ true
  has_listed key found [] e same h = cc
  has_listed key found (s ∷ pairs) e same h = go (λ looked. has_listed key found pairs looked same h) (bytes_eq key s.0) refl
    where
      rest : Bool
      rest = list_any (lists_key key) pairs

      go : (lookup (bytes_eq key) pairs ≡ Some found → rest ≡ true) → (b : Bool) → bytes_eq key s.0 ≡ b → (lists_key key s || rest) ≡ true
      go later true is =
          let is_found : Some s.1 ≡ Some found = sym (ap (λ b. cond b (Some s.1) (lookup (bytes_eq key) pairs)) is) ∙ e in
          let listed : bytes_eq s.1 stem ≡ true = ap (λ o. bytes_eq (unwrap_or o stem) stem) is_found ∙ same in
          let has : has_it s.0 ≡ true = sym (ap has_it ((bytes_eq-Decides key s.0).0 is)) ∙ h in
          or_left (lists_key key s) rest (and_from (bytes_eq key s.0) (bytes_eq s.1 stem && has_it s.0) is (and_from (bytes_eq s.1 stem) (has_it s.0) listed has))
      go later false is = or_right (lists_key key s) rest (later (sym (ap (λ b. cond b (Some s.1) (lookup (bytes_eq key) pairs)) is) ∙ e))

  -- a key has the stem where it is listed so, or is the stem itself, which has no other
  keys_law : (key : List ℕ) → (list_any (lists_key key) stems || (bytes_eq key stem && has_it stem)) ≡ has_it key
  keys_law key = same_tests (listed || (itself && has_it stem)) (has_it key) forth back
    where
      listed : Bool
      listed = list_any (lists_key key) stems

      itself : Bool
      itself = bytes_eq key stem

      forth : (listed || (itself && has_it stem)) ≡ true → has_it key ≡ true
      forth h = elim (or_cases listed (itself && has_it stem) h) [
        | inl here ↦ listed_has key stems here
        | inr there ↦
            let parts = and_parts itself (has_it stem) there in
            ap has_it ((bytes_eq-Decides key stem).0 parts.0) ∙ parts.1
      ]

      by : (found : Option (List ℕ)) → lookup (bytes_eq key) stems ≡ found → has_it key ≡ true → (listed || (itself && has_it stem)) ≡ true
      by (Some found) e h = or_left listed (itself && has_it stem) (has_listed key found stems e (sym (ap (λ o. bytes_eq (unwrap_or o key) stem) e) ∙ h) h)
      by None e h =
          let same : itself ≡ true = sym (ap (λ o. bytes_eq (unwrap_or o key) stem) e) ∙ h in
          or_right listed (itself && has_it stem) (and_from itself (has_it stem) same (sym (ap has_it ((bytes_eq-Decides key stem).0 same)) ∙ h))

      back : has_it key ≡ true → (listed || (itself && has_it stem)) ≡ true
      back h = by (lookup (bytes_eq key) stems) refl h

  -- with the stem itself, where its own stem is itself
  pub keys_with_itself : (key : List ℕ) → has_it stem ≡ true → (list_any (lists_key key) stems || bytes_eq key stem) ≡ has_it key
  keys_with_itself key h = ap (λ b. list_any (lists_key key) stems || b) (sym (and_true_right (bytes_eq key stem)) ∙ ap (λ b. bytes_eq key stem && b) (sym h)) ∙ keys_law key
    where
      and_true_right : (b : Bool) → (b && true) ≡ b
      and_true_right true = refl
      and_true_right false = refl

  -- and without it, where it is another
  pub keys_listed : (key : List ℕ) → has_it stem ≡ false → list_any (lists_key key) stems ≡ has_it key
  keys_listed key h = sym (or_false_right (list_any (lists_key key) stems) (bytes_eq key stem)) ∙ ap (λ b. list_any (lists_key key) stems || (bytes_eq key stem && b)) (sym h) ∙ keys_law key
    where
      or_false_right : (a b : Bool) → (a || (b && false)) ≡ a
      or_false_right true b = refl
      or_false_right false true = refl
      or_false_right false false = refl
