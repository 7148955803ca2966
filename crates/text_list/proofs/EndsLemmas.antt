-- One text more after the others, and one of them by its number.
use Rattle.std.proofs.Common.{◌≡◌, ℕ, zero, suc, ◌+◌, ◌-◌, ◌<◌, ◌≤◌, ◌⊎◌, List, [], ◌∷◌, ◌++◌, length, take, drop, get_or, slice_range, refl, sym, ap, ap₂, ◌∙◌, arith, subst, inl, inr}
use Rattle.std.specs.Prelude.{IsUtf8, IsCharBoundary}
use Rattle.std.proofs.lemmas.List.{drop-append-le, drop_at, get_or_append_left, length-append, length-drop, take-append-le, take_all}
use Rattle.std.proofs.lemmas.Str.{IsCharBoundary-at_seam, IsCharBoundary-end, IsCharBoundary-start}
use Rattle.text_list.specs.Ends.{AreEnds, start_at, texts}

pub texts-nil : (start : ℕ) (bytes : List ℕ) → texts start [] bytes ≡ []
unfolding texts
texts-nil start bytes = refl

pub ends-nil : AreEnds 0 [] []
unfolding AreEnds
ends-nil = refl

pub length-texts : (ends : List ℕ) (start : ℕ) (bytes : List ℕ) → length (texts start ends bytes) ≡ length ends
unfolding texts
length-texts [] start bytes = refl
length-texts (end ∷ ends) start bytes = ap suc (length-texts ends end bytes)

-- ---- a text more

module _ (bytes text : List ℕ) where
  -- what stands before it is as before
  range-append : (start end : ℕ) → start ≤ end → end ≤ length bytes → slice_range (bytes ++ text) start end ≡ slice_range bytes start end
  range-append start end rising within =
      ap (take (end - start)) (drop-append-le start bytes text (omega (arith, rising, within)))
      ∙ take-append-le (end - start) (drop start bytes) text (omega (arith, rising, within, length-drop start bytes))

  range-new : slice_range (bytes ++ text) (length bytes) (length bytes + length text) ≡ text
  range-new =
      ap (take (length bytes + length text - length bytes)) (drop_at bytes text (length bytes) refl)
      ∙ take_all (length bytes + length text - length bytes) text (omega arith)

  boundary-append : (place : ℕ) → IsUtf8 text → IsCharBoundary bytes place → IsCharBoundary (bytes ++ text) place
  boundary-append place utf8 is = elim (at_end (length bytes) place is.0) [
    | inl same ↦ subst (IsCharBoundary (bytes ++ text)) (sym same) (IsCharBoundary-at_seam (bytes ++ text) bytes text refl utf8)
    | inr less ↦ (
      omega (arith, less, length-append bytes text),
      λ _ high.
          subst (λ b. 192 ≤ b) (sym (get_or_append_left bytes text 0 place less)) (is.1 less (subst (λ b. 128 ≤ b) (get_or_append_left bytes text 0 place less) high)),
    )
  ]
    where
      at_end : (all place : ℕ) → place ≤ all → (place ≡ all) ⊎ (place < all)
      at_end all place within = grind arith

  pub texts-push : (ends : List ℕ) (start : ℕ) → AreEnds start ends bytes
      → texts start (ends ++ (length bytes + length text) ∷ []) (bytes ++ text) ≡ texts start ends bytes ++ text ∷ []
  unfolding texts AreEnds
  texts-push [] start is = ap (λ s. slice_range (bytes ++ text) s (length bytes + length text) ∷ []) is ∙ ap (λ t. t ∷ []) range-new
  texts-push (end ∷ ends) start is = ap₂ ◌∷◌ (range-append start end is.0 is.1.0) (texts-push ends end is.2)

  pub ends-push : (ends : List ℕ) (start : ℕ) → IsUtf8 text → AreEnds start ends bytes → AreEnds start (ends ++ (length bytes + length text) ∷ []) (bytes ++ text)
  unfolding AreEnds
  ends-push [] start utf8 is = (omega (arith, is), subst (IsCharBoundary (bytes ++ text)) (length-append bytes text) (IsCharBoundary-end (bytes ++ text)), sym (length-append bytes text))
  ends-push (end ∷ ends) start utf8 is = (is.0, boundary-append end utf8 is.1, ends-push ends end utf8 is.2)

-- ---- one of the texts

pub record IsText (bytes : List ℕ) (from to : ℕ) : Type 0 where
  pub order : from ≤ to
  pub start : IsCharBoundary bytes from
  pub end : IsCharBoundary bytes to

pub text-cut : (ends : List ℕ) (start : ℕ) (bytes : List ℕ) (number : ℕ) → number < length ends → IsCharBoundary bytes start → AreEnds start ends bytes
    → IsText bytes (start_at start ends number) (get_or ends number 0)
unfolding AreEnds start_at
text-cut [] start bytes number within at is = elim within [ ]
text-cut (end ∷ ends) start bytes zero within at is = record { order = is.0; start = at; end = is.1 }
text-cut (end ∷ ends) start bytes (suc number) within at is = text-cut ends end bytes number (omega (arith, within)) is.1 is.2

pub text-at : (ends : List ℕ) (start : ℕ) (bytes : List ℕ) (number : ℕ) (d : List ℕ) → number < length ends
    → get_or (texts start ends bytes) number d ≡ slice_range bytes (start_at start ends number) (get_or ends number 0)
unfolding texts start_at
text-at [] start bytes number d within = elim within [ ]
text-at (end ∷ ends) start bytes zero d within = refl
text-at (end ∷ ends) start bytes (suc number) d within = text-at ends end bytes number d (omega (arith, within))

-- it starts where the one before it ends
pub start-first : (ends : List ℕ) (start : ℕ) → start_at start ends 0 ≡ start
unfolding start_at
start-first ends start = refl

pub start-next : (ends : List ℕ) (start number d : ℕ) → suc number < length ends → start_at start ends (suc number) ≡ get_or ends number d
unfolding start_at
start-next [] start number d within = elim within [ ]
start-next (end ∷ ends) start zero d within = start-first ends end
start-next (end ∷ ends) start (suc number) d within = start-next ends end number d (omega (arith, within))

-- ---- the first of the texts

-- the bytes may be cut where a text starts
pub cut-at : (ends : List ℕ) (bytes : List ℕ) (count place : ℕ) → count < length ends → IsUtf8 bytes → AreEnds 0 ends bytes → place ≡ start_at 0 ends count
    → IsCharBoundary bytes place
cut-at ends bytes count place within utf8 is at = subst (IsCharBoundary bytes) (sym at) (text-cut ends 0 bytes count within (IsCharBoundary-start bytes utf8) is).start

module _ (prefix rest : List ℕ) where
  boundary-prefix : (place : ℕ) → place ≤ length prefix → IsCharBoundary (prefix ++ rest) place → IsCharBoundary prefix place
  boundary-prefix place within is = (
    within,
    λ less high.
        subst (λ b. 192 ≤ b) (get_or_append_left prefix rest 0 place less)
        (is.1 (omega (arith, less, length-append prefix rest)) (subst (λ b. 128 ≤ b) (sym (get_or_append_left prefix rest 0 place less)) high)),
  )

  -- no text starts after one that comes later
  rising : (ends : List ℕ) (start count : ℕ) (bytes : List ℕ) → count ≤ length ends → AreEnds start ends bytes → start ≤ start_at start ends count
  unfolding AreEnds start_at
  rising ends start zero bytes within is = rw (start-first ends start) (omega arith)
  rising [] start (suc count) bytes within is = omega arith
  rising (end ∷ ends) start (suc count) bytes within is = omega (arith, is.0, rising ends end count bytes (omega (arith, within)) is.2)

  pub texts-take : (ends : List ℕ) (start count : ℕ) → count ≤ length ends → AreEnds start ends (prefix ++ rest) → start_at start ends count ≡ length prefix
      → texts start (take count ends) prefix ≡ take count (texts start ends (prefix ++ rest))
  unfolding texts AreEnds start_at
  texts-take ends start zero within is at = refl
  texts-take [] start (suc count) within is at = refl
  texts-take (end ∷ ends) start (suc count) within is at =
      ap₂ ◌∷◌ (sym (range-append prefix rest start end is.0 (omega (arith, at, rising ends end count (prefix ++ rest) (omega (arith, within)) is.2))))
      (texts-take ends end count (omega (arith, within)) is.2 at)

  pub ends-take : (ends : List ℕ) (start count : ℕ) → count ≤ length ends → AreEnds start ends (prefix ++ rest) → start_at start ends count ≡ length prefix
      → AreEnds start (take count ends) prefix
  unfolding AreEnds start_at
  ends-take ends start zero within is at = sym (start-first ends start) ∙ at
  ends-take [] start (suc count) within is at = at
  ends-take (end ∷ ends) start (suc count) within is at = (
    is.0,
    boundary-prefix end (omega (arith, at, rising ends end count (prefix ++ rest) (omega (arith, within)) is.2)) is.1,
    ends-take ends end count (omega (arith, within)) is.2 at,
  )
