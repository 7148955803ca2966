-- The words among the segments of a text, the places at which they stand, and the letters and digits of ASCII.
use Rattle.std.proofs.Common.{◌≡◌, ℕ, ◌<◌, Bool, true, false, ◌||◌, List, [], ◌∷◌, ◌++◌, map, filter, All, IsUtf8, refl, sym, ap, ap₂, ◌∙◌, append_assoc, append-nil, arith, subst, inl, inr}
use Rattle.std.proofs.lemmas.Bool.{cond-true, cond-false, cases_Bool}
use Rattle.std.proofs.lemmas.List.Elements.{All-nil, All-cons, All-head, All-tail}
use Rattle.std.specs.Char.{is_ascii_alphanumeric}
use Rattle.ucd_table.proofs.Facts.{Stepped-below}
use Rattle.ucd_category.specs.GeneralCategory.{general_category}
use Rattle.ucd_category.specs.GeneralCategoryGroup.{in_group}
use Rattle.ucd_category.specs.declared.GeneralCategoryGroup.TheVariants.{Letter, Number}
use Rattle.ucd_category.proofs.Computing.{ucd_category}
use Rattle.ucd_category.proofs.GeneralCategoryLemmas.{general_category_stepped}
use Rattle.unicode_segmentation.specs.Word.{is_word_break, word_bounds}
use Rattle.unicode_segmentation.proofs.BoolLemmas.{same, same-true}
use Rattle.unicode_segmentation.proofs.SegmentsLemmas.{map-with_offsets, All-IsPieceOf}
use Rattle.unicode_segmentation.proofs.SegmentsLemmas as S
use Rattle.text_words.specs.Pieces.{piece_of, IsPieceOf, bytes_at}
use Rattle.text_words.specs.Words.{is_letter_or_number, is_word, words, words_with_places}

-- ---- ASCII

pub is_letter_or_number-ascii : (c : ℕ) → c < 128 → is_ascii_alphanumeric c ≡ is_letter_or_number c
unfolding ucd_category is_letter_or_number
is_letter_or_number-ascii c below =
    same-true _ _ (Stepped-below general_category general_category_stepped (λ x v. same (is_ascii_alphanumeric x) (in_group Letter v || in_group Number v)) 128 refl c below)

-- ---- one segment more

-- the segment at the head is one that is kept, or is not
module _ {X Y : Type 0} (keeps : X → Bool) (f : X → Y) (x : X) (xs : List X) where
  pub kept : (ys : List Y) → keeps x ≡ true → ys ++ map f (filter keeps (x ∷ xs)) ≡ (ys ++ f x ∷ []) ++ map f (filter keeps xs)
  kept ys holds = ap (λ l. ys ++ map f l) (cond-true _ _ _ holds) ∙ sym (append_assoc ys (f x ∷ []) (map f (filter keeps xs)))

  pub passed : (ys : List Y) → keeps x ≡ false → ys ++ map f (filter keeps (x ∷ xs)) ≡ ys ++ map f (filter keeps xs)
  passed ys fails = ap (λ l. ys ++ map f l) (cond-false _ _ _ fails)

-- nothing is left
pub finished : {X Y : Type 0} (keeps : X → Bool) (f : X → Y) (xs : List X) (ys all : List Y) → xs ≡ [] → ys ++ map f (filter keeps xs) ≡ all → ys ≡ all
finished keeps f xs ys all none so_far = sym (append-nil ys) ∙ ap (λ l. ys ++ map f (filter keeps l)) (sym none) ∙ so_far

-- ---- the pieces

abbrev pub holds_word : ℕ × List ℕ → Bool
holds_word (_, segment) = is_word segment

module _ (text : List ℕ) where
  bytes_at-piece_of : (x : ℕ × List ℕ) → S.IsPieceOf text x → bytes_at text (piece_of x) ≡ x.1
  bytes_at-piece_of x h = sym h.bytes

  bytes_at-words : (xs : List (ℕ × List ℕ)) → All (S.IsPieceOf text) xs → map (bytes_at text) (map piece_of (filter holds_word xs)) ≡ filter is_word (map (λ (x : ℕ × List ℕ). x.1) xs)
  bytes_at-words [] all = refl
  bytes_at-words (x ∷ xs) all =
      let rest = bytes_at-words xs (All-tail (S.IsPieceOf text) _ _ all) in
      elim (cases_Bool (is_word x.1)) [
        | inl holds ↦ ap (λ l. map (bytes_at text) (map piece_of l)) (cond-true _ _ _ holds)
            ∙ ap₂ ◌∷◌ (bytes_at-piece_of x (All-head (S.IsPieceOf text) _ _ all)) rest ∙ sym (cond-true _ _ _ holds)
        | inr fails ↦ ap (λ l. map (bytes_at text) (map piece_of l)) (cond-false _ _ _ fails) ∙ rest ∙ sym (cond-false _ _ _ fails)
      ]

  IsPieceOf-piece_of : (x : ℕ × List ℕ) → S.IsPieceOf text x → IsPieceOf text (piece_of x)
  IsPieceOf-piece_of x h = record { ordered = omega arith; start = h.start; end = h.end }

  All-piece_of : (xs : List (ℕ × List ℕ)) → All (S.IsPieceOf text) xs → All (IsPieceOf text) (map piece_of (filter holds_word xs))
  All-piece_of [] all = All-nil (IsPieceOf text)
  All-piece_of (x ∷ xs) all =
      let rest = All-piece_of xs (All-tail (S.IsPieceOf text) _ _ all) in
      elim (cases_Bool (is_word x.1)) [
        | inl holds ↦ subst (λ l. All (IsPieceOf text) (map piece_of l)) (sym (cond-true _ _ _ holds))
            (All-cons (IsPieceOf text) _ _ (IsPieceOf-piece_of x (All-head (S.IsPieceOf text) _ _ all)) rest)
        | inr fails ↦ subst (λ l. All (IsPieceOf text) (map piece_of l)) (sym (cond-false _ _ _ fails)) rest
      ]

  -- the pieces cut the words out of the text
  pub words-cut : IsUtf8 text → map (bytes_at text) (map piece_of (words_with_places text)) ≡ words text
  words-cut u = bytes_at-words _ (All-IsPieceOf is_word_break text u) ∙ ap (filter is_word) (map-with_offsets 0 (word_bounds text))

  pub words-inside : IsUtf8 text → All (IsPieceOf text) (map piece_of (words_with_places text))
  words-inside u = All-piece_of _ (All-IsPieceOf is_word_break text u)
