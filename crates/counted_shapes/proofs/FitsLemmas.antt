-- A window and a scope round a selection that asks for a hit are satisfied exactly where the selection holds in some field.
use Rattle.std.proofs.Common.{◌≡◌, refl, sym, ◌∙◌, ℕ, List, [], ◌∷◌, Bool, true, ◌||◌, ◌⊎◌, inl, inr}
use Rattle.std.specs.Prelude.{◌↔◌}
use Rattle.std.proofs.lemmas.Bool.{and_parts, or_cases, or_left, or_right}
use Rattle.std.proofs.lemmas.List.Folds.{list_any-append}
use Rattle.ft_base.specs.declared.filter.Filter.{Filter}
use Rattle.ft_base.specs.declared.filter.Filter.TheVariants as F
use Rattle.ft_base.specs.declared.hit.Hit.{Hit}
use Rattle.ft_base.specs.declared.hit.Match.{Match}
use Rattle.ft_base.specs.declared.options.Options.{Options}
use Rattle.ft_base.specs.declared.span.Span.{Span}
use Rattle.ft_base.specs.declared.token.Token.{Token}
use Rattle.ft_base.specs.declared.unit.TextUnit.{TextUnit}
use Rattle.ft_base.specs.declared.unit.TextUnit.TheVariants.{Words, Sentences, Paragraphs}
use Rattle.ft_base.specs.Selection.{Form, filtered}
use Rattle.all_matches.specs.Boolean.{is_clean, satisfied}
use Rattle.all_matches.specs.Filters.{filtered_match, ft_filtered}
use Rattle.all_matches.specs.Meaning.{all_matches, sat_under}
use Rattle.all_matches.specs.Numbering.{shifted_hit}
use Rattle.all_matches.specs.Spans.{whole_text}
use Rattle.all_matches.specs.Variants.{Lexicon}
use Rattle.counted_shapes.specs.Fields.{made_in, in_window, in_unit}
use Rattle.counted_shapes.specs.Held.{holds_in, is_boolean, needs_hit, HoldsInWindow, HoldsInUnit}
use Rattle.counted_shapes.proofs.FieldLaws.{made}
use Rattle.counted_shapes.proofs.FormLemmas.{made-form}
use Rattle.counted_shapes.proofs.HitLemmas.{has_include, all_have, have-form}
use Rattle.counted_shapes.proofs.ScopeLemmas.{sentence_made, paragraph_made}
use Rattle.counted_shapes.proofs.WindowLemmas.{window_made}

-- a filter that leaves a Match exactly where it is made in one of some fields
module _ (fields : ℕ → Hit → Bool) (kind : Filter) (item : Span)
    (one : (m : Match) → has_include m ≡ true → (satisfied (filtered_match kind item m) ≡ true) ↔ ((n : ℕ) × (made_in (fields n) m ≡ true))) where
  left_made : (ms : List Match) → all_have ms ≡ true → satisfied (ft_filtered kind item ms) ≡ true → (n : ℕ) × (made (fields n) ms ≡ true)
  left_made [] h left = cc
  left_made (m ∷ rest) h left =
      let parts = and_parts (has_include m) (all_have rest) h in
      by_side (or_cases (satisfied (filtered_match kind item m)) (satisfied (ft_filtered kind item rest))
      (sym (list_any-append is_clean (filtered_match kind item m) (ft_filtered kind item rest)) ∙ left))
      (one m parts.0).0 (left_made rest parts.1)
    where
      by_side : (satisfied (filtered_match kind item m) ≡ true) ⊎ (satisfied (ft_filtered kind item rest) ≡ true)
          → (satisfied (filtered_match kind item m) ≡ true → (n : ℕ) × (made_in (fields n) m ≡ true))
          → (satisfied (ft_filtered kind item rest) ≡ true → (n : ℕ) × (made (fields n) rest ≡ true))
          → (n : ℕ) × (made (fields n) (m ∷ rest) ≡ true)
      by_side (inl here) first further = let there = first here in (there.0, or_left (made_in (fields there.0) m) (made (fields there.0) rest) there.1)
      by_side (inr later) first further = let there = further later in (there.0, or_right (made_in (fields there.0) m) (made (fields there.0) rest) there.1)

  made_left : (n : ℕ) (ms : List Match) → all_have ms ≡ true → made (fields n) ms ≡ true → satisfied (ft_filtered kind item ms) ≡ true
  made_left n [] h there = cc
  made_left n (m ∷ rest) h there =
      let parts = and_parts (has_include m) (all_have rest) h in
      list_any-append is_clean (filtered_match kind item m) (ft_filtered kind item rest)
      ∙ by_side (or_cases (made_in (fields n) m) (made (fields n) rest) there) (λ here. (one m parts.0).1 (n, here)) (made_left n rest parts.1)
    where
      by_side : (made_in (fields n) m ≡ true) ⊎ (made (fields n) rest ≡ true)
          → (made_in (fields n) m ≡ true → satisfied (filtered_match kind item m) ≡ true)
          → (made (fields n) rest ≡ true → satisfied (ft_filtered kind item rest) ≡ true)
          → (satisfied (filtered_match kind item m) || satisfied (ft_filtered kind item rest)) ≡ true
      by_side (inl here) first further = or_left (satisfied (filtered_match kind item m)) (satisfied (ft_filtered kind item rest)) (first here)
      by_side (inr later) first further = or_right (satisfied (filtered_match kind item m)) (satisfied (ft_filtered kind item rest)) (further later)

fits : (fields : ℕ → Hit → Bool) (kind : Filter) (lexicon : Lexicon) (options : Options) (tokens : List Token) (form : Form)
    → ((m : Match) → has_include m ≡ true → (satisfied (filtered_match kind (whole_text tokens) m) ≡ true) ↔ ((n : ℕ) × (made_in (fields n) m ≡ true)))
    → ((n by : ℕ) (hit : Hit) → fields n (shifted_hit by hit) ≡ fields n hit)
    → is_boolean form ≡ true → needs_hit form ≡ true
    → (sat_under lexicon options (filtered form kind) tokens ≡ true) ↔ ((n : ℕ) × (holds_in (fields n) lexicon options tokens form ≡ true))
unfolding sat_under all_matches
fits fields kind lexicon options tokens form one same boolean needs = (found, back)
  where
    have : all_have (all_matches lexicon options 1 tokens form) ≡ true
    have = have-form lexicon options 1 tokens form needs

    holds : (n : ℕ) → made (fields n) (all_matches lexicon options 1 tokens form) ≡ holds_in (fields n) lexicon options tokens form
    holds n = made-form (fields n) (same n) lexicon options tokens form boolean

    found : satisfied (ft_filtered kind (whole_text tokens) (all_matches lexicon options 1 tokens form)) ≡ true → (n : ℕ) × (holds_in (fields n) lexicon options tokens form ≡ true)
    found left =
        let there = left_made fields kind (whole_text tokens) one (all_matches lexicon options 1 tokens form) have left in
        (there.0, sym (holds there.0) ∙ there.1)

    back : (n : ℕ) × (holds_in (fields n) lexicon options tokens form ≡ true) → satisfied (ft_filtered kind (whole_text tokens) (all_matches lexicon options 1 tokens form)) ≡ true
    back there = made_left fields kind (whole_text tokens) one there.0 (all_matches lexicon options 1 tokens form) have (holds there.0 ∙ there.1)

-- a field doesn't look at numbers of phrases
window_shifted : (size : ℕ) (kind : TextUnit) (last by : ℕ) (hit : Hit) → in_window size kind last (shifted_hit by hit) ≡ in_window size kind last hit
window_shifted size Words last by hit = refl
window_shifted size Sentences last by hit = refl
window_shifted size Paragraphs last by hit = refl

unit_shifted : (kind : TextUnit) (number by : ℕ) (hit : Hit) → in_unit kind number (shifted_hit by hit) ≡ in_unit kind number hit
unit_shifted Words number by hit = refl
unit_shifted Sentences number by hit = refl
unit_shifted Paragraphs number by hit = refl

pub fits-window : (lexicon : Lexicon) (options : Options) (size : ℕ) (kind : TextUnit) (form : Form) (tokens : List Token) → is_boolean form ≡ true → needs_hit form ≡ true
    → (sat_under lexicon options (filtered form (F.Window size kind)) tokens ≡ true) ↔ HoldsInWindow size kind lexicon options tokens form
fits-window lexicon options size kind form tokens =
    fits (in_window size kind) (F.Window size kind) lexicon options tokens form (window_made size kind (whole_text tokens)) (window_shifted size kind)

pub fits-sentence : (lexicon : Lexicon) (options : Options) (form : Form) (tokens : List Token) → is_boolean form ≡ true → needs_hit form ≡ true
    → (sat_under lexicon options (filtered form F.SameSentence) tokens ≡ true) ↔ HoldsInUnit Sentences lexicon options tokens form
fits-sentence lexicon options form tokens =
    fits (in_unit Sentences) F.SameSentence lexicon options tokens form (sentence_made (whole_text tokens)) (unit_shifted Sentences)

pub fits-paragraph : (lexicon : Lexicon) (options : Options) (form : Form) (tokens : List Token) → is_boolean form ≡ true → needs_hit form ≡ true
    → (sat_under lexicon options (filtered form F.SameParagraph) tokens ≡ true) ↔ HoldsInUnit Paragraphs lexicon options tokens form
fits-paragraph lexicon options form tokens =
    fits (in_unit Paragraphs) F.SameParagraph lexicon options tokens form (paragraph_made (whole_text tokens)) (unit_shifted Paragraphs)
