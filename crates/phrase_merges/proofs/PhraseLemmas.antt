-- Phrase after phrase, and pass after pass: how far they reach.
use Rattle.std.proofs.Common.{◌≡◌, refl, sym, ap, ◌∙◌, ℕ, ◌+◌, ◌<◌, ◌≤◌, max, Bool, true, false, ◌&&◌, List, ◌∷◌, map, length, get_or, drop, set, Option, Some, None, Vec, Global, arith}
use Rattle.std.specs.Prelude.{nat_le, nat_lt}
use Rattle.std.specs.List.{list_all}
use Rattle.std.proofs.Math.ListN.{get_or-map}
use Rattle.std.proofs.lemmas.List.{drop_more, length-map}
use Rattle.ft_base.specs.declared.hit.Hit.{Hit}
use Rattle.ft_base.specs.declared.unit.TextUnit.{TextUnit}
use Rattle.ft_operators.specs.Phrases.{PhraseState}
use Rattle.place_merges.proofs.MoveLemmas.{all_at, all_set, map_set}
use Rattle.window_merges.specs.Choices.{some_choice}
use Rattle.phrase_merges.specs.Rows.{aims_of, all_aims, all_hits, all_rising, are_rising, hits_left}
use Rattle.phrase_merges.specs.declared.edge.Edge.{Edge}
use Rattle.phrase_merges.specs.steps.Ahead.{farther, farthest_of, from_on, least_of, lists_from, number_at, phrases_from}
use Rattle.phrase_merges.proofs.AheadLemmas.{farthest_from, flat_phrases, from_zero, hits_in, latest, map_same, no_choice}
use Rattle.phrase_merges.proofs.PassLemmas.{pass_found, pass_moves}

farther_turn : (a b : ℕ) (c : Option ℕ) → farther (Some (max a b)) c ≡ farther (Some a) (farther (Some b) c)
farther_turn a b None = refl
farther_turn a b (Some c) = ap Some (turn a b c)
  where
    turn : (x y z : ℕ) → max (max x y) z ≡ max x (max y z)
    turn x y z = omega arith

module _ {P : Type 0} (state : P → PhraseState) (by : Edge) (unit : TextUnit) where
  -- the phrases before the number reach so far
  pub record Reaching (number_of : Hit → ℕ) (place : ℕ) (old now : List (Vec P Global)) (number far start end : ℕ) : Type 0 where
    pub far_is : farther (Some far) (farthest_of number_of (drop number (phrases_from state by unit place old))) ≡ farthest_of number_of (phrases_from state by unit place old)
    pub left : phrases_from state by unit place now ≡ phrases_from state by unit place old
    pub rises : all_rising state now ≡ true
    pub aims : all_aims state now ≡ all_aims state old
    pub grown : start ≤ end

  -- what one phrase more leaves
  pub record Left (place : ℕ) (old after : List (Vec P Global)) (start end : ℕ) : Type 0 where
    pub left : phrases_from state by unit place after ≡ phrases_from state by unit place old
    pub rises : all_rising state after ≡ true
    pub aims : all_aims state after ≡ all_aims state old
    pub grown : start ≤ end

  pub left_after : (number_of : Hit → ℕ) (place : ℕ) (old now : List (Vec P Global)) (number far start middle end : ℕ) (x y : Vec P Global)
      → Reaching number_of place old now number far start middle → number < length now → x ≡ get_or now number x
      → lists_from state by unit place y.items ≡ lists_from state by unit place x.items → are_rising state y.items ≡ true → aims_of state y.items ≡ aims_of state x.items → middle ≤ end
      → Left place old (set now number y) start end
  left_after number_of place old now number far start middle end x y so_far h read left rises aims more = record {
    left = map_set (λ phrase. lists_from state by unit place phrase.items) now number x y h read left ∙ so_far.left;
    rises = all_set (λ phrase. are_rising state phrase.items) now number x y h read (rises ∙ sym (all_at (λ phrase. are_rising state phrase.items) now number x h read so_far.rises)) ∙ so_far.rises;
    aims = map_set (λ phrase. aims_of state phrase.items) now number x y h read aims ∙ so_far.aims;
    grown = omega (arith, so_far.grown, more);
  }

  at_number : (number_of : Hit → ℕ) (place : ℕ) (old now : List (Vec P Global)) (number far start end : ℕ) (x : Vec P Global)
      → Reaching number_of place old now number far start end → number < length now → x ≡ get_or now number x
      → drop number (phrases_from state by unit place old) ≡ lists_from state by unit place x.items ∷ drop (number + 1) (phrases_from state by unit place old)
  at_number number_of place old now number far start end x so_far h read =
      let phrases = phrases_from state by unit place old in
      let view : Vec P Global → List (List Hit) = λ phrase. lists_from state by unit place phrase.items in
      let many : length now ≡ length phrases = sym (length-map now view) ∙ ap length so_far.left in
      let here : view x ≡ get_or phrases number (view x) =
      ap view read ∙ sym (get_or-map view now number x) ∙ ap (λ (views : List (List (List Hit))). get_or views number (view x)) so_far.left in
      drop_more phrases number (view x) (omega (arith, h, many)) ∙ (λ i. sym here i ∷ drop (number + 1) phrases)

  pub reach_goes_on : (number_of : Hit → ℕ) (place : ℕ) (old now : List (Vec P Global)) (number far start middle end : ℕ) (x y : Vec P Global) (own next : ℕ)
      → Reaching number_of place old now number far start middle → number < length now → x ≡ get_or now number x
      → Some own ≡ least_of number_of (lists_from state by unit place x.items) → next ≡ max far own
      → lists_from state by unit place y.items ≡ lists_from state by unit place x.items → are_rising state y.items ≡ true → aims_of state y.items ≡ aims_of state x.items → middle ≤ end
      → Reaching number_of place old (set now number y) (number + 1) next start end
  reach_goes_on number_of place old now number far start middle end x y own next so_far h read is far_is left rises aims more =
      let rest = farthest_of number_of (drop (number + 1) (phrases_from state by unit place old)) in
      let after = left_after number_of place old now number far start middle end x y so_far h read left rises aims more in
      record {
        far_is =
            ap (λ n. farther (Some n) rest) far_is
            ∙ farther_turn far own rest
            ∙ ap (λ one. farther (Some far) (farther one rest)) is
            ∙ ap (λ (phrases : List (List (List Hit))). farther (Some far) (farthest_of number_of phrases)) (sym (at_number number_of place old now number far start middle x so_far h read))
            ∙ so_far.far_is;
        left = after.left;
        rises = after.rises;
        aims = after.aims;
        grown = after.grown;
      }

  pub reach_fails : (number_of : Hit → ℕ) (place : ℕ) (old now : List (Vec P Global)) (number far start end : ℕ) (x : Vec P Global)
      → Reaching number_of place old now number far start end → number < length now → x ≡ get_or now number x
      → None ≡ least_of number_of (lists_from state by unit place x.items) → None ≡ farthest_of number_of (phrases_from state by unit place old)
  reach_fails number_of place old now number far start end x so_far h read is =
      let rest = farthest_of number_of (drop (number + 1) (phrases_from state by unit place old)) in
      ap (λ one. farther (Some far) (farther one rest)) is
      ∙ ap (λ (phrases : List (List (List Hit))). farther (Some far) (farthest_of number_of phrases)) (sym (at_number number_of place old now number far start end x so_far h read))
      ∙ so_far.far_is

  -- ---- place after place

  same_hits : (low : ℕ) (old now : List (Vec P Global)) → phrases_from state by unit low now ≡ phrases_from state by unit low old
      → map (from_on by unit low) (all_hits state now) ≡ map (from_on by unit low) (all_hits state old)
  same_hits low old now left = sym (flat_phrases state by unit low now) ∙ ap (map hits_in) left ∙ flat_phrases state by unit low old

  pub same_length : (low : ℕ) (old now : List (Vec P Global)) → phrases_from state by unit low now ≡ phrases_from state by unit low old → length now ≡ length old
  same_length low old now left =
      sym (length-map now (λ (phrase : Vec P Global). lists_from state by unit low phrase.items)) ∙ ap length left
      ∙ length-map old (λ (phrase : Vec P Global). lists_from state by unit low phrase.items)

  module _ (number_of : Hit → ℕ) (test : List Hit → Bool) where
    -- no choice passes that has a hit before the place
    pub record Narrowing (old now : List (Vec P Global)) (low start end : ℕ) : Type 0 where
      pub passes : some_choice test (map (from_on by unit low) (all_hits state now)) ≡ some_choice test (all_hits state old)
      pub some : 0 < length now
      pub rises : all_rising state now ≡ true
      pub aims : all_aims state now ≡ all_aims state old
      pub low_is : low ≤ 4294967296
      pub grown : start ≤ end

    pub narrow_starts : (old : List (Vec P Global)) (steps : ℕ) → 0 < length old → all_rising state old ≡ true → Narrowing old old 0 steps steps
    narrow_starts old steps some h = record {
      passes = ap (some_choice test) (map_same (from_on by unit 0) (from_zero by unit) (all_hits state old));
      some = some;
      rises = h;
      aims = refl;
      low_is = omega arith;
      grown = omega arith;
    }

    pub narrow_found : (old now : List (Vec P Global)) (low far start end : ℕ) → Narrowing old now low start end → Some far ≡ farthest_of number_of (phrases_from state by unit low now)
        → ((chosen : List Hit) → (list_all (λ hit. nat_le low (number_at by unit hit)) chosen && nat_lt 0 (length chosen)) ≡ true → nat_le (latest number_of chosen) far ≡ true → test chosen ≡ true)
        → some_choice test (all_hits state old) ≡ true
    narrow_found old now low far start end so_far is found =
        let many = length-map now (λ (phrase : Vec P Global). hits_left state phrase.items) in
        sym so_far.passes
        ∙ pass_found by unit number_of test low far (all_hits state now) (omega (arith, so_far.some, many)) (sym (farthest_from state by unit number_of low now) ∙ sym is) found

    pub narrow_fails : (old now : List (Vec P Global)) (low start end : ℕ) → Narrowing old now low start end
        → None ≡ farthest_of number_of (phrases_from state by unit low now) → some_choice test (all_hits state old) ≡ false
    narrow_fails old now low start end so_far is =
        sym so_far.passes
        ∙ no_choice number_of test (map (from_on by unit low) (all_hits state now)) (sym (farthest_from state by unit number_of low now) ∙ sym is)

    pub narrow_goes_on : (old now after : List (Vec P Global)) (low later far start middle end : ℕ) → Narrowing old now low start middle
        → Some far ≡ farthest_of number_of (phrases_from state by unit low now) → low ≤ later → later ≤ 4294967296
        → ((chosen : List Hit) → nat_le far (latest number_of chosen) ≡ true → test chosen ≡ true → list_all (λ hit. nat_le later (number_at by unit hit)) chosen ≡ true)
        → phrases_from state by unit low after ≡ phrases_from state by unit low now → all_rising state after ≡ true → all_aims state after ≡ all_aims state now → middle ≤ end
        → Narrowing old after later start end
    narrow_goes_on old now after low later far start middle end so_far is order small rule left rises aims more =
        let many = same_length low now after left in
        let own = same_hits low now after left in
        let known = ap (λ (phrases : List (List (List Hit))). farthest_of number_of phrases) left in
        record {
          passes =
              pass_moves by unit number_of test low later far (all_hits state after) (sym (farthest_from state by unit number_of low after) ∙ known ∙ sym is) order rule
              ∙ ap (some_choice test) own
              ∙ so_far.passes;
          some = omega (arith, so_far.some, many);
          rises = rises;
          aims = aims ∙ so_far.aims;
          low_is = small;
          grown = omega (arith, so_far.grown, more);
        }
