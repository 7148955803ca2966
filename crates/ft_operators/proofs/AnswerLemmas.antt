-- What a walk shows after it was asked whether its way is clean, and what that says of the selection.
use Rattle.std.proofs.Common.{◌≡◌, refl, ap, sym, ◌∙◌, subst, ℕ, ◌<◌, ◌≤◌, List, [], ◌∷◌, Bool, true, false, cond, drop, length, get_or, arith}
use Rattle.std.specs.Prelude.{flat_map, Option, Some, None}
use Rattle.std.specs.List.{list_any}
use Rattle.std.proofs.Math.Seq.{drop-cons}
use Rattle.ft_base.specs.Lists.{is_not_empty}
use Rattle.ft_base.specs.declared.filter.Filter.{Filter}
use Rattle.ft_base.specs.declared.filter.Filter.TheVariants as F
use Rattle.ft_base.specs.declared.hit.Hit.{Hit}
use Rattle.ft_base.specs.declared.span.Span.{Span}
use Rattle.ft_base.specs.declared.unit.TextUnit.TheVariants.{Words, Sentences, Paragraphs}
use Rattle.all_matches.specs.declared.window.Window.{Window}
use Rattle.all_matches.specs.Boolean.{is_clean, satisfied, survives}
use Rattle.all_matches.specs.Chain.{Link, kept_by}
use Rattle.all_matches.specs.Filters.{choices, after}
use Rattle.all_matches.specs.Ways.{Operator, is_plain, matches_of, Way, clean_under, ways_of}
use Rattle.all_matches.proofs.ListTests.{list_any-alike}
use Rattle.all_matches.proofs.PlainOperators.{clean-survives}
use Rattle.all_matches.proofs.WayLaws.{some_way}
use Rattle.ft_operators.specs.declared.chain.Chain.{Chain}
use Rattle.ft_operators.specs.declared.course.Course.{Course}
use Rattle.ft_operators.specs.declared.extent.Extent.{Extent}
use Rattle.ft_operators.specs.Extents.{extent_beside}
use Rattle.ft_operators.specs.declared.extent.UnitExtents.{UnitExtents}
use Rattle.ft_base.specs.declared.unit.TextUnit.TheVariants.{Words}
use Rattle.ft_operators.specs.declared.node.Node.{Node}
use Rattle.ft_operators.specs.Chains.{clean_now, links_of, window_now}
use Rattle.ft_operators.specs.Course.{every, filtered_on, tellings, ways_on}
use Rattle.ft_operators.specs.Phrases.{PhraseState}
use Rattle.ft_operators.specs.Standing.{frame, includes_now}
use Rattle.ft_operators.specs.Walk.{tuple_of}
use Rattle.ft_operators.specs.steps.Cleaning.{tells, Asked, MayAsk}
use Rattle.ft_operators.specs.steps.Measuring.{are_held, holds}
use Rattle.ft_operators.specs.steps.Forms.{sieve_left, chosen_left, choices_at}
use Rattle.ft_operators.specs.steps.Nodes.{standing, frame_of, shape_of}
use Rattle.ft_operators.specs.steps.Walking.{IsHeld}
use Rattle.ft_operators.proofs.CourseLemmas.{clean_told}
use Rattle.ft_operators.proofs.CleanLemmas.{kept_choices, lead_chosen}
use Rattle.ft_operators.proofs.FrameLemmas.{frame_same}
use Rattle.ft_operators.proofs.GatherLemmas.{sieve_includes}
use Rattle.ft_operators.proofs.SieveLemmas.{lead_below}
use Rattle.ft_operators.proofs.TupleLemmas.{shown, shown_ways, kept_frame, standing_room, standing_shape, walk_there}

-- ---- a selection is satisfied where some way is clean under no filter

pub satisfied_ways : (item : Span) (extents : UnitExtents) (beside : Option Extent) (operator : Operator) (links : List Link) → links ≡ [] → is_plain operator ≡ true
    → are_held extents operator ≡ true → holds beside (extent_beside Words operator) ≡ true
    → list_any (clean_under (kept_by links)) (ways_on (tellings item extents beside) operator) ≡ satisfied (matches_of item operator)
satisfied_ways item extents beside operator links none plain held out =
    clean_told item extents beside operator (kept_by links) held out
    ∙ ap (λ ls. list_any (clean_under (kept_by ls)) (ways_of item operator)) none
    ∙ sym (list_any-alike is_clean (survives (kept_by [])) (matches_of item operator) clean-survives ∙ some_way item operator (kept_by []) plain)

-- ---- a walk that stays at its way

module _ {P : Type 0} (state : P → PhraseState) (course : Course) (old new : Node P) where
  pub asked_may : (there : Bool) (room filters hits : ℕ) → is_not_empty (cond there (standing state course old).rest []) ≡ true
      → (shape_of old).room ≤ room → (shape_of old).filters ≤ filters → (shape_of old).hits ≤ hits → MayAsk (standing state course old) room filters hits
  asked_may there room filters hits way few few_filters few_hits =
      let same = standing_shape state course old old in record {
        there = walk_there state course old old there way;
        fits = subst (λ s. s.room ≤ room) (sym same) few;
        filters = subst (λ s. s.filters ≤ filters) (sym same) few_filters;
        hits = subst (λ s. s.hits ≤ hits) (sym same) few_hits;
      }

  pub asked_answer : (there : Bool) (before after : Chain) (room new_room start end : ℕ) (answer : Bool) → is_not_empty (cond there (standing state course old).rest []) ≡ true
      → Asked course (standing state course old) (standing state course new) before after room new_room start end answer → tells course (frame_of state old).operator ≡ true
      → answer ≡ clean_now (kept_by (links_of before)) (cond there (standing state course old).rest [])
  asked_answer true before after room new_room start end answer way a told = a.clean (ap (λ f. tells course f.operator) (frame_same state course old) ∙ told)
  asked_answer false before after room new_room start end answer way a told = cc

  pub asked_shown : (there : Bool) (mid_room new_room : ℕ) (held : List Hit) → is_not_empty (cond there (standing state course old).rest []) ≡ true → standing state course new ≡ standing state course old
      → IsHeld there (standing state course new) mid_room new_room held → (shape_of old).room ≤ mid_room
      → shown course.item (frame_of state new) (cond there (standing state course new).rest []) (cond there (Some held) None)
      ≡ shown course.item (frame_of state old) (cond there (standing state course old).rest []) (tuple_of (cond there (standing state course old).rest []))
  asked_shown true mid_room new_room held way same h fits =
      let there = ap (λ s. is_not_empty s.rest) same ∙ way in
      let room = ap (λ s. s.shape.room) same in
      shown_ways course.item (frame_of state new) (standing state course new).rest true held (sym there) (λ t. h.hits refl there (omega (arith, room, standing_room state course old new, fits)))
      ∙ (λ i. shown course.item (kept_frame state course old new (ap frame same) i) (same i).rest (tuple_of (same i).rest))
  asked_shown false mid_room new_room held way same h fits = cc

-- one that was aimed, and gone through on any course
module _ {P : Type 0} (state : P → PhraseState) (item : Span) (old new : Node P) (same : frame_of state new ≡ frame_of state old) where
  pub through_shown : (there : Bool) (held new_held : List Hit) → cond there (Some held) None ≡ None
      → shown item (frame_of state new) (cond there (standing state (every item) new).rest []) (cond there (Some new_held) None)
      ≡ shown item (frame_of state old) (cond there (standing state (every item) old).rest []) (cond there (Some held) None)
  through_shown true held new_held none = cc
  through_shown false held new_held none = ap (λ f. shown item f [] None) same

module _ {P : Type 0} (state : P → PhraseState) (item : Span) (course : Course) (old new : Node P) (same : frame (standing state course new) ≡ frame (standing state course old)) where
  pub passed_shown : shown item (frame_of state new) [] None ≡ shown item (frame_of state old) [] None
  passed_shown = ap (λ f. shown item f [] None) (kept_frame state course old new same)

-- ---- the window of a way

-- the choices of a filter are those that it has with what it leaves
choices_after : (kind : Filter) (includes : List Hit) → choices kind (after kind includes) ≡ choices kind includes
choices_after F.Ordered includes = refl
choices_after (F.Window size Words) [] = refl
choices_after (F.Window size Words) (hit ∷ rest) = refl
choices_after (F.Window size Sentences) [] = refl
choices_after (F.Window size Sentences) (hit ∷ rest) = refl
choices_after (F.Window size Paragraphs) [] = refl
choices_after (F.Window size Paragraphs) (hit ∷ rest) = refl
choices_after (F.Distance range kind) includes = refl
choices_after F.SameSentence includes = refl
choices_after F.SameParagraph includes = refl
choices_after F.DifferentSentence includes = refl
choices_after F.DifferentParagraph includes = refl
choices_after F.AtStart includes = refl
choices_after F.AtEnd includes = refl
choices_after F.EntireContent includes = refl

choice_window : (kind : Filter) (way : Way) (cs : List (Option Window)) (lead : ℕ) (later : List Way) → lead < length cs → window_now (chosen_left kind way (drop lead cs) later) ≡ get_or cs lead None
choice_window kind way cs lead later below = ap (λ ds. window_now (chosen_left kind way ds later)) (drop-cons cs lead None below)

sieve_window : (kind : Filter) (item : Span) (lead : ℕ) (ways : List Way) → is_not_empty (sieve_left kind (every item) lead ways) ≡ true
    → window_now (sieve_left kind (every item) lead ways) ≡ get_or (choices kind (includes_now ways)) lead None
sieve_window kind item lead [] there = cc
sieve_window kind item lead (way ∷ more) there =
    let below = lead_below kind (every item) lead (way ∷ more) there in
    choice_window kind way (choices_at kind (every item) way) lead (flat_map (filtered_on kind (every item)) more) below
    ∙ ap (λ cs. get_or cs lead None) (kept_choices kind (every item) (includes_now (way ∷ more)) lead below)

-- a walk that shows the includes of its way
held_now : (there : Bool) (ways : List Way) (held : List Hit) → there ≡ true → cond there (Some held) None ≡ tuple_of (cond there ways []) → (is_not_empty ways ≡ true) × (held ≡ includes_now ways)
held_now true [] held holds is = cc
held_now true (way ∷ rest) held holds is = (refl, some is)
  where
    some : {a b : List Hit} → Some a ≡ Some b → a ≡ b
    some e = cc
held_now false ways held holds is = cc

module _ (kind : Filter) (item : Span) (lead : ℕ) (ways : List Way) (there : Bool) (held : List Hit) (holds : there ≡ true)
    (is : cond there (Some held) None ≡ tuple_of (cond there (sieve_left kind (every item) lead ways) [])) where
  pub window_below : lead < length (choices kind held)
  window_below =
      let now = held_now there (sieve_left kind (every item) lead ways) held holds is in
      let same = ap (choices kind) (now.1 ∙ sieve_includes kind (every item) lead ways now.0) ∙ choices_after kind (includes_now ways) in
      subst (λ cs. lead < length cs) (sym same) (lead_chosen kind (every item) lead ways now.0)

  pub window_same : get_or (choices kind held) lead None ≡ window_now (cond there (sieve_left kind (every item) lead ways) [])
  window_same =
      let now = held_now there (sieve_left kind (every item) lead ways) held holds is in
      ap (λ hits. get_or (choices kind hits) lead None) (now.1 ∙ sieve_includes kind (every item) lead ways now.0)
      ∙ ap (λ cs. get_or cs lead None) (choices_after kind (includes_now ways))
      ∙ sym (sieve_window kind item lead ways now.0)
      ∙ ap (λ b. window_now (cond b (sieve_left kind (every item) lead ways) [])) (sym holds)
