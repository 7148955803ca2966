-- Some window has enough of each item exactly where one does that ends at an event, some sentence or paragraph where one does in which a hit begins.
use Rattle.std.proofs.Common.{◌≡◌, refl, ap, sym, ◌∙◌, ℕ, zero, suc, ◌+◌, List, [], ◌∷◌, Bool, true, false, ◌&&◌, ◌||◌, ◌⊎◌, inl, inr, length, arith}
use Rattle.std.specs.Prelude.{◌↔◌, ◌==◌, map, filter, cond, nat_le, nat_lt}
use Rattle.std.specs.List.{list_any, list_all}
use Rattle.std.proofs.lemmas.Bool.{and_parts, or_cases, or_left, or_right, or_parts, eqb-true}
use Rattle.std.proofs.lemmas.Bool.Decides.{nat_tests}
use Rattle.std.proofs.lemmas.List.Folds.{list_any-append}
use Rattle.ft_base.specs.declared.filter.Filter.{Filter}
use Rattle.ft_base.specs.declared.filter.Filter.TheVariants as F
use Rattle.ft_base.specs.declared.hit.Hit.{Hit}
use Rattle.ft_base.specs.declared.options.Options.{Options}
use Rattle.ft_base.specs.declared.token.Token.{Token}
use Rattle.ft_base.specs.declared.unit.TextUnit.{TextUnit}
use Rattle.ft_base.specs.declared.unit.TextUnit.TheVariants.{Sentences, Paragraphs}
use Rattle.ft_base.specs.Selection.{Form, filtered}
use Rattle.ft_base.proofs.Truth.{same_tests}
use Rattle.all_matches.specs.Meaning.{sat_under}
use Rattle.all_matches.specs.Positions.{start_in, end_in}
use Rattle.all_matches.specs.Variants.{Lexicon}
use Rattle.all_matches.proofs.ListTests.{list_any-map, list_any-flat_map}
use Rattle.counted_shapes.specs.Fields.{in_window, in_unit}
use Rattle.counted_shapes.specs.Held.{needs_hit, HoldsInWindow, HoldsInUnit}
use Rattle.counted_shapes.specs.Shapes.{Counted, is_at_most, has_enough, is_shape, items_of, all_hits, events, fit_in_window, fit_in_unit}
use Rattle.counted_shapes.proofs.FieldLaws.{some_count}
use Rattle.counted_shapes.proofs.FitsLemmas.{fits-window, fits-sentence, fits-paragraph}
use Rattle.counted_shapes.proofs.ItemLemmas.{items_hold, shape-boolean, shape-needs}

-- ---- tests of lists

any_follows : {X : Type 0} (p q : X → Bool) (xs : List X) → ((x : X) → p x ≡ true → q x ≡ true) → list_any p xs ≡ true → list_any q xs ≡ true
any_follows p q [] follows h = cc
any_follows {X = X} p q (x ∷ rest) follows h = by_side (or_cases (p x) (list_any p rest) h) (any_follows p q rest follows)
  where
    by_side : (p x ≡ true) ⊎ (list_any p rest ≡ true) → (list_any p rest ≡ true → list_any q rest ≡ true) → (q x || list_any q rest) ≡ true
    by_side (inl here) further = or_left (q x) (list_any q rest) (follows x here)
    by_side (inr later) further = or_right (q x) (list_any q rest) (further later)

-- a number of a list that passes a test
at_number : (p : ℕ → Bool) (n : ℕ) (xs : List ℕ) → p n ≡ true → list_any (λ x. x == n) xs ≡ true → list_any p xs ≡ true
at_number p n xs h = any_follows (λ x. x == n) p xs (λ x same. ap p (eqb-true x n same) ∙ h)

one_of_list : {X : Type 0} (p : X → Bool) (xs : List X) → list_any p xs ≡ true → (x : X) × (p x ≡ true)
one_of_list p [] h = cc
one_of_list {X = X} p (x ∷ rest) h = by_side (or_cases (p x) (list_any p rest) h) (one_of_list p rest)
  where
    by_side : (p x ≡ true) ⊎ (list_any p rest ≡ true) → (list_any p rest ≡ true → (y : X) × (p y ≡ true)) → (y : X) × (p y ≡ true)
    by_side (inl here) further = (x, here)
    by_side (inr later) further = further later

-- ---- an item that asks for a hit has one

at_least_one : (k n : ℕ) → nat_lt 0 k ≡ true → nat_le k n ≡ true → nat_lt 0 n ≡ true
at_least_one k n a b = grind (arith, nat_tests)

some_hit : (field : Hit → Bool) (items : List Counted) → list_any (λ item. nat_lt 0 item.least) items ≡ true → list_all (has_enough field) items ≡ true
    → list_any field (all_hits items) ≡ true
some_hit field [] one_asks enough = cc
some_hit field (item ∷ rest) one_asks enough =
    let parts = and_parts (has_enough field item) (list_all (has_enough field) rest) enough in
    let bounds = and_parts (nat_le item.least (length (filter field item.hits))) (is_at_most item.most (length (filter field item.hits))) parts.0 in
    list_any-append field item.hits (all_hits rest)
    ∙ by_side (or_cases (nat_lt 0 item.least) (list_any (λ other. nat_lt 0 other.least) rest) one_asks)
    (λ here. some_count field item.hits ∙ at_least_one item.least (length (filter field item.hits)) here bounds.0)
    (λ later. some_hit field rest later parts.1)
  where
    by_side : (nat_lt 0 item.least ≡ true) ⊎ (list_any (λ other. nat_lt 0 other.least) rest ≡ true)
        → (nat_lt 0 item.least ≡ true → list_any field item.hits ≡ true)
        → (list_any (λ other. nat_lt 0 other.least) rest ≡ true → list_any field (all_hits rest) ≡ true)
        → (list_any field item.hits || list_any field (all_hits rest)) ≡ true
    by_side (inl here) first further = or_left (list_any field item.hits) (list_any field (all_hits rest)) (first here)
    by_side (inr later) first further = or_right (list_any field item.hits) (list_any field (all_hits rest)) (further later)

-- ---- windows: between two events nothing comes in and nothing goes

quiet : (size k s e : ℕ) → ((e == suc k) || ((s + size == suc k) || false)) ≡ false
    → (nat_le e (suc k) && nat_lt (suc k) (s + size)) ≡ (nat_le e k && nat_lt k (s + size))
quiet size k s e h = grind (arith, nat_tests)

ends_at_zero : (size s e : ℕ) → (nat_le e 0 && nat_lt 0 (s + size)) ≡ true → ((e == 0) || ((s + size == 0) || false)) ≡ true
ends_at_zero size s e h = grind (arith, nat_tests)

module _ (size : ℕ) (kind : TextUnit) where
  -- the events of a hit, and whether one of them is a number
  abbrev hit_events : Hit → List ℕ
  hit_events hit = end_in kind hit ∷ (start_in kind hit + size) ∷ []

  abbrev comes_or_goes : ℕ → Hit → Bool
  comes_or_goes last hit = list_any (λ n. n == last) (hit_events hit)

  quiet_hits : (k : ℕ) (hits : List Hit) → list_any (comes_or_goes (suc k)) hits ≡ false → filter (in_window size kind (suc k)) hits ≡ filter (in_window size kind k) hits
  quiet_hits k [] h = refl
  quiet_hits k (hit ∷ rest) h =
      let parts = or_parts (comes_or_goes (suc k) hit) (list_any (comes_or_goes (suc k)) rest) h in
      λ i. cond (quiet size k (start_in kind hit) (end_in kind hit) parts.0 i) (hit ∷ quiet_hits k rest parts.1 i) (quiet_hits k rest parts.1 i)

  quiet_items : (k : ℕ) (items : List Counted) → list_any (λ item. list_any (comes_or_goes (suc k)) item.hits) items ≡ false
      → list_all (has_enough (in_window size kind (suc k))) items ≡ list_all (has_enough (in_window size kind k)) items
  quiet_items k [] h = refl
  quiet_items k (item ∷ rest) h =
      let parts = or_parts (list_any (comes_or_goes (suc k)) item.hits) (list_any (λ other. list_any (comes_or_goes (suc k)) other.hits) rest) h in
      λ i. (nat_le item.least (length (quiet_hits k item.hits parts.0 i)) && is_at_most item.most (length (quiet_hits k item.hits parts.0 i))) && quiet_items k rest parts.1 i

  events_of_hits : (last : ℕ) (hits : List Hit) → list_any (λ n. n == last) (events size kind hits) ≡ list_any (comes_or_goes last) hits
  events_of_hits last hits = list_any-flat_map (λ n. n == last) hit_events hits

  events_of_items : (last : ℕ) (items : List Counted)
      → list_any (λ n. n == last) (events size kind (all_hits items)) ≡ list_any (λ item. list_any (comes_or_goes last) item.hits) items
  events_of_items last items = events_of_hits last (all_hits items) ∙ list_any-flat_map (comes_or_goes last) (λ item. item.hits) items

  window_at_event : (items : List Counted) → list_any (λ item. nat_lt 0 item.least) items ≡ true
      → (last : ℕ) → list_all (has_enough (in_window size kind last)) items ≡ true → fit_in_window size kind items ≡ true
  window_at_event items one_asks zero h =
      at_number (λ last. list_all (has_enough (in_window size kind last)) items) 0 (events size kind (all_hits items)) h
      (events_of_hits 0 (all_hits items)
      ∙ any_follows (in_window size kind 0) (comes_or_goes 0) (all_hits items) (λ hit. ends_at_zero size (start_in kind hit) (end_in kind hit))
      (some_hit (in_window size kind 0) items one_asks h))
  window_at_event items one_asks (suc k) h = by_event (list_any (λ n. n == suc k) (events size kind (all_hits items))) refl (window_at_event items one_asks k)
    where
      by_event : (b : Bool) → list_any (λ n. n == suc k) (events size kind (all_hits items)) ≡ b
          → (list_all (has_enough (in_window size kind k)) items ≡ true → fit_in_window size kind items ≡ true) → fit_in_window size kind items ≡ true
      by_event true event further = at_number (λ last. list_all (has_enough (in_window size kind last)) items) (suc k) (events size kind (all_hits items)) h event
      by_event false event further = further (sym (quiet_items k items (sym (events_of_items (suc k) items) ∙ event)) ∙ h)

unit_at_start : (kind : TextUnit) (items : List Counted) → list_any (λ item. nat_lt 0 item.least) items ≡ true
    → (number : ℕ) → list_all (has_enough (in_unit kind number)) items ≡ true → fit_in_unit kind items ≡ true
unit_at_start kind items one_asks number h =
    at_number (λ n. list_all (has_enough (in_unit kind n)) items) number (map (start_in kind) (all_hits items)) h
    (list_any-map (λ n. n == number) (start_in kind) (all_hits items)
    ∙ any_follows (in_unit kind number) (λ hit. start_in kind hit == number) (all_hits items)
    (λ hit inside. (and_parts (start_in kind hit == number) (end_in kind hit == number) inside).0)
    (some_hit (in_unit kind number) items one_asks h))

-- some window, some sentence or paragraph has enough of each item
pub some-window : (size : ℕ) (kind : TextUnit) (items : List Counted) → list_any (λ item. nat_lt 0 item.least) items ≡ true
    → (fit_in_window size kind items ≡ true) ↔ ((last : ℕ) × (list_all (has_enough (in_window size kind last)) items ≡ true))
some-window size kind items one_asks = (
  one_of_list (λ last. list_all (has_enough (in_window size kind last)) items) (events size kind (all_hits items)),
  λ there. window_at_event size kind items one_asks there.0 there.1,
)

pub some-unit : (kind : TextUnit) (items : List Counted) → list_any (λ item. nat_lt 0 item.least) items ≡ true
    → (fit_in_unit kind items ≡ true) ↔ ((number : ℕ) × (list_all (has_enough (in_unit kind number)) items ≡ true))
some-unit kind items one_asks = (
  one_of_list (λ number. list_all (has_enough (in_unit kind number)) items) (map (start_in kind) (all_hits items)),
  λ there. unit_at_start kind items one_asks there.0 there.1,
)

-- ---- counted shapes

pub counted-window : (lexicon : Lexicon) (options : Options) (size : ℕ) (kind : TextUnit) (form : Form) (tokens : List Token) → is_shape form ≡ true → needs_hit form ≡ true
    → sat_under lexicon options (filtered form (F.Window size kind)) tokens ≡ fit_in_window size kind (items_of lexicon options tokens form)
counted-window lexicon options size kind form tokens shape needs =
    same_tests (sat_under lexicon options (filtered form (F.Window size kind)) tokens) (fit_in_window size kind items)
    (λ left. let there = whole.0 left in
    (some-window size kind items one_asks).1 (there.0, sym (items_hold (in_window size kind there.0) lexicon options tokens form shape) ∙ there.1))
    (λ fit. let one = (some-window size kind items one_asks).0 fit in whole.1 (one.0, items_hold (in_window size kind one.0) lexicon options tokens form shape ∙ one.1))
  where
    items : List Counted
    items = items_of lexicon options tokens form

    one_asks : list_any (λ item. nat_lt 0 item.least) items ≡ true
    one_asks = sym (shape-needs lexicon options tokens form shape) ∙ needs

    whole : (sat_under lexicon options (filtered form (F.Window size kind)) tokens ≡ true) ↔ HoldsInWindow size kind lexicon options tokens form
    whole = fits-window lexicon options size kind form tokens (shape-boolean form shape) needs

-- of a filter that is satisfied where the shape holds in some sentence or paragraph
counted_unit : (lexicon : Lexicon) (options : Options) (kind : TextUnit) (filter_of : Filter) (form : Form) (tokens : List Token) → is_shape form ≡ true → needs_hit form ≡ true
    → ((sat_under lexicon options (filtered form filter_of) tokens ≡ true) ↔ HoldsInUnit kind lexicon options tokens form)
    → sat_under lexicon options (filtered form filter_of) tokens ≡ fit_in_unit kind (items_of lexicon options tokens form)
counted_unit lexicon options kind filter_of form tokens shape needs whole =
    same_tests (sat_under lexicon options (filtered form filter_of) tokens) (fit_in_unit kind items)
    (λ left. let there = whole.0 left in
    (some-unit kind items one_asks).1 (there.0, sym (items_hold (in_unit kind there.0) lexicon options tokens form shape) ∙ there.1))
    (λ fit. let one = (some-unit kind items one_asks).0 fit in whole.1 (one.0, items_hold (in_unit kind one.0) lexicon options tokens form shape ∙ one.1))
  where
    items : List Counted
    items = items_of lexicon options tokens form

    one_asks : list_any (λ item. nat_lt 0 item.least) items ≡ true
    one_asks = sym (shape-needs lexicon options tokens form shape) ∙ needs

pub counted-sentence : (lexicon : Lexicon) (options : Options) (form : Form) (tokens : List Token) → is_shape form ≡ true → needs_hit form ≡ true
    → sat_under lexicon options (filtered form F.SameSentence) tokens ≡ fit_in_unit Sentences (items_of lexicon options tokens form)
counted-sentence lexicon options form tokens shape needs =
    counted_unit lexicon options Sentences F.SameSentence form tokens shape needs (fits-sentence lexicon options form tokens (shape-boolean form shape) needs)

pub counted-paragraph : (lexicon : Lexicon) (options : Options) (form : Form) (tokens : List Token) → is_shape form ≡ true → needs_hit form ≡ true
    → sat_under lexicon options (filtered form F.SameParagraph) tokens ≡ fit_in_unit Paragraphs (items_of lexicon options tokens form)
counted-paragraph lexicon options form tokens shape needs =
    counted_unit lexicon options Paragraphs F.SameParagraph form tokens shape needs (fits-paragraph lexicon options form tokens (shape-boolean form shape) needs)
