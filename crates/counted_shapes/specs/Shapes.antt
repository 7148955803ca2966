-- Counted shapes: words that occur so often, and words that don't occur, all in one window, sentence or paragraph.
use Rattle.std.specs.Prelude.{ℕ, ◌+◌, Bool, true, false, ◌&&◌, nat_le, if◌then◌else◌, List, [], ◌∷◌, ◌++◌, map, filter, flat_map, length, Option, Some, None}
use Rattle.std.specs.List.{list_any, list_all}
use Rattle.ft_base.specs.Lists.{is_empty}
use Rattle.ft_base.specs.declared.hit.Hit.{Hit}
use Rattle.ft_base.specs.declared.options.Options.{Options}
use Rattle.ft_base.specs.declared.range.Range.{Range}
use Rattle.ft_base.specs.declared.range.Range.TheVariants.{Exactly, AtLeast, AtMost, FromTo}
use Rattle.ft_base.specs.declared.token.Token.{Token}
use Rattle.ft_base.specs.declared.unit.TextUnit.{TextUnit}
use Rattle.ft_base.specs.declared.words.Words.{Words}
use Rattle.ft_base.specs.Selection.{Form, Forms, words, or_of, and_of, mild_not, not_of, filtered, with_options, none, more}
use Rattle.all_matches.specs.Allowed.{has_no_range}
use Rattle.all_matches.specs.Hits.{hits}
use Rattle.all_matches.specs.Meaning.{inside, phrases_by, strings_of}
use Rattle.all_matches.specs.Positions.{start_in, end_in}
use Rattle.all_matches.specs.Variants.{Item, Lexicon}
use Rattle.counted_shapes.specs.Fields.{in_window, in_unit}
use Rattle.counted_shapes.specs.Held.{takes_one}

-- the hits of some words, and the least and the most of them that have to lie in a field. None is no bound
pub record Counted : Type 0 where
  pub hits : List Hit
  pub least : ℕ
  pub most : Option ℕ

abbrev pub is_at_most : Option ℕ → ℕ → Bool
is_at_most None count = true
is_at_most (Some most) count = nat_le count most

-- whether so many of the hits as are asked for lie in a field
abbrev pub has_enough : (Hit → Bool) → Counted → Bool
has_enough field item = nat_le item.least (length (filter field item.hits)) && is_at_most item.most (length (filter field item.hits))

-- the hits of phrases that are numbered from `first` on: two phrases at one place have two
abbrev pub phrase_hits : Lexicon → Options → ℕ → List (List Item) → List Token → List Hit
phrase_hits lexicon options first [] tokens = []
phrase_hits lexicon options first (phrase ∷ rest) tokens = hits lexicon options first phrase tokens ++ phrase_hits lexicon options (first + 1) rest tokens

-- the hits of a value, of whichever of its phrases
abbrev pub value_hits : Lexicon → Options → Words → List Token → List Hit
value_hits lexicon options value tokens =
    if list_all is_empty (strings_of lexicon options value) then []
    else phrase_hits lexicon options 1 (phrases_by value.mode (strings_of lexicon options value)) tokens

abbrev pub least_times : Option Range → ℕ
least_times None = 1
least_times (Some (Exactly n)) = n
least_times (Some (AtLeast n)) = n
least_times (Some (AtMost n)) = 0
least_times (Some (FromTo low high)) = low

abbrev pub most_times : Option Range → Option ℕ
most_times None = None
most_times (Some (Exactly n)) = Some n
most_times (Some (AtLeast n)) = None
most_times (Some (AtMost n)) = Some n
most_times (Some (FromTo low high)) = Some high

-- words of which one hit is taken, without `occurs`, with options round them or not
unfoldable pub is_bare : Form → Bool
is_bare (words value) = takes_one value.mode && has_no_range value.times
is_bare (or_of forms) = false
is_bare (and_of forms) = false
is_bare (mild_not left right) = false
is_bare (not_of form) = false
is_bare (filtered form kind) = false
is_bare (with_options form inner) = is_bare form

-- the hits of such words
unfoldable pub bare_hits : Lexicon → Options → List Token → Form → List Hit
bare_hits lexicon options tokens (words value) = value_hits lexicon (inside value.options options) value tokens
bare_hits lexicon options tokens (or_of forms) = []
bare_hits lexicon options tokens (and_of forms) = []
bare_hits lexicon options tokens (mild_not left right) = []
bare_hits lexicon options tokens (not_of form) = []
bare_hits lexicon options tokens (filtered form kind) = []
bare_hits lexicon options tokens (with_options form inner) = bare_hits lexicon (inside inner options) tokens form

-- whether a selection is a counted shape, but for the filter round it: words of which one hit is taken, with `occurs` or not, `ftnot` of words
-- without `occurs`, and And of these
unfoldable mutual
  pub is_shape : Form → Bool
  is_shape (words value) = takes_one value.mode
  is_shape (or_of forms) = false
  is_shape (and_of forms) = are_shapes forms
  is_shape (mild_not left right) = false
  is_shape (not_of form) = is_bare form
  is_shape (filtered form kind) = false
  is_shape (with_options form inner) = is_shape form

  pub are_shapes : Forms → Bool
  are_shapes none = true
  are_shapes (more form rest) = is_shape form && are_shapes rest

-- its items. Of `ftnot` no hit may be there
unfoldable mutual
  pub items_of : Lexicon → Options → List Token → Form → List Counted
  items_of lexicon options tokens (words value) = record {
    hits = value_hits lexicon (inside value.options options) value tokens;
    least = least_times value.times;
    most = most_times value.times;
  } ∷ []
  items_of lexicon options tokens (or_of forms) = []
  items_of lexicon options tokens (and_of forms) = items_of_each lexicon options tokens forms
  items_of lexicon options tokens (mild_not left right) = []
  items_of lexicon options tokens (not_of form) = record { hits = bare_hits lexicon options tokens form; least = 0; most = Some 0 } ∷ []
  items_of lexicon options tokens (filtered form kind) = []
  items_of lexicon options tokens (with_options form inner) = items_of lexicon (inside inner options) tokens form

  pub items_of_each : Lexicon → Options → List Token → Forms → List Counted
  items_of_each lexicon options tokens none = []
  items_of_each lexicon options tokens (more form rest) = items_of lexicon options tokens form ++ items_of_each lexicon options tokens rest

-- the hits of all items
abbrev pub all_hits : List Counted → List Hit
all_hits items = flat_map (λ item. item.hits) items

-- the last numbers of windows of a size at which a hit comes in, and those at which one has gone
abbrev pub events : ℕ → TextUnit → List Hit → List ℕ
events size kind found = flat_map (λ hit. end_in kind hit ∷ (start_in kind hit + size) ∷ []) found

-- whether one window of a size has enough of each item. Between two events it has what it had
abbrev pub fit_in_window : ℕ → TextUnit → List Counted → Bool
fit_in_window size kind items = list_any (λ last. list_all (has_enough (in_window size kind last)) items) (events size kind (all_hits items))

-- whether one sentence or paragraph has enough of each item
abbrev pub fit_in_unit : TextUnit → List Counted → Bool
fit_in_unit kind items = list_any (λ number. list_all (has_enough (in_unit kind number)) items) (map (start_in kind) (all_hits items))
