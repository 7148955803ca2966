-- The least places in a selection, as its parts give them.
use Rattle.std.specs.Prelude.{ℕ, Bool, if◌then◌else◌, List, flat_map, Option, Some, None, option_map}
use Rattle.selection_grammar.specs.Tree.{Tree}
use Rattle.selection_grammar.specs.declared.parsed.PlacedOption.{PlacedOption}
use Rattle.selection_grammar.specs.declared.parsed.ParsedWords.{ParsedWords}
use Rattle.selection_faults.specs.Excludes.{within, not_place, times_place, operand_nots, operand_excludes, filtered_excludes}
use Rattle.selection_faults.specs.Least.{earlier, itself, least_place}
use Rattle.selection_faults.specs.Options.{own_second_option, second_option}
use Rattle.selection_faults.specs.declared.least_places.LeastPlaces.{LeastPlaces}

abbrev pub least_in : (Tree → List ℕ) → List Tree → Option ℕ
least_in places trees = least_place (flat_map places trees)

-- of selections, each without what stands inside it
abbrev pub least_of : List Tree → LeastPlaces
least_of trees = record {
  nots = least_in not_place trees;
  times = least_in times_place trees;
  nested_nots = least_in operand_nots trees;
  options_twice = least_in own_second_option trees;
  mild_not_excludes = least_in operand_excludes trees;
  inside_filters = least_in filtered_excludes trees;
}

-- of a selection
unfoldable pub least_places : Tree → LeastPlaces
least_places tree = least_of (within tree)

-- of several selections
unfoldable pub least_places_of : List Tree → LeastPlaces
least_places_of trees = least_of (flat_map within trees)

abbrev pub sooner : Option ℕ → Option ℕ → Option ℕ
sooner first second = earlier itself first second

abbrev pub no_places : LeastPlaces
no_places = record { nots = None; times = None; nested_nots = None; options_twice = None; mild_not_excludes = None; inside_filters = None }

abbrev pub of_words : ParsedWords → LeastPlaces
of_words w = record no_places { times = option_map (λ t. t.at) w.times; options_twice = second_option w.options }

abbrev pub both : LeastPlaces → LeastPlaces → LeastPlaces
both a b = record {
  nots = sooner a.nots b.nots;
  times = sooner a.times b.times;
  nested_nots = sooner a.nested_nots b.nested_nots;
  options_twice = sooner a.options_twice b.options_twice;
  mild_not_excludes = sooner a.mild_not_excludes b.mild_not_excludes;
  inside_filters = sooner a.inside_filters b.inside_filters;
}

abbrev pub excludes : LeastPlaces → Option ℕ
excludes places = sooner places.nots places.times

abbrev pub of_mild_not : LeastPlaces → LeastPlaces → LeastPlaces
of_mild_not left right = record (both left right) {
  mild_not_excludes = sooner (sooner (excludes left) (excludes right)) (sooner left.mild_not_excludes right.mild_not_excludes);
}

abbrev pub of_not : ℕ → LeastPlaces → LeastPlaces
of_not at operand = record operand { nots = sooner (Some at) operand.nots; nested_nots = sooner operand.nots operand.nested_nots }

-- the test says whether the selection is a counted shape
abbrev pub of_filtered : Bool → LeastPlaces → LeastPlaces
of_filtered counted operand = record operand {
  inside_filters = sooner (sooner operand.nested_nots (if counted then None else operand.times)) operand.inside_filters;
}

abbrev pub of_with : LeastPlaces → List PlacedOption → LeastPlaces
of_with operand options = record operand { options_twice = sooner (second_option options) operand.options_twice }
