-- Where a selection holds what makes excludes: `ftnot` and `occurs` (XQuery and XPath Full Text 3.0, sections 3.5.3 and 3.2.5), and where
-- they are not allowed.
use Rattle.std.specs.Prelude.{ℕ, if◌then◌else◌, List, [], ◌∷◌, ◌++◌, flat_map, option_map}
use Rattle.std.specs.Option.{option_to_list}
use Rattle.ft_base.specs.declared.filter.Filter.{Filter}
use Rattle.counted_shapes.specs.Accepted.{is_counted}
use Rattle.selection_grammar.specs.Form.{form_of}
use Rattle.selection_grammar.specs.Tree.{Tree, Trees, words, or_of, and_of, mild_not, not_of, filtered, with_options, none, more}

-- a selection, and all that stand inside it
unfoldable mutual
  pub within : Tree → List Tree
  within (words w) = words w ∷ []
  within (or_of trees) = or_of trees ∷ within_all trees
  within (and_of trees) = and_of trees ∷ within_all trees
  within (mild_not left right) = mild_not left right ∷ within left ++ within right
  within (not_of at operand) = not_of at operand ∷ within operand
  within (filtered operand filter) = filtered operand filter ∷ within operand
  within (with_options operand options) = with_options operand options ∷ within operand

  pub within_all : Trees → List Tree
  within_all none = []
  within_all (more tree rest) = within tree ++ within_all rest

-- the place of `ftnot`, where this is its selection
abbrev pub not_place : Tree → List ℕ
not_place (not_of at operand) = at ∷ []
not_place other = []

-- the place of `occurs` after words
abbrev pub times_place : Tree → List ℕ
times_place (words w) = option_to_list (option_map (λ times. times.at) w.times)
times_place other = []

-- each `ftnot` in a selection
abbrev pub nots : Tree → List ℕ
nots tree = flat_map not_place (within tree)

-- each `occurs` in a selection
abbrev pub times : Tree → List ℕ
times tree = flat_map times_place (within tree)

abbrev pub excludes : Tree → List ℕ
excludes tree = nots tree ++ times tree

-- each `ftnot` and `occurs` in the operands of `not in`
abbrev pub operand_excludes : Tree → List ℕ
operand_excludes (mild_not left right) = excludes left ++ excludes right
operand_excludes other = []

abbrev pub mild_not_excludes : Tree → List ℕ
mild_not_excludes tree = flat_map operand_excludes (within tree)

-- each `ftnot` in the operand of another
abbrev pub operand_nots : Tree → List ℕ
operand_nots (not_of at operand) = nots operand
operand_nots other = []

abbrev pub nested_nots : Tree → List ℕ
nested_nots tree = flat_map operand_nots (within tree)

-- each `occurs` under a filter, unless the two are a counted shape
abbrev pub uncounted_times : Tree → Filter → List ℕ
uncounted_times operand filter = if is_counted (form_of operand) filter then [] else times operand

-- in a selection with a filter, each `ftnot` in the operand of another one there, and each `occurs` that isn't counted. In a counted shape no
-- selection has a filter, so that of several filters round an `occurs` the outermost decides.
abbrev pub filtered_excludes : Tree → List ℕ
filtered_excludes (filtered operand filter) = nested_nots operand ++ uncounted_times operand filter
filtered_excludes other = []

abbrev pub inside_filters : Tree → List ℕ
inside_filters tree = flat_map filtered_excludes (within tree)
