-- The strings of a selection: how many phrases they make (XQuery and XPath Full Text 3.0, section 3.2.1: FTAnyallOption), and which of them
-- hold a badly formed pattern ([err:FTDY0020]).
use Rattle.std.specs.Prelude.{ℕ, ◌+◌, max, Bool, true, false, ◌&&◌, nat_lt, if◌then◌else◌, List, [], ◌∷◌, ◌++◌, length, map, filter, Option, Some, None}
use Rattle.std.specs.Option.{unwrap_or}
use Rattle.ft_base.specs.Limits.{max_phrases}
use Rattle.ft_base.specs.declared.words.Mode.{Mode}
use Rattle.ft_base.specs.declared.words.Mode.TheVariants as M
use Rattle.match_options.specs.Items.{items_of}
use Rattle.match_options.specs.Patterns.{holds_bad_pattern}
use Rattle.selection_grammar.specs.Form.{options_of}
use Rattle.selection_grammar.specs.Tree.{Tree, Trees, words, or_of, and_of, mild_not, not_of, filtered, with_options, none, more}
use Rattle.selection_grammar.specs.declared.parsed.ParsedWords.{ParsedWords}
use Rattle.selection_grammar.specs.declared.parsed.PlacedOption.{PlacedOption}
use Rattle.selection_grammar.specs.declared.parsed.PlacedString.{PlacedString}

-- a string of a value, with the mode of its value, and whether wildcards are on for it
pub record Written : Type 0 where
  pub string : PlacedString
  pub mode : Mode
  pub wildcards : Bool

-- Whether wildcards are on inside options: an option that stands further in counts. Of two options on one selection the later one counts
-- (that there are two is a fault of its own).
abbrev pub wildcards_inside : Bool → List PlacedOption → Bool
wildcards_inside around options = unwrap_or (options_of options).wildcards around

abbrev pub written : Mode → Bool → PlacedString → Written
written mode wildcards s = record { string = s; mode = mode; wildcards = wildcards }

abbrev pub strings_of_words : Bool → ParsedWords → List Written
strings_of_words around w = map (written w.mode (wildcards_inside around w.options)) w.strings

-- the strings of a selection, where wildcards are on around it or off
unfoldable mutual
  pub strings_inside : Bool → Tree → List Written
  strings_inside around (words w) = strings_of_words around w
  strings_inside around (or_of trees) = strings_inside_all around trees
  strings_inside around (and_of trees) = strings_inside_all around trees
  strings_inside around (mild_not left right) = strings_inside around left ++ strings_inside around right
  strings_inside around (not_of at operand) = strings_inside around operand
  strings_inside around (filtered operand filter) = strings_inside around operand
  strings_inside around (with_options operand options) = strings_inside (wildcards_inside around options) operand

  pub strings_inside_all : Bool → Trees → List Written
  strings_inside_all around none = []
  strings_inside_all around (more tree rest) = strings_inside around tree ++ strings_inside_all around rest

abbrev pub strings_of : Tree → List Written
strings_of tree = strings_inside false tree

-- each word of a value is a phrase under `any word` and `all words`
abbrev pub is_by_word : Mode → Bool
is_by_word M.AnyWord = true
is_by_word M.AllWords = true
is_by_word other = false

-- how many phrases a string makes: one, or one for each of its words and patterns, at least one
abbrev pub phrases_of : Written → ℕ
phrases_of s = if is_by_word s.mode then max 1 (length (items_of s.wildcards s.string.text)) else 1

-- the first string with which the phrases, so many before it, are too many
abbrev pub phrases_past : ℕ → List Written → Option ℕ
phrases_past count [] = None
phrases_past count (s ∷ rest) = if nat_lt max_phrases (count + phrases_of s) then Some s.string.at else phrases_past (count + phrases_of s) rest

-- each string that holds a badly formed pattern where wildcards are on for it
abbrev pub is_bad : Written → Bool
is_bad s = s.wildcards && holds_bad_pattern s.string.text

abbrev pub bad_wildcards : List Written → List ℕ
bad_wildcards strings = map (λ s. s.string.at) (filter is_bad strings)
