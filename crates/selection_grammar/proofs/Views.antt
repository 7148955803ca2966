-- The plain data of each kind of selection with parts.
use Rattle.std.proofs.Common.{◌≡◌, ℕ, List, map, Box, Global, rules}
use Rattle.ft_base.specs.declared.filter.Filter.{Filter}
use Rattle.selection_grammar.specs.Tree.{or_of, and_of, mild_not, not_of, filtered, with_options, trees_of, words}
use Rattle.selection_grammar.specs.View.{tree}
use Rattle.selection_grammar.specs.declared.parsed.ParsedWords.{ParsedWords}
use Rattle.selection_grammar.specs.declared.parsed.PlacedOption.{PlacedOption}
use Rattle.selection_grammar.specs.declared.parsed.Parsed.{Parsed, Words, Or, And, MildNot, Not, Filtered, With, the_lemmas}

pub tree_words : (w : ParsedWords) → tree (Words w) ≡ words w
tree_words w = search (rules, the_lemmas)

pub tree_or : (parts : List Parsed) → tree (Or parts) ≡ or_of (trees_of (map tree parts))
tree_or parts = search (rules, the_lemmas)

pub tree_and : (parts : List Parsed) → tree (And parts) ≡ and_of (trees_of (map tree parts))
tree_and parts = search (rules, the_lemmas)

pub tree_mild : (left right : Box Parsed Global) → tree (MildNot left right) ≡ mild_not (tree left.value) (tree right.value)
tree_mild left right = search (rules, the_lemmas)

pub tree_not : (at : ℕ) (operand : Box Parsed Global) → tree (Not at operand) ≡ not_of at (tree operand.value)
tree_not at operand = search (rules, the_lemmas)

pub tree_filtered : (operand : Box Parsed Global) (filter : Filter) → tree (Filtered operand filter) ≡ filtered (tree operand.value) filter
tree_filtered operand filter = search (rules, the_lemmas)

pub tree_with : (operand : Box Parsed Global) (options : List PlacedOption) → tree (With operand options) ≡ with_options (tree operand.value) options
tree_with operand options = search (rules, the_lemmas)
