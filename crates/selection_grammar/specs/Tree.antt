-- Selections as they are read, as plain data, and how their parts are put together.
use Rattle.std.specs.Prelude.{ℕ, List, [], ◌∷◌, ◌++◌, Option, Some, None}
use Rattle.ft_base.specs.declared.filter.Filter.{Filter}
use Rattle.ft_base.specs.declared.words.Mode.{Mode}
use Rattle.selection_grammar.specs.declared.parsed.PlacedString.{PlacedString}
use Rattle.selection_grammar.specs.declared.parsed.PlacedOption.{PlacedOption}
use Rattle.selection_grammar.specs.declared.parsed.PlacedTimes.{PlacedTimes}
use Rattle.selection_grammar.specs.declared.parsed.ParsedWords.{ParsedWords}

mutual
  -- a selection, with the places of its strings, options, `occurs` and `ftnot`
  pub data Tree : Type 0 where
    words : ParsedWords → Tree
    or_of : Trees → Tree
    and_of : Trees → Tree
    mild_not : Tree → Tree → Tree
    not_of : ℕ → Tree → Tree
    filtered : Tree → Filter → Tree
    with_options : Tree → List PlacedOption → Tree

  pub data Trees : Type 0 where
    none : Trees
    more : Tree → Trees → Trees

abbrev pub trees_of : List Tree → Trees
trees_of [] = none
trees_of (tree ∷ rest) = more tree (trees_of rest)

-- selections joined by `ftor` or `ftand`: one alone is itself
abbrev pub joined : (Trees → Tree) → List Tree → Tree
joined join [] = join none
joined join (tree ∷ []) = tree
joined join (tree ∷ next ∷ rest) = join (trees_of (tree ∷ next ∷ rest))

-- what options stand after: words, or a selection in parentheses
pub data Primary : Type 0 where
  phrases : (strings : List PlacedString) (mode : Mode) (times : Option PlacedTimes) → Primary
  inner : Tree → Primary

-- parentheses without options leave no trace
abbrev pub optioned : Primary → List PlacedOption → Tree
optioned (phrases strings mode times) options = words record { strings = strings; mode = mode; times = times; options = options }
optioned (inner tree) [] = tree
optioned (inner tree) (option ∷ options) = with_options tree (option ∷ options)

abbrev pub negated : Option ℕ → Tree → Tree
negated None tree = tree
negated (Some at) tree = not_of at tree
