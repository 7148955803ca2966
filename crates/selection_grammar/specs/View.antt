-- The plain data that a `Parsed` stands for.
use Rattle.std.specs.Prelude.{List}
use Rattle.selection_grammar.specs.Tree.{Tree, words, or_of, and_of, mild_not, not_of, filtered, with_options, trees_of}
use Rattle.selection_grammar.specs.declared.parsed.Parsed.{Parsed, fold-Parsed}
use Rattle.selection_grammar.specs.declared.parsed.Parsed.TheOpen.{Parsed-F}

-- one level, with each selection inside already seen as its data
abbrev pub layer : Parsed-F Tree → Tree
layer (Parsed-F.Words value) = words value
layer (Parsed-F.Or parts) = or_of (trees_of parts)
layer (Parsed-F.And parts) = and_of (trees_of parts)
layer (Parsed-F.MildNot left right) = mild_not left.value right.value
layer (Parsed-F.Not at operand) = not_of at operand.value
layer (Parsed-F.Filtered operand filter) = filtered operand.value filter
layer (Parsed-F.With operand options) = with_options operand.value options

abbrev pub tree : Parsed → Tree
tree = fold-Parsed Tree layer
