-- The plain data that a `Selection` stands for.
use Rattle.std.specs.Prelude.{List, [], ◌∷◌}
use Rattle.ft_base.specs.Selection.{Form, Forms, words, or_of, and_of, mild_not, not_of, filtered, with_options, none, more}
use Rattle.ft_syntax.specs.declared.selection.Selection.{Selection, fold-Selection}
use Rattle.ft_syntax.specs.declared.selection.Selection.TheOpen.{Selection-F}

-- a list of selections
abbrev pub forms_of : List Form → Forms
forms_of [] = none
forms_of (form ∷ rest) = more form (forms_of rest)

-- one level, with each selection inside already seen as its data
abbrev pub layer : Selection-F Form → Form
layer (Selection-F.Words value) = words value
layer (Selection-F.Or parts) = or_of (forms_of parts)
layer (Selection-F.And parts) = and_of (forms_of parts)
layer (Selection-F.MildNot left right) = mild_not left.value right.value
layer (Selection-F.Not operand) = not_of operand.value
layer (Selection-F.Filtered operand filter) = filtered operand.value filter
layer (Selection-F.With operand options) = with_options operand.value options

abbrev pub form : Selection → Form
form = fold-Selection Form layer
