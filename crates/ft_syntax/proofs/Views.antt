-- The plain data of each kind of selection with operands.
use Rattle.std.proofs.Common.{◌≡◌, List, map, Box, Global, rules}
use Rattle.ft_base.specs.Selection.{or_of, and_of, mild_not}
use Rattle.ft_syntax.specs.View.{form, forms_of}
use Rattle.ft_syntax.specs.declared.selection.Selection.{Selection, Or, And, MildNot, the_lemmas}

pub form-Or : (parts : List Selection) → form (Or parts) ≡ or_of (forms_of (map form parts))
form-Or parts = search (rules, the_lemmas)

pub form-And : (parts : List Selection) → form (And parts) ≡ and_of (forms_of (map form parts))
form-And parts = search (rules, the_lemmas)

pub form-MildNot : (left right : Box Selection Global) → form (MildNot left right) ≡ mild_not (form left.value) (form right.value)
form-MildNot left right = search (rules, the_lemmas)
