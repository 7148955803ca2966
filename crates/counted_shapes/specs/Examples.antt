-- Selections and items for examples.
use Rattle.std.specs.Prelude.{ℕ, List, [], ◌∷◌, codes, Option, Some}
use Rattle.ft_base.specs.declared.hit.Hit.{Hit}
use Rattle.ft_base.specs.declared.range.Range.{Range}
use Rattle.ft_base.specs.declared.token.Token.{Token}
use Rattle.ft_base.specs.declared.words.Mode.TheVariants.{Any}
use Rattle.ft_base.specs.Selection.{no_options, Form}
use Rattle.all_matches.specs.Examples.{plain, value}
use Rattle.counted_shapes.specs.Shapes.{Counted, items_of}

-- `"a" occurs ..`
abbrev pub a_occurs : Range → Form
a_occurs range = value Any (Some range) (codes "a" ∷ [])

abbrev pub asked : ℕ → Option ℕ → List Hit → Counted
asked least most hits = record { hits = hits; least = least; most = most }

abbrev pub items : Form → List Token → List Counted
items form tokens = items_of plain no_options tokens form
