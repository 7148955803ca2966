-- Where the excludes lie that the filters of a chain keep.
use Rattle.std.specs.Prelude.{ℕ, suc, max, ℤ, pos, negsuc, List, [], ◌∷◌, Option, Some, None}
use Rattle.ft_base.specs.declared.filter.Filter.{Filter}
use Rattle.ft_base.specs.declared.filter.Filter.TheVariants as F
use Rattle.ft_base.specs.declared.hit.Hit.{Hit}
use Rattle.ft_base.specs.declared.unit.TextUnit.{TextUnit}
use Rattle.ft_base.specs.declared.unit.TextUnit.TheVariants.{Words, Sentences, Paragraphs}
use Rattle.all_matches.specs.declared.window.Window.{Window}
use Rattle.all_matches.specs.Chain.{Link}
use Rattle.ft_operators.specs.Bounds.{earlier_end, order_reach, round_hits}
use Rattle.ft_operators.specs.declared.bounds.Bounds.{Bounds}
use Rattle.ft_operators.specs.declared.bounds.UnitBounds.{UnitBounds}

-- a number of a window, from 0 on, and the one after it
abbrev pub from_zero : ℤ → ℕ
from_zero (pos n) = n
from_zero (negsuc n) = 0

abbrev pub after_zero : ℤ → ℕ
after_zero (pos n) = suc n
after_zero (negsuc n) = 0

-- no wider than from one number up to another
abbrev pub numbers_between : ℕ → ℕ → UnitBounds → UnitBounds
numbers_between from to bounds = record { from = max bounds.from from; to = Some (earlier_end bounds.to to) }

abbrev pub unit_between : TextUnit → ℕ → ℕ → Bounds → Bounds
unit_between Words from to bounds = record bounds { words = numbers_between from to bounds.words }
unit_between Sentences from to bounds = record bounds { sentences = numbers_between from to bounds.sentences }
unit_between Paragraphs from to bounds = record bounds { paragraphs = numbers_between from to bounds.paragraphs }

-- the bounds of the chosen window, and of the sentence or paragraph of the includes
abbrev pub in_chosen : TextUnit → Option Window → Bounds → Bounds
in_chosen kind None bounds = bounds
in_chosen kind (Some window) bounds = unit_between kind (from_zero window.from) (after_zero window.to) bounds

abbrev pub in_first_sentence : List Hit → Bounds → Bounds
in_first_sentence [] bounds = bounds
in_first_sentence (first ∷ rest) bounds = unit_between Sentences first.sent_from (suc first.sent_from) bounds

abbrev pub in_first_paragraph : List Hit → Bounds → Bounds
in_first_paragraph [] bounds = bounds
in_first_paragraph (first ∷ rest) bounds = unit_between Paragraphs first.para_from (suc first.para_from) bounds

-- those of what a filter keeps of an exclude
abbrev pub kept_bounds : Filter → List Hit → Option Window → Bounds → Bounds
kept_bounds F.Ordered includes choice bounds = round_hits order_reach bounds includes
kept_bounds (F.Window size kind) includes choice bounds = in_chosen kind choice bounds
kept_bounds (F.Distance range kind) includes choice bounds = bounds
kept_bounds F.SameSentence includes choice bounds = in_first_sentence includes bounds
kept_bounds F.SameParagraph includes choice bounds = in_first_paragraph includes bounds
kept_bounds F.DifferentSentence includes choice bounds = bounds
kept_bounds F.DifferentParagraph includes choice bounds = bounds
kept_bounds F.AtStart includes choice bounds = bounds
kept_bounds F.AtEnd includes choice bounds = bounds
kept_bounds F.EntireContent includes choice bounds = bounds

-- and of what all filters of a chain keep
abbrev pub chain_bounds : List Link → Bounds → Bounds
chain_bounds [] bounds = bounds
chain_bounds (link ∷ links) bounds = chain_bounds links (kept_bounds link.kind link.includes link.choice bounds)
