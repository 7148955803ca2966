-- The parts of selections that hold no other parts: filters, ranges, and options without a list.
use Rattle.std.specs.Prelude.{ℕ, Bool, true, false, List, [], ◌∷◌, Option, Some, None, codes}
use Rattle.ft_base.specs.declared.range.Range.{Range}
use Rattle.ft_base.specs.declared.range.Range.TheVariants.{Exactly, AtLeast, AtMost, FromTo}
use Rattle.ft_base.specs.declared.unit.TextUnit.{TextUnit}
use Rattle.ft_base.specs.declared.unit.TextUnit.TheVariants.{Words, Sentences, Paragraphs}
use Rattle.ft_base.specs.declared.filter.Filter.{Filter}
use Rattle.ft_base.specs.declared.filter.Filter.TheVariants as F
use Rattle.ft_base.specs.declared.options.Case.{Case}
use Rattle.ft_base.specs.declared.options.Case.TheVariants as C
use Rattle.ft_base.specs.declared.options.StopChoice.TheVariants as Stop
use Rattle.ft_base.specs.declared.options.ThesaurusChoice.TheVariants as Thesaurus
use Rattle.selection_grammar.specs.declared.parsed.MatchOption.{MatchOption}
use Rattle.selection_grammar.specs.declared.parsed.MatchOption.TheVariants as O
use Rattle.selection_grammar.specs.declared.parsed.PlacedOption.{PlacedOption}
use Rattle.selection_grammar.specs.declared.parsed.PlacedTimes.{PlacedTimes}
use Rattle.selection_grammar.specs.Shapes.{Shape, whole, nothing, word, number, text, or_else, and_then}

-- a keyword alone in its place
abbrev pub key : {A : Type 0} → List ℕ → Shape A → Shape A
key name to = word name (λ at. to) nothing

-- Unit ::= "words" | "sentences" | "paragraphs"
abbrev pub unit : Shape TextUnit
unit = word (codes "words") (λ at. whole Words) (word (codes "sentences") (λ at. whole Sentences) (word (codes "paragraphs") (λ at. whole Paragraphs) nothing))

-- Range ::= "exactly" Number | "from" Number "to" Number | "at" "least" Number | "at" "most" Number
abbrev pub one_number : {A : Type 0} → (ℕ → A) → Shape A
one_number made = number (λ n. whole (made n)) nothing

abbrev pub bound : Shape Range
bound = word (codes "least") (λ at. one_number AtLeast) (word (codes "most") (λ at. one_number AtMost) nothing)

abbrev pub two_bounds : Shape Range
two_bounds = number (λ low. key (codes "to") (number (λ high. whole (FromTo low high)) nothing)) nothing

abbrev pub range_without_at : Shape Range
range_without_at = word (codes "exactly") (λ at. one_number Exactly) (word (codes "from") (λ at. two_bounds) nothing)

abbrev pub range : Shape Range
range = or_else range_without_at (word (codes "at") (λ at. bound) nothing)

-- "occurs" Range "times"
abbrev pub times : Shape PlacedTimes
times = word (codes "occurs") (λ at. and_then range (λ r. key (codes "times") (whole (record { at = at; range = r })))) nothing

-- Range "levels"
abbrev pub levels : Shape Range
levels = and_then range (λ r. key (codes "levels") (whole r))

-- a range in some unit
abbrev pub distance : Shape Filter
distance = and_then range (λ r. and_then unit (λ u. whole (F.Distance r u)))

abbrev pub window : Shape Filter
window = number (λ n. and_then unit (λ u. whole (F.Window n u))) nothing

-- ("sentence" | "paragraph")
abbrev pub scope : Filter → Filter → Shape Filter
scope sentence paragraph = word (codes "sentence") (λ at. whole sentence) (word (codes "paragraph") (λ at. whole paragraph) nothing)

-- ("start" | "end")
abbrev pub side : Shape Filter
side = word (codes "start") (λ at. whole F.AtStart) (word (codes "end") (λ at. whole F.AtEnd) nothing)

-- Filter ::= "ordered" | "window" Number Unit | "distance" Range Unit | ("same" | "different") ("sentence" | "paragraph") | "entire" "content"
--     | "at" ("start" | "end")
abbrev pub filters_without_at : Shape Filter
filters_without_at =
    word (codes "ordered") (λ at. whole F.Ordered)
    (word (codes "window") (λ at. window)
    (word (codes "distance") (λ at. distance)
    (word (codes "same") (λ at. scope F.SameSentence F.SameParagraph)
    (word (codes "different") (λ at. scope F.DifferentSentence F.DifferentParagraph)
    (word (codes "entire") (λ at. key (codes "content") (whole F.EntireContent)) nothing)))))

abbrev pub filters : Shape Filter
filters = or_else filters_without_at (word (codes "at") (λ at. side) nothing)

abbrev pub given : ℕ → MatchOption → PlacedOption
given at option = record { at = at; option = option }

-- ("insensitive" | "sensitive")
abbrev pub sensitivity : ℕ → MatchOption → MatchOption → Shape PlacedOption
sensitivity at insensitive sensitive =
    word (codes "insensitive") (λ p. whole (given at insensitive)) (word (codes "sensitive") (λ p. whole (given at sensitive)) nothing)

-- "no" ("stemming" | "wildcards" | "thesaurus" | "stop" "words")
abbrev pub turned_off : ℕ → Shape PlacedOption
turned_off at =
    word (codes "stemming") (λ p. whole (given at (O.Stemming false)))
    (word (codes "wildcards") (λ p. whole (given at (O.Wildcards false)))
    (word (codes "thesaurus") (λ p. whole (given at (O.Thesaurus Thesaurus.No)))
    (word (codes "stop") (λ p. key (codes "words") (whole (given at (O.StopWords Stop.No)))) nothing)))

-- an option without a list, after its `using`
abbrev pub plain_option : ℕ → Shape PlacedOption
plain_option at =
    word (codes "case") (λ p. sensitivity at (O.Case C.Insensitive) (O.Case C.Sensitive))
    (word (codes "lowercase") (λ p. whole (given at (O.Case C.Lower)))
    (word (codes "uppercase") (λ p. whole (given at (O.Case C.Upper)))
    (word (codes "diacritics") (λ p. sensitivity at (O.Diacritics false) (O.Diacritics true))
    (word (codes "stemming") (λ p. whole (given at (O.Stemming true)))
    (word (codes "wildcards") (λ p. whole (given at (O.Wildcards true)))
    (word (codes "language") (λ p. text (λ q name. whole (given at (O.Language name))) nothing)
    (word (codes "no") (λ p. turned_off at) nothing)))))))
