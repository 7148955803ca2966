-- The symbols of values, ranges, filters and options as they are printed.
use Rattle.std.specs.Prelude.{ℕ, Bool, true, false, ◌==◌, if◌then◌else◌, List, [], ◌∷◌, ◌++◌, flat_map, codes, Option, Some, None}
use Rattle.std.specs.Fmt.{decimal}
use Rattle.std.specs.List.{join_by}
use Rattle.ft_base.specs.declared.range.Range.{Range}
use Rattle.ft_base.specs.declared.range.Range.TheVariants.{Exactly, AtLeast, AtMost, FromTo}
use Rattle.ft_base.specs.declared.unit.TextUnit.{TextUnit}
use Rattle.ft_base.specs.declared.unit.TextUnit.TheVariants.{Words, Sentences, Paragraphs}
use Rattle.ft_base.specs.declared.filter.Filter.{Filter}
use Rattle.ft_base.specs.declared.filter.Filter.TheVariants as F
use Rattle.ft_base.specs.declared.words.Mode.{Mode}
use Rattle.ft_base.specs.declared.words.Mode.TheVariants as M
use Rattle.ft_base.specs.declared.options.Case.{Case}
use Rattle.ft_base.specs.declared.options.Case.TheVariants.{Insensitive, Sensitive, Lower, Upper}
use Rattle.ft_base.specs.declared.options.Options.{Options}
use Rattle.ft_base.specs.declared.options.StopChoice.{StopChoice}
use Rattle.ft_base.specs.declared.options.StopChoice.TheVariants as Stop
use Rattle.ft_base.specs.declared.options.StopTerm.{StopTerm}
use Rattle.ft_base.specs.declared.options.StopSource.{StopSource}
use Rattle.ft_base.specs.declared.options.StopSource.TheVariants.{At, Written}
use Rattle.ft_base.specs.declared.options.ThesaurusChoice.{ThesaurusChoice}
use Rattle.ft_base.specs.declared.options.ThesaurusChoice.TheVariants as Thesaurus
use Rattle.ft_base.specs.declared.options.ThesaurusUse.{ThesaurusUse}
use Rattle.ft_syntax.specs.Spacing.{Symbol}

-- a byte of a string: a quotation mark is doubled
abbrev pub in_quotes : ℕ → List ℕ
in_quotes byte = if byte == 34 then 34 ∷ 34 ∷ [] else byte ∷ []

-- a string
abbrev pub string_symbol : List ℕ → Symbol
string_symbol text = 34 ∷ flat_map in_quotes text ++ 34 ∷ []

-- strings with commas
abbrev pub strings_symbols : List (List ℕ) → List Symbol
strings_symbols texts = join_by (λ text. string_symbol text ∷ []) (codes "," ∷ []) texts

-- a value: one string stands without braces
abbrev pub value_symbols : List (List ℕ) → List Symbol
value_symbols [] = codes "{" ∷ codes "}" ∷ []
value_symbols (text ∷ []) = string_symbol text ∷ []
value_symbols (text ∷ next ∷ rest) = codes "{" ∷ strings_symbols (text ∷ next ∷ rest) ++ codes "}" ∷ []

-- a mode: `any` isn't printed
abbrev pub mode_symbols : Mode → List Symbol
mode_symbols M.Any = []
mode_symbols M.AnyWord = codes "any" ∷ codes "word" ∷ []
mode_symbols M.All = codes "all" ∷ []
mode_symbols M.AllWords = codes "all" ∷ codes "words" ∷ []
mode_symbols M.Phrase = codes "phrase" ∷ []

abbrev pub range_symbols : Range → List Symbol
range_symbols (Exactly n) = codes "exactly" ∷ decimal n ∷ []
range_symbols (AtLeast n) = codes "at" ∷ codes "least" ∷ decimal n ∷ []
range_symbols (AtMost n) = codes "at" ∷ codes "most" ∷ decimal n ∷ []
range_symbols (FromTo low high) = codes "from" ∷ decimal low ∷ codes "to" ∷ decimal high ∷ []

abbrev pub times_symbols : Option Range → List Symbol
times_symbols None = []
times_symbols (Some range) = codes "occurs" ∷ range_symbols range ++ codes "times" ∷ []

abbrev pub unit_symbol : TextUnit → Symbol
unit_symbol Words = codes "words"
unit_symbol Sentences = codes "sentences"
unit_symbol Paragraphs = codes "paragraphs"

abbrev pub filter_symbols : Filter → List Symbol
filter_symbols F.Ordered = codes "ordered" ∷ []
filter_symbols (F.Window size kind) = codes "window" ∷ decimal size ∷ unit_symbol kind ∷ []
filter_symbols (F.Distance range kind) = codes "distance" ∷ range_symbols range ++ unit_symbol kind ∷ []
filter_symbols F.SameSentence = codes "same" ∷ codes "sentence" ∷ []
filter_symbols F.SameParagraph = codes "same" ∷ codes "paragraph" ∷ []
filter_symbols F.DifferentSentence = codes "different" ∷ codes "sentence" ∷ []
filter_symbols F.DifferentParagraph = codes "different" ∷ codes "paragraph" ∷ []
filter_symbols F.AtStart = codes "at" ∷ codes "start" ∷ []
filter_symbols F.AtEnd = codes "at" ∷ codes "end" ∷ []
filter_symbols F.EntireContent = codes "entire" ∷ codes "content" ∷ []

abbrev pub case_symbols : Option Case → List Symbol
case_symbols None = []
case_symbols (Some Insensitive) = codes "using" ∷ codes "case" ∷ codes "insensitive" ∷ []
case_symbols (Some Sensitive) = codes "using" ∷ codes "case" ∷ codes "sensitive" ∷ []
case_symbols (Some Lower) = codes "using" ∷ codes "lowercase" ∷ []
case_symbols (Some Upper) = codes "using" ∷ codes "uppercase" ∷ []

abbrev pub diacritics_symbols : Option Bool → List Symbol
diacritics_symbols None = []
diacritics_symbols (Some true) = codes "using" ∷ codes "diacritics" ∷ codes "sensitive" ∷ []
diacritics_symbols (Some false) = codes "using" ∷ codes "diacritics" ∷ codes "insensitive" ∷ []

-- an option that is on, or off with `no`
abbrev pub switch_symbols : Symbol → Option Bool → List Symbol
switch_symbols name None = []
switch_symbols name (Some true) = codes "using" ∷ name ∷ []
switch_symbols name (Some false) = codes "using" ∷ codes "no" ∷ name ∷ []

abbrev pub relationship_symbols : Option (List ℕ) → List Symbol
relationship_symbols None = []
relationship_symbols (Some name) = codes "relationship" ∷ string_symbol name ∷ []

abbrev pub levels_symbols : Option Range → List Symbol
levels_symbols None = []
levels_symbols (Some range) = range_symbols range ++ codes "levels" ∷ []

-- one choice of a thesaurus option
abbrev pub use_symbols : ThesaurusUse → List Symbol
use_symbols choice = codes "at" ∷ string_symbol choice.name ∷ (relationship_symbols choice.relationship ++ levels_symbols choice.levels)

-- choices of a thesaurus option: one stands without parentheses
abbrev pub uses_symbols : List ThesaurusUse → List Symbol
uses_symbols [] = codes "(" ∷ codes ")" ∷ []
uses_symbols (choice ∷ []) = use_symbols choice
uses_symbols (choice ∷ next ∷ rest) = codes "(" ∷ join_by use_symbols (codes "," ∷ []) (choice ∷ next ∷ rest) ++ codes ")" ∷ []

abbrev pub thesaurus_symbols : Option ThesaurusChoice → List Symbol
thesaurus_symbols None = []
thesaurus_symbols (Some Thesaurus.No) = codes "using" ∷ codes "no" ∷ codes "thesaurus" ∷ []
thesaurus_symbols (Some (Thesaurus.Uses uses)) = codes "using" ∷ codes "thesaurus" ∷ uses_symbols uses

abbrev pub source_symbols : StopSource → List Symbol
source_symbols (At name) = codes "at" ∷ string_symbol name ∷ []
source_symbols (Written texts) = codes "(" ∷ strings_symbols texts ++ codes ")" ∷ []

-- a further term of a stop word option
abbrev pub further_term_symbols : StopTerm → List Symbol
further_term_symbols term = (if term.except then codes "except" else codes "union") ∷ source_symbols term.source

abbrev pub terms_symbols : List StopTerm → List Symbol
terms_symbols [] = []
terms_symbols (first ∷ rest) = source_symbols first.source ++ flat_map further_term_symbols rest

abbrev pub stop_symbols : Option StopChoice → List Symbol
stop_symbols None = []
stop_symbols (Some Stop.No) = codes "using" ∷ codes "no" ∷ codes "stop" ∷ codes "words" ∷ []
stop_symbols (Some (Stop.Sets terms)) = codes "using" ∷ codes "stop" ∷ codes "words" ∷ terms_symbols terms

abbrev pub language_symbols : Option (List ℕ) → List Symbol
language_symbols None = []
language_symbols (Some name) = codes "using" ∷ codes "language" ∷ string_symbol name ∷ []

-- the options that were given: case, diacritics, stemming, thesaurus, stop words, language, wildcards
abbrev pub options_symbols : Options → List Symbol
options_symbols options =
    case_symbols options.case
    ++ diacritics_symbols options.diacritics_sensitive
    ++ switch_symbols (codes "stemming") options.stemming
    ++ thesaurus_symbols options.thesaurus
    ++ stop_symbols options.stop_words
    ++ language_symbols options.language
    ++ switch_symbols (codes "wildcards") options.wildcards
