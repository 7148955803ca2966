-- Selections as lists of numbers, by which it is tried whether two of them are equal: each part of a selection is written down.
use Rattle.std.specs.Prelude.{ℕ, Bool, true, false, List, [], ◌∷◌, ◌++◌, Option, Some, None, bytes_eq}
use Rattle.ft_base.specs.declared.filter.Filter.{Filter}
use Rattle.ft_base.specs.declared.filter.Filter.TheVariants as F
use Rattle.ft_base.specs.declared.options.Case.{Case}
use Rattle.ft_base.specs.declared.options.Case.TheVariants as C
use Rattle.ft_base.specs.declared.options.Options.{Options}
use Rattle.ft_base.specs.declared.options.StopChoice.{StopChoice}
use Rattle.ft_base.specs.declared.options.StopChoice.TheVariants as Stop
use Rattle.ft_base.specs.declared.options.StopSource.{StopSource}
use Rattle.ft_base.specs.declared.options.StopSource.TheVariants.{At, Written}
use Rattle.ft_base.specs.declared.options.StopTerm.{StopTerm}
use Rattle.ft_base.specs.declared.options.ThesaurusChoice.{ThesaurusChoice}
use Rattle.ft_base.specs.declared.options.ThesaurusChoice.TheVariants as Thesaurus
use Rattle.ft_base.specs.declared.options.ThesaurusUse.{ThesaurusUse}
use Rattle.ft_base.specs.declared.range.Range.{Range}
use Rattle.ft_base.specs.declared.range.Range.TheVariants.{Exactly, AtLeast, AtMost, FromTo}
use Rattle.ft_base.specs.declared.unit.TextUnit.{TextUnit}
use Rattle.ft_base.specs.declared.unit.TextUnit.TheVariants as U
use Rattle.ft_base.specs.declared.words.Mode.{Mode}
use Rattle.ft_base.specs.declared.words.Mode.TheVariants.{Any, AnyWord, All, AllWords, Phrase}
use Rattle.ft_base.specs.declared.words.Words.{Words}
use Rattle.ft_base.specs.Selection.{Form, Forms, words, or_of, and_of, mild_not, not_of, filtered, with_options, none, more}

-- a tree that has a number at each node
pub data Code : Type 0 where
  empty : Code
  node : ℕ → Code → Code → Code

-- its numbers, a node before its parts: 0 is an empty tree, and after 1 stands a node's number
abbrev pub numbers : Code → List ℕ
numbers empty = 0 ∷ []
numbers (node n left right) = 1 ∷ n ∷ numbers left ++ numbers right

abbrev pub number_code : ℕ → Code
number_code n = node n empty empty

abbrev pub text_code : List ℕ → Code
text_code [] = empty
text_code (byte ∷ rest) = node byte empty (text_code rest)

abbrev pub list_code : {A : Type 0} → (A → Code) → List A → Code
list_code code [] = empty
list_code code (x ∷ rest) = node 0 (code x) (list_code code rest)

abbrev pub option_code : {A : Type 0} → (A → Code) → Option A → Code
option_code code None = empty
option_code code (Some x) = node 0 (code x) empty

abbrev pub flag_code : Bool → Code
flag_code false = number_code 0
flag_code true = number_code 1

abbrev pub case_code : Case → Code
case_code C.Insensitive = number_code 0
case_code C.Sensitive = number_code 1
case_code C.Lower = number_code 2
case_code C.Upper = number_code 3

abbrev pub mode_code : Mode → Code
mode_code Any = number_code 0
mode_code AnyWord = number_code 1
mode_code All = number_code 2
mode_code AllWords = number_code 3
mode_code Phrase = number_code 4

abbrev pub range_code : Range → Code
range_code (Exactly n) = node 0 (number_code n) empty
range_code (AtLeast n) = node 1 (number_code n) empty
range_code (AtMost n) = node 2 (number_code n) empty
range_code (FromTo low high) = node 3 (number_code low) (number_code high)

abbrev pub unit_code : TextUnit → Code
unit_code U.Words = number_code 0
unit_code U.Sentences = number_code 1
unit_code U.Paragraphs = number_code 2

abbrev pub filter_code : Filter → Code
filter_code F.Ordered = number_code 0
filter_code (F.Window size kind) = node 1 (number_code size) (unit_code kind)
filter_code (F.Distance range kind) = node 2 (range_code range) (unit_code kind)
filter_code F.SameSentence = number_code 3
filter_code F.SameParagraph = number_code 4
filter_code F.DifferentSentence = number_code 5
filter_code F.DifferentParagraph = number_code 6
filter_code F.AtStart = number_code 7
filter_code F.AtEnd = number_code 8
filter_code F.EntireContent = number_code 9

abbrev pub use_code : ThesaurusUse → Code
use_code choice = node 0 (text_code choice.name) (node 0 (option_code text_code choice.relationship) (option_code range_code choice.levels))

abbrev pub thesaurus_code : ThesaurusChoice → Code
thesaurus_code Thesaurus.No = empty
thesaurus_code (Thesaurus.Uses uses) = node 0 (list_code use_code uses) empty

abbrev pub source_code : StopSource → Code
source_code (At name) = node 0 (text_code name) empty
source_code (Written texts) = node 1 (list_code text_code texts) empty

abbrev pub term_code : StopTerm → Code
term_code term = node 0 (flag_code term.except) (source_code term.source)

abbrev pub stop_code : StopChoice → Code
stop_code Stop.No = empty
stop_code (Stop.Sets terms) = node 0 (list_code term_code terms) empty

-- the last of the options
abbrev pub lists_code : Options → Code
lists_code options =
    node 0 (option_code thesaurus_code options.thesaurus) (node 0 (option_code stop_code options.stop_words)
    (node 0 (option_code text_code options.language) (option_code flag_code options.wildcards)))

abbrev pub options_code : Options → Code
options_code options =
    node 0 (option_code case_code options.case) (node 0 (option_code flag_code options.diacritics_sensitive)
    (node 0 (option_code flag_code options.stemming) (lists_code options)))

abbrev pub words_code : Words → Code
words_code value =
    node 0 (list_code text_code value.values) (node 0 (mode_code value.mode) (node 0 (option_code range_code value.times) (options_code value.options)))

unfoldable mutual
  pub form_code : Form → Code
  form_code (words value) = node 0 (words_code value) empty
  form_code (or_of forms) = node 1 (forms_code forms) empty
  form_code (and_of forms) = node 2 (forms_code forms) empty
  form_code (mild_not left right) = node 3 (form_code left) (form_code right)
  form_code (not_of form) = node 4 (form_code form) empty
  form_code (filtered form kind) = node 5 (form_code form) (filter_code kind)
  form_code (with_options form options) = node 6 (form_code form) (options_code options)

  pub forms_code : Forms → Code
  forms_code none = empty
  forms_code (more form rest) = node 0 (form_code form) (forms_code rest)

abbrev pub form_numbers : Form → List ℕ
form_numbers form = numbers (form_code form)

-- whether two selections are equal as they are written: `exactly 1` and `from 1 to 1` differ
abbrev pub same_form : Form → Form → Bool
same_form a b = bytes_eq (form_numbers a) (form_numbers b)
