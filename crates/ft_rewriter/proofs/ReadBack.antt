-- What a code was made of is read back from it.
use Rattle.std.proofs.Common.{◌≡◌, refl, ap, ℕ, zero, suc, Bool, true, false, List, [], ◌∷◌, Option, Some, None}
use Rattle.ft_base.specs.declared.filter.Filter.{Filter}
use Rattle.ft_base.specs.declared.filter.Filter.TheVariants as F
use Rattle.ft_base.specs.declared.options.Case.{Case}
use Rattle.ft_base.specs.declared.options.Case.TheVariants as C
use Rattle.ft_base.specs.declared.options.Options.{Options}
use Rattle.ft_base.specs.declared.options.StopChoice.{StopChoice}
use Rattle.ft_base.specs.declared.options.StopChoice.TheVariants as Stop
use Rattle.ft_base.specs.declared.options.StopSource.{StopSource}
use Rattle.ft_base.specs.declared.options.StopSource.TheVariants.{At, Written}
use Rattle.ft_base.specs.declared.options.StopTerm.{StopTerm}
use Rattle.ft_base.specs.declared.options.ThesaurusChoice.{ThesaurusChoice}
use Rattle.ft_base.specs.declared.options.ThesaurusChoice.TheVariants as Thesaurus
use Rattle.ft_base.specs.declared.options.ThesaurusUse.{ThesaurusUse}
use Rattle.ft_base.specs.declared.range.Range.{Range}
use Rattle.ft_base.specs.declared.range.Range.TheVariants.{Exactly, AtLeast, AtMost, FromTo}
use Rattle.ft_base.specs.declared.unit.TextUnit.{TextUnit}
use Rattle.ft_base.specs.declared.unit.TextUnit.TheVariants as U
use Rattle.ft_base.specs.declared.words.Mode.{Mode}
use Rattle.ft_base.specs.declared.words.Mode.TheVariants.{Any, AnyWord, All, AllWords, Phrase}
use Rattle.ft_base.specs.declared.words.Words.{Words}
use Rattle.ft_base.specs.Selection.{Form, Forms, words, or_of, and_of, mild_not, not_of, filtered, with_options, none, more}
use Rattle.ft_rewriter.specs.Code.{Code, empty, node, text_code, list_code, option_code, flag_code, case_code, mode_code, range_code, unit_code, filter_code}
use Rattle.ft_rewriter.specs.Code.{use_code, thesaurus_code, source_code, term_code, stop_code, options_code, words_code, form_code, forms_code}

-- the choice of a number
abbrev chosen : {A : Type 0} → List A → A → ℕ → A
chosen [] otherwise n = otherwise
chosen (x ∷ rest) otherwise zero = x
chosen (x ∷ rest) otherwise (suc n) = chosen rest otherwise n

abbrev number : Code → ℕ
number empty = 0
number (node n left right) = n

abbrev left_of : Code → Code
left_of empty = empty
left_of (node n left right) = left

abbrev right_of : Code → Code
right_of empty = empty
right_of (node n left right) = right

abbrev text_in : Code → List ℕ
text_in empty = []
text_in (node n left right) = n ∷ text_in right

abbrev list_in : {A : Type 0} → (Code → A) → Code → List A
list_in item empty = []
list_in item (node n left right) = item left ∷ list_in item right

abbrev option_in : {A : Type 0} → (Code → A) → Code → Option A
option_in item empty = None
option_in item (node n left right) = Some (item left)

abbrev flag_in : Code → Bool
flag_in c = chosen (false ∷ []) true (number c)

abbrev case_in : Code → Case
case_in c = chosen (C.Insensitive ∷ C.Sensitive ∷ C.Lower ∷ []) C.Upper (number c)

abbrev mode_in : Code → Mode
mode_in c = chosen (Any ∷ AnyWord ∷ All ∷ AllWords ∷ []) Phrase (number c)

abbrev range_in : Code → Range
range_in c =
    chosen (Exactly (number (left_of c)) ∷ AtLeast (number (left_of c)) ∷ AtMost (number (left_of c)) ∷ []) (FromTo (number (left_of c)) (number (right_of c))) (number c)

abbrev unit_in : Code → TextUnit
unit_in c = chosen (U.Words ∷ U.Sentences ∷ []) U.Paragraphs (number c)

abbrev filter_in : Code → Filter
filter_in c =
    chosen (F.Ordered ∷ F.Window (number (left_of c)) (unit_in (right_of c)) ∷ F.Distance (range_in (left_of c)) (unit_in (right_of c))
    ∷ F.SameSentence ∷ F.SameParagraph ∷ F.DifferentSentence ∷ F.DifferentParagraph ∷ F.AtStart ∷ F.AtEnd ∷ []) F.EntireContent (number c)

abbrev use_in : Code → ThesaurusUse
use_in c = record {
  name = text_in (left_of c);
  relationship = option_in text_in (left_of (right_of c));
  levels = option_in range_in (right_of (right_of c));
}

abbrev thesaurus_in : Code → ThesaurusChoice
thesaurus_in empty = Thesaurus.No
thesaurus_in (node n left right) = Thesaurus.Uses (list_in use_in left)

abbrev source_in : Code → StopSource
source_in c = chosen (At (text_in (left_of c)) ∷ []) (Written (list_in text_in (left_of c))) (number c)

abbrev term_in : Code → StopTerm
term_in c = record { except = flag_in (left_of c); source = source_in (right_of c) }

abbrev stop_in : Code → StopChoice
stop_in empty = Stop.No
stop_in (node n left right) = Stop.Sets (list_in term_in left)

abbrev lists_of : Code → Code
lists_of c = right_of (right_of (right_of c))

abbrev options_in : Code → Options
options_in c = record {
  case = option_in case_in (left_of c);
  diacritics_sensitive = option_in flag_in (left_of (right_of c));
  stemming = option_in flag_in (left_of (right_of (right_of c)));
  thesaurus = option_in thesaurus_in (left_of (lists_of c));
  stop_words = option_in stop_in (left_of (right_of (lists_of c)));
  language = option_in text_in (left_of (right_of (right_of (lists_of c))));
  wildcards = option_in flag_in (right_of (right_of (right_of (lists_of c))));
}

abbrev words_in : Code → Words
words_in c = record {
  values = list_in text_in (left_of c);
  mode = mode_in (left_of (right_of c));
  times = option_in range_in (left_of (right_of (right_of c)));
  options = options_in (right_of (right_of (right_of c)));
}

unfoldable mutual
  pub form_in : Code → Form
  form_in empty = or_of none
  form_in (node n left right) =
      chosen (words (words_in left) ∷ or_of (forms_in left) ∷ and_of (forms_in left) ∷ mild_not (form_in left) (form_in right) ∷ not_of (form_in left)
      ∷ filtered (form_in left) (filter_in right) ∷ []) (with_options (form_in left) (options_in right)) n

  pub forms_in : Code → Forms
  forms_in empty = none
  forms_in (node n left right) = more (form_in left) (forms_in right)

text_back : (text : List ℕ) → text_in (text_code text) ≡ text
text_back [] = refl
text_back (byte ∷ rest) = ap (λ bytes. byte ∷ bytes) (text_back rest)

list_back : {A : Type 0} (item : A → Code) (back : Code → A) → ((x : A) → back (item x) ≡ x) → (xs : List A) → list_in back (list_code item xs) ≡ xs
list_back item back same [] = refl
list_back item back same (x ∷ rest) = λ i. same x i ∷ list_back item back same rest i

option_back : {A : Type 0} (item : A → Code) (back : Code → A) → ((x : A) → back (item x) ≡ x) → (o : Option A) → option_in back (option_code item o) ≡ o
option_back item back same None = refl
option_back item back same (Some x) = ap Some (same x)

flag_back : (b : Bool) → flag_in (flag_code b) ≡ b
flag_back false = refl
flag_back true = refl

case_back : (case : Case) → case_in (case_code case) ≡ case
case_back C.Insensitive = refl
case_back C.Sensitive = refl
case_back C.Lower = refl
case_back C.Upper = refl

mode_back : (mode : Mode) → mode_in (mode_code mode) ≡ mode
mode_back Any = refl
mode_back AnyWord = refl
mode_back All = refl
mode_back AllWords = refl
mode_back Phrase = refl

range_back : (range : Range) → range_in (range_code range) ≡ range
range_back (Exactly n) = refl
range_back (AtLeast n) = refl
range_back (AtMost n) = refl
range_back (FromTo low high) = refl

unit_back : (kind : TextUnit) → unit_in (unit_code kind) ≡ kind
unit_back U.Words = refl
unit_back U.Sentences = refl
unit_back U.Paragraphs = refl

filter_back : (filter : Filter) → filter_in (filter_code filter) ≡ filter
filter_back F.Ordered = refl
filter_back (F.Window size kind) = ap (F.Window size) (unit_back kind)
filter_back (F.Distance range kind) = λ i. F.Distance (range_back range i) (unit_back kind i)
filter_back F.SameSentence = refl
filter_back F.SameParagraph = refl
filter_back F.DifferentSentence = refl
filter_back F.DifferentParagraph = refl
filter_back F.AtStart = refl
filter_back F.AtEnd = refl
filter_back F.EntireContent = refl

use_back : (choice : ThesaurusUse) → use_in (use_code choice) ≡ choice
use_back choice = λ i. record {
  name = text_back choice.name i;
  relationship = option_back text_code text_in text_back choice.relationship i;
  levels = option_back range_code range_in range_back choice.levels i;
}

thesaurus_back : (choice : ThesaurusChoice) → thesaurus_in (thesaurus_code choice) ≡ choice
thesaurus_back Thesaurus.No = refl
thesaurus_back (Thesaurus.Uses uses) = ap Thesaurus.Uses (list_back use_code use_in use_back uses)

source_back : (source : StopSource) → source_in (source_code source) ≡ source
source_back (At name) = ap At (text_back name)
source_back (Written texts) = ap Written (list_back text_code text_in text_back texts)

term_back : (term : StopTerm) → term_in (term_code term) ≡ term
term_back term = λ i. record { except = flag_back term.except i; source = source_back term.source i }

stop_back : (choice : StopChoice) → stop_in (stop_code choice) ≡ choice
stop_back Stop.No = refl
stop_back (Stop.Sets terms) = ap Stop.Sets (list_back term_code term_in term_back terms)

options_back : (options : Options) → options_in (options_code options) ≡ options
options_back options = λ i. record {
  case = option_back case_code case_in case_back options.case i;
  diacritics_sensitive = option_back flag_code flag_in flag_back options.diacritics_sensitive i;
  stemming = option_back flag_code flag_in flag_back options.stemming i;
  thesaurus = option_back thesaurus_code thesaurus_in thesaurus_back options.thesaurus i;
  stop_words = option_back stop_code stop_in stop_back options.stop_words i;
  language = option_back text_code text_in text_back options.language i;
  wildcards = option_back flag_code flag_in flag_back options.wildcards i;
}

words_back : (value : Words) → words_in (words_code value) ≡ value
words_back value = λ i. record {
  values = list_back text_code text_in text_back value.values i;
  mode = mode_back value.mode i;
  times = option_back range_code range_in range_back value.times i;
  options = options_back value.options i;
}

mutual
  unfolding form_in form_code

  pub form_back : (form : Form) → form_in (form_code form) ≡ form
  form_back (words value) = ap words (words_back value)
  form_back (or_of forms) = ap or_of (forms_back forms)
  form_back (and_of forms) = ap and_of (forms_back forms)
  form_back (mild_not left right) = λ i. mild_not (form_back left i) (form_back right i)
  form_back (not_of form) = ap not_of (form_back form)
  form_back (filtered form kind) = λ i. filtered (form_back form i) (filter_back kind i)
  form_back (with_options form options) = λ i. with_options (form_back form i) (options_back options i)

  forms_back : (forms : Forms) → forms_in (forms_code forms) ≡ forms
  forms_back none = refl
  forms_back (more form rest) = λ i. more (form_back form i) (forms_back rest i)
