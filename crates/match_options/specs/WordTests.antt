-- Whether a word of a text, given in its forms, passes an item of a query (XQuery and XPath Full Text 3.0, sections 3.4.2, 3.4.5 and 3.4.6).
use Rattle.std.specs.Prelude.{ℕ, Bool, true, false, not, ◌&&◌, List, [], Option, Some, None, bytes_eq, chars}
use Rattle.ft_base.specs.declared.options.Options.{Options}
use Rattle.ft_base.specs.declared.options.Case.{Case}
use Rattle.ft_base.specs.declared.options.Case.TheVariants.{Insensitive, Sensitive, Lower, Upper}
use Rattle.text_forms.specs.Forms.{key_of}
use Rattle.all_matches.specs.Variants.{Item, any_word, word, pattern}
use Rattle.match_options.specs.TokenTest.{is_on, case_of, has_case, same_form}
use Rattle.match_options.specs.WordForms.{forms_of}
use Rattle.match_options.specs.Wildcards.{covers, pattern_in}
use Rattle.match_options.specs.declared.atom.Atom.{Atom}
use Rattle.match_options.specs.declared.word_forms.Forms.{Forms}
use Rattle.match_options.specs.declared.form_choice.FormChoice.{FormChoice}
use Rattle.match_options.specs.declared.word_matching.WordTest.{WordTest}
use Rattle.match_options.specs.declared.word_matching.WordTest.TheVariants as The

-- the choice of options
abbrev pub choice_of : Options → FormChoice
choice_of options = record { case = case_of options.case; diacritics_sensitive = is_on options.diacritics_sensitive }

-- the form of the word that a choice takes
abbrev pub form_in : Case → Bool → Forms → List ℕ
form_in Sensitive true text = text.exact
form_in Sensitive false text = text.plain_marks
form_in Insensitive true text = text.plain_case
form_in Insensitive false text = text.key
form_in Lower true text = text.plain_case
form_in Lower false text = text.key
form_in Upper true text = text.plain_case
form_in Upper false text = text.key

-- the same word
abbrev pub same_word : FormChoice → Forms → Forms → Bool
same_word choice query text = bytes_eq query.key text.key && same_form choice.case choice.diacritics_sensitive query text && has_case choice.case text

-- a word that atoms cover
abbrev pub covered : FormChoice → List Atom → Forms → Bool
covered choice atoms text = has_case choice.case text && covers atoms (chars (form_in choice.case choice.diacritics_sensitive text))

-- a badly formed pattern covers no word
abbrev pub pattern_passes : FormChoice → Option (List Atom) → Forms → Bool
pattern_passes choice None text = false
pattern_passes choice (Some atoms) text = covered choice atoms text

unfoldable pub item_passes : FormChoice → Item → Forms → Bool
item_passes choice any_word text = true
item_passes choice (word w) text = same_word choice (forms_of w) text
item_passes choice (pattern p) text = pattern_passes choice (pattern_in choice.case choice.diacritics_sensitive p) text

-- what a test says of the forms of a word
unfoldable pub passes : WordTest → Forms → Bool
passes The.Any text = true
passes (The.Same choice query) text = same_word choice query text
passes (The.Covered choice wild) text = covered choice wild.atoms.items text
passes The.Never text = false

-- whether a choice looks at the key of a word alone
abbrev pub is_insensitive : Case → Bool
is_insensitive Insensitive = true
is_insensitive Sensitive = false
is_insensitive Lower = false
is_insensitive Upper = false

abbrev pub is_by_key : FormChoice → Bool
is_by_key choice = is_insensitive choice.case && not choice.diacritics_sensitive

-- all forms of a word, or its key alone
abbrev pub forms_as : Bool → List ℕ → Forms
forms_as true w = forms_of w
forms_as false w = record { key = key_of w; plain_case = []; plain_marks = []; exact = []; lower = false; upper = false }
