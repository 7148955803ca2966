-- Whether a word of a text is the same as a word of a query (XQuery and XPath Full Text 3.0, sections 3.4.5 and 3.4.6: FTCaseOption,
-- FTDiacriticsOption).
use Rattle.std.specs.Prelude.{Bool, true, false, ◌&&◌, bytes_eq, Option, Some, None}
use Rattle.ft_base.specs.declared.options.Options.{Options}
use Rattle.ft_base.specs.declared.options.Case.{Case}
use Rattle.ft_base.specs.declared.options.Case.TheVariants.{Insensitive, Sensitive, Lower, Upper}
use Rattle.match_options.specs.declared.word_forms.Forms.{Forms}

-- an option that is on, or off as by default
abbrev pub is_on : Option Bool → Bool
is_on None = false
is_on (Some on) = on

-- the case option, by default `case insensitive`
abbrev pub case_of : Option Case → Case
case_of None = Insensitive
case_of (Some option) = option

-- what `lowercase` and `uppercase` ask of the word of the text
abbrev pub has_case : Case → Forms → Bool
has_case Insensitive text = true
has_case Sensitive text = true
has_case Lower text = text.lower
has_case Upper text = text.upper

-- what case and diacritics, sensitive or not, ask beside equal keys
abbrev pub same_form : Case → Bool → Forms → Forms → Bool
same_form Sensitive true query text = bytes_eq query.exact text.exact
same_form Sensitive false query text = bytes_eq query.plain_marks text.plain_marks
same_form Insensitive true query text = bytes_eq query.plain_case text.plain_case
same_form Insensitive false query text = true
same_form Lower true query text = bytes_eq query.plain_case text.plain_case
same_form Lower false query text = true
same_form Upper true query text = bytes_eq query.plain_case text.plain_case
same_form Upper false query text = true

-- the test without stemming
abbrev pub same_token : Options → Forms → Forms → Bool
same_token options query text =
    bytes_eq query.key text.key
    && same_form (case_of options.case) (is_on options.diacritics_sensitive) query text
    && has_case (case_of options.case) text
