-- Rewriting a selection: options are given to the words, `ftnot` is moved inwards, and no operand of `ftor` or `ftand` stands twice.
use Rattle.std.specs.Prelude.{if◌then◌else◌, ◌==◌, List, [], ◌∷◌, ◌++◌, flat_map, fold, Option, Some, None}
use Rattle.std.specs.List.{list_any}
use Rattle.all_matches.specs.Meaning.{inside}
use Rattle.ft_base.specs.declared.options.Options.{Options}
use Rattle.ft_base.specs.declared.range.Range.{Range}
use Rattle.ft_base.specs.declared.range.Range.TheVariants.{AtLeast}
use Rattle.ft_base.specs.declared.words.Words.{Words}
use Rattle.ft_base.specs.Selection.{no_options, Form, Forms, words, or_of, and_of, mild_not, not_of, filtered, with_options, none, more}
use Rattle.ft_syntax.specs.View.{forms_of}
use Rattle.ft_rewriter.specs.Code.{same_form}
use Rattle.ft_rewriter.specs.declared.connective.Connective.{Connective}
use Rattle.ft_rewriter.specs.declared.connective.Connective.TheVariants.{Or, And}

-- the options round a selection are given to its words, in each group that has none there, and no parentheses with options are left
unfoldable mutual
  pub given : Options → Form → Form
  given outer (words value) = words (record value { options = inside value.options outer })
  given outer (or_of forms) = or_of (each_given outer forms)
  given outer (and_of forms) = and_of (each_given outer forms)
  given outer (mild_not left right) = mild_not (given outer left) (given outer right)
  given outer (not_of form) = not_of (given outer form)
  given outer (filtered form kind) = filtered (given outer form) kind
  given outer (with_options form inner) = given (inside inner outer) form

  pub each_given : Options → Forms → Forms
  each_given outer none = none
  each_given outer (more form rest) = more (given outer form) (each_given outer rest)

abbrev pub listed : Forms → List Form
listed none = []
listed (more form rest) = form ∷ listed rest

abbrev pub joined : Connective → Forms → Form
joined Or forms = or_of forms
joined And forms = and_of forms

-- what stands for a selection in an Or, and in an And: its own operands if it is one
abbrev pub operands_in : Connective → Form → List Form
operands_in Or (or_of forms) = listed forms
operands_in And (and_of forms) = listed forms
operands_in connective form = form ∷ []

-- one operand more, unless it equals an earlier one
abbrev pub with_operand : List Form → Form → List Form
with_operand kept form = if list_any (same_form form) kept then kept else kept ++ form ∷ []

abbrev pub without_repeats : List Form → List Form
without_repeats forms = fold with_operand [] forms

-- operands joined, but a single one by itself
abbrev pub joined_operands : Connective → List Form → Form
joined_operands connective (form ∷ []) = form
joined_operands connective forms = joined connective (forms_of forms)

-- operands joined: those of their own kind give their operands in their place, and none stands twice
abbrev pub connected : Connective → List Form → Form
connected connective forms = joined_operands connective (without_repeats (flat_map (operands_in connective) forms))

-- an Or inside an Or, and an And inside an And, gives its operands in its place
unfoldable mutual
  pub flattened : Form → Form
  flattened (words value) = words value
  flattened (or_of forms) = or_of (forms_of (flat_map (operands_in Or) (each_flattened forms)))
  flattened (and_of forms) = and_of (forms_of (flat_map (operands_in And) (each_flattened forms)))
  flattened (mild_not left right) = mild_not (flattened left) (flattened right)
  flattened (not_of form) = not_of (flattened form)
  flattened (filtered form kind) = filtered (flattened form) kind
  flattened (with_options form options) = with_options (flattened form) options

  pub each_flattened : Forms → List Form
  each_flattened none = []
  each_flattened (more form rest) = flattened form ∷ each_flattened rest

-- `occurs at least 1 times` says nothing
abbrev pub shorter_times : Option Range → Option Range
shorter_times (Some (AtLeast n)) = if n == 1 then None else Some (AtLeast n)
shorter_times times = times

abbrev pub shorter_words : Words → Words
shorter_words value = record value { times = shorter_times value.times }

-- A selection, and the negation of one, with `ftnot` moved inwards, before words and of what only its Matches tell: `not in` and a filter.
-- No selection in parentheses with options comes here; it would stay.
unfoldable mutual
  pub simplified : Form → Form
  simplified (words value) = words (shorter_words value)
  simplified (or_of forms) = connected Or (each_simplified forms)
  simplified (and_of forms) = connected And (each_simplified forms)
  simplified (mild_not left right) = flattened (mild_not left right)
  simplified (not_of form) = negated form
  simplified (filtered form kind) = flattened (filtered form kind)
  simplified (with_options form options) = with_options (simplified form) options

  pub negated : Form → Form
  negated (words value) = not_of (words (shorter_words value))
  negated (or_of forms) = connected And (each_negated forms)
  negated (and_of forms) = connected Or (each_negated forms)
  negated (mild_not left right) = not_of (flattened (mild_not left right))
  negated (not_of form) = simplified form
  negated (filtered form kind) = not_of (flattened (filtered form kind))
  negated (with_options form options) = not_of (with_options (simplified form) options)

  pub each_simplified : Forms → List Form
  each_simplified none = []
  each_simplified (more form rest) = simplified form ∷ each_simplified rest

  pub each_negated : Forms → List Form
  each_negated none = []
  each_negated (more form rest) = negated form ∷ each_negated rest

abbrev pub rewritten : Form → Form
rewritten form = simplified (given no_options form)
