-- Counted shapes under the filters in which they are counted, and where `ftnot` and `occurs` may stand if these are decided by counting.
use Rattle.std.specs.Prelude.{Bool, true, ◌&&◌, ◌||◌, List, Option, Some, None, is_some}
use Rattle.ft_base.specs.declared.filter.Filter.{Filter}
use Rattle.ft_base.specs.declared.filter.Filter.TheVariants as F
use Rattle.ft_base.specs.declared.unit.TextUnit.TheVariants as U
use Rattle.ft_base.specs.Selection.{Form, Forms, words, or_of, and_of, mild_not, not_of, filtered, with_options, none, more}
use Rattle.all_matches.specs.Allowed.{may_be_filtered, may_stand_out}
use Rattle.counted_shapes.specs.Held.{needs_hit}
use Rattle.counted_shapes.specs.Shapes.{Counted, fit_in_unit, fit_in_window, is_shape}
use Rattle.counted_shapes.specs.declared.field.Field.{Field}
use Rattle.counted_shapes.specs.declared.field.Field.TheVariants.{Window, Sentence, Paragraph}

-- the fields of which a filter asks for one
abbrev pub field_of : Filter → Option Field
field_of F.Ordered = None
field_of (F.Window size unit) = Some (Window size unit)
field_of (F.Distance range unit) = None
field_of F.SameSentence = Some Sentence
field_of F.SameParagraph = Some Paragraph
field_of F.DifferentSentence = None
field_of F.DifferentParagraph = None
field_of F.AtStart = None
field_of F.AtEnd = None
field_of F.EntireContent = None

-- whether one such field has enough of each item
abbrev pub fit_in : Field → List Counted → Bool
fit_in (Window size unit) items = fit_in_window size unit items
fit_in Sentence items = fit_in_unit U.Sentences items
fit_in Paragraph items = fit_in_unit U.Paragraphs items

-- whether a filter stands round a counted shape that asks for a hit, and asks for a field
abbrev pub is_counted : Form → Filter → Bool
is_counted form kind = is_some (field_of kind) && (is_shape form && needs_hit form)

-- whether each `ftnot` and `occurs` of a selection stands where it may: under a filter as in other selections, or in a counted shape
unfoldable mutual
  pub is_accepted : Form → Bool
  is_accepted (words value) = true
  is_accepted (or_of forms) = each_is_accepted forms
  is_accepted (and_of forms) = each_is_accepted forms
  is_accepted (mild_not left right) = may_stand_out left && may_stand_out right
  is_accepted (not_of form) = is_accepted form
  is_accepted (filtered form kind) = may_be_filtered form || is_counted form kind
  is_accepted (with_options form inner) = is_accepted form

  pub each_is_accepted : Forms → Bool
  each_is_accepted none = true
  each_is_accepted (more form rest) = is_accepted form && each_is_accepted rest
