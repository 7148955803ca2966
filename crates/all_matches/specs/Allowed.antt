-- Where `ftnot` and `occurs` may stand: not in `not in`, and under a filter no `occurs`, and no `ftnot` in another.
use Rattle.std.specs.Prelude.{Bool, true, false, ◌&&◌, Option, Some, None}
use Rattle.ft_base.specs.declared.range.Range.{Range}
use Rattle.ft_base.specs.Selection.{Form, Forms, words, or_of, and_of, mild_not, not_of, filtered, with_options, none, more}

abbrev pub has_no_range : Option Range → Bool
has_no_range None = true
has_no_range (Some range) = false

abbrev pub has_operands : Forms → Bool
has_operands none = false
has_operands (more form rest) = true

-- whether no `occurs` stands in a selection
unfoldable mutual
  pub without_times : Form → Bool
  without_times (words value) = has_no_range value.times
  without_times (or_of forms) = each_without_times forms
  without_times (and_of forms) = each_without_times forms
  without_times (mild_not left right) = without_times left && without_times right
  without_times (not_of form) = without_times form
  without_times (filtered form kind) = without_times form
  without_times (with_options form inner) = without_times form

  pub each_without_times : Forms → Bool
  each_without_times none = true
  each_without_times (more form rest) = without_times form && each_without_times rest

-- whether no `ftnot` stands in a selection, nor an And of nothing, which is the same
unfoldable mutual
  pub without_not : Form → Bool
  without_not (words value) = true
  without_not (or_of forms) = each_without_not forms
  without_not (and_of forms) = has_operands forms && each_without_not forms
  without_not (mild_not left right) = without_not left && without_not right
  without_not (not_of form) = false
  without_not (filtered form kind) = without_not form
  without_not (with_options form inner) = without_not form

  pub each_without_not : Forms → Bool
  each_without_not none = true
  each_without_not (more form rest) = without_not form && each_without_not rest

-- whether `ftnot` stands neither in another nor in `not in`
unfoldable mutual
  pub has_plain_nots : Form → Bool
  has_plain_nots (words value) = true
  has_plain_nots (or_of forms) = each_has_plain_nots forms
  has_plain_nots (and_of forms) = each_has_plain_nots forms
  has_plain_nots (mild_not left right) = without_not left && without_not right
  has_plain_nots (not_of form) = without_not form
  has_plain_nots (filtered form kind) = has_plain_nots form
  has_plain_nots (with_options form inner) = has_plain_nots form

  pub each_has_plain_nots : Forms → Bool
  each_has_plain_nots none = true
  each_has_plain_nots (more form rest) = has_plain_nots form && each_has_plain_nots rest

-- whether a selection may stand under a filter
abbrev pub may_be_filtered : Form → Bool
may_be_filtered form = without_times form && has_plain_nots form

-- whether a selection may be an operand of `not in`
abbrev pub may_stand_out : Form → Bool
may_stand_out form = without_times form && without_not form

-- whether each `ftnot` and `occurs` of a selection stands where it may
unfoldable mutual
  pub is_allowed : Form → Bool
  is_allowed (words value) = true
  is_allowed (or_of forms) = each_is_allowed forms
  is_allowed (and_of forms) = each_is_allowed forms
  is_allowed (mild_not left right) = may_stand_out left && may_stand_out right
  is_allowed (not_of form) = is_allowed form
  is_allowed (filtered form kind) = may_be_filtered form
  is_allowed (with_options form inner) = is_allowed form

  pub each_is_allowed : Forms → Bool
  each_is_allowed none = true
  each_is_allowed (more form rest) = is_allowed form && each_is_allowed rest
