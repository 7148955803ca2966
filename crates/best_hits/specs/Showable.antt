-- Which selections can be shown by their best hits.
use Rattle.std.specs.Prelude.{Bool, true, false, ◌&&◌, ◌||◌}
use Rattle.ft_base.specs.Selection.{Form, Forms, words, or_of, and_of, mild_not, not_of, filtered, with_options, none, more}
use Rattle.all_matches.specs.Allowed.{has_no_range}

-- whether a selection can be shown where `occurs` may stand or not, and `ftnot` may or not: under a filter no `occurs` may stand, and in an
-- `ftnot` neither
unfoldable mutual
  pub can_show_in : Bool → Bool → Form → Bool
  can_show_in times nots (words value) = times || has_no_range value.times
  can_show_in times nots (or_of forms) = each_can_show_in times nots forms
  can_show_in times nots (and_of forms) = each_can_show_in times nots forms
  can_show_in times nots (mild_not left right) = can_show_in times nots left && can_show_in times nots right
  can_show_in times nots (not_of form) = nots && can_show_in false false form
  can_show_in times nots (filtered form kind) = can_show_in false nots form
  can_show_in times nots (with_options form inner) = can_show_in times nots form

  pub each_can_show_in : Bool → Bool → Forms → Bool
  each_can_show_in times nots none = true
  each_can_show_in times nots (more form rest) = can_show_in times nots form && each_can_show_in times nots rest

-- whether no `occurs` stands under a filter, and neither `ftnot` nor `occurs` in an `ftnot`
abbrev pub can_show : Form → Bool
can_show form = can_show_in true true form
