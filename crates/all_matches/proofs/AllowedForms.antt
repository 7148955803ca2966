-- What is allowed as a selection with a filter, or as `not in`, may stand under a filter.
use Rattle.std.proofs.Common.{◌≡◌, true, ◌&&◌}
use Rattle.std.proofs.lemmas.Bool.{and_parts}
use Rattle.ft_base.specs.declared.filter.Filter.{Filter}
use Rattle.ft_base.specs.Selection.{Form, mild_not, filtered}
use Rattle.all_matches.specs.Allowed.{without_times, without_not, has_plain_nots, may_be_filtered, may_stand_out, is_allowed}

pub allowed_filtered : (form : Form) (kind : Filter) → is_allowed (filtered form kind) ≡ true → may_be_filtered (filtered form kind) ≡ true
unfolding is_allowed without_times has_plain_nots
allowed_filtered form kind h = h

pub allowed_mild_not : (left right : Form) → is_allowed (mild_not left right) ≡ true → may_be_filtered (mild_not left right) ≡ true
unfolding is_allowed without_times has_plain_nots
allowed_mild_not left right h =
    let sides = and_parts (may_stand_out left) (may_stand_out right) h in
    let l = and_parts (without_times left) (without_not left) sides.0 in
    let r = and_parts (without_times right) (without_not right) sides.1 in
    λ i. (l.0 i && r.0 i) && (l.1 i && r.1 i)
