-- A selection in which the reader found no `ftnot`, no `occurs` or no `ftnot` in another has none by its form.
use Rattle.std.proofs.Common.{◌≡◌, true, [], ◌++◌, Option, Some, None, refl}
use Rattle.std.specs.Prelude.{flat_map, option_map}
use Rattle.std.specs.Option.{option_to_list}
use Rattle.std.proofs.lemmas.Bool.{and_from, and_parts}
use Rattle.all_matches.specs.Allowed.{has_no_range, has_operands, without_times, each_without_times, without_not, each_without_not, has_plain_nots, each_has_plain_nots}
use Rattle.selection_grammar.specs.Form.{form_of, forms_of}
use Rattle.selection_grammar.specs.declared.parsed.PlacedTimes.{PlacedTimes}
use Rattle.selection_grammar.specs.Tree as tree
use Rattle.selection_grammar.specs.Tree.{Tree, Trees}
use Rattle.selection_faults.specs.Excludes.{within, within_all, not_place, times_place, nots, times, excludes, operand_nots, operand_excludes, nested_nots, mild_not_excludes}
use Rattle.allowed_selections.proofs.Empty.{parts_empty, none_in}
use Rattle.allowed_selections.proofs.Operands.{has_full_ands, each_has_full_ands}

no_range : (t : Option PlacedTimes) → option_to_list (option_map (λ (x : PlacedTimes). x.at) t) ++ [] ≡ [] → has_no_range (option_map (λ (x : PlacedTimes). x.range) t) ≡ true
no_range None h = refl
no_range (Some t) h = cc

mutual
  unfolding form_of within without_times

  pub no_times : (t : Tree) → times t ≡ [] → without_times (form_of t) ≡ true
  no_times (tree.words w) h = no_range w.times h
  no_times (tree.or_of trees) h = none_has_times trees h
  no_times (tree.and_of trees) h = none_has_times trees h
  no_times (tree.mild_not left right) h = let parts = none_in times_place (within left) (within right) h in
      and_from (without_times (form_of left)) (without_times (form_of right)) (no_times left parts.0) (no_times right parts.1)
  no_times (tree.not_of at operand) h = no_times operand h
  no_times (tree.filtered operand filter) h = no_times operand h
  no_times (tree.with_options operand options) h = no_times operand h

  none_has_times : (ts : Trees) → flat_map times_place (within_all ts) ≡ [] → each_without_times (forms_of ts) ≡ true
  none_has_times tree.none h = refl
  none_has_times (tree.more t rest) h = let parts = none_in times_place (within t) (within_all rest) h in
      and_from (without_times (form_of t)) (each_without_times (forms_of rest)) (no_times t parts.0) (none_has_times rest parts.1)

mutual
  unfolding form_of within without_not has_full_ands

  pub no_nots : (t : Tree) → has_full_ands (form_of t) ≡ true → nots t ≡ [] → without_not (form_of t) ≡ true
  no_nots (tree.words w) full h = refl
  no_nots (tree.or_of trees) full h = none_has_nots trees full h
  no_nots (tree.and_of trees) full h = let parts = and_parts (has_operands (forms_of trees)) (each_has_full_ands (forms_of trees)) full in
      and_from (has_operands (forms_of trees)) (each_without_not (forms_of trees)) parts.0 (none_has_nots trees parts.1 h)
  no_nots (tree.mild_not left right) full h =
      let both = and_parts (has_full_ands (form_of left)) (has_full_ands (form_of right)) full in
      let parts = none_in not_place (within left) (within right) h in
      and_from (without_not (form_of left)) (without_not (form_of right)) (no_nots left both.0 parts.0) (no_nots right both.1 parts.1)
  no_nots (tree.not_of at operand) full h = cc
  no_nots (tree.filtered operand filter) full h = no_nots operand full h
  no_nots (tree.with_options operand options) full h = no_nots operand full h

  none_has_nots : (ts : Trees) → each_has_full_ands (forms_of ts) ≡ true → flat_map not_place (within_all ts) ≡ [] → each_without_not (forms_of ts) ≡ true
  none_has_nots tree.none full h = refl
  none_has_nots (tree.more t rest) full h =
      let both = and_parts (has_full_ands (form_of t)) (each_has_full_ands (forms_of rest)) full in
      let parts = none_in not_place (within t) (within_all rest) h in
      and_from (without_not (form_of t)) (each_without_not (forms_of rest)) (no_nots t both.0 parts.0) (none_has_nots rest both.1 parts.1)

-- the operands of `not in` have neither
pub no_excludes : (t : Tree) → has_full_ands (form_of t) ≡ true → excludes t ≡ [] → (without_times (form_of t) ≡ true) × (without_not (form_of t) ≡ true)
no_excludes t full h = let parts = parts_empty (nots t) (times t) h in (no_times t parts.1, no_nots t full parts.0)

mutual
  unfolding form_of within has_plain_nots has_full_ands

  pub plain_nots : (t : Tree) → has_full_ands (form_of t) ≡ true → nested_nots t ≡ [] → mild_not_excludes t ≡ [] → has_plain_nots (form_of t) ≡ true
  plain_nots (tree.words w) full nested mild = refl
  plain_nots (tree.or_of trees) full nested mild = each_plain trees full nested mild
  plain_nots (tree.and_of trees) full nested mild = each_plain trees (and_parts (has_operands (forms_of trees)) (each_has_full_ands (forms_of trees)) full).1 nested mild
  plain_nots (tree.mild_not left right) full nested mild =
      let both = and_parts (has_full_ands (form_of left)) (has_full_ands (form_of right)) full in
      let here = parts_empty (excludes left ++ excludes right) (flat_map operand_excludes (within left ++ within right)) mild in
      let parts = parts_empty (excludes left) (excludes right) here.0 in
      and_from (without_not (form_of left)) (without_not (form_of right)) (no_excludes left both.0 parts.0).1 (no_excludes right both.1 parts.1).1
  plain_nots (tree.not_of at operand) full nested mild = no_nots operand full (parts_empty (nots operand) (flat_map operand_nots (within operand)) nested).0
  plain_nots (tree.filtered operand filter) full nested mild = plain_nots operand full nested mild
  plain_nots (tree.with_options operand options) full nested mild = plain_nots operand full nested mild

  each_plain : (ts : Trees) → each_has_full_ands (forms_of ts) ≡ true → flat_map operand_nots (within_all ts) ≡ [] → flat_map operand_excludes (within_all ts) ≡ []
      → each_has_plain_nots (forms_of ts) ≡ true
  each_plain tree.none full nested mild = refl
  each_plain (tree.more t rest) full nested mild =
      let both = and_parts (has_full_ands (form_of t)) (each_has_full_ands (forms_of rest)) full in
      let first = none_in operand_nots (within t) (within_all rest) nested in
      let second = none_in operand_excludes (within t) (within_all rest) mild in
      and_from (has_plain_nots (form_of t)) (each_has_plain_nots (forms_of rest)) (plain_nots t both.0 first.0 second.0) (each_plain rest both.1 first.1 second.1)
