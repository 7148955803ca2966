-- A selection that was read has each `ftnot` and `occurs` where it may stand.
use Rattle.std.proofs.Common.{◌≡◌, ℕ, Bool, true, false, cond, ◌||◌, List, [], ◌++◌, length, None, Option, Ok, refl, ap, subst, ◌∙◌}
use Rattle.std.specs.Prelude.{flat_map}
use Rattle.std.specs.Option.{option_to_list}
use Rattle.std.proofs.lemmas.Bool.{and_from, and_parts, or_left, or_right}
use Rattle.ft_base.specs.Selection.{Form}
use Rattle.ft_base.specs.declared.fault.QueryFault.TheVariants as F
use Rattle.ft_base.specs.declared.filter.Filter.{Filter}
use Rattle.all_matches.specs.Allowed.{has_operands, without_times, without_not, has_plain_nots, may_be_filtered, may_stand_out}
use Rattle.counted_shapes.specs.Accepted.{each_is_accepted, is_accepted, is_counted}
use Rattle.ft_parser.specs.Answer.{selection_read}
use Rattle.ft_parser.specs.Selected.{Selects}
use Rattle.ft_parser.proofs.SelectedLaws.{Outcome, all_read}
use Rattle.query_lexer.specs.Symbols.{symbols_of}
use Rattle.selection_grammar.specs.declared.symbol.Placed.{Placed}
use Rattle.selection_grammar.specs.Form.{form_of, forms_of}
use Rattle.selection_grammar.specs.Tree as tree
use Rattle.selection_grammar.specs.Tree.{Tree, Trees}
use Rattle.selection_faults.specs.Excludes.{within, within_all, times, excludes, operand_excludes, nested_nots, filtered_excludes, mild_not_excludes, inside_filters, uncounted_times}
use Rattle.selection_faults.specs.Faults.{placed, faults_at, faults, fault_of}
use Rattle.selection_faults.specs.Options.{options_twice}
use Rattle.selection_faults.specs.Strings.{strings_of, phrases_past, bad_wildcards}
use Rattle.allowed_selections.proofs.Empty.{parts_empty, none_in, none_mapped, none_at_all}
use Rattle.allowed_selections.proofs.Excludes.{no_times, no_excludes, plain_nots}
use Rattle.allowed_selections.proofs.Operands.{has_full_ands, each_has_full_ands, spelled_full}

stands_out : (t : Tree) → has_full_ands (form_of t) ≡ true → excludes t ≡ [] → may_stand_out (form_of t) ≡ true
stands_out t full none = let h = no_excludes t full none in and_from (without_times (form_of t)) (without_not (form_of t)) h.0 h.1

-- a selection with a filter is a counted shape, or has no `occurs`
under_filter : (operand : Tree) (filter : Filter) → has_full_ands (form_of operand) ≡ true → mild_not_excludes operand ≡ [] → nested_nots operand ≡ [] → uncounted_times operand filter ≡ []
    → (may_be_filtered (form_of operand) || is_counted (form_of operand) filter) ≡ true
under_filter operand filter full mild nested uncounted = by (is_counted (form_of operand) filter) uncounted
  where
    by : (counted : Bool) → cond counted [] (times operand) ≡ [] → (may_be_filtered (form_of operand) || counted) ≡ true
    by true none = or_right (may_be_filtered (form_of operand)) true refl
    by false none = or_left (may_be_filtered (form_of operand)) false
        (and_from (without_times (form_of operand)) (has_plain_nots (form_of operand)) (no_times operand none) (plain_nots operand full nested mild))

mutual
  unfolding form_of within is_accepted has_full_ands

  accepted : (t : Tree) → has_full_ands (form_of t) ≡ true → mild_not_excludes t ≡ [] → inside_filters t ≡ [] → is_accepted (form_of t) ≡ true
  accepted (tree.words w) full mild inside = refl
  accepted (tree.or_of trees) full mild inside = each_accepted trees full mild inside
  accepted (tree.and_of trees) full mild inside = each_accepted trees (and_parts (has_operands (forms_of trees)) (each_has_full_ands (forms_of trees)) full).1 mild inside
  accepted (tree.mild_not left right) full mild inside =
      let both = and_parts (has_full_ands (form_of left)) (has_full_ands (form_of right)) full in
      let here = parts_empty (excludes left ++ excludes right) (flat_map operand_excludes (within left ++ within right)) mild in
      let parts = parts_empty (excludes left) (excludes right) here.0 in
      and_from (may_stand_out (form_of left)) (may_stand_out (form_of right)) (stands_out left both.0 parts.0) (stands_out right both.1 parts.1)
  accepted (tree.not_of at operand) full mild inside = accepted operand full mild inside
  accepted (tree.filtered operand filter) full mild inside =
      let here = parts_empty (nested_nots operand ++ uncounted_times operand filter) (flat_map filtered_excludes (within operand)) inside in
      let parts = parts_empty (nested_nots operand) (uncounted_times operand filter) here.0 in
      under_filter operand filter full mild parts.0 parts.1
  accepted (tree.with_options operand options) full mild inside = accepted operand full mild inside

  each_accepted : (ts : Trees) → each_has_full_ands (forms_of ts) ≡ true → flat_map operand_excludes (within_all ts) ≡ [] → flat_map filtered_excludes (within_all ts) ≡ []
      → each_is_accepted (forms_of ts) ≡ true
  each_accepted tree.none full mild inside = refl
  each_accepted (tree.more t rest) full mild inside =
      let both = and_parts (has_full_ands (form_of t)) (each_has_full_ands (forms_of rest)) full in
      let first = none_in operand_excludes (within t) (within_all rest) mild in
      let second = none_in filtered_excludes (within t) (within_all rest) inside in
      and_from (is_accepted (form_of t)) (each_is_accepted (forms_of rest)) (accepted t both.0 first.0 second.0) (each_accepted rest both.1 first.1 second.1)

-- without a fault there is none of either kind
faultless : (t : Tree) → fault_of t ≡ None → (mild_not_excludes t ≡ []) × (inside_filters t ≡ [])
unfolding fault_of
faultless t h =
    let phrases = faults_at F.Phrases (option_to_list (phrases_past 0 (strings_of t))) in
    let twice = faults_at F.OptionTwice (options_twice t) in
    let wildcards = faults_at F.BadWildcard (bad_wildcards (strings_of t)) in
    let mild = faults_at F.MildNotExclude (mild_not_excludes t) in
    let inside = faults_at F.InsideFilter (inside_filters t) in
    let last = parts_empty (phrases ++ twice ++ wildcards ++ mild) inside (none_at_all (λ f. f.fault) (λ f. f.at) (faults t) h) in
    let before = parts_empty (phrases ++ twice ++ wildcards) mild last.0 in
    (none_mapped (placed F.MildNotExclude) (mild_not_excludes t) before.1, none_mapped (placed F.InsideFilter) (inside_filters t) last.1)

-- symbols that are read as a selection
pub selects_accepted : (symbols : List Placed) (bad : Option ℕ) (form : Form) → Selects symbols bad form → is_accepted form ≡ true
selects_accepted symbols bad form x =
    let none = faultless x.tree x.faultless in
    ap is_accepted x.is ∙ accepted x.tree (spelled_full x.whole.spells) none.0 none.1

-- and a text
pub read_accepted : (text : List ℕ) (form : Form) → selection_read text ≡ Ok form → is_accepted form ≡ true
unfolding selection_read
read_accepted text form h =
    let u = symbols_of text in
    selects_accepted u.placed u.bad form (subst (Outcome u.placed u.bad (length text)) h (all_read u.placed u.bad (length text)))
