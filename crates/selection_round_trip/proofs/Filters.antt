-- How many filters stand directly round one another is told by the form of a selection.
use Rattle.std.proofs.Common.{◌≡◌, ℕ, zero, suc, Bool, true, ◌&&◌, nat_le, refl, sym, ◌∙◌, ap}
use Rattle.std.specs.Prelude.{not}
use Rattle.ft_base.specs.Limits.{max_filters}
use Rattle.ft_base.specs.Selection as form
use Rattle.ft_base.specs.Selection.{Form, Forms}
use Rattle.ft_parser.specs.FilterLimit.{are_filters_within, are_all_within}
use Rattle.ft_parser.specs.Limits.{filters_round}
use Rattle.selection_grammar.specs.Form.{form_of, forms_of}
use Rattle.selection_grammar.specs.Tree as tree
use Rattle.selection_grammar.specs.Tree.{Tree, Trees}

abbrev round : Form → ℕ
round (form.filtered x filter) = suc (round x)
round (form.words value) = zero
round (form.or_of forms) = zero
round (form.and_of forms) = zero
round (form.mild_not left right) = zero
round (form.not_of x) = zero
round (form.with_options x options) = zero

unfoldable mutual
  within : Form → Bool
  within (form.words value) = true
  within (form.or_of forms) = all_within forms
  within (form.and_of forms) = all_within forms
  within (form.mild_not left right) = within left && within right
  within (form.not_of x) = within x
  within (form.filtered x filter) = within x && not (nat_le max_filters (round x))
  within (form.with_options x options) = within x

  all_within : Forms → Bool
  all_within form.none = true
  all_within (form.more x rest) = within x && all_within rest

round_same : (t : Tree) → filters_round t ≡ round (form_of t)
unfolding form_of
round_same (tree.filtered operand filter) = ap suc (round_same operand)
round_same (tree.words w) = refl
round_same (tree.or_of trees) = refl
round_same (tree.and_of trees) = refl
round_same (tree.mild_not left right) = refl
round_same (tree.not_of at operand) = refl
round_same (tree.with_options operand options) = refl

both : {a b c d : Bool} → a ≡ c → b ≡ d → (a && b) ≡ (c && d)
both {a} {b} {c} {d} e f = ap (λ x. x && b) e ∙ ap (λ x. c && x) f

mutual
  unfolding form_of within are_filters_within

  within_same : (t : Tree) → are_filters_within t ≡ within (form_of t)
  within_same (tree.words w) = refl
  within_same (tree.or_of trees) = all_same trees
  within_same (tree.and_of trees) = all_same trees
  within_same (tree.mild_not left right) = both (within_same left) (within_same right)
  within_same (tree.not_of at operand) = within_same operand
  within_same (tree.filtered operand filter) = both (within_same operand) (ap (λ n. not (nat_le max_filters n)) (round_same operand))
  within_same (tree.with_options operand options) = within_same operand

  all_same : (trees : Trees) → are_all_within trees ≡ all_within (forms_of trees)
  all_same tree.none = refl
  all_same (tree.more t rest) = both (within_same t) (all_same rest)

pub filters_same : (t u : Tree) → form_of u ≡ form_of t → are_filters_within u ≡ are_filters_within t
filters_same t u e = within_same u ∙ ap within e ∙ sym (within_same t)
