-- The limit of filters, as selections have it.
use Rattle.std.specs.Prelude.{Bool, true, ◌&&◌, not, nat_le}
use Rattle.ft_base.specs.Limits.{max_filters}
use Rattle.selection_grammar.specs.Tree as tree
use Rattle.selection_grammar.specs.Tree.{Tree, Trees}
use Rattle.ft_parser.specs.Limits.{filters_round}

-- whether the operand of each filter in a selection has fewer filters directly round one another than may stand so
unfoldable mutual
  pub are_filters_within : Tree → Bool
  are_filters_within (tree.words w) = true
  are_filters_within (tree.or_of trees) = are_all_within trees
  are_filters_within (tree.and_of trees) = are_all_within trees
  are_filters_within (tree.mild_not left right) = are_filters_within left && are_filters_within right
  are_filters_within (tree.not_of at operand) = are_filters_within operand
  are_filters_within (tree.filtered operand filter) = are_filters_within operand && not (nat_le max_filters (filters_round operand))
  are_filters_within (tree.with_options operand options) = are_filters_within operand

  pub are_all_within : Trees → Bool
  are_all_within tree.none = true
  are_all_within (tree.more t rest) = are_filters_within t && are_all_within rest
