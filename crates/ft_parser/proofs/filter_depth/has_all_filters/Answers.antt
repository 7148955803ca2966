-- Words and what has options are no filters round others.
use Rattle.std.proofs.Common.{sym}
use Rattle.ft_parser.specs.steps.State.{left_of}
use Rattle.ft_parser.proofs.FilterLaws.{other_stage}
use Rattle.ft_parser.proofs.filter_depth.has_all_filters.Goals as goal

pub returns-in_default : goal.returns-in_default
returns-in_default c = sym (other_stage (left_of c.args.state.now.context.left) c.args.state.now.stage c.in_default.not-Given c.in_default.not-WithFilter)
