-- The least number of characters, and those beyond.
use Rattle.match_options.proofs.RowLemmas.{row_gap}
use Rattle.match_options.proofs.row.pass_gap.Goals as goal

pub returns-clause-known : goal.returns-clause-known
returns-clause-known c atoms letters row =
    row_gap atoms letters c.args.row.now row c.args.low c.args.high c.pass_least.new.row c.pass_more.new.row c.pass_least.ensures.size c.pass_least.ensures.known c.pass_more.ensures.size c.pass_more.ensures.known
