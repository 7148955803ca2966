-- The words were counted.
use Rattle.std.proofs.Common.{nat_lt, ap}
use Rattle.tree_edits.proofs.drafts.Draft.has_more_tokens_than.Goals as goal

pub returns : goal.returns
returns c = ap (nat_lt c.args.most) c.args.self.now.sized.words
