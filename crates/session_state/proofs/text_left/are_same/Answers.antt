-- Lists are equal where their references are, one by one.
use Rattle.std.proofs.Common.{sym, ◌∙◌}
use Rattle.session_state.proofs.LeftLemmas.{same-nodes}
use Rattle.session_state.proofs.text_left.are_same.Goals as goal

pub returns : goal.returns
returns c = λ h. same-nodes c.args.nodes.now c.args.others.now (sym c.eq.ensures ∙ h)
