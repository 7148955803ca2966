-- With no element open, what is left is the whole tree.
use Rattle.std.proofs.Common.{◌∙◌, append-nil}
use Rattle.tokenizer.specs.steps.Walks.{stack_left, events_left}
use Rattle.tokenizer.proofs.walk.Walk.new.Goals as goal

pub returns : goal.returns
unfolding events_left stack_left
returns c = rw c.new.ensures.items (append-nil _ ∙ append-nil _)
