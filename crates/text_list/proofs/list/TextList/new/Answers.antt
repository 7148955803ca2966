-- Without ends there is no text.
use Rattle.text_list.proofs.EndsLemmas.{texts-nil, ends-nil}
use Rattle.text_list.proofs.list.TextList.new.Goals as goal

pub invariant_of-result : goal.invariant_of-result
invariant_of-result c = rw (c.new.ensures.bytes, c.new-2.ensures.items) ends-nil

pub returns : goal.returns
returns c = rw c.new-2.ensures.items (texts-nil 0 _)
