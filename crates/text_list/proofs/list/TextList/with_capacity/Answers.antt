-- Without ends there is no text.
use Rattle.std.proofs.Common.{rules, ap, ap₂, sym, ◌∙◌, subst, [], refl}
use Rattle.text_list.specs.Ends.{AreEnds, texts}
use Rattle.text_list.proofs.EndsLemmas.{texts-nil, ends-nil}
use Rattle.text_list.proofs.list.TextList.with_capacity.Goals as goal

pub invariant_of-result : goal.invariant_of-result
invariant_of-result c = rw (c.in_ok-text.ensures.bytes, c.new.ensures.items) ends-nil

pub returns : goal.returns
returns c = rw c.new.ensures.items (texts-nil 0 _)
