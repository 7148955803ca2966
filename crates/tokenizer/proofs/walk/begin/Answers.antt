-- A text is the only thing in its tree; an element has its start tag first, and the rest is left on the stack.
use Rattle.std.proofs.Common.{refl}
use Rattle.tokenizer.proofs.WalksLemmas.{events-text, events-elem, stack_left-push}
use Rattle.tokenizer.proofs.walk.begin.Goals as goal

pub returns-in-Text : goal.returns-in-Text
returns-in-Text c = rw (c.in-Text.is, events-text, c.as_str.ensures) refl

pub returns-in_ok-push-in-Elem : goal.returns-in_ok-push-in-Elem
returns-in_ok-push-in-Elem c = rw (c.in-Elem.is, events-elem, c.as_str-in-Elem.ensures, c.in_ok-push-in-Elem.ensures.items, stack_left-push) refl
