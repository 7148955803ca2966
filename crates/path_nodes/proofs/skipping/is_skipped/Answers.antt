-- The element's words stand in the stretch, and so do those of what is below it.
use Rattle.std.proofs.Common.{map}
use Rattle.path_grammar.specs.Form as form
use Rattle.path_grammar.specs.View.{predicate}
use Rattle.path_nodes.proofs.ChildrenLemmas.{element_there}
use Rattle.path_nodes.proofs.SufficeLemmas.{none-under}
use Rattle.path_nodes.proofs.skipping.is_skipped.Goals as goal

pub span_of-span-requires : goal.span_of-span-requires
span_of-span-requires g c = element_there c.args.tree.now.root c.args.element c.requires.element

pub returns-clause-kept : goal.returns-clause-kept
returns-clause-kept g c = λ held.
    none-under c.args.tree.now.root (g.T.TextTest.meaning c.args.test.now) (form.predicates (map predicate c.args.predicates.now)) c.args.element c.requires.element
    c.ask_beyond.new.stretch.from c.ask_beyond.new.stretch.to c.span_of-span.result c.span_of-span.ensures.positions (c.holds.ensures.after held) (c.holds.ensures.ends_before held) c.ask_beyond.ensures
