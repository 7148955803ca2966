-- Each kind puts its items behind the others.
use Rattle.std.proofs.Common.{◌≡◌, ◌∙◌, ap, sym, subst, List, OnOk}
use Rattle.std.proofs.lemmas.Result.{on_ok_weaker}
use Rattle.ft_base.specs.Selection.{Form}
use Rattle.ft_base.specs.declared.options.Options.{Options}
use Rattle.ft_syntax.specs.View.{form}
use Rattle.ft_syntax.specs.declared.selection.Selection.{Selection}
use Rattle.ft_syntax.proofs.Views.{form-And}
use Rattle.plan_compiler.specs.ChosenOptions.{options_of}
use Rattle.plan_compiler.specs.CompiledCounts.{EachItemCompilesTo, ItemsCompileTo}
use Rattle.plan_compiler.specs.Lexicon.{lexicon}
use Rattle.plan_compiler.proofs.CountedLemmas.{each_item_more, each_item_none, items_and, items_none, items_with}
use Rattle.plan_compiler.proofs.ServedLemmas.{form-With}
use Rattle.plan_compiler.proofs.SkippedShapes.{no_items-Filtered, no_items-MildNot, no_items-Or}
use Rattle.plan_compiler.proofs.compiling_counts.+items.Goals as goal

pub push_items-returns-in-Or : goal.push_items-returns-in-Or
push_items-returns-in-Or t c =
    items_none c.args.lists.now (options_of c.args.chosen.now) c.args.items.now (form c.args.selection.now)
    (λ tokens. no_items-Or (lexicon c.args.lists.now) (options_of c.args.chosen.now) c.args.selection.now tokens c.in-Or._parts c.in-Or.is)

pub push_items-returns-in-MildNot : goal.push_items-returns-in-MildNot
push_items-returns-in-MildNot t c =
    items_none c.args.lists.now (options_of c.args.chosen.now) c.args.items.now (form c.args.selection.now)
    (λ tokens. no_items-MildNot (lexicon c.args.lists.now) (options_of c.args.chosen.now) c.args.selection.now tokens c.in-MildNot._left c.in-MildNot._right c.in-MildNot.is)

pub push_items-returns-in-Filtered : goal.push_items-returns-in-Filtered
push_items-returns-in-Filtered t c =
    items_none c.args.lists.now (options_of c.args.chosen.now) c.args.items.now (form c.args.selection.now)
    (λ tokens. no_items-Filtered (lexicon c.args.lists.now) (options_of c.args.chosen.now) c.args.selection.now tokens c.in-Filtered._operand c.in-Filtered._filter c.in-Filtered.is)

pub push_items-returns-in-And : goal.push_items-returns-in-And
push_items-returns-in-And t c =
    let lists = c.args.lists.now in
    let options = options_of c.args.chosen.now in
    let before = c.args.items.now in
    let after = c.push_parts.new.items in
    on_ok_weaker c.push_parts.result
    (λ each. subst (λ (f : Form). ItemsCompileTo lists options before after f) (sym (ap form c.in-And.is ∙ form-And c.in-And.parts)) (items_and lists options before after c.in-And.parts each))
    c.push_parts.ensures

pub push_items-returns-in-With : goal.push_items-returns-in-With
push_items-returns-in-With t c =
    let lists = c.args.lists.now in
    let options = options_of c.args.chosen.now in
    let before = c.args.items.now in
    let after = c.push_items.new.items in
    let operand = c.in-With.operand in
    let inner = c.in-With.options in
    on_ok_weaker c.push_items.result
    (λ items.
    subst (λ (f : Form). ItemsCompileTo lists options before after f) (sym (ap form c.in-With.is ∙ form-With operand inner))
    (items_with lists options before after (form operand.value) inner
    (subst (λ (o : Options). ItemsCompileTo lists o before after (form operand.value)) c.inside.ensures
    (subst (λ (s : Selection). ItemsCompileTo lists (options_of c.inside.result) before after (form s)) c.deref-in-With.ensures items))))
    c.push_items.ensures

pub push_parts-loop-part-init : goal.push_parts-loop-part-init
push_parts-loop-part-init t c = each_item_none c.args.lists.now (options_of c.args.chosen.now) c.args.items.now

pub push_parts-loop-part-preserved : goal.push_parts-loop-part-preserved
push_parts-loop-part-preserved t c =
    each_item_more c.args.lists.now (options_of c.args.chosen.now) c.args.items.now c.loop-part.items c.push_items.new.items c.as_slice-part-items.result.now c.loop-part.part-index
    c.part-item.result c.loop-part-test.true c.part-item.is c.loop-part.invariant c.in_ok-push_items.ensures
