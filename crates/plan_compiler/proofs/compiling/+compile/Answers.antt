-- Operands are served with their selection, and say what it says of them.
use Rattle.std.proofs.Common.{List, map, ap, sym, ◌∙◌, rules, subst, arith}
use Rattle.std.proofs.lemmas.Bool.{and_parts}
use Rattle.std.proofs.lemmas.List.{take_all}
use Rattle.std.proofs.lemmas.Result.{IfOk-weaker}
use Rattle.ft_base.specs.declared.options.Options.{Options}
use Rattle.ft_syntax.specs.View.{form, forms_of}
use Rattle.ft_syntax.specs.declared.selection.Selection.{Selection, the_lemmas}
use Rattle.all_matches.specs.Allowed.{without_times}
use Rattle.counted_shapes.specs.Accepted.{each_is_accepted, is_accepted, is_counted}
use Rattle.plan_compiler.specs.ChosenOptions.{options_of}
use Rattle.plan_compiler.specs.CompiledSelection.{CompileAll, Compiles}
use Rattle.plan_compiler.specs.Served.{are_served, is_served, all_served}
use Rattle.plan_compiler.specs.declared.node.Node.{Node}
use Rattle.plan_compiler.proofs.AcceptedLemmas.{accepted-And, accepted-MildNot, accepted-Not, accepted-Or, accepted-With, accepted-counted, accepted-without_times, accepted_at, positional-MildNot}
use Rattle.plan_compiler.proofs.CompiledLemmas.{and_compiles, compile_more, not_compiles, or_compiles, with_compiles}
use Rattle.plan_compiler.proofs.ServedLemmas.{served-Words, served-Or, served-And, served-Not, served-With, served-Filtered}
use Rattle.plan_compiler.proofs.SelectionMeaning.{served_at, served_inside}
use Rattle.plan_compiler.proofs.compiling.+compile.Goals as goal

pub compile-compile_value-requires-clause-inner : goal.compile-compile_value-requires-clause-inner
compile-compile_value-requires-clause-inner t c = sym (served-Words c.args.looks c.args.selection.now c.in-Words.words c.in-Words.is) ∙ c.requires.selection

pub compile-compile_all-requires : goal.compile-compile_all-requires
compile-compile_all-requires t c = (search (rules, the_lemmas), (c.requires.options, (sym (served-Or c.args.looks c.args.selection.now c.in-Or.parts c.in-Or.is) ∙ c.requires.selection, sym (accepted-Or c.args.selection.now c.in-Or.parts c.in-Or.is) ∙ c.requires.accepted)))

pub compile-compile_all-requires-in-And : goal.compile-compile_all-requires-in-And
compile-compile_all-requires-in-And t c = (search (rules, the_lemmas), (c.requires.options, (sym (served-And c.args.looks c.args.selection.now c.in-And.parts c.in-And.is) ∙ c.requires.selection, sym (accepted-And c.args.selection.now c.in-And.parts c.in-And.is) ∙ c.requires.accepted)))

pub compile-compile_ways-requires-clause-positional : goal.compile-compile_ways-requires-clause-positional
compile-compile_ways-requires-clause-positional t c = positional-MildNot c.args.selection.now c.in-MildNot._left c.in-MildNot._right c.in-MildNot.is

pub compile-compile_ways-requires-clause-allowed : goal.compile-compile_ways-requires-clause-allowed
compile-compile_ways-requires-clause-allowed t c = accepted-MildNot c.args.selection.now c.in-MildNot._left c.in-MildNot._right c.in-MildNot.is c.requires.accepted

pub compile-compile_ways-requires-then-without_times-clause-allowed : goal.compile-compile_ways-requires-then-without_times-clause-allowed
compile-compile_ways-requires-then-without_times-clause-allowed t c =
    accepted-without_times c.args.selection.now c.in-Filtered.operand c.in-Filtered.filter c.in-Filtered.is c.requires.accepted
    (ap (λ s. without_times (form s)) (sym c.deref.ensures) ∙ sym c.without_times.ensures ∙ c.if-without_times.true)

pub compile-compile_counted-requires-clause-counted : goal.compile-compile_counted-requires-clause-counted
compile-compile_counted-requires-clause-counted t c =
    ap (λ s. is_counted (form s) c.in-Filtered.filter) c.deref-else-without_times.ensures
    ∙ accepted-counted c.args.selection.now c.in-Filtered.operand c.in-Filtered.filter c.in-Filtered.is c.requires.accepted
    (ap (λ s. without_times (form s)) (sym c.deref.ensures) ∙ sym c.without_times.ensures ∙ c.if-without_times.false)

pub compile-compile_counted-requires-clause-selection : goal.compile-compile_counted-requires-clause-selection
compile-compile_counted-requires-clause-selection t c =
    ap (λ s. is_served c.args.looks (form s)) c.deref-else-without_times.ensures
    ∙ sym (served-Filtered c.args.looks c.args.selection.now c.in-Filtered.operand c.in-Filtered.filter c.in-Filtered.is)
    ∙ c.requires.selection

pub compile-compile_boxed-requires : goal.compile-compile_boxed-requires
compile-compile_boxed-requires t c = (search (rules, the_lemmas), (c.requires.options, (sym (served-Not c.args.looks c.args.selection.now c.in-Not.operand c.in-Not.is) ∙ c.requires.selection, sym (accepted-Not c.args.selection.now c.in-Not.operand c.in-Not.is) ∙ c.requires.accepted)))

pub compile-compile-requires : goal.compile-compile-requires
compile-compile-requires t c =
    let parts = and_parts (are_served c.args.looks c.in-With.options) _ (sym (served-With c.args.looks c.args.selection.now c.in-With.operand c.in-With.options c.in-With.is) ∙ c.requires.selection) in (
      search (rules, the_lemmas),
      (
        ap (are_served c.args.looks) c.inside.ensures ∙ served_inside c.args.looks c.in-With.options (options_of c.args.chosen.now) parts.0 c.requires.options,
        (
          ap (λ s. is_served c.args.looks (form s)) c.deref-in-With.ensures ∙ parts.1,
          ap (λ s. is_accepted (form s)) c.deref-in-With.ensures ∙ sym (accepted-With c.args.selection.now c.in-With.operand c.in-With.options c.in-With.is) ∙ c.requires.accepted,
        ),
      ),
    )

pub compile-returns-in_ok-compile_all-in-Or : goal.compile-returns-in_ok-compile_all-in-Or
compile-returns-in_ok-compile_all-in-Or t c =
    or_compiles c.args.looks c.args.lists.now (options_of c.args.chosen.now) c.args.selection.now c.in-Or.parts c.in-Or.is c.in_ok-compile_all-in-Or.field-0 c.in_ok-compile_all-in-Or.ensures

pub compile-returns-in_ok-compile_all-in-And : goal.compile-returns-in_ok-compile_all-in-And
compile-returns-in_ok-compile_all-in-And t c =
    and_compiles c.args.looks c.args.lists.now (options_of c.args.chosen.now) c.args.selection.now c.in-And.parts c.in-And.is c.in_ok-compile_all-in-And.field-0 c.in_ok-compile_all-in-And.ensures

pub compile-returns-in_ok-compile_boxed-in-Not : goal.compile-returns-in_ok-compile_boxed-in-Not
compile-returns-in_ok-compile_boxed-in-Not t c =
    not_compiles c.args.looks c.args.lists.now (options_of c.args.chosen.now) c.args.selection.now c.in-Not.operand c.in-Not.is c.in_ok-compile_boxed-in-Not.field-0 c.in_ok-compile_boxed-in-Not.ensures

pub compile-returns-in-With : goal.compile-returns-in-With
compile-returns-in-With t c =
    let looks = c.args.looks in
    let lists = c.args.lists.now in
    let inner = options_of c.inside.result in
    let options = options_of c.args.chosen.now in
    IfOk-weaker c.compile.result (λ (node : Node). Compiles looks lists inner node (form c.deref-in-With.result.now)) (λ (node : Node). Compiles looks lists options node (form c.args.selection.now))
    (λ node part.
    with_compiles looks lists options c.args.selection.now c.in-With.operand c.in-With.options c.in-With.is node
    (subst (λ (o : Options). Compiles looks lists o node (form c.in-With.operand.value)) c.inside.ensures
    (subst (λ (s : Selection). Compiles looks lists inner node (form s)) c.deref-in-With.ensures part)))
    c.compile.ensures

pub compile_all-compile-requires : goal.compile_all-compile-requires
compile_all-compile-requires t c = (
  search (rules, the_lemmas),
  (
    c.requires.options,
    (
      served_at c.args.looks c.as_slice-part-items.result.now c.loop-part.part-index c.part-item.result (ap (λ (parts : List Selection). all_served c.args.looks (forms_of (map form parts))) c.as_slice-part-items.ensures ∙ c.requires.selections) c.loop-part-test.true c.part-item.is,
      accepted_at c.as_slice-part-items.result.now c.loop-part.part-index c.part-item.result (ap (λ (parts : List Selection). each_is_accepted (forms_of (map form parts))) c.as_slice-part-items.ensures ∙ c.requires.accepted) c.loop-part-test.true c.part-item.is,
    ),
  ),
)

pub compile_all-loop-part-preserved : goal.compile_all-loop-part-preserved
compile_all-loop-part-preserved t c =
    compile_more c.args.looks c.args.lists.now (options_of c.args.chosen.now) c.loop-part.nodes c.push.new.self c.as_slice-part-items.result.now c.loop-part.part-index c.in_ok-compile.field-0
    c.part-item.result c.loop-part-test.true c.part-item.is c.in_ok-push.ensures.ok c.in_ok-compile.ensures c.loop-part.invariant

pub compile_all-returns : goal.compile_all-returns
compile_all-returns t c =
    subst (CompileAll c.args.looks c.args.lists.now (options_of c.args.chosen.now) c.loop-part.nodes) (take_all c.loop-part.part-index c.as_slice-part-items.result.now (omega arith) ∙ c.as_slice-part-items.ensures) c.loop-part.invariant
