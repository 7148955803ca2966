-- Parts are served, accepted and to be shown with their selection, and show what it shows of them.
use Rattle.std.proofs.Common.{List, map, ap, sym, ◌∙◌, rules, subst, arith, true}
use Rattle.std.proofs.lemmas.Bool.{and_parts}
use Rattle.std.proofs.lemmas.List.{take_all}
use Rattle.std.proofs.lemmas.Result.{IfOk-weaker}
use Rattle.ft_base.specs.declared.options.Options.{Options}
use Rattle.ft_syntax.specs.View.{form, forms_of}
use Rattle.ft_syntax.specs.declared.selection.Selection.{Selection, the_lemmas}
use Rattle.best_hits.specs.Showable.{can_show, each_can_show_in}
use Rattle.counted_shapes.specs.Accepted.{each_is_accepted, is_accepted}
use Rattle.plan_compiler.specs.ChosenOptions.{options_of}
use Rattle.plan_compiler.specs.CompiledShown.{ShowAll, ShowParts, Shows}
use Rattle.plan_compiler.specs.Served.{all_served, are_served, is_served}
use Rattle.plan_compiler.specs.declared.shown_plan.ShownNode.{ShownNode}
use Rattle.plan_compiler.proofs.AcceptedLemmas.{accepted-And, accepted-MildNot, accepted-Or, accepted-With, accepted-without_times, accepted_at, positional-MildNot}
use Rattle.plan_compiler.proofs.SelectionMeaning.{served_at, served_inside}
use Rattle.plan_compiler.proofs.ServedLemmas.{served-And, served-Or, served-With, served-Words}
use Rattle.plan_compiler.proofs.ShowableLemmas.{showable-And, showable-Filtered, showable-Or, showable-With, showable_at}
use Rattle.plan_compiler.proofs.ShownLemmas.{and_shown, nodes_more, nothing_shown, or_shown, parts_more, with_shown}
use Rattle.plan_compiler.proofs.compiling_shown.+show.Goals as goal

pub shown_node-first_ways-requires-clause-inner : goal.shown_node-first_ways-requires-clause-inner
shown_node-first_ways-requires-clause-inner t c = sym (served-Words c.args.looks c.args.selection.now c.in-Words.words c.in-Words.is) ∙ c.requires.selection

pub shown_node-shown_parts-requires : goal.shown_node-shown_parts-requires
shown_node-shown_parts-requires t c = (
  search (rules, the_lemmas),
  (
    c.requires.options,
    (
      sym (served-Or c.args.looks c.args.selection.now c.in-Or.parts c.in-Or.is) ∙ c.requires.selection,
      (
        sym (accepted-Or c.args.selection.now c.in-Or.parts c.in-Or.is) ∙ c.requires.accepted,
        sym (showable-Or c.args.selection.now c.in-Or.parts c.in-Or.is) ∙ c.requires.showable,
      ),
    ),
  ),
)

pub shown_node-shown_nodes-requires : goal.shown_node-shown_nodes-requires
shown_node-shown_nodes-requires t c = (
  search (rules, the_lemmas),
  (
    c.requires.options,
    (
      sym (served-And c.args.looks c.args.selection.now c.in-And.parts c.in-And.is) ∙ c.requires.selection,
      (
        sym (accepted-And c.args.selection.now c.in-And.parts c.in-And.is) ∙ c.requires.accepted,
        sym (showable-And c.args.selection.now c.in-And.parts c.in-And.is) ∙ c.requires.showable,
      ),
    ),
  ),
)

pub shown_node-least_ways-requires-clause-positional : goal.shown_node-least_ways-requires-clause-positional
shown_node-least_ways-requires-clause-positional t c = positional-MildNot c.args.selection.now c.in-MildNot._left c.in-MildNot._right c.in-MildNot.is

pub shown_node-least_ways-requires-clause-allowed : goal.shown_node-least_ways-requires-clause-allowed
shown_node-least_ways-requires-clause-allowed t c = accepted-MildNot c.args.selection.now c.in-MildNot._left c.in-MildNot._right c.in-MildNot.is c.requires.accepted

pub shown_node-least_ways-requires-in-Filtered-clause-allowed : goal.shown_node-least_ways-requires-in-Filtered-clause-allowed
shown_node-least_ways-requires-in-Filtered-clause-allowed t c =
    accepted-without_times c.args.selection.now c.in-Filtered._operand c.in-Filtered._filter c.in-Filtered.is c.requires.accepted
    (showable-Filtered c.args.selection.now c.in-Filtered._operand c.in-Filtered._filter c.in-Filtered.is c.requires.showable)

pub shown_node-shown_node-requires : goal.shown_node-shown_node-requires
shown_node-shown_node-requires t c =
    let parts = and_parts (are_served c.args.looks c.in-With.options) _ (sym (served-With c.args.looks c.args.selection.now c.in-With.operand c.in-With.options c.in-With.is) ∙ c.requires.selection) in (
      search (rules, the_lemmas),
      (
        ap (are_served c.args.looks) c.inside.ensures ∙ served_inside c.args.looks c.in-With.options (options_of c.args.chosen.now) parts.0 c.requires.options,
        (
          ap (λ s. is_served c.args.looks (form s)) c.deref.ensures ∙ parts.1,
          (
            ap (λ s. is_accepted (form s)) c.deref.ensures ∙ sym (accepted-With c.args.selection.now c.in-With.operand c.in-With.options c.in-With.is) ∙ c.requires.accepted,
            ap (λ s. can_show (form s)) c.deref.ensures ∙ sym (showable-With c.args.selection.now c.in-With.operand c.in-With.options c.in-With.is) ∙ c.requires.showable,
          ),
        ),
      ),
    )

pub shown_node-returns-in_ok-shown_parts-in-Or : goal.shown_node-returns-in_ok-shown_parts-in-Or
shown_node-returns-in_ok-shown_parts-in-Or t c =
    or_shown c.args.looks c.args.lists.now (options_of c.args.chosen.now) c.args.selection.now c.in-Or.parts c.in-Or.is c.in_ok-shown_parts-in-Or.field-0 c.in_ok-shown_parts-in-Or.ensures

pub shown_node-returns-in_ok-shown_nodes-in-And : goal.shown_node-returns-in_ok-shown_nodes-in-And
shown_node-returns-in_ok-shown_nodes-in-And t c =
    and_shown c.args.looks c.args.lists.now (options_of c.args.chosen.now) c.args.selection.now c.in-And.parts c.in-And.is c.in_ok-shown_nodes-in-And.field-0 c.in_ok-shown_nodes-in-And.ensures

pub shown_node-returns-in-Not : goal.shown_node-returns-in-Not
shown_node-returns-in-Not t c = nothing_shown c.args.looks c.args.lists.now (options_of c.args.chosen.now) c.args.selection.now c.in-Not._operand c.in-Not.is

pub shown_node-returns-in-With : goal.shown_node-returns-in-With
shown_node-returns-in-With t c =
    let looks = c.args.looks in
    let lists = c.args.lists.now in
    let inner = options_of c.inside.result in
    let options = options_of c.args.chosen.now in
    IfOk-weaker c.shown_node.result (λ (node : ShownNode). Shows looks lists inner node (form c.deref.result.now)) (λ (node : ShownNode). Shows looks lists options node (form c.args.selection.now))
    (λ node part.
    with_shown looks lists options c.args.selection.now c.in-With.operand c.in-With.options c.in-With.is node
    (subst (λ (o : Options). Shows looks lists o node (form c.in-With.operand.value)) c.inside.ensures
    (subst (λ (s : Selection). Shows looks lists inner node (form s)) c.deref.ensures part)))
    c.shown_node.ensures

pub shown_nodes-shown_node-requires : goal.shown_nodes-shown_node-requires
shown_nodes-shown_node-requires t c = (
  search (rules, the_lemmas),
  (
    c.requires.options,
    (
      served_at c.args.looks c.as_slice-part-items.result.now c.loop-part.part-index c.part-item.result (ap (λ (parts : List Selection). all_served c.args.looks (forms_of (map form parts))) c.as_slice-part-items.ensures ∙ c.requires.selections) c.loop-part-test.true c.part-item.is,
      (
        accepted_at c.as_slice-part-items.result.now c.loop-part.part-index c.part-item.result (ap (λ (parts : List Selection). each_is_accepted (forms_of (map form parts))) c.as_slice-part-items.ensures ∙ c.requires.accepted) c.loop-part-test.true c.part-item.is,
        showable_at c.as_slice-part-items.result.now c.loop-part.part-index c.part-item.result (ap (λ (parts : List Selection). each_can_show_in true true (forms_of (map form parts))) c.as_slice-part-items.ensures ∙ c.requires.showable) c.loop-part-test.true c.part-item.is,
      ),
    ),
  ),
)

pub shown_nodes-loop-part-preserved : goal.shown_nodes-loop-part-preserved
shown_nodes-loop-part-preserved t c =
    nodes_more c.args.looks c.args.lists.now (options_of c.args.chosen.now) c.loop-part.nodes c.push.new.self c.as_slice-part-items.result.now c.loop-part.part-index c.in_ok-shown_node.field-0
    c.part-item.result c.loop-part-test.true c.part-item.is c.in_ok-push.ensures.ok c.in_ok-shown_node.ensures c.loop-part.invariant

pub shown_nodes-returns : goal.shown_nodes-returns
shown_nodes-returns t c =
    subst (ShowAll c.args.looks c.args.lists.now (options_of c.args.chosen.now) c.loop-part.nodes) (take_all c.loop-part.part-index c.as_slice-part-items.result.now (omega arith) ∙ c.as_slice-part-items.ensures) c.loop-part.invariant

pub shown_parts-shown_part-requires : goal.shown_parts-shown_part-requires
shown_parts-shown_part-requires t c = (
  search (rules, the_lemmas),
  (
    c.requires.options,
    (
      served_at c.args.looks c.as_slice-part-items.result.now c.loop-part.part-index c.part-item.result (ap (λ (parts : List Selection). all_served c.args.looks (forms_of (map form parts))) c.as_slice-part-items.ensures ∙ c.requires.selections) c.loop-part-test.true c.part-item.is,
      (
        accepted_at c.as_slice-part-items.result.now c.loop-part.part-index c.part-item.result (ap (λ (parts : List Selection). each_is_accepted (forms_of (map form parts))) c.as_slice-part-items.ensures ∙ c.requires.accepted) c.loop-part-test.true c.part-item.is,
        showable_at c.as_slice-part-items.result.now c.loop-part.part-index c.part-item.result (ap (λ (parts : List Selection). each_can_show_in true true (forms_of (map form parts))) c.as_slice-part-items.ensures ∙ c.requires.showable) c.loop-part-test.true c.part-item.is,
      ),
    ),
  ),
)

pub shown_parts-loop-part-preserved : goal.shown_parts-loop-part-preserved
shown_parts-loop-part-preserved t c =
    parts_more c.args.looks c.args.lists.now (options_of c.args.chosen.now) c.loop-part.shown c.push.new.self c.as_slice-part-items.result.now c.loop-part.part-index c.in_ok-shown_part.field-0
    c.part-item.result c.loop-part-test.true c.part-item.is c.in_ok-push.ensures.ok c.in_ok-shown_part.ensures c.loop-part.invariant

pub shown_parts-returns : goal.shown_parts-returns
shown_parts-returns t c =
    subst (ShowParts c.args.looks c.args.lists.now (options_of c.args.chosen.now) c.loop-part.shown) (take_all c.loop-part.part-index c.as_slice-part-items.result.now (omega arith) ∙ c.as_slice-part-items.ensures) c.loop-part.invariant
