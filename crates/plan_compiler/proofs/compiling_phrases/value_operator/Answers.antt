-- A value without words has no hit; else its phrases are joined as its mode says.
use Rattle.std.proofs.Common.{◌∙◌, ap, sym, subst, map}
use Rattle.std.specs.List.{list_all}
use Rattle.ft_base.specs.Lists.{is_empty}
use Rattle.match_options.specs.Items.{item}
use Rattle.plan_compiler.specs.ChosenOptions.{options_of}
use Rattle.plan_compiler.specs.CompiledOperators.{PhrasesCompileTo}
use Rattle.plan_compiler.proofs.PhraseOperators.{empty_value, items_empty, joined_value}
use Rattle.plan_compiler.proofs.compiling_phrases.value_operator.Goals as goal

pub returns-then-all_empty : goal.returns-then-all_empty
returns-then-all_empty c =
    let reading = c.in_ok-reading.reading in
    let value = c.args.words.now in
    empty_value c.args.lists.now (options_of c.args.chosen.now) reading c.in_ok-reading.ensures value c.args.next.now c.phrase_operators.new.next c.in_ok-operands.operands
    (subst (PhrasesCompileTo reading c.args.next.now c.phrase_operators.new.next c.in_ok-operands.operands) (ap (map (map item)) c.as_slice.ensures ∙ c.in_ok-phrases.ensures) c.in_ok-operands.ensures)
    c.no_hit.result
    (ap (list_all is_empty) (sym c.in_ok-phrases.ensures) ∙ items_empty c.in_ok-phrases.phrases ∙ ap (list_all is_empty) (sym c.as_slice-2.ensures) ∙ sym c.all_empty.ensures ∙ c.if-all_empty.true)
    c.no_hit.ensures.same c.no_hit.ensures.cost c.no_hit.ensures.word

pub returns : goal.returns
returns c =
    let reading = c.in_ok-reading.reading in
    let value = c.args.words.now in
    joined_value c.args.lists.now (options_of c.args.chosen.now) reading c.in_ok-reading.ensures value c.args.next.now c.phrase_operators.new.next c.in_ok-operands.operands
    (subst (PhrasesCompileTo reading c.args.next.now c.phrase_operators.new.next c.in_ok-operands.operands) (ap (map (map item)) c.as_slice.ensures ∙ c.in_ok-phrases.ensures) c.in_ok-operands.ensures)
    c.join_of.result c.in_ok-plan.plan
    (ap (list_all is_empty) (sym c.in_ok-phrases.ensures) ∙ items_empty c.in_ok-phrases.phrases ∙ ap (list_all is_empty) (sym c.as_slice-2.ensures) ∙ sym c.all_empty.ensures ∙ c.if-all_empty.false)
    c.join_of.ensures c.in_ok-plan.ensures.same c.in_ok-plan.ensures.cost c.in_ok-plan.ensures.alone
