-- The first missing list of each kind of selection.
use Rattle.std.proofs.Common.{◌∙◌, sym, ap, ◌+◌, List, map, drop, arith, Option, ℕ}
use Rattle.std.specs.Option.{option_copied, option_or}
use Rattle.ft_syntax.specs.View.{form, forms_of}
use Rattle.plan_compiler.specs.Missing.{all_names, first_missing, missing_among, option_names}
use Rattle.plan_compiler.proofs.MissingLemmas.{missing-Words, missing-Or, missing-And, missing-Not, missing-Filtered, missing-MildNot, missing-With, missing_more, missing_end}
use Rattle.plan_compiler.proofs.missing.+missing.Goals as goal

pub missing_in_parts-returns-in-Some : goal.missing_in_parts-returns-in-Some
missing_in_parts-returns-in-Some t c =
    let parts = c.as_slice-part-items.result.now in
    ap (λ (o : Option (List ℕ)). option_or o (missing_among c.args.lists.now (all_names (forms_of (map form (drop (c.loop-part.part-index + 1) parts)))))) (sym (ap option_copied c.in-Some.is) ∙ c.missing_list.ensures)
    ∙ sym (missing_more c.args.lists.now parts c.loop-part.part-index c.part-item.result c.loop-part-test.true c.part-item.is)
    ∙ c.loop-part.invariant

pub missing_in_parts-loop-part-preserved : goal.missing_in_parts-loop-part-preserved
missing_in_parts-loop-part-preserved t c =
    let parts = c.as_slice-part-items.result.now in
    ap (λ (o : Option (List ℕ)). option_or o (missing_among c.args.lists.now (all_names (forms_of (map form (drop (c.loop-part.part-index + 1) parts)))))) (sym (ap option_copied c.in_default.is) ∙ c.missing_list.ensures)
    ∙ sym (missing_more c.args.lists.now parts c.loop-part.part-index c.part-item.result c.loop-part-test.true c.part-item.is)
    ∙ c.loop-part.invariant

pub missing_in_parts-returns : goal.missing_in_parts-returns
missing_in_parts-returns t c = sym (missing_end c.args.lists.now c.as_slice-part-items.result.now c.loop-part.part-index (omega arith)) ∙ c.loop-part.invariant

pub missing_list-returns-in-Words : goal.missing_list-returns-in-Words
missing_list-returns-in-Words t c = c.missing_in_options.ensures ∙ sym (missing-Words c.args.lists.now c.args.selection.now c.in-Words.words c.in-Words.is)

pub missing_list-returns-in-Or : goal.missing_list-returns-in-Or
missing_list-returns-in-Or t c = c.missing_in_parts.ensures ∙ sym (missing-Or c.args.lists.now c.args.selection.now c.in-Or.parts c.in-Or.is)

pub missing_list-returns-in-And : goal.missing_list-returns-in-And
missing_list-returns-in-And t c = c.missing_in_parts-in-And.ensures ∙ sym (missing-And c.args.lists.now c.args.selection.now c.in-And.parts c.in-And.is)

pub missing_list-returns-in-Some : goal.missing_list-returns-in-Some
missing_list-returns-in-Some t c =
    ap (λ (o : Option (List ℕ)). option_or o (first_missing c.args.lists.now (form c.in-MildNot.right.value))) (sym (ap option_copied c.in-Some.is) ∙ c.missing_list.ensures ∙ ap (λ s. first_missing c.args.lists.now (form s)) c.deref.ensures)
    ∙ sym (missing-MildNot c.args.lists.now c.args.selection.now c.in-MildNot.left c.in-MildNot.right c.in-MildNot.is)

pub missing_list-returns-in-None : goal.missing_list-returns-in-None
missing_list-returns-in-None t c =
    c.missing_list-in-None.ensures ∙ ap (λ s. first_missing c.args.lists.now (form s)) c.deref-in-None.ensures
    ∙ ap (λ (o : Option (List ℕ)). option_or o (first_missing c.args.lists.now (form c.in-MildNot.right.value))) (sym (ap option_copied c.in-None.is) ∙ c.missing_list.ensures ∙ ap (λ s. first_missing c.args.lists.now (form s)) c.deref.ensures)
    ∙ sym (missing-MildNot c.args.lists.now c.args.selection.now c.in-MildNot.left c.in-MildNot.right c.in-MildNot.is)

pub missing_list-returns-in-Not : goal.missing_list-returns-in-Not
missing_list-returns-in-Not t c =
    c.missing_list-in-Not.ensures ∙ ap (λ s. first_missing c.args.lists.now (form s)) c.deref-in-Not.ensures ∙ sym (missing-Not c.args.lists.now c.args.selection.now c.in-Not.operand c.in-Not.is)

pub missing_list-returns-in-Filtered : goal.missing_list-returns-in-Filtered
missing_list-returns-in-Filtered t c =
    c.missing_list-in-Filtered.ensures ∙ ap (λ s. first_missing c.args.lists.now (form s)) c.deref-in-Filtered.ensures
    ∙ sym (missing-Filtered c.args.lists.now c.args.selection.now c.in-Filtered.operand c.in-Filtered._filter c.in-Filtered.is)

pub missing_list-returns-in-Some-missing_list : goal.missing_list-returns-in-Some-missing_list
missing_list-returns-in-Some-missing_list t c =
    ap (λ (o : Option (List ℕ)). option_or o (missing_among c.args.lists.now (option_names c.in-With.options)))
    (sym (ap option_copied c.in-Some-missing_list.is) ∙ c.missing_list-in-With.ensures ∙ ap (λ s. first_missing c.args.lists.now (form s)) c.deref-in-With.ensures)
    ∙ sym (missing-With c.args.lists.now c.args.selection.now c.in-With.operand c.in-With.options c.in-With.is)

pub missing_list-returns-in-None-missing_list : goal.missing_list-returns-in-None-missing_list
missing_list-returns-in-None-missing_list t c =
    c.missing_in_options-in-None-missing_list.ensures
    ∙ ap (λ (o : Option (List ℕ)). option_or o (missing_among c.args.lists.now (option_names c.in-With.options)))
    (sym (ap option_copied c.in-None-missing_list.is) ∙ c.missing_list-in-With.ensures ∙ ap (λ s. first_missing c.args.lists.now (form s)) c.deref-in-With.ensures)
    ∙ sym (missing-With c.args.lists.now c.args.selection.now c.in-With.operand c.in-With.options c.in-With.is)
