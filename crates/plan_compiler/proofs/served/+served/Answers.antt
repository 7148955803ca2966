-- Which selections of each kind are decided.
use Rattle.std.proofs.Common.{sym, ap, ◌∙◌, ◌&&◌, map, Bool, arith, drop, ◌+◌}
use Rattle.ft_syntax.specs.View.{form, forms_of}
use Rattle.plan_compiler.specs.Served.{is_served, all_served}
use Rattle.plan_compiler.proofs.ServedLemmas.{served-Words, served-Or, served-And, served-Not, served-With, served-MildNot, served-Filtered, served_more, served_end}
use Rattle.plan_compiler.proofs.served.+served.Goals as goal

pub all_served-returns-then-not-is_served : goal.all_served-returns-then-not-is_served
all_served-returns-then-not-is_served t c =
    sym (served_more c.args.looks c.as_slice-part-items.result.now c.loop-part.part-index c.part-item.result c.loop-part-test.true c.part-item.is
    ∙ ap (λ (b : Bool). b && all_served c.args.looks (forms_of (map form (drop (c.loop-part.part-index + 1) c.as_slice-part-items.result.now)))) (sym c.is_served.ensures ∙ c.if-not-is_served.true))
    ∙ c.loop-part.invariant

pub all_served-loop-part-preserved : goal.all_served-loop-part-preserved
all_served-loop-part-preserved t c =
    sym (served_more c.args.looks c.as_slice-part-items.result.now c.loop-part.part-index c.part-item.result c.loop-part-test.true c.part-item.is
    ∙ ap (λ (b : Bool). b && all_served c.args.looks (forms_of (map form (drop (c.loop-part.part-index + 1) c.as_slice-part-items.result.now)))) (sym c.is_served.ensures ∙ c.if-not-is_served.false))
    ∙ c.loop-part.invariant

pub all_served-returns : goal.all_served-returns
all_served-returns t c = sym (served_end c.args.looks c.as_slice-part-items.result.now c.loop-part.part-index (omega arith)) ∙ c.loop-part.invariant

pub is_served-returns-in-Words : goal.is_served-returns-in-Words
is_served-returns-in-Words t c = c.are_served.ensures ∙ sym (served-Words c.args.looks c.args.selection.now c.in-Words.words c.in-Words.is)

pub is_served-returns-in-Or : goal.is_served-returns-in-Or
is_served-returns-in-Or t c = c.all_served.ensures ∙ sym (served-Or c.args.looks c.args.selection.now c.in-Or.parts c.in-Or.is)

pub is_served-returns-in-And : goal.is_served-returns-in-And
is_served-returns-in-And t c = c.all_served-in-And.ensures ∙ sym (served-And c.args.looks c.args.selection.now c.in-And.parts c.in-And.is)

pub is_served-returns-then-is_served : goal.is_served-returns-then-is_served
is_served-returns-then-is_served t c =
    c.is_served-then-is_served.ensures ∙ ap (λ s. is_served c.args.looks (form s)) c.deref-then-is_served.ensures
    ∙ ap (λ (b : Bool). b && is_served c.args.looks (form c.in-MildNot.right.value))
    (sym (ap (λ s. is_served c.args.looks (form s)) (sym c.deref.ensures) ∙ sym c.is_served.ensures ∙ c.if-is_served.true))
    ∙ sym (served-MildNot c.args.looks c.args.selection.now c.in-MildNot.left c.in-MildNot.right c.in-MildNot.is)

pub is_served-returns-else-is_served : goal.is_served-returns-else-is_served
is_served-returns-else-is_served t c =
    c.if-is_served.false
    ∙ ap (λ (b : Bool). b && is_served c.args.looks (form c.in-MildNot.right.value))
    (sym (ap (λ s. is_served c.args.looks (form s)) (sym c.deref.ensures) ∙ sym c.is_served.ensures ∙ c.if-is_served.false))
    ∙ sym (served-MildNot c.args.looks c.args.selection.now c.in-MildNot.left c.in-MildNot.right c.in-MildNot.is)

pub is_served-returns-in-Not : goal.is_served-returns-in-Not
is_served-returns-in-Not t c =
    c.is_served-in-Not.ensures ∙ ap (λ s. is_served c.args.looks (form s)) c.deref-in-Not.ensures ∙ sym (served-Not c.args.looks c.args.selection.now c.in-Not.operand c.in-Not.is)

pub is_served-returns-in-Filtered : goal.is_served-returns-in-Filtered
is_served-returns-in-Filtered t c =
    c.is_served-in-Filtered.ensures
    ∙ ap (λ s. is_served c.args.looks (form s)) c.deref-in-Filtered.ensures
    ∙ sym (served-Filtered c.args.looks c.args.selection.now c.in-Filtered.operand c.in-Filtered._filter c.in-Filtered.is)

pub is_served-returns-then-are_served : goal.is_served-returns-then-are_served
is_served-returns-then-are_served t c =
    c.is_served-then-are_served.ensures ∙ ap (λ s. is_served c.args.looks (form s)) c.deref-then-are_served.ensures
    ∙ ap (λ (b : Bool). b && is_served c.args.looks (form c.in-With.operand.value)) (sym (sym c.are_served-in-With.ensures ∙ c.if-are_served.true))
    ∙ sym (served-With c.args.looks c.args.selection.now c.in-With.operand c.in-With.options c.in-With.is)

pub is_served-returns-else-are_served : goal.is_served-returns-else-are_served
is_served-returns-else-are_served t c =
    c.if-are_served.false
    ∙ ap (λ (b : Bool). b && is_served c.args.looks (form c.in-With.operand.value)) (sym (sym c.are_served-in-With.ensures ∙ c.if-are_served.false))
    ∙ sym (served-With c.args.looks c.args.selection.now c.in-With.operand c.in-With.options c.in-With.is)
