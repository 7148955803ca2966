-- Which selections of each kind have no range of times.
use Rattle.std.proofs.Common.{sym, ap, ◌∙◌, ◌&&◌, map, Bool, arith, drop, ◌+◌}
use Rattle.ft_syntax.specs.View.{form, forms_of}
use Rattle.all_matches.specs.Allowed.{each_without_times, without_times}
use Rattle.plan_compiler.proofs.TimesLemmas.{times-And, times-Filtered, times-MildNot, times-Not, times-Or, times-With, times-Words, times_end, times_more}
use Rattle.plan_compiler.proofs.times.+times.Goals as goal

pub each_without_times-returns-then-not-without_times : goal.each_without_times-returns-then-not-without_times
each_without_times-returns-then-not-without_times t c =
    sym (times_more c.as_slice-part-items.result.now c.loop-part.part-index c.part-item.result c.loop-part-test.true c.part-item.is
    ∙ ap (λ (b : Bool). b && each_without_times (forms_of (map form (drop (c.loop-part.part-index + 1) c.as_slice-part-items.result.now)))) (sym c.without_times.ensures ∙ c.if-not-without_times.true))
    ∙ c.loop-part.invariant

pub each_without_times-loop-part-preserved : goal.each_without_times-loop-part-preserved
each_without_times-loop-part-preserved t c =
    sym (times_more c.as_slice-part-items.result.now c.loop-part.part-index c.part-item.result c.loop-part-test.true c.part-item.is
    ∙ ap (λ (b : Bool). b && each_without_times (forms_of (map form (drop (c.loop-part.part-index + 1) c.as_slice-part-items.result.now)))) (sym c.without_times.ensures ∙ c.if-not-without_times.false))
    ∙ c.loop-part.invariant

pub each_without_times-returns : goal.each_without_times-returns
each_without_times-returns t c = sym (times_end c.as_slice-part-items.result.now c.loop-part.part-index (omega arith)) ∙ c.loop-part.invariant

pub without_times-returns-in-Words : goal.without_times-returns-in-Words
without_times-returns-in-Words t c = c.has_no_range.ensures ∙ sym (times-Words c.args.selection.now c.in-Words.words c.in-Words.is)

pub without_times-returns-in-Or : goal.without_times-returns-in-Or
without_times-returns-in-Or t c = c.each_without_times.ensures ∙ sym (times-Or c.args.selection.now c.in-Or.parts c.in-Or.is)

pub without_times-returns-in-And : goal.without_times-returns-in-And
without_times-returns-in-And t c = c.each_without_times-in-And.ensures ∙ sym (times-And c.args.selection.now c.in-And.parts c.in-And.is)

pub without_times-returns-then-without_times : goal.without_times-returns-then-without_times
without_times-returns-then-without_times t c =
    c.without_times-then-without_times.ensures ∙ ap (λ s. without_times (form s)) c.deref-then-without_times.ensures
    ∙ ap (λ (b : Bool). b && without_times (form c.in-MildNot.right.value))
    (sym (ap (λ s. without_times (form s)) (sym c.deref.ensures) ∙ sym c.without_times.ensures ∙ c.if-without_times.true))
    ∙ sym (times-MildNot c.args.selection.now c.in-MildNot.left c.in-MildNot.right c.in-MildNot.is)

pub without_times-returns-else-without_times : goal.without_times-returns-else-without_times
without_times-returns-else-without_times t c =
    c.if-without_times.false
    ∙ ap (λ (b : Bool). b && without_times (form c.in-MildNot.right.value))
    (sym (ap (λ s. without_times (form s)) (sym c.deref.ensures) ∙ sym c.without_times.ensures ∙ c.if-without_times.false))
    ∙ sym (times-MildNot c.args.selection.now c.in-MildNot.left c.in-MildNot.right c.in-MildNot.is)

pub without_times-returns-in-Not : goal.without_times-returns-in-Not
without_times-returns-in-Not t c =
    c.without_times-in-Not.ensures ∙ ap (λ s. without_times (form s)) c.deref-in-Not.ensures ∙ sym (times-Not c.args.selection.now c.in-Not.operand c.in-Not.is)

pub without_times-returns-in-Filtered : goal.without_times-returns-in-Filtered
without_times-returns-in-Filtered t c =
    c.without_times-in-Filtered.ensures ∙ ap (λ s. without_times (form s)) c.deref-in-Filtered.ensures
    ∙ sym (times-Filtered c.args.selection.now c.in-Filtered.operand c.in-Filtered._filter c.in-Filtered.is)

pub without_times-returns-in-With : goal.without_times-returns-in-With
without_times-returns-in-With t c =
    c.without_times-in-With.ensures ∙ ap (λ s. without_times (form s)) c.deref-in-With.ensures
    ∙ sym (times-With c.args.selection.now c.in-With.operand c.in-With._options c.in-With.is)
