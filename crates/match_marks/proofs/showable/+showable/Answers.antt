-- Which selections of each kind can be shown.
use Rattle.std.proofs.Common.{sym, ap, ◌∙◌, ◌&&◌, ◌||◌, map, Bool, false, arith, drop, ◌+◌}
use Rattle.ft_syntax.specs.View.{form, forms_of}
use Rattle.ft_syntax.specs.declared.selection.Selection.{Selection}
use Rattle.all_matches.specs.Allowed.{has_no_range}
use Rattle.best_hits.specs.Showable.{can_show_in, each_can_show_in}
use Rattle.match_marks.proofs.ShowableLemmas.{no_range, show-Words, show-Or, show-And, show-MildNot, show-Not, show-Filtered, show-With, show_more, show_end}
use Rattle.match_marks.proofs.showable.+showable.Goals as goal

pub can_show_in-returns-then-times : goal.can_show_in-returns-then-times
can_show_in-returns-then-times t c =
    let times = c.args.times in
    c.if-times.true ∙ (λ i. sym c.if-times.true i || has_no_range c.in-Words.words.times) ∙ show-Words times c.args.nots c.args.selection.now c.in-Words.words c.in-Words.is

pub can_show_in-returns-else-times : goal.can_show_in-returns-else-times
can_show_in-returns-else-times t c =
    no_range c.in-Words.words.times c.is_none.result c.is_none.ensures
    ∙ (λ i. sym c.if-times.false i || has_no_range c.in-Words.words.times)
    ∙ show-Words c.args.times c.args.nots c.args.selection.now c.in-Words.words c.in-Words.is

pub can_show_in-returns-in-Or : goal.can_show_in-returns-in-Or
can_show_in-returns-in-Or t c = c.each_can_show_in.ensures ∙ show-Or c.args.times c.args.nots c.args.selection.now c.in-Or.parts c.in-Or.is

pub can_show_in-returns-in-And : goal.can_show_in-returns-in-And
can_show_in-returns-in-And t c = c.each_can_show_in-in-And.ensures ∙ show-And c.args.times c.args.nots c.args.selection.now c.in-And.parts c.in-And.is

pub can_show_in-returns-then-can_show_in : goal.can_show_in-returns-then-can_show_in
can_show_in-returns-then-can_show_in t c =
    let can : Selection → Bool = λ s. can_show_in c.args.times c.args.nots (form s) in
    c.can_show_in-then-can_show_in.ensures ∙ ap can c.deref-then-can_show_in.ensures
    ∙ ap (λ (b : Bool). b && can c.in-MildNot.right.value) (sym (ap can (sym c.deref.ensures) ∙ sym c.can_show_in.ensures ∙ c.if-can_show_in.true))
    ∙ show-MildNot c.args.times c.args.nots c.args.selection.now c.in-MildNot.left c.in-MildNot.right c.in-MildNot.is

pub can_show_in-returns-else-can_show_in : goal.can_show_in-returns-else-can_show_in
can_show_in-returns-else-can_show_in t c =
    let can : Selection → Bool = λ s. can_show_in c.args.times c.args.nots (form s) in
    c.if-can_show_in.false
    ∙ ap (λ (b : Bool). b && can c.in-MildNot.right.value) (sym (ap can (sym c.deref.ensures) ∙ sym c.can_show_in.ensures ∙ c.if-can_show_in.false))
    ∙ show-MildNot c.args.times c.args.nots c.args.selection.now c.in-MildNot.left c.in-MildNot.right c.in-MildNot.is

pub can_show_in-returns-then-nots : goal.can_show_in-returns-then-nots
can_show_in-returns-then-nots t c =
    let can : Selection → Bool = λ s. can_show_in false false (form s) in
    c.can_show_in-then-nots.ensures ∙ ap can c.deref-then-nots.ensures
    ∙ ap (λ (b : Bool). b && can c.in-Not.operand.value) (sym c.if-nots.true)
    ∙ show-Not c.args.times c.args.nots c.args.selection.now c.in-Not.operand c.in-Not.is

pub can_show_in-returns-else-nots : goal.can_show_in-returns-else-nots
can_show_in-returns-else-nots t c =
    let can : Selection → Bool = λ s. can_show_in false false (form s) in
    c.if-nots.false
    ∙ ap (λ (b : Bool). b && can c.in-Not.operand.value) (sym c.if-nots.false)
    ∙ show-Not c.args.times c.args.nots c.args.selection.now c.in-Not.operand c.in-Not.is

pub can_show_in-returns-in-Filtered : goal.can_show_in-returns-in-Filtered
can_show_in-returns-in-Filtered t c =
    c.can_show_in-in-Filtered.ensures ∙ ap (λ s. can_show_in false c.args.nots (form s)) c.deref-in-Filtered.ensures
    ∙ show-Filtered c.args.times c.args.nots c.args.selection.now c.in-Filtered.operand c.in-Filtered._filter c.in-Filtered.is

pub can_show_in-returns-in-With : goal.can_show_in-returns-in-With
can_show_in-returns-in-With t c =
    c.can_show_in-in-With.ensures ∙ ap (λ s. can_show_in c.args.times c.args.nots (form s)) c.deref-in-With.ensures
    ∙ show-With c.args.times c.args.nots c.args.selection.now c.in-With.operand c.in-With._options c.in-With.is

pub each_can_show_in-returns-then-not-can_show_in : goal.each_can_show_in-returns-then-not-can_show_in
each_can_show_in-returns-then-not-can_show_in t c =
    ap (λ (b : Bool). b && each_can_show_in c.args.times c.args.nots (forms_of (map form (drop (c.loop-part.part-index + 1) c.as_slice-part-items.result.now)))) (sym c.if-not-can_show_in.true ∙ c.can_show_in.ensures)
    ∙ show_more c.args.times c.args.nots c.as_slice-part-items.result.now c.loop-part.part-index c.part-item.result c.loop-part-test.true c.part-item.is
    ∙ c.loop-part.invariant

pub each_can_show_in-loop-part-preserved : goal.each_can_show_in-loop-part-preserved
each_can_show_in-loop-part-preserved t c =
    ap (λ (b : Bool). b && each_can_show_in c.args.times c.args.nots (forms_of (map form (drop (c.loop-part.part-index + 1) c.as_slice-part-items.result.now)))) (sym c.if-not-can_show_in.false ∙ c.can_show_in.ensures)
    ∙ show_more c.args.times c.args.nots c.as_slice-part-items.result.now c.loop-part.part-index c.part-item.result c.loop-part-test.true c.part-item.is
    ∙ c.loop-part.invariant

pub each_can_show_in-returns : goal.each_can_show_in-returns
each_can_show_in-returns t c = show_end c.args.times c.args.nots c.as_slice-part-items.result.now c.loop-part.part-index (omega arith) ∙ c.loop-part.invariant
