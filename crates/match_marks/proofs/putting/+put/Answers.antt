-- Each kind is put by its parts, which stay what they are.
use Rattle.std.proofs.Common.{◌≡◌, ◌<◌, ◌+◌, ◌++◌, ◌∙◌, refl, ap, sym, subst, map, length, rules, arith, Global}
use Rattle.std.specs.declared.vec.Vec.{Vec}
use Rattle.std.specs.List.{list_all}
use Rattle.std.proofs.lemmas.List.{append-nil}
use Rattle.std.proofs.lemmas.Result.{on_ok_weaker}
use Rattle.ft_base.specs.declared.span.Span.{Span}
use Rattle.index_phrases.proofs.PartLemmas.{as_many, part_at, parts_kept}
use Rattle.plan_runs.specs.steps.OpenedOperators.{aims_of}
use Rattle.match_marks.specs.steps.ShownRuns.{Choosing, MayShow, Showing, choice_of, choosing, each_of, first_of, in_window, least_of, showing, walk_may}
use Rattle.match_marks.specs.steps.WindowRuns.{all_aims, phrase_may}
use Rattle.match_marks.specs.declared.shown.FirstRun.{FirstRun}
use Rattle.match_marks.specs.declared.shown.LeastRun.{LeastRun}
use Rattle.match_marks.specs.declared.shown.Shown.{Shown, the_lemmas}
use Rattle.match_marks.specs.declared.shown.Shown as S
use Rattle.match_marks.specs.declared.shown.ShownRun.{ShownRun}
use Rattle.match_marks.specs.declared.shown.WindowRun.{WindowRun}
use Rattle.match_marks.proofs.PuttingLemmas.{choice_ended, choice_left, choice_may, choice_may_at, choice_passed, choice_taken, each_end, each_may_at, each_more, first_may, is-And, is-First, is-Least, is-Or, is-Window, least_may, parts_may, same-And, same-First, same-Least, same-Or, same-Window, weight_at, window_may}
use Rattle.match_marks.proofs.ShownRunViews.{showing-Nothing}
use Rattle.match_marks.proofs.putting.+put.Goals as goal

-- ---- a choice

pub put_choice-put_if_it_holds-requires : goal.put_choice-put_if_it_holds-requires
put_choice-put_if_it_holds-requires g t c κs within =
    let views = map choosing c.args.parts.now.items in
    let old = as_many choosing c.args.parts.now.items views refl in
    let now = as_many choosing c.loop-number.parts.items views c.loop-number.invariant.same in
    let test = c.loop-number-test.true in
    let end = c.len-number-end.ensures in
    let at = part_at choosing c.loop-number.parts.items views c.loop-number.number c.index_mut.result.now c.loop-number.invariant.same c.index_mut.ensures.value in
    let light = weight_at (λ (part : Choosing). part.weight) views c.loop-number.number (choosing c.index_mut.result.now) (omega arith) at in (
      omega (arith, light, c.decreases),
      (within, choice_may_at c.args.doc.0 c.args.span views c.loop-number.number (choosing c.index_mut.result.now) (omega arith) at c.requires),
    )

pub put_choice-returns-in_err-put_if_it_holds-clause-same : goal.put_choice-returns-in_err-put_if_it_holds-clause-same
put_choice-returns-in_err-put_if_it_holds-clause-same g t c =
    parts_kept choosing c.loop-number.parts.items (map choosing c.args.parts.now.items) c.loop-number.number c.index_mut.result.now c.put_if_it_holds.new.run
    c.loop-number.invariant.same c.index_mut.ensures.value c.put_if_it_holds.ensures.same

pub put_choice-returns-then-branch-clause-same : goal.put_choice-returns-then-branch-clause-same
put_choice-returns-then-branch-clause-same g t c =
    parts_kept choosing c.loop-number.parts.items (map choosing c.args.parts.now.items) c.loop-number.number c.index_mut.result.now c.put_if_it_holds.new.run
    c.loop-number.invariant.same c.index_mut.ensures.value c.put_if_it_holds.ensures.same

pub put_choice-returns-then-branch-clause-spans : goal.put_choice-returns-then-branch-clause-spans
put_choice-returns-then-branch-clause-spans g t c =
    let views = map choosing c.args.parts.now.items in
    let old = as_many choosing c.args.parts.now.items views refl in
    let test = c.loop-number-test.true in
    let end = c.len-number-end.ensures in
    let at = part_at choosing c.loop-number.parts.items views c.loop-number.number c.index_mut.result.now c.loop-number.invariant.same c.index_mut.ensures.value in
    choice_taken c.args.doc.0 c.args.span c.args.spans.now.items c.loop-number.spans.items c.put_if_it_holds.new.spans.items views c.loop-number.number (choosing c.index_mut.result.now)
    c.in_ok-put_if_it_holds.field-0 (omega arith) at c.loop-number.invariant.spans c.in_ok-put_if_it_holds.ensures.spans c.in_ok-put_if_it_holds.ensures.holds c.loop-number.invariant.rest c.if-branch.true

pub put_choice-loop-number-preserved : goal.put_choice-loop-number-preserved
put_choice-loop-number-preserved g t c =
    let views = map choosing c.args.parts.now.items in
    let old = as_many choosing c.args.parts.now.items views refl in
    let test = c.loop-number-test.true in
    let end = c.len-number-end.ensures in
    let at = part_at choosing c.loop-number.parts.items views c.loop-number.number c.index_mut.result.now c.loop-number.invariant.same c.index_mut.ensures.value in
    let first = c.loop-number.invariant.grown in
    let then = c.put_if_it_holds.ensures.grown in
    record {
      same = parts_kept choosing c.loop-number.parts.items views c.loop-number.number c.index_mut.result.now c.put_if_it_holds.new.run
          c.loop-number.invariant.same c.index_mut.ensures.value c.put_if_it_holds.ensures.same;
      spans = choice_passed c.args.doc.0 c.args.span c.args.spans.now.items c.loop-number.spans.items c.put_if_it_holds.new.spans.items views c.loop-number.number (choosing c.index_mut.result.now)
          c.in_ok-put_if_it_holds.field-0 (omega arith) at c.loop-number.invariant.spans c.in_ok-put_if_it_holds.ensures.spans c.in_ok-put_if_it_holds.ensures.holds c.loop-number.invariant.rest c.if-branch.false;
      rest = choice_left c.args.doc.0 c.args.span c.args.spans.now.items c.loop-number.spans.items c.put_if_it_holds.new.spans.items views c.loop-number.number (choosing c.index_mut.result.now)
          c.in_ok-put_if_it_holds.field-0 (omega arith) at c.loop-number.invariant.spans c.in_ok-put_if_it_holds.ensures.spans c.in_ok-put_if_it_holds.ensures.holds c.loop-number.invariant.rest c.if-branch.false;
      grown = omega (arith, first, then);
    }

-- ---- each part

pub put_each-put_shown-requires : goal.put_each-put_shown-requires
put_each-put_shown-requires g t c κs within =
    let views = map showing c.args.parts.now.items in
    let old = as_many showing c.args.parts.now.items views refl in
    let now = as_many showing c.loop-number.parts.items views c.loop-number.invariant.same in
    let test = c.loop-number-test.true in
    let end = c.len-number-end.ensures in
    let at = part_at showing c.loop-number.parts.items views c.loop-number.number c.index_mut.result.now c.loop-number.invariant.same c.index_mut.ensures.value in
    let light = weight_at (λ (part : Showing). part.weight) views c.loop-number.number (showing c.index_mut.result.now) (omega arith) at in (
      omega (arith, light, c.decreases),
      (within, each_may_at c.args.doc.0 c.args.span views c.loop-number.number (showing c.index_mut.result.now) (omega arith) at c.requires),
    )

pub put_each-returns-in_err-put_shown-clause-same : goal.put_each-returns-in_err-put_shown-clause-same
put_each-returns-in_err-put_shown-clause-same g t c =
    parts_kept showing c.loop-number.parts.items (map showing c.args.parts.now.items) c.loop-number.number c.index_mut.result.now c.put_shown.new.shown
    c.loop-number.invariant.same c.index_mut.ensures.value c.put_shown.ensures.same

pub put_each-loop-number-preserved : goal.put_each-loop-number-preserved
put_each-loop-number-preserved g t c =
    let views = map showing c.args.parts.now.items in
    let old = as_many showing c.args.parts.now.items views refl in
    let test = c.loop-number-test.true in
    let end = c.len-number-end.ensures in
    let at = part_at showing c.loop-number.parts.items views c.loop-number.number c.index_mut.result.now c.loop-number.invariant.same c.index_mut.ensures.value in
    let first = c.loop-number.invariant.grown in
    let then = c.put_shown.ensures.grown in
    record {
      same = parts_kept showing c.loop-number.parts.items views c.loop-number.number c.index_mut.result.now c.put_shown.new.shown
          c.loop-number.invariant.same c.index_mut.ensures.value c.put_shown.ensures.same;
      spans = each_more (λ (part : Showing). part.spans c.args.doc.0 c.args.span) c.args.spans.now.items c.loop-number.spans.items c.put_shown.new.spans.items views c.loop-number.number (showing c.index_mut.result.now)
          (omega arith) at c.loop-number.invariant.spans c.in_ok-put_shown.ensures.spans;
      grown = omega (arith, first, then);
    }

pub put_each-returns-clause-spans : goal.put_each-returns-clause-spans
put_each-returns-clause-spans g t c =
    let views = map showing c.args.parts.now.items in
    let old = as_many showing c.args.parts.now.items views refl in
    let test = c.loop-number-test.false in
    let end = c.len-number-end.ensures in
    each_end (λ (part : Showing). part.spans c.args.doc.0 c.args.span) c.args.spans.now.items c.loop-number.spans.items views c.loop-number.number (omega arith) c.loop-number.invariant.spans

-- ---- each kind

pub put_shown-put_first-requires : goal.put_shown-put_first-requires
put_shown-put_first-requires g t c =
    ap (λ (run : FirstRun). walk_may (aims_of run.tuples) c.args.doc.0 c.args.span) c.in-First.run-is
    ∙ first_may c.args.shown.now c.args.doc.0 c.args.span c.requires c.in-First.run' c.in-First.is

pub put_shown-put_choice-requires : goal.put_shown-put_choice-requires
put_shown-put_choice-requires g t c κs within =
    let own = ap (λ (s : Showing). s.weight) (is-Or c.args.shown.now c.in-Or.parts c.in-Or.is) in
    let same = ap (λ (parts : Vec ShownRun Global). (choice_of (map choosing parts.items)).weight) c.in-Or.parts-is in (
      omega (arith, own, same, c.decreases),
      (
        within,
        subst (λ (parts : Vec ShownRun Global). MayShow c.args.doc.0 c.args.span (choice_of (map choosing parts.items))) (sym c.in-Or.parts-is)
            (choice_may c.args.shown.now c.args.doc.0 c.args.span c.requires c.in-Or.parts c.in-Or.is),
      ),
    )

pub put_shown-put_each-requires : goal.put_shown-put_each-requires
put_shown-put_each-requires g t c κs within =
    let own = ap (λ (s : Showing). s.weight) (is-And c.args.shown.now c.in-And.parts c.in-And.is) in
    let same = ap (λ (parts : Vec Shown Global). (each_of (map showing parts.items)).weight) c.in-And.parts-is in (
      omega (arith, own, same, c.decreases),
      (
        within,
        subst (λ (parts : Vec Shown Global). MayShow c.args.doc.0 c.args.span (each_of (map showing parts.items))) (sym c.in-And.parts-is)
            (parts_may c.args.shown.now c.args.doc.0 c.args.span c.requires c.in-And.parts c.in-And.is),
      ),
    )

pub put_shown-put_least-requires : goal.put_shown-put_least-requires
put_shown-put_least-requires g t c =
    ap (λ (run : LeastRun). walk_may (aims_of run.tuples) c.args.doc.0 c.args.span) c.in-Least.run-is
    ∙ least_may c.args.shown.now c.args.doc.0 c.args.span c.requires c.in-Least.run' c.in-Least.is

pub put_shown-returns-in-First-clause-spans : goal.put_shown-returns-in-First-clause-spans
put_shown-returns-in-First-clause-spans g t c =
    on_ok_weaker c.put_first.result (λ put.
    put
    ∙ ap (λ (run : FirstRun). c.args.spans.now.items ++ (first_of run.most (aims_of run.tuples)).spans c.args.doc.0 c.args.span) c.in-First.run-is
    ∙ ap (λ (s : Showing). c.args.spans.now.items ++ s.spans c.args.doc.0 c.args.span) (sym (is-First c.args.shown.now c.in-First.run' c.in-First.is))) c.put_first.ensures.spans

pub put_shown-returns-in-First-clause-same : goal.put_shown-returns-in-First-clause-same
put_shown-returns-in-First-clause-same g t c =
    let same = same-First (S.First c.in-First.run') c.in-First.run' c.put_first.new.run refl (c.put_first.ensures.most ∙ ap (λ (run : FirstRun). run.most) c.in-First.run-is)
    (c.put_first.ensures.same ∙ ap (λ (run : FirstRun). aims_of run.tuples) c.in-First.run-is) in rw c.in-First.is (search (rules, the_lemmas, same))

pub put_shown-returns-in-Or-clause-spans : goal.put_shown-returns-in-Or-clause-spans
put_shown-returns-in-Or-clause-spans g t c =
    on_ok_weaker c.put_choice.result (λ put.
    put
    ∙ ap (λ (parts : Vec ShownRun Global). c.args.spans.now.items ++ (choice_of (map choosing parts.items)).spans c.args.doc.0 c.args.span) c.in-Or.parts-is
    ∙ ap (λ (s : Showing). c.args.spans.now.items ++ s.spans c.args.doc.0 c.args.span) (sym (is-Or c.args.shown.now c.in-Or.parts c.in-Or.is))) c.put_choice.ensures.spans

pub put_shown-returns-in-Or-clause-same : goal.put_shown-returns-in-Or-clause-same
put_shown-returns-in-Or-clause-same g t c =
    let same = same-Or c.args.shown.now c.in-Or.parts c.put_choice.new.parts c.in-Or.is (c.put_choice.ensures.same ∙ ap (λ (parts : Vec ShownRun Global). map choosing parts.items) c.in-Or.parts-is) in search (rules, the_lemmas, same, c.in-Or.is)

pub put_shown-returns-in-And-clause-spans : goal.put_shown-returns-in-And-clause-spans
put_shown-returns-in-And-clause-spans g t c =
    on_ok_weaker c.put_each.result (λ put.
    put
    ∙ ap (λ (parts : Vec Shown Global). c.args.spans.now.items ++ (each_of (map showing parts.items)).spans c.args.doc.0 c.args.span) c.in-And.parts-is
    ∙ ap (λ (s : Showing). c.args.spans.now.items ++ s.spans c.args.doc.0 c.args.span) (sym (is-And c.args.shown.now c.in-And.parts c.in-And.is))) c.put_each.ensures.spans

pub put_shown-returns-in-And-clause-same : goal.put_shown-returns-in-And-clause-same
put_shown-returns-in-And-clause-same g t c =
    let same = same-And c.args.shown.now c.in-And.parts c.put_each.new.parts c.in-And.is (c.put_each.ensures.same ∙ ap (λ (parts : Vec Shown Global). map showing parts.items) c.in-And.parts-is) in search (rules, the_lemmas, same, c.in-And.is)

pub put_shown-returns-in-Nothing-clause-spans : goal.put_shown-returns-in-Nothing-clause-spans
put_shown-returns-in-Nothing-clause-spans g t c =
    sym (append-nil c.args.spans.now.items)
    ∙ ap (λ (s : Showing). c.args.spans.now.items ++ s.spans c.args.doc.0 c.args.span) (sym (ap showing c.in-Nothing.is ∙ showing-Nothing))

pub put_shown-returns-in-Least-clause-spans : goal.put_shown-returns-in-Least-clause-spans
put_shown-returns-in-Least-clause-spans g t c =
    on_ok_weaker c.put_least.result (λ put.
    put
    ∙ ap (λ (run : LeastRun). c.args.spans.now.items ++ (least_of (aims_of run.tuples)).spans c.args.doc.0 c.args.span) c.in-Least.run-is
    ∙ ap (λ (s : Showing). c.args.spans.now.items ++ s.spans c.args.doc.0 c.args.span) (sym (is-Least c.args.shown.now c.in-Least.run' c.in-Least.is))) c.put_least.ensures.spans

pub put_shown-returns-in-Least-clause-same : goal.put_shown-returns-in-Least-clause-same
put_shown-returns-in-Least-clause-same g t c =
    let same = same-Least (S.Least c.in-Least.run') c.in-Least.run' c.put_least.new.run refl (c.put_least.ensures.same ∙ ap (λ (run : LeastRun). aims_of run.tuples) c.in-Least.run-is) in rw c.in-Least.is (search (rules, the_lemmas, same))

pub put_shown-put_window-requires : goal.put_shown-put_window-requires
put_shown-put_window-requires g t c =
    ap (λ (run : WindowRun). list_all (phrase_may c.args.doc.0 c.args.span) (all_aims run.phrases.items)) c.in-Window.run-is
    ∙ window_may c.args.shown.now c.args.doc.0 c.args.span c.requires c.in-Window.run' c.in-Window.is

pub put_shown-returns-in-Window-clause-spans : goal.put_shown-returns-in-Window-clause-spans
put_shown-returns-in-Window-clause-spans g t c =
    on_ok_weaker c.put_window.result (λ put.
    put
    ∙ ap (λ (run : WindowRun). c.args.spans.now.items ++ (in_window run.size (all_aims run.phrases.items)).spans c.args.doc.0 c.args.span) c.in-Window.run-is
    ∙ ap (λ (s : Showing). c.args.spans.now.items ++ s.spans c.args.doc.0 c.args.span) (sym (is-Window c.args.shown.now c.in-Window.run' c.in-Window.is))) c.put_window.ensures.spans

pub put_shown-returns-in-Window-clause-same : goal.put_shown-returns-in-Window-clause-same
put_shown-returns-in-Window-clause-same g t c =
    let same = same-Window (S.Window c.in-Window.run') c.in-Window.run' c.put_window.new.run refl (c.put_window.ensures.size ∙ ap (λ (run : WindowRun). run.size) c.in-Window.run-is)
    (c.put_window.ensures.same ∙ ap (λ (run : WindowRun). all_aims run.phrases.items) c.in-Window.run-is) in rw c.in-Window.is (search (rules, the_lemmas, same))
