-- A plan more is that of the next selection, and the first list that a selection misses is the first of all.
use Rattle.std.proofs.Common.{◌≡◌, ◌∙◌, ap, ◌<◌, ◌+◌, length, drop, arith}
use Rattle.std.specs.Option.{option_or}
use Rattle.std.proofs.lemmas.List.{length-map}
use Rattle.ft_syntax.specs.View.{form}
use Rattle.kept_plans.specs.PlanOf.{plan_of}
use Rattle.path_subset.specs.Paths.{PlacedForm, read_form}
use Rattle.plan_compiler.specs.Missing.{first_missing}
use Rattle.session_state.specs.KeptTexts.{text_at}
use Rattle.session_state.specs.Paths.{missing_list, selections_of}
use Rattle.session_state.proofs.PathLemmas.{missing-first, missing-more, planned-more}
use Rattle.session_state.proofs.planned.plan_selections.Goals as goal

pub loop-number-preserved : goal.loop-number-preserved
loop-number-preserved c =
    let lists = c.args.prepared.now.lists in
    let text = c.args.text.now in
    let all = (read_form c.args.path.now).selections in
    let forms = selections_of (read_form c.args.path.now) in
    let number = c.loop-number.number in
    let selection = form c.selection.result.now in
    let extent = c.selection_extent-extent.result in
    let within : number < length all = omega (arith, c.loop-number-test.true, c.selection_count-number-end.ensures) in
    let as_many : number < length forms = omega (arith, within, length-map all (λ (s : PlacedForm). s.form)) in
    let so_far = c.loop-number.invariant in
    let one : c.in-Ok.plan ≡ plan_of (text_at text extent) selection lists = c.in-Ok.ensures.plan ∙ ap (λ t. plan_of t selection lists) c.text_at.ensures in
    record {
      plans = c.in_ok-more-in-Ok.ensures
          ∙ planned-more lists text all number selection extent within c.selection.ensures c.selection_extent-extent.ensures
          c.loop-number.plans.items c.in-Ok.plan so_far.plans one;
      missing = so_far.missing
          ∙ (missing-more forms number selection as_many c.selection.ensures lists (c.missing_law.ensures lists)
          ∙ ap (λ o. option_or o (missing_list lists (drop (number + 1) forms))) c.in-Ok.ensures.there);
    }

pub returns-in-Err-clause-missing : goal.returns-in-Err-clause-missing
returns-in-Err-clause-missing c =
    let lists = c.args.prepared.now.lists in
    let all = (read_form c.args.path.now).selections in
    let forms = selections_of (read_form c.args.path.now) in
    let number = c.loop-number.number in
    let selection = form c.selection.result.now in
    let within : number < length forms =
    omega (arith, c.loop-number-test.true, c.selection_count-number-end.ensures, length-map all (λ (s : PlacedForm). s.form)) in
    let so_far = c.loop-number.invariant in
    missing-first c.in-Err.fault (first_missing lists selection) (missing_list lists (drop (number + 1) forms)) (missing_list lists forms)
    (so_far.missing ∙ missing-more forms number selection within c.selection.ensures lists (c.missing_law.ensures lists)) c.in-Err.ensures.missing
