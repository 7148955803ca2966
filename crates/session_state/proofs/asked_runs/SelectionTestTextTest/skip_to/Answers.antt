-- The judge says no of the words at the span of each node that is skipped, and beyond the runs nothing may be asked.
use Rattle.std.proofs.Common.{◌≡◌, ◌∙◌, sym, ap, ◌<◌, length, get_or, arith}
use Rattle.session_state.proofs.SelectionTestLemmas.{over-at, skipped}
use Rattle.session_state.proofs.asked_runs.SelectionTestTextTest.skip_to.Goals as goal

pub skip_to-requires : goal.skip_to-requires
skip_to-requires g c =
    let runs = g.B.Loan.runs in
    let k = c.args.selection in
    let run = c.index-runs-selection.result in
    let is : get_or runs k run ≡ run = ap (λ rs. get_or rs k run) (sym c.args.self.now.same) ∙ sym c.index-runs-selection.is in
    let less : k < length runs = omega (arith, c.if-selection-runs.false, ap length c.args.self.now.same) in
    let follows = over-at g.B.Loan.abbreviations runs k run (c.args.self.now.doc.0, c.args.self.now.tree.now.root) less is c.args.self.now.over in
    record { there = follows.there }

pub returns : goal.returns
returns g c =
    let runs = g.B.Loan.runs in
    let k = c.args.selection in
    let run = c.index-runs-selection.result in
    let is : get_or runs k run ≡ run = ap (λ rs. get_or rs k run) (sym c.args.self.now.same) ∙ sym c.index-runs-selection.is in
    let abbreviations = g.B.Loan.abbreviations in
    let root = c.args.self.now.tree.now.root in
    let doc = c.args.self.now.doc.0 in
    let less : k < length runs = omega (arith, c.if-selection-runs.false, ap length c.args.self.now.same) in
    let follows = over-at abbreviations runs k run (doc, root) less is c.args.self.now.over in
    skipped g.J.Judge.says abbreviations runs root k run doc c.args.from c.skip_to.result is
    (λ r there. (c.span_law.ensures.there abbreviations run.version doc root r follows there, c.span_law.ensures.tokens abbreviations run.version doc root r follows there))
    (c.left_law.ensures.nothing abbreviations) c.skip_to.ensures.none
