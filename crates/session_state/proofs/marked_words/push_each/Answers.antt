-- The lines of a number come next, and after the last ones none.
use Rattle.std.proofs.Common.{◌≡◌, ◌∙◌, ◌≤◌, ◌++◌, ◌∷◌, [], List, ℕ, refl, sym, ap, append-nil, arith, get_or, length, map}
use Rattle.ft_base.specs.declared.ids.NodeRef.{NodeRef}
use Rattle.plan_runs.specs.RunMeaning.{RunMeaning}
use Rattle.session_state.specs.steps.MarkedPlans.{words_line}
use Rattle.session_state.proofs.MarkedLemmas.{more-in-turn, none-in-turn}
use Rattle.session_state.proofs.marked_words.push_each.Goals as goal

pub push_line-requires-clause-there : goal.push_line-requires-clause-there
push_line-requires-clause-there g c = c.requires.there c.loop-number.number (record { 0 = 0 }) c.loop-number-test.true

pub loop-number-preserved : goal.loop-number-preserved
loop-number-preserved g c =
    let names = c.args.names.now in
    let found = c.args.found.now in
    let number = c.loop-number.number in
    let line : RunMeaning → NodeRef → List ℕ = λ marks. words_line g.A.Abbreviated.abbreviations marks.lists marks.form c.args.tree.now.root in
    let other : NodeRef = record { 0 = 0 } in
    let node = get_or found number other in
    let marks = c.loop-number.invariant.marks in
    record {
      lines = more-in-turn (line c.args.marks.now) names found number c.get.result.now node other c.loop-number.lines c.push.new.self c.push_line.new.lines _
          c.requires.names c.loop-number-test.true c.get.ensures refl c.loop-number.invariant.lines c.in_ok-push.ensures.ok
          (c.in_ok-push_line.ensures.lines ∙ ap (λ (m : RunMeaning). c.push.new.self ++ line m node ∷ []) marks);
      marks = c.in_ok-push_line.ensures.marks ∙ marks;
    }

pub returns-clause-lines : goal.returns-clause-lines
returns-clause-lines g c =
    let names = c.args.names.now in
    let second = map (words_line g.A.Abbreviated.abbreviations c.args.marks.now.lists c.args.marks.now.form c.args.tree.now.root) c.args.found.now in
    let past : length names ≤ c.loop-number.number = omega (arith, c.loop-number-test.false, c.requires.names) in
    sym (append-nil c.loop-number.lines)
    ∙ (ap (λ ls. c.loop-number.lines ++ ls) (sym (none-in-turn names second c.loop-number.number past)) ∙ c.loop-number.invariant.lines)
