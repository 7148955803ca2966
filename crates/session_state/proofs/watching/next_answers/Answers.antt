-- Documents that aren't asked have the lines that are kept.
use Rattle.std.proofs.Common.{◌≡◌, ◌∙◌, ℕ, sym, ap, subst, List}
use Rattle.std.specs.Prelude.{nat_eq, IfOk}
use Rattle.std.specs.List.{IsDistinct}
use Rattle.standing_queries.specs.Answers.{all_lines, answers_of, stamps_of, Answers}
use Rattle.standing_queries.specs.Changes.{changes}
use Rattle.session_state.specs.steps.Turns.{planned_through, turns_now}
use Rattle.session_state.proofs.KnownLemmas.{turn-answers, turn-stamps}
use Rattle.session_state.proofs.watching.next_answers.Goals as goal

pub turn-requires : goal.turn-requires
turn-requires g c =
    let lines = planned_through g.J.Judge.says g.A.Abbreviated.abbreviations c.args.path.now in
    let stamped = c.args.stamped.now in
    let kept = c.args.kept.now in
    let turns : c.in_ok-turns.turns.items ≡ turns_now kept lines stamped.stamps stamped.indexed.documents =
    c.in_ok-turns.ensures.turns ∙ (λ i. turns_now kept lines (c.stamps.ensures.stamps i) (c.collection.ensures i).documents) in
    record {
      stamps = subst (λ (ss : List ℕ). IsDistinct nat_eq ss)
          (sym (ap stamps_of (c.as_slice.ensures.value ∙ turns) ∙ turn-stamps lines kept stamped.stamps stamped.indexed.documents c.stamps.ensures.kept.as_many)) c.stamps.ensures.kept.distinct;
    }

pub returns-clause-standing : goal.returns-clause-standing
returns-clause-standing g c =
    let lines = planned_through g.J.Judge.says g.A.Abbreviated.abbreviations c.args.path.now in
    let stamped = c.args.stamped.now in
    let kept = c.args.kept.now in
    let turns : c.in_ok-turns.turns.items ≡ turns_now kept lines stamped.stamps stamped.indexed.documents =
    c.in_ok-turns.ensures.turns ∙ (λ i. turns_now kept lines (c.stamps.ensures.stamps i) (c.collection.ensures i).documents) in
    subst (λ (a : Answers). IfOk c.turn.result (λ next. next.0 ≡ a))
    (ap (answers_of kept) (c.as_slice.ensures.value ∙ turns) ∙ turn-answers lines kept stamped.stamps stamped.indexed.documents c.requires.known) c.turn.ensures.standing

pub returns-clause-changes : goal.returns-clause-changes
returns-clause-changes g c =
    let lines = planned_through g.J.Judge.says g.A.Abbreviated.abbreviations c.args.path.now in
    let stamped = c.args.stamped.now in
    let kept = c.args.kept.now in
    let turns : c.in_ok-turns.turns.items ≡ turns_now kept lines stamped.stamps stamped.indexed.documents =
    c.in_ok-turns.ensures.turns ∙ (λ i. turns_now kept lines (c.stamps.ensures.stamps i) (c.collection.ensures i).documents) in
    subst (λ (a : Answers). IfOk c.turn.result (λ next. next.1 ≡ changes (all_lines kept) (all_lines a)))
    (ap (answers_of kept) (c.as_slice.ensures.value ∙ turns) ∙ turn-answers lines kept stamped.stamps stamped.indexed.documents c.requires.known) c.turn.ensures.changes
