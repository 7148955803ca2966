-- Nothing is known, so that each document brings its lines, and all are asked.
use Rattle.std.proofs.Common.{◌≡◌, ◌∙◌, ◌≤◌, ◌+◌, ℕ, sym, ap, subst, List, [], map}
use Rattle.std.specs.Prelude.{nat_eq, IfOk}
use Rattle.std.specs.List.{IsDistinct}
use Rattle.standing_queries.specs.Answers.{answers_of, stamps_of, Answers}
use Rattle.session_state.specs.PlannedPaths.{run_over}
use Rattle.session_state.specs.Standings.{unknown_price}
use Rattle.session_state.specs.steps.Chosen.{price_through}
use Rattle.session_state.specs.steps.Turns.{planned_through, turns_now}
use Rattle.session_state.proofs.ChosenLemmas.{prices-led}
use Rattle.session_state.proofs.KnownLemmas.{all-unknown, nothing-known, turn-answers, turn-stamps}
use Rattle.session_state.proofs.watching.first_answers.Goals as goal

pub new-requires : goal.new-requires
new-requires g c =
    let lines = planned_through g.J.Judge.says g.A.Abbreviated.abbreviations c.args.path.now in
    let stamped = c.args.stamped.now in
    let turns : c.in_ok-turns.turns.items ≡ turns_now [] lines stamped.stamps stamped.indexed.documents =
    c.in_ok-turns.ensures.turns ∙ (λ i. turns_now (c.empty-none.ensures i) lines (c.stamps.ensures.stamps i) (c.collection.ensures i).documents) in
    record {
      stamps = subst (λ (ss : List ℕ). IsDistinct nat_eq ss)
          (sym (ap stamps_of (c.as_slice.ensures.value ∙ turns) ∙ turn-stamps lines [] stamped.stamps stamped.indexed.documents c.stamps.ensures.kept.as_many)) c.stamps.ensures.kept.distinct;
    }

pub returns-clause-standing : goal.returns-clause-standing
returns-clause-standing g c =
    let lines = planned_through g.J.Judge.says g.A.Abbreviated.abbreviations c.args.path.now in
    let stamped = c.args.stamped.now in
    let turns : c.in_ok-turns.turns.items ≡ turns_now [] lines stamped.stamps stamped.indexed.documents =
    c.in_ok-turns.ensures.turns ∙ (λ i. turns_now (c.empty-none.ensures i) lines (c.stamps.ensures.stamps i) (c.collection.ensures i).documents) in
    subst (λ (a : Answers). IfOk c.new.result (λ standing. standing ≡ a))
    (ap (answers_of []) (c.as_slice.ensures.value ∙ turns) ∙ turn-answers lines [] stamped.stamps stamped.indexed.documents (nothing-known lines stamped.stamps stamped.indexed.documents)) c.new.ensures

pub returns-in_err-turns-clause-price : goal.returns-in_err-turns-clause-price
returns-in_err-turns-clause-price g c cheap =
    let path = c.args.path.now in
    let stamped = c.args.stamped.now in
    let says = g.J.Judge.says in
    let abbreviations = g.A.Abbreviated.abbreviations in
    let runs = map (run_over stamped.indexed.version) path.plans.now in
    let price = price_through says abbreviations path runs in
    subst (λ (n : ℕ). c.turns_of.new.moves ≤ c.args.moves.now + n)
    ((λ i. unknown_price (c.empty-none.ensures i) (price_through says abbreviations path (map (run_over (c.collection.ensures i).version) path.plans.now)) (c.stamps.ensures.stamps i) (c.collection.ensures i).documents)
    ∙ (all-unknown price stamped.stamps stamped.indexed.documents c.stamps.ensures.kept.as_many ∙ prices-led says abbreviations path runs stamped.indexed.documents)) (c.turns_of.ensures.price cheap)

pub returns-clause-price : goal.returns-clause-price
returns-clause-price g c cheap =
    let path = c.args.path.now in
    let stamped = c.args.stamped.now in
    let says = g.J.Judge.says in
    let abbreviations = g.A.Abbreviated.abbreviations in
    let runs = map (run_over stamped.indexed.version) path.plans.now in
    let price = price_through says abbreviations path runs in
    subst (λ (n : ℕ). c.turns_of.new.moves ≤ c.args.moves.now + n)
    ((λ i. unknown_price (c.empty-none.ensures i) (price_through says abbreviations path (map (run_over (c.collection.ensures i).version) path.plans.now)) (c.stamps.ensures.stamps i) (c.collection.ensures i).documents)
    ∙ (all-unknown price stamped.stamps stamped.indexed.documents c.stamps.ensures.kept.as_many ∙ prices-led says abbreviations path runs stamped.indexed.documents)) (c.turns_of.ensures.price cheap)
