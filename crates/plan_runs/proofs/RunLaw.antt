-- What a run says of a span is what the selection says of its tokens, within the selection's price.
use Rattle.std.proofs.Common.{◌≡◌, ◌∙◌, true, false, ℕ, ◌+◌, ◌*◌, ◌≤◌, List, arith}
use Rattle.all_matches.specs.Meaning.{sat}
use Rattle.index_meaning.specs.Documents.{Numbered}
use Rattle.index_versions.specs.Versions.{terms_of}
use Rattle.plan_compiler.specs.CheapSelections.{is_cheap, is_cheap_or_counted}
use Rattle.plan_compiler.specs.CompiledSelection.{compiled_price}
use Rattle.plan_runs.specs.RunPrice.{price_at}
use Rattle.plan_runs.specs.steps.AskedPlaces.{text_at}
use Rattle.plan_runs.specs.steps.AskedSpans.{AskedSpan, IsAsked, tokens_in}
use Rattle.plan_compiler.specs.Lexicon.{lexicon}
use Rattle.plan_runs.specs.steps.OpenedWords.{IsOpened}
use Rattle.plan_compiler.specs.PlanMeaning.{plan_form, plan_lists}
use Rattle.plan_runs.specs.RunMeaning.{run_of}
use Rattle.plan_runs.specs.steps.CheapShapes.{is_cheap_shape}
use Rattle.plan_runs.specs.steps.RunCosts.{moves_for, run_cost, term_count}
use Rattle.plan_runs.specs.steps.RunShapes.{Shape}
use Rattle.plan_runs.specs.steps.RunTruth.{run_truth}
use Rattle.plan_runs.specs.declared.asked_place.AskedPlace.{AskedPlace}
use Rattle.plan_compiler.specs.declared.plan.Plan.{Plan}
use Rattle.plan_runs.proofs.BothCosts.{cost_both}
use Rattle.plan_runs.proofs.MergeCosts.{moves_fair}
use Rattle.plan_runs.proofs.TermCosts.{item_law}
use Rattle.plan_runs.proofs.TimesCosts.{cheap_allowed, cost_once, cost_twice}

pub run_law : (version : List Numbered) (asked : AskedSpan) (plan : Plan) (run : Shape) → IsAsked version asked → IsOpened plan.looks plan.lists.stems version run plan.root
    → run_truth version run asked ≡ sat (lexicon (plan_lists plan)) (plan_form plan) (tokens_in version asked)
run_law version asked plan run s opened = opened.says asked s ∙ plan.sound.says (tokens_in version asked)

-- of a run that is moved, and whose terms are read to skip after it
module _ (plan : Plan) (run : Shape) (place : AskedPlace) (opened : IsOpened plan.looks plan.lists.stems place.version.now run plan.root) where
  abbrev price_there : ℕ
  price_there = price_at (run_of (plan_form plan) (plan_lists plan) place.version.now) place.doc.0 place.span

  both_paid : run_cost (moves_for place) 1 run + run_cost term_count 1 run ≤ price_there
  both_paid =
      let terms = terms_of place.version.now in
      let parts = cost_both (moves_for place) term_count run in
      let least = opened.cost (λ word. moves_for place word + term_count word) (compiled_price plan.looks plan.lists.stems terms (text_at place)) (moves_fair place) (item_law place plan.looks plan.lists.stems) in
      let most = plan.sound.price terms (text_at place) in
      omega (arith, parts, least, most)

  module _ (start end : ℕ) (moves : is_cheap_shape true run ≡ true → end ≤ start + run_cost (moves_for place) 2 run + run_cost term_count 1 run) where
    -- the moves of a cheap one are within the price of the selection
    pub price_law : is_cheap (lexicon (plan_lists plan)) (plan_form plan) ≡ true → end ≤ start + price_there
    price_law cheap =
        let own = opened.cheap false (plan.sound.cheap false cheap) in
        let once = cost_once (moves_for place) run own in
        omega (arith, moves (cheap_allowed run own), once, both_paid)

    -- and within twice the price where words are counted
    pub counted_law : is_cheap_or_counted (lexicon (plan_lists plan)) (plan_form plan) ≡ true → end ≤ start + 2 * price_there
    counted_law cheap =
        let twice = cost_twice (moves_for place) run in
        omega (arith, moves (opened.cheap true (plan.sound.cheap true cheap)), twice, both_paid)
