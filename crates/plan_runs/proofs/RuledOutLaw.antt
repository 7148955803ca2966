-- What is known of a document rules out its spans.
use Rattle.std.proofs.Common.{◌≡◌, ◌≤◌, ◌-◌, ◌∙◌, ℕ, Bool, true, false, Option, Some, None, List, [], map, refl, sym, ap, subst, arith}
use Rattle.std.specs.List.{Contains}
use Rattle.std.proofs.lemmas.Bool.{lt-ltb}
use Rattle.std.proofs.lemmas.List.{get_or-map, length-map}
use Rattle.std.proofs.lemmas.List.Elements.{All-contains_itself}
use Rattle.ft_base.specs.declared.token.Token.{Token}
use Rattle.index_meaning.specs.Documents.{Numbered}
use Rattle.plan_compiler.specs.PlanMeaning.{plan_form, plan_lists}
use Rattle.plan_compiler.specs.declared.plan.Plan.{Plan}
use Rattle.plan_runs.specs.Judgement.{HaveWordsOf}
use Rattle.plan_runs.specs.RunMeaning.{RunMeaning, run_of}
use Rattle.plan_runs.specs.steps.AskedSpans.{AskedSpan}
use Rattle.plan_runs.specs.steps.LeftTokens.{AreLeft}
use Rattle.plan_runs.specs.steps.OpenedWords.{IsOpened}
use Rattle.plan_runs.specs.steps.RuledOut.{HasNone, IsMissing, part_from, place_of}
use Rattle.plan_runs.specs.steps.RunShapes.{Shape}
use Rattle.plan_runs.specs.steps.RunSkips.{skip}
use Rattle.plan_runs.specs.steps.Skips.{ends_before}

ends_place : (place : Option ℕ) (to end : ℕ) → 1 ≤ end → end ≤ to → to ≤ place_of place → ends_before end place ≡ true
ends_place None to end first within least = refl
ends_place (Some place) to end first within least = lt-ltb (end - 1) place (omega (arith, first, within, least))

-- tokens have words of their own
pub own_words : (tokens : List Token) → HaveWordsOf tokens tokens
own_words tokens = λ k d lt.
    let words = map (λ (token : Token). token.word) tokens in
    let many = length-map tokens (λ (token : Token). token.word) in
    subst (Contains words) (get_or-map (λ (token : Token). token.word) tokens k d [] lt) (All-contains_itself words k [] (omega (arith, lt, many)))

pub none_known : (run : RunMeaning) (doc from to : ℕ) → to ≡ 0 → HasNone run doc from to
none_known run doc from to is = λ there span bounds after within tokens words. absurd (omega (arith, bounds.0, bounds.1, within, is))

module _ (plan : Plan) (run : Shape) (version : List Numbered) (opened : IsOpened plan.looks plan.lists.stems version run plan.root) (doc from to : ℕ) (small : to ≤ 4294967295) where
  pub none_skipped : to ≤ place_of (skip doc (part_from from) run) → HasNone (run_of (plan_form plan) (plan_lists plan) version) doc from to
  none_skipped least = λ there span bounds after within tokens words.
      let place : AskedSpan = record { doc = doc; span = span } in
      let left : AreLeft version (part_from from) place tokens =
      record { there = record { there = there; inside = record { first = bounds.0; order = bounds.1; last = bounds.2 } }; within = (after, omega (arith, within, small)); words = words } in
      let skipped : ends_before span.to (skip doc (part_from from) run) ≡ true = ends_place (skip doc (part_from from) run) to span.to (omega (arith, bounds.0, bounds.1)) within least in
      sym (plan.sound.says tokens) ∙ opened.none (part_from from) place tokens left skipped

  pub none_missing : IsMissing (λ part. skip doc part run) → HasNone (run_of (plan_form plan) (plan_lists plan) version) doc from to
  none_missing missing = none_skipped (let place = ap place_of (missing (part_from from)) in omega (arith, place, small))

  -- after a look-up that says whether the words may be there
  pub none_looked_up : (may : Bool) → (may ≡ true → to ≡ 0) → (may ≡ false → IsMissing (λ part. skip doc part run)) → HasNone (run_of (plan_form plan) (plan_lists plan) version) doc from to
  none_looked_up true nothing missing = none_known (run_of (plan_form plan) (plan_lists plan) version) doc from to (nothing refl)
  none_looked_up false nothing missing = none_missing (missing refl)
