-- Opened passes say of the spans of documents what the compiled selections say of their tokens.
use Rattle.std.proofs.Common.{◌≡◌, refl, sym, ap, subst, ◌∙◌, ℕ, ◌+◌, ◌==◌, true, true≢false, List, [], ◌∷◌, map, filter, length, Some, None, Box, Global, arith}
use Rattle.std.specs.List.{list_all}
use Rattle.std.proofs.lemmas.Bool.{and_from, and_parts}
use Rattle.std.proofs.lemmas.List.{length-map}
use Rattle.ft_base.specs.declared.filter.Filter.{Filter}
use Rattle.ft_base.specs.declared.hit.Hit.{Hit}
use Rattle.ft_base.specs.declared.span.Span.{Span}
use Rattle.ft_base.specs.declared.unit.TextUnit.{TextUnit}
use Rattle.all_matches.specs.Boolean.{satisfied}
use Rattle.all_matches.specs.Ways.{matches_of, through_filter}
use Rattle.ft_operators.specs.Phrases.{PhraseAims}
use Rattle.ft_operators.specs.Walk.{own_span}
use Rattle.index_meaning.specs.Documents.{Numbered, breaks_of, document_at, has_document}
use Rattle.index_phrases.specs.Cursors.{state_of}
use Rattle.index_phrases.specs.Phrases.{phrase_hits, wanted_at}
use Rattle.phrase_merges.specs.Choices.{begin_alike, ends_after}
use Rattle.phrase_merges.specs.Near.{is_told}
use Rattle.phrase_merges.specs.Rows.{all_aims, all_may, hits_there, is_rising, rise_there}
use Rattle.place_merges.specs.Spots.{some_at, spots_between}
use Rattle.place_merges.specs.declared.spot.Spot.{Spot}
use Rattle.window_merges.specs.Choices.{some_choice}
use Rattle.window_merges.specs.Words.{are_numbered}
use Rattle.word_lists.specs.Stems.{Stem}
use Rattle.plan_compiler.specs.Operators.{looked_text}
use Rattle.plan_kinds.specs.steps.MergeKinds.{merge_of}
use Rattle.plan_kinds.proofs.CheapLaw.{unmerged}
use Rattle.plan_compiler.proofs.NodeViews.{cheap-Ways, truth-Ways}
use Rattle.plan_compiler.specs.declared.item_matching.ItemTest.{ItemTest}
use Rattle.plan_compiler.specs.declared.looks.Looks.{Looks}
use Rattle.plan_compiler.specs.declared.node.Node as N
use Rattle.plan_compiler.specs.declared.operator_plan.OperatorPlan.{OperatorPlan}
use Rattle.plan_compiler.specs.declared.operator_plan.PhraseTests.{PhraseTests}
use Rattle.plan_compiler.specs.declared.operator_plan.WaysPlan.{WaysPlan}
use Rattle.plan_runs.specs.steps.AskedSpans.{AskedSpan, tokens_in}
use Rattle.plan_runs.specs.steps.Skips.{opened_skip, skip_of}
use Rattle.plan_kinds.specs.steps.JoinedPhrases.{joined_of, joined_phrases}
use Rattle.plan_kinds.specs.steps.PassKinds.{hits_stand, pass_kind, pass_of}
use Rattle.plan_kinds.specs.declared.joined.Joined.{Joined}
use Rattle.plan_kinds.proofs.FilteredLaw.{filtered_kind, filtered_law}
use Rattle.plan_kinds.proofs.JoinedLaw.{from_number, joined_law}
use Rattle.plan_kinds.proofs.PassLaw.{pass_law}
use Rattle.plan_runs.specs.steps.OpenedItems.{opened_variant}
use Rattle.plan_runs.specs.steps.OpenedOperators.{opened_aims}
use Rattle.plan_runs.specs.steps.OpenedWords.{IsOpened}
use Rattle.plan_runs.specs.steps.Passes.{HitsShape, hits_say, opened_phrases, phrase_variants, variant_aims}
use Rattle.plan_runs.specs.steps.RunCosts.{run_cost}
use Rattle.plan_runs.specs.steps.RunSkips.{skip}
use Rattle.plan_runs.specs.steps.RunShapes.{Shape, by_hits, shape}
use Rattle.plan_runs.specs.steps.RunTruth.{IsSound, run_truth}
use Rattle.plan_kinds.specs.declared.pass_kind.PassKind.{PassKind}
use Rattle.plan_runs.specs.declared.run_hits.RunHits.{RunHits}
use Rattle.plan_runs.specs.declared.run_node.RunNode as R
use Rattle.plan_runs.proofs.HitUnion.{choice_alike, union_law}
use Rattle.plan_runs.proofs.SkipLaw.{none_ways, skip_lacks}
use Rattle.plan_runs.proofs.OpenedWays.{aims_law, own_text}
use Rattle.plan_runs.proofs.RisingHits.{all_begin_alike, all_told, own_units, phrase_told, told_ends, units_rise, variant_rises}
use Rattle.plan_runs.proofs.RunViews.{shape-Hits}

module _ (looks : Looks) (stems : List Stem) (version : List Numbered) where
  -- ---- the hits of phrases

  module _ (doc : ℕ) (span : Span) where
    abbrev hits_here : PhraseTests → List Hit
    hits_here found = phrase_hits version found.number (map (opened_variant looks stems version) found.variants) doc span

    abbrev spots_here : PhraseTests → List Spot
    spots_here found = filter (some_at span.to (map (map (wanted_at version doc span)) (map (opened_variant looks stems version) found.variants))) (spots_between span.from span.to)

    numbered_hits : (number : ℕ) (phrases : List PhraseTests) → from_number number phrases ≡ true → are_numbered number (map hits_here phrases) ≡ true
    numbered_hits number [] h = refl
    numbered_hits number (found ∷ phrases) h =
        let parts = and_parts (found.number == number) (from_number (number + 1) phrases) h in
        and_from (list_all (λ hit. hit.query == number) (hits_here found)) (are_numbered (number + 1) (map hits_here phrases))
        (all_told found.number (breaks_of (document_at doc version)) span (λ hit. hit.query == number) (λ at. parts.0) (spots_here found))
        (numbered_hits (number + 1) phrases parts.1)

    ending_hits : (unit : TextUnit) (phrases : List PhraseTests) → list_all (list_all (ends_after unit)) (map hits_here phrases) ≡ true
    ending_hits unit [] = refl
    ending_hits unit (found ∷ phrases) =
        and_from (list_all (ends_after unit) (hits_here found)) (list_all (list_all (ends_after unit)) (map hits_here phrases))
        (all_told found.number (breaks_of (document_at doc version)) span (ends_after unit) (told_ends found.number (breaks_of (document_at doc version)) span unit) (spots_here found))
        (ending_hits unit phrases)

    told_hits : (phrases : List PhraseTests) → list_all (list_all (is_told (own_units (breaks_of (document_at doc version)) span))) (map hits_here phrases) ≡ true
    told_hits [] = refl
    told_hits (found ∷ phrases) =
        and_from (list_all (is_told (own_units (breaks_of (document_at doc version)) span)) (hits_here found))
        (list_all (list_all (is_told (own_units (breaks_of (document_at doc version)) span))) (map hits_here phrases))
        (phrase_told found.number (breaks_of (document_at doc version)) span (map (map (wanted_at version doc span)) (map (opened_variant looks stems version) found.variants)))
        (told_hits phrases)

    alike_hits : (unit : TextUnit) (phrases : List PhraseTests) (hits others : List Hit) → map hits_here phrases ≡ hits ∷ others ∷ []
        → list_all (λ a. list_all (begin_alike unit a) others) hits ≡ true
    alike_hits unit phrases hits others are =
        let breaks = breaks_of (document_at doc version) in
        let told = ap (list_all (list_all (is_told (own_units breaks span)))) (sym are) ∙ told_hits phrases in
        let parts = and_parts (list_all (is_told (own_units breaks span)) hits) (list_all (list_all (is_told (own_units breaks span))) (others ∷ [])) told in
        let other = and_parts (list_all (is_told (own_units breaks span)) others) true parts.1 in
        all_begin_alike (own_units breaks span) (units_rise breaks span) unit hits others parts.0 other.0

    joined_hits : (phrases : List PhraseTests) → map (λ found. hits_there doc span (phrase_variants looks stems version found)) phrases ≡ map (hits_there doc span) (map (phrase_variants looks stems version) phrases)
    joined_hits [] = refl
    joined_hits (found ∷ phrases) = ap (λ rest. hits_there doc span (phrase_variants looks stems version found) ∷ rest) (joined_hits phrases)

    -- what a pass over phrases says
    pass_says : (kind : PassKind) (own : Filter) (operand : OperatorPlan) (joined : Joined) → joined_of operand ≡ Some joined → pass_kind own joined ≡ Some kind
        → satisfied (matches_of (own_span span) (through_filter ((opened_aims looks stems version operand).operators doc span) own))
        ≡ some_choice (hits_stand kind) (map (hits_there doc span) (opened_phrases looks stems version operand))
    unfolding opened_aims
    pass_says kind own operand joined phrases kinds =
        let are = joined_law operand joined phrases in
        let all = are.first ∷ are.rest in
        let counted : joined.last ≡ joined.first + length (map hits_here are.rest) = let long = are.counted in let mapped = length-map are.rest hits_here in omega (arith, long, mapped) in
        ap (λ operator. satisfied (matches_of (own_span span) (through_filter operator own)))
        (are.same (λ plan. (opened_aims looks stems version plan).operators doc span) hits_here (λ found. refl) (λ p left right. refl))
        ∙ pass_law joined (own_span span) (hits_here are.first) (map hits_here are.rest) counted own kind kinds
        (record { numbered = numbered_hits joined.first all are.numbered; ends = λ unit. ending_hits unit all; alike = λ unit. alike_hits unit all })
        ∙ choice_alike hits_here (λ found. hits_there doc span (phrase_variants looks stems version found))
        (λ found test. union_law looks stems version found.number doc span test found.variants) (hits_stand kind) all
        ∙ ap (some_choice (hits_stand kind)) (joined_hits all)
        ∙ ap (λ (own : List PhraseTests). some_choice (hits_stand kind) (map (hits_there doc span) (map (phrase_variants looks stems version) own))) (sym are.phrases)

  -- ---- where they may be aimed, and that they rise

  pub may_each : (doc : ℕ) (span : Span) → has_document doc version ≡ true → (number : ℕ) (variants : List (List ItemTest))
      → list_all (λ (aims : PhraseAims). aims.may doc span) (map (variant_aims looks stems version number) variants) ≡ true
  may_each doc span h number [] = refl
  may_each doc span h number (tests ∷ variants) = and_from (has_document doc version) (list_all (λ (aims : PhraseAims). aims.may doc span) (map (variant_aims looks stems version number) variants)) h (may_each doc span h number variants)

  may_all : (doc : ℕ) (span : Span) → has_document doc version ≡ true → (phrases : List PhraseTests) → all_may doc span (map (phrase_variants looks stems version) phrases) ≡ true
  may_all doc span h [] = refl
  may_all doc span h (found ∷ phrases) =
      and_from (list_all (λ (aims : PhraseAims). aims.may doc span) (phrase_variants looks stems version found)) (all_may doc span (map (phrase_variants looks stems version) phrases))
      (may_each doc span h found.number found.variants) (may_all doc span h phrases)

  pub rise_each : (doc : ℕ) (span : Span) (number : ℕ) (variants : List (List ItemTest))
      → list_all (λ (aims : PhraseAims). is_rising (aims.hits doc span)) (map (variant_aims looks stems version number) variants) ≡ true
  rise_each doc span number [] = refl
  rise_each doc span number (tests ∷ variants) =
      and_from (is_rising ((variant_aims looks stems version number tests).hits doc span)) (list_all (λ (aims : PhraseAims). is_rising (aims.hits doc span)) (map (variant_aims looks stems version number) variants))
      (variant_rises number (breaks_of (document_at doc version)) span (map (wanted_at version doc span) (opened_variant looks stems version tests)))
      (rise_each doc span number variants)

  rise_all : (doc : ℕ) (span : Span) (phrases : List PhraseTests) → rise_there doc span (map (phrase_variants looks stems version) phrases) ≡ true
  rise_all doc span [] = refl
  rise_all doc span (found ∷ phrases) =
      and_from (list_all (λ (aims : PhraseAims). is_rising (aims.hits doc span)) (phrase_variants looks stems version found)) (rise_there doc span (map (phrase_variants looks stems version) phrases))
      (rise_each doc span found.number found.variants) (rise_all doc span phrases)

  -- ---- opened

  pub hits_opened : (run : Box RunHits Global) (plan : WaysPlan) (kind : PassKind) (operand : OperatorPlan) → merge_of plan.operator ≡ None → pass_of plan.operator ≡ Some (kind, operand)
      → run.value.kind ≡ kind → all_aims state_of run.value.phrases.items ≡ opened_phrases looks stems version operand
      → skip_of run.value.needs ≡ opened_skip looks stems version plan.operator → IsOpened looks stems version (shape (R.Hits run)) (N.Ways plan)
  unfolding run_truth skip IsSound run_cost opened_aims
  hits_opened run plan kind operand none is kinds phrases skipping =
      let pass = filtered_kind pass_kind plan.operator kind operand is in
      let made : HitsShape = record { kind = kind; phrases = opened_phrases looks stems version operand; skips = opened_skip looks stems version plan.operator } in
      let own : shape (R.Hits run) ≡ by_hits made = shape-Hits run ∙ (λ i. by_hits (record { kind = kinds i; phrases = phrases i; skips = skipping i })) in
      let says : (asked : AskedSpan) → hits_say made asked ≡ satisfied (matches_of (own_span asked.span) ((opened_aims looks stems version plan.operator).operators asked.doc asked.span)) =
      λ asked.
      sym (pass_says asked.doc asked.span kind pass.filter operand pass.joined pass.phrases pass.kinds)
      ∙ ap (λ operator. satisfied (matches_of (own_span asked.span) operator))
      (sym (filtered_law (λ own. (opened_aims looks stems version own).operators asked.doc asked.span) through_filter (λ p own filter. refl) plan.operator _ pass.is)) in
      subst (λ (s : Shape). IsOpened looks stems version s (N.Ways plan)) (sym own) (record {
        sound = record {
          may = λ doc span there. may_all doc span there (joined_phrases operand);
          rising = λ doc span. rise_all doc span (joined_phrases operand);
        };
        says = λ asked there.
            let text = looked_text looks stems (tokens_in version asked) in
            says asked
            ∙ (λ i. satisfied (matches_of (own_text looks stems version asked there i) (aims_law looks stems version asked there plan.operator i)))
            ∙ sym (truth-Ways plan text);
        none = λ part asked tokens left h. none_ways looks stems version part asked tokens left plan (skip_lacks looks stems version asked.doc part asked.span.to plan.operator h);
        cost = λ word_cost test_cost fair most. omega arith;
        cheap = λ counts h. absurd (true≢false (sym h ∙ cheap-Ways counts plan ∙ unmerged plan.operator none));
      })
