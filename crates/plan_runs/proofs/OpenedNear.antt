-- Opened windows and scopes over phrases say of the spans of documents what the compiled selections say of their tokens.
use Rattle.std.proofs.Common.{◌≡◌, refl, sym, ap, subst, ◌∙◌, ℕ, Bool, ◌++◌, true, true≢false, List, [], ◌∷◌, map, None, Box, Global, arith}
use Rattle.std.specs.List.{list_all}
use Rattle.std.proofs.lemmas.Bool.{and_from, and_parts}
use Rattle.std.proofs.lemmas.Grind.{flat_map-append}
use Rattle.std.proofs.lemmas.List.Folds.{list_all-append}
use Rattle.ft_base.specs.declared.hit.Hit.{Hit}
use Rattle.ft_base.specs.declared.span.Span.{Span}
use Rattle.all_matches.specs.Boolean.{satisfied}
use Rattle.all_matches.specs.Ways.{matches_of}
use Rattle.ft_operators.specs.Phrases.{PhraseAims}
use Rattle.ft_operators.specs.Standing.{Aims}
use Rattle.ft_operators.specs.Walk.{own_span}
use Rattle.index_meaning.specs.Documents.{Numbered, breaks_of, document_at, has_document}
use Rattle.index_phrases.specs.Cursors.{state_of}
use Rattle.index_phrases.specs.Phrases.{phrase_hits, wanted_at}
use Rattle.phrase_merges.specs.Near.{AreAlike, alike_either, alike_filtered, alike_phrases, alike_together, is_field, is_told}
use Rattle.phrase_merges.proofs.AlikeLemmas.{alike}
use Rattle.phrase_merges.specs.NearTrees.{near_aims, near_lists}
use Rattle.phrase_merges.specs.Rows.{hits_there, is_rising}
use Rattle.word_lists.specs.Stems.{Stem}
use Rattle.plan_compiler.specs.Operators.{looked_text}
use Rattle.plan_compiler.proofs.NodeViews.{cheap-Ways, truth-Ways}
use Rattle.plan_compiler.specs.declared.item_matching.ItemTest.{ItemTest}
use Rattle.plan_compiler.specs.declared.looks.Looks.{Looks}
use Rattle.plan_compiler.specs.declared.node.Node as N
use Rattle.plan_compiler.specs.declared.operator_plan.OperatorPlan.{OperatorPlan, Phrase, Choice', Both', MildNot', Negated', Filtered'}
use Rattle.plan_compiler.specs.declared.operator_plan.WaysPlan.{WaysPlan}
use Rattle.plan_kinds.specs.steps.MergeKinds.{merge_of}
use Rattle.plan_kinds.specs.steps.NearPlans.{is_near}
use Rattle.plan_kinds.proofs.CheapLaw.{unmerged}
use Rattle.plan_runs.specs.steps.AskedSpans.{AskedSpan, tokens_in}
use Rattle.plan_runs.specs.steps.NearRuns.{NearShape, near_opened, variant_lists}
use Rattle.plan_runs.specs.steps.OpenedItems.{opened_variant}
use Rattle.plan_runs.specs.steps.OpenedOperators.{opened_aims}
use Rattle.plan_runs.specs.steps.OpenedWords.{IsOpened}
use Rattle.plan_runs.specs.steps.Passes.{phrase_variants, variant_aims}
use Rattle.plan_runs.specs.steps.RunCosts.{run_cost}
use Rattle.plan_runs.specs.steps.RunSkips.{skip}
use Rattle.plan_runs.specs.steps.RunShapes.{Shape, by_near, shape}
use Rattle.plan_runs.specs.steps.RunTruth.{IsSound, aims_say, run_truth}
use Rattle.plan_runs.specs.steps.Skips.{opened_skip, skip_of}
use Rattle.plan_runs.specs.declared.run_near.RunNear.{RunNear}
use Rattle.plan_runs.specs.declared.run_node.RunNode as R
use Rattle.plan_runs.proofs.HitUnion.{union_law}
use Rattle.plan_runs.proofs.OpenedHits.{may_each, rise_each}
use Rattle.plan_runs.proofs.OpenedWays.{aims_law, own_text}
use Rattle.plan_runs.proofs.RisingHits.{own_units, phrase_told, units_rise}
use Rattle.plan_runs.proofs.RunViews.{shape-Near}
use Rattle.plan_runs.proofs.SkipLaw.{none_ways, skip_lacks}

module _ (looks : Looks) (stems : List Stem) (version : List Numbered) where
  abbrev near : OperatorPlan → Aims
  near plan = near_opened looks stems version plan

  abbrev whole : OperatorPlan → Aims
  whole plan = opened_aims looks stems version plan

  -- ---- the hits of each variant, or those of the phrase

  near_alike : (doc : ℕ) (span : Span) (plan : OperatorPlan) → is_near plan ≡ true → AreAlike ((near plan).operators doc span) ((whole plan).operators doc span)
  unfolding is_near near_opened opened_aims
  near_alike doc span (Phrase found) h =
      alike_phrases (hits_there doc span (phrase_variants looks stems version found)) (phrase_hits version found.number (map (opened_variant looks stems version) found.variants) doc span)
      (λ test. sym (union_law looks stems version found.number doc span test found.variants))
  near_alike doc span (Choice' p left right) h =
      let parts = and_parts (is_near left) (is_near right) h in
      alike_either ((near left).operators doc span) ((near right).operators doc span) ((whole left).operators doc span) ((whole right).operators doc span)
      (near_alike doc span left parts.0) (near_alike doc span right parts.1)
  near_alike doc span (Both' p left right) h =
      let parts = and_parts (is_near left) (is_near right) h in
      alike_together ((near left).operators doc span) ((near right).operators doc span) ((whole left).operators doc span) ((whole right).operators doc span)
      (near_alike doc span left parts.0) (near_alike doc span right parts.1)
  near_alike doc span (MildNot' p left right) h = absurd (true≢false (sym h))
  near_alike doc span (Negated' p operand) h = absurd (true≢false (sym h))
  near_alike doc span (Filtered' p operand kind) h =
      alike_filtered kind ((near operand).operators doc span) ((whole operand).operators doc span) (near_alike doc span operand (and_parts (is_field kind) (is_near operand) h).1)

  -- ---- where they may be aimed, that they rise, and that they are told in one text

  near_may : (doc : ℕ) (span : Span) → has_document doc version ≡ true → (plan : OperatorPlan) → (near plan).may doc span ≡ true
  unfolding near_opened
  near_may doc span there (Phrase found) = may_each looks stems version doc span there found.number found.variants
  near_may doc span there (Choice' p left right) = and_from ((near left).may doc span) ((near right).may doc span) (near_may doc span there left) (near_may doc span there right)
  near_may doc span there (Both' p left right) = and_from ((near left).may doc span) ((near right).may doc span) (near_may doc span there left) (near_may doc span there right)
  near_may doc span there (MildNot' p left right) = near_may doc span there left
  near_may doc span there (Negated' p operand) = near_may doc span there operand
  near_may doc span there (Filtered' p operand kind) = near_may doc span there operand

  module _ (doc : ℕ) (span : Span) where
    abbrev rises : PhraseAims → Bool
    rises aims = is_rising (aims.hits doc span)

    abbrev lists : OperatorPlan → List PhraseAims
    lists plan = variant_lists looks stems version plan

    near_rise : (plan : OperatorPlan) → list_all rises (lists plan) ≡ true
    unfolding variant_lists
    near_rise (Phrase found) = rise_each looks stems version doc span found.number found.variants
    near_rise (Choice' p left right) = list_all-append rises (lists left) (lists right) ∙ and_from (list_all rises (lists left)) (list_all rises (lists right)) (near_rise left) (near_rise right)
    near_rise (Both' p left right) = list_all-append rises (lists left) (lists right) ∙ and_from (list_all rises (lists left)) (list_all rises (lists right)) (near_rise left) (near_rise right)
    near_rise (MildNot' p left right) = refl
    near_rise (Negated' p operand) = refl
    near_rise (Filtered' p operand kind) = near_rise operand

    abbrev is_own : Hit → Bool
    is_own hit = is_told (own_units (breaks_of (document_at doc version)) span) hit

    told_variants : (number : ℕ) (variants : List (List ItemTest)) → list_all is_own (hits_there doc span (map (variant_aims looks stems version number) variants)) ≡ true
    told_variants number [] = refl
    told_variants number (tests ∷ variants) =
        list_all-append is_own ((variant_aims looks stems version number tests).hits doc span) (hits_there doc span (map (variant_aims looks stems version number) variants))
        ∙ and_from (list_all is_own ((variant_aims looks stems version number tests).hits doc span)) (list_all is_own (hits_there doc span (map (variant_aims looks stems version number) variants)))
        (phrase_told number (breaks_of (document_at doc version)) span (map (wanted_at version doc span) (opened_variant looks stems version tests) ∷ []))
        (told_variants number variants)

    told_sides : (left right : List PhraseAims) → list_all is_own (hits_there doc span left) ≡ true → list_all is_own (hits_there doc span right) ≡ true
        → list_all is_own (hits_there doc span (left ++ right)) ≡ true
    told_sides left right l r =
        ap (list_all is_own) (flat_map-append (λ (aims : PhraseAims). aims.hits doc span) left right)
        ∙ list_all-append is_own (hits_there doc span left) (hits_there doc span right)
        ∙ and_from (list_all is_own (hits_there doc span left)) (list_all is_own (hits_there doc span right)) l r

    near_told : (plan : OperatorPlan) → list_all is_own (hits_there doc span (lists plan)) ≡ true
    unfolding variant_lists
    near_told (Phrase found) = told_variants found.number found.variants
    near_told (Choice' p left right) = told_sides (lists left) (lists right) (near_told left) (near_told right)
    near_told (Both' p left right) = told_sides (lists left) (lists right) (near_told left) (near_told right)
    near_told (MildNot' p left right) = refl
    near_told (Negated' p operand) = refl
    near_told (Filtered' p operand kind) = near_told operand

  -- ---- opened

  pub near_run_opened : (run : Box RunNear Global) (plan : WaysPlan) → merge_of plan.operator ≡ None → is_near plan.operator ≡ true
      → near_aims state_of run.value.tree ≡ near plan.operator → near_lists state_of run.value.tree ≡ variant_lists looks stems version plan.operator
      → skip_of run.value.needs ≡ opened_skip looks stems version plan.operator → IsOpened looks stems version (shape (R.Near run)) (N.Ways plan)
  unfolding run_truth skip IsSound run_cost
  near_run_opened run plan none is aims lists skipping =
      let made : NearShape = record { aims = near plan.operator; lists = variant_lists looks stems version plan.operator; skips = opened_skip looks stems version plan.operator } in
      let own : shape (R.Near run) ≡ by_near made = shape-Near run ∙ (λ i. by_near (record { aims = aims i; lists = lists i; skips = skipping i })) in
      let says : (asked : AskedSpan) → aims_say made.aims asked ≡ satisfied (matches_of (own_span asked.span) ((whole plan.operator).operators asked.doc asked.span)) =
      λ asked.
      alike (own_span asked.span) ((near plan.operator).operators asked.doc asked.span) ((whole plan.operator).operators asked.doc asked.span)
      (near_alike asked.doc asked.span plan.operator is) in
      subst (λ (s : Shape). IsOpened looks stems version s (N.Ways plan)) (sym own) (record {
        sound = record {
          may = λ doc span there. near_may doc span there plan.operator;
          rising = λ doc span. near_rise doc span plan.operator;
          told = λ doc span. record {
            units = own_units (breaks_of (document_at doc version)) span;
            rise = units_rise (breaks_of (document_at doc version)) span;
            told = near_told doc span plan.operator;
          };
        };
        says = λ asked there.
            let text = looked_text looks stems (tokens_in version asked) in
            says asked
            ∙ (λ i. satisfied (matches_of (own_text looks stems version asked there i) (aims_law looks stems version asked there plan.operator i)))
            ∙ sym (truth-Ways plan text);
        none = λ part asked tokens left h. none_ways looks stems version part asked tokens left plan (skip_lacks looks stems version asked.doc part asked.span.to plan.operator h);
        cost = λ word_cost test_cost fair most. omega arith;
        cheap = λ counts h. absurd (true≢false (sym h ∙ cheap-Ways counts plan ∙ unmerged plan.operator none));
      })
