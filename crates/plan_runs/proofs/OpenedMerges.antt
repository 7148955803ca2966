-- Opened merges say of the spans of documents what the compiled selections say of their tokens.
use Rattle.std.proofs.Common.{◌≡◌, refl, sym, ap, subst, ◌∙◌, true, List, [], ◌∷◌, flat_map, ℕ, Some, arith}
use Rattle.std.specs.List.{All, list_all}
use Rattle.std.proofs.lemmas.List.Elements.{All-append, All-map, All-nil}
use Rattle.all_matches.specs.Boolean.{satisfied}
use Rattle.all_matches.specs.Ways.{matches_of, through_filter}
use Rattle.ft_operators.specs.Walk.{own_span}
use Rattle.index_meaning.specs.Documents.{Numbered}
use Rattle.index_versions.specs.Terms.{VersionTerm, version_term}
use Rattle.word_lists.specs.Stems.{Stem}
use Rattle.plan_compiler.specs.NodeCosts.{operator_cost}
use Rattle.plan_compiler.specs.Operators.{looked_text, operator_at}
use Rattle.plan_runs.specs.steps.AskedSpans.{tokens_in}
use Rattle.plan_runs.specs.steps.ChosenTerms.{terms_for}
use Rattle.plan_compiler.specs.CheapPlans.{is_word}
use Rattle.plan_kinds.specs.steps.JoinedPhrases.{joined_phrases}
use Rattle.plan_kinds.specs.steps.MergeKinds.{merge_kind, merge_of}
use Rattle.plan_kinds.proofs.FilteredLaw.{filtered_kind, filtered_law, words_law}
use Rattle.plan_kinds.proofs.JoinedLaw.{joined_law}
use Rattle.plan_runs.specs.steps.Merges.{opened_merge, phrase_terms, test_terms}
use Rattle.plan_runs.specs.steps.OpenedItems.{word_test}
use Rattle.plan_runs.specs.steps.OpenedWords.{IsOpened}
use Rattle.plan_runs.specs.steps.CheapShapes.{is_cheap_shape}
use Rattle.plan_runs.specs.steps.RunCosts.{run_cost}
use Rattle.plan_runs.specs.steps.RunShapes.{Shape, merge_shape, shape, by_merge}
use Rattle.plan_runs.specs.steps.RunTruth.{IsSound, run_truth}
use Rattle.plan_compiler.specs.declared.item_matching.ItemTest.{ItemTest}
use Rattle.plan_compiler.specs.declared.looks.Looks.{Looks}
use Rattle.plan_kinds.specs.declared.merge_kind.MergeKind.{MergeKind}
use Rattle.plan_compiler.specs.declared.node.Node as N
use Rattle.plan_compiler.specs.declared.operator_plan.OperatorPlan.{OperatorPlan}
use Rattle.plan_compiler.specs.declared.operator_plan.PhraseTests.{PhraseTests}
use Rattle.plan_compiler.specs.declared.operator_plan.WaysPlan.{WaysPlan}
use Rattle.plan_runs.specs.declared.run_merge.RunMerge.{RunMerge}
use Rattle.plan_runs.specs.declared.run_node.RunNode as R
use Rattle.plan_runs.proofs.MergeCosts.{joined_cheap, phrases_cheap}
use Rattle.plan_runs.proofs.MergeLaw.{merge_law}
use Rattle.plan_compiler.proofs.NodeViews.{cost-Ways, truth-Ways}
use Rattle.plan_runs.proofs.OpenedTests.{every}
use Rattle.plan_runs.proofs.OpenedWays.{own_text}
use Rattle.plan_runs.proofs.LackLaw.{operator_lacks}
use Rattle.plan_runs.proofs.RunViews.{shape-Merge}
use Rattle.plan_runs.proofs.SkipLaw.{absent_there, merge_lacks, none_ways}
use Rattle.plan_runs.specs.steps.RunSkips.{skip}

all_flat : {X : Type 0} (P : VersionTerm → Type 0) (f : X → List VersionTerm) → ((x : X) → All P (f x)) → (xs : List X) → All P (flat_map f xs)
all_flat P f each [] = All-nil P
all_flat P f each (x ∷ xs) = All-append P (f x) (flat_map f xs) (each x) (all_flat P f each xs)

module _ (looks : Looks) (stems : List Stem) (version : List Numbered) where
  abbrev IsThere : VersionTerm → Type 0
  IsThere term = term.version ≡ version

  terms_there : (found : PhraseTests) → All IsThere (phrase_terms looks stems version found)
  terms_there found =
      all_flat IsThere (flat_map (test_terms looks stems version))
      (all_flat IsThere (test_terms looks stems version)
      (λ (test : ItemTest). All-map IsThere (version_term version) (terms_for (word_test looks stems test) version)
      (every (λ (number : ℕ). version ≡ version) (λ number. refl) (terms_for (word_test looks stems test) version))))
      found.variants

  pub merge_opened : (run : RunMerge) (plan : WaysPlan) (kind : MergeKind) (operand : OperatorPlan) → merge_of plan.operator ≡ Some (kind, operand)
      → merge_shape run ≡ opened_merge looks stems version kind operand → IsOpened looks stems version (shape (R.Merge run)) (N.Ways plan)
  unfolding run_truth skip IsSound run_cost operator_at operator_cost operator_lacks is_cheap_shape
  merge_opened run plan kind operand is opened =
      let merge = filtered_kind merge_kind plan.operator kind operand is in
      let made = words_law merge.filter merge.joined kind merge.kinds in
      let joined = joined_law operand merge.joined merge.phrases in
      let words : list_all is_word (joined_phrases operand) ≡ true = ap (list_all is_word) joined.phrases ∙ joined.words made.0 in
      let own : shape (R.Merge run) ≡ by_merge (opened_merge looks stems version kind operand) = shape-Merge run ∙ ap by_merge opened in
      subst (λ (s : Shape). IsOpened looks stems version s (N.Ways plan)) (sym own) (record {
        sound = record { sized = refl; there = All-map (All IsThere) (phrase_terms looks stems version) (joined_phrases operand) (every _ terms_there (joined_phrases operand)) };
        says = λ asked there.
            let text = looked_text looks stems (tokens_in version asked) in
            sym (merge_law looks stems version asked there operand merge.joined merge.filter kind (own_span asked.span) merge.phrases merge.kinds)
            ∙ (λ i. satisfied (matches_of (own_text looks stems version asked there i) (sym (filtered_law (operator_at text) through_filter (λ p own filter. refl) plan.operator _ merge.is) i)))
            ∙ sym (truth-Ways plan text);
        none = λ part asked tokens left h.
            let absent = absent_there looks stems version part asked tokens left in
            none_ways looks stems version part asked tokens left plan
            (filtered_law (operator_lacks absent) (λ lacks filter. lacks) (λ p own filter. refl) plan.operator _ merge.is
            ∙ merge_lacks looks stems version asked.doc part asked.span.to operand words h);
        cost = λ word_cost test_cost fair most.
            let cheap = phrases_cheap looks stems version word_cost test_cost fair most (joined_phrases operand) words in
            let sum = joined_cheap test_cost operand in
            let filtered = filtered_law (operator_cost test_cost) (λ cost filter. cost) (λ p own filter. refl) plan.operator _ merge.is in
            let whole = cost-Ways test_cost plan in
            omega (arith, cheap, sum, filtered, whole);
        cheap = λ counts h. refl;
      })
