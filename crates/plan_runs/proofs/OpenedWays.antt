-- Opened selections with filters or `not in` are over the spans of documents what the compiled ones are over their tokens.
use Rattle.std.proofs.Common.{◌≡◌, refl, sym, ap, subst, ◌∙◌, ℕ, suc, ◌-◌, ◌==◌, true, true≢false, ◌&&◌, ◌||◌, None, List, [], ◌∷◌, map, filter, length, get_or, drop, take_all, le_refl, arith, Box, Global}
use Rattle.std.specs.List.{All, list_any}
use Rattle.std.proofs.lemmas.List.{length-map}
use Rattle.std.proofs.lemmas.List.Elements.{All-cons, All-drop, All-take}
use Rattle.ft_base.specs.declared.span.Span.{Span}
use Rattle.ft_base.specs.declared.token.Token.{Token}
use Rattle.all_matches.specs.Boolean.{satisfied}
use Rattle.all_matches.specs.Counting.{begins_as}
use Rattle.all_matches.specs.Hits.{Interval, hit_on, intervals}
use Rattle.all_matches.specs.Hits as hits
use Rattle.all_matches.specs.Spans.{whole_text}
use Rattle.all_matches.specs.Ways.{phrase, either, together, apart, negated, through_filter, is_plain, matches_of}
use Rattle.ft_operators.specs.Walk.{own_span}
use Rattle.index_meaning.specs.Documents.{Numbered, document_at, has_document}
use Rattle.index_phrases.specs.Phrases.{phrase_hits}
use Rattle.index_phrases.specs.Tokens.{passes_terms, stands_on}
use Rattle.index_phrases.proofs.PhraseLaw.{prefix_stands, hits_by_terms}
use Rattle.index_phrases.proofs.SpanTokens.{tokens_long, words_of_span}
use Rattle.word_lists.specs.Stems.{Stem}
use Rattle.plan_compiler.specs.CheapPlans.{is_cheap_node}
use Rattle.plan_compiler.specs.ItemTests.{passes}
use Rattle.plan_compiler.specs.NodeMeaning.{truth}
use Rattle.plan_compiler.specs.Operators.{LookedText, hits_by_tests, looked_text, operator_at, stand_on}
use Rattle.plan_compiler.specs.TextWords.{word_as, words_of_tokens}
use Rattle.plan_kinds.specs.steps.MergeKinds.{merge_of}
use Rattle.plan_kinds.proofs.CheapLaw.{unmerged}
use Rattle.plan_runs.specs.steps.AskedSpans.{AskedSpan, IsAsked, tokens_in}
use Rattle.plan_runs.specs.steps.ChosenTerms.{AreKnown, IsKnown}
use Rattle.plan_runs.specs.steps.Skips.{skip_of, opened_skip}
use Rattle.plan_runs.specs.steps.OpenedItems.{opened_item, opened_variant}
use Rattle.plan_runs.specs.steps.OpenedOperators.{AreAims, aims_of, opened_aims}
use Rattle.plan_runs.specs.steps.OpenedWords.{IsOpened}
use Rattle.plan_runs.specs.steps.RunCosts.{run_cost}
use Rattle.plan_runs.specs.steps.RunSkips.{skip}
use Rattle.plan_runs.specs.steps.RunShapes.{Shape, WaysShape, shape, by_ways}
use Rattle.plan_runs.specs.steps.RunTruth.{IsSound, run_truth}
use Rattle.plan_compiler.specs.declared.item_matching.ItemTest.{ItemTest}
use Rattle.plan_compiler.specs.declared.looks.Looks.{Looks}
use Rattle.plan_compiler.specs.declared.node.Node.{Node}
use Rattle.plan_compiler.specs.declared.node.Node as N
use Rattle.plan_compiler.specs.declared.operator_plan.OperatorPlan.{OperatorPlan, Phrase, Choice', Both', MildNot', Negated', Filtered'}
use Rattle.plan_compiler.specs.declared.operator_plan.WaysPlan.{WaysPlan}
use Rattle.plan_compiler.specs.declared.text_word.TextWord.{TextWord}
use Rattle.plan_runs.specs.declared.run_node.RunNode as R
use Rattle.plan_runs.specs.declared.run_ways.RunWays.{RunWays}
use Rattle.plan_runs.proofs.GroupLaw.{wanted_same}
use Rattle.plan_runs.proofs.KnownTexts.{text_known}
use Rattle.plan_compiler.proofs.NodeViews.{cheap-Ways, truth-Ways}
use Rattle.plan_runs.proofs.SkipLaw.{none_ways, skip_lacks}
use Rattle.plan_runs.proofs.OpenedLemmas.{begins_same}
use Rattle.plan_runs.proofs.OpenedTests.{item_says}
use Rattle.plan_runs.proofs.RunViews.{shape-Ways}

-- ---- tokens that are known

known_tokens : (version : List Numbered) (tokens : List Token) → AreKnown version (map (λ (token : Token). token.word) tokens) → All (λ (token : Token). IsKnown version token.word) tokens
known_tokens version [] h = λ k d lt. absurd (omega (arith, lt))
known_tokens version (token ∷ tokens) h =
    All-cons (λ (t : Token). IsKnown version t.word) token tokens (h 0 [] (omega arith)) (known_tokens version tokens (λ k d lt. h (suc k) d (omega (arith, lt))))

module _ (looks : Looks) (stems : List Stem) (version : List Numbered) where
  -- ---- phrases

  module _ (asked : AskedSpan) (there : IsAsked version asked) where
    abbrev part : List Token
    part = tokens_in version asked

    abbrev text : LookedText
    text = looked_text looks stems part

    part_known : All (λ (token : Token). IsKnown version token.word) part
    part_known = known_tokens version part (subst (AreKnown version) (sym (words_of_span asked.span (document_at asked.doc version))) (text_known version asked there))

    abbrev words_at : List Token → List TextWord
    words_at tokens = words_of_tokens looks stems tokens

    stands : (tests : List ItemTest) (tokens : List Token) → All (λ (token : Token). IsKnown version token.word) tokens
        → stands_on (passes_terms version) (opened_variant looks stems version tests) tokens ≡ stand_on tests (words_at tokens)
    stands tests tokens known =
        let same : begins_as (passes_terms version) (opened_variant looks stems version tests) tokens ≡ begins_as passes tests (words_at tokens) =
        begins_same (passes_terms version) passes (opened_item looks stems version) (λ (token : Token). word_as looks stems token.word) tests tokens
        (λ k d lt test. wanted_same version (opened_item looks stems version test) (get_or tokens k d).word ∙ item_says looks stems version (get_or tokens k d).word (known k d lt) test) in
        ap (stands_on (passes_terms version) (opened_variant looks stems version tests)) (sym (take_all (length tokens) tokens (le_refl (length tokens))))
        ∙ prefix_stands (passes_terms version) (opened_variant looks stems version tests) tokens (length tokens) (le_refl (length tokens))
        ∙ (λ i. (length-map tests (opened_item looks stems version) i == sym (length-map tokens (λ (token : Token). word_as looks stems token.word)) i) && same i)

    some_stands : (variants : List (List ItemTest)) (tokens : List Token) → All (λ (token : Token). IsKnown version token.word) tokens
        → list_any (λ variant. stands_on (passes_terms version) variant tokens) (map (opened_variant looks stems version) variants)
        ≡ list_any (λ tests. stand_on tests (words_at tokens)) variants
    some_stands [] tokens known = refl
    some_stands (tests ∷ variants) tokens known = λ i. stands tests tokens known i || some_stands variants tokens known i

    pub phrase_law : (number : ℕ) (variants : List (List ItemTest))
        → phrase_hits version number (map (opened_variant looks stems version) variants) asked.doc asked.span ≡ hits_by_tests text number variants
    phrase_law number variants =
        hits_by_terms version asked.doc number asked.span (map (opened_variant looks stems version) variants) there.inside
        ∙ (λ i. map (hit_on part number) (filter (λ interval. same interval i) (intervals (length part))))
      where
        same : (interval : Interval) → list_any (λ variant. stands_on (passes_terms version) variant (hits.tokens_in part interval)) (map (opened_variant looks stems version) variants)
            ≡ list_any (λ tests. stand_on tests (words_at (hits.tokens_in part interval))) variants
        same interval =
            some_stands variants (hits.tokens_in part interval)
            (All-take (λ (token : Token). IsKnown version token.word) (suc interval.to - interval.from) (drop (interval.from - 1) part)
            (All-drop (λ (token : Token). IsKnown version token.word) (interval.from - 1) part part_known))

    -- ---- what is made of phrases

    pub aims_law : (plan : OperatorPlan) → (opened_aims looks stems version plan).operators asked.doc asked.span ≡ operator_at text plan
    unfolding opened_aims operator_at
    aims_law (Phrase found) = ap phrase (phrase_law found.number found.variants)
    aims_law (Choice' p left right) = λ i. either (aims_law left i) (aims_law right i)
    aims_law (Both' p left right) = λ i. together (aims_law left i) (aims_law right i)
    aims_law (MildNot' p left right) = λ i. apart (aims_law left i) (aims_law right i)
    aims_law (Negated' p operand) = ap negated (aims_law operand)
    aims_law (Filtered' p operand kind) = ap (λ operator. through_filter operator kind) (aims_law operand)

    pub own_text : own_span asked.span ≡ whole_text part
    own_text =
        let long = tokens_long asked.span (document_at asked.doc version) there.inside in
        let first = there.inside.first in
        let order = there.inside.order in
        let start : asked.span.from - (asked.span.from - 1) ≡ 1 = omega (arith, first) in
        let end : asked.span.to - (asked.span.from - 1) ≡ suc (length part) = omega (arith, first, order, long) in
        λ i. record { from = start i; to = end i }

  pub may_law : (doc : ℕ) (span : Span) → has_document doc version ≡ true → (plan : OperatorPlan) → (opened_aims looks stems version plan).may doc span ≡ true
  unfolding opened_aims
  may_law doc span there (Phrase found) = there
  may_law doc span there (Choice' p left right) = λ i. may_law doc span there left i && may_law doc span there right i
  may_law doc span there (Both' p left right) = λ i. may_law doc span there left i && may_law doc span there right i
  may_law doc span there (MildNot' p left right) = λ i. may_law doc span there left i && may_law doc span there right i
  may_law doc span there (Negated' p operand) = may_law doc span there operand
  may_law doc span there (Filtered' p operand kind) = may_law doc span there operand

  pub ways_opened : (run : Box RunWays Global) (plan : WaysPlan) (node : Node) → node ≡ N.Ways plan → merge_of plan.operator ≡ None → aims_of run.value.tuples ≡ opened_aims looks stems version plan.operator
      → skip_of run.value.needs ≡ opened_skip looks stems version plan.operator → IsOpened looks stems version (shape (R.Ways run)) node
  unfolding run_truth skip IsSound run_cost
  ways_opened run plan node is none opened skipped =
      let made : WaysShape = record { aims = opened_aims looks stems version plan.operator; skips = opened_skip looks stems version plan.operator } in
      let own : shape (R.Ways run) ≡ by_ways made = shape-Ways run ∙ (λ i. by_ways (record { aims = opened i; skips = skipped i })) in
      let sound : AreAims version (opened_aims looks stems version plan.operator) = record {
        may = λ doc span there. may_law doc span there plan.operator;
        plain = λ doc span there inside.
            let asked : AskedSpan = record { doc = doc; span = span } in
            let is_there : IsAsked version asked = record { there = there; inside = inside } in
            ap is_plain (aims_law asked is_there plan.operator) ∙ plan.plain (looked_text looks stems (tokens_in version asked));
      } in
      subst (λ (s : Shape). IsOpened looks stems version s node) (sym own) (record {
        sound = sound;
        says = λ asked there.
            let whole = looked_text looks stems (tokens_in version asked) in
            (λ i. satisfied (matches_of (own_text asked there i) (aims_law asked there plan.operator i)))
            ∙ sym (ap (λ (n : Node). truth n whole) is ∙ truth-Ways plan whole);
        none = λ part asked tokens left h.
            ap (λ (n : Node). truth n (looked_text looks stems tokens)) is
            ∙ none_ways looks stems version part asked tokens left plan (skip_lacks looks stems version asked.doc part asked.span.to plan.operator h);
        cost = λ word_cost test_cost fair most. omega arith;
        cheap = λ counts h. absurd (true≢false (sym h ∙ ap (is_cheap_node counts) is ∙ cheap-Ways counts plan ∙ unmerged plan.operator none));
      })
