-- Opened phrases that have to stand somewhere say of the spans of documents what the compiled selections say of their tokens.
use Rattle.std.proofs.Common.{◌≡◌, refl, sym, ap, subst, ◌∙◌, ℕ, ◌==◌, true, false, true≢false, ◌&&◌, not, List, [], ◌∷◌, map, length, Some, None, arith}
use Rattle.std.specs.List.{list_all}
use Rattle.std.proofs.lemmas.Bool.{and_parts, or_left}
use Rattle.std.proofs.lemmas.List.{length-map}
use Rattle.std.proofs.lemmas.Option.{none-some}
use Rattle.ft_base.specs.declared.filter.Filter.{Filter}
use Rattle.ft_base.specs.declared.filter.Filter.TheVariants as F
use Rattle.ft_base.specs.declared.hit.Hit.{Hit}
use Rattle.ft_base.specs.declared.span.Span.{Span}
use Rattle.ft_base.specs.declared.unit.TextUnit.TheVariants as Unit
use Rattle.all_matches.specs.Boolean.{satisfied}
use Rattle.all_matches.specs.Filters.{ft_filtered}
use Rattle.all_matches.specs.Ways.{Operator, matches_of, negated, through_filter, together}
use Rattle.ft_operators.specs.Walk.{own_span}
use Rattle.index_meaning.specs.Documents.{Numbered, breaks_of, document_at}
use Rattle.index_phrases.specs.Phrases.{numbered_hit, wanted_at}
use Rattle.place_merges.specs.Places.{Wanted}
use Rattle.place_merges.specs.declared.spot.Spot.{Spot}
use Rattle.spot_merges.specs.Edges.{edge_filter, spots_of}
use Rattle.spot_merges.specs.declared.edge.Edge.{Edge}
use Rattle.spot_merges.specs.declared.outside.Outside.{Outside}
use Rattle.spot_merges.specs.declared.outside.Outside.TheVariants.{Cover, Window}
use Rattle.spot_merges.proofs.ClearLaws.{negated_first}
use Rattle.spot_merges.proofs.ToldLaws.{told_apart, told_clear, told_edge}
use Rattle.word_lists.specs.Stems.{Stem}
use Rattle.plan_compiler.specs.Operators.{looked_text}
use Rattle.plan_runs.specs.steps.AskedSpans.{AskedSpan, tokens_in}
use Rattle.plan_runs.specs.steps.OpenedItems.{opened_item, opened_variant}
use Rattle.plan_runs.specs.steps.OpenedOperators.{opened_aims, phrase_opened}
use Rattle.plan_runs.specs.steps.OpenedWords.{IsOpened, opened_group}
use Rattle.plan_compiler.specs.ItemTests.{asks_nothing}
use Rattle.plan_compiler.specs.CheapPlans.{is_single, is_word}
use Rattle.plan_kinds.specs.steps.JoinedPhrases.{phrase_of}
use Rattle.plan_kinds.specs.steps.OutsidePhrases.{outside_of}
use Rattle.plan_kinds.specs.steps.PlacedPhrases.{edge_of, filter_edge}
use Rattle.plan_kinds.specs.steps.MergeKinds.{merge_of}
use Rattle.plan_kinds.proofs.CheapLaw.{unmerged}
use Rattle.plan_kinds.proofs.OutsideLaw.{outside_law}
use Rattle.plan_kinds.proofs.PlacedLaw.{both_found, filter_is, phrase_is}
use Rattle.plan_runs.specs.steps.RunCosts.{run_cost}
use Rattle.plan_runs.specs.steps.RunShapes.{PlacedShape, Shape, at_edge, by_spots, outside, placed_shape, shape}
use Rattle.plan_runs.specs.steps.RunSkips.{placed_skip, skip}
use Rattle.plan_runs.specs.steps.Skips.{ends_before}
use Rattle.plan_runs.specs.steps.RunTruth.{ArePlaced, IsSound, placed_say, run_truth}
use Rattle.plan_compiler.specs.declared.item_matching.ItemTest.{ItemTest}
use Rattle.plan_compiler.specs.declared.looks.Looks.{Looks}
use Rattle.plan_compiler.specs.declared.node.Node as N
use Rattle.plan_compiler.specs.declared.operator_plan.OperatorPlan.{OperatorPlan, Phrase, Choice', Both', MildNot', Negated', Filtered'}
use Rattle.plan_compiler.specs.declared.operator_plan.PhraseTests.{PhraseTests}
use Rattle.plan_compiler.specs.declared.operator_plan.WaysPlan.{WaysPlan}
use Rattle.plan_runs.specs.declared.run_node.RunNode as R
use Rattle.plan_runs.specs.declared.run_placed.RunPlaced.{RunPlaced}
use Rattle.plan_compiler.proofs.NodeViews.{cheap-Ways, truth-Ways}
use Rattle.plan_runs.proofs.LackLaw.{found_lacks, operator_lacks}
use Rattle.plan_runs.proofs.OpenedLemmas.{group_fits, variants_there}
use Rattle.plan_runs.proofs.OpenedWays.{aims_law, own_text}
use Rattle.plan_runs.proofs.RunViews.{shape-Placed}
use Rattle.plan_runs.proofs.SkipLaw.{absent, none_ways, variants_found}

module _ (looks : Looks) (stems : List Stem) (version : List Numbered) where
  -- the phrases say what the compiled selection says
  pub record IsPlaced (plan : OperatorPlan) (phrases : PlacedShape) : Type 0 where
    pub there : ArePlaced version phrases
    pub lacks : (doc : ℕ) (part : Span) (to : ℕ) → ends_before to (placed_skip doc part phrases) ≡ true → operator_lacks (absent looks stems version doc part to) plan ≡ true
    pub says : (asked : AskedSpan)
        → satisfied (matches_of (own_span asked.span) ((opened_aims looks stems version plan).operators asked.doc asked.span)) ≡ placed_say version phrases asked

  -- what the words of a phrase want in a span
  abbrev wants : AskedSpan → PhraseTests → List (List Wanted)
  wants asked found = map (map (wanted_at version asked.doc asked.span)) (map (opened_variant looks stems version) found.variants)

  -- ---- a phrase at an edge

  at_edge_says : (edge : Edge) (found : PhraseTests) (asked : AskedSpan)
      → satisfied (matches_of (own_span asked.span) (through_filter ((phrase_opened looks stems version found).operators asked.doc asked.span) (edge_filter edge)))
      ≡ placed_say version (at_edge edge (map (opened_variant looks stems version) found.variants)) asked
  at_edge_says edge found asked =
      told_edge asked.span (numbered_hit found.number (breaks_of (document_at asked.doc version)) asked.span) (λ at. record { from = refl; to = refl; whole = refl }) edge (wants asked found)

  filtered_placed : (p : _) (kind : Filter) (edge : Edge) (found : PhraseTests) → kind ≡ edge_filter edge
      → IsPlaced (Filtered' p (Phrase found) kind) (at_edge edge (map (opened_variant looks stems version) found.variants))
  unfolding opened_aims operator_lacks
  filtered_placed p kind edge found is = record {
    there = variants_there looks stems version found.variants;
    lacks = λ doc part to h. variants_found looks stems version doc part to found h;
    says = λ asked.
        ap (λ (own : Filter). satisfied (matches_of (own_span asked.span) (through_filter ((phrase_opened looks stems version found).operators asked.doc asked.span) own))) is
        ∙ at_edge_says edge found asked;
  }

  pub edge_placed : (plan : OperatorPlan) (edge : Edge) (found : PhraseTests) → edge_of plan ≡ Some (edge, found)
      → IsPlaced plan (at_edge edge (map (opened_variant looks stems version) found.variants))
  edge_placed (Phrase own) edge found h = absurd (none-some (edge, found) h)
  edge_placed (Choice' p left right) edge found h = absurd (none-some (edge, found) h)
  edge_placed (Both' p left right) edge found h = absurd (none-some (edge, found) h)
  edge_placed (MildNot' p left right) edge found h = absurd (none-some (edge, found) h)
  edge_placed (Negated' p operand) edge found h = absurd (none-some (edge, found) h)
  edge_placed (Filtered' p operand kind) edge found h =
      let parts = both_found (filter_edge kind) (phrase_of operand) edge found h in
      subst (λ (own : OperatorPlan). IsPlaced (Filtered' p own kind) (at_edge edge (map (opened_variant looks stems version) found.variants))) (sym (phrase_is operand found parts.1))
      (filtered_placed p kind edge found (filter_is kind edge parts.0))

  -- ---- a phrase outside another one

  -- the hit of a phrase on a spot
  abbrev hit_on : AskedSpan → PhraseTests → Spot → Hit
  hit_on asked found = numbered_hit found.number (breaks_of (document_at asked.doc version)) asked.span

  abbrev both_opened : Outside → PhraseTests → PhraseTests → PlacedShape
  both_opened kind left right = outside kind (opened_group looks stems version left.variants) (opened_group looks stems version right.variants)

  uncovered_placed : (p : _) (left right : PhraseTests) → IsPlaced (MildNot' p (Phrase left) (Phrase right)) (both_opened Cover left right)
  unfolding opened_aims operator_lacks
  uncovered_placed p left right = record {
    there = (group_fits looks stems version left.variants, group_fits looks stems version right.variants);
    lacks = λ doc part to h. variants_found looks stems version doc part to left h;
    says = λ asked.
        told_apart asked.span (hit_on asked left) (hit_on asked right) (λ at. record { from = refl; to = refl; whole = refl }) (λ at. record { from = refl; to = refl; whole = refl })
        (wants asked left) (wants asked right);
  }

  -- ---- a word in a window without another one

  -- variants of one word want one word
  single_wants : (asked : AskedSpan) (variants : List (List ItemTest)) → list_all is_single variants ≡ true
      → list_all (λ (variant : List Wanted). length variant == 1) (map (map (wanted_at version asked.doc asked.span)) (map (opened_variant looks stems version) variants)) ≡ true
  single_wants asked [] h = refl
  single_wants asked (tests ∷ variants) h =
      let parts = and_parts (is_single tests) (list_all is_single variants) h in
      let one = and_parts (length tests == 1) (list_all (λ test. not (asks_nothing test)) tests) parts.0 in
      let opened = opened_variant looks stems version tests in
      let long = length-map opened (wanted_at version asked.doc asked.span) ∙ length-map tests (opened_item looks stems version) in
      λ i. ((ap (λ words. words == 1) long ∙ one.0) i) && single_wants asked variants parts.1 i

  abbrev without : AskedSpan → PhraseTests → PhraseTests → Operator
  without asked word other =
      together ((phrase_opened looks stems version word).operators asked.doc asked.span) (negated ((phrase_opened looks stems version other).operators asked.doc asked.span))

  clear_says : (size : ℕ) (word other : PhraseTests) → is_word word ≡ true → is_word other ≡ true → (asked : AskedSpan)
      → satisfied (matches_of (own_span asked.span) (through_filter (without asked word other) (F.Window size Unit.Words)))
      ≡ placed_say version (both_opened (Window size) word other) asked
  clear_says size word other one two asked =
      told_clear asked.span (hit_on asked word) (hit_on asked other) (λ at. record { from = refl; to = refl; whole = refl }) (λ at. record { from = refl; to = refl; whole = refl })
      size (wants asked word) (wants asked other) (single_wants asked word.variants one) (single_wants asked other.variants two)

  word_placed : (p : _) (q : _) (r : _) (size : ℕ) (word other : PhraseTests) → is_word word ≡ true → is_word other ≡ true
      → IsPlaced (Filtered' p (Both' q (Phrase word) (Negated' r (Phrase other))) (F.Window size Unit.Words)) (both_opened (Window size) word other)
  unfolding opened_aims operator_lacks
  word_placed p q r size word other one two = record {
    there = (group_fits looks stems version word.variants, group_fits looks stems version other.variants);
    lacks = λ doc part to h. or_left (found_lacks (absent looks stems version doc part to) word) false (variants_found looks stems version doc part to word h);
    says = clear_says size word other one two;
  }

  last_word_placed : (p : _) (q : _) (r : _) (size : ℕ) (word other : PhraseTests) → is_word word ≡ true → is_word other ≡ true
      → IsPlaced (Filtered' p (Both' q (Negated' r (Phrase other)) (Phrase word)) (F.Window size Unit.Words)) (both_opened (Window size) word other)
  unfolding opened_aims matches_of operator_lacks
  last_word_placed p q r size word other one two = record {
    there = (group_fits looks stems version word.variants, group_fits looks stems version other.variants);
    lacks = λ doc part to h. variants_found looks stems version doc part to word h;
    says = λ asked.
        ap (λ ms. satisfied (ft_filtered (F.Window size Unit.Words) (own_span asked.span) ms))
        (negated_first (own_span asked.span) (map (hit_on asked word) (spots_of asked.span (wants asked word))) (map (hit_on asked other) (spots_of asked.span (wants asked other))))
        ∙ clear_says size word other one two asked;
  }

  pub outside_placed : (plan : OperatorPlan) (kind : Outside) (left right : PhraseTests) → outside_of plan ≡ Some (kind, left, right) → IsPlaced plan (both_opened kind left right)
  outside_placed =
      outside_law (λ plan kind left right. IsPlaced plan (both_opened kind left right))
      (record { not_in = uncovered_placed; negated_last = word_placed; negated_first = last_word_placed })

  -- ---- opened

  pub placed_opened : (run : RunPlaced) (plan : WaysPlan) (phrases : PlacedShape) → merge_of plan.operator ≡ None → IsPlaced plan.operator phrases → placed_shape run ≡ phrases
      → IsOpened looks stems version (shape (R.Placed run)) (N.Ways plan)
  unfolding run_truth skip IsSound run_cost
  placed_opened run plan phrases none placed opened =
      let own : shape (R.Placed run) ≡ by_spots phrases = shape-Placed run ∙ ap by_spots opened in
      subst (λ (s : Shape). IsOpened looks stems version s (N.Ways plan)) (sym own) (record {
        sound = placed.there;
        says = λ asked there.
            let text = looked_text looks stems (tokens_in version asked) in
            sym (placed.says asked)
            ∙ (λ i. satisfied (matches_of (own_text looks stems version asked there i) (aims_law looks stems version asked there plan.operator i)))
            ∙ sym (truth-Ways plan text);
        none = λ part asked tokens left h. none_ways looks stems version part asked tokens left plan (placed.lacks asked.doc part asked.span.to h);
        cost = λ word_cost test_cost fair most. omega arith;
        cheap = λ counts h. absurd (true≢false (sym h ∙ cheap-Ways counts plan ∙ unmerged plan.operator none));
      })
