-- Opened words that are counted say of the spans of documents what the compiled ones say of their tokens.
use Rattle.std.proofs.Common.{◌≡◌, refl, sym, ap, subst, ◌∙◌, ℕ, suc, ◌+◌, ◌-◌, ◌≤◌, ◌==◌, Bool, true, false, true≢false, cond, ◌&&◌, List, [], ◌∷◌, ◌++◌, map, filter, flat_map, fold, length, arith}
use Rattle.std.specs.Prelude.{nat_le, nat_lt}
use Rattle.std.specs.List.{All, list_all, list_any, sum_by}
use Rattle.std.proofs.lemmas.Bool.{and_from, and_parts, eq-eqb}
use Rattle.std.proofs.lemmas.List.{map-append}
use Rattle.std.proofs.lemmas.List.Elements.{All-append, All-cons, All-nil, All-push}
use Rattle.std.proofs.lemmas.List.Sums.{sum_by-append, sum_by-cons}
use Rattle.ft_base.specs.declared.hit.Hit.{Hit}
use Rattle.ft_base.specs.declared.places.Breaks.{Breaks}
use Rattle.ft_base.specs.declared.span.Span.{Span}
use Rattle.ft_base.specs.declared.unit.TextUnit.{TextUnit}
use Rattle.ft_base.specs.declared.unit.TextUnit.TheVariants as Unit
use Rattle.ft_base.proofs.Truth.{same_tests}
use Rattle.all_matches.specs.Counting.{by_length, put_variant, with_variant}
use Rattle.all_matches.proofs.ListTests.{list_any-map}
use Rattle.count_merges.specs.Groups.{told_hit}
use Rattle.count_merges.proofs.PhraseLemmas.{groups_much, much, phrases_much}
use Rattle.counted_shapes.specs.Accepted.{fit_in}
use Rattle.counted_shapes.specs.Fields.{in_unit, in_window}
use Rattle.counted_shapes.specs.Shapes.{Counted, fit_in_unit, fit_in_window, has_enough, is_at_most}
use Rattle.counted_shapes.specs.Told.{IsTold, are_told_from, is_told_from}
use Rattle.counted_shapes.specs.declared.field.Field.{Field}
use Rattle.counted_shapes.specs.declared.field.Field.TheVariants.{Window, Sentence, Paragraph}
use Rattle.counted_shapes.proofs.CountedLemmas.{some-unit, some-window}
use Rattle.counted_shapes.proofs.ToldLemmas.{told-unit, told-window}
use Rattle.index_meaning.specs.Documents.{Numbered, breaks_of, document_at}
use Rattle.index_phrases.specs.Phrases.{last_place, numbered_hit, wanted_at}
use Rattle.index_phrases.specs.declared.word_terms.WordTerms.{WordTerms}
use Rattle.index_phrases.specs.steps.Aiming.{AreThere}
use Rattle.place_merges.specs.Places.{Wanted}
use Rattle.place_merges.specs.Spots.{some_at}
use Rattle.place_merges.specs.declared.spot.Spot.{Spot}
use Rattle.spot_merges.specs.Edges.{spots_of}
use Rattle.spot_merges.proofs.SpotRanges.{kept_lie, lies_in, lying}
use Rattle.word_lists.specs.Stems.{Stem}
use Rattle.plan_compiler.specs.CountedPlans.{counted_at, hits_of_phrases, items_cost, phrases_cost}
use Rattle.plan_compiler.specs.NodeCosts.{node_cost}
use Rattle.plan_compiler.specs.NodeMeaning.{truth}
use Rattle.plan_compiler.specs.Operators.{LookedText, hits_by_tests, looked_text}
use Rattle.plan_compiler.specs.declared.counted_plan.CountedPlan.{CountedPlan}
use Rattle.plan_compiler.specs.declared.counted_plan.CountedWords.{CountedWords}
use Rattle.plan_compiler.specs.declared.item_matching.ItemTest.{ItemTest}
use Rattle.plan_compiler.specs.declared.looks.Looks.{Looks}
use Rattle.plan_compiler.specs.declared.node.Node.{Node}
use Rattle.plan_compiler.specs.declared.node.Node as N
use Rattle.plan_compiler.specs.declared.operator_plan.PhraseTests.{PhraseTests}
use Rattle.plan_compiler.proofs.GroupLemmas.{by_length-map, by_length-sum, map_group, of_group}
use Rattle.plan_compiler.proofs.NodeViews.{cheap-Counted, cost-Counted, truth-Counted}
use Rattle.plan_compiler.proofs.SumLemmas.{sum_over_le}
use Rattle.plan_kinds.specs.steps.RisingUnits.{started_rises}
use Rattle.plan_compiler.specs.CheapPlans.{is_cheap_node}
use Rattle.plan_runs.specs.steps.AskedSpans.{AskedSpan, IsAsked, tokens_in}
use Rattle.plan_runs.specs.steps.Counts.{TermCounts, TermGroups, field_unit, item_cost, opened_count, opened_counts, opened_groups, terms_counted, unit_number}
use Rattle.plan_runs.specs.steps.OpenedItems.{opened_item, opened_variant}
use Rattle.plan_runs.specs.steps.CheapShapes.{is_cheap_shape}
use Rattle.plan_runs.specs.steps.OpenedWords.{IsOpened}
use Rattle.plan_runs.specs.steps.RunCosts.{run_cost}
use Rattle.plan_runs.specs.steps.RunSkips.{skip}
use Rattle.plan_runs.specs.steps.RunShapes.{Shape, by_counts, counts_shape, shape}
use Rattle.plan_runs.specs.steps.RunTruth.{IsSound, run_truth}
use Rattle.plan_runs.specs.declared.run_counts.RunCounts.{RunCounts}
use Rattle.plan_runs.specs.declared.run_node.RunNode as R
use Rattle.plan_runs.proofs.OpenedLemmas.{group_cheap, variants_there}
use Rattle.plan_runs.proofs.OpenedWays.{phrase_law}
use Rattle.plan_runs.proofs.RunViews.{shape-Counted}
use Rattle.plan_runs.proofs.SkipLaw.{none_counts}

-- ---- hits that are told so, and more of them behind

told_append : (before : ℕ) (kind : TextUnit) (told hits others more : List Hit) → are_told_from before kind told hits ≡ true → are_told_from before kind others more ≡ true
    → are_told_from before kind (told ++ others) (hits ++ more) ≡ true
told_append before kind [] [] others more h k = k
told_append before kind [] (hit ∷ hits) others more h k = absurd (true≢false (sym h))
told_append before kind (one ∷ told) [] others more h k = absurd (true≢false (sym h))
told_append before kind (one ∷ told) (hit ∷ hits) others more h k =
    let parts = and_parts (is_told_from before kind one hit) (are_told_from before kind told hits) h in
    and_from (is_told_from before kind one hit) (are_told_from before kind (told ++ others) (hits ++ more)) parts.0 (told_append before kind told hits others more parts.1 k)

-- ---- items with as many hits in each field fit alike

module _ {A : Type 0} (f g : A → Counted) (same : (a : A) (field : Hit → Bool) → has_enough field (f a) ≡ has_enough field (g a)) where
  all_alike : (field : Hit → Bool) (items : List A) → list_all (has_enough field) (map f items) ≡ list_all (has_enough field) (map g items)
  all_alike field [] = refl
  all_alike field (item ∷ rest) = λ i. same item field i && all_alike field rest i

  module _ (items : List A) (one : list_any (λ item. nat_lt 0 item.least) (map f items) ≡ true) (other : list_any (λ item. nat_lt 0 item.least) (map g items) ≡ true) where
    window_alike : (size : ℕ) (kind : TextUnit) → fit_in_window size kind (map f items) ≡ fit_in_window size kind (map g items)
    window_alike size kind =
        same_tests (fit_in_window size kind (map f items)) (fit_in_window size kind (map g items))
        (λ fits. let last = (some-window size kind (map f items) one).0 fits in
        (some-window size kind (map g items) other).1 (last.0, sym (all_alike (in_window size kind last.0) items) ∙ last.1))
        (λ fits. let last = (some-window size kind (map g items) other).0 fits in
        (some-window size kind (map f items) one).1 (last.0, all_alike (in_window size kind last.0) items ∙ last.1))

    unit_alike : (kind : TextUnit) → fit_in_unit kind (map f items) ≡ fit_in_unit kind (map g items)
    unit_alike kind =
        same_tests (fit_in_unit kind (map f items)) (fit_in_unit kind (map g items))
        (λ fits. let number = (some-unit kind (map f items) one).0 fits in
        (some-unit kind (map g items) other).1 (number.0, sym (all_alike (in_unit kind number.0) items) ∙ number.1))
        (λ fits. let number = (some-unit kind (map g items) other).0 fits in
        (some-unit kind (map f items) one).1 (number.0, all_alike (in_unit kind number.0) items ∙ number.1))

    fit_alike : (field : Field) → fit_in field (map f items) ≡ fit_in field (map g items)
    fit_alike (Window size kind) = window_alike size kind
    fit_alike Sentence = unit_alike Unit.Sentences
    fit_alike Paragraph = unit_alike Unit.Paragraphs

fit_told : {A : Type 0} (told plain : A → Counted) (before : ℕ) (field : Field) → ((a : A) → IsTold before (field_unit field) (told a) (plain a)) → (items : List A)
    → fit_in field (map told items) ≡ fit_in field (map plain items)
fit_told told plain before (Window size kind) is items = told-window before kind told plain is size items
fit_told told plain before Sentence is items = told-unit before Unit.Sentences told plain is items
fit_told told plain before Paragraph is items = told-unit before Unit.Paragraphs told plain is items

-- ---- numbers of a span

put_back : (n m : ℕ) → m ≤ n → ((n - m) + m == n) ≡ true
put_back n m h = eq-eqb ((n - m) + m) n (omega (arith, h))

unit_rises : (kind : TextUnit) (breaks : Breaks) (first second : ℕ) → first ≤ second → unit_number kind breaks first ≤ unit_number kind breaks second
unit_rises Unit.Words breaks first second h = h
unit_rises Unit.Sentences breaks first second h = started_rises breaks.sentences first second h
unit_rises Unit.Paragraphs breaks first second h = started_rises breaks.paragraphs first second h

module _ (kind : TextUnit) (breaks : Breaks) (span : Span) (number : ℕ) where
  abbrev unit : ℕ → ℕ
  unit = unit_number kind breaks

  abbrev before : ℕ
  before = unit span.from - 1

  -- a place of the span, in the span's numbers and in those of the document
  place_told : (place : ℕ) → span.from ≤ place → ((unit place - before) + before == unit place) ≡ true
  place_told place h =
      let rises = unit_rises kind breaks span.from place h in
      put_back (unit place) before (omega (arith, rises))

spot_told : (kind : TextUnit) (breaks : Breaks) (span : Span) (number : ℕ) (at : Spot) → span.from ≤ at.place
    → is_told_from (before kind breaks span number) kind (numbered_hit number breaks span at) (told_hit (unit_number kind breaks) at) ≡ true
spot_told Unit.Words breaks span number at h =
    and_from _ _ (place_told Unit.Words breaks span number at.place h) (place_told Unit.Words breaks span number (last_place at) (omega (arith, h)))
spot_told Unit.Sentences breaks span number at h =
    and_from _ _ (place_told Unit.Sentences breaks span number at.place h) (place_told Unit.Sentences breaks span number (last_place at) (omega (arith, h)))
spot_told Unit.Paragraphs breaks span number at h =
    and_from _ _ (place_told Unit.Paragraphs breaks span number at.place h) (place_told Unit.Paragraphs breaks span number (last_place at) (omega (arith, h)))

spots_told : (kind : TextUnit) (breaks : Breaks) (span : Span) (number : ℕ) (spots : List Spot) → list_all (lies_in span.from span.to) spots ≡ true
    → are_told_from (before kind breaks span number) kind (map (numbered_hit number breaks span) spots) (map (told_hit (unit_number kind breaks)) spots) ≡ true
spots_told kind breaks span number [] h = refl
spots_told kind breaks span number (at ∷ rest) h =
    let parts = and_parts (lies_in span.from span.to at) (list_all (lies_in span.from span.to) rest) h in
    and_from _ _ (spot_told kind breaks span number at (lying span.from span.to at parts.0).0) (spots_told kind breaks span number rest parts.1)

-- ---- groups of terms that are those of the version

map_twice : {A B C : Type 0} (f : B → C) (g : A → B) (xs : List A) → map f (map g xs) ≡ map (λ x. f (g x)) xs
map_twice f g [] = refl
map_twice f g (x ∷ xs) = ap (λ ys. f (g x) ∷ ys) (map_twice f g xs)

module _ (version : List Numbered) where
  abbrev IsThereAll : ℕ × List (List WordTerms) → Type 0
  IsThereAll group = All (All (AreThere version)) group.1

  put_there : (variant : List WordTerms) → All (AreThere version) variant → (groups : TermGroups) → All IsThereAll groups → All IsThereAll (put_variant variant groups)
  put_there variant h [] all =
      All-cons IsThereAll (length variant, variant ∷ []) [] (All-cons (All (AreThere version)) variant [] h (All-nil (All (AreThere version)))) (All-nil IsThereAll)
  put_there variant h (group ∷ rest) all =
      let first : IsThereAll group = all 0 group (omega arith) in
      let others : All IsThereAll rest = λ k d lt. all (suc k) d (omega (arith, lt)) in
      elim (length variant == group.0) as (λ b. All IsThereAll (cond b ((group.0, group.1 ++ variant ∷ []) ∷ rest) (group ∷ put_variant variant rest))) [
        | true ↦ All-cons IsThereAll (group.0, group.1 ++ variant ∷ []) rest (All-push (All (AreThere version)) group.1 variant first h) others
        | false ↦ All-cons IsThereAll group (put_variant variant rest) first (put_there variant h rest others)
      ]

  with_there : (groups : TermGroups) (variant : List WordTerms) → All (AreThere version) variant → All IsThereAll groups → All IsThereAll (with_variant groups variant)
  with_there groups [] h all = all
  with_there groups (word ∷ words) h all = put_there (word ∷ words) h groups all

  fold_there : (variants : List (List WordTerms)) (groups : TermGroups) → All (All (AreThere version)) variants → All IsThereAll groups → All IsThereAll (fold with_variant groups variants)
  fold_there [] groups h all = all
  fold_there (variant ∷ rest) groups h all =
      fold_there rest (with_variant groups variant) (λ k d lt. h (suc k) d (omega (arith, lt))) (with_there groups variant (h 0 variant (omega arith)) all)

-- ---- what the opened words say

module _ (looks : Looks) (stems : List Stem) (version : List Numbered) where
  phrases_there : (phrases : List PhraseTests) → All (IsThereAll version) (flat_map (opened_groups looks stems version) phrases)
  phrases_there [] = All-nil (IsThereAll version)
  phrases_there (found ∷ rest) =
      All-append (IsThereAll version) (opened_groups looks stems version found) (flat_map (opened_groups looks stems version) rest)
      (fold_there version (map (opened_variant looks stems version) found.variants) [] (variants_there looks stems version found.variants) (All-nil (IsThereAll version))) (phrases_there rest)

  items_there : (items : List CountedWords) → All (λ (item : TermCounts). All (IsThereAll version) item.groups) (map (opened_count looks stems version) items)
  items_there [] = All-nil (λ (item : TermCounts). All (IsThereAll version) item.groups)
  items_there (item ∷ rest) =
      All-cons (λ (one : TermCounts). All (IsThereAll version) one.groups) (opened_count looks stems version item) (map (opened_count looks stems version) rest) (phrases_there item.phrases) (items_there rest)

  module _ (asked : AskedSpan) (there : IsAsked version asked) (field : Field) where
    abbrev breaks : Breaks
    breaks = breaks_of (document_at asked.doc version)

    abbrev text : LookedText
    text = looked_text looks stems (tokens_in version asked)

    abbrev number_of : ℕ → ℕ
    number_of = unit_number (field_unit field) breaks

    abbrev wants : PhraseTests → List (List Wanted)
    wants found = map (map (wanted_at version asked.doc asked.span)) (map (opened_variant looks stems version) found.variants)

    abbrev spots_hits : PhraseTests → List Hit
    spots_hits found = map (told_hit number_of) (spots_of asked.span (wants found))

    -- the hits on the spots of the document, phrase by phrase
    abbrev by_phrases : CountedWords → Counted
    by_phrases item = record { hits = flat_map spots_hits item.phrases; least = item.least; most = item.most }

    abbrev by_groups : CountedWords → Counted
    by_groups item = terms_counted version field asked (opened_count looks stems version item)

    phrases_told : (phrases : List PhraseTests) → are_told_from (before (field_unit field) breaks asked.span 0) (field_unit field) (hits_of_phrases text phrases) (flat_map spots_hits phrases) ≡ true
    phrases_told [] = refl
    phrases_told (found ∷ rest) =
        told_append (before (field_unit field) breaks asked.span 0) (field_unit field) (hits_by_tests text found.number found.variants) (spots_hits found) (hits_of_phrases text rest) (flat_map spots_hits rest)
        (ap (λ (hits : List Hit). are_told_from (before (field_unit field) breaks asked.span 0) (field_unit field) hits (spots_hits found)) (sym (phrase_law looks stems version asked there found.number found.variants))
        ∙ spots_told (field_unit field) breaks asked.span found.number (spots_of asked.span (wants found)) (kept_lie (some_at asked.span.to (wants found)) asked.span.from asked.span.to))
        (phrases_told rest)

    item_told : (item : CountedWords) → IsTold (before (field_unit field) breaks asked.span 0) (field_unit field) (counted_at text item) (by_phrases item)
    item_told item = record { hits = phrases_told item.phrases; least = refl; most = refl }

    abbrev wanted_group : ℕ × List (List WordTerms) → ℕ × List (List Wanted)
    wanted_group = map_group (wanted_at version asked.doc asked.span)

    groups_are : (phrases : List PhraseTests) → map wanted_group (flat_map (opened_groups looks stems version) phrases) ≡ flat_map by_length (map wants phrases)
    groups_are [] = refl
    groups_are (found ∷ rest) =
        map-append wanted_group (opened_groups looks stems version found) (flat_map (opened_groups looks stems version) rest)
        ∙ (λ i. sym (by_length-map (wanted_at version asked.doc asked.span) (map (opened_variant looks stems version) found.variants)) i ++ groups_are rest i)

    phrases_flat : (phrases : List PhraseTests) → flat_map (λ (variants : List (List Wanted)). map (told_hit number_of) (spots_of asked.span variants)) (map wants phrases) ≡ flat_map spots_hits phrases
    phrases_flat [] = refl
    phrases_flat (found ∷ rest) = ap (λ (hits : List Hit). spots_hits found ++ hits) (phrases_flat rest)

    item_alike : (item : CountedWords) (test : Hit → Bool) → has_enough test (by_groups item) ≡ has_enough test (by_phrases item)
    item_alike item test =
        let count = groups_much number_of asked.span test wanted_group (flat_map (opened_groups looks stems version) item.phrases)
        ∙ ap (sum_by (much number_of asked.span test)) (groups_are item.phrases)
        ∙ sym (phrases_much number_of asked.span test (map wants item.phrases))
        ∙ ap (λ (hits : List Hit). length (filter test hits)) (phrases_flat item.phrases) in
        λ i. nat_le item.least (count i) && is_at_most item.most (count i)

  -- ---- what they cost, where no word costs more than its test

  module _ (word_cost : WordTerms → ℕ) (test_cost : ItemTest → ℕ) (most : (test : ItemTest) → word_cost (opened_item looks stems version test) ≤ test_cost test) where
    phrases_paid : (phrases : List PhraseTests) → sum_by (of_group (sum_by word_cost) refl) (flat_map (opened_groups looks stems version) phrases) ≤ phrases_cost test_cost phrases
    phrases_paid [] = omega arith
    phrases_paid (found ∷ rest) =
        let groups = by_length-sum (sum_by word_cost) refl (map (opened_variant looks stems version) found.variants) in
        let own = group_cheap looks stems version word_cost test_cost most found.variants in
        let both = sum_by-append (of_group (sum_by word_cost) refl) (opened_groups looks stems version found) (flat_map (opened_groups looks stems version) rest) in
        let all = sum_by-cons (λ (one : PhraseTests). sum_by (sum_by test_cost) one.variants) found rest in
        let others = phrases_paid rest in
        omega (arith, groups, own, both, all, others)

    items_paid : (items : List CountedWords) → sum_by (item_cost word_cost) (map (opened_count looks stems version) items) ≤ items_cost test_cost items
    items_paid items =
        sum_over_le (item_cost word_cost) (λ (item : CountedWords). phrases_cost test_cost item.phrases) (opened_count looks stems version) (λ item. phrases_paid item.phrases) items

  pub counts_opened : (run : RunCounts) (plan : CountedPlan) (node : Node) → node ≡ N.Counted plan → counts_shape run ≡ opened_counts looks stems version plan
      → IsOpened looks stems version (shape (R.Counted run)) node
  unfolding run_truth skip IsSound run_cost is_cheap_shape
  counts_opened run plan node is opened =
      let own : shape (R.Counted run) ≡ by_counts (opened_counts looks stems version plan) = shape-Counted run ∙ ap by_counts opened in
      subst (λ (s : Shape). IsOpened looks stems version s node) (sym own) (record {
        sound = record {
          bounds = refl;
          fronts = refl;
          backs = refl;
          there = items_there plan.items;
          asks = list_any-map (λ (item : TermCounts). nat_lt 0 item.least) (opened_count looks stems version) plan.items ∙ plan.asks;
        };
        says = λ asked there.
            let whole = looked_text looks stems (tokens_in version asked) in
            ap (fit_in plan.field) (map_twice (terms_counted version plan.field asked) (opened_count looks stems version) plan.items)
            ∙ fit_alike (by_groups asked there plan.field) (by_phrases asked there plan.field) (item_alike asked there plan.field) plan.items
            (list_any-map (λ (item : Counted). nat_lt 0 item.least) (by_groups asked there plan.field) plan.items ∙ plan.asks)
            (list_any-map (λ (item : Counted). nat_lt 0 item.least) (by_phrases asked there plan.field) plan.items ∙ plan.asks) plan.field
            ∙ sym (fit_told (counted_at whole) (by_phrases asked there plan.field) (before (field_unit plan.field) (breaks_of (document_at asked.doc version)) asked.span 0) plan.field (item_told asked there plan.field) plan.items)
            ∙ sym (ap (λ (n : Node). truth n whole) is ∙ truth-Counted plan whole);
        none = λ part asked tokens left h.
            ap (λ (n : Node). truth n (looked_text looks stems tokens)) is
            ∙ none_counts looks stems version part asked tokens left plan h;
        cost = λ word_cost test_cost fair most.
            let paid = items_paid word_cost test_cost most plan.items in
            let whole = ap (node_cost test_cost) is ∙ cost-Counted test_cost plan in
            omega (arith, paid, whole);
        cheap = λ counts h. sym (ap (is_cheap_node counts) is ∙ cheap-Counted counts plan) ∙ h;
      })
