-- Compiled words opened over a version say of words of its documents what they say by tests.
use Rattle.std.proofs.Common.{◌≡◌, refl, sym, ap, ◌∙◌, ℕ, ◌+◌, ◌<◌, ◌≤◌, suc, Bool, true, false, ◌&&◌, ◌||◌, not, cond, List, [], ◌∷◌, ◌++◌, map, sum, length, get_or, take, true≢false, arith, subst, inl, inr, Box, Global}
use Rattle.std.specs.List.{All, list_all, list_any, range_with_len, sum_by}
use Rattle.std.specs.declared.vec.Vec.{Vec}
use Rattle.std.proofs.Math.Bool.{or-false}
use Rattle.std.proofs.lemmas.Bool.{and_from, and_left, and_parts, and_right, or_cases}
use Rattle.std.proofs.lemmas.List.{map_more, map_push, take_more}
use Rattle.std.proofs.lemmas.List.Folds.{list_all-append, list_any-append}
use Rattle.ft_base.specs.declared.span.Span.{Span}
use Rattle.std.proofs.lemmas.List.Elements.{All-filter, All-from_get_or, All-map, All-push}
use Rattle.std.proofs.lemmas.List.Sums.{sum_by_more, sum_by_push}
use Rattle.std.proofs.lemmas.List.FromFn.{get_or-range_with_len, length-range_with_len}
use Rattle.all_matches.specs.Compositional.{enough}
use Rattle.all_matches.specs.Counting.{begins_as, places}
use Rattle.all_matches.proofs.ListTests.{list_any-map}
use Rattle.index_meaning.specs.Documents.{Numbered}
use Rattle.index_versions.specs.FirstPlaces.{soonest}
use Rattle.index_versions.specs.Versions.{term_at, terms_of}
use Rattle.word_lists.specs.Stems.{Stem}
use Rattle.plan_runs.specs.steps.ChosenTerms.{AreKnown, terms_for}
use Rattle.plan_compiler.specs.ItemTests.{passes}
use Rattle.plan_compiler.specs.CheapPlans.{is_cheap_node}
use Rattle.plan_compiler.specs.NodeCosts.{node_cost}
use Rattle.plan_compiler.specs.NodeCosts as node
use Rattle.plan_compiler.specs.NodeMeaning.{truth}
use Rattle.plan_runs.specs.steps.CheapShapes.{is_cheap_shape}
use Rattle.plan_runs.specs.steps.RunCosts.{group_cost, phrase_cost, run_cost, words_cost}
use Rattle.plan_compiler.specs.Operators.{looked_text}
use Rattle.plan_runs.specs.steps.AskedSpans.{AskedSpan, tokens_in, words_in}
use Rattle.plan_runs.specs.steps.OpenedItems.{opened_item, opened_variant}
use Rattle.plan_runs.specs.steps.OpenedWords.{AreOpened, IsOpened, opened_group, opened_phrase, opened_words}
use Rattle.plan_runs.specs.steps.RunShapes.{GroupShape, Shape, shape, shapes_of, words, words_shape}
use Rattle.index_phrases.specs.steps.Aiming.{AreThere}
use Rattle.plan_runs.specs.steps.RunSkips.{skip, skips}
use Rattle.plan_runs.specs.steps.Skips.{ends_before, latest}
use Rattle.plan_runs.specs.steps.RunTruth.{AreSound, IsGroup, IsSound, IsWords, all_true, group_count, is_wanted, phrase_total, run_truth, some_true, words_say}
use Rattle.plan_compiler.specs.TextWords.{word_as}
use Rattle.plan_compiler.specs.WordsMeaning.{joined, phrase_count, words_truth}
use Rattle.plan_compiler.specs.declared.item_matching.ItemTest.{ItemTest}
use Rattle.plan_compiler.specs.declared.looks.Looks.{Looks}
use Rattle.plan_compiler.specs.declared.node.Node.{Node}
use Rattle.plan_compiler.specs.declared.node.Node as N
use Rattle.plan_compiler.specs.declared.phrase_plan.PhrasePlan.{PhrasePlan}
use Rattle.plan_runs.specs.declared.run_node.RunNode.{RunNode}
use Rattle.plan_runs.specs.declared.run_node.RunNode as R
use Rattle.plan_runs.specs.declared.run_node.RunWords.{RunWords}
use Rattle.index_phrases.specs.declared.word_terms.WordTerms.{WordTerms}
use Rattle.plan_compiler.specs.declared.words_plan.WordsPlan.{WordsPlan}
use Rattle.plan_runs.proofs.KnownTexts.{looked_words, text_known}
use Rattle.plan_compiler.proofs.NodeViews.{truth-Words, truth-Or, truth-And, truth-Not, cheap-Or, cheap-And, cheap-Not, cost-Words, cost-Or, cost-And, cost-Not}
use Rattle.plan_compiler.proofs.SumLemmas.{sum_over_le}
use Rattle.plan_runs.proofs.OpenedTests.{every, item_says, item_there}
use Rattle.plan_runs.proofs.SkipLaw.{none_words}
use Rattle.plan_runs.proofs.SkipLemmas.{ends_latest, ends_soonest, nothing_before}
use Rattle.plan_runs.proofs.TreeLemmas.{cheap_are, costs_are}
use Rattle.plan_runs.proofs.RunViews.{shape-Words, shape-Or, shape-And, shape-Not}

-- ---- lists

map_both : {A B C : Type 0} (f : B → C) (g : A → B) (h : A → C) → ((a : A) → f (g a) ≡ h a) → (xs : List A) → map f (map g xs) ≡ map h xs
map_both f g h same [] = refl
map_both f g h same (x ∷ xs) = λ i. same x i ∷ map_both f g h same xs i

below_end : (n : ℕ) → All (λ number. number < n) (range_with_len 0 n)
below_end n = All-from_get_or (λ number. number < n) (range_with_len 0 n) 0 (λ i h.
    let many = length-range_with_len 0 n in
    let is = get_or-range_with_len 0 n i 0 (omega arith) in
    omega arith)

-- two tests of items that say the same of words and of what is looked at of them
module _ {A X Y W : Type 0} (p : X → Y → Bool) (q : A → W → Bool) (f : A → X) (g : Y → W) where
  abbrev Agrees : Y → Type 0
  Agrees y = (a : A) → p (f a) y ≡ q a (g y)

  pub begins_same : (items : List A) (text : List Y) → All Agrees text → begins_as p (map f items) text ≡ begins_as q items (map g text)
  begins_same [] text h = refl
  begins_same (a ∷ items) [] h = refl
  begins_same (a ∷ items) (y ∷ text) h = λ i. h 0 y (omega arith) a i && begins_same items text (λ k d lt. h (suc k) d (omega arith)) i

  some_same : (variants : List (List A)) (text : List Y) → All Agrees text
      → list_any (λ items. begins_as p items text) (map (map f) variants) ≡ list_any (λ items. begins_as q items (map g text)) variants
  some_same [] text h = refl
  some_same (items ∷ variants) text h = λ i. begins_same items text h i || some_same variants text h i

  places_same : (variants : List (List A)) (text : List Y) → All Agrees text → places p (map (map f) variants) text ≡ places q variants (map g text)
  places_same variants [] h = refl
  places_same variants (y ∷ text) h = λ i. cond (some_same variants (y ∷ text) h i) 1 0 + places_same variants text (λ k d lt. h (suc k) d (omega arith)) i

-- ---- terms

-- terms that pass a test are terms of the version
pub chosen_there : (test : List ℕ → Bool) (version : List Numbered) → All (λ number. number < length (terms_of version)) (terms_for test version)
chosen_there test version =
    All-filter (λ number. test (term_at number version).word) (λ number. number < length (terms_of version)) (range_with_len 0 (length (terms_of version)))
    (below_end (length (terms_of version)))

module _ (looks : Looks) (stems : List Stem) (version : List Numbered) where
  -- ---- what opened words say

  all_say : (text : List (List ℕ)) → AreKnown version text → All (Agrees (is_wanted version) passes (opened_item looks stems version) (word_as looks stems)) text
  all_say text known = λ k d h. item_says looks stems version (get_or text k d) (known k d h)

  module _ (text : List (List ℕ)) (known : AreKnown version text) where
    group_says : (variants : List (List ItemTest)) → group_count version (opened_group looks stems version variants) text ≡ places passes variants (map (word_as looks stems) text)
    group_says variants = places_same (is_wanted version) passes (opened_item looks stems version) (word_as looks stems) variants text (all_say text known)

    phrase_says : (plan : PhrasePlan) → phrase_total version (opened_phrase looks stems version plan) text ≡ phrase_count plan (map (word_as looks stems) text)
    phrase_says plan =
        ap sum (map_both (λ (group : GroupShape). group_count version group text) (opened_group looks stems version) (λ (group : List (List ItemTest)). places passes group (map (word_as looks stems) text)) group_says plan.groups)

    words_says : (plan : WordsPlan) → words_say version (opened_words looks stems version plan) text ≡ words_truth plan (map (word_as looks stems) text)
    words_says plan =
        ap (λ counts. enough plan.times (joined plan.all counts))
        (map_both (λ (phrase : List GroupShape). phrase_total version phrase text) (opened_phrase looks stems version) (λ (phrase : PhrasePlan). phrase_count phrase (map (word_as looks stems) text)) phrase_says plan.phrases)

  -- ---- opened words fit the version

  pub variants_there : (variants : List (List ItemTest)) → All (All (AreThere version)) (map (opened_variant looks stems version) variants)
  variants_there variants =
      All-map (All (AreThere version)) (opened_variant looks stems version) variants
      (every _ (λ (tests : List ItemTest). All-map (AreThere version) (opened_item looks stems version) tests (every _ (item_there looks stems version) tests)) variants)

  pub group_fits : (variants : List (List ItemTest)) → IsGroup version (opened_group looks stems version variants)
  group_fits variants = record { sized = refl; there = variants_there variants }

  words_fit : (plan : WordsPlan) → IsWords version (opened_words looks stems version plan)
  words_fit plan =
      All-map (All (IsGroup version)) (opened_phrase looks stems version) plan.phrases
      (every _ (λ (phrase : PhrasePlan). All-map (IsGroup version) (opened_group looks stems version) phrase.groups (every _ group_fits phrase.groups)) plan.phrases)

  -- ---- what opened words cost, where no word costs more than its test

  module _ (word_cost : WordTerms → ℕ) (test_cost : ItemTest → ℕ) (most : (test : ItemTest) → word_cost (opened_item looks stems version test) ≤ test_cost test) where
    pub group_cheap : (variants : List (List ItemTest)) → group_cost word_cost (opened_group looks stems version variants) ≤ sum_by (sum_by test_cost) variants
    group_cheap variants =
        sum_over_le (sum_by word_cost) (sum_by test_cost) (opened_variant looks stems version)
        (sum_over_le word_cost test_cost (opened_item looks stems version) most) variants

    phrase_cheap : (plan : PhrasePlan) → phrase_cost word_cost (opened_phrase looks stems version plan) ≤ node.phrase_cost test_cost plan
    phrase_cheap plan = sum_over_le (group_cost word_cost) (sum_by (sum_by test_cost)) (opened_group looks stems version) group_cheap plan.groups

    words_cheap : (plan : WordsPlan) → words_cost word_cost (opened_words looks stems version plan) ≤ node.words_cost test_cost plan
    words_cheap plan = sum_over_le (phrase_cost word_cost) (node.phrase_cost test_cost) (opened_phrase looks stems version) phrase_cheap plan.phrases

  -- ---- the kinds of a tree

  pub words_opened : (run : RunWords) (plan : WordsPlan) (node : Node) → node ≡ N.Words plan → words_shape run ≡ opened_words looks stems version plan → IsOpened looks stems version (shape (R.Words run)) node
  unfolding run_truth skip IsSound run_cost is_cheap_shape
  words_opened run plan node is opened =
      let own : shape (R.Words run) ≡ words (opened_words looks stems version plan) = shape-Words run ∙ ap words opened in
      subst (λ (s : Shape). IsOpened looks stems version s node) (sym own) (record {
        sound = words_fit plan;
        says = λ asked there.
            words_says (words_in version asked) (text_known version asked there) plan
            ∙ ap (words_truth plan) (looked_words looks stems version asked)
            ∙ sym (ap (λ (n : Node). truth n (looked_text looks stems (tokens_in version asked))) is ∙ truth-Words plan (looked_text looks stems (tokens_in version asked)));
        none = λ part asked tokens left h.
            ap (λ (n : Node). truth n (looked_text looks stems tokens)) is
            ∙ truth-Words plan (looked_text looks stems tokens)
            ∙ none_words looks stems version part asked tokens left plan h;
        cost = λ word_cost test_cost fair most.
            let cheap = words_cheap word_cost test_cost most plan in
            let whole = ap (node_cost test_cost) is ∙ cost-Words test_cost plan in
            omega (arith, cheap, whole);
        cheap = λ counts h. refl;
      })

  are_sound : (runs : List Shape) → All (IsSound version) runs → AreSound version (shapes_of runs)
  unfolding AreSound
  are_sound [] h = tt
  are_sound (run ∷ runs) h = (h 0 run (omega arith), are_sound runs (λ k d lt. h (suc k) d (omega arith)))

  some_is : (runs : List Shape) (asked : AskedSpan) → some_true version (shapes_of runs) asked ≡ list_any (λ b. b) (map (λ run. run_truth version run asked) runs)
  unfolding some_true
  some_is [] asked = refl
  some_is (run ∷ runs) asked = ap (λ b. run_truth version run asked || b) (some_is runs asked)

  all_is : (runs : List Shape) (asked : AskedSpan) → all_true version (shapes_of runs) asked ≡ list_all (λ b. b) (map (λ run. run_truth version run asked) runs)
  unfolding all_true
  all_is [] asked = refl
  all_is (run ∷ runs) asked = ap (λ b. run_truth version run asked && b) (all_is runs asked)

  skips_are : (doc : ℕ) (part : Span) (runs : List Shape) → skips doc part (shapes_of runs) ≡ map (skip doc part) runs
  unfolding skips
  skips_are doc part [] = refl
  skips_are doc part (run ∷ runs) = ap (λ places. skip doc part run ∷ places) (skips_are doc part runs)

  list_all-map : {X Y : Type 0} (p : Y → Bool) (f : X → Y) (xs : List X) → list_all p (map f xs) ≡ list_all (λ x. p (f x)) xs
  list_all-map p f [] = refl
  list_all-map p f (x ∷ xs) = ap (λ b. p (f x) && b) (list_all-map p f xs)

  pub or_opened : (runs : Vec RunNode Global) (parts : List Node) (node : Node) → node ≡ N.Or parts → AreOpened looks stems version (map shape runs.items) parts → IsOpened looks stems version (shape (R.Or runs)) node
  unfolding run_truth skip IsSound run_cost is_cheap_shape
  or_opened runs parts node is opened =
      subst (λ (s : Shape). IsOpened looks stems version s node) (sym (shape-Or runs)) (record {
        sound = are_sound (map shape runs.items) opened.sound;
        says = λ asked there.
            some_is (map shape runs.items) asked
            ∙ ap (list_any (λ b. b)) (opened.says asked there)
            ∙ list_any-map (λ b. b) (λ (n : Node). truth n (looked_text looks stems (tokens_in version asked))) parts
            ∙ sym (ap (λ (n : Node). truth n (looked_text looks stems (tokens_in version asked))) is ∙ truth-Or parts (looked_text looks stems (tokens_in version asked)));
        none = λ part asked tokens left h.
            ap (λ (n : Node). truth n (looked_text looks stems tokens)) is
            ∙ truth-Or parts (looked_text looks stems tokens)
            ∙ opened.none_of_any part asked tokens left
            (sym (ap (λ places. ends_before asked.span.to (soonest places)) (skips_are asked.doc part (map shape runs.items))
            ∙ ends_soonest asked.span.to (skip asked.doc part) (map shape runs.items)) ∙ h);
        cost = λ word_cost test_cost fair most.
            let cheap = opened.cost word_cost test_cost fair most in
            let all = costs_are word_cost 1 (map shape runs.items) in
            let whole = ap (node_cost test_cost) is ∙ cost-Or test_cost parts in
            omega (arith, cheap, all, whole);
        cheap = λ counts h. cheap_are counts (map shape runs.items) ∙ opened.cheap counts (sym (ap (is_cheap_node counts) is ∙ cheap-Or counts parts) ∙ h);
      })

  pub and_opened : (runs : Vec RunNode Global) (parts : List Node) (node : Node) → node ≡ N.And parts → AreOpened looks stems version (map shape runs.items) parts → IsOpened looks stems version (shape (R.And runs)) node
  unfolding run_truth skip IsSound run_cost is_cheap_shape
  and_opened runs parts node is opened =
      subst (λ (s : Shape). IsOpened looks stems version s node) (sym (shape-And runs)) (record {
        sound = are_sound (map shape runs.items) opened.sound;
        says = λ asked there.
            all_is (map shape runs.items) asked
            ∙ ap (list_all (λ b. b)) (opened.says asked there)
            ∙ list_all-map (λ b. b) (λ (n : Node). truth n (looked_text looks stems (tokens_in version asked))) parts
            ∙ sym (ap (λ (n : Node). truth n (looked_text looks stems (tokens_in version asked))) is ∙ truth-And parts (looked_text looks stems (tokens_in version asked)));
        none = λ part asked tokens left h.
            ap (λ (n : Node). truth n (looked_text looks stems tokens)) is
            ∙ truth-And parts (looked_text looks stems tokens)
            ∙ opened.none_of_all part asked tokens left
            (sym (ap (λ places. ends_before asked.span.to (latest places)) (skips_are asked.doc part (map shape runs.items))
            ∙ ends_latest asked.span.to (skip asked.doc part) (map shape runs.items)) ∙ h);
        cost = λ word_cost test_cost fair most.
            let cheap = opened.cost word_cost test_cost fair most in
            let all = costs_are word_cost 1 (map shape runs.items) in
            let whole = ap (node_cost test_cost) is ∙ cost-And test_cost parts in
            omega (arith, cheap, all, whole);
        cheap = λ counts h. cheap_are counts (map shape runs.items) ∙ opened.cheap counts (sym (ap (is_cheap_node counts) is ∙ cheap-And counts parts) ∙ h);
      })

  pub not_opened : (run : Box RunNode Global) (part : Box Node Global) (node : Node) → node ≡ N.Not part → IsOpened looks stems version (shape run.value) part.value → IsOpened looks stems version (shape (R.Not run)) node
  unfolding run_truth skip IsSound run_cost is_cheap_shape
  not_opened run part node is opened =
      subst (λ (s : Shape). IsOpened looks stems version s node) (sym (shape-Not run)) (record {
        sound = opened.sound;
        says = λ asked there.
            ap not (opened.says asked there)
            ∙ sym (ap (λ (n : Node). truth n (looked_text looks stems (tokens_in version asked))) is ∙ truth-Not part (looked_text looks stems (tokens_in version asked)));
        none = λ place asked tokens left h. absurd (true≢false (sym h ∙ nothing_before asked.span.to));
        cost = λ word_cost test_cost fair most.
            let cheap = opened.cost word_cost test_cost fair most in
            let whole = ap (node_cost test_cost) is ∙ cost-Not test_cost part in
            omega (arith, cheap, whole);
        cheap = λ counts h. opened.cheap counts (sym (ap (is_cheap_node counts) is ∙ cheap-Not counts part) ∙ h);
      })

  taken_more : (nodes : List Node) (i : ℕ) (node : Node) → i < length nodes → node ≡ get_or nodes i node → take (i + 1) nodes ≡ take i nodes ++ node ∷ []
  taken_more nodes i node h is = take_more nodes i node h ∙ ap (λ (n : Node). take i nodes ++ n ∷ []) (sym is)

  -- one part more
  pub opened_more : (before after : List RunNode) (run : RunNode) (nodes : List Node) (i : ℕ) (node : Node) → i < length nodes → node ≡ get_or nodes i node → after ≡ before ++ run ∷ []
      → IsOpened looks stems version (shape run) node → AreOpened looks stems version (map shape before) (take i nodes) → AreOpened looks stems version (map shape after) (take (i + 1) nodes)
  opened_more before after run nodes i node h is pushed opened all =
      let shapes : map shape after ≡ map shape before ++ shape run ∷ [] = ap (map shape) pushed ∙ map_push shape before run in
      record {
        sound = subst (All (IsSound version)) (sym shapes) (All-push (IsSound version) (map shape before) (shape run) all.sound opened.sound);
        says = λ asked there.
            ap (map (λ (s : Shape). run_truth version s asked)) shapes
            ∙ map_push (λ (s : Shape). run_truth version s asked) (map shape before) (shape run)
            ∙ (λ j. all.says asked there j ++ opened.says asked there j ∷ [])
            ∙ ap (λ (n : Node). map (λ (m : Node). truth m (looked_text looks stems (tokens_in version asked))) (take i nodes) ++ truth n (looked_text looks stems (tokens_in version asked)) ∷ []) is
            ∙ sym (map_more (λ (m : Node). truth m (looked_text looks stems (tokens_in version asked))) nodes i node h);
        none_of_any = λ part asked tokens left all_out.
            let is_true : Node → Bool = λ m. truth m (looked_text looks stems tokens) in
            let is_out : Shape → Bool = λ s. ends_before asked.span.to (skip asked.doc part s) in
            let sides = and_parts (list_all is_out (map shape before)) (list_all is_out (shape run ∷ []))
            (sym (list_all-append is_out (map shape before) (shape run ∷ [])) ∙ ap (list_all is_out) (sym shapes) ∙ all_out) in
            let own = opened.none part asked tokens left (and_parts (is_out (shape run)) true sides.1).0 in
            ap (list_any is_true) (taken_more nodes i node h is)
            ∙ list_any-append is_true (take i nodes) (node ∷ [])
            ∙ (λ j. all.none_of_any part asked tokens left sides.0 j || (own j || false));
        none_of_all = λ part asked tokens left some_out.
            let is_true : Node → Bool = λ m. truth m (looked_text looks stems tokens) in
            let is_out : Shape → Bool = λ s. ends_before asked.span.to (skip asked.doc part s) in
            ap (list_all is_true) (taken_more nodes i node h is)
            ∙ list_all-append is_true (take i nodes) (node ∷ [])
            ∙ elim (or_cases (list_any is_out (map shape before)) (is_out (shape run) || false)
            (sym (list_any-append is_out (map shape before) (shape run ∷ [])) ∙ ap (list_any is_out) (sym shapes) ∙ some_out)) [
              | inl first ↦ and_left (list_all is_true (take i nodes)) (is_true node && true) (all.none_of_all part asked tokens left first)
              | inr then ↦ and_right (list_all is_true (take i nodes)) (is_true node && true)
                  (and_left (is_true node) true (opened.none part asked tokens left (sym (or-false (is_out (shape run))) ∙ then)))
            ];
        cost = λ word_cost test_cost fair most.
            let sum = ap (sum_by (run_cost word_cost 1)) shapes ∙ sum_by_push (run_cost word_cost 1) (map shape before) (shape run) in
            let more = sum_by_more (node_cost test_cost) nodes i node h in
            let own = ap (node_cost test_cost) is in
            let first = all.cost word_cost test_cost fair most in
            let then = opened.cost word_cost test_cost fair most in
            omega (arith, sum, more, own, first, then);
        cheap = λ counts all_cheap.
            let cheap_node = is_cheap_node counts in
            let cheap_shape = is_cheap_shape counts in
            let sides = and_parts (list_all cheap_node (take i nodes)) (list_all cheap_node (node ∷ []))
            (sym (list_all-append cheap_node (take i nodes) (node ∷ [])) ∙ ap (list_all cheap_node) (sym (taken_more nodes i node h is)) ∙ all_cheap) in
            ap (list_all cheap_shape) shapes
            ∙ list_all-append cheap_shape (map shape before) (shape run ∷ [])
            ∙ and_from (list_all cheap_shape (map shape before)) (list_all cheap_shape (shape run ∷ [])) (all.cheap counts sides.0)
            (λ j. opened.cheap counts (and_parts (cheap_node node) true sides.1).0 j && true);
      }
