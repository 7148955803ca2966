-- Compiled counted shapes say what the shapes say, at their price.
use Rattle.std.proofs.Common.{◌≡◌, refl, ap, sym, subst, ◌∙◌, ℕ, ◌+◌, ◌<◌, Bool, true, false, true≢false, not, ◌&&◌, inl, inr, List, [], ◌∷◌, ◌++◌, map, take, get_or, length, Option, Some, None, arith, append-nil, append_assoc, Box, Global}
use Rattle.std.specs.Prelude.{is_some, nat_lt}
use Rattle.std.specs.List.{list_any, sum_by}
use Rattle.std.proofs.lemmas.Bool.{and_parts, or_cases}
use Rattle.std.proofs.lemmas.List.{map-append, take_more}
use Rattle.std.proofs.lemmas.List.Sums.{sum_by_push}
use Rattle.ft_base.specs.Selection.{Form, Forms, words, or_of, and_of, mild_not, not_of, filtered, with_options, none, more}
use Rattle.ft_base.specs.declared.filter.Filter.{Filter}
use Rattle.ft_base.specs.declared.options.Options.{Options}
use Rattle.ft_base.specs.declared.range.Range.{Range}
use Rattle.ft_base.specs.declared.token.Token.{Token}
use Rattle.ft_base.specs.declared.words.Words.{Words}
use Rattle.ft_syntax.specs.View.{form, forms_of}
use Rattle.ft_syntax.specs.declared.selection.Selection.{Selection}
use Rattle.all_matches.specs.Allowed.{each_without_times, has_no_range, without_times}
use Rattle.all_matches.specs.Meaning.{inside}
use Rattle.all_matches.proofs.ListTests.{list_any-map}
use Rattle.counted_shapes.specs.Accepted.{field_of, fit_in, is_counted}
use Rattle.counted_shapes.specs.Held.{needs_hit}
use Rattle.counted_shapes.specs.Shapes.{Counted, bare_hits, is_shape, items_of, items_of_each, least_times, most_times}
use Rattle.counted_shapes.specs.declared.field.Field.{Field}
use Rattle.counted_shapes.proofs.AcceptedLemmas.{counted-field}
use Rattle.counted_shapes.proofs.ItemLemmas.{shape-needs}
use Rattle.index_meaning.specs.Entries.{Entry}
use Rattle.plan_compiler.specs.CheapSelections.{are_single_words, counts_words, is_cheap_filter, is_cheap_under, is_single_value, is_single_word, joins_words}
use Rattle.plan_compiler.specs.CompiledCounts.{BareCounts, EachItemCompilesTo, ItemsCompileTo, ValueCounts}
use Rattle.plan_compiler.specs.CompiledSelection.{Compiles, compiled_price}
use Rattle.plan_compiler.specs.CountedPlans.{counted_at, counted_truth, hits_of_phrases, items_cost, phrases_cost}
use Rattle.plan_compiler.specs.Lexicon.{lexicon}
use Rattle.plan_compiler.specs.NamedLists.{NamedLists}
use Rattle.plan_compiler.specs.Operators.{LookedText, looked_text}
use Rattle.plan_compiler.specs.Price.{price_under, prices_under}
use Rattle.plan_compiler.specs.Served.{all_served, are_served, everything, is_served}
use Rattle.plan_compiler.specs.declared.counted_plan.CountedPlan.{CountedPlan}
use Rattle.plan_compiler.specs.declared.counted_plan.CountedWords.{CountedWords}
use Rattle.plan_compiler.specs.declared.looks.Looks.{Looks}
use Rattle.plan_compiler.specs.declared.node.Node as N
use Rattle.plan_compiler.specs.declared.operator_plan.PhraseTests.{PhraseTests}
use Rattle.plan_compiler.proofs.NodeViews.{cheap-Counted, cost-Counted, truth-Counted}
use Rattle.plan_compiler.proofs.OperatorLemmas.{prices_more, served_parts}
use Rattle.plan_compiler.proofs.SelectionMeaning.{served_inside}
use Rattle.plan_compiler.proofs.ServedLemmas.{everything_serves}

module _ (lists : NamedLists) (options : Options) where
  -- ---- words, and words that are negated

  pub words_count : (before after : List CountedWords) (item : CountedWords) (value : Words) → ValueCounts lists (inside value.options options) item.phrases value
      → item.least ≡ least_times value.times → item.most ≡ most_times value.times → after ≡ before ++ item ∷ [] → ItemsCompileTo lists options before after (words value)
  unfolding items_of is_served price_under
  words_count before after item value counts least most pushed = record {
    same = λ looks tokens outer inner.
        let text = looked_text looks lists.stems tokens in
        let own = served_inside looks value.options options inner outer in
        ap (map (counted_at text)) pushed
        ∙ map-append (counted_at text) before (item ∷ [])
        ∙ (λ i. map (counted_at text) before ++ record { hits = counts.same looks tokens own i; least = least i; most = most i } ∷ []);
    price = λ looks terms text outer inner.
        let cost = compiled_price looks lists.stems terms text in
        let made = ap (items_cost cost) pushed ∙ sum_by_push (λ (one : CountedWords). phrases_cost cost one.phrases) before item in
        omega (arith, made, counts.price looks terms text (served_inside looks value.options options inner outer));
  }

  pub negated_counts : (before after : List CountedWords) (phrases : List PhraseTests) (operand : Form) → BareCounts lists options phrases operand
      → after ≡ before ++ record { least = 0; most = Some 0; phrases = phrases } ∷ [] → ItemsCompileTo lists options before after (not_of operand)
  unfolding items_of is_served price_under
  negated_counts before after phrases operand counts pushed = record {
    same = λ looks tokens outer inner.
        let text = looked_text looks lists.stems tokens in
        ap (map (counted_at text)) pushed
        ∙ map-append (counted_at text) before (record { least = 0; most = Some 0; phrases = phrases } ∷ [])
        ∙ (λ i. map (counted_at text) before ++ record { hits = counts.same looks tokens outer inner i; least = 0; most = Some 0 } ∷ []);
    price = λ looks terms text outer inner.
        let cost = compiled_price looks lists.stems terms text in
        let made = ap (items_cost cost) pushed ∙ sum_by_push (λ (one : CountedWords). phrases_cost cost one.phrases) before (record { least = 0; most = Some 0; phrases = phrases }) in
        omega (arith, made, counts.price looks terms text outer inner);
  }

  -- words under their own options
  pub bare_words : (phrases : List PhraseTests) (value : Words) → ValueCounts lists (inside value.options options) phrases value → BareCounts lists options phrases (words value)
  unfolding bare_hits is_served price_under
  bare_words phrases value counts = record {
    same = λ looks tokens outer inner. counts.same looks tokens (served_inside looks value.options options inner outer);
    price = λ looks terms text outer inner. counts.price looks terms text (served_inside looks value.options options inner outer);
  }

  pub bare_with : (phrases : List PhraseTests) (operand : Form) (inner : Options) → BareCounts lists (inside inner options) phrases operand
      → BareCounts lists options phrases (with_options operand inner)
  unfolding bare_hits is_served price_under
  bare_with phrases operand own counts = record {
    same = λ looks tokens outer inner.
        let parts = and_parts (are_served looks own) (is_served looks operand) inner in
        counts.same looks tokens (served_inside looks own options parts.0 outer) parts.1;
    price = λ looks terms text outer inner.
        let parts = and_parts (are_served looks own) (is_served looks operand) inner in
        counts.price looks terms text (served_inside looks own options parts.0 outer) parts.1;
  }

  -- what is no words has no hits of its own
  pub bare_none : (phrases : List PhraseTests) (selection : Form) → phrases ≡ [] → ((tokens : List Token) → bare_hits (lexicon lists) options tokens selection ≡ [])
      → BareCounts lists options phrases selection
  bare_none phrases selection empty none_there = record {
    same = λ looks tokens outer inner. ap (hits_of_phrases (looked_text looks lists.stems tokens)) empty ∙ sym (none_there tokens);
    price = λ looks terms text outer inner. let none_to_pay = ap (phrases_cost (compiled_price looks lists.stems terms text)) empty in omega (arith, none_to_pay);
  }

  -- ---- several

  pub items_with : (before after : List CountedWords) (operand : Form) (inner : Options) → ItemsCompileTo lists (inside inner options) before after operand
      → ItemsCompileTo lists options before after (with_options operand inner)
  unfolding items_of is_served price_under
  items_with before after operand own items = record {
    same = λ looks tokens outer inner.
        let parts = and_parts (are_served looks own) (is_served looks operand) inner in
        items.same looks tokens (served_inside looks own options parts.0 outer) parts.1;
    price = λ looks terms text outer inner.
        let parts = and_parts (are_served looks own) (is_served looks operand) inner in
        items.price looks terms text (served_inside looks own options parts.0 outer) parts.1;
  }

  pub items_and : (before after : List CountedWords) (parts : List Selection) → EachItemCompilesTo lists options before after parts
      → ItemsCompileTo lists options before after (and_of (forms_of (map form parts)))
  unfolding items_of is_served price_under
  items_and before after parts items = record { same = items.same; price = items.price }

  pub items_none : (before : List CountedWords) (selection : Form) → ((tokens : List Token) → items_of (lexicon lists) options tokens selection ≡ [])
      → ItemsCompileTo lists options before before selection
  items_none before selection none_there = record {
    same = λ looks tokens outer inner.
        let own = map (counted_at (looked_text looks lists.stems tokens)) before in
        sym (append-nil own) ∙ ap (λ (found : List Counted). own ++ found) (sym (none_there tokens));
    price = λ looks terms text outer inner. omega arith;
  }

  pub each_item_none : (before : List CountedWords) → EachItemCompilesTo lists options before before []
  unfolding items_of_each prices_under
  each_item_none before = record {
    same = λ looks tokens outer inner. sym (append-nil (map (counted_at (looked_text looks lists.stems tokens)) before));
    price = λ looks terms text outer inner. omega arith;
  }

  items_more : (tokens : List Token) (parts : List Selection) (part : Selection)
      → items_of_each (lexicon lists) options tokens (forms_of (map form (parts ++ part ∷ [])))
      ≡ items_of_each (lexicon lists) options tokens (forms_of (map form parts)) ++ items_of (lexicon lists) options tokens (form part)
  unfolding items_of_each
  items_more tokens [] part = append-nil (items_of (lexicon lists) options tokens (form part))
  items_more tokens (one ∷ parts) part =
      ap (λ (found : List Counted). items_of (lexicon lists) options tokens (form one) ++ found) (items_more tokens parts part)
      ∙ sym (append_assoc (items_of (lexicon lists) options tokens (form one)) (items_of_each (lexicon lists) options tokens (forms_of (map form parts))) (items_of (lexicon lists) options tokens (form part)))

  pub each_item_more : (before middle after : List CountedWords) (parts : List Selection) (i : ℕ) (part : Selection) → i < length parts → part ≡ get_or parts i part
      → EachItemCompilesTo lists options before middle (take i parts) → ItemsCompileTo lists options middle after (form part)
      → EachItemCompilesTo lists options before after (take (i + 1) parts)
  each_item_more before middle after parts i part below is all one =
      let taken : take (i + 1) parts ≡ take i parts ++ part ∷ [] = take_more parts i part below ∙ ap (λ p. take i parts ++ p ∷ []) (sym is) in
      subst (EachItemCompilesTo lists options before after) (sym taken) (record {
        same = λ looks tokens outer inner.
            let text = looked_text looks lists.stems tokens in
            let sides = served_parts looks (take i parts) part inner in
            one.same looks tokens outer sides.1
            ∙ ap (λ (found : List Counted). found ++ items_of (lexicon lists) options tokens (form part)) (all.same looks tokens outer sides.0)
            ∙ append_assoc (map (counted_at text) before) (items_of_each (lexicon lists) options tokens (forms_of (map form (take i parts)))) (items_of (lexicon lists) options tokens (form part))
            ∙ ap (λ (found : List Counted). map (counted_at text) before ++ found) (sym (items_more tokens (take i parts) part));
        price = λ looks terms text outer inner.
            let sides = served_parts looks (take i parts) part inner in
            let sum = prices_more lists options terms text (take i parts) part in
            omega (arith, sum, all.price looks terms text outer sides.0, one.price looks terms text outer sides.1);
      })

-- ---- what has `occurs` isn't cheap

no_range : (times : Option Range) → not (is_some times) ≡ true → has_no_range times ≡ true
no_range None h = refl
no_range (Some range) h = absurd (true≢false (sym h))

module _ (lists : NamedLists) (options : Options) where
  single_without : (selection : Form) → is_single_word (lexicon lists) options selection ≡ true → without_times selection ≡ true
  unfolding without_times
  single_without (words value) h = no_range value.times (and_parts (not (is_some value.times)) _ h).0
  single_without (or_of forms) h = absurd (true≢false (sym h))
  single_without (and_of forms) h = absurd (true≢false (sym h))
  single_without (mild_not left right) h = absurd (true≢false (sym h))
  single_without (not_of form) h = absurd (true≢false (sym h))
  single_without (filtered form kind) h = absurd (true≢false (sym h))
  single_without (with_options form inner) h = absurd (true≢false (sym h))

  singles_without : (forms : Forms) → are_single_words (lexicon lists) options forms ≡ true → each_without_times forms ≡ true
  unfolding without_times
  singles_without none h = refl
  singles_without (more form rest) h =
      let parts = and_parts (is_single_word (lexicon lists) options form) (are_single_words (lexicon lists) options rest) h in
      λ i. single_without form parts.0 i && singles_without rest parts.1 i

  joined_without : (selection : Form) → joins_words (lexicon lists) options selection ≡ true → without_times selection ≡ true
  unfolding without_times
  joined_without (words value) h = single_without (words value) h
  joined_without (or_of forms) h = absurd (true≢false (sym h))
  joined_without (and_of none) h = absurd (true≢false (sym h))
  joined_without (and_of (more form rest)) h = singles_without (more form rest) h
  joined_without (mild_not left right) h = absurd (true≢false (sym h))
  joined_without (not_of form) h = absurd (true≢false (sym h))
  joined_without (filtered form kind) h = absurd (true≢false (sym h))
  joined_without (with_options form inner) h = absurd (true≢false (sym h))

-- ---- counted shapes

module _ (lists : NamedLists) (options : Options) (operand : Form) (kind : Filter) (counted : is_counted operand kind ≡ true) (items : List CountedWords)
    (compiled : ItemsCompileTo lists options [] items operand) where
  abbrev parts : (is_shape operand ≡ true) × (needs_hit operand ≡ true)
  parts = and_parts (is_shape operand) (needs_hit operand) (and_parts (is_some (field_of kind)) _ counted).1

  pub some_item_asks : list_any (λ (item : CountedWords). nat_lt 0 item.least) items ≡ true
  some_item_asks =
      sym (list_any-map (λ (item : Counted). nat_lt 0 item.least) (counted_at (looked_text everything lists.stems [])) items)
      ∙ ap (list_any (λ (item : Counted). nat_lt 0 item.least)) (compiled.same everything [] refl (everything_serves operand))
      ∙ sym (shape-needs (lexicon lists) options [] operand parts.0)
      ∙ parts.1

  pub counts_compile : (looks : Looks) → are_served looks options ≡ true → is_served looks operand ≡ true → without_times operand ≡ false
      → (plan : CountedPlan) → field_of kind ≡ Some plan.field → plan.items ≡ items → Compiles looks lists options (N.Counted plan) (filtered operand kind)
  unfolding price_under is_cheap_under
  counts_compile looks outer inner times plan field is = record {
    says = λ tokens.
        let text = looked_text looks lists.stems tokens in
        truth-Counted plan text
        ∙ ap (λ (own : List CountedWords). fit_in plan.field (map (counted_at text) own)) is
        ∙ ap (fit_in plan.field) (compiled.same looks tokens outer inner)
        ∙ sym (counted-field (lexicon lists) options operand tokens parts.0 parts.1 kind plan.field field);
    price = λ terms text.
        let cost = compiled_price looks lists.stems terms text in
        let own = cost-Counted cost plan ∙ ap (items_cost cost) is in
        let most = compiled.price looks terms text outer inner in
        omega (arith, own, most);
    cheap = λ counts h.
        cheap-Counted counts plan
        ∙ elim (or_cases (is_cheap_filter kind && joins_words (lexicon lists) options operand) (counts && counts_words operand kind) h) [
          | inl cheap ↦
              let joined = (and_parts (is_cheap_filter kind) (joins_words (lexicon lists) options operand) cheap).1 in
              absurd (true≢false (sym (joined_without lists options operand joined) ∙ times))
          | inr counted ↦ (and_parts counts (counts_words operand kind) counted).0
        ];
  }
