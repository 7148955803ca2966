-- Selections are compiled to operators by their parts, whose tests cost together what theirs do.
use Rattle.std.proofs.Common.{◌≡◌, refl, sym, ap, subst, ◌∙◌, ℕ, ◌+◌, ◌-◌, ◌<◌, true, false, true≢false, ◌&&◌, Some, List, [], ◌∷◌, ◌++◌, map, take, get_or, length, arith, Box, Global}
use Rattle.std.specs.Prelude.{is_some}
use Rattle.std.specs.List.{sum_by}
use Rattle.std.proofs.lemmas.Bool.{and_from, and_parts}
use Rattle.std.proofs.lemmas.List.{take_more, map-append}
use Rattle.std.proofs.lemmas.List.Sums.{sum_by_push}
use Rattle.ft_base.specs.Selection.{Form, words, or_of, mild_not, not_of, with_options}
use Rattle.ft_base.specs.declared.filter.Filter.{Filter}
use Rattle.ft_base.specs.declared.options.Options.{Options}
use Rattle.ft_base.specs.declared.token.Token.{Token}
use Rattle.ft_base.specs.declared.words.Words.{Words}
use Rattle.ft_syntax.specs.View.{form, forms_of}
use Rattle.ft_syntax.specs.declared.selection.Selection.{Selection}
use Rattle.ft_syntax.specs.declared.selection.Selection as S
use Rattle.ft_syntax.proofs.Views.{form-Or, form-And, form-MildNot}
use Rattle.all_matches.specs.Meaning.{inside, phrase_count, phrase_counts}
use Rattle.all_matches.specs.Operators.{either_of, together_of, operator_of, operators_of}
use Rattle.all_matches.specs.Ways.{Operator, apart, negated, through_filter}
use Rattle.index_meaning.specs.Entries.{Entry}
use Rattle.plan_compiler.specs.CheapPlans.{is_cheap_operator, last_word}
use Rattle.plan_compiler.specs.CheapSelections.{are_single_words, is_cheap_filter, is_single_word, joins_words, some_single_words}
use Rattle.plan_compiler.specs.CompiledOperators.{CompilesTo, EachCompilesTo, KeepsWords, ValueCompilesTo, has_cheap_filter}
use Rattle.plan_compiler.specs.CompiledSelection.{compiled_price}
use Rattle.plan_compiler.specs.Lexicon.{lexicon}
use Rattle.plan_compiler.specs.NamedLists.{NamedLists}
use Rattle.plan_compiler.specs.NodeCosts.{operator_cost}
use Rattle.plan_compiler.specs.Operators.{LookedText, joined_of, looked_text, operator_at}
use Rattle.plan_compiler.specs.Price.{price_under, prices_under}
use Rattle.plan_compiler.specs.Served.{are_served, is_served, all_served}
use Rattle.plan_compiler.specs.declared.item_matching.ItemTest.{ItemTest}
use Rattle.plan_compiler.specs.declared.joining.Join.TheVariants.{Choice, Both}
use Rattle.plan_compiler.specs.declared.looks.Looks.{Looks}
use Rattle.plan_compiler.specs.declared.operator_plan.OperatorPlan.{OperatorPlan}
use Rattle.plan_compiler.specs.steps.Joins.{AreWordsFrom}
use Rattle.plan_compiler.proofs.SelectionMeaning.{served_inside}
use Rattle.plan_compiler.proofs.ServedLemmas.{form-Not, form-Filtered, form-With}
use Rattle.plan_compiler.proofs.WordRows.{length_after, row_length, row_push, word_last}

-- single words that are joined end with the last of them
words_joined : (lists : NamedLists) (options : Options) (first next : ℕ) (plan : OperatorPlan) (parts : List Selection) (plans : List OperatorPlan)
    → EachCompilesTo lists options first next plans parts → (AreWordsFrom first next plans → first < next → last_word plan ≡ Some (next - 1))
    → some_single_words (lexicon lists) options (forms_of (map form parts)) ≡ true → is_some (last_word plan) ≡ true
words_joined lists options first next plan [] plans each last h = absurd (true≢false (sym h))
words_joined lists options first next plan (part ∷ parts) plans each last h =
    let row = each.words h in
    let long = row_length first next plans row in
    ap is_some (last row (omega (arith, long, each.many)))

module _ (lists : NamedLists) (options : Options) (first next : ℕ) (plan : OperatorPlan) where
  -- neither a single word, nor such words joined, nor a cheap filter
  no_words : (selection : Form) → is_single_word (lexicon lists) options selection ≡ false → joins_words (lexicon lists) options selection ≡ false
      → has_cheap_filter (lexicon lists) options selection ≡ false → KeepsWords lists options first next plan selection
  no_words selection one two three = record {
    single = λ h. absurd (true≢false (sym h ∙ one));
    joined = λ h. absurd (true≢false (sym h ∙ two));
    cheap = λ h. absurd (true≢false (sym h ∙ three));
  }

  -- ---- words

  pub words_to : (value : Words) → ValueCompilesTo lists (inside value.options options) first next plan value → CompilesTo lists options first next plan (words value)
  unfolding operator_of is_served phrase_count price_under
  words_to value one = record {
    same = λ looks tokens outer inner. one.same looks tokens (served_inside looks value.options options inner outer);
    numbered = one.numbered;
    price = λ looks terms text outer inner. one.price looks terms text (served_inside looks value.options options inner outer);
    words = record {
      single = one.word;
      joined = λ h. ap is_some (word_last plan first (one.word h).0);
      cheap = λ h. absurd (true≢false (sym h));
    };
  }

  module _ (selection : Selection) where
    -- ---- operands

    pub or_to : (parts : List Selection) → selection ≡ S.Or parts → (plans : List OperatorPlan) → EachCompilesTo lists options first next plans parts
        → ((text : LookedText) → operator_at text plan ≡ joined_of Choice (map (operator_at text) plans)) → ((cost : ItemTest → ℕ) → operator_cost cost plan ≡ sum_by (operator_cost cost) plans)
        → CompilesTo lists options first next plan (form selection)
    unfolding operator_of is_served phrase_count price_under
    or_to parts e plans each joined sum = subst (CompilesTo lists options first next plan) (sym (ap form e ∙ form-Or parts)) (record {
      same = λ looks tokens outer inner. joined (looked_text looks lists.stems tokens) ∙ ap either_of (each.same looks tokens outer inner);
      numbered = each.numbered;
      price = λ looks terms text outer inner. omega (arith, sum (compiled_price looks lists.stems terms text), each.price looks terms text outer inner);
      words = no_words (or_of (forms_of (map form parts))) refl refl refl;
    })

    pub and_to : (parts : List Selection) → selection ≡ S.And parts → (plans : List OperatorPlan) → EachCompilesTo lists options first next plans parts
        → ((text : LookedText) → operator_at text plan ≡ joined_of Both (map (operator_at text) plans)) → ((cost : ItemTest → ℕ) → operator_cost cost plan ≡ sum_by (operator_cost cost) plans)
        → ((from to : ℕ) → Both ≡ Both → AreWordsFrom from to plans → from < to → last_word plan ≡ Some (to - 1))
        → CompilesTo lists options first next plan (form selection)
    unfolding operator_of is_served phrase_count price_under
    and_to parts e plans each joined sum last = subst (CompilesTo lists options first next plan) (sym (ap form e ∙ form-And parts)) (record {
      same = λ looks tokens outer inner. joined (looked_text looks lists.stems tokens) ∙ ap together_of (each.same looks tokens outer inner);
      numbered = each.numbered;
      price = λ looks terms text outer inner. omega (arith, sum (compiled_price looks lists.stems terms text), each.price looks terms text outer inner);
      words = record {
        single = λ h. absurd (true≢false (sym h));
        joined = words_joined lists options first next plan parts plans each (last first next refl);
        cheap = λ h. absurd (true≢false (sym h));
      };
    })

    pub mild_not_to : (left right : Box Selection Global) → selection ≡ S.MildNot left right → (middle : ℕ) (own other : OperatorPlan)
        → CompilesTo lists options first middle own (form left.value) → CompilesTo lists options middle next other (form right.value)
        → ((text : LookedText) → operator_at text plan ≡ apart (operator_at text own) (operator_at text other))
        → ((cost : ItemTest → ℕ) → operator_cost cost plan ≡ operator_cost cost own + operator_cost cost other) → CompilesTo lists options first next plan (form selection)
    unfolding operator_of is_served phrase_count price_under
    mild_not_to left right e middle own other one two joined sum = subst (CompilesTo lists options first next plan) (sym (ap form e ∙ form-MildNot left right)) (record {
      same = λ looks tokens outer inner.
          let sides = and_parts (is_served looks (form left.value)) (is_served looks (form right.value)) inner in
          joined (looked_text looks lists.stems tokens)
          ∙ (λ i. apart (one.same looks tokens outer sides.0 i)
          ((two.same looks tokens outer sides.1 ∙ ap (λ n. operator_of (lexicon lists) options n tokens (form right.value)) one.numbered) i));
      numbered =
          let half = one.numbered in
          let whole = two.numbered in
          omega (arith, half, whole);
      price = λ looks terms text outer inner.
          let sides = and_parts (is_served looks (form left.value)) (is_served looks (form right.value)) inner in
          omega (arith, sum (compiled_price looks lists.stems terms text), one.price looks terms text outer sides.0, two.price looks terms text outer sides.1);
      words = no_words (mild_not (form left.value) (form right.value)) refl refl refl;
    })

    pub not_to : (operand : Box Selection Global) → selection ≡ S.Not operand → (own : OperatorPlan) → CompilesTo lists options first next own (form operand.value)
        → ((text : LookedText) → operator_at text plan ≡ negated (operator_at text own)) → ((cost : ItemTest → ℕ) → operator_cost cost plan ≡ operator_cost cost own)
        → CompilesTo lists options first next plan (form selection)
    unfolding operator_of is_served phrase_count price_under
    not_to operand e own one joined same = subst (CompilesTo lists options first next plan) (sym (ap form e ∙ form-Not operand)) (record {
      same = λ looks tokens outer inner. joined (looked_text looks lists.stems tokens) ∙ ap negated (one.same looks tokens outer inner);
      numbered = one.numbered;
      price = λ looks terms text outer inner. omega (arith, same (compiled_price looks lists.stems terms text), one.price looks terms text outer inner);
      words = no_words (not_of (form operand.value)) refl refl refl;
    })

    pub filtered_to : (operand : Box Selection Global) (kind : Filter) → selection ≡ S.Filtered operand kind → (own : OperatorPlan) → CompilesTo lists options first next own (form operand.value)
        → ((text : LookedText) → operator_at text plan ≡ through_filter (operator_at text own) kind) → ((cost : ItemTest → ℕ) → operator_cost cost plan ≡ operator_cost cost own)
        → is_cheap_operator plan ≡ (is_cheap_filter kind && is_some (last_word own))
        → CompilesTo lists options first next plan (form selection)
    unfolding operator_of is_served phrase_count price_under
    filtered_to operand kind e own one joined same cheap = subst (CompilesTo lists options first next plan) (sym (ap form e ∙ form-Filtered operand kind)) (record {
      same = λ looks tokens outer inner. joined (looked_text looks lists.stems tokens) ∙ ap (λ operator. through_filter operator kind) (one.same looks tokens outer inner);
      numbered = one.numbered;
      price = λ looks terms text outer inner. omega (arith, same (compiled_price looks lists.stems terms text), one.price looks terms text outer inner);
      words = record {
        single = λ h. absurd (true≢false (sym h));
        joined = λ h. absurd (true≢false (sym h));
        cheap = λ h.
            let parts = and_parts (is_cheap_filter kind) (joins_words (lexicon lists) options (form operand.value)) h in
            cheap ∙ and_from (is_cheap_filter kind) (is_some (last_word own)) parts.0 (one.words.joined parts.1);
      };
    })

    pub with_to : (operand : Box Selection Global) (own : Options) → selection ≡ S.With operand own → CompilesTo lists (inside own options) first next plan (form operand.value)
        → CompilesTo lists options first next plan (form selection)
    unfolding operator_of is_served phrase_count price_under
    with_to operand own e one = subst (CompilesTo lists options first next plan) (sym (ap form e ∙ form-With operand own)) (record {
      same = λ looks tokens outer inner.
          let parts = and_parts (are_served looks own) (is_served looks (form operand.value)) inner in
          one.same looks tokens (served_inside looks own options parts.0 outer) parts.1;
      numbered = one.numbered;
      price = λ looks terms text outer inner.
          let parts = and_parts (are_served looks own) (is_served looks (form operand.value)) inner in
          one.price looks terms text (served_inside looks own options parts.0 outer) parts.1;
      words = no_words (with_options (form operand.value) own) refl refl refl;
    })

-- ---- one operand more

module _ (lists : NamedLists) (options : Options) where
  counts_more : (parts : List Selection) (part : Selection)
      → phrase_counts (lexicon lists) options (forms_of (map form (parts ++ part ∷ []))) ≡ phrase_counts (lexicon lists) options (forms_of (map form parts)) + phrase_count (lexicon lists) options (form part)
  unfolding phrase_count
  counts_more [] part = omega arith
  counts_more (one ∷ parts) part = let rest = counts_more parts part in omega (arith, rest)

  operators_more : (tokens : List Token) (first : ℕ) (parts : List Selection) (part : Selection)
      → operators_of (lexicon lists) options first tokens (forms_of (map form (parts ++ part ∷ [])))
      ≡ operators_of (lexicon lists) options first tokens (forms_of (map form parts))
      ++ operator_of (lexicon lists) options (first + phrase_counts (lexicon lists) options (forms_of (map form parts))) tokens (form part) ∷ []
  unfolding operator_of phrase_count
  operators_more tokens first [] part = let at : first ≡ first + 0 = omega arith in ap (λ n. operator_of (lexicon lists) options n tokens (form part) ∷ []) at
  operators_more tokens first (one ∷ parts) part =
      let own = phrase_count (lexicon lists) options (form one) in
      let counts = phrase_counts (lexicon lists) options (forms_of (map form parts)) in
      let at : (first + own) + counts ≡ first + (own + counts) = omega arith in
      ap (λ ops. operator_of (lexicon lists) options first tokens (form one) ∷ ops)
      (operators_more tokens (first + own) parts part
      ∙ ap (λ n. operators_of (lexicon lists) options (first + own) tokens (forms_of (map form parts)) ++ operator_of (lexicon lists) options n tokens (form part) ∷ []) at)

  pub prices_more : (terms : List Entry) (text : List (List ℕ)) (parts : List Selection) (part : Selection)
      → prices_under (lexicon lists) options terms text (forms_of (map form (parts ++ part ∷ [])))
      ≡ prices_under (lexicon lists) options terms text (forms_of (map form parts)) + price_under (lexicon lists) options terms text (form part)
  unfolding price_under
  prices_more terms text [] part = omega arith
  prices_more terms text (one ∷ parts) part = let rest = prices_more terms text parts part in omega (arith, rest)

pub served_parts : (looks : Looks) (parts : List Selection) (part : Selection) → all_served looks (forms_of (map form (parts ++ part ∷ []))) ≡ true
    → (all_served looks (forms_of (map form parts)) ≡ true) × (is_served looks (form part) ≡ true)
unfolding is_served
served_parts looks [] part h = (refl, (and_parts (is_served looks (form part)) true h).0)
served_parts looks (one ∷ parts) part h =
    let sides = and_parts (is_served looks (form one)) (all_served looks (forms_of (map form (parts ++ part ∷ [])))) h in
    let rest = served_parts looks parts part sides.1 in
    ((λ i. sides.0 i && rest.0 i), rest.1)

single_parts : (lists : NamedLists) (options : Options) (parts : List Selection) (part : Selection) → are_single_words (lexicon lists) options (forms_of (map form (parts ++ part ∷ []))) ≡ true
    → (are_single_words (lexicon lists) options (forms_of (map form parts)) ≡ true) × (is_single_word (lexicon lists) options (form part) ≡ true)
single_parts lists options [] part h = (refl, (and_parts (is_single_word (lexicon lists) options (form part)) true h).0)
single_parts lists options (one ∷ parts) part h =
    let sides = and_parts (is_single_word (lexicon lists) options (form one)) (are_single_words (lexicon lists) options (forms_of (map form (parts ++ part ∷ [])))) h in
    let rest = single_parts lists options parts part sides.1 in
    ((λ i. sides.0 i && rest.0 i), rest.1)

pub each_more : (lists : NamedLists) (options : Options) (first middle next : ℕ) (before after : List OperatorPlan) (plan : OperatorPlan) (parts : List Selection) (i : ℕ) (part : Selection)
    → i < length parts → part ≡ get_or parts i part → after ≡ before ++ plan ∷ []
    → EachCompilesTo lists options first middle before (take i parts) → CompilesTo lists options middle next plan (form part) → EachCompilesTo lists options first next after (take (i + 1) parts)
each_more lists options first middle next before after plan parts i part h is pushed all one =
    let taken : take (i + 1) parts ≡ take i parts ++ part ∷ [] = take_more parts i part h ∙ ap (λ p. take i parts ++ p ∷ []) (sym is) in
    subst (EachCompilesTo lists options first next after) (sym taken) (record {
      same = λ looks tokens outer inner.
          let f : OperatorPlan → Operator = operator_at (looked_text looks lists.stems tokens) in
          let sides = served_parts looks (take i parts) part inner in
          ap (map f) pushed
          ∙ map-append f before (plan ∷ [])
          ∙ (λ j. all.same looks tokens outer sides.0 j
          ++ (one.same looks tokens outer sides.1 ∙ ap (λ n. operator_of (lexicon lists) options n tokens (form part)) all.numbered) j ∷ [])
          ∙ sym (operators_more lists options tokens first (take i parts) part);
      numbered =
          let more = counts_more lists options (take i parts) part in
          let half = all.numbered in
          let whole = one.numbered in
          omega (arith, more, half, whole);
      price = λ looks terms text outer inner.
          let cost : OperatorPlan → ℕ = operator_cost (compiled_price looks lists.stems terms text) in
          let sides = served_parts looks (take i parts) part inner in
          let made = ap (sum_by cost) pushed ∙ sum_by_push cost before plan in
          let more = prices_more lists options terms text (take i parts) part in
          omega (arith, made, more, all.price looks terms text outer sides.0, one.price looks terms text outer sides.1);
      many =
          let longer = ap length pushed ∙ length_after before plan in
          let all_parts = length_after (take i parts) part in
          omega (arith, longer, all_parts, all.many);
      words = λ h.
          let sides = single_parts lists options (take i parts) part h in
          let own = one.words.single sides.1 in
          subst (AreWordsFrom first next) (sym pushed) (row_push first middle next before plan (all.words sides.0) own.0 own.1);
    })

pub each_none : (lists : NamedLists) (options : Options) (first : ℕ) (plans : List OperatorPlan) → plans ≡ [] → EachCompilesTo lists options first first plans []
unfolding operator_of phrase_count price_under
each_none lists options first plans empty = record {
  same = λ looks tokens outer inner. ap (map (operator_at (looked_text looks lists.stems tokens))) empty;
  numbered = omega arith;
  price = λ looks terms text outer inner. let none = ap (sum_by (operator_cost (compiled_price looks lists.stems terms text))) empty in omega (arith, none);
  many = ap length empty;
  words = λ h. subst (AreWordsFrom first first) (sym empty) refl;
}
