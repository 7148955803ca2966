-- Selections are compiled by their parts.
use Rattle.std.proofs.Common.{◌≡◌, ◌<◌, ◌+◌, ◌++◌, refl, sym, ap, ◌∙◌, ℕ, Bool, ◌&&◌, List, [], ◌∷◌, map, take, get_or, length, true, arith, Box, Global}
use Rattle.std.specs.List.{list_all, sum_by}
use Rattle.std.proofs.lemmas.Bool.{and_from, and_parts}
use Rattle.std.proofs.lemmas.List.{take_more}
use Rattle.std.proofs.lemmas.List.Folds.{list_all-append}
use Rattle.std.proofs.lemmas.List.Sums.{sum_by-cons, sum_by_more, sum_by_push}
use Rattle.ft_base.specs.Selection.{Form, words, or_of, and_of, not_of, with_options}
use Rattle.ft_base.specs.declared.options.Options.{Options}
use Rattle.ft_base.specs.declared.words.Words.{Words}
use Rattle.ft_syntax.specs.View.{form, forms_of}
use Rattle.ft_syntax.specs.declared.selection.Selection.{Selection}
use Rattle.ft_syntax.specs.declared.selection.Selection as S
use Rattle.ft_syntax.proofs.Views.{form-Or, form-And}
use Rattle.all_matches.specs.Meaning.{inside, sat_under}
use Rattle.index_meaning.specs.Entries.{Entry}
use Rattle.plan_compiler.specs.CheapPlans.{is_cheap_node}
use Rattle.plan_compiler.specs.CheapSelections.{is_cheap_under}
use Rattle.plan_compiler.specs.CompiledSelection.{CompileAll, Compiles, compiled_price}
use Rattle.plan_compiler.specs.CompiledWords.{IsCompiled}
use Rattle.plan_compiler.specs.Lexicon.{lexicon}
use Rattle.plan_compiler.specs.NamedLists.{NamedLists}
use Rattle.plan_compiler.specs.NodeCosts.{node_cost}
use Rattle.plan_compiler.specs.NodeMeaning.{truth}
use Rattle.plan_compiler.specs.Operators.{looked_text}
use Rattle.plan_compiler.specs.Price.{price_under, prices_under, value_price}
use Rattle.plan_compiler.specs.Served.{are_served}
use Rattle.plan_compiler.specs.declared.looks.Looks.{Looks}
use Rattle.plan_compiler.specs.declared.node.Node.{Node}
use Rattle.plan_compiler.specs.declared.node.Node as N
use Rattle.plan_compiler.specs.declared.words_plan.WordsPlan.{WordsPlan}
use Rattle.plan_compiler.proofs.ServedLemmas.{form-Not, form-With}
use Rattle.plan_compiler.proofs.CheapNodes.{and_cheap, are_cheap, not_cheap, or_cheap, with_cheap}
use Rattle.plan_compiler.proofs.NodeViews.{cheap-And, cheap-Not, cheap-Or, cheap-Words, truth-Words, cost-Words, cost-Or, cost-And, cost-Not}
use Rattle.plan_compiler.proofs.PriceMeaning.{words_priced}
use Rattle.plan_compiler.proofs.SelectionMeaning.{and_selection, not_selection, or_selection, say_more, with_selection, words_mean}

module _ (looks : Looks) (lists : NamedLists) (options : Options) where
  abbrev price_of : List Entry → List (List ℕ) → Form → ℕ
  price_of terms text selection = price_under (lexicon lists) options terms text selection

  prices_of : (terms : List Entry) (text : List (List ℕ)) (parts : List Selection)
      → prices_under (lexicon lists) options terms text (forms_of (map form parts)) ≡ sum_by (λ part. price_of terms text (form part)) parts
  unfolding prices_under
  prices_of terms text [] = refl
  prices_of terms text (part ∷ parts) =
      ap (λ n. price_of terms text (form part) + n) (prices_of terms text parts) ∙ sym (sum_by-cons (λ (p : Selection). price_of terms text (form p)) part parts)

  or_price : (terms : List Entry) (text : List (List ℕ)) (parts : List Selection) → price_of terms text (or_of (forms_of (map form parts))) ≡ sum_by (λ part. price_of terms text (form part)) parts
  unfolding price_under
  or_price terms text parts = prices_of terms text parts

  and_price : (terms : List Entry) (text : List (List ℕ)) (parts : List Selection) → price_of terms text (and_of (forms_of (map form parts))) ≡ sum_by (λ part. price_of terms text (form part)) parts
  unfolding price_under
  and_price terms text parts = prices_of terms text parts

  not_price : (terms : List Entry) (text : List (List ℕ)) (selection : Form) → price_of terms text (not_of selection) ≡ price_of terms text selection
  unfolding price_under
  not_price terms text selection = refl

  with_price : (terms : List Entry) (text : List (List ℕ)) (selection : Form) (inner : Options)
      → price_of terms text (with_options selection inner) ≡ price_under (lexicon lists) (inside inner options) terms text selection
  unfolding price_under
  with_price terms text selection inner = refl

  words_price : (terms : List Entry) (text : List (List ℕ)) (value : Words) → price_of terms text (words value) ≡ value_price (lexicon lists) (inside value.options options) terms text value
  unfolding price_under
  words_price terms text value = refl

  pub words_compile : (value : Words) (plan : WordsPlan) → IsCompiled plan lists (inside value.options options) value → are_served looks (inside value.options options) ≡ true
      → Compiles looks lists options (N.Words plan) (words value)
  words_compile value plan compiled served = record {
    says = λ tokens. truth-Words plan (looked_text looks lists.stems tokens) ∙ words_mean looks lists options value plan tokens compiled served;
    price = λ terms text.
        let cost = cost-Words (compiled_price looks lists.stems terms text) plan in
        let plain = words_priced looks lists terms text (inside value.options options) plan value compiled served in
        let whole = words_price terms text value in
        omega (arith, cost, plain, whole);
    cheap = λ counts h. cheap-Words counts plan;
  }

  module _ (selection : Selection) where
    pub or_compiles : (parts : List Selection) → selection ≡ S.Or parts → (nodes : List Node) → CompileAll looks lists options nodes parts → Compiles looks lists options (N.Or nodes) (form selection)
    or_compiles parts e nodes all = record {
      says = λ tokens. or_selection looks lists options selection parts e nodes tokens all.says;
      price = λ terms text.
          let cost = cost-Or (compiled_price looks lists.stems terms text) nodes in
          let whole = ap (price_of terms text) (ap form e ∙ form-Or parts) ∙ or_price terms text parts in
          let most = all.price terms text in
          omega (arith, cost, whole, most);
      cheap = λ counts h.
          cheap-Or counts nodes
          ∙ all.cheap counts (sym (are_cheap counts (lexicon lists) options parts)
          ∙ or_cheap counts (lexicon lists) options (forms_of (map form parts)) (sym (ap (is_cheap_under counts (lexicon lists) options) (ap form e ∙ form-Or parts)) ∙ h));
    }

    pub and_compiles : (parts : List Selection) → selection ≡ S.And parts → (nodes : List Node) → CompileAll looks lists options nodes parts → Compiles looks lists options (N.And nodes) (form selection)
    and_compiles parts e nodes all = record {
      says = λ tokens. and_selection looks lists options selection parts e nodes tokens all.says;
      price = λ terms text.
          let cost = cost-And (compiled_price looks lists.stems terms text) nodes in
          let whole = ap (price_of terms text) (ap form e ∙ form-And parts) ∙ and_price terms text parts in
          let most = all.price terms text in
          omega (arith, cost, whole, most);
      cheap = λ counts h.
          cheap-And counts nodes
          ∙ all.cheap counts (sym (are_cheap counts (lexicon lists) options parts)
          ∙ and_cheap counts (lexicon lists) options (forms_of (map form parts)) (sym (ap (is_cheap_under counts (lexicon lists) options) (ap form e ∙ form-And parts)) ∙ h));
    }

    pub not_compiles : (operand : Box Selection Global) → selection ≡ S.Not operand → (node : Box Node Global) → Compiles looks lists options node.value (form operand.value)
        → Compiles looks lists options (N.Not node) (form selection)
    not_compiles operand e node part = record {
      says = λ tokens. not_selection looks lists options selection operand e node tokens (part.says tokens);
      price = λ terms text.
          let cost = cost-Not (compiled_price looks lists.stems terms text) node in
          let whole = ap (price_of terms text) (ap form e ∙ form-Not operand) ∙ not_price terms text (form operand.value) in
          let most = part.price terms text in
          omega (arith, cost, whole, most);
      cheap = λ counts h.
          cheap-Not counts node
          ∙ part.cheap counts (not_cheap counts (lexicon lists) options (form operand.value) (sym (ap (is_cheap_under counts (lexicon lists) options) (ap form e ∙ form-Not operand)) ∙ h));
    }

    pub with_compiles : (operand : Box Selection Global) (inner : Options) → selection ≡ S.With operand inner → (node : Node) → Compiles looks lists (inside inner options) node (form operand.value)
        → Compiles looks lists options node (form selection)
    with_compiles operand inner e node part = record {
      says = λ tokens. part.says tokens ∙ with_selection looks lists options selection operand inner e tokens;
      price = λ terms text.
          let whole = ap (price_of terms text) (ap form e ∙ form-With operand inner) ∙ with_price terms text (form operand.value) inner in
          let most = part.price terms text in
          omega (arith, whole, most);
      cheap = λ counts h.
          part.cheap counts (with_cheap counts (lexicon lists) options (form operand.value) inner (sym (ap (is_cheap_under counts (lexicon lists) options) (ap form e ∙ form-With operand inner)) ∙ h));
    }

  -- one operand more
  pub compile_more : (nodes new : List Node) (parts : List Selection) (i : ℕ) (node : Node) (part : Selection) → i < length parts → part ≡ get_or parts i part → new ≡ nodes ++ node ∷ []
      → Compiles looks lists options node (form part) → CompileAll looks lists options nodes (take i parts) → CompileAll looks lists options new (take (i + 1) parts)
  compile_more nodes new parts i node part below is pushed one all = record {
    says = λ tokens.
        say_more (λ n. truth n (looked_text looks lists.stems tokens)) (λ p. sat_under (lexicon lists) options (form p) tokens) nodes new parts i node part below is pushed (one.says tokens) (all.says tokens);
    price = λ terms text.
        let cost = node_cost (compiled_price looks lists.stems terms text) in
        let sum = ap (sum_by cost) pushed ∙ sum_by_push cost nodes node in
        let more = sum_by_more (λ (p : Selection). price_of terms text (form p)) parts i part below in
        let own = ap (λ (p : Selection). price_of terms text (form p)) is in
        let before = all.price terms text in
        let then = one.price terms text in
        omega (arith, sum, more, own, before, then);
    cheap = λ counts h.
        let each : Selection → Bool = λ p. is_cheap_under counts (lexicon lists) options (form p) in
        let node_cheap = is_cheap_node counts in
        let taken : take (i + 1) parts ≡ take i parts ++ part ∷ [] = take_more parts i part below ∙ ap (λ p. take i parts ++ p ∷ []) (sym is) in
        let sides = and_parts (list_all each (take i parts)) (list_all each (part ∷ [])) (sym (list_all-append each (take i parts) (part ∷ [])) ∙ ap (list_all each) (sym taken) ∙ h) in
        ap (list_all node_cheap) pushed
        ∙ list_all-append node_cheap nodes (node ∷ [])
        ∙ and_from (list_all node_cheap nodes) (list_all node_cheap (node ∷ [])) (all.cheap counts sides.0)
        (λ j. one.cheap counts (and_parts (each part) true sides.1).0 j && true);
  }
