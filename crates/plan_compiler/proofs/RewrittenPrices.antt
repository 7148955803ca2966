-- A rewritten selection costs no more than the selection, and what is compiled of it is compiled of the selection.
use Rattle.std.proofs.Common.{◌≡◌, ◌≤◌, ◌+◌, refl, sym, ap, ◌∙◌, ℕ, Bool, true, false, cond, List, [], ◌∷◌, ◌++◌, arith}
use Rattle.std.specs.Prelude.{flat_map, fold}
use Rattle.std.specs.List.{list_any}
use Rattle.ft_base.specs.declared.options.Options.{Options}
use Rattle.ft_base.specs.Selection.{no_options, Form, Forms, words, or_of, and_of, mild_not, not_of, filtered, with_options, none, more}
use Rattle.ft_syntax.specs.View.{forms_of}
use Rattle.ft_rewriter.specs.Code.{same_form}
use Rattle.ft_rewriter.specs.Rewriting.{given, each_given, listed, operands_in, with_operand, without_repeats, joined_operands, connected, flattened, each_flattened, simplified, negated, each_simplified, each_negated, rewritten}
use Rattle.ft_rewriter.specs.declared.connective.Connective.{Connective}
use Rattle.ft_rewriter.specs.declared.connective.Connective.TheVariants.{Or, And}
use Rattle.ft_rewriter.proofs.GivenOptions.{inside_none}
use Rattle.ft_rewriter.proofs.SimplifiedTests.{sat-rewritten}
use Rattle.all_matches.specs.Meaning.{inside}
use Rattle.all_matches.specs.Variants.{Lexicon}
use Rattle.index_meaning.specs.Entries.{Entry}
use Rattle.plan_compiler.proofs.CheapRewriting.{cheap_rewritten}
use Rattle.plan_compiler.specs.CompiledSelection.{Compiles}
use Rattle.plan_compiler.specs.Lexicon.{lexicon}
use Rattle.plan_compiler.specs.NamedLists.{NamedLists}
use Rattle.plan_compiler.specs.Price.{price_under, prices_under, value_price}
use Rattle.plan_compiler.specs.declared.looks.Looks.{Looks}
use Rattle.plan_compiler.specs.declared.node.Node.{Node}

module _ (lexicon : Lexicon) (terms : List Entry) (text : List (List ℕ)) where
  abbrev price_of : Options → Form → ℕ
  price_of options form = price_under lexicon options terms text form

  -- ---- options given to the words

  mutual
    unfolding given price_under

    price_given : (outer : Options) (form : Form) → price_of no_options (given outer form) ≡ price_of outer form
    price_given outer (words value) = ap (λ options. value_price lexicon options terms text value) (inside_none (inside value.options outer))
    price_given outer (or_of forms) = prices_given outer forms
    price_given outer (and_of forms) = prices_given outer forms
    price_given outer (mild_not left right) = λ i. price_given outer left i + price_given outer right i
    price_given outer (not_of form) = price_given outer form
    price_given outer (filtered form kind) = price_given outer form
    price_given outer (with_options form inner) = price_given (inside inner outer) form

    prices_given : (outer : Options) (forms : Forms) → prices_under lexicon no_options terms text (each_given outer forms) ≡ prices_under lexicon outer terms text forms
    prices_given outer none = refl
    prices_given outer (more form rest) = λ i. price_given outer form i + prices_given outer rest i

  module _ (options : Options) where
    -- ---- operands in the place of their selection, each once

    abbrev all_prices : List Form → ℕ
    all_prices forms = prices_under lexicon options terms text (forms_of forms)

    prices_append : (xs ys : List Form) → all_prices (xs ++ ys) ≡ all_prices xs + all_prices ys
    unfolding price_under
    prices_append [] ys = omega arith
    prices_append (x ∷ xs) ys = let rest = prices_append xs ys in omega (arith, rest)

    prices_listed : (forms : Forms) → all_prices (listed forms) ≡ prices_under lexicon options terms text forms
    unfolding price_under
    prices_listed none = refl
    prices_listed (more form rest) = ap (λ n. price_of options form + n) (prices_listed rest)

    price_alone : (form : Form) → all_prices (form ∷ []) ≡ price_of options form
    unfolding price_under
    price_alone form = omega arith

    price_operands : (c : Connective) (form : Form) → all_prices (operands_in c form) ≡ price_of options form
    unfolding price_under
    price_operands Or (words value) = price_alone (words value)
    price_operands Or (or_of forms) = prices_listed forms
    price_operands Or (and_of forms) = price_alone (and_of forms)
    price_operands Or (mild_not left right) = price_alone (mild_not left right)
    price_operands Or (not_of form) = price_alone (not_of form)
    price_operands Or (filtered form kind) = price_alone (filtered form kind)
    price_operands Or (with_options form inner) = price_alone (with_options form inner)
    price_operands And (words value) = price_alone (words value)
    price_operands And (or_of forms) = price_alone (or_of forms)
    price_operands And (and_of forms) = prices_listed forms
    price_operands And (mild_not left right) = price_alone (mild_not left right)
    price_operands And (not_of form) = price_alone (not_of form)
    price_operands And (filtered form kind) = price_alone (filtered form kind)
    price_operands And (with_options form inner) = price_alone (with_options form inner)

    prices_flat : (c : Connective) (forms : List Form) → all_prices (flat_map (operands_in c) forms) ≡ all_prices forms
    unfolding price_under
    prices_flat c [] = refl
    prices_flat c (form ∷ rest) =
        prices_append (operands_in c form) (flat_map (operands_in c) rest) ∙ (λ i. price_operands c form i + prices_flat c rest i)

    operand_step : (kept : List Form) (x : Form) (b : Bool) → all_prices (cond b kept (kept ++ x ∷ [])) ≤ all_prices kept + price_of options x
    operand_step kept x true = omega arith
    operand_step kept x false = let both = prices_append kept (x ∷ []) in let one = price_alone x in omega (arith, both, one)

    prices_kept : (kept forms : List Form) → all_prices (fold with_operand kept forms) ≤ all_prices kept + all_prices forms
    unfolding price_under
    prices_kept kept [] = omega arith
    prices_kept kept (x ∷ rest) =
        let all = prices_kept (with_operand kept x) rest in
        let one = operand_step kept x (list_any (same_form x) kept) in
        omega (arith, all, one)

    price_joined : (c : Connective) (forms : List Form) → price_of options (joined_operands c forms) ≡ all_prices forms
    unfolding price_under
    price_joined Or [] = refl
    price_joined And [] = refl
    price_joined c (x ∷ []) = sym (price_alone x)
    price_joined Or (x ∷ y ∷ rest) = refl
    price_joined And (x ∷ y ∷ rest) = refl

    price_connected : (c : Connective) (forms : List Form) → price_of options (connected c forms) ≤ all_prices forms
    unfolding price_under
    price_connected c forms =
        let joined = price_joined c (without_repeats (flat_map (operands_in c) forms)) in
        let kept = prices_kept [] (flat_map (operands_in c) forms) in
        let flat = prices_flat c forms in
        omega (arith, joined, kept, flat)

  -- ---- operands in the place of their selection, under filters and in `not in`

  mutual
    unfolding flattened price_under

    price_flattened : (options : Options) (form : Form) → price_of options (flattened form) ≡ price_of options form
    price_flattened options (words value) = refl
    price_flattened options (or_of forms) = prices_flat options Or (each_flattened forms) ∙ prices_flattened options forms
    price_flattened options (and_of forms) = prices_flat options And (each_flattened forms) ∙ prices_flattened options forms
    price_flattened options (mild_not left right) = λ i. price_flattened options left i + price_flattened options right i
    price_flattened options (not_of form) = price_flattened options form
    price_flattened options (filtered form kind) = price_flattened options form
    price_flattened options (with_options form inner) = price_flattened (inside inner options) form

    prices_flattened : (options : Options) (forms : Forms) → all_prices options (each_flattened forms) ≡ prices_under lexicon options terms text forms
    prices_flattened options none = refl
    prices_flattened options (more form rest) = λ i. price_flattened options form i + prices_flattened options rest i

  flattened_most : (options : Options) (form : Form) → price_of options (flattened form) ≤ price_of options form
  flattened_most options form = omega (arith, price_flattened options form)

  -- ---- `ftnot` moved inwards

  mutual
    unfolding simplified price_under

    price_simplified : (options : Options) (form : Form) → price_of options (simplified form) ≤ price_of options form
    price_simplified options (words value) = omega arith
    price_simplified options (or_of forms) =
        let all = price_connected options Or (each_simplified forms) in
        let each = prices_simplified options forms in
        omega (arith, all, each)
    price_simplified options (and_of forms) =
        let all = price_connected options And (each_simplified forms) in
        let each = prices_simplified options forms in
        omega (arith, all, each)
    price_simplified options (mild_not left right) = flattened_most options (mild_not left right)
    price_simplified options (not_of form) = price_negated options form
    price_simplified options (filtered form kind) = flattened_most options (filtered form kind)
    price_simplified options (with_options form inner) = price_simplified (inside inner options) form

    price_negated : (options : Options) (form : Form) → price_of options (negated form) ≤ price_of options form
    price_negated options (words value) = omega arith
    price_negated options (or_of forms) =
        let all = price_connected options And (each_negated forms) in
        let each = prices_negated options forms in
        omega (arith, all, each)
    price_negated options (and_of forms) =
        let all = price_connected options Or (each_negated forms) in
        let each = prices_negated options forms in
        omega (arith, all, each)
    price_negated options (mild_not left right) = flattened_most options (mild_not left right)
    price_negated options (not_of form) = price_simplified options form
    price_negated options (filtered form kind) = flattened_most options (filtered form kind)
    price_negated options (with_options form inner) = price_simplified (inside inner options) form

    prices_simplified : (options : Options) (forms : Forms) → all_prices options (each_simplified forms) ≤ prices_under lexicon options terms text forms
    prices_simplified options none = omega arith
    prices_simplified options (more form rest) =
        let first = price_simplified options form in
        let others = prices_simplified options rest in
        omega (arith, first, others)

    prices_negated : (options : Options) (forms : Forms) → all_prices options (each_negated forms) ≤ prices_under lexicon options terms text forms
    prices_negated options none = omega arith
    prices_negated options (more form rest) =
        let first = price_negated options form in
        let others = prices_negated options rest in
        omega (arith, first, others)

  price_rewritten : (form : Form) → price_of no_options (rewritten form) ≤ price_of no_options form
  price_rewritten form =
      let simple = price_simplified no_options (given no_options form) in
      let given = price_given no_options form in
      omega (arith, simple, given)

pub compiles_given : (looks : Looks) (lists : NamedLists) (node : Node) (form : Form) → Compiles looks lists no_options node (rewritten form) → Compiles looks lists no_options node form
compiles_given looks lists node form compiled = record {
  says = λ tokens. compiled.says tokens ∙ sat-rewritten (lexicon lists) form tokens;
  price = λ terms text.
      let own = compiled.price terms text in
      let less = price_rewritten (lexicon lists) terms text form in
      omega (arith, own, less);
  cheap = λ counts h. compiled.cheap counts (cheap_rewritten counts (lexicon lists) form h);
}
