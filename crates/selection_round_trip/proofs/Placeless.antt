-- A selection without its places: its form, its faults and its limits are those of the selection.
use Rattle.std.proofs.Common.{◌≡◌, ℕ, cond, ◌||◌, List, [], ◌∷◌, ◌++◌, map, Option, Some, None, option_map, refl, sym, ◌∙◌, ap}
use Rattle.std.proofs.lemmas.List.{map-append}
use Rattle.std.specs.Prelude.{flat_map}
use Rattle.std.specs.Option.{is_some, option_to_list}
use Rattle.ft_base.specs.declared.filter.Filter.{Filter}
use Rattle.ft_base.specs.declared.options.Options.{Options}
use Rattle.ft_base.specs.Selection as form
use Rattle.ft_base.specs.Selection.{no_options}
use Rattle.selection_grammar.specs.declared.parsed.PlacedOption.{PlacedOption}
use Rattle.selection_grammar.specs.declared.parsed.PlacedString.{PlacedString}
use Rattle.selection_grammar.specs.declared.parsed.PlacedTimes.{PlacedTimes}
use Rattle.selection_grammar.specs.Form.{form_of, forms_of, options_from, with_option}
use Rattle.selection_grammar.specs.Grammar.{texts_of}
use Rattle.selection_grammar.specs.Tree as tree
use Rattle.selection_grammar.specs.Tree.{Tree, Trees, trees_of, joined, Primary, phrases, inner, optioned, negated}
use Rattle.selection_faults.specs.Excludes.{within, within_all}
use Rattle.selection_faults.specs.Options.{same_group, is_second, second_after, second_option, own_second_option, options_twice}
use Rattle.selection_round_trip.proofs.Faultless.{some_option}
use Rattle.selection_round_trip.proofs.Marks.{has_some, some_append, either, some_in}
use Rattle.selection_round_trip.proofs.Strings.{past_by}

abbrev pub no_string : PlacedString → PlacedString
no_string s = record { at = 0; text = s.text }

abbrev pub no_option : PlacedOption → PlacedOption
no_option o = record { at = 0; option = o.option }

abbrev pub no_times : Option PlacedTimes → Option PlacedTimes
no_times None = None
no_times (Some t) = Some (record { at = 0; range = t.range })

abbrev pub no_negation : Option ℕ → Option ℕ
no_negation None = None
no_negation (Some at) = Some 0

unfoldable mutual
  pub placeless : Tree → Tree
  placeless (tree.words w) = tree.words (record { strings = map no_string w.strings; mode = w.mode; times = no_times w.times; options = map no_option w.options })
  placeless (tree.or_of trees) = tree.or_of (placeless_all trees)
  placeless (tree.and_of trees) = tree.and_of (placeless_all trees)
  placeless (tree.mild_not left right) = tree.mild_not (placeless left) (placeless right)
  placeless (tree.not_of at operand) = tree.not_of 0 (placeless operand)
  placeless (tree.filtered operand filter) = tree.filtered (placeless operand) filter
  placeless (tree.with_options operand options) = tree.with_options (placeless operand) (map no_option options)

  placeless_all : Trees → Trees
  placeless_all tree.none = tree.none
  placeless_all (tree.more t rest) = tree.more (placeless t) (placeless_all rest)

abbrev pub no_place : Primary → Primary
no_place (phrases strings mode times) = phrases (map no_string strings) mode (no_times times)
no_place (inner t) = inner (placeless t)

-- of trees that are put together
pub placeless_optioned : (x : Primary) (os : List PlacedOption) → placeless (optioned x os) ≡ optioned (no_place x) (map no_option os)
unfolding placeless
placeless_optioned (phrases strings mode times) os = refl
placeless_optioned (inner t) [] = refl
placeless_optioned (inner t) (o ∷ os) = refl

pub placeless_negated : (n : Option ℕ) (t : Tree) → placeless (negated n t) ≡ negated (no_negation n) (placeless t)
unfolding placeless
placeless_negated None t = refl
placeless_negated (Some at) t = refl

placeless_trees : (xs : List Tree) → placeless_all (trees_of xs) ≡ trees_of (map placeless xs)
unfolding placeless
placeless_trees [] = refl
placeless_trees (t ∷ rest) = ap (tree.more (placeless t)) (placeless_trees rest)

pub placeless_and : (xs : List Tree) → placeless (joined tree.and_of xs) ≡ joined tree.and_of (map placeless xs)
unfolding placeless
placeless_and [] = refl
placeless_and (t ∷ []) = refl
placeless_and (t ∷ next ∷ rest) = ap tree.and_of (placeless_trees (t ∷ next ∷ rest))

pub placeless_or : (xs : List Tree) → placeless (joined tree.or_of xs) ≡ joined tree.or_of (map placeless xs)
unfolding placeless
placeless_or [] = refl
placeless_or (t ∷ []) = refl
placeless_or (t ∷ next ∷ rest) = ap tree.or_of (placeless_trees (t ∷ next ∷ rest))

pub placeless_mild : (left right : Tree) → placeless (tree.mild_not left right) ≡ tree.mild_not (placeless left) (placeless right)
unfolding placeless
placeless_mild left right = refl

pub placeless_filtered : (t : Tree) (f : Filter) → placeless (tree.filtered t f) ≡ tree.filtered (placeless t) f
unfolding placeless
placeless_filtered t f = refl

-- the form
pub texts_placeless : (xs : List PlacedString) → texts_of (map no_string xs) ≡ texts_of xs
texts_placeless [] = refl
texts_placeless (x ∷ xs) = ap (λ w. x.text ∷ w) (texts_placeless xs)

range_placeless : (t : Option PlacedTimes) → option_map (λ (x : PlacedTimes). x.range) (no_times t) ≡ option_map (λ (x : PlacedTimes). x.range) t
range_placeless None = refl
range_placeless (Some t) = refl

options_placeless : (os : List PlacedOption) (options : Options) → options_from options (map no_option os) ≡ options_from options os
options_placeless [] options = refl
options_placeless (o ∷ os) options = options_placeless os (with_option options o.option)

mutual
  unfolding form_of placeless

  pub form_placeless : (t : Tree) → form_of (placeless t) ≡ form_of t
  form_placeless (tree.words w) = λ i. form.words (record { values = texts_placeless w.strings i; mode = w.mode; times = range_placeless w.times i; options = options_placeless w.options no_options i })
  form_placeless (tree.or_of trees) = ap form.or_of (forms_placeless trees)
  form_placeless (tree.and_of trees) = ap form.and_of (forms_placeless trees)
  form_placeless (tree.mild_not left right) = λ i. form.mild_not (form_placeless left i) (form_placeless right i)
  form_placeless (tree.not_of at operand) = ap form.not_of (form_placeless operand)
  form_placeless (tree.filtered operand filter) = ap (λ x. form.filtered x filter) (form_placeless operand)
  form_placeless (tree.with_options operand options) = λ i. form.with_options (form_placeless operand i) (options_placeless options no_options i)

  forms_placeless : (trees : Trees) → forms_of (placeless_all trees) ≡ forms_of trees
  forms_placeless tree.none = refl
  forms_placeless (tree.more t rest) = λ i. form.more (form_placeless t i) (forms_placeless rest i)

-- whether an option is given twice
second_placeless : (before : List PlacedOption) (o : PlacedOption) → is_second (map no_option before) (no_option o) ≡ is_second before o
second_placeless [] o = refl
second_placeless (x ∷ before) o = ap (λ b. same_group x.option o.option || b) (second_placeless before o)

after_placeless : (os before : List PlacedOption) → is_some (second_after (map no_option before) (map no_option os)) ≡ is_some (second_after before os)
after_placeless [] before = refl
after_placeless (o ∷ os) before =
    ap (λ b. is_some (cond b (Some 0) (second_after (map no_option before ++ no_option o ∷ []) (map no_option os)))) (second_placeless before o)
    ∙ ap (λ w. is_some (cond (is_second before o) (Some 0) (second_after w (map no_option os)))) (sym (map-append no_option before (o ∷ [])))
    ∙ past_by (is_second before o) 0 o.at _ _ (after_placeless os (before ++ o ∷ []))

own_placeless : (os : List PlacedOption) (xs ys : List ℕ) → has_some xs ≡ has_some ys → has_some (option_to_list (second_option (map no_option os)) ++ xs) ≡ has_some (option_to_list (second_option os) ++ ys)
own_placeless os xs ys e =
    some_append (option_to_list (second_option (map no_option os))) xs
    ∙ either (some_option (second_option (map no_option os)) ∙ after_placeless os [] ∙ sym (some_option (second_option os))) e
    ∙ sym (some_append (option_to_list (second_option os)) ys)

both_placeless : (xs ys vs ws : List Tree) → has_some (flat_map own_second_option xs) ≡ has_some (flat_map own_second_option vs) → has_some (flat_map own_second_option ys) ≡ has_some (flat_map own_second_option ws) → has_some (flat_map own_second_option (xs ++ ys)) ≡ has_some (flat_map own_second_option (vs ++ ws))
both_placeless xs ys vs ws e f = some_in own_second_option xs ys ∙ either e f ∙ sym (some_in own_second_option vs ws)

mutual
  unfolding placeless within

  pub twice_placeless : (t : Tree) → has_some (options_twice (placeless t)) ≡ has_some (options_twice t)
  twice_placeless (tree.words w) = own_placeless w.options [] [] refl
  twice_placeless (tree.or_of trees) = twice_all trees
  twice_placeless (tree.and_of trees) = twice_all trees
  twice_placeless (tree.mild_not left right) = both_placeless (within (placeless left)) (within (placeless right)) (within left) (within right) (twice_placeless left) (twice_placeless right)
  twice_placeless (tree.not_of at operand) = twice_placeless operand
  twice_placeless (tree.filtered operand filter) = twice_placeless operand
  twice_placeless (tree.with_options operand options) = own_placeless options (options_twice (placeless operand)) (options_twice operand) (twice_placeless operand)

  twice_all : (trees : Trees) → has_some (flat_map own_second_option (within_all (placeless_all trees))) ≡ has_some (flat_map own_second_option (within_all trees))
  twice_all tree.none = refl
  twice_all (tree.more t rest) = both_placeless (within (placeless t)) (within_all (placeless_all rest)) (within t) (within_all rest) (twice_placeless t) (twice_all rest)
