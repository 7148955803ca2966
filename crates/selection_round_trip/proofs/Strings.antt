-- Whether the strings of a selection make too many phrases, or hold a badly formed pattern, is told by its form.
use Rattle.std.proofs.Common.{◌≡◌, ◌+◌, ℕ, Bool, true, false, cond, nat_lt, List, [], ◌∷◌, ◌++◌, map, Option, Some, refl, ◌∙◌, ap}
use Rattle.std.proofs.lemmas.List.{map-append}
use Rattle.std.specs.Prelude.{filter}
use Rattle.std.specs.Option.{is_some, unwrap_or}
use Rattle.ft_base.specs.declared.words.Mode.{Mode}
use Rattle.ft_base.specs.Limits.{max_phrases}
use Rattle.ft_base.specs.Selection as form
use Rattle.ft_base.specs.Selection.{Form, Forms}
use Rattle.selection_grammar.specs.Form.{form_of, forms_of}
use Rattle.selection_grammar.specs.Grammar.{texts_of}
use Rattle.selection_grammar.specs.Tree as tree
use Rattle.selection_grammar.specs.Tree.{Tree, Trees}
use Rattle.selection_grammar.specs.declared.parsed.PlacedString.{PlacedString}
use Rattle.selection_faults.specs.Strings.{Written, written, strings_inside, strings_inside_all, phrases_of, phrases_past, is_bad, bad_wildcards, wildcards_inside}
use Rattle.selection_round_trip.proofs.Marks.{has_some}

abbrev string_of : Mode → Bool → List ℕ → Written
string_of mode wildcards text = record { string = record { at = 0; text = text }; mode = mode; wildcards = wildcards }

abbrev pub without_place : Written → Written
without_place s = string_of s.mode s.wildcards s.string.text

-- the strings of a form
unfoldable mutual
  pub strings_in : Bool → Form → List Written
  strings_in around (form.words v) = map (string_of v.mode (unwrap_or v.options.wildcards around)) v.values
  strings_in around (form.or_of forms) = strings_in_all around forms
  strings_in around (form.and_of forms) = strings_in_all around forms
  strings_in around (form.mild_not left right) = strings_in around left ++ strings_in around right
  strings_in around (form.not_of x) = strings_in around x
  strings_in around (form.filtered x filter) = strings_in around x
  strings_in around (form.with_options x options) = strings_in (unwrap_or options.wildcards around) x

  strings_in_all : Bool → Forms → List Written
  strings_in_all around form.none = []
  strings_in_all around (form.more x rest) = strings_in around x ++ strings_in_all around rest

value_same : (mode : Mode) (wildcards : Bool) (xs : List PlacedString) → map without_place (map (written mode wildcards) xs) ≡ map (string_of mode wildcards) (texts_of xs)
value_same mode wildcards [] = refl
value_same mode wildcards (x ∷ xs) = ap (λ w. string_of mode wildcards x.text ∷ w) (value_same mode wildcards xs)

two : (xs ys : List Written) {s t : List Written} → map without_place xs ≡ s → map without_place ys ≡ t → map without_place (xs ++ ys) ≡ s ++ t
two xs ys {s} {t} e f = map-append without_place xs ys ∙ ap (λ w. w ++ map without_place ys) e ∙ ap (λ w. s ++ w) f

mutual
  unfolding form_of strings_in strings_inside

  pub strings_same : (around : Bool) (t : Tree) → map without_place (strings_inside around t) ≡ strings_in around (form_of t)
  strings_same around (tree.words w) = value_same w.mode (wildcards_inside around w.options) w.strings
  strings_same around (tree.or_of trees) = all_same around trees
  strings_same around (tree.and_of trees) = all_same around trees
  strings_same around (tree.mild_not left right) = two (strings_inside around left) (strings_inside around right) (strings_same around left) (strings_same around right)
  strings_same around (tree.not_of at operand) = strings_same around operand
  strings_same around (tree.filtered operand filter) = strings_same around operand
  strings_same around (tree.with_options operand options) = strings_same (wildcards_inside around options) operand

  all_same : (around : Bool) (trees : Trees) → map without_place (strings_inside_all around trees) ≡ strings_in_all around (forms_of trees)
  all_same around tree.none = refl
  all_same around (tree.more t rest) = two (strings_inside around t) (strings_inside_all around rest) (strings_same around t) (all_same around rest)

pub past_by : (b : Bool) (x y : ℕ) (p q : Option ℕ) → is_some p ≡ is_some q → is_some (cond b (Some x) p) ≡ is_some (cond b (Some y) q)
past_by true x y p q e = refl
past_by false x y p q e = e

pub past_same : (n : ℕ) (strings : List Written) → is_some (phrases_past n strings) ≡ is_some (phrases_past n (map without_place strings))
past_same n [] = refl
past_same n (s ∷ rest) = past_by (nat_lt max_phrases (n + phrases_of s)) s.string.at 0 _ _ (past_same (n + phrases_of s) rest)

bad_by : (b : Bool) (x y : Written) (p q : List Written) → has_some (map (λ (s : Written). s.string.at) p) ≡ has_some (map (λ (s : Written). s.string.at) q)
    → has_some (map (λ (s : Written). s.string.at) (cond b (x ∷ p) p)) ≡ has_some (map (λ (s : Written). s.string.at) (cond b (y ∷ q) q))
bad_by true x y p q e = refl
bad_by false x y p q e = e

pub bad_same : (strings : List Written) → has_some (bad_wildcards strings) ≡ has_some (bad_wildcards (map without_place strings))
bad_same [] = refl
bad_same (s ∷ rest) = bad_by (is_bad s) s (without_place s) (filter is_bad rest) (filter is_bad (map without_place rest)) (bad_same rest)
