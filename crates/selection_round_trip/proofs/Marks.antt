-- Whether a selection holds excludes where they are not allowed is told by its form.
use Rattle.std.proofs.Common.{◌≡◌, ℕ, Bool, true, false, cond, List, [], ◌∷◌, ◌++◌, Option, Some, None, option_map, refl, ◌∙◌, ap, ◌||◌}
use Rattle.std.proofs.lemmas.List.Concat.{flat_map-append}
use Rattle.std.specs.Prelude.{flat_map}
use Rattle.std.specs.Option.{is_some, option_to_list}
use Rattle.ft_base.specs.Selection as form
use Rattle.ft_base.specs.Selection.{Form, Forms}
use Rattle.counted_shapes.specs.Accepted.{is_counted}
use Rattle.selection_grammar.specs.Form.{form_of, forms_of}
use Rattle.selection_grammar.specs.Tree as tree
use Rattle.selection_grammar.specs.Tree.{Tree, Trees}
use Rattle.selection_grammar.specs.declared.parsed.PlacedTimes.{PlacedTimes}
use Rattle.selection_faults.specs.Excludes.{within, within_all, not_place, times_place, operand_nots, operand_excludes, filtered_excludes, nots, times, excludes, nested_nots, uncounted_times}

-- whether a list has members
abbrev pub has_some : {A : Type 0} → List A → Bool
has_some [] = false
has_some (x ∷ rest) = true

pub some_append : {A : Type 0} (xs ys : List A) → has_some (xs ++ ys) ≡ (has_some xs || has_some ys)
some_append [] ys = refl
some_append (x ∷ xs) ys = refl

pub either : {a b c d : Bool} → a ≡ c → b ≡ d → (a || b) ≡ (c || d)
either {a} {b} {c} {d} e f = ap (λ x. x || b) e ∙ ap (λ x. c || x) f

pub some_in : (places : Tree → List ℕ) (xs ys : List Tree) → has_some (flat_map places (xs ++ ys)) ≡ (has_some (flat_map places xs) || has_some (flat_map places ys))
some_in places xs ys = ap has_some (flat_map-append places xs ys) ∙ some_append (flat_map places xs) (flat_map places ys)

-- what a selection holds somewhere
pub record Marks : Type 0 where
  pub nots : Bool
  pub times : Bool
  pub nested_nots : Bool
  pub mild_not_excludes : Bool
  pub inside_filters : Bool

abbrev no_marks : Marks
no_marks = record { nots = false; times = false; nested_nots = false; mild_not_excludes = false; inside_filters = false }

abbrev with_marks : Marks → Marks → Marks
with_marks a b = record { nots = a.nots || b.nots; times = a.times || b.times; nested_nots = a.nested_nots || b.nested_nots; mild_not_excludes = a.mild_not_excludes || b.mild_not_excludes; inside_filters = a.inside_filters || b.inside_filters }

abbrev mild_marks : Marks → Marks → Marks
mild_marks a b = record (with_marks a b) { mild_not_excludes = ((a.nots || a.times) || (b.nots || b.times)) || (a.mild_not_excludes || b.mild_not_excludes) }

abbrev not_marks : Marks → Marks
not_marks a = record a { nots = true; nested_nots = a.nots || a.nested_nots }

abbrev filter_marks : Bool → Marks → Marks
filter_marks counted a = record a { inside_filters = (a.nested_nots || cond counted false a.times) || a.inside_filters }

unfoldable mutual
  pub marks_of : Form → Marks
  marks_of (form.words v) = record no_marks { times = is_some v.times }
  marks_of (form.or_of forms) = marks_of_all forms
  marks_of (form.and_of forms) = marks_of_all forms
  marks_of (form.mild_not left right) = mild_marks (marks_of left) (marks_of right)
  marks_of (form.not_of x) = not_marks (marks_of x)
  marks_of (form.filtered x filter) = filter_marks (is_counted x filter) (marks_of x)
  marks_of (form.with_options x options) = marks_of x

  marks_of_all : Forms → Marks
  marks_of_all form.none = no_marks
  marks_of_all (form.more x rest) = with_marks (marks_of x) (marks_of_all rest)

abbrev seen_in : List Tree → Marks
seen_in trees = record { nots = has_some (flat_map not_place trees); times = has_some (flat_map times_place trees); nested_nots = has_some (flat_map operand_nots trees); mild_not_excludes = has_some (flat_map operand_excludes trees); inside_filters = has_some (flat_map filtered_excludes trees) }

abbrev pub seen : Tree → Marks
seen t = seen_in (within t)

abbrev five : Bool → Bool → Bool → Bool → Bool → Marks
five n t e m f = record { nots = n; times = t; nested_nots = e; mild_not_excludes = m; inside_filters = f }

same_five : {n n' t t' e e' m m' f f' : Bool} → n ≡ n' → t ≡ t' → e ≡ e' → m ≡ m' → f ≡ f' → five n t e m f ≡ five n' t' e' m' f'
same_five {n} {n'} {t} {t'} {e} {e'} {m} {m'} {f} {f'} a b c d g =
    ap (λ x. five x t e m f) a ∙ ap (λ x. five n' x e m f) b ∙ ap (λ x. five n' t' x m f) c ∙ ap (λ x. five n' t' e' x f) d ∙ ap (λ x. five n' t' e' m' x) g

seen_both : (xs ys : List Tree) → seen_in (xs ++ ys) ≡ with_marks (seen_in xs) (seen_in ys)
seen_both xs ys = same_five (some_in not_place xs ys) (some_in times_place xs ys) (some_in operand_nots xs ys) (some_in operand_excludes xs ys) (some_in filtered_excludes xs ys)

seen_words : (t : Option PlacedTimes) → has_some (option_to_list (option_map (λ (x : PlacedTimes). x.at) t) ++ []) ≡ is_some (option_map (λ (x : PlacedTimes). x.range) t)
seen_words None = refl
seen_words (Some x) = refl

seen_mild : (left right : Tree) → seen (tree.mild_not left right) ≡ mild_marks (seen left) (seen right)
unfolding within
seen_mild left right = same_five (some_in not_place (within left) (within right)) (some_in times_place (within left) (within right)) (some_in operand_nots (within left) (within right))
    (some_append (excludes left ++ excludes right) (flat_map operand_excludes (within left ++ within right))
    ∙ either (some_append (excludes left) (excludes right) ∙ either (some_append (nots left) (times left)) (some_append (nots right) (times right))) (some_in operand_excludes (within left) (within right)))
    (some_in filtered_excludes (within left) (within right))

seen_not : (at : ℕ) (t : Tree) → seen (tree.not_of at t) ≡ not_marks (seen t)
unfolding within
seen_not at t = same_five refl refl (some_append (nots t) (flat_map operand_nots (within t))) refl refl

seen_unless : (counted : Bool) (places : List ℕ) → has_some (cond counted [] places) ≡ cond counted false (has_some places)
seen_unless true places = refl
seen_unless false places = refl

mutual
  unfolding form_of marks_of within

  pub marks_same : (t : Tree) → seen t ≡ marks_of (form_of t)
  marks_same (tree.words w) = same_five refl (seen_words w.times) refl refl refl
  marks_same (tree.or_of trees) = all_same trees
  marks_same (tree.and_of trees) = all_same trees
  marks_same (tree.mild_not left right) = seen_mild left right ∙ ap (λ a. mild_marks a (seen right)) (marks_same left) ∙ ap (mild_marks (marks_of (form_of left))) (marks_same right)
  marks_same (tree.not_of at operand) = seen_not at operand ∙ ap not_marks (marks_same operand)
  marks_same (tree.filtered operand filter) =
      same_five refl refl refl refl (some_append (nested_nots operand ++ uncounted_times operand filter) (flat_map filtered_excludes (within operand))
      ∙ either (some_append (nested_nots operand) (uncounted_times operand filter) ∙ either refl (seen_unless (is_counted (form_of operand) filter) (times operand))) refl)
      ∙ ap (filter_marks (is_counted (form_of operand) filter)) (marks_same operand)
  marks_same (tree.with_options operand options) = marks_same operand

  all_same : (trees : Trees) → seen_in (within_all trees) ≡ marks_of_all (forms_of trees)
  all_same tree.none = refl
  all_same (tree.more t rest) = seen_both (within t) (within_all rest) ∙ ap (λ a. with_marks a (seen_in (within_all rest))) (marks_same t) ∙ ap (with_marks (marks_of (form_of t))) (all_same rest)
