-- In a rewritten selection `ftnot` and `occurs` stand where they may, if they did before.
use Rattle.std.proofs.Common.{◌≡◌, refl, ap, sym, ◌∙◌, Bool, true, false, ◌&&◌, ◌||◌, List, [], ◌∷◌, ◌++◌}
use Rattle.std.specs.Prelude.{flat_map, is_some}
use Rattle.std.specs.List.{list_all, list_any}
use Rattle.std.proofs.Math.Bool.{and-true, or-false}
use Rattle.std.proofs.lemmas.Bool.{and_from, and_parts, or_left, or_right}
use Rattle.std.proofs.lemmas.List.Folds.{list_all-append, list_any-append}
use Rattle.all_matches.specs.Allowed.{has_operands, without_times, each_without_times, without_not, each_without_not, has_plain_nots, each_has_plain_nots, may_be_filtered, may_stand_out}
use Rattle.counted_shapes.specs.Accepted.{each_is_accepted, field_of, is_accepted, is_counted}
use Rattle.counted_shapes.specs.Held.{each_needs_hit, needs_hit, some_needs_hit}
use Rattle.counted_shapes.specs.Shapes.{are_shapes, is_bare, is_shape}
use Rattle.ft_base.specs.declared.filter.Filter.{Filter}
use Rattle.ft_base.specs.declared.options.Options.{Options}
use Rattle.ft_base.specs.Selection.{no_options, Form, Forms, words, or_of, and_of, mild_not, not_of, filtered, with_options, none, more}
use Rattle.ft_syntax.specs.View.{forms_of}
use Rattle.ft_rewriter.specs.Rewriting.{given, each_given, listed, operands_in, without_repeats, joined_operands, connected, flattened, each_flattened, simplified, negated, each_simplified, each_negated, rewritten}
use Rattle.ft_rewriter.specs.declared.connective.Connective.{Connective}
use Rattle.ft_rewriter.specs.declared.connective.Connective.TheVariants.{Or, And}
use Rattle.ft_rewriter.proofs.OperandTests.{listed-forms_of, many_without_repeats}

-- ---- options given to the words

mutual
  unfolding given without_times

  pub times-given : (outer : Options) (form : Form) → without_times (given outer form) ≡ without_times form
  times-given outer (words value) = refl
  times-given outer (or_of forms) = each_times-given outer forms
  times-given outer (and_of forms) = each_times-given outer forms
  times-given outer (mild_not left right) = λ i. times-given outer left i && times-given outer right i
  times-given outer (not_of form) = times-given outer form
  times-given outer (filtered form kind) = times-given outer form
  times-given outer (with_options form inner) = times-given _ form

  each_times-given : (outer : Options) (forms : Forms) → each_without_times (each_given outer forms) ≡ each_without_times forms
  each_times-given outer none = refl
  each_times-given outer (more form rest) = λ i. times-given outer form i && each_times-given outer rest i

operands-given : (outer : Options) (forms : Forms) → has_operands (each_given outer forms) ≡ has_operands forms
unfolding given
operands-given outer none = refl
operands-given outer (more form rest) = refl

mutual
  unfolding given without_not

  not-given : (outer : Options) (form : Form) → without_not (given outer form) ≡ without_not form
  not-given outer (words value) = refl
  not-given outer (or_of forms) = each_not-given outer forms
  not-given outer (and_of forms) = λ i. operands-given outer forms i && each_not-given outer forms i
  not-given outer (mild_not left right) = λ i. not-given outer left i && not-given outer right i
  not-given outer (not_of form) = refl
  not-given outer (filtered form kind) = not-given outer form
  not-given outer (with_options form inner) = not-given _ form

  each_not-given : (outer : Options) (forms : Forms) → each_without_not (each_given outer forms) ≡ each_without_not forms
  each_not-given outer none = refl
  each_not-given outer (more form rest) = λ i. not-given outer form i && each_not-given outer rest i

mutual
  unfolding given has_plain_nots

  plain-given : (outer : Options) (form : Form) → has_plain_nots (given outer form) ≡ has_plain_nots form
  plain-given outer (words value) = refl
  plain-given outer (or_of forms) = each_plain-given outer forms
  plain-given outer (and_of forms) = each_plain-given outer forms
  plain-given outer (mild_not left right) = λ i. not-given outer left i && not-given outer right i
  plain-given outer (not_of form) = not-given outer form
  plain-given outer (filtered form kind) = plain-given outer form
  plain-given outer (with_options form inner) = plain-given _ form

  each_plain-given : (outer : Options) (forms : Forms) → each_has_plain_nots (each_given outer forms) ≡ each_has_plain_nots forms
  each_plain-given outer none = refl
  each_plain-given outer (more form rest) = λ i. plain-given outer form i && each_plain-given outer rest i

bare-given : (outer : Options) (form : Form) → is_bare (given outer form) ≡ is_bare form
unfolding given is_bare
bare-given outer (words value) = refl
bare-given outer (or_of forms) = refl
bare-given outer (and_of forms) = refl
bare-given outer (mild_not left right) = refl
bare-given outer (not_of form) = refl
bare-given outer (filtered form kind) = refl
bare-given outer (with_options form inner) = bare-given _ form

mutual
  unfolding given is_shape

  shape-given : (outer : Options) (form : Form) → is_shape (given outer form) ≡ is_shape form
  shape-given outer (words value) = refl
  shape-given outer (or_of forms) = refl
  shape-given outer (and_of forms) = shapes-given outer forms
  shape-given outer (mild_not left right) = refl
  shape-given outer (not_of form) = bare-given outer form
  shape-given outer (filtered form kind) = refl
  shape-given outer (with_options form inner) = shape-given _ form

  shapes-given : (outer : Options) (forms : Forms) → are_shapes (each_given outer forms) ≡ are_shapes forms
  shapes-given outer none = refl
  shapes-given outer (more form rest) = λ i. shape-given outer form i && shapes-given outer rest i

mutual
  unfolding given needs_hit

  needs-given : (outer : Options) (form : Form) → needs_hit (given outer form) ≡ needs_hit form
  needs-given outer (words value) = refl
  needs-given outer (or_of forms) = each_needs-given outer forms
  needs-given outer (and_of forms) = some_needs-given outer forms
  needs-given outer (mild_not left right) = refl
  needs-given outer (not_of form) = refl
  needs-given outer (filtered form kind) = refl
  needs-given outer (with_options form inner) = needs-given _ form

  each_needs-given : (outer : Options) (forms : Forms) → each_needs_hit (each_given outer forms) ≡ each_needs_hit forms
  each_needs-given outer none = refl
  each_needs-given outer (more form rest) = λ i. needs-given outer form i && each_needs-given outer rest i

  some_needs-given : (outer : Options) (forms : Forms) → some_needs_hit (each_given outer forms) ≡ some_needs_hit forms
  some_needs-given outer none = refl
  some_needs-given outer (more form rest) = λ i. needs-given outer form i || some_needs-given outer rest i

pub counted-given : (outer : Options) (form : Form) (kind : Filter) → is_counted (given outer form) kind ≡ is_counted form kind
counted-given outer form kind = λ i. is_some (field_of kind) && (shape-given outer form i && needs-given outer form i)

mutual
  unfolding given is_accepted

  accepted-given : (outer : Options) (form : Form) → is_accepted (given outer form) ≡ is_accepted form
  accepted-given outer (words value) = refl
  accepted-given outer (or_of forms) = each_accepted-given outer forms
  accepted-given outer (and_of forms) = each_accepted-given outer forms
  accepted-given outer (mild_not left right) =
      λ i. (times-given outer left i && not-given outer left i) && (times-given outer right i && not-given outer right i)
  accepted-given outer (not_of form) = accepted-given outer form
  accepted-given outer (filtered form kind) =
      λ i. (times-given outer form i && plain-given outer form i) || counted-given outer form kind i
  accepted-given outer (with_options form inner) = accepted-given _ form

  each_accepted-given : (outer : Options) (forms : Forms) → each_is_accepted (each_given outer forms) ≡ each_is_accepted forms
  each_accepted-given outer none = refl
  each_accepted-given outer (more form rest) = λ i. accepted-given outer form i && each_accepted-given outer rest i

-- ---- operands in the place of their selection

-- of a test that a selection's operands pass where the selection does
module _ (test : Form → Bool) (of_or : (forms : Forms) → test (or_of forms) ≡ true → list_all test (listed forms) ≡ true)
    (of_and : (forms : Forms) → test (and_of forms) ≡ true → list_all test (listed forms) ≡ true) where
  operands_pass : (c : Connective) (form : Form) → test form ≡ true → list_all test (operands_in c form) ≡ true
  operands_pass Or (words value) h = and_from (test (words value)) true h refl
  operands_pass Or (or_of forms) h = of_or forms h
  operands_pass Or (and_of forms) h = and_from (test (and_of forms)) true h refl
  operands_pass Or (mild_not left right) h = and_from (test (mild_not left right)) true h refl
  operands_pass Or (not_of form) h = and_from (test (not_of form)) true h refl
  operands_pass Or (filtered form kind) h = and_from (test (filtered form kind)) true h refl
  operands_pass Or (with_options form inner) h = and_from (test (with_options form inner)) true h refl
  operands_pass And (words value) h = and_from (test (words value)) true h refl
  operands_pass And (or_of forms) h = and_from (test (or_of forms)) true h refl
  operands_pass And (and_of forms) h = of_and forms h
  operands_pass And (mild_not left right) h = and_from (test (mild_not left right)) true h refl
  operands_pass And (not_of form) h = and_from (test (not_of form)) true h refl
  operands_pass And (filtered form kind) h = and_from (test (filtered form kind)) true h refl
  operands_pass And (with_options form inner) h = and_from (test (with_options form inner)) true h refl

  flat_pass : (c : Connective) (forms : List Form) → list_all test forms ≡ true → list_all test (flat_map (operands_in c) forms) ≡ true
  flat_pass c [] h = refl
  flat_pass c (form ∷ rest) h =
      let parts = and_parts (test form) (list_all test rest) h in
      list_all-append test (operands_in c form) (flat_map (operands_in c) rest)
      ∙ and_from (list_all test (operands_in c form)) (list_all test (flat_map (operands_in c) rest)) (operands_pass c form parts.0) (flat_pass c rest parts.1)

-- ---- what each of some selections passes

each_times : (forms : Forms) → each_without_times forms ≡ list_all without_times (listed forms)
unfolding without_times
each_times none = refl
each_times (more form rest) = ap (λ b. without_times form && b) (each_times rest)

each_not : (forms : Forms) → each_without_not forms ≡ list_all without_not (listed forms)
unfolding without_not
each_not none = refl
each_not (more form rest) = ap (λ b. without_not form && b) (each_not rest)

each_plain : (forms : Forms) → each_has_plain_nots forms ≡ list_all has_plain_nots (listed forms)
unfolding has_plain_nots
each_plain none = refl
each_plain (more form rest) = ap (λ b. has_plain_nots form && b) (each_plain rest)

each_accepted : (forms : Forms) → each_is_accepted forms ≡ list_all is_accepted (listed forms)
unfolding is_accepted
each_accepted none = refl
each_accepted (more form rest) = ap (λ b. is_accepted form && b) (each_accepted rest)

-- where operands pass a test as their selection does
all_flat : (c : Connective) (test : Form → Bool) → ((form : Form) → list_all test (operands_in c form) ≡ test form) → (forms : List Form)
    → list_all test (flat_map (operands_in c) forms) ≡ list_all test forms
all_flat c test same [] = refl
all_flat c test same (form ∷ rest) =
    list_all-append test (operands_in c form) (flat_map (operands_in c) rest) ∙ (λ i. same form i && all_flat c test same rest i)

times_operands : (c : Connective) (form : Form) → list_all without_times (operands_in c form) ≡ without_times form
unfolding without_times
times_operands Or (words value) = and-true (without_times (words value))
times_operands Or (or_of forms) = sym (each_times forms)
times_operands Or (and_of forms) = and-true (each_without_times forms)
times_operands Or (mild_not left right) = and-true (without_times left && without_times right)
times_operands Or (not_of form) = and-true (without_times form)
times_operands Or (filtered form kind) = and-true (without_times form)
times_operands Or (with_options form inner) = and-true (without_times form)
times_operands And (words value) = and-true (without_times (words value))
times_operands And (or_of forms) = and-true (each_without_times forms)
times_operands And (and_of forms) = sym (each_times forms)
times_operands And (mild_not left right) = and-true (without_times left && without_times right)
times_operands And (not_of form) = and-true (without_times form)
times_operands And (filtered form kind) = and-true (without_times form)
times_operands And (with_options form inner) = and-true (without_times form)

times_flat : (c : Connective) (forms : List Form) → each_without_times (forms_of (flat_map (operands_in c) forms)) ≡ list_all without_times forms
times_flat c forms =
    each_times (forms_of (flat_map (operands_in c) forms))
    ∙ ap (list_all without_times) (listed-forms_of (flat_map (operands_in c) forms))
    ∙ all_flat c without_times (times_operands c) forms

not_flat : (c : Connective) (forms : List Form) → list_all without_not forms ≡ true → each_without_not (forms_of (flat_map (operands_in c) forms)) ≡ true
unfolding without_not
not_flat c forms h =
    each_not (forms_of (flat_map (operands_in c) forms))
    ∙ ap (list_all without_not) (listed-forms_of (flat_map (operands_in c) forms))
    ∙ flat_pass without_not (λ parts all. sym (each_not parts) ∙ all) (λ parts all. sym (each_not parts) ∙ (and_parts (has_operands parts) (each_without_not parts) all).1) c forms h

plain_flat : (c : Connective) (forms : List Form) → list_all has_plain_nots forms ≡ true → each_has_plain_nots (forms_of (flat_map (operands_in c) forms)) ≡ true
unfolding has_plain_nots
plain_flat c forms h =
    each_plain (forms_of (flat_map (operands_in c) forms))
    ∙ ap (list_all has_plain_nots) (listed-forms_of (flat_map (operands_in c) forms))
    ∙ flat_pass has_plain_nots (λ parts all. sym (each_plain parts) ∙ all) (λ parts all. sym (each_plain parts) ∙ all) c forms h

accepted_flat : (c : Connective) (forms : List Form) → list_all is_accepted forms ≡ true → list_all is_accepted (flat_map (operands_in c) forms) ≡ true
unfolding is_accepted
accepted_flat c forms h = flat_pass is_accepted (λ parts all. sym (each_accepted parts) ∙ all) (λ parts all. sym (each_accepted parts) ∙ all) c forms h

-- a selection without `ftnot` gives an And an operand at least
some_after : (first : List Form) (rest : List Form) → has_operands (forms_of first) ≡ true → has_operands (forms_of (first ++ rest)) ≡ true
some_after [] rest h = cc
some_after (form ∷ first) rest h = refl

gives_some : (form : Form) → without_not form ≡ true → has_operands (forms_of (operands_in And form)) ≡ true
unfolding without_not
gives_some (words value) h = refl
gives_some (or_of forms) h = refl
gives_some (and_of none) h = h
gives_some (and_of (more form rest)) h = refl
gives_some (mild_not left right) h = refl
gives_some (not_of form) h = refl
gives_some (filtered form kind) h = refl
gives_some (with_options form inner) h = refl

-- ---- an Or in an Or, and an And in an And

mutual
  unfolding flattened without_times

  pub times-flattened : (form : Form) → without_times (flattened form) ≡ without_times form
  times-flattened (words value) = refl
  times-flattened (or_of forms) = times_flat Or (each_flattened forms) ∙ each_times-flattened forms
  times-flattened (and_of forms) = times_flat And (each_flattened forms) ∙ each_times-flattened forms
  times-flattened (mild_not left right) = λ i. times-flattened left i && times-flattened right i
  times-flattened (not_of form) = times-flattened form
  times-flattened (filtered form kind) = times-flattened form
  times-flattened (with_options form inner) = times-flattened form

  each_times-flattened : (forms : Forms) → list_all without_times (each_flattened forms) ≡ each_without_times forms
  each_times-flattened none = refl
  each_times-flattened (more form rest) = λ i. times-flattened form i && each_times-flattened rest i

mutual
  unfolding flattened without_not

  not-flattened : (form : Form) → without_not form ≡ true → without_not (flattened form) ≡ true
  not-flattened (words value) h = h
  not-flattened (or_of forms) h = not_flat Or (each_flattened forms) (each_not-flattened forms h)
  not-flattened (and_of forms) h =
      let parts = and_parts (has_operands forms) (each_without_not forms) h in
      and_from (has_operands (forms_of (flat_map (operands_in And) (each_flattened forms)))) (each_without_not (forms_of (flat_map (operands_in And) (each_flattened forms))))
      (some-flattened forms parts.0 parts.1) (not_flat And (each_flattened forms) (each_not-flattened forms parts.1))
  not-flattened (mild_not left right) h =
      let sides = and_parts (without_not left) (without_not right) h in
      and_from (without_not (flattened left)) (without_not (flattened right)) (not-flattened left sides.0) (not-flattened right sides.1)
  not-flattened (not_of form) h = h
  not-flattened (filtered form kind) h = not-flattened form h
  not-flattened (with_options form inner) h = not-flattened form h

  some-flattened : (forms : Forms) → has_operands forms ≡ true → each_without_not forms ≡ true → has_operands (forms_of (flat_map (operands_in And) (each_flattened forms))) ≡ true
  some-flattened none some h = some
  some-flattened (more form rest) some h =
      let parts = and_parts (without_not form) (each_without_not rest) h in
      some_after (operands_in And (flattened form)) (flat_map (operands_in And) (each_flattened rest)) (gives_some (flattened form) (not-flattened form parts.0))

  each_not-flattened : (forms : Forms) → each_without_not forms ≡ true → list_all without_not (each_flattened forms) ≡ true
  each_not-flattened none h = refl
  each_not-flattened (more form rest) h =
      let parts = and_parts (without_not form) (each_without_not rest) h in
      and_from (without_not (flattened form)) (list_all without_not (each_flattened rest)) (not-flattened form parts.0) (each_not-flattened rest parts.1)

mutual
  unfolding flattened has_plain_nots

  plain-flattened : (form : Form) → has_plain_nots form ≡ true → has_plain_nots (flattened form) ≡ true
  plain-flattened (words value) h = h
  plain-flattened (or_of forms) h = plain_flat Or (each_flattened forms) (each_plain-flattened forms h)
  plain-flattened (and_of forms) h = plain_flat And (each_flattened forms) (each_plain-flattened forms h)
  plain-flattened (mild_not left right) h =
      let sides = and_parts (without_not left) (without_not right) h in
      and_from (without_not (flattened left)) (without_not (flattened right)) (not-flattened left sides.0) (not-flattened right sides.1)
  plain-flattened (not_of form) h = not-flattened form h
  plain-flattened (filtered form kind) h = plain-flattened form h
  plain-flattened (with_options form inner) h = plain-flattened form h

  each_plain-flattened : (forms : Forms) → each_has_plain_nots forms ≡ true → list_all has_plain_nots (each_flattened forms) ≡ true
  each_plain-flattened none h = refl
  each_plain-flattened (more form rest) h =
      let parts = and_parts (has_plain_nots form) (each_has_plain_nots rest) h in
      and_from (has_plain_nots (flattened form)) (list_all has_plain_nots (each_flattened rest)) (plain-flattened form parts.0) (each_plain-flattened rest parts.1)

out-flattened : (form : Form) → may_stand_out form ≡ true → may_stand_out (flattened form) ≡ true
out-flattened form h =
    let parts = and_parts (without_times form) (without_not form) h in
    and_from (without_times (flattened form)) (without_not (flattened form)) (times-flattened form ∙ parts.0) (not-flattened form parts.1)

-- ---- counted shapes, which keep their items where an And inside gives its operands

shapes_listed : (forms : Forms) → are_shapes forms ≡ list_all is_shape (listed forms)
unfolding is_shape
shapes_listed none = refl
shapes_listed (more form rest) = ap (λ b. is_shape form && b) (shapes_listed rest)

each_needs_listed : (forms : Forms) → each_needs_hit forms ≡ list_all needs_hit (listed forms)
unfolding needs_hit
each_needs_listed none = refl
each_needs_listed (more form rest) = ap (λ b. needs_hit form && b) (each_needs_listed rest)

some_needs_listed : (forms : Forms) → some_needs_hit forms ≡ list_any needs_hit (listed forms)
unfolding needs_hit
some_needs_listed none = refl
some_needs_listed (more form rest) = ap (λ b. needs_hit form || b) (some_needs_listed rest)

shape_operands : (form : Form) → list_all is_shape (operands_in And form) ≡ is_shape form
unfolding is_shape
shape_operands (words value) = and-true (is_shape (words value))
shape_operands (or_of forms) = refl
shape_operands (and_of forms) = sym (shapes_listed forms)
shape_operands (mild_not left right) = refl
shape_operands (not_of form) = and-true (is_bare form)
shape_operands (filtered form kind) = refl
shape_operands (with_options form inner) = and-true (is_shape form)

some_operands : (form : Form) → list_any needs_hit (operands_in And form) ≡ needs_hit form
unfolding needs_hit
some_operands (words value) = or-false (needs_hit (words value))
some_operands (or_of forms) = or-false (each_needs_hit forms)
some_operands (and_of forms) = sym (some_needs_listed forms)
some_operands (mild_not left right) = refl
some_operands (not_of form) = refl
some_operands (filtered form kind) = refl
some_operands (with_options form inner) = or-false (needs_hit form)

each_operands : (form : Form) → list_all needs_hit (operands_in Or form) ≡ needs_hit form
unfolding needs_hit
each_operands (words value) = and-true (needs_hit (words value))
each_operands (or_of forms) = sym (each_needs_listed forms)
each_operands (and_of forms) = and-true (some_needs_hit forms)
each_operands (mild_not left right) = refl
each_operands (not_of form) = refl
each_operands (filtered form kind) = refl
each_operands (with_options form inner) = and-true (needs_hit form)

any_flat : (c : Connective) (test : Form → Bool) → ((form : Form) → list_any test (operands_in c form) ≡ test form) → (forms : List Form)
    → list_any test (flat_map (operands_in c) forms) ≡ list_any test forms
any_flat c test same [] = refl
any_flat c test same (form ∷ rest) =
    list_any-append test (operands_in c form) (flat_map (operands_in c) rest) ∙ (λ i. same form i || any_flat c test same rest i)

bare-flattened : (form : Form) → is_bare (flattened form) ≡ is_bare form
unfolding flattened is_bare
bare-flattened (words value) = refl
bare-flattened (or_of forms) = refl
bare-flattened (and_of forms) = refl
bare-flattened (mild_not left right) = refl
bare-flattened (not_of form) = refl
bare-flattened (filtered form kind) = refl
bare-flattened (with_options form inner) = bare-flattened form

mutual
  unfolding flattened is_shape

  shape-flattened : (form : Form) → is_shape (flattened form) ≡ is_shape form
  shape-flattened (words value) = refl
  shape-flattened (or_of forms) = refl
  shape-flattened (and_of forms) =
      let own = flat_map (operands_in And) (each_flattened forms) in
      shapes_listed (forms_of own) ∙ ap (list_all is_shape) (listed-forms_of own) ∙ all_flat And is_shape shape_operands (each_flattened forms) ∙ shapes-flattened forms
  shape-flattened (mild_not left right) = refl
  shape-flattened (not_of form) = bare-flattened form
  shape-flattened (filtered form kind) = refl
  shape-flattened (with_options form inner) = shape-flattened form

  shapes-flattened : (forms : Forms) → list_all is_shape (each_flattened forms) ≡ are_shapes forms
  shapes-flattened none = refl
  shapes-flattened (more form rest) = λ i. shape-flattened form i && shapes-flattened rest i

mutual
  unfolding flattened needs_hit

  needs-flattened : (form : Form) → needs_hit (flattened form) ≡ needs_hit form
  needs-flattened (words value) = refl
  needs-flattened (or_of forms) =
      let own = flat_map (operands_in Or) (each_flattened forms) in
      each_needs_listed (forms_of own) ∙ ap (list_all needs_hit) (listed-forms_of own) ∙ all_flat Or needs_hit each_operands (each_flattened forms) ∙ each_needs-flattened forms
  needs-flattened (and_of forms) =
      let own = flat_map (operands_in And) (each_flattened forms) in
      some_needs_listed (forms_of own) ∙ ap (list_any needs_hit) (listed-forms_of own) ∙ any_flat And needs_hit some_operands (each_flattened forms) ∙ some_needs-flattened forms
  needs-flattened (mild_not left right) = refl
  needs-flattened (not_of form) = refl
  needs-flattened (filtered form kind) = refl
  needs-flattened (with_options form inner) = needs-flattened form

  each_needs-flattened : (forms : Forms) → list_all needs_hit (each_flattened forms) ≡ each_needs_hit forms
  each_needs-flattened none = refl
  each_needs-flattened (more form rest) = λ i. needs-flattened form i && each_needs-flattened rest i

  some_needs-flattened : (forms : Forms) → list_any needs_hit (each_flattened forms) ≡ some_needs_hit forms
  some_needs-flattened none = refl
  some_needs-flattened (more form rest) = λ i. needs-flattened form i || some_needs-flattened rest i

pub counted-flattened : (form : Form) (kind : Filter) → is_counted (flattened form) kind ≡ is_counted form kind
counted-flattened form kind = λ i. is_some (field_of kind) && (shape-flattened form i && needs-flattened form i)

-- what only its Matches tell
mild_not-flattened : (left right : Form) → is_accepted (mild_not left right) ≡ true → is_accepted (flattened (mild_not left right)) ≡ true
unfolding flattened is_accepted
mild_not-flattened left right h =
    let sides = and_parts (may_stand_out left) (may_stand_out right) h in
    and_from (may_stand_out (flattened left)) (may_stand_out (flattened right)) (out-flattened left sides.0) (out-flattened right sides.1)

filtered-flattened : (form : Form) (kind : Filter) → is_accepted (filtered form kind) ≡ true → is_accepted (flattened (filtered form kind)) ≡ true
unfolding flattened is_accepted
filtered-flattened form kind h =
    by_test (may_be_filtered form) refl
  where
    by_test : (b : Bool) → may_be_filtered form ≡ b → (may_be_filtered (flattened form) || is_counted (flattened form) kind) ≡ true
    by_test true e =
        let parts = and_parts (without_times form) (has_plain_nots form) e in
        or_left (may_be_filtered (flattened form)) (is_counted (flattened form) kind)
        (and_from (without_times (flattened form)) (has_plain_nots (flattened form)) (times-flattened form ∙ parts.0) (plain-flattened form parts.1))
    by_test false e =
        or_right (may_be_filtered (flattened form)) (is_counted (flattened form) kind) (counted-flattened form kind ∙ sym (ap (λ b. b || is_counted form kind) e) ∙ h)

-- ---- `ftnot` moved inwards

accepted_joined_operands : (c : Connective) (forms : List Form) → list_all is_accepted forms ≡ true → is_accepted (joined_operands c forms) ≡ true
unfolding is_accepted
accepted_joined_operands Or [] h = refl
accepted_joined_operands And [] h = refl
accepted_joined_operands c (form ∷ []) h = (and_parts (is_accepted form) true h).0
accepted_joined_operands Or (first ∷ second ∷ rest) h = each_accepted (forms_of (first ∷ second ∷ rest)) ∙ ap (list_all is_accepted) (listed-forms_of (first ∷ second ∷ rest)) ∙ h
accepted_joined_operands And (first ∷ second ∷ rest) h = each_accepted (forms_of (first ∷ second ∷ rest)) ∙ ap (list_all is_accepted) (listed-forms_of (first ∷ second ∷ rest)) ∙ h

accepted_connected : (c : Connective) (forms : List Form) → list_all is_accepted forms ≡ true → is_accepted (connected c forms) ≡ true
accepted_connected c forms h =
    accepted_joined_operands c (without_repeats (flat_map (operands_in c) forms))
    (many_without_repeats And is_accepted (flat_map (operands_in c) forms) ∙ accepted_flat c forms h)

mutual
  unfolding simplified is_accepted

  accepted-simplified : (form : Form) → is_accepted form ≡ true → is_accepted (simplified form) ≡ true
  accepted-simplified (words value) h = refl
  accepted-simplified (or_of forms) h = accepted_connected Or (each_simplified forms) (each_accepted-simplified forms h)
  accepted-simplified (and_of forms) h = accepted_connected And (each_simplified forms) (each_accepted-simplified forms h)
  accepted-simplified (mild_not left right) h = mild_not-flattened left right h
  accepted-simplified (not_of form) h = accepted-negated form h
  accepted-simplified (filtered form kind) h = filtered-flattened form kind h
  accepted-simplified (with_options form inner) h = accepted-simplified form h

  accepted-negated : (form : Form) → is_accepted form ≡ true → is_accepted (negated form) ≡ true
  accepted-negated (words value) h = refl
  accepted-negated (or_of forms) h = accepted_connected And (each_negated forms) (each_accepted-negated forms h)
  accepted-negated (and_of forms) h = accepted_connected Or (each_negated forms) (each_accepted-negated forms h)
  accepted-negated (mild_not left right) h = mild_not-flattened left right h
  accepted-negated (not_of form) h = accepted-simplified form h
  accepted-negated (filtered form kind) h = filtered-flattened form kind h
  accepted-negated (with_options form inner) h = accepted-simplified form h

  each_accepted-simplified : (forms : Forms) → each_is_accepted forms ≡ true → list_all is_accepted (each_simplified forms) ≡ true
  each_accepted-simplified none h = refl
  each_accepted-simplified (more form rest) h =
      let parts = and_parts (is_accepted form) (each_is_accepted rest) h in
      and_from (is_accepted (simplified form)) (list_all is_accepted (each_simplified rest)) (accepted-simplified form parts.0) (each_accepted-simplified rest parts.1)

  each_accepted-negated : (forms : Forms) → each_is_accepted forms ≡ true → list_all is_accepted (each_negated forms) ≡ true
  each_accepted-negated none h = refl
  each_accepted-negated (more form rest) h =
      let parts = and_parts (is_accepted form) (each_is_accepted rest) h in
      and_from (is_accepted (negated form)) (list_all is_accepted (each_negated rest)) (accepted-negated form parts.0) (each_accepted-negated rest parts.1)

pub accepted-rewritten : (form : Form) → is_accepted form ≡ true → is_accepted (rewritten form) ≡ true
accepted-rewritten form h = accepted-simplified (given no_options form) (accepted-given no_options form ∙ h)
