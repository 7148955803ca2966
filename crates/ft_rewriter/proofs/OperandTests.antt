-- Operands that are joined, without those that stand twice, pass tests as all of them do.
use Rattle.std.proofs.Common.{◌≡◌, refl, ap, sym, ◌∙◌, Bool, true, false, not, ◌&&◌, ◌||◌, cond, List, [], ◌∷◌, ◌++◌}
use Rattle.std.specs.Prelude.{flat_map, fold}
use Rattle.std.specs.List.{list_any, list_all}
use Rattle.std.proofs.lemmas.List.Folds.{list_any-append, list_all-append}
use Rattle.std.proofs.Math.Bool.{or-false, or_assoc, and-true, and_assoc}
use Rattle.all_matches.specs.Compositional.{some_form, each_form_passes}
use Rattle.all_matches.specs.Meaning.{sat_under}
use Rattle.all_matches.specs.Variants.{Lexicon}
use Rattle.all_matches.proofs.Compositional.{sat-or_of, sat-and_of}
use Rattle.ft_base.specs.declared.options.Options.{Options}
use Rattle.ft_base.specs.declared.token.Token.{Token}
use Rattle.ft_base.specs.Selection.{Form, Forms, words, or_of, and_of, mild_not, not_of, filtered, with_options, none, more}
use Rattle.ft_syntax.specs.View.{forms_of}
use Rattle.ft_rewriter.specs.Code.{same_form}
use Rattle.ft_rewriter.specs.Rewriting.{listed, joined, operands_in, with_operand, without_repeats, joined_operands, connected}
use Rattle.ft_rewriter.specs.declared.connective.Connective.{Connective}
use Rattle.ft_rewriter.specs.declared.connective.Connective.TheVariants.{Or, And}
use Rattle.ft_rewriter.proofs.SameForms.{equal_forms}

-- `or` and `and` of truth values, what they are of none, and the other of the two
abbrev pub op : Connective → Bool → Bool → Bool
op Or a b = a || b
op And a b = a && b

abbrev pub unit : Connective → Bool
unit Or = false
unit And = true

abbrev pub other : Connective → Connective
other Or = And
other And = Or

abbrev pub many : Connective → (Form → Bool) → List Form → Bool
many Or test forms = list_any test forms
many And test forms = list_all test forms

op_unit : (c : Connective) (a : Bool) → op c a (unit c) ≡ a
op_unit Or a = or-false a
op_unit And a = and-true a

unit_op : (c : Connective) (a : Bool) → op c (unit c) a ≡ a
unit_op Or a = refl
unit_op And a = refl

op_assoc : (c : Connective) (a b d : Bool) → op c (op c a b) d ≡ op c a (op c b d)
op_assoc Or a b d = or_assoc a b d
op_assoc And a b d = and_assoc a b d

absorbed : (c : Connective) (a b : Bool) → op c (op c a b) a ≡ op c a b
absorbed Or true b = refl
absorbed Or false true = refl
absorbed Or false false = refl
absorbed And true true = refl
absorbed And true false = refl
absorbed And false b = refl

pub op_not : (c : Connective) (a b : Bool) → op (other c) (not a) (not b) ≡ not (op c a b)
op_not Or true b = refl
op_not Or false b = refl
op_not And true b = refl
op_not And false b = refl

pub unit_not : (c : Connective) → unit (other c) ≡ not (unit c)
unit_not Or = refl
unit_not And = refl

module _ (c : Connective) (test : Form → Bool) where
  pub many_none : many c test [] ≡ unit c
  many_none = none_of c
    where
      none_of : (d : Connective) → many d test [] ≡ unit d
      none_of Or = refl
      none_of And = refl

  pub many_more : (x : Form) (xs : List Form) → many c test (x ∷ xs) ≡ op c (test x) (many c test xs)
  many_more x xs = more_of c
    where
      more_of : (d : Connective) → many d test (x ∷ xs) ≡ op d (test x) (many d test xs)
      more_of Or = refl
      more_of And = refl

  many_one : (x : Form) → many c test (x ∷ []) ≡ test x
  many_one x = many_more x [] ∙ ap (op c (test x)) many_none ∙ op_unit c (test x)

  many_append : (xs ys : List Form) → many c test (xs ++ ys) ≡ op c (many c test xs) (many c test ys)
  many_append xs ys = append_of c
    where
      append_of : (d : Connective) → many d test (xs ++ ys) ≡ op d (many d test xs) (many d test ys)
      append_of Or = list_any-append test xs ys
      append_of And = list_all-append test xs ys

  -- an operand that equals an earlier one decides nothing
  repeated_step : (x y : Form) (ys : List Form) (b : Bool) → same_form x y ≡ b → (b || list_any (same_form x) ys) ≡ true
      → (list_any (same_form x) ys ≡ true → op c (many c test ys) (test x) ≡ many c test ys) → op c (op c (test y) (many c test ys)) (test x) ≡ op c (test y) (many c test ys)
  repeated_step x y ys true e h further = ap (λ z. op c (op c (test y) (many c test ys)) (test z)) (equal_forms x y e) ∙ absorbed c (test y) (many c test ys)
  repeated_step x y ys false e h further = op_assoc c (test y) (many c test ys) (test x) ∙ ap (op c (test y)) (further h)

  repeated : (x : Form) (xs : List Form) → list_any (same_form x) xs ≡ true → op c (many c test xs) (test x) ≡ many c test xs
  repeated x [] h = cc
  repeated x (y ∷ ys) h =
      ap (λ b. op c b (test x)) (many_more y ys)
      ∙ repeated_step x y ys (same_form x y) refl h (repeated x ys)
      ∙ sym (many_more y ys)

  operand_step : (kept : List Form) (x : Form) (b : Bool) → list_any (same_form x) kept ≡ b → many c test (cond b kept (kept ++ x ∷ [])) ≡ op c (many c test kept) (test x)
  operand_step kept x true e = sym (repeated x kept e)
  operand_step kept x false e = many_append kept (x ∷ []) ∙ ap (op c (many c test kept)) (many_one x)

  all_operands : (kept forms : List Form) → many c test (fold with_operand kept forms) ≡ op c (many c test kept) (many c test forms)
  all_operands kept [] = sym (ap (op c (many c test kept)) many_none ∙ op_unit c (many c test kept))
  all_operands kept (x ∷ rest) =
      all_operands (with_operand kept x) rest
      ∙ ap (λ b. op c b (many c test rest)) (operand_step kept x (list_any (same_form x) kept) refl)
      ∙ op_assoc c (many c test kept) (test x) (many c test rest)
      ∙ ap (op c (many c test kept)) (sym (many_more x rest))

  pub many_without_repeats : (forms : List Form) → many c test (without_repeats forms) ≡ many c test forms
  many_without_repeats forms = all_operands [] forms ∙ ap (λ b. op c b (many c test forms)) many_none ∙ unit_op c (many c test forms)

  many_flat : ((form : Form) → many c test (operands_in c form) ≡ test form) → (forms : List Form) → many c test (flat_map (operands_in c) forms) ≡ many c test forms
  many_flat same [] = refl
  many_flat same (x ∷ rest) = many_append (operands_in c x) (flat_map (operands_in c) rest) ∙ (λ i. op c (same x i) (many_flat same rest i)) ∙ sym (many_more x rest)

some_listed : (test : Form → Bool) (forms : Forms) → list_any test (listed forms) ≡ some_form test forms
some_listed test none = refl
some_listed test (more form rest) = ap (λ b. test form || b) (some_listed test rest)

each_listed : (test : Form → Bool) (forms : Forms) → list_all test (listed forms) ≡ each_form_passes test forms
each_listed test none = refl
each_listed test (more form rest) = ap (λ b. test form && b) (each_listed test rest)

pub listed-forms_of : (forms : List Form) → listed (forms_of forms) ≡ forms
listed-forms_of [] = refl
listed-forms_of (form ∷ rest) = ap (λ fs. form ∷ fs) (listed-forms_of rest)

module _ (lexicon : Lexicon) (options : Options) (tokens : List Token) where
  abbrev pub satisfies : Form → Bool
  satisfies form = sat_under lexicon options form tokens

  pub sat_joined : (c : Connective) (forms : Forms) → satisfies (joined c forms) ≡ many c satisfies (listed forms)
  sat_joined Or forms = sat-or_of lexicon options forms tokens ∙ sym (some_listed satisfies forms)
  sat_joined And forms = sat-and_of lexicon options forms tokens ∙ sym (each_listed satisfies forms)

  sat_operands : (c : Connective) (form : Form) → many c satisfies (operands_in c form) ≡ satisfies form
  sat_operands Or (words value) = many_one Or satisfies (words value)
  sat_operands Or (or_of forms) = sym (sat_joined Or forms)
  sat_operands Or (and_of forms) = many_one Or satisfies (and_of forms)
  sat_operands Or (mild_not left right) = many_one Or satisfies (mild_not left right)
  sat_operands Or (not_of form) = many_one Or satisfies (not_of form)
  sat_operands Or (filtered form kind) = many_one Or satisfies (filtered form kind)
  sat_operands Or (with_options form inner) = many_one Or satisfies (with_options form inner)
  sat_operands And (words value) = many_one And satisfies (words value)
  sat_operands And (or_of forms) = many_one And satisfies (or_of forms)
  sat_operands And (and_of forms) = sym (sat_joined And forms)
  sat_operands And (mild_not left right) = many_one And satisfies (mild_not left right)
  sat_operands And (not_of form) = many_one And satisfies (not_of form)
  sat_operands And (filtered form kind) = many_one And satisfies (filtered form kind)
  sat_operands And (with_options form inner) = many_one And satisfies (with_options form inner)

  sat_joined_operands : (c : Connective) (forms : List Form) → satisfies (joined_operands c forms) ≡ many c satisfies forms
  sat_joined_operands c [] = sat_joined c none
  sat_joined_operands c (x ∷ []) = sym (many_one c satisfies x)
  sat_joined_operands c (x ∷ y ∷ rest) = sat_joined c (forms_of (x ∷ y ∷ rest)) ∙ ap (many c satisfies) (listed-forms_of (x ∷ y ∷ rest))

  pub sat_connected : (c : Connective) (forms : List Form) → satisfies (connected c forms) ≡ many c satisfies forms
  sat_connected c forms =
      sat_joined_operands c (without_repeats (flat_map (operands_in c) forms))
      ∙ many_without_repeats c satisfies (flat_map (operands_in c) forms)
      ∙ many_flat c satisfies (sat_operands c) forms
