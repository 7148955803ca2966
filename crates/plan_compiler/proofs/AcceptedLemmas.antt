-- What is accepted of each kind of selection.
use Rattle.std.proofs.Common.{◌≡◌, refl, sym, ap, subst, ◌∙◌, ℕ, zero, suc, ◌<◌, Bool, true, false, ◌&&◌, ◌||◌, List, [], ◌∷◌, map, length, get_or, arith, Box, Global}
use Rattle.std.specs.Prelude.{is_some}
use Rattle.std.proofs.lemmas.Bool.{and_from, and_parts}
use Rattle.ft_base.specs.declared.filter.Filter.{Filter}
use Rattle.ft_base.specs.declared.options.Options.{Options}
use Rattle.ft_base.specs.Selection.{Form}
use Rattle.ft_syntax.specs.View.{form, forms_of}
use Rattle.ft_syntax.specs.declared.selection.Selection.{Selection}
use Rattle.ft_syntax.specs.declared.selection.Selection as S
use Rattle.ft_syntax.proofs.Views.{form-Or, form-And, form-MildNot}
use Rattle.all_matches.specs.Allowed.{has_plain_nots, is_allowed, may_be_filtered, without_times}
use Rattle.all_matches.proofs.AllowedForms.{allowed_mild_not}
use Rattle.counted_shapes.specs.Accepted.{each_is_accepted, field_of, is_accepted, is_counted}
use Rattle.counted_shapes.specs.Held.{needs_hit}
use Rattle.counted_shapes.specs.Shapes.{is_shape}
use Rattle.counted_shapes.proofs.AcceptedLemmas.{shape-plain}
use Rattle.plan_compiler.specs.CompiledOperators.{is_positional}
use Rattle.plan_compiler.proofs.ServedLemmas.{form-Not, form-Filtered, form-With}

module _ (selection : Selection) where
  pub accepted-Or : (parts : List Selection) → selection ≡ S.Or parts → is_accepted (form selection) ≡ each_is_accepted (forms_of (map form parts))
  unfolding is_accepted
  accepted-Or parts e = ap is_accepted (ap form e ∙ form-Or parts)

  pub accepted-And : (parts : List Selection) → selection ≡ S.And parts → is_accepted (form selection) ≡ each_is_accepted (forms_of (map form parts))
  unfolding is_accepted
  accepted-And parts e = ap is_accepted (ap form e ∙ form-And parts)

  pub accepted-Not : (operand : Box Selection Global) → selection ≡ S.Not operand → is_accepted (form selection) ≡ is_accepted (form operand.value)
  unfolding is_accepted
  accepted-Not operand e = ap is_accepted (ap form e ∙ form-Not operand)

  pub accepted-With : (operand : Box Selection Global) (options : Options) → selection ≡ S.With operand options → is_accepted (form selection) ≡ is_accepted (form operand.value)
  unfolding is_accepted
  accepted-With operand options e = ap is_accepted (ap form e ∙ form-With operand options)

  -- what may stand at the top of a selection with filters or `not in` may be filtered
  pub accepted-MildNot : (left right : Box Selection Global) → selection ≡ S.MildNot left right → is_accepted (form selection) ≡ true → may_be_filtered (form selection) ≡ true
  unfolding is_accepted is_allowed
  accepted-MildNot left right e h =
      let is = ap form e ∙ form-MildNot left right in
      subst (λ (f : Form). may_be_filtered f ≡ true) (sym is) (allowed_mild_not (form left.value) (form right.value) (ap is_accepted (sym is) ∙ h))

  module _ (operand : Box Selection Global) (kind : Filter) (e : selection ≡ S.Filtered operand kind) (h : is_accepted (form selection) ≡ true) where
    filtered_so : (may_be_filtered (form operand.value) || is_counted (form operand.value) kind) ≡ true
    unfolding is_accepted
    filtered_so = ap is_accepted (sym (ap form e ∙ form-Filtered operand kind)) ∙ h

    -- a counted shape that has `occurs` nowhere may be filtered like other selections
    pub accepted-without_times : without_times (form operand.value) ≡ true → may_be_filtered (form selection) ≡ true
    unfolding without_times has_plain_nots
    accepted-without_times none =
        subst (λ (f : Form). may_be_filtered f ≡ true) (sym (ap form e ∙ form-Filtered operand kind))
        (by_test (may_be_filtered (form operand.value)) refl)
      where
        by_test : (b : Bool) → may_be_filtered (form operand.value) ≡ b → may_be_filtered (form operand.value) ≡ true
        by_test true same = same
        by_test false same =
            let counted = sym (ap (λ b. b || is_counted (form operand.value) kind) same) ∙ filtered_so in
            let shape = and_parts (is_shape (form operand.value)) (needs_hit (form operand.value)) (and_parts (is_some (field_of kind)) _ counted).1 in
            and_from (without_times (form operand.value)) (has_plain_nots (form operand.value)) none (shape-plain (form operand.value) shape.0)

    -- what has `occurs` somewhere is a counted shape
    pub accepted-counted : without_times (form operand.value) ≡ false → is_counted (form operand.value) kind ≡ true
    accepted-counted some =
        sym (ap (λ b. (b && has_plain_nots (form operand.value)) || is_counted (form operand.value) kind) some) ∙ filtered_so

  pub positional-MildNot : (left right : Box Selection Global) → selection ≡ S.MildNot left right → is_positional (form selection) ≡ true
  positional-MildNot left right e = ap is_positional (ap form e ∙ form-MildNot left right)

  pub positional-Filtered : (operand : Box Selection Global) (kind : Filter) → selection ≡ S.Filtered operand kind → is_positional (form selection) ≡ true
  positional-Filtered operand kind e = ap is_positional (ap form e ∙ form-Filtered operand kind)

pub accepted_at : (parts : List Selection) (i : ℕ) (part : Selection) → each_is_accepted (forms_of (map form parts)) ≡ true → i < length parts → part ≡ get_or parts i part → is_accepted (form part) ≡ true
unfolding is_accepted
accepted_at [] i part h below is = absurd (omega arith)
accepted_at (first ∷ parts) zero part h below is = ap (λ p. is_accepted (form p)) is ∙ (and_parts (is_accepted (form first)) (each_is_accepted (forms_of (map form parts))) h).0
accepted_at (first ∷ parts) (suc i) part h below is = accepted_at parts i part (and_parts (is_accepted (form first)) (each_is_accepted (forms_of (map form parts))) h).1 (omega arith) is
