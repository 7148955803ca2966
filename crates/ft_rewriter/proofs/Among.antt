-- What becomes of a selection that is equal to one of others, and the operands that a selection gives to an Or and to an And.
use Rattle.std.proofs.Common.{◌≡◌, refl, ap, sym, ◌∙◌, Bool, cond, List, [], ◌∷◌, ◌++◌, map, rules}
use Rattle.std.specs.Prelude.{bytes_eq}
use Rattle.std.specs.List.{list_any}
use Rattle.std.proofs.lemmas.List.{map-append}
use Rattle.all_matches.proofs.ListTests.{list_any-map}
use Rattle.ft_base.specs.Selection.{Form}
use Rattle.ft_syntax.specs.View.{form, layer}
use Rattle.ft_syntax.specs.declared.selection.Selection as selection
use Rattle.ft_syntax.specs.declared.selection.Selection.{Selection, fold_out-Selection, map-Selection, out-Selection, roll-Selection, the_lemmas}
use Rattle.ft_syntax.specs.declared.selection.Selection.TheOpen.{Selection-F}
use Rattle.ft_syntax.specs.declared.selection.Selection.TheVariants.{rolls-Or, rolls-And}
use Rattle.ft_rewriter.specs.Code.{form_numbers}
use Rattle.ft_rewriter.specs.Rewriting.{operands_in, with_operand}
use Rattle.ft_rewriter.specs.declared.connective.Connective.{Connective}
use Rattle.ft_rewriter.specs.declared.connective.Connective.TheVariants.{Or, And}
use Rattle.ft_rewriter.proofs.OperandTests.{listed-forms_of}
use Rattle.ft_rewriter.proofs.Views.{form_or, form_and}

-- whether the numbers of a selection are among those of others says what becomes of it
pub known_operand : (kept : List Form) (x : Form) (b : Bool) → list_any (bytes_eq (form_numbers x)) (map form_numbers kept) ≡ b
    → with_operand kept x ≡ cond b kept (kept ++ x ∷ [])
known_operand kept x b h = ap (λ own. cond own kept (kept ++ x ∷ [])) (sym (list_any-map (bytes_eq (form_numbers x)) form_numbers kept) ∙ h)

-- operands put to others
module _ (kept out : List Selection) where
  pub put_or : (operands : List Selection) (part : Selection)
      → part ≡ selection.Or operands → out ≡ kept ++ operands → map form out ≡ map form kept ++ operands_in Or (form part)
  put_or operands part is put =
      ap (map form) put ∙ map-append form kept operands
      ∙ ap (λ forms. map form kept ++ forms) (sym (ap (operands_in Or) (ap form is ∙ form_or operands) ∙ listed-forms_of (map form operands)))

  pub put_and : (operands : List Selection) (part : Selection)
      → part ≡ selection.And operands → out ≡ kept ++ operands → map form out ≡ map form kept ++ operands_in And (form part)
  put_and operands part is put =
      ap (map form) put ∙ map-append form kept operands
      ∙ ap (λ forms. map form kept ++ forms) (sym (ap (operands_in And) (ap form is ∙ form_and operands) ∙ listed-forms_of (map form operands)))

  pub put_one : (c : Connective) (part : Selection)
      → operands_in c (form part) ≡ form part ∷ [] → out ≡ kept ++ part ∷ [] → map form out ≡ map form kept ++ operands_in c (form part)
  put_one c part alone put = ap (map form) put ∙ map-append form kept (part ∷ []) ∙ ap (λ forms. map form kept ++ forms) (sym alone)

-- a selection that is no Or stands for itself in an Or, and one that is no And in an And
opened : (part : Selection) → roll-Selection (out-Selection part) ≡ part
opened part = search (rules, the_lemmas)

abbrev level : Selection-F Selection → Form
level parts = layer (map-Selection Selection Form form parts)

or_level : (parts : Selection-F Selection)
    → ((operands : List Selection) → parts ≡ Selection-F.Or operands → ⊥) → operands_in Or (level parts) ≡ level parts ∷ []
or_level (Selection-F.Words value) other = refl
or_level (Selection-F.Or operands) other = absurd (other operands refl)
or_level (Selection-F.And operands) other = refl
or_level (Selection-F.MildNot left right) other = refl
or_level (Selection-F.Not operand) other = refl
or_level (Selection-F.Filtered operand filter) other = refl
or_level (Selection-F.With operand options) other = refl

and_level : (parts : Selection-F Selection)
    → ((operands : List Selection) → parts ≡ Selection-F.And operands → ⊥) → operands_in And (level parts) ≡ level parts ∷ []
and_level (Selection-F.Words value) other = refl
and_level (Selection-F.Or operands) other = refl
and_level (Selection-F.And operands) other = absurd (other operands refl)
and_level (Selection-F.MildNot left right) other = refl
and_level (Selection-F.Not operand) other = refl
and_level (Selection-F.Filtered operand filter) other = refl
and_level (Selection-F.With operand options) other = refl

pub or_alone : (part : Selection)
    → ((operands : List Selection) → part ≡ selection.Or operands → ⊥) → operands_in Or (form part) ≡ form part ∷ []
or_alone part other =
    let same : form part ≡ level (out-Selection part) = fold_out-Selection Form layer part in
    ap (operands_in Or) same
    ∙ or_level (out-Selection part) (λ operands is. other operands (sym (opened part) ∙ ap roll-Selection is ∙ rolls-Or operands))
    ∙ ap (λ one. one ∷ []) (sym same)

pub and_alone : (part : Selection)
    → ((operands : List Selection) → part ≡ selection.And operands → ⊥) → operands_in And (form part) ≡ form part ∷ []
and_alone part other =
    let same : form part ≡ level (out-Selection part) = fold_out-Selection Form layer part in
    ap (operands_in And) same
    ∙ and_level (out-Selection part) (λ operands is. other operands (sym (opened part) ∙ ap roll-Selection is ∙ rolls-And operands))
    ∙ ap (λ one. one ∷ []) (sym same)
