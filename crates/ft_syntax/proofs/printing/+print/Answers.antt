-- Or and And print their operands as a list, mild not its two operands; in the list the next operand was added, then all were.
use Rattle.std.proofs.Common.{◌≡◌, ◌∷◌, [], List, OnOk, codes, map, subst, sym, ap, ◌∙◌, arith}
use Rattle.ft_base.specs.Selection.{mild_not}
use Rattle.ft_syntax.specs.steps.Page.{put_all}
use Rattle.ft_syntax.specs.Spacing.{Symbol}
use Rattle.ft_syntax.specs.Symbols.{symbols, operand_symbols, operands_symbols}
use Rattle.ft_syntax.specs.View.{form}
use Rattle.ft_syntax.specs.declared.selection.Selection.{Selection}
use Rattle.ft_syntax.proofs.Operands.{or_symbols, and_symbols, mild_not_symbols, first_and_further}
use Rattle.ft_syntax.proofs.Pages.{put_all_append, next_item, all_items}
use Rattle.ft_syntax.proofs.Views.{form-Or, form-And, form-MildNot}
use Rattle.ft_syntax.proofs.printing.+print.Goals as goal

pub print-returns-in-Or : goal.print-returns-in-Or
print-returns-in-Or t c =
    let known : operands_symbols (codes "ftor") 2 (map form c.in-Or.parts) ≡ symbols (form c.args.selection.now) = or_symbols (map form c.in-Or.parts) ∙ ap symbols (sym (form-Or c.in-Or.parts) ∙ ap form (sym c.in-Or.is)) in
    subst (λ (s : List Symbol). OnOk c.print_operands.result (c.print_operands.new.out ≡ put_all c.args.out.now s)) known c.print_operands.ensures

pub print-returns-in-And : goal.print-returns-in-And
print-returns-in-And t c =
    let known : operands_symbols (codes "ftand") 3 (map form c.in-And.parts) ≡ symbols (form c.args.selection.now) = and_symbols (map form c.in-And.parts) ∙ ap symbols (sym (form-And c.in-And.parts) ∙ ap form (sym c.in-And.is)) in
    subst (λ (s : List Symbol). OnOk c.print_operands-in-And.result (c.print_operands-in-And.new.out ≡ put_all c.args.out.now s)) known c.print_operands-in-And.ensures

pub print-returns-in_ok-print_operand-in-MildNot-2 : goal.print-returns-in_ok-print_operand-in-MildNot-2
print-returns-in_ok-print_operand-in-MildNot-2 t c =
    let left = c.deref.result.now in
    let right = c.deref-in-MildNot.result.now in
    c.in_ok-print_operand-in-MildNot-2.ensures
    ∙ ap (λ page. put_all page (operand_symbols 4 (form right))) (c.in_ok-symbols-in-MildNot.ensures ∙ ap (λ page. put_all page (codes "not" ∷ codes "in" ∷ [])) c.in_ok-print_operand-in-MildNot.ensures)
    ∙ sym (put_all_append c.args.out.now (operand_symbols 3 (form left)) (codes "not" ∷ codes "in" ∷ operand_symbols 4 (form right)))
    ∙ ap (put_all c.args.out.now) (
    mild_not_symbols (form left) (form right)
    ∙ ap (λ f. symbols (mild_not f (form right))) (ap form c.deref.ensures)
    ∙ ap (λ f. symbols (mild_not (form c.in-MildNot.left.value) f)) (ap form c.deref-in-MildNot.ensures)
    ∙ ap symbols (sym (form-MildNot c.in-MildNot.left c.in-MildNot.right) ∙ ap form (sym c.in-MildNot.is)))

pub print_operands-loop-part-preserved : goal.print_operands-loop-part-preserved
print_operands-loop-part-preserved t c =
    next_item c.print_operand.new.out c.loop-part.out c.print_operand-in-loop-part.new.out (λ (part : Selection). c.args.separator.now ∷ operand_symbols c.args.wanted (form part)) c.in-Some.rest.now c.loop-part.part-index c.part-item.result
    c.loop-part.invariant
    (c.in_ok-print_operand-2.ensures ∙ ap (λ page. put_all page (operand_symbols c.args.wanted (form c.part-item.result))) c.in_ok-symbol.ensures)
    c.part-item.is (omega arith)

pub print_operands-returns : goal.print_operands-returns
print_operands-returns t c =
    all_items c.args.out.now c.print_operand.new.out c.loop-part.out (operand_symbols c.args.wanted (form c.in-Some.first.now)) (λ (part : Selection). c.args.separator.now ∷ operand_symbols c.args.wanted (form part)) c.in-Some.rest.now c.loop-part.part-index
    c.in_ok-print_operand.ensures c.loop-part.invariant (omega arith)
    ∙ ap (put_all c.args.out.now) (first_and_further c.args.separator.now c.args.wanted c.in-Some.first.now c.in-Some.rest.now ∙ ap (λ parts. operands_symbols c.args.separator.now c.args.wanted (map form parts)) (sym c.in-Some.ensures.cases.0 ∙ c.as_slice.ensures))
