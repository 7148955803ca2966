-- A text that ends with a carriage return has no blank at its end, and another is what its line says.
use Rattle.std.proofs.Common.{◌≡◌, ◌∙◌, sym, ap, true, false, length, take, drop, arith, length-drop}
use Rattle.std.specs.Prelude.{nat_eq, ◌-◌, ◌∷◌, []}
use Rattle.std.specs.List.{ends_with}
use Rattle.std.proofs.lemmas.List.{take_all}
use Rattle.text_lines.specs.Lines.{trimmed_end, trimmed_start}
use Rattle.thesaurus_file.proofs.FieldLemmas.{returned_end, other_end}
use Rattle.thesaurus_file.proofs.parse.trim_blanks.Goals as goal

pub returns-then-ends_with : goal.returns-then-ends_with
returns-then-ends_with c =
    let text = c.args.text.now in
    let rest = take (length text - c.skip_blanks.result) (drop c.skip_blanks.result text) in
    let is : rest ≡ trimmed_start text = ap (λ n. take n (drop c.skip_blanks.result text)) (sym (length-drop c.skip_blanks.result text)) ∙ take_all _ _ (omega (arith, length-drop c.skip_blanks.result text)) ∙ c.skip_blanks.ensures.suffix in
    let ends : ends_with nat_eq rest (13 ∷ []) ≡ true = sym c.ends_with.ensures.value ∙ c.if-ends_with.true in
    sym (returned_end rest ends) ∙ ap trimmed_end is

pub returns : goal.returns
returns c =
    let text = c.args.text.now in
    let rest = take (length text - c.skip_blanks.result) (drop c.skip_blanks.result text) in
    let is : rest ≡ trimmed_start text = ap (λ n. take n (drop c.skip_blanks.result text)) (sym (length-drop c.skip_blanks.result text)) ∙ take_all _ _ (omega (arith, length-drop c.skip_blanks.result text)) ∙ c.skip_blanks.ensures.suffix in
    let ends : ends_with nat_eq rest (13 ∷ []) ≡ false = sym c.ends_with.ensures.value ∙ c.if-ends_with.false in
    c.trim_line.ensures ∙ other_end text rest is ends
