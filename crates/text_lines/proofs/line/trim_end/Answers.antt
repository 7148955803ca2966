-- The byte before the end goes where it is a blank, and stays with all before it where it isn't.
use Rattle.std.proofs.Common.{◌≡◌, ◌∙◌, sym, ap, ◌-◌, ◌+◌, ◌<◌, ◌≤◌, ◌++◌, ◌∷◌, [], ℕ, List, length, take, get_or, arith}
use Rattle.std.proofs.lemmas.List.{take_more}
use Rattle.text_lines.specs.Lines.{trimmed_end}
use Rattle.text_lines.proofs.LineLemmas.{trimmed_end_blank, trimmed_end_other}
use Rattle.text_lines.proofs.line.trim_end.Goals.{then-loop-end-test+else-is_blank, else-loop-end-test}
use Rattle.text_lines.proofs.line.trim_end.Goals as goal

-- the last byte of a prefix
split_end : (text : List ℕ) (n : ℕ) → 0 < n → n ≤ length text → take n text ≡ take (n - 1) text ++ get_or text (n - 1) 0 ∷ []
split_end text n some within =
    let e : n ≡ n - 1 + 1 = omega arith in
    ap (λ k. take k text) e ∙ take_more text (n - 1) 0 (omega arith)

pub loop-end-preserved : goal.loop-end-preserved
loop-end-preserved c =
    let text = c.args.text.now in
    let n = c.loop-end.end in
    let split : take n text ≡ take (n - 1) text ++ get_or text (n - 1) 0 ∷ [] = split_end text n (c.loop-end-test.true) (c.loop-end.invariant.within) in
    record {
      within = omega arith;
      passed = sym (trimmed_end_blank (take (n - 1) text) (get_or text (n - 1) 0) (sym c.is_blank.ensures ∙ c.if-is_blank.true)) ∙ (sym (ap trimmed_end split) ∙ c.loop-end.invariant.passed);
    }

pub returns : goal.returns
returns c =
    let text = c.args.text.now in
    let n = c.loop-end.end in
    elim c.loop-end-test.branch [
      | then-loop-end-test+else-is_blank w ↦
          let split : take n text ≡ take (n - 1) text ++ get_or text (n - 1) 0 ∷ [] = split_end text n (w.loop-end-test.true) (c.loop-end.invariant.within) in
          split ∙ (sym (trimmed_end_other (take (n - 1) text) (get_or text (n - 1) 0) (sym w.is_blank.ensures ∙ w.if-is_blank.false)) ∙ (ap trimmed_end (sym split) ∙ c.loop-end.invariant.passed))
      | else-loop-end-test w ↦
          let none : n ≡ 0 = omega (arith, w.loop-end-test.false) in
          ap (λ k. take k text) none ∙ (ap (λ k. trimmed_end (take k text)) (sym none) ∙ c.loop-end.invariant.passed)
    ]
