-- The first line of what is left is passed, and given where it isn't skipped.
use Rattle.std.proofs.Common.{rules, ◌∙◌, sym, ap, ℕ, List, ◌∷◌, ◌+◌, ◌<◌, arith, length, length-drop}
use Rattle.text_lines.specs.Lines.{lines, content_lines}
use Rattle.text_lines.proofs.ContentLemmas.{none_left, skipped_next, content_next}
use Rattle.text_lines.proofs.content_lines.ContentLines.next.Goals as goal

pub returns-then-not-is_skipped : goal.returns-then-not-is_skipped
returns-then-not-is_skipped c =
    let l = c.loop-self.self-inside in
    let some : 0 < length l.rest.now = search rules in
    c.loop-self.invariant.all
    ∙ content_next (l.passed + 1) l.rest.now c.suffix-self-inside.result.now c.line_end-end.result some c.line_end-end.ensures.first c.suffix-self-inside.ensures (sym c.is_skipped.ensures ∙ search rules)
    ∙ ap (λ (t : List ℕ). record { number = l.passed + 1; text = t } ∷ content_lines (l.passed + 1 + 1) (lines c.suffix-self-inside.result.now)) (sym c.trim_line.ensures)

pub loop-self-preserved : goal.loop-self-preserved
loop-self-preserved c =
    let l = c.loop-self.self-inside in
    let some : 0 < length l.rest.now = search rules in
    record {
      all = c.loop-self.invariant.all
          ∙ skipped_next (l.passed + 1) l.rest.now c.suffix-self-inside.result.now c.line_end-end.result some c.line_end-end.ensures.first c.suffix-self-inside.ensures (sym c.is_skipped.ensures ∙ search rules);
      room = omega (arith, some, ap length c.suffix-self-inside.ensures, length-drop (c.line_end-end.result + 1) l.rest.now, c.loop-self.invariant.room);
    }

pub returns : goal.returns
returns c =
    let none = none_left (c.loop-self.self-inside.passed + 1) c.loop-self.self-inside.rest.now (search rules) in
    (c.loop-self.invariant.all ∙ none, none)
