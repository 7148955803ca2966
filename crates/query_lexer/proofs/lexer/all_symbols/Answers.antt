-- Where the text ends, where a character begins no symbol, and where no step is left.
use Rattle.std.proofs.Common.{◌≡◌, ◌+◌, ◌-◌, suc, length, drop, sym, ap, ◌∙◌, arith}
use Rattle.std.proofs.lemmas.List.{drop_all}
use Rattle.query_lexer.specs.declared.lexeme.Turn.TheVariants.{Bad}
use Rattle.query_lexer.specs.Symbols.{after_placed, symbols_within, Steps_to}
use Rattle.query_lexer.proofs.Turns.{no_step, no_letter, suffix-nothing}
use Rattle.query_lexer.proofs.lexer.all_symbols.Goals as goal

pub returns-then-next-letters : goal.returns-then-next-letters
returns-then-next-letters c =
    sym (suffix-nothing c.loop-step.placed)
    ∙ ap (after_placed c.loop-step.placed) (sym (no_letter (length c.args.letters.now - c.loop-step.step) c.loop-step.place (drop c.loop-step.next c.args.letters.now) (drop_all c.loop-step.next c.args.letters.now (omega arith))))
    ∙ c.loop-step.invariant.known

pub returns-in-Bad : goal.returns-in-Bad
returns-in-Bad c =
    let led : Steps_to c.args.letters.now c.loop-step.placed c.loop-step.next c.loop-step.place c.turn.new.placed Bad = rw c.in-Bad.is at c.in_ok-to.ensures.value in
    let left : suc (length c.args.letters.now - (c.loop-step.step + 1)) ≡ length c.args.letters.now - c.loop-step.step = omega arith in
    led (length c.args.letters.now - (c.loop-step.step + 1))
    ∙ ap (λ n. after_placed c.loop-step.placed (symbols_within n c.loop-step.place (drop c.loop-step.next c.args.letters.now))) left
    ∙ c.loop-step.invariant.known

pub returns : goal.returns
returns c =
    let none_left : 0 ≡ length c.args.letters.now - c.loop-step.step = omega arith in
    sym (suffix-nothing c.loop-step.placed)
    ∙ ap (after_placed c.loop-step.placed) (sym (no_step c.loop-step.place (drop c.loop-step.next c.args.letters.now)))
    ∙ ap (λ n. after_placed c.loop-step.placed (symbols_within n c.loop-step.place (drop c.loop-step.next c.args.letters.now))) none_left
    ∙ c.loop-step.invariant.known
