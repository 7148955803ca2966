-- One step, over a blank, over a symbol, or to a character that begins none.
use Rattle.std.proofs.Common.{◌+◌, ◌-◌, ◌≤◌, length, drop, take, sym, ap, ◌∙◌, arith, length-drop}
use Rattle.std.proofs.lemmas.List.{take_rest}
use Rattle.query_lexer.specs.Symbols.{first_lexeme}
use Rattle.query_lexer.proofs.Places.{one_left, slice_bytes, left_after}
use Rattle.query_lexer.proofs.Turns.{blank_turn, bad_turn, symbol_turn}
use Rattle.query_lexer.proofs.lexer.turn.Goals as goal

pub overflow_add-result-then-is_blank : goal.overflow_add-result-then-is_blank
overflow_add-result-then-is_blank c = omega (arith, c.requires.fits, one_left c.args.next c.args.letters.now c.requires.here)

pub returns-then-is_blank-clause-value : goal.returns-then-is_blank-clause-value
returns-then-is_blank-clause-value c =
    blank_turn c.args.letters.now c.args.placed.now c.args.next c.args.place c.index-letters-next.result c.requires.here c.index-letters-next.is (sym c.is_blank.ensures ∙ c.if-is_blank.true)

pub returns-then-is_blank-clause-within : goal.returns-then-is_blank-clause-within
returns-then-is_blank-clause-within c = (omega arith, omega (arith, c.requires.fits, one_left c.args.next c.args.letters.now c.requires.here))

pub returns-in_default-clause-value : goal.returns-in_default-clause-value
returns-in_default-clause-value c =
    bad_turn c.args.letters.now c.args.placed.now c.args.next c.args.place c.index-letters-next.result c.requires.here c.index-letters-next.is (sym c.is_blank.ensures ∙ c.if-is_blank.false)
    (ap first_lexeme (sym (take_rest c.args.letters.now c.args.next)) ∙ sym c.in_ok-lexeme.ensures.value ∙ c.in_default.is)

pub byte_count-requires : goal.byte_count-requires
byte_count-requires c =
    omega (arith, c.requires.fits, slice_bytes c.args.next c.in-Some.lexeme.size c.args.letters.now, left_after c.args.next c.in-Some.lexeme.size c.args.letters.now)

pub overflow_add-to : goal.overflow_add-to
overflow_add-to c =
    omega (
      arith,
      c.requires.fits,
      c.byte_count.ensures,
      slice_bytes c.args.next c.in-Some.lexeme.size c.args.letters.now,
      left_after c.args.next c.in-Some.lexeme.size c.args.letters.now,
    )

pub returns-clause-value : goal.returns-clause-value
returns-clause-value c =
    symbol_turn c.args.letters.now c.args.placed.now c.args.next c.args.place c.index-letters-next.result c.requires.here c.index-letters-next.is c.in-Some.lexeme (c.args.place + c.byte_count.result) c.push.new.self
    (sym c.is_blank.ensures ∙ c.if-is_blank.false)
    (ap first_lexeme (sym (take_rest c.args.letters.now c.args.next)) ∙ sym c.in_ok-lexeme.ensures.value ∙ c.in-Some.is)
    (ap (λ n. c.args.place + n) (c.byte_count.ensures ∙ slice_bytes c.args.next c.in-Some.lexeme.size c.args.letters.now))
    c.in_ok-push.ensures.ok

pub returns-clause-within : goal.returns-clause-within
returns-clause-within c =
    let short : c.in-Some.lexeme.size ≤ length (take (length c.args.letters.now - c.args.next) (drop c.args.next c.args.letters.now)) = rw c.in-Some.is at c.in_ok-lexeme.ensures.within in
    let rest = ap length (take_rest c.args.letters.now c.args.next) in (
      omega (arith, short, rest, length-drop c.args.next c.args.letters.now, c.requires.here),
      omega (
        arith,
        c.requires.fits,
        c.byte_count.ensures,
        slice_bytes c.args.next c.in-Some.lexeme.size c.args.letters.now,
        left_after c.args.next c.in-Some.lexeme.size c.args.letters.now,
      ),
    )
