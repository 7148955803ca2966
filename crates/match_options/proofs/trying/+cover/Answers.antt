-- No atom, a letter, and a gap.
use Rattle.std.proofs.Common.{◌+◌, ◌&&◌, sym, ◌∙◌, ap, arith, subst, chars, drop, length, length-drop, IsUtf8}
use Rattle.std.specs.Str.Iter.{chars_rest}
use Rattle.std.proofs.lemmas.List.{drop_all}
use Rattle.std.proofs.lemmas.Bool.{ne_eqb, eq-eqb}
use Rattle.std.proofs.lemmas.Str.{IsUtf8-past_char}
use Rattle.std.proofs.StrCases.{chars_of_empty}
use Rattle.match_options.specs.Wildcards.{covers, fits_gap}
use Rattle.match_options.proofs.CoverLemmas.{covers_none, no_letter, letter_first, from_none, this_count, next_count, past_counts, few_chars, char_passed}
use Rattle.match_options.proofs.trying.+cover.Goals as goal

pub covers_from-returns-then-next-atoms : goal.covers_from-returns-then-next-atoms
covers_from-returns-then-next-atoms t c =
    c.is_empty.ensures ∙ covers_none c.args.text.now c.requires.0.1.1.0
    ∙ ap (λ atoms. covers atoms (chars c.args.text.now)) (sym (drop_all c.args.next c.args.atoms.now (omega (arith, c.if-next-atoms.true))))

pub gap_covers-loop-count-init : goal.gap_covers-loop-count-init
gap_covers-loop-count-init t c = record {
  text = subst IsUtf8 (sym c.chars-rest.ensures.rest) c.requires.0.1.1.1.1.0;
  here = ap chars c.chars-rest.ensures.rest;
  within = omega arith;
  known = from_none c.args.low c.args.high (drop c.args.next c.args.atoms.now) (chars c.args.text.now);
}

pub gap_covers-returns-then-so_many_covers : goal.gap_covers-returns-then-so_many_covers
gap_covers-returns-then-so_many_covers t c =
    this_count c.args.low c.args.high (drop c.args.next c.args.atoms.now) (chars c.args.text.now) c.loop-count.count (chars (chars_rest c.loop-count.rest)) c.loop-count.invariant.within c.loop-count.invariant.here (ap (λ s. fits_gap c.args.low c.args.high c.loop-count.count && covers (drop c.args.next c.args.atoms.now) (chars s)) (sym c.as_str.ensures) ∙ sym c.so_many_covers.ensures ∙ c.if-so_many_covers.true)
    ∙ c.loop-count.invariant.known

pub gap_covers-returns-in_default : goal.gap_covers-returns-in_default
gap_covers-returns-in_default t c =
    let none = chars_of_empty (chars_rest c.loop-count.rest) c.in_default.ensures.steps.0.0 in
    let left = ap length (sym c.loop-count.invariant.here ∙ none) in
    sym (past_counts c.args.low c.args.high (drop c.args.next c.args.atoms.now) (chars c.args.text.now) (c.loop-count.count + 1) (omega (arith, left, length-drop c.loop-count.count (chars c.args.text.now))))
    ∙ sym (next_count c.args.low c.args.high (drop c.args.next c.args.atoms.now) (chars c.args.text.now) c.loop-count.count (chars (chars_rest c.loop-count.rest)) c.loop-count.invariant.within c.loop-count.invariant.here (ap (λ s. fits_gap c.args.low c.args.high c.loop-count.count && covers (drop c.args.next c.args.atoms.now) (chars s)) (sym c.as_str.ensures) ∙ sym c.so_many_covers.ensures ∙ c.if-so_many_covers.false))
    ∙ c.loop-count.invariant.known

pub gap_covers-loop-count-preserved : goal.gap_covers-loop-count-preserved
gap_covers-loop-count-preserved t c =
    let passed = char_passed (chars c.args.text.now) c.loop-count.count c.in-Some._letter (chars_rest c.loop-count.rest) (chars_rest c.next.new.self) c.loop-count.invariant.text c.in-Some.ensures.steps.0 c.loop-count.invariant.here in
    record {
      text = IsUtf8-past_char (chars_rest c.loop-count.rest) (chars_rest c.next.new.self) c.in-Some._letter c.loop-count.invariant.text c.in-Some.ensures.steps.0;
      here = passed.0;
      within = passed.1;
      known = sym (next_count c.args.low c.args.high (drop c.args.next c.args.atoms.now) (chars c.args.text.now) c.loop-count.count (chars (chars_rest c.loop-count.rest)) c.loop-count.invariant.within c.loop-count.invariant.here (ap (λ s. fits_gap c.args.low c.args.high c.loop-count.count && covers (drop c.args.next c.args.atoms.now) (chars s)) (sym c.as_str.ensures) ∙ sym c.so_many_covers.ensures ∙ c.if-so_many_covers.false)) ∙ c.loop-count.invariant.known;
    }

pub gap_covers-returns-in-Some : goal.gap_covers-returns-in-Some
gap_covers-returns-in-Some t c =
    let passed = char_passed (chars c.args.text.now) c.loop-count.count c.in-Some._letter (chars_rest c.loop-count.rest) (chars_rest c.next.new.self) c.loop-count.invariant.text c.in-Some.ensures.steps.0 c.loop-count.invariant.here in
    absurd (omega (arith, passed.1, few_chars c.args.text.now c.requires.0.1.1.1.1.0))

pub letter_covers-returns-in-None : goal.letter_covers-returns-in-None
letter_covers-returns-in-None t c =
    no_letter c.args.letter (drop c.args.next c.args.atoms.now) c.args.text.now (ap length (sym c.chars-rest.ensures.rest) ∙ c.in-None.ensures.steps.0.0)

pub letter_covers-returns-then-letter-first : goal.letter_covers-returns-then-letter-first
letter_covers-returns-then-letter-first t c =
    let text = c.args.text.now in
    let rest = chars_rest c.next.new.self in
    let split = sym c.chars-rest.ensures.rest ∙ c.in-Some.ensures.steps.0 in
    c.covers_from.ensures ∙ ap (λ s. covers (drop c.args.next c.args.atoms.now) (chars s)) c.as_str.ensures
    ∙ ap (λ b. b && covers (drop c.args.next c.args.atoms.now) (chars rest)) (sym (eq-eqb c.args.letter c.in-Some.first c.if-letter-first.true))
    ∙ letter_first c.args.letter c.in-Some.first (drop c.args.next c.args.atoms.now) text rest c.requires.0.1.1.1.0 split

pub letter_covers-returns-else-letter-first : goal.letter_covers-returns-else-letter-first
letter_covers-returns-else-letter-first t c =
    let text = c.args.text.now in
    let rest = chars_rest c.next.new.self in
    let split = sym c.chars-rest.ensures.rest ∙ c.in-Some.ensures.steps.0 in
    ne_eqb c.args.letter c.in-Some.first c.if-letter-first.false
    ∙ ap (λ b. b && covers (drop c.args.next c.args.atoms.now) (chars rest)) (sym (ne_eqb c.args.letter c.in-Some.first c.if-letter-first.false))
    ∙ letter_first c.args.letter c.in-Some.first (drop c.args.next c.args.atoms.now) text rest c.requires.0.1.1.1.0 split
