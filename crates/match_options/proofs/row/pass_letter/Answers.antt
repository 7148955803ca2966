-- One place more, and the whole row.
use Rattle.std.proofs.Common.{◌+◌, ◌<◌, ◌&&◌, sym, ◌∙◌, ap, arith, subst, IsUtf8, chars, drop, get_or, length, length-set, drop-drop}
use Rattle.std.specs.Prelude.{ℕ, Bool, ◌==◌}
use Rattle.std.specs.Str.Iter.{chars_rest}
use Rattle.std.proofs.lemmas.Str.{IsUtf8-past_char}
use Rattle.std.proofs.StrCases.{chars_of_empty}
use Rattle.match_options.specs.steps.Row.{at_place}
use Rattle.match_options.proofs.CoverLemmas.{after_first, char_passed}
use Rattle.match_options.proofs.RowLemmas.{row_letter, prefix_told, prefix_left, char_here, letter_same, letter_other, letter_none}
use Rattle.match_options.proofs.row.pass_letter.Goals.{in-Some+then-letter-first, in-Some+else-letter-first, in-None}
use Rattle.match_options.proofs.row.pass_letter.Goals as goal

pub returns-clause-known : goal.returns-clause-known
returns-clause-known c atoms row =
    row_letter atoms (chars c.args.text.now) c.args.row.now row c.loop-place.row c.args.letter c.loop-place.invariant.size
    (λ place h. c.loop-place.invariant.known place (omega (arith, h, c.loop-place-test.false)))

pub loop-place-preserved : goal.loop-place-preserved
loop-place-preserved c =
    let letters = chars c.args.text.now in
    let old = c.args.row.now in
    let row = c.loop-place.row in
    let place = c.loop-place.place in
    let bytes = chars_rest c.loop-place.rest in
    let rest = chars_rest c.next.new.self in
    let inv = c.loop-place.invariant in
    let before : place < length row = omega (arith, c.loop-place-test.true, inv.size) in
    let f : ℕ → Bool = λ p. (c.args.letter == get_or letters p c.args.letter) && at_place old (p + 1) in
    elim c.match-next.branch [
      | in-Some+then-letter-first w ↦
          let split = w.in-Some.ensures.steps.0 in
          let here = char_here letters (chars rest) place w.in-Some.first c.args.letter (sym inv.here ∙ after_first bytes rest w.in-Some.first inv.text split) in
          let is = letter_same letters old c.args.letter w.in-Some.first place c.match-next.row here w.if-letter-first.true (w.row-is ∙ inv.left (place + 1) (omega arith)) in
          record {
            size = length-set row place c.match-next.row ∙ inv.size;
            text = IsUtf8-past_char bytes rest w.in-Some.first inv.text split;
            here = (char_passed letters place w.in-Some.first bytes rest inv.text split inv.here).0;
            known = prefix_told f old row place c.match-next.row before is inv.known;
            left = prefix_left f old row place c.match-next.row before is inv.left;
          }
      | in-Some+else-letter-first w ↦
          let split = w.in-Some.ensures.steps.0 in
          let here = char_here letters (chars rest) place w.in-Some.first c.args.letter (sym inv.here ∙ after_first bytes rest w.in-Some.first inv.text split) in
          let is = letter_other letters old c.args.letter w.in-Some.first place c.match-next.row here w.if-letter-first.false w.row-is in
          record {
            size = length-set row place c.match-next.row ∙ inv.size;
            text = IsUtf8-past_char bytes rest w.in-Some.first inv.text split;
            here = (char_passed letters place w.in-Some.first bytes rest inv.text split inv.here).0;
            known = prefix_told f old row place c.match-next.row before is inv.known;
            left = prefix_left f old row place c.match-next.row before is inv.left;
          }
      | in-None w ↦
          let none = sym inv.here ∙ chars_of_empty bytes w.in-None.ensures.steps.0.0 in
          let is = letter_none letters old c.args.letter place c.match-next.row c.requires none w.row-is in
          record {
            size = length-set row place c.match-next.row ∙ inv.size;
            text = subst (λ s. IsUtf8 (chars_rest s)) (sym w.in-None.ensures.steps.0.1) inv.text;
            here = ap (λ s. chars (chars_rest s)) w.in-None.ensures.steps.0.1 ∙ inv.here ∙ none ∙ sym (ap (drop 1) none) ∙ drop-drop 1 place letters;
            known = prefix_told f old row place c.match-next.row before is inv.known;
            left = prefix_left f old row place c.match-next.row before is inv.left;
          }
    ]
