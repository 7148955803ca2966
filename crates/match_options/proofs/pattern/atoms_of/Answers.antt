-- A badly formed atom, one atom more, and the end.
use Rattle.std.proofs.Common.{◌+◌, ◌-◌, ◌≡◌, take, length-drop, ◌∙◌, sym, ap, drop, length, arith}
use Rattle.std.proofs.lemmas.Bool.{eqb-true}
use Rattle.std.proofs.lemmas.List.{take_rest}
use Rattle.match_options.specs.Patterns.{first_atom, atoms_after}
use Rattle.match_options.proofs.Reading.{bad_here, atom_read, all_read, no_pattern, some_pattern, nothing_read, not_empty}
use Rattle.match_options.proofs.pattern.atoms_of.Goals as goal

pub returns-then-is_empty : goal.returns-then-is_empty
returns-then-is_empty c = no_pattern c.args.letters.now (eqb-true (length c.args.letters.now) 0 (sym c.is_empty.ensures ∙ c.if-is_empty.true))

pub loop-next-init : goal.loop-next-init
loop-next-init c = record {
  within = omega arith;
  known = rw c.new-atoms.ensures.items (nothing_read c.args.letters.now (atoms_after 0 c.args.letters.now) (some_pattern c.args.letters.now (omega (arith, not_empty c.args.letters.now (sym c.is_empty.ensures ∙ c.if-is_empty.false)))));
}

pub returns-in_default : goal.returns-in_default
returns-in_default c =
    bad_here c.args.letters.now (c.loop-next.atoms.items) c.loop-next.next c.index-letters-next.result c.loop-next-test.true c.index-letters-next.is c.loop-next.invariant.known
    (ap (first_atom c.index-letters-next.result) (sym (take_rest c.args.letters.now (c.loop-next.next + 1))) ∙ sym c.first_atom.ensures.value ∙ c.in_default.is)

pub loop-next-preserved : goal.loop-next-preserved
loop-next-preserved c =
    let suffix : length (take (length c.args.letters.now - (c.loop-next.next + 1)) (drop (c.loop-next.next + 1) c.args.letters.now)) ≡ length (drop (c.loop-next.next + 1) c.args.letters.now) = ap length (take_rest c.args.letters.now (c.loop-next.next + 1)) in
    let left : length (drop (c.loop-next.next + 1) c.args.letters.now) ≡ length c.args.letters.now - (c.loop-next.next + 1) = length-drop (c.loop-next.next + 1) c.args.letters.now in
    record {
      within = omega (arith, c.in-Some.ensures.within);
      known = atom_read c.args.letters.now c.loop-next.atoms.items c.loop-next.next c.index-letters-next.result c.loop-next-test.true c.index-letters-next.is c.loop-next.invariant.known
          c.in-Some.field-0 c.push.new.self.items
          (ap (first_atom c.index-letters-next.result) (sym (take_rest c.args.letters.now (c.loop-next.next + 1))) ∙ sym c.first_atom.ensures.value ∙ c.in-Some.is) c.in-Some.ensures.some (omega (arith, c.in-Some.ensures.within)) c.in_ok-push.ensures.items;
    }

pub returns : goal.returns
returns c = all_read c.args.letters.now c.loop-next.atoms.items c.loop-next.next (omega arith) c.loop-next.invariant.known
