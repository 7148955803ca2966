-- One atom more, and no place that is left.
use Rattle.std.proofs.Common.{◌+◌, ◌-◌, ◌∙◌, refl, subst, sym, chars, drop, length, List}
use Rattle.match_options.specs.declared.atom.Atom.{Atom}
use Rattle.match_options.specs.declared.atom.Atom.TheVariants.{Letter}
use Rattle.match_options.specs.steps.Row.{IsRow}
use Rattle.match_options.proofs.RowLemmas.{from_end, stopped}
use Rattle.match_options.proofs.row.covers_in.Goals as goal

pub loop-passed-preserved : goal.loop-passed-preserved
loop-passed-preserved c =
    subst (λ (atoms : List Atom). IsRow c.pass.new.row atoms (chars c.args.text.now))
    (from_end c.args.atoms.now (length c.args.atoms.now) c.loop-passed.passed (Letter 0) refl c.loop-passed-test.true)
    (c.pass.ensures.known (drop (length c.args.atoms.now - c.loop-passed.passed) c.args.atoms.now) c.loop-passed.invariant)

pub returns-then-not-some_place : goal.returns-then-not-some_place
returns-then-not-some_place c =
    sym (stopped c.pass.new.row c.args.atoms.now (chars c.args.text.now) (length c.args.atoms.now - (c.loop-passed.passed + 1))
    (subst (λ (atoms : List Atom). IsRow c.pass.new.row atoms (chars c.args.text.now))
    (from_end c.args.atoms.now (length c.args.atoms.now) c.loop-passed.passed (Letter 0) refl c.loop-passed-test.true)
    (c.pass.ensures.known (drop (length c.args.atoms.now - c.loop-passed.passed) c.args.atoms.now) c.loop-passed.invariant))
    (sym c.some_place.ensures ∙ c.if-not-some_place.true))
