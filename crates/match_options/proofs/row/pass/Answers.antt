-- A letter and a gap.
use Rattle.std.proofs.Common.{◌∷◌, sym, subst, chars}
use Rattle.match_options.specs.declared.atom.Atom.{Atom}
use Rattle.match_options.specs.steps.Row.{IsRow}
use Rattle.match_options.proofs.row.pass.Goals as goal

pub returns-in-Letter-clause-known : goal.returns-in-Letter-clause-known
returns-in-Letter-clause-known c atoms row =
    subst (λ (a : Atom). IsRow c.pass_letter.new.row (a ∷ atoms) (chars c.args.text.now)) (sym c.in-Letter.is) (c.pass_letter.ensures.known atoms row)

pub returns-in-Gap-clause-known : goal.returns-in-Gap-clause-known
returns-in-Gap-clause-known c atoms row =
    subst (λ (a : Atom). IsRow c.pass_gap.new.row (a ∷ atoms) (chars c.args.text.now)) (sym c.in-Gap.is) (c.pass_gap.ensures.known atoms (chars c.args.text.now) row)
