-- A letter belongs to the run, and a gap ends it.
use Rattle.std.proofs.Common.{◌≡◌, ◌++◌, ◌∷◌, [], sym, ap, ◌∙◌, map, rules}
use Rattle.match_options.specs.declared.atom.Atom.{Atom}
use Rattle.match_options.specs.declared.atom.Atom.TheVariants.{Letter}
use Rattle.match_options.specs.Wildcards.{formed, form_by}
use Rattle.match_options.proofs.WildLemmas.{letter_passed, gap_passed}
use Rattle.match_options.proofs.wild.pass_atom.Goals as goal

pub returns-in_ok-push-in-Letter : goal.returns-in_ok-push-in-Letter
returns-in_ok-push-in-Letter c rest =
    letter_passed (form_by c.args.case c.args.marks) c.args.out.now.items c.args.run.now.items c.push.new.self.items c.in-Letter.letter rest c.in_ok-push-in-Letter.ensures.items
    ∙ ap (λ (a : Atom). c.args.out.now.items ++ formed (form_by c.args.case c.args.marks) c.args.run.now.items (a ∷ rest)) (sym c.in-Letter.is)

pub returns-in_ok-push-in-Gap : goal.returns-in_ok-push-in-Gap
returns-in_ok-push-in-Gap c rest =
    let pushed : c.push-in-Gap.new.self.items ≡ c.end_run.new.out.items ++ c.args.atom ∷ [] = search (rules, c.in_ok-push-in-Gap.ensures.items) in
    gap_passed (form_by c.args.case c.args.marks) c.args.out.now.items c.end_run.new.out.items c.push-in-Gap.new.self.items c.args.run.now.items c.clear.new.self.items c.in-Gap._low c.in-Gap._high rest
    (c.in_ok-end_run-in-Gap.ensures ∙ ap (λ r. c.args.out.now.items ++ map Letter (form_by c.args.case c.args.marks r)) c.as_slice.ensures.value) c.clear.ensures.items
    (pushed ∙ ap (λ (a : Atom). c.end_run.new.out.items ++ a ∷ []) c.in-Gap.is)
    ∙ ap (λ (a : Atom). c.args.out.now.items ++ formed (form_by c.args.case c.args.marks) c.args.run.now.items (a ∷ rest)) (sym c.in-Gap.is)
