-- The elements are those that the path selects in the document, where it leads through it.
use Rattle.std.proofs.Common.{sym, subst, rules, List, true, ◌≡◌}
use Rattle.ft_base.specs.declared.ids.NodeRef.{NodeRef}
use Rattle.session_state.specs.Edits.{leads_through}
use Rattle.session_state.specs.steps.Chosen.{AreLedTo}
use Rattle.session_state.proofs.ChosenLemmas.{led-here}
use Rattle.session_state.proofs.targets.choose_in.Goals as goal

pub returns-clause-led : goal.returns-clause-led
returns-clause-led g c =
    let name = c.args.name.now in
    let document = c.args.document.now in
    let leads : leads_through c.args.path.now.root.now name ≡ true = search rules in
    subst (λ (refs : List NodeRef). AreLedTo g.J.Judge.says g.A.Abbreviated.abbreviations c.args.path.now (name, document) refs) (sym c.from_vec.ensures)
    (led-here g.J.Judge.says g.A.Abbreviated.abbreviations c.args.path.now name document c.in_ok-found.found.items c.in_ok-found.ensures.there c.in_ok-found.ensures.elements leads)
