-- No document is left.
use Rattle.std.proofs.Common.{◌≡◌, sym, subst, append-nil, rules, List, []}
use Rattle.ft_base.specs.declared.ids.NodeRef.{NodeRef}
use Rattle.session_state.specs.steps.Chosen.{AreLedToEach}
use Rattle.session_state.proofs.targets.choose.Goals as goal

pub returns-clause-refs : goal.returns-clause-refs
returns-clause-refs g c =
    let says = g.J.Judge.says in
    let abbreviations = g.A.Abbreviated.abbreviations in
    let path = c.args.path.now in
    let empty : c.loop-name.name-iterator ≡ [] = search rules in
    subst (λ (rs : List (List NodeRef)). AreLedToEach says abbreviations path c.args.documents.now rs) (append-nil c.loop-name.chosen.refs)
    (c.loop-name.invariant.refs [] (subst (λ es. AreLedToEach says abbreviations path es []) (sym empty) tt))
