-- What is known is right.
use Rattle.std.proofs.Common.{◌≡◌, Bool, Option, Some, None, IfSome, refl, rules, sym, ◌∙◌}
use Rattle.path_nodes.specs.steps.Known.{IsTruth, known_truth}
use Rattle.path_nodes.proofs.evaluation.Evaluation.truth.Goals as goal

if-some : (o : Option Bool) (P : Bool → Type 0) → ((b : Bool) → o ≡ Some b → P b) → IfSome o P
if-some (Some b) P h = h b refl
if-some None P h = tt

pub returns : goal.returns
returns g c =
    let is : c.copied.result ≡ known_truth c.args.self.now.truths.now c.args.number c.args.element = search rules in
    if-some c.copied.result (IsTruth g.G.Ground.root g.G.Ground.meaning g.G.Ground.conditions c.args.number c.args.element)
    (λ b found. c.args.self.now.right c.args.number c.args.element b (sym is ∙ found))
