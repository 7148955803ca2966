-- What is compiled of the rewritten selection is compiled of the selection.
use Rattle.std.proofs.Common.{subst}
use Rattle.std.proofs.lemmas.Result.{IfOk-weaker}
use Rattle.ft_base.specs.Selection.{Form, no_options}
use Rattle.ft_syntax.specs.View.{form}
use Rattle.plan_compiler.specs.CompiledSelection.{Compiles}
use Rattle.plan_compiler.specs.declared.looks.Looks.{Looks}
use Rattle.plan_compiler.specs.declared.node.Node.{Node}
use Rattle.plan_compiler.proofs.RewrittenPrices.{compiles_given}
use Rattle.plan_compiler.proofs.plan.compile_rewritten.Goals as goal

pub returns : goal.returns
returns c =
    let lists = c.args.lists.now in
    let asked = form c.args.selection.now in
    IfOk-weaker c.compile_simple-made.result (λ (made : Looks × Node). Compiles made.0 lists no_options made.1 (form c.in_ok-simple.simple))
    (λ (made : Looks × Node). Compiles made.0 lists no_options made.1 asked)
    (λ made own. compiles_given made.0 lists made.1 asked (subst (λ (f : Form). Compiles made.0 lists no_options made.1 f) c.in_ok-simple.ensures.is own))
    c.compile_simple-made.ensures

pub compile_simple-made-requires : goal.compile_simple-made-requires
compile_simple-made-requires c = c.in_ok-simple.ensures.accepted c.requires
