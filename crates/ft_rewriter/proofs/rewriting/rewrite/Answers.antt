-- The same texts satisfy the rewritten selection, by the law.
use Rattle.std.proofs.Common.{◌≡◌, List, true, ap, ◌∙◌}
use Rattle.std.proofs.lemmas.Result.{IfOk-weaker}
use Rattle.all_matches.specs.Meaning.{sat}
use Rattle.all_matches.specs.Variants.{Lexicon}
use Rattle.counted_shapes.specs.Accepted.{is_accepted}
use Rattle.ft_base.specs.declared.token.Token.{Token}
use Rattle.ft_base.specs.Selection.{Form}
use Rattle.ft_syntax.specs.View.{form}
use Rattle.ft_syntax.specs.declared.selection.Selection.{Selection}
use Rattle.ft_rewriter.specs.Rewriting.{rewritten}
use Rattle.ft_rewriter.proofs.AcceptedRewriting.{accepted-rewritten}
use Rattle.ft_rewriter.proofs.SimplifiedTests.{sat-rewritten}
use Rattle.ft_rewriter.proofs.rewriting.rewrite.Goals as goal

pub returns-clause-says_the_same : goal.returns-clause-says_the_same
returns-clause-says_the_same c =
    let asked = form c.args.selection.now in
    IfOk-weaker c.give_and_simplify.result (λ (simple : Selection). form simple ≡ rewritten asked)
    (λ (simple : Selection). (lexicon : Lexicon) (tokens : List Token) → sat lexicon (form simple) tokens ≡ sat lexicon asked tokens)
    (λ simple is lexicon tokens. ap (λ (f : Form). sat lexicon f tokens) is ∙ sat-rewritten lexicon asked tokens)
    c.give_and_simplify.ensures

pub returns-clause-accepted : goal.returns-clause-accepted
returns-clause-accepted c =
    let asked = form c.args.selection.now in
    IfOk-weaker c.give_and_simplify.result (λ (simple : Selection). form simple ≡ rewritten asked)
    (λ (simple : Selection). is_accepted asked ≡ true → is_accepted (form simple) ≡ true)
    (λ simple is h. ap is_accepted is ∙ accepted-rewritten asked h)
    c.give_and_simplify.ensures
