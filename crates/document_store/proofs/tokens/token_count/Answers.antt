-- The span of the root has a position for each token.
use Rattle.std.proofs.Common.{◌≡◌, sym, ap, arith}
use Rattle.ft_base.specs.declared.span.Span.{Span}
use Rattle.ordered_tree.specs.Stands.{span}
use Rattle.document_store.proofs.RootLemmas.{root-stands, root-stand}
use Rattle.document_store.proofs.tokens.token_count.Goals as goal

pub overflow_sub-result : goal.overflow_sub-result
overflow_sub-result c =
    let root = c.args.tree.now.root in
    let is : c.span_of-span.result ≡ span (root-stand root) = c.span_of-span.ensures.positions (root-stand root) (root-stands root) (sym c.root.ensures.root) in
    let from = ap (λ (s : Span). s.from) is in
    let to = ap (λ (s : Span). s.to) is in
    omega (arith, from, to)

pub returns : goal.returns
returns c =
    let root = c.args.tree.now.root in
    let is : c.span_of-span.result ≡ span (root-stand root) = c.span_of-span.ensures.positions (root-stand root) (root-stands root) (sym c.root.ensures.root) in
    let from = ap (λ (s : Span). s.from) is in
    let to = ap (λ (s : Span). s.to) is in
    omega (arith, from, to)
