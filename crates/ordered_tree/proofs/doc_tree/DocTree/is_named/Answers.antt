-- A short name is all in its mark; of another mark there is no element of the name.
use Rattle.std.proofs.Common.{◌≡◌, ◌≤◌, true, length, sym, ap, ◌∙◌, arith}
use Rattle.std.specs.Prelude.{nat_le}
use Rattle.std.proofs.lemmas.Bool.Decides.{nat_tests}
use Rattle.ordered_tree.proofs.HeadLemmas.{name-marked}
use Rattle.ordered_tree.proofs.doc_tree.DocTree.is_named.Goals as goal

pub returns-then-wanted-le-LONGEST_MARKED : goal.returns-then-wanted-le-LONGEST_MARKED
returns-then-wanted-le-LONGEST_MARKED c = λ s among refers.
    let same : c.head.result.now.mark ≡ c.args.wanted.now.mark = c.same_mark.ensures.same c.if-not-same_mark.false in
    let short : length c.args.wanted.now.name.now ≤ 7 = c.if-wanted-le-LONGEST_MARKED.true in
    let yes : nat_le (length c.args.wanted.now.name.now) 7 ≡ true = grind (arith, nat_tests, short) in
    yes
    ∙ sym (name-marked s.node c.args.wanted.now.name.now short (sym (ap (λ h. h.mark) (c.head.ensures.stands s among refers)) ∙ (same ∙ c.args.wanted.now.marked)))
