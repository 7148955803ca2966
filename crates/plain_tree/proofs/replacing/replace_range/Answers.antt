-- The children with what came in the range's place are joined.
use Rattle.std.proofs.Common.{drop, take, ap, sym, ◌∙◌}
use Rattle.std.proofs.lemmas.Result.{on_ok_weaker}
use Rattle.std.specs.List.{slice_range}
use Rattle.plain_tree.specs.Document.{are_joined, begins_with_text}
use Rattle.plain_tree.specs.Edits.{append, joined}
use Rattle.plain_tree.proofs.RangesJoined.{made_way}
use Rattle.plain_tree.proofs.TreesJoined.{row}
use Rattle.plain_tree.proofs.replacing.replace_range.Goals as goal

pub returns-clause-ok : goal.returns-clause-ok
returns-clause-ok c =
    let first = c.before_text-first.result in
    let last = c.after_text-last.result in
    let ts = c.args.row.now.items in
    let inner = row c.args.content in
    on_ok_weaker c.put_between.result
    (made_way ts c.args.content c.in_ok-between.between.items c.put_between.new.row.items c.args.from c.args.to first last
    c.before_text-first.ensures.order c.requires.order c.after_text-last.ensures.order c.requires.joined
    (λ ns h. ap (λ r. are_joined (append (row (take first r)) ns)) (sym c.as_slice.ensures.value) ∙ c.before_text-first.ensures.apart ns h)
    (ap (λ r. begins_with_text (row (drop last r))) (sym c.as_slice-2.ensures.value) ∙ c.after_text-last.ensures.apart)
    (c.in_ok-between.ensures
    ∙ ap (λ r. joined (append (row (slice_range r first c.args.from)) (append inner (row (slice_range c.deref-2.result.now c.args.to last))))) c.deref.ensures.value
    ∙ ap (λ r. joined (append (row (slice_range ts first c.args.from)) (append inner (row (slice_range r c.args.to last))))) c.deref-2.ensures.value))
    c.put_between.ensures.ok
