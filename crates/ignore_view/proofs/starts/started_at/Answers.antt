-- The starts ascend, so that those up to the place are the first ones.
use Rattle.std.proofs.Common.{◌≡◌, ap, ◌∙◌, true, rules}
use Rattle.std.specs.Prelude.{nat_le}
use Rattle.std.proofs.lemmas.List.Sorted.{IsPartitionPoint-from_clause, IsPartitionedBy-leb}
use Rattle.ft_base.specs.Places.{is_ascending}
use Rattle.index_cursors.specs.SpanHits.{started}
use Rattle.ignore_view.proofs.WalkLemmas.{point-started, rising}
use Rattle.ignore_view.proofs.starts.started_at.Goals as goal

pub returns : goal.returns
returns c =
    let items = c.as_slice.result.now in
    let place = c.args.place in
    let same = c.as_slice.ensures.value in
    let up : is_ascending items ≡ true = ap is_ascending same ∙ c.as_slice.ensures.ascending in
    let point = IsPartitionPoint-from_clause (λ y. nat_le y place) items c.partition_point.result c.partition_point.ensures.partitioned
    (IsPartitionedBy-leb (λ x. x) items place (rising items up)) (λ a r q k. search rules) in
    point-started items place c.partition_point.result up c.partition_point.ensures.bound point ∙ ap (λ xs. started xs place) same
