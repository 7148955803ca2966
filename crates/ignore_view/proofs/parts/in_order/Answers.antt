-- A sort moves the holes, and leaves out the same places.
use Rattle.std.proofs.Common.{ap, sym, ◌∙◌, rules}
use Rattle.std.proofs.lemmas.List.Sorted.{IsNonDecreasingBy-from_sort_by_key, list_any-IsPermutation}
use Rattle.index_cursors.specs.SpanHits.{is_inside}
use Rattle.ignore_view.specs.Without.{is_left_out}
use Rattle.ignore_view.specs.steps.Kept.{first_place}
use Rattle.ignore_view.proofs.parts.in_order.Goals as goal

pub returns-clause-same : goal.returns-clause-same
returns-clause-same c = λ place.
    sym (list_any-IsPermutation (λ hole. is_inside hole place) c.in_ok-sorted.sorted.items c.sort_by_key.new.self.items c.in_ok-sort_by_key.ensures.permutation)
    ∙ ap (λ holes. is_left_out holes place) (c.in_ok-sorted.ensures.items ∙ c.as_slice.ensures)

pub returns-clause-order : goal.returns-clause-order
returns-clause-order c = IsNonDecreasingBy-from_sort_by_key first_place _ c.in_ok-sort_by_key.ensures.sorted (λ a r q k. search rules)
