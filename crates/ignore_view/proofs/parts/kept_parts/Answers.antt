-- One hole more is cut out of what is left, and in the end no hole is left.
use Rattle.std.proofs.Common.{◌≡◌, ◌<◌, ◌≤◌, ◌+◌, ◌∷◌, ◌++◌, suc, length, drop, get_or, ap, sym, subst, ◌∙◌, arith, append_assoc}
use Rattle.std.specs.Prelude.{max, min}
use Rattle.std.specs.List.Sorted.{IsNonDecreasingBy}
use Rattle.std.proofs.Math.Seq.{drop-cons}
use Rattle.std.proofs.lemmas.List.{drop_all}
use Rattle.std.proofs.lemmas.List.Sorted.{IsNonDecreasingBy-drop}
use Rattle.ft_base.specs.declared.span.Span.{Span}
use Rattle.all_matches.specs.Spans.{places_in}
use Rattle.ignore_view.specs.steps.Kept.{first_place, kept_places, part_between, places_of}
use Rattle.ignore_view.proofs.PartLemmas.{cut, held-from, held-to, kept-whole}
use Rattle.ignore_view.proofs.parts.kept_parts.Goals as goal

abbrev none : Span
none = record { from = 0; to = 0 }

pub loop-hole-preserved : goal.loop-hole-preserved
loop-hole-preserved c =
    let items = c.deref-hole-items.result.now in
    let k = c.loop-hole.hole-index in
    let at = c.loop-hole.at in
    let to = c.args.span.to in
    let parts = places_of c.loop-hole.parts.items in
    let hole = get_or items k none in
    let rest = drop (k + 1) items in
    let invariant = c.loop-hole.invariant in
    let first = invariant.first in
    let order : at ≤ to = invariant.last in
    let there : k < length items = omega (arith, c.loop-hole-test.true) in
    let next : suc k ≡ k + 1 = omega arith in
    let left : drop k items ≡ hole ∷ rest = drop-cons items k none there ∙ ap (λ n. hole ∷ drop n items) next in
    let all = subst (IsNonDecreasingBy first_place) (sym c.deref-hole-items.ensures.value) c.in_ok-sorted.ensures.order in
    let sorted = subst (IsNonDecreasingBy first_place) left (IsNonDecreasingBy-drop first_place k items all) in
    let from : c.max-from.result ≡ max (min hole.from to) at = c.max-from.ensures ∙ ap (λ n. max n at) c.min.ensures in
    let end : c.max-at.result ≡ max (min hole.to to) (max (min hole.from to) at) = c.max-at.ensures ∙ (λ i. max (c.min-in-loop-hole.ensures i) (from i)) in
    let begins : at ≤ max (min hole.from to) at = held-from at hole.from to order in
    let within : max (min hole.from to) at ≤ to = held-to at hole.from to order in
    let ends : max (min hole.from to) at ≤ max (min hole.to to) (max (min hole.from to) at) = held-from (max (min hole.from to) at) hole.to to within in
    let last : max (min hole.to to) (max (min hole.from to) at) ≤ to = held-to (max (min hole.from to) at) hole.to to within in
    let after = kept_places (part_between (max (min hole.to to) (max (min hole.from to) at)) to) rest in
    record {
      first = omega (arith, first, begins, ends, end);
      last = omega (arith, end, last);
      places =
          (λ i. c.in_ok-push_part.ensures.places i ++ kept_places (part_between (end i) to) rest)
          ∙ append_assoc parts (places_in (part_between at c.max-from.result)) after
          ∙ ap (λ n. parts ++ (places_in (part_between at n) ++ after)) from
          ∙ ap (λ ps. parts ++ ps) (sym (cut at to order hole rest sorted))
          ∙ ap (λ hs. parts ++ kept_places (part_between at to) hs) (sym left)
          ∙ invariant.places;
      within = c.in_ok-push_part.ensures.within c.args.span first (omega (arith, from, within)) invariant.within;
    }

pub returns-clause-places : goal.returns-clause-places
returns-clause-places c =
    let items = c.deref-hole-items.result.now in
    let k = c.loop-hole.hole-index in
    let part = part_between c.loop-hole.at c.args.span.to in
    let parts = places_of c.loop-hole.parts.items in
    let ended : length items ≤ k = omega (arith, c.loop-hole-test.false) in
    c.in_ok-push_part-2.ensures.places
    ∙ ap (λ ps. parts ++ ps) (sym (kept-whole part))
    ∙ ap (λ hs. parts ++ kept_places part hs) (sym (drop_all k items ended))
    ∙ c.loop-hole.invariant.places

pub returns-clause-within : goal.returns-clause-within
returns-clause-within c =
    let invariant = c.loop-hole.invariant in
    c.in_ok-push_part-2.ensures.within c.args.span invariant.first (omega arith) invariant.within
