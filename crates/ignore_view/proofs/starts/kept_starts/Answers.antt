-- One part more is passed, and in the end all are.
use Rattle.std.proofs.Common.{◌<◌, ◌≤◌, ◌+◌, ◌-◌, ◌++◌, map, length, drop, get_or, ap, sym, ◌∙◌, arith}
use Rattle.std.proofs.lemmas.List.{append-nil, drop_all}
use Rattle.ft_base.specs.declared.span.Span.{Span}
use Rattle.all_matches.specs.Spans.{places_in}
use Rattle.index_cursors.specs.SpanHits.{started}
use Rattle.ignore_view.specs.steps.Kept.{changes, found_with, places_of}
use Rattle.ignore_view.proofs.WalkLemmas.{next-many, next-places}
use Rattle.ignore_view.proofs.starts.kept_starts.Goals as goal

abbrev none : Span
none = record { from = 0; to = 0 }

pub pass_part-requires-clause-room : goal.pass_part-requires-clause-room
pass_part-requires-clause-room c =
    let parts = c.deref-part-items.result.now in
    let k = c.loop-part.part-index in
    let same = c.deref-part-items.ensures.value in
    let many = next-many parts k none (omega (arith, c.loop-part-test.true)) in
    let passed = c.loop-part.invariant.passed in
    let all = ap (λ ps. length (places_of ps)) same in
    let left = ap (λ ps. length (places_of (drop k ps))) same in
    let room = c.requires in
    omega (arith, many, passed, all, left, room)

pub loop-part-preserved : goal.loop-part-preserved
loop-part-preserved c =
    let starts = c.args.starts.now in
    let parts = c.args.parts.now.items in
    let k = c.loop-part.part-index in
    let same = c.deref-part-items.ensures.value in
    let part = ap (λ ps. get_or ps k none) same in
    let there : k < length parts = omega (arith, c.loop-part-test.true, ap length same) in
    let many = next-many parts k none there in
    let size = ap (λ (p : Span). p.to - p.from) part in
    let passed = c.in_ok-pass_part.ensures.passed in
    let before = c.loop-part.invariant.passed in
    let left = map (started starts) (places_of (drop (k + 1) parts)) in
    record {
      found =
          c.in_ok-pass_part.ensures.found left
          ∙ ap (λ p. found_with c.loop-part.walk (map (started starts) (places_in p) ++ left)) part
          ∙ ap (found_with c.loop-part.walk) (sym (next-places parts k none there (started starts)))
          ∙ c.loop-part.invariant.found;
      passed = omega (arith, passed, before, many, size);
      ahead = c.in_ok-pass_part.ensures.ahead;
    }

pub returns : goal.returns
unfolding changes
returns c =
    let parts = c.args.parts.now.items in
    let k = c.loop-part.part-index in
    let walk = c.loop-part.walk in
    let ended : length parts ≤ k = omega (arith, c.loop-part-test.false, ap length c.deref-part-items.ensures.value) in
    sym (append-nil walk.found)
    ∙ ap (λ ps. found_with walk (map (started c.args.starts.now) (places_of ps))) (sym (drop_all k parts ended))
    ∙ c.loop-part.invariant.found
