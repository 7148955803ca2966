-- What the number in the middle says of the place.
use Rattle.std.proofs.Common.{◌<◌, ◌≤◌, ◌+◌, ◌-◌, ◌/◌, ℕ, length, get_or, arith}
use Rattle.std.proofs.lemmas.List.{length-map}
use Rattle.index_cursors.proofs.AscendingLemmas.{below-holds, below-fails}
use Rattle.index_versions.specs.steps.Held.{Held, numbers}
use Rattle.index_versions.proofs.ExchangeLemmas.{number_at}
use Rattle.index_versions.proofs.documents.sought_place.Goals as goal

pub loop-low-preserved-then-doc : goal.loop-low-preserved-then-doc
loop-low-preserved-then-doc c =
    let documents = c.args.documents.now in
    let middle : ℕ = c.loop-low.low + (c.loop-low.high - c.loop-low.low) / 2 in
    let there : middle < length documents = omega (arith, c.loop-low-test.true, c.loop-low.invariant.within) in
    let number = number_at documents middle c.get.result.now there c.get.ensures in
    let within : middle < length (numbers documents) = omega (arith, there, length-map documents (λ (h : Held). h.index.doc)) in
    let test : get_or (numbers documents) middle 0 < c.args.doc.0 = omega (arith, number, c.doc.ensures, c.if-doc.true) in
    let more = below-holds c.args.doc.0 (numbers documents) middle c.requires within test in
    record { from = omega (arith, more); to = c.loop-low.invariant.to; within = c.loop-low.invariant.within }

pub loop-low-preserved : goal.loop-low-preserved
loop-low-preserved c =
    let documents = c.args.documents.now in
    let middle : ℕ = c.loop-low.low + (c.loop-low.high - c.loop-low.low) / 2 in
    let there : middle < length documents = omega (arith, c.loop-low-test.true, c.loop-low.invariant.within) in
    let number = number_at documents middle c.get.result.now there c.get.ensures in
    let within : middle < length (numbers documents) = omega (arith, there, length-map documents (λ (h : Held). h.index.doc)) in
    let test : c.args.doc.0 ≤ get_or (numbers documents) middle 0 = omega (arith, number, c.doc.ensures, c.if-doc.false) in
    let most = below-fails c.args.doc.0 (numbers documents) middle c.requires within test in
    record { from = c.loop-low.invariant.from; to = most; within = omega (arith, there) }
