-- One document more is stamped; those past the last list or the last stamp stay.
use Rattle.std.proofs.Common.{◌≡◌, ◌∙◌, ◌+◌, ◌<◌, ◌≤◌, ℕ, length, ap, not, subst, arith}
use Rattle.std.specs.Prelude.{min}
use Rattle.stamped_documents.proofs.StampLemmas.{length-if, one-more, restamped-enough, tells-empty}
use Rattle.stamped_documents.proofs.stamping.restamp.Goals as goal

pub loop-number-preserved : goal.loop-number-preserved
loop-number-preserved c =
    let i = c.loop-number.number in
    let items = c.index-targets-number.result in
    let empty = c.is_empty.result in
    let listed : i < length c.args.targets.now = omega (arith, c.loop-number-test.true, c.min-number-end.ensures) in
    let stamped : i < length c.args.stamps.now.items = omega (arith, c.loop-number-test.true, c.min-number-end.ensures, c.len.ensures) in
    record {
      count = length-if (not empty) c.loop-number.stamps.items c.set_if.new.stamps.items i (c.args.next + i) c.set_if.ensures ∙ c.loop-number.invariant.count;
      stamped = one-more c.args.next i c.args.targets.now c.loop-number.stamps.items c.set_if.new.stamps.items c.args.stamps.now.items items items empty
          listed stamped
          c.index-targets-number.is (tells-empty empty items c.is_empty.ensures.0 c.is_empty.ensures.1) c.loop-number.invariant.stamped c.set_if.ensures;
    }

pub returns : goal.returns
returns c =
    let long : c.len.result ≡ length c.args.stamps.now.items = omega (arith, c.len.ensures) in
    let all : min (length c.args.targets.now) (length c.args.stamps.now.items) ≤ c.loop-number.number =
    subst (λ (n : ℕ). n ≤ c.loop-number.number) (c.min-number-end.ensures ∙ ap (min (length c.args.targets.now)) long) c.loop-number-test.false in
    c.loop-number.invariant.stamped ∙ restamped-enough c.args.next c.loop-number.number c.args.targets.now c.args.stamps.now.items all
