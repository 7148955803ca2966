-- One document more is stamped.
use Rattle.std.proofs.Common.{◌∙◌, [], ◌∷◌, ◌+◌, ◌<◌, false, length, get_or, map, refl, sym, arith}
use Rattle.std.proofs.lemmas.List.{length-map, length-set}
use Rattle.stamped_documents.proofs.StampLemmas.{item-of-each, one-more}
use Rattle.stamped_documents.proofs.stamping.renew.Goals as goal

pub loop-number-preserved : goal.loop-number-preserved
loop-number-preserved c =
    let i = c.loop-number.number in
    let stamps = c.args.stamps.now.items in
    let lists = map (λ s. s ∷ []) stamps in
    let less : i < length stamps = omega (arith, c.loop-number-test.true, c.len-number-end.ensures) in
    let listed : i < length lists = omega (arith, length-map stamps (λ s. s ∷ []), less) in
    record {
      count = length-set c.loop-number.stamps.items i (c.args.next + i) ∙ c.loop-number.invariant.count;
      stamped = one-more c.args.next i lists c.loop-number.stamps.items _ stamps (get_or lists i []) [] false listed less
          refl (sym (item-of-each stamps i [] less)) c.loop-number.invariant.stamped refl;
    }
