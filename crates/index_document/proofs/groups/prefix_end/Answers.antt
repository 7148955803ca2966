-- What stands before a row of a leaf before the place is of such leaves too, and what stands after another is not.
use Rattle.std.proofs.Common.{◌≡◌, ◌+◌, ◌-◌, ◌/◌, true, false, sym, ◌∙◌, arith}
use Rattle.index_document.specs.Terms.{leaf_ids}
use Rattle.index_document.specs.steps.Directory.{is_before}
use Rattle.index_document.proofs.GroupLemmas.{prefix-there, back-there}
use Rattle.index_document.proofs.groups.prefix_end.Goals as goal

pub loop-low-preserved-then-is_before : goal.loop-low-preserved-then-is_before
loop-low-preserved-then-is_before c =
    let ids = leaf_ids c.args.leaves.now.leaves in
    let run = c.args.run in
    let rows = c.args.rows.now in
    let old = c.loop-low.invariant in
    let middle = c.loop-low.low + (c.loop-low.high - c.loop-low.low) / 2 in
    let holds : is_before ids c.args.at c.get.result ≡ true = sym c.is_before.ensures ∙ c.if-is_before.true in
    record {
      order = omega arith;
      within = old.within;
      low_is = λ before prefix back suffix around.
          let to = old.end_is before prefix back suffix around in
          omega (arith, prefix-there ids c.args.at run.first run.end rows before prefix back suffix around middle c.get.result c.get.ensures holds (omega arith));
      high_is = old.high_is;
      first_is = λ before prefix back suffix around. omega (arith, old.first_is before prefix back suffix around);
      end_is = old.end_is;
    }

pub loop-low-preserved : goal.loop-low-preserved
loop-low-preserved c =
    let ids = leaf_ids c.args.leaves.now.leaves in
    let run = c.args.run in
    let rows = c.args.rows.now in
    let old = c.loop-low.invariant in
    let middle = c.loop-low.low + (c.loop-low.high - c.loop-low.low) / 2 in
    let fails : is_before ids c.args.at c.get.result ≡ false = sym c.is_before.ensures ∙ c.if-is_before.false in
    record {
      order = omega arith;
      within = omega (arith, old.within);
      low_is = old.low_is;
      high_is = λ before prefix back suffix around.
          let from = old.first_is before prefix back suffix around in
          back-there ids c.args.at run.first run.end rows before prefix back suffix around middle c.get.result c.get.ensures fails (omega arith);
      first_is = old.first_is;
      end_is = λ before prefix back suffix around. omega (arith, old.end_is before prefix back suffix around);
    }
