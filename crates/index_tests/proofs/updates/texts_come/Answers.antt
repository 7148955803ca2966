-- All texts came.
use Rattle.index_tests.proofs.BareLemmas.{texts-came}
use Rattle.index_tests.proofs.updates.texts_come.Goals as goal

pub apply_change-made-requires : goal.apply_change-made-requires
apply_change-made-requires g c = record {
  edited = (
    c.args.bare.now.root,
    c.requires.follows,
    texts-came c.args.bare.now.root c.args.full.now.root c.root-bare.ensures.apart c.root-full.ensures.apart
        (record { taken = c.new.result; put = c.in_ok-put.put }) c.requires.none c.new.ensures c.in_ok-put.ensures,
  );
}
