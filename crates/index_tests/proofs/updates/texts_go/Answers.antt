-- All texts went.
use Rattle.index_tests.proofs.BareLemmas.{texts-went}
use Rattle.index_tests.proofs.updates.texts_go.Goals as goal

pub apply_change-made-requires : goal.apply_change-made-requires
apply_change-made-requires g c = record {
  edited = (
    c.args.full.now.root,
    c.requires.follows,
    texts-went c.args.full.now.root c.args.bare.now.root c.root-full.ensures.apart c.root-bare.ensures.apart
        (record { taken = c.in_ok-taken.taken; put = c.new.result }) c.requires.none c.in_ok-taken.ensures c.new.ensures,
  );
}
