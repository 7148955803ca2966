-- One more word gets its id.
use Rattle.std.proofs.Common.{◌<◌, ◌+◌, length, take, sym, subst, arith}
use Rattle.index_versions.specs.steps.Naming.{entries_of, IsNamed}
use Rattle.index_versions.proofs.WordLemmas.{more_named}
use Rattle.index_versions.proofs.words.ids_of.Goals as goal

pub loop-number-preserved : goal.loop-number-preserved
loop-number-preserved c =
    let words = c.args.words.now in
    let i = c.loop-number.number in
    let word = c.get-word.result.now in
    let old = c.args.dictionary.now in
    let now = c.loop-number.dictionary in
    let new = c.id_of.new.dictionary in
    let within : i < length words = omega (arith, c.loop-number-test.true) in
    record {
      named = subst (λ ns. IsNamed old (entries_of (take (i + 1) words)) new ns) (sym c.in_ok-push.ensures.items)
          (more_named old now new words i word c.loop-number.named.items c.in_ok-id_of.field-0 within c.get-word.ensures c.loop-number.invariant.named c.in_ok-id_of.ensures.named);
      known = c.in_ok-id_of.ensures.known;
    }
