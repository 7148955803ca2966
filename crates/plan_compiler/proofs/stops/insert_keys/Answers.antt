-- One key more is put into the set.
use Rattle.std.proofs.Common.{◌≡◌, ◌∙◌, sym, ap, map}
use Rattle.std.specs.Prelude.{string_bytes}
use Rattle.match_options.specs.Items.{item}
use Rattle.word_lists.specs.KeySets.{with_key}
use Rattle.word_lists.proofs.KeyLemmas.{bytes_with_key}
use Rattle.plan_compiler.specs.Stops.{item_key}
use Rattle.plan_compiler.proofs.GroupLemmas.{fold_more}
use Rattle.plan_compiler.proofs.stops.insert_keys.Goals as goal

pub loop-item-preserved : goal.loop-item-preserved
loop-item-preserved c =
    let key : string_bytes c.into_string-key.result ≡ item_key (item c.item-item.result) = c.into_string-key.ensures ∙ c.in_ok-item_key.ensures in
    ap (map string_bytes) c.in_ok-insert.ensures.keys
    ∙ bytes_with_key c.loop-item.keys.keys c.into_string-key.result
    ∙ (λ i. with_key (c.loop-item.invariant i) (key i))
    ∙ sym (fold_more with_key (map string_bytes c.args.keys.now.keys) item_key item c.as_slice-item-items.result.now c.loop-item.item-index c.item-item.result c.loop-item-test.true c.item-item.is)
