-- The set is asked.
use Rattle.std.proofs.Common.{◌∙◌, ap}
use Rattle.std.specs.Prelude.{bytes_eq}
use Rattle.std.specs.List.{list_any}
use Rattle.word_lists.proofs.KeyLemmas.{any_bytes}
use Rattle.word_lists.proofs.key_set.KeySet.holds.Goals as goal

pub returns : goal.returns
returns c = c.contains.ensures ∙ any_bytes c.args.key.now c.self.inside.keys.keys ∙ ap (list_any (bytes_eq c.args.key.now)) c.self.view_is
