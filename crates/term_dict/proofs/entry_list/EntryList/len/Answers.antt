-- There are as many entries as words.
use Rattle.std.proofs.Common.{length, ap, sym, ◌∙◌}
use Rattle.term_dict.proofs.GivenLemmas.{length-paired}
use Rattle.term_dict.proofs.entry_list.EntryList.len.Goals as goal

pub returns : goal.returns
returns c = c.len.ensures ∙ sym (length-paired c.self.inside.keys c.self.inside.words c.self.invariant) ∙ ap length c.self.view_is
