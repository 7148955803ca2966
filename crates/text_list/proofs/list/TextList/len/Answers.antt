-- There is a text for each end.
use Rattle.std.proofs.Common.{length, string_bytes, ap, arith}
use Rattle.text_list.proofs.EndsLemmas.{length-texts}
use Rattle.text_list.proofs.list.TextList.len.Goals as goal

pub returns : goal.returns
returns c = omega (arith, c.len.ensures, length-texts c.self.inside.ends.items 0 (string_bytes c.self.inside.text), ap length c.self.view_is)
