-- Where memory ran out, the lines that came are cut off.
use Rattle.element_lines.proofs.KeptLemmas.{cut-off}
use Rattle.element_lines.proofs.names.push_names.Goals as goal

pub returns-in-Err-clause-err : goal.returns-in-Err-clause-err
returns-in-Err-clause-err c = cut-off c.args.lines.now c.put_names.new.lines c.truncate.new.self c.len-count.result c.len-count.ensures c.in-Err.ensures.err c.truncate.ensures
