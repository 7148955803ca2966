-- After the last term the rows end.
use Rattle.std.proofs.Common.{length, ap, sym, ◌∙◌, arith}
use Rattle.std.proofs.lemmas.List.{take_all}
use Rattle.shared_list.specs.Blocks.{joined}
use Rattle.shared_list.proofs.StartLemmas.{same-length, start-read}
use Rattle.index_document.proofs.groups.start_at.Goals as goal

pub returns-then-number-len : goal.returns-then-number-len
returns-then-number-len c = λ runs are total.
    start-read runs c.args.starts.now.items c.args.number c.index.result.now are (omega (arith, same-length runs c.args.starts.now.items are)) c.index.ensures

pub returns : goal.returns
returns c = λ runs are total. total ∙ ap (λ rs. length (joined rs)) (sym (take_all c.args.number runs (omega (arith, same-length runs c.args.starts.now.items are))))
