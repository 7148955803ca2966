-- What is replaced by nothing is removed.
use Rattle.std.proofs.Common.{ap, ◌∙◌}
use Rattle.std.proofs.lemmas.Result.{on_ok_weaker}
use Rattle.plain_tree.specs.Edits.{replacement}
use Rattle.plain_tree.proofs.TreesJoined.{row}
use Rattle.plain_tree.proofs.document.PlainDoc.remove_at.Goals as goal

pub returns-clause-edited : goal.returns-clause-edited
returns-clause-edited c =
    on_ok_weaker c.replace_at.result (λ is. is ∙ ap (λ none. replacement (row none) c.args.place.now c.args.self.now) c.new.ensures) c.replace_at.ensures.edited
