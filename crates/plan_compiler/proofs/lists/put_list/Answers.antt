-- The list is put under the text of the name.
use Rattle.std.proofs.Common.{◌∙◌, ap, map}
use Rattle.plan_compiler.specs.SharedLists.{named}
use Rattle.plan_compiler.specs.NamedLists.{with_list}
use Rattle.plan_compiler.proofs.ListLemmas.{list_put}
use Rattle.plan_compiler.proofs.lists.put_list.Goals as goal

pub returns-clause-ok : goal.returns-clause-ok
returns-clause-ok g c =
    ap (map named) c.in_ok-insert.ensures.entries
    ∙ list_put c.in_ok-name.name c.in_ok-list.list c.args.lists.now.entries
    ∙ ap (λ n. with_list n c.in_ok-list.list.value (map named c.args.lists.now.entries)) c.in_ok-name.ensures.ok
    ∙ ap (λ l. with_list c.args.name.now l (map named c.args.lists.now.entries)) c.in_ok-list.ensures.ok
