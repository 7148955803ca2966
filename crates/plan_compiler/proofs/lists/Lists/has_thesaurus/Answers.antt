-- The names are looked up as texts.
use Rattle.std.proofs.Common.{◌∙◌, sym, ap}
use Rattle.std.specs.Prelude.{is_some}
use Rattle.plan_compiler.specs.NamedLists.{NamedLists, list_named}
use Rattle.plan_compiler.proofs.ListLemmas.{name_held}
use Rattle.plan_compiler.proofs.lists.Lists.has_thesaurus.Goals as goal

pub returns : goal.returns
returns c =
    c.contains_key.ensures ∙ sym (name_held c.args.name.now c.self.inside.thesauri.entries)
    ∙ ap (λ (lists : NamedLists). is_some (list_named c.args.name.now lists.thesauri)) c.self.view_is
