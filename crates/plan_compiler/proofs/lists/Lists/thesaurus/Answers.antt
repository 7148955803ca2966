-- The names are looked up as texts.
use Rattle.std.proofs.Common.{◌∙◌, sym, ap, Some, option_map}
use Rattle.std.specs.Option.{option_copied}
use Rattle.std.specs.Rc.{rc_value}
use Rattle.plan_compiler.specs.NamedLists.{NamedLists, list_named}
use Rattle.plan_compiler.proofs.ListLemmas.{list_found}
use Rattle.plan_compiler.proofs.lists.Lists.thesaurus.Goals as goal

pub returns-in-Some : goal.returns-in-Some
returns-in-Some c =
    ap Some c.deref.ensures
    ∙ ap (option_map rc_value) (sym (ap option_copied c.in-Some.is) ∙ c.get.ensures.value)
    ∙ sym (list_found c.args.name.now c.self.inside.thesauri.entries)
    ∙ ap (λ (lists : NamedLists). list_named c.args.name.now lists.thesauri) c.self.view_is

pub returns-in-None : goal.returns-in-None
returns-in-None c =
    ap (option_map rc_value) (sym (ap option_copied c.in-None.is) ∙ c.get.ensures.value)
    ∙ sym (list_found c.args.name.now c.self.inside.thesauri.entries)
    ∙ ap (λ (lists : NamedLists). list_named c.args.name.now lists.thesauri) c.self.view_is
