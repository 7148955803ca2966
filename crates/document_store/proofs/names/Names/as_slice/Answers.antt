-- No name is there, so none twice.
use Rattle.std.proofs.Common.{◌∙◌, ap, subst, sym, []}
use Rattle.std.specs.List.{IsDistinct}
use Rattle.std.specs.Option.{option_map_or}
use Rattle.std.specs.Str.{bytes_eq}
use Rattle.document_store.proofs.NameLemmas.{distinct-none}
use Rattle.document_store.proofs.names.Names.as_slice.Goals as goal

pub returns-in-None-clause-distinct : goal.returns-in-None-clause-distinct
returns-in-None-clause-distinct c =
    subst (IsDistinct bytes_eq) (sym (ap (λ table. option_map_or (λ shared. shared.value.keys) table []) c.in-None.is) ∙ c.self.view_is) distinct-none
