-- The mark is the last one, and its version is an index as the collection's is.
use Rattle.std.proofs.Common.{◌≡◌, ◌∙◌, sym, ap, subst, List, [], ◌∷◌, ◌++◌}
use Rattle.std.specs.Prelude.{None}
use Rattle.std.specs.HashMap.{get}
use Rattle.std.specs.List.{AllByRecursion}
use Rattle.std.specs.Map.{lookup}
use Rattle.std.specs.Str.{bytes_eq}
use Rattle.document_store.specs.Indexed.{Indexed, IsIndexOf}
use Rattle.indexmap.proofs.CallerLemmas.{insert_entry-new}
use Rattle.session_state.specs.KeptMarks.{IsOwnIndex}
use Rattle.session_state.proofs.MarkLemmas.{own-more, Entry}
use Rattle.session_state.proofs.marks.Marks.add.Goals as goal

pub invariant_of-self-2 : goal.invariant_of-self-2
invariant_of-self-2 c =
    let m = c.self.inside.kept in
    let none : get bytes_eq m c.args.name ≡ None = ap (λ (es : List Entry). lookup (bytes_eq c.args.name) es) c.self.view_is ∙ c.requires in
    let entries = c.in-Ok-insert.ensures.entries ∙ insert_entry-new bytes_eq m c.args.name c.in-Ok.copy none in
    let own = subst (λ (i : Indexed). IsIndexOf i.abbreviations i.documents i.version) (sym c.in-Ok.ensures) c.documents-documents.ensures.indexed in
    subst (λ (es : List Entry). AllByRecursion IsOwnIndex es) (sym entries) (own-more m.entries (c.args.name, c.in-Ok.copy) c.self.invariant own)

pub returns-clause-entries : goal.returns-clause-entries
returns-clause-entries c =
    let m = c.self.inside.kept in
    let none : get bytes_eq m c.args.name ≡ None = ap (λ (es : List Entry). lookup (bytes_eq c.args.name) es) c.self.view_is ∙ c.requires in
    c.in-Ok-insert.ensures.entries
    ∙ (insert_entry-new bytes_eq m c.args.name c.in-Ok.copy none
    ∙ (ap (λ (es : List Entry). es ++ (c.args.name, c.in-Ok.copy) ∷ []) c.self.view_is
    ∙ ap (λ (i : Indexed). c.args.self.now ++ (c.args.name, i) ∷ []) c.in-Ok.ensures))
