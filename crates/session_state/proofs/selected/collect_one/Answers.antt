-- The document that the look-up finds is the only one of its name, and the runs are over it.
use Rattle.std.proofs.Common.{◌≡◌, ◌∙◌, ◌≤◌, ◌+◌, sym, ap, subst, append-nil, map, IfOk, Some, None}
use Rattle.std.specs.List.{flat_map}
use Rattle.std.specs.Map.{lookup}
use Rattle.std.specs.Option.{option_copied}
use Rattle.std.specs.Str.{bytes_eq}
use Rattle.ordered_tree.specs.Numbered.{plain}
use Rattle.path_meaning.specs.Collection.{documents}
use Rattle.path_grammar.specs.declared.path.PathRoot.TheVariants.{Doc}
use Rattle.session_state.specs.PlannedPaths.{planned_lines, planned_price, prices_in}
use Rattle.session_state.specs.SelectionTests.{AreOver}
use Rattle.document_store.specs.Loaded.{to_document}
use Rattle.session_state.proofs.NamedLemmas.{found-tree, none-named, one-named}
use Rattle.session_state.proofs.PathLemmas.{prices-one}
use Rattle.session_state.proofs.selected.collect_one.Goals as goal

pub collect_from-requires-clause-over : goal.collect_from-requires-clause-over
collect_from-requires-clause-over g c =
    let name = c.args.name.now in
    let entries = c.args.documents.now in
    let found : lookup (bytes_eq name) entries ≡ Some c.in-Some.document.now = sym c.get.ensures ∙ ap option_copied c.in-Some.is in
    found-tree (AreOver g.A.Abbreviated.abbreviations c.args.runs.now) name entries c.in-Some.document.now c.requires.over found

pub returns-in-Some-clause-lines : goal.returns-in-Some-clause-lines
returns-in-Some-clause-lines g c =
    let name = c.args.name.now in
    let entries = c.args.documents.now in
    let lines = planned_lines g.J.Judge.says g.A.Abbreviated.abbreviations c.args.shown c.args.path.now in
    let found : lookup (bytes_eq name) entries ≡ Some c.in-Some.document.now = sym c.get.ensures ∙ ap option_copied c.in-Some.is in
    let one : planned_lines g.J.Judge.says g.A.Abbreviated.abbreviations c.args.shown c.args.path.now (to_document (c.as_str.result.now, c.in-Some.document.now)) ≡ flat_map lines (documents (Doc name) (map to_document entries)) =
    ap (λ n. lines (to_document (n, c.in-Some.document.now))) c.as_str.ensures
    ∙ (sym (append-nil (lines (to_document (name, c.in-Some.document.now)))) ∙ sym (ap (flat_map lines) (one-named name entries c.in-Some.document.now c.iter-entries.ensures.distinct found))) in
    subst (λ ls. IfOk c.collect_from.result (λ found. found ≡ ls)) one c.collect_from.ensures.lines

pub returns-in-None-clause-lines : goal.returns-in-None-clause-lines
returns-in-None-clause-lines g c =
    let name = c.args.name.now in
    let entries = c.args.documents.now in
    let lines = planned_lines g.J.Judge.says g.A.Abbreviated.abbreviations c.args.shown c.args.path.now in
    let none : lookup (bytes_eq name) entries ≡ None = sym c.get.ensures ∙ ap option_copied c.in-None.is in
    c.new.ensures ∙ sym (ap (flat_map lines) (none-named name entries none))

pub returns-in-Some-clause-price : goal.returns-in-Some-clause-price
returns-in-Some-clause-price g c cheap =
    let says = g.J.Judge.says in
    let abbreviations = g.A.Abbreviated.abbreviations in
    let path = c.args.path.now in
    let runs = c.args.runs.now in
    let name = c.args.name.now in
    let entries = c.args.documents.now in
    let found : lookup (bytes_eq name) entries ≡ Some c.in-Some.document.now = sym c.get.ensures ∙ ap option_copied c.in-Some.is in
    let one : planned_price says abbreviations path runs (plain c.in-Some.document.now.tree.root) ≡ prices_in says abbreviations path runs (documents (Doc name) (map to_document entries)) =
    sym (prices-one says abbreviations path runs (to_document (name, c.in-Some.document.now)))
    ∙ sym (ap (prices_in says abbreviations path runs) (one-named name entries c.in-Some.document.now c.iter-entries.ensures.distinct found)) in
    subst (λ n. c.collect_from.new.moves ≤ c.args.moves.now + n) one (c.collect_from.ensures.price cheap)
