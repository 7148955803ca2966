-- The entries of all leaves, put into the index of none, are those of the document.
use Rattle.std.proofs.Common.{[], List, length, ap, sym, subst, arith}
use Rattle.index_document.specs.declared.entry.Entry.{Entry}
use Rattle.index_document.specs.Terms.{TermDocument, are_distinct, document_of, leaf_ids}
use Rattle.index_document.specs.Rows.{HasTerms, IsIndexed, entries, entries_of}
use Rattle.index_document.specs.steps.Groups.{IsSortedFrom, entries_with}
use Rattle.index_document.proofs.SoundLemmas.{all-count, all-same, indexed-same, sound-empty, terms-same}
use Rattle.index_document.proofs.index_document.DocIndex.from_leaves.Goals as goal

pub put_entries-requires-clause-distinct : goal.put_entries-requires-clause-distinct
put_entries-requires-clause-distinct g c = ap (λ (d : TermDocument). are_distinct (leaf_ids d.leaves)) c.empty-parts.ensures.leaves

pub put_entries-requires-clause-sound : goal.put_entries-requires-clause-sound
put_entries-requires-clause-sound g c =
    let made = c.empty-parts.ensures in sound-empty c.empty-parts.result c.args.doc.0 made.leaves made.ids made.starts made.rows

pub put_entries-requires-clause-order : goal.put_entries-requires-clause-order
put_entries-requires-clause-order g c = c.in_ok-entries.ensures.in_order

pub invariant_of-result : goal.invariant_of-result
invariant_of-result g c =
    let doc = c.args.doc.0 in
    let leaves = c.args.leaves.items in
    let empty = document_of doc [] in
    let new = c.in_ok-entries.entries.items in
    let parts = c.put_entries.new.parts in
    let sorted = subst (λ (es : List Entry). IsSortedFrom es new) c.in_ok-entries_of_leaves.ensures c.in_ok-entries.ensures in
    let same = all-same doc leaves new sorted in
    let indexed = subst (λ (d : TermDocument). IsIndexed (entries_with d 0 new) parts.ids.items parts.starts.items parts.rows) c.empty-parts.ensures.leaves c.in_ok-put_entries.ensures.indexed in
    let terms = subst (λ (d : TermDocument). HasTerms (entries_with d 0 new) parts.ids.items) c.empty-parts.ensures.leaves c.in_ok-put_entries.ensures.terms in
    record {
      indexed = subst (λ (d : TermDocument). IsIndexed (entries_of d) parts.ids.items parts.starts.items parts.rows) (sym c.in_ok-whole.ensures)
          (indexed-same (entries_with empty 0 new) (entries leaves) parts.ids.items parts.starts.items parts.rows same indexed);
      terms = subst (λ (d : TermDocument). HasTerms (entries_of d) parts.ids.items) (sym c.in_ok-whole.ensures) (terms-same (entries_with empty 0 new) (entries leaves) parts.ids.items same terms);
    }

pub returns-in_err-put_entries-clause-at_most : goal.returns-in_err-put_entries-clause-at_most
returns-in_err-put_entries-clause-at_most g c =
    omega (arith, c.put_entries.ensures.at_most, c.in_ok-entries.ensures.same_length, ap length c.in_ok-entries_of_leaves.ensures, all-count c.args.leaves.items)

pub returns-in_err-whole-clause-at_most : goal.returns-in_err-whole-clause-at_most
returns-in_err-whole-clause-at_most g c =
    omega (arith, c.put_entries.ensures.at_most, c.in_ok-entries.ensures.same_length, ap length c.in_ok-entries_of_leaves.ensures, all-count c.args.leaves.items)

pub returns-clause-at_most : goal.returns-clause-at_most
returns-clause-at_most g c =
    omega (arith, c.put_entries.ensures.at_most, c.in_ok-entries.ensures.same_length, ap length c.in_ok-entries_of_leaves.ensures, all-count c.args.leaves.items)

pub returns-clause-counted : goal.returns-clause-counted
returns-clause-counted g c =
    omega (arith, c.in_ok-put_entries.ensures.counted, c.in_ok-entries.ensures.same_length, ap length c.in_ok-entries_of_leaves.ensures, all-count c.args.leaves.items)
