-- The entries with those of the leaf between them are those of the document with the leaf.
use Rattle.std.proofs.Common.{◌≡◌, ℕ, List, length, ap, sym, subst, ◌∙◌, arith}
use Rattle.index_document.specs.declared.entry.Entry.{Entry}
use Rattle.index_document.specs.Terms.{TermDocument, has, leaf_ids, with_leaf}
use Rattle.index_document.specs.Rows.{HasTerms, IsIndexed, entries_of}
use Rattle.index_document.specs.steps.Groups.{IsSortedFrom, entries_with}
use Rattle.index_document.proofs.SoundLemmas.{indexed-same, leaf-length, terms-same, with-same}
use Rattle.index_document.proofs.index_document.DocIndex.put_leaf.Goals as goal

pub put_entries-requires-clause-place : goal.put_entries-requires-clause-place
put_entries-requires-clause-place g c = omega (arith, c.requires.place, ap (λ (d : TermDocument). length d.leaves) c.self.view_is)

pub put_entries-requires-clause-distinct : goal.put_entries-requires-clause-distinct
put_entries-requires-clause-distinct g c = c.doc-doc.ensures.distinct

pub put_entries-requires-clause-sound : goal.put_entries-requires-clause-sound
put_entries-requires-clause-sound g c = c.self.invariant

pub put_entries-requires-clause-order : goal.put_entries-requires-clause-order
put_entries-requires-clause-order g c = c.in_ok-entries.ensures.in_order

pub with_leaf-requires-clause-place : goal.with_leaf-requires-clause-place
with_leaf-requires-clause-place g c =
    omega (arith, c.requires.place, ap (λ (d : TermDocument). length d.leaves) c.self.view_is, ap (λ (d : TermDocument). length d.leaves) c.in_ok-put_entries.ensures.leaves)

pub with_leaf-requires-clause-new : goal.with_leaf-requires-clause-new
with_leaf-requires-clause-new g c =
    ap (λ (d : TermDocument). has c.in_ok-made.made.id (leaf_ids d.leaves)) (c.in_ok-put_entries.ensures.leaves ∙ c.self.view_is)
    ∙ ap (λ (n : ℕ). has n (leaf_ids c.args.self.leaves)) (ap (λ l. l.id) c.in_ok-made.ensures) ∙ c.requires.new

pub returns-in_err-put_entries-clause-at_most : goal.returns-in_err-put_entries-clause-at_most
returns-in_err-put_entries-clause-at_most g c =
    omega (
      arith,
      c.put_entries.ensures.at_most,
      leaf-length c.in_ok-made.made c.in_ok-entries_of_leaf.field-0.items c.in_ok-entries.entries.items c.in_ok-entries_of_leaf.ensures c.in_ok-entries.ensures,
      ap (λ l. length l.words) c.in_ok-made.ensures,
    )

pub returns-in_err-whole-clause-at_most : goal.returns-in_err-whole-clause-at_most
returns-in_err-whole-clause-at_most g c =
    omega (
      arith,
      c.put_entries.ensures.at_most,
      leaf-length c.in_ok-made.made c.in_ok-entries_of_leaf.field-0.items c.in_ok-entries.entries.items c.in_ok-entries_of_leaf.ensures c.in_ok-entries.ensures,
      ap (λ l. length l.words) c.in_ok-made.ensures,
    )

pub returns-clause-at_most : goal.returns-clause-at_most
returns-clause-at_most g c =
    omega (
      arith,
      c.put_entries.ensures.at_most,
      leaf-length c.in_ok-made.made c.in_ok-entries_of_leaf.field-0.items c.in_ok-entries.entries.items c.in_ok-entries_of_leaf.ensures c.in_ok-entries.ensures,
      ap (λ l. length l.words) c.in_ok-made.ensures,
    )

pub returns-clause-counted : goal.returns-clause-counted
returns-clause-counted g c =
    omega (
      arith,
      c.in_ok-put_entries.ensures.counted,
      leaf-length c.in_ok-made.made c.in_ok-entries_of_leaf.field-0.items c.in_ok-entries.entries.items c.in_ok-entries_of_leaf.ensures c.in_ok-entries.ensures,
      ap (λ l. length l.words) c.in_ok-made.ensures,
    )

pub invariant_of-result : goal.invariant_of-result
invariant_of-result g c =
    let old = c.self.inside.parts.leaves in
    let at = c.args.at in
    let leaf = c.in_ok-made.made in
    let new = c.in_ok-entries.entries.items in
    let parts = c.put_entries.new.parts in
    let sorted = subst (λ (es : List Entry). IsSortedFrom es new) c.in_ok-entries_of_leaf.ensures c.in_ok-entries.ensures in
    let same = with-same old at leaf new sorted in
    let is : c.in_ok-whole.whole ≡ with_leaf old at leaf = c.in_ok-whole.ensures ∙ ap (λ (d : TermDocument). with_leaf d at leaf) c.in_ok-put_entries.ensures.leaves in
    record {
      indexed = subst (λ (d : TermDocument). IsIndexed (entries_of d) parts.ids.items parts.starts.items parts.rows) (sym is)
          (indexed-same (entries_with old at new) (entries_of (with_leaf old at leaf)) parts.ids.items parts.starts.items parts.rows same c.in_ok-put_entries.ensures.indexed);
      terms = subst (λ (d : TermDocument). HasTerms (entries_of d) parts.ids.items) (sym is)
          (terms-same (entries_with old at new) (entries_of (with_leaf old at leaf)) parts.ids.items same c.in_ok-put_entries.ensures.terms);
    }

pub returns-clause-ok : goal.returns-clause-ok
returns-clause-ok g c =
    let at = c.args.at in
    let leaf = c.in_ok-made.made in
    c.in_ok-whole.ensures ∙ ap (λ (d : TermDocument). with_leaf d at leaf) (c.in_ok-put_entries.ensures.leaves ∙ c.self.view_is)
    ∙ ap (λ l. with_leaf c.args.self at l) c.in_ok-made.ensures
