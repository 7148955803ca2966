-- The entries without those of the leaf are those of the document without it, whose terms are the ones that still have rows.
use Rattle.std.proofs.Common.{◌≡◌, ◌<◌, [], ℕ, List, length, get_or, filter, ap, sym, subst, ◌∙◌, arith}
use Rattle.index_document.specs.declared.entry.Entry.{Entry}
use Rattle.index_document.specs.Terms.{TermDocument, leaf_words, without_leaf}
use Rattle.index_document.specs.Rows.{HasTerms, IsIndexed, entries_of, has_rows}
use Rattle.index_document.specs.steps.Groups.{IsSortedFrom}
use Rattle.index_document.proofs.LeafLemmas.{words-read}
use Rattle.index_document.proofs.SoundLemmas.{entries-at, leaf-length, without-is, without-terms}
use Rattle.index_document.proofs.index_document.DocIndex.take_leaf.Goals as goal

pub get-leaf-requires : goal.get-leaf-requires
get-leaf-requires g c = omega (arith, c.requires, ap (λ (d : TermDocument). length d.leaves) c.self.view_is)

pub take_entries-requires-clause-place : goal.take_entries-requires-clause-place
take_entries-requires-clause-place g c = omega (arith, c.requires, ap (λ (d : TermDocument). length d.leaves) c.self.view_is)

pub take_entries-requires-clause-distinct : goal.take_entries-requires-clause-distinct
take_entries-requires-clause-distinct g c = c.doc-doc.ensures.distinct

pub take_entries-requires-clause-sound : goal.take_entries-requires-clause-sound
take_entries-requires-clause-sound g c = c.self.invariant

pub take_entries-requires-clause-sorted : goal.take_entries-requires-clause-sorted
take_entries-requires-clause-sorted g c =
    let old = c.self.inside.parts.leaves in
    let at = c.args.at in
    let leaf = c.get-leaf.result.now in
    let taken = c.in_ok-entries.entries.items in
    let there : at < length old.leaves = omega (arith, c.requires, ap (λ (d : TermDocument). length d.leaves) c.self.view_is) in
    let is = c.in_ok-entries_of_leaf.ensures ∙ entries-at old at leaf there c.get-leaf.ensures in
    subst (λ (es : List Entry). IsSortedFrom es taken) is c.in_ok-entries.ensures

pub without_leaf-requires : goal.without_leaf-requires
without_leaf-requires g c =
    omega (arith, c.requires, ap (λ (d : TermDocument). length d.leaves) c.self.view_is, ap (λ (d : TermDocument). length d.leaves) c.in_ok-take_entries.ensures.leaves)

pub narrow-requires : goal.narrow-requires
narrow-requires g c =
    let old = c.self.inside.parts.leaves in
    let at = c.args.at in
    let parts = c.take_entries.new.parts in
    let is : c.in_ok-rest.rest ≡ without_leaf old at = c.in_ok-rest.ensures ∙ ap (λ (d : TermDocument). without_leaf d at) c.in_ok-take_entries.ensures.leaves in
    record {
      indexed = subst (λ (d : TermDocument). IsIndexed (entries_of d) parts.ids.items parts.starts.items parts.rows) (sym is)
          (subst (λ (es : List Entry). IsIndexed es parts.ids.items parts.starts.items parts.rows) (without-is old at) c.in_ok-take_entries.ensures.indexed);
    }

pub returns-in_err-take_entries-clause-at_most : goal.returns-in_err-take_entries-clause-at_most
returns-in_err-take_entries-clause-at_most g c =
    let leaf = c.get-leaf.result.now in
    let there : c.args.at < length c.self.inside.parts.leaves.leaves = omega (arith, c.requires, ap (λ (d : TermDocument). length d.leaves) c.self.view_is) in
    omega (
      arith,
      c.take_entries.ensures.at_most,
      leaf-length leaf c.in_ok-entries_of_leaf.field-0.items c.in_ok-entries.entries.items c.in_ok-entries_of_leaf.ensures c.in_ok-entries.ensures,
      ap length (words-read c.self.inside.parts.leaves.leaves c.args.at leaf there c.get-leaf.ensures),
      ap (λ (d : TermDocument). length (get_or (leaf_words d.leaves) c.args.at [])) c.self.view_is,
    )

pub returns-in_err-rest-clause-at_most : goal.returns-in_err-rest-clause-at_most
returns-in_err-rest-clause-at_most g c =
    let leaf = c.get-leaf.result.now in
    let there : c.args.at < length c.self.inside.parts.leaves.leaves = omega (arith, c.requires, ap (λ (d : TermDocument). length d.leaves) c.self.view_is) in
    omega (
      arith,
      c.take_entries.ensures.at_most,
      leaf-length leaf c.in_ok-entries_of_leaf.field-0.items c.in_ok-entries.entries.items c.in_ok-entries_of_leaf.ensures c.in_ok-entries.ensures,
      ap length (words-read c.self.inside.parts.leaves.leaves c.args.at leaf there c.get-leaf.ensures),
      ap (λ (d : TermDocument). length (get_or (leaf_words d.leaves) c.args.at [])) c.self.view_is,
    )

pub returns-in_err-narrow-clause-at_most : goal.returns-in_err-narrow-clause-at_most
returns-in_err-narrow-clause-at_most g c =
    let leaf = c.get-leaf.result.now in
    let there : c.args.at < length c.self.inside.parts.leaves.leaves = omega (arith, c.requires, ap (λ (d : TermDocument). length d.leaves) c.self.view_is) in
    omega (
      arith,
      c.take_entries.ensures.at_most,
      leaf-length leaf c.in_ok-entries_of_leaf.field-0.items c.in_ok-entries.entries.items c.in_ok-entries_of_leaf.ensures c.in_ok-entries.ensures,
      ap length (words-read c.self.inside.parts.leaves.leaves c.args.at leaf there c.get-leaf.ensures),
      ap (λ (d : TermDocument). length (get_or (leaf_words d.leaves) c.args.at [])) c.self.view_is,
    )

pub returns-clause-at_most : goal.returns-clause-at_most
returns-clause-at_most g c =
    let leaf = c.get-leaf.result.now in
    let there : c.args.at < length c.self.inside.parts.leaves.leaves = omega (arith, c.requires, ap (λ (d : TermDocument). length d.leaves) c.self.view_is) in
    omega (
      arith,
      c.take_entries.ensures.at_most,
      leaf-length leaf c.in_ok-entries_of_leaf.field-0.items c.in_ok-entries.entries.items c.in_ok-entries_of_leaf.ensures c.in_ok-entries.ensures,
      ap length (words-read c.self.inside.parts.leaves.leaves c.args.at leaf there c.get-leaf.ensures),
      ap (λ (d : TermDocument). length (get_or (leaf_words d.leaves) c.args.at [])) c.self.view_is,
    )

pub returns-clause-counted : goal.returns-clause-counted
returns-clause-counted g c =
    let leaf = c.get-leaf.result.now in
    let there : c.args.at < length c.self.inside.parts.leaves.leaves = omega (arith, c.requires, ap (λ (d : TermDocument). length d.leaves) c.self.view_is) in
    omega (
      arith,
      c.in_ok-take_entries.ensures.counted,
      leaf-length leaf c.in_ok-entries_of_leaf.field-0.items c.in_ok-entries.entries.items c.in_ok-entries_of_leaf.ensures c.in_ok-entries.ensures,
      ap length (words-read c.self.inside.parts.leaves.leaves c.args.at leaf there c.get-leaf.ensures),
      ap (λ (d : TermDocument). length (get_or (leaf_words d.leaves) c.args.at [])) c.self.view_is,
    )

pub invariant_of-result : goal.invariant_of-result
invariant_of-result g c =
    let old = c.self.inside.parts.leaves in
    let at = c.args.at in
    let ids = c.self.inside.parts.ids.items in
    let parts = c.narrow.new.parts in
    let is : c.in_ok-rest.rest ≡ without_leaf old at = c.in_ok-rest.ensures ∙ ap (λ (d : TermDocument). without_leaf d at) c.in_ok-take_entries.ensures.leaves in
    let all : parts.leaves ≡ without_leaf old at = c.in_ok-narrow.ensures.leaves ∙ is in
    let ids_are : parts.ids.items ≡ filter (has_rows (entries_of (without_leaf old at))) ids =
    c.in_ok-narrow.ensures.ids ∙ ap (λ (d : TermDocument). filter (has_rows (entries_of d)) c.take_entries.new.parts.ids.items) is
    ∙ ap (λ (ts : List ℕ). filter (has_rows (entries_of (without_leaf old at))) ts) c.in_ok-take_entries.ensures.ids in
    record {
      indexed = subst (λ (d : TermDocument). IsIndexed (entries_of d) parts.ids.items parts.starts.items parts.rows) (sym c.in_ok-narrow.ensures.leaves) c.in_ok-narrow.ensures.indexed;
      terms = subst (λ (d : TermDocument). HasTerms (entries_of d) parts.ids.items) (sym all)
          (subst (λ (ts : List ℕ). HasTerms (entries_of (without_leaf old at)) ts) (sym ids_are) (without-terms old at ids c.self.invariant.terms));
    }

pub returns-clause-index : goal.returns-clause-index
returns-clause-index g c =
    let at = c.args.at in
    c.in_ok-narrow.ensures.leaves ∙ c.in_ok-rest.ensures ∙ ap (λ (d : TermDocument). without_leaf d at) (c.in_ok-take_entries.ensures.leaves ∙ c.self.view_is)

pub returns-clause-words : goal.returns-clause-words
returns-clause-words g c =
    let leaf = c.get-leaf.result.now in
    let there : c.args.at < length c.self.inside.parts.leaves.leaves = omega (arith, c.requires, ap (λ (d : TermDocument). length d.leaves) c.self.view_is) in
    c.in_ok-terms.ensures.items ∙ c.terms.ensures ∙ words-read c.self.inside.parts.leaves.leaves c.args.at leaf there c.get-leaf.ensures
    ∙ ap (λ (d : TermDocument). get_or (leaf_words d.leaves) c.args.at []) c.self.view_is
