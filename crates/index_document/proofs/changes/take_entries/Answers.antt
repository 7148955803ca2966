-- The entries of a leaf are those of the document's terms, one after the other.
use Rattle.std.proofs.Common.{ℕ, List, Result, Ok, Err, OnOk, sym, subst}
use Rattle.index_document.specs.Rows.{IsIndexed}
use Rattle.index_document.specs.steps.Groups.{entries_without}
use Rattle.index_document.proofs.SoundLemmas.{old-grouped}
use Rattle.index_document.proofs.changes.take_entries.Goals as goal

both : {T E P Q R : Type 0} (r : Result T E) → (P → Q → R) → OnOk r P → OnOk r Q → OnOk r R
both (Ok x) f p q = f p q
both (Err e) f p q = tt

pub take_rows-requires-clause-grouped : goal.take_rows-requires-clause-grouped
take_rows-requires-clause-grouped g c = old-grouped c.args.parts.now.leaves c.args.at c.args.entries.now.items c.args.parts.now.ids.items c.requires.sound.terms c.requires.sorted

pub returns-clause-indexed : goal.returns-clause-indexed
returns-clause-indexed g c =
    let parts = c.take_rows.new.parts in
    both c.take_rows.result (λ ids indexed. subst (λ (is : List ℕ). IsIndexed (entries_without c.args.parts.now.leaves c.args.at) is parts.starts.items parts.rows) (sym ids) indexed)
    c.take_rows.ensures.ids c.take_rows.ensures.indexed
