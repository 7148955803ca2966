-- Once the new terms are among the others, the entries are those of the terms, one after the other.
use Rattle.std.proofs.Common.{ℕ, List, length, Result, Ok, Err, OnOk, ap, sym, subst, ◌∙◌, arith}
use Rattle.std.proofs.lemmas.Result.{on_ok_weaker}
use Rattle.index_document.specs.Terms.{TermDocument, are_distinct, leaf_ids}
use Rattle.index_document.specs.Rows.{HasTerms, IsIndexed, entries_of}
use Rattle.index_document.specs.steps.Groups.{entries_with}
use Rattle.index_document.proofs.SoundLemmas.{new-grouped, with-terms}
use Rattle.index_document.proofs.changes.put_entries.Goals as goal

both : {T E P Q R : Type 0} (r : Result T E) → (P → Q → R) → OnOk r P → OnOk r Q → OnOk r R
both (Ok x) f p q = f p q
both (Err e) f p q = tt

pub put_rows-requires-clause-place : goal.put_rows-requires-clause-place
put_rows-requires-clause-place g c = omega (arith, c.requires.place, ap (λ (d : TermDocument). length d.leaves) c.in_ok-widen.ensures.leaves)

pub put_rows-requires-clause-distinct : goal.put_rows-requires-clause-distinct
put_rows-requires-clause-distinct g c = ap (λ (d : TermDocument). are_distinct (leaf_ids d.leaves)) c.in_ok-widen.ensures.leaves ∙ c.requires.distinct

pub put_rows-requires-clause-indexed : goal.put_rows-requires-clause-indexed
put_rows-requires-clause-indexed g c =
    let parts = c.widen.new.parts in
    subst (λ (d : TermDocument). IsIndexed (entries_of d) parts.ids.items parts.starts.items parts.rows) (sym c.in_ok-widen.ensures.leaves) c.in_ok-widen.ensures.indexed

pub put_rows-requires-clause-rising : goal.put_rows-requires-clause-rising
put_rows-requires-clause-rising g c = c.in_ok-widen.ensures.rising

pub put_rows-requires-clause-grouped : goal.put_rows-requires-clause-grouped
put_rows-requires-clause-grouped g c =
    new-grouped c.args.entries.now.items c.args.parts.now.ids.items c.widen.new.parts.ids.items c.in_ok-widen.ensures.rising c.requires.order c.in_ok-widen.ensures.members

pub returns-clause-leaves : goal.returns-clause-leaves
returns-clause-leaves g c = on_ok_weaker c.put_rows.result (λ same. same ∙ c.in_ok-widen.ensures.leaves) c.put_rows.ensures.leaves

pub returns-clause-indexed : goal.returns-clause-indexed
returns-clause-indexed g c =
    let at = c.args.at in
    let new = c.args.entries.now.items in
    let parts = c.put_rows.new.parts in
    both c.put_rows.result (λ ids indexed.
    subst (λ (is : List ℕ). IsIndexed (entries_with c.args.parts.now.leaves at new) is parts.starts.items parts.rows) (sym ids)
    (subst (λ (d : TermDocument). IsIndexed (entries_with d at new) c.widen.new.parts.ids.items parts.starts.items parts.rows) c.in_ok-widen.ensures.leaves indexed))
    c.put_rows.ensures.ids c.put_rows.ensures.indexed

pub returns-clause-terms : goal.returns-clause-terms
returns-clause-terms g c =
    let old = c.args.parts.now in
    on_ok_weaker c.put_rows.result (λ ids. subst (λ (is : List ℕ). HasTerms (entries_with old.leaves c.args.at c.args.entries.now.items) is) (sym ids)
    (with-terms old.leaves c.args.at c.args.entries.now.items old.ids.items c.widen.new.parts.ids.items c.requires.sound.terms c.in_ok-widen.ensures.rising c.in_ok-widen.ensures.members))
    c.put_rows.ensures.ids
