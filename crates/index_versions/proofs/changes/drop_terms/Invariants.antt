-- The ids from the next one on are still there, and without them the dictionary has what it has in the end.
use Rattle.std.proofs.Common.{◌≡◌, ℕ, ◌&&◌, not, true, drop}
use Rattle.index_document.specs.Terms.{are_distinct, has}
use Rattle.index_meaning.specs.Dictionaries.{ids}
use Rattle.index_versions.proofs.changes.drop_terms.Given as goal

abbrev pub invariant-loop-id : goal.invariant-loop-id
invariant-loop-id l = record {
  distinct : are_distinct (drop l.id-index l.fallen.items) ≡ true;
  there : (id : ℕ) → has id (drop l.id-index l.fallen.items) ≡ true → has id (ids l.dictionary.terms) ≡ true;
  left : (id : ℕ) → (not (has id (drop l.id-index l.fallen.items)) && has id (ids l.dictionary.terms)) ≡ (not (has id l.fallen.items) && has id (ids l.fn.dictionary.terms));
  given : l.dictionary.given ≡ l.fn.dictionary.given;
}
