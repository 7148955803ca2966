-- The rows of a document's terms are as many as its words, and there is room for those that come.
use Rattle.std.proofs.Common.{◌≡◌, ℕ, ◌+◌, ◌<◌, ◌≤◌, true, true≢false, List, [], ◌∷◌, ◌++◌, length, get_or, take, drop, map, refl, ap, sym, ◌∙◌, arith, inl, inr, length-append}
use Rattle.std.proofs.lemmas.Bool.{cases_eq}
use Rattle.std.proofs.lemmas.List.{length-map}
use Rattle.ft_base.specs.Places.{is_ascending}
use Rattle.ft_base.proofs.PlacesLemmas.{rest-ascending}
use Rattle.postings.specs.declared.row.Row.{Row}
use Rattle.shared_list.specs.Blocks.{joined}
use Rattle.index_document.specs.declared.entry.Entry.{Entry}
use Rattle.index_document.specs.Terms.{has, words_of}
use Rattle.index_document.specs.Rows.{HasTerms, IsSound, entries_of, of_term, row_of, rows_of, runs_of}
use Rattle.index_document.specs.declared.parts.Parts.{Parts}
use Rattle.index_document.specs.steps.Groups.{grouped, term_of}
use Rattle.index_document.proofs.EntryLemmas.{grouped-other, has-rows, of_term-here, of_term-other}
use Rattle.index_document.proofs.RunLemmas.{half_done, next-run}
use Rattle.index_document.proofs.SoundLemmas.{all-count}
use Rattle.index_document.proofs.StepLemmas.{IsHalfDone}
use Rattle.index_document.proofs.TermLemmas.{has-head, has-other, not-in-rest}

-- ---- as many as words

one-more : (ids : List ℕ) (e : Entry) (es : List Entry) → is_ascending ids ≡ true → has e.term ids ≡ true → length (grouped ids (e ∷ es)) ≡ 1 + length (grouped ids es)
one-more [] e es up there = absurd (true≢false (sym there))
one-more (u ∷ ids) e es up there = elim (cases_eq u e.term) [
  | inl same ↦ omega (
    arith,
    length-append (of_term u (e ∷ es)) (grouped ids (e ∷ es)),
    length-append (of_term u es) (grouped ids es),
    ap length (of_term-here u e es (sym same)),
    ap length (grouped-other ids e es (not-in-rest u e.term ids up (omega (arith, same)))),
  )
  | inr other ↦ omega (
    arith,
    length-append (of_term u (e ∷ es)) (grouped ids (e ∷ es)),
    length-append (of_term u es) (grouped ids es),
    ap length (of_term-other u e es (λ same. other (sym same))),
    one-more ids e es (rest-ascending u ids up) (sym (has-other u e.term ids other) ∙ there),
  )
]

grouped-none : (ids : List ℕ) → length (grouped ids []) ≡ 0
grouped-none [] = refl
grouped-none (u ∷ ids) = grouped-none ids

grouped-count : (ids : List ℕ) (es : List Entry) → is_ascending ids ≡ true → ((t : ℕ) → has t (map term_of es) ≡ true → has t ids ≡ true) → length (grouped ids es) ≡ length es
grouped-count ids [] up there = grouped-none ids
grouped-count ids (e ∷ es) up there =
    let first = has-head e.term e.term (map term_of es) refl in
    let rest = grouped-count ids es up (λ t h. there t (later t h)) in
    omega (arith, one-more ids e es up (there e.term first), rest)
  where
    later : (t : ℕ) → has t (map term_of es) ≡ true → has t (map term_of (e ∷ es)) ≡ true
    later t h = elim (cases_eq e.term t) [
      | inl same ↦ has-head e.term t (map term_of es) same
      | inr other ↦ has-other e.term t (map term_of es) other ∙ h
    ]

runs-count : (ids : List ℕ) (es : List Entry) → length (joined (runs_of es ids)) ≡ length (grouped ids es)
runs-count [] es = refl
runs-count (u ∷ ids) es = omega (
  arith,
  length-append (rows_of u es) (joined (runs_of es ids)),
  length-append (of_term u es) (grouped ids es),
  length-map (of_term u es) row_of,
  runs-count ids es,
)

pub rows-count : (parts : Parts) → IsSound parts → length parts.rows ≡ length (words_of parts.leaves.leaves)
rows-count parts sound =
    let all = entries_of parts.leaves in
    let ids = parts.ids.items in
    ap length sound.indexed.rows_are
    ∙ runs-count ids all
    ∙ grouped-count ids all sound.terms.rising (λ t h. sound.terms.members t ∙ (has-rows t all ∙ h))
    ∙ all-count parts.leaves.leaves

-- ---- room for those that come

-- the rows before those of the next term, and these, with as many as have come, are no more than there are then
pub half-room : (old new : ℕ → List Row) (all : List Entry) (ids : List ℕ) (k next : ℕ) (rows : List Row) (starts : List ℕ) →
    IsHalfDone old new new old all ids k next rows starts → k < length ids →
    length (joined (map old (take k ids))) + length (old (get_or ids k 0)) + next ≤ length rows
half-room old new all ids k next rows starts state there =
    let before = joined (map new (take k ids)) in
    let after = joined (map old (drop (k + 1) ids)) in
    omega (
      arith,
      state.lengths,
      ap length (state.rows_are ∙ next-run new old ids k there),
      length-append before (old (get_or ids k 0) ++ after),
      length-append (old (get_or ids k 0)) after,
    )
