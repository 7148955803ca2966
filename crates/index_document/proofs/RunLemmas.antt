-- The rows of all terms, where those of one term change.
use Rattle.std.proofs.Common.{◌≡◌, ℕ, ◌+◌, ◌<◌, suc, List, [], ◌∷◌, ◌++◌, length, get_or, take, drop, map, ap, sym, ◌∙◌, arith, append_assoc, append-nil, drop-cons}
use Rattle.std.proofs.lemmas.List.{map_more, take-map}
use Rattle.std.proofs.lemmas.List.Concat.{flat_map-append}
use Rattle.postings.specs.declared.row.Row.{Row}
use Rattle.shared_list.specs.Blocks.{joined, start_of, starts_from}
use Rattle.shared_list.proofs.StartLemmas.{push-starts}

pub joined-push : {T : Type 0} (blocks : List (List T)) (new : List T) → joined (blocks ++ new ∷ []) ≡ joined blocks ++ new
joined-push {T = T} blocks new = flat_map-append (λ (b : List T). b) blocks (new ∷ []) ∙ ap (λ xs. joined blocks ++ xs) (append-nil new)

-- the rows of the terms before a place, as one function gives them, and of those from the place on, as another does
abbrev pub half_done : (ℕ → List Row) → (ℕ → List Row) → List ℕ → ℕ → List Row
half_done new old ids k = joined (map new (take k ids)) ++ joined (map old (drop k ids))

module _ (new old : ℕ → List Row) (ids : List ℕ) (k : ℕ) (there : k < length ids) where
  abbrev term : ℕ
  term = get_or ids k 0

  pub rest-is : drop k ids ≡ term ∷ drop (k + 1) ids
  rest-is = let n : k + 1 ≡ suc k = omega arith in drop-cons ids k 0 there ∙ ap (λ i. term ∷ drop i ids) (sym n)

  pub next-run : half_done new old ids k ≡ joined (map new (take k ids)) ++ (old term ++ joined (map old (drop (k + 1) ids)))
  next-run = ap (λ rest. joined (map new (take k ids)) ++ joined (map old rest)) rest-is

  pub done-run : joined (map new (take (k + 1) ids)) ≡ joined (map new (take k ids)) ++ new term
  done-run = ap joined (map_more new ids k 0 there) ∙ joined-push (map new (take k ids)) (new term)

  pub run-done : joined (map new (take k ids)) ++ (new term ++ joined (map old (drop (k + 1) ids))) ≡ half_done new old ids (k + 1)
  run-done = sym (append_assoc (joined (map new (take k ids))) (new term) (joined (map old (drop (k + 1) ids))))
      ∙ ap (λ rows. rows ++ joined (map old (drop (k + 1) ids))) (sym done-run)

  pub starts-more : (starts : List ℕ) (first : ℕ) → starts ≡ starts_from 0 (map new (take k ids)) → first ≡ length (joined (map new (take k ids))) →
      starts ++ first ∷ [] ≡ starts_from 0 (map new (take (k + 1) ids))
  starts-more starts first are is = push-starts (map new (take k ids)) starts first (new term) are is ∙ ap (λ runs. starts_from 0 runs) (sym (map_more new ids k 0 there))

pub start-is : (old : ℕ → List Row) (ids : List ℕ) (k : ℕ) → start_of (map old ids) k ≡ length (joined (map old (take k ids)))
start-is old ids k = ap (λ runs. length (joined runs)) (take-map old k ids)
