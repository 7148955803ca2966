-- Documents that stand beside their names.
use Rattle.std.proofs.Common.{◌≡◌, ◌∙◌, sym, ap, refl, ℕ, zero, suc, ◌+◌, ◌-◌, ◌<◌, ◌≤◌, arith, ap₂, length-append, take, Bool, true, false, cond, not, List, [], ◌∷◌, ◌++◌, length, drop, get_or, Some, None, inl, inr}
use Rattle.std.specs.Prelude.{min, nat_lt, position, remove, slice_set}
use Rattle.std.specs.List.{list_any, position_or_len, zip}
use Rattle.std.specs.Map.{lookup, remove_entry}
use Rattle.std.proofs.lemmas.Bool.{cases_Bool, ltb-false, ltb-true, or_from}
use Rattle.std.proofs.lemmas.List.{drop_more, length-drop, length-take}
use Rattle.std.proofs.lemmas.Slice.Zip.{get_or-zip}
use Rattle.indexmap.specs.IndexMap.{set_value_at}
use Rattle.document_store.specs.Loaded.{LoadedTree}

abbrev Names : Type 0
Names = List (List ℕ)

abbrev Loaded : Type 0
Loaded = List LoadedTree

pub length-beside : (names : Names) (docs : Loaded) → length docs ≡ length names → length (zip names docs) ≡ length names
length-beside [] docs same = refl
length-beside (n ∷ ns) [] same = absurd (omega (arith, same))
length-beside (n ∷ ns) (d ∷ ds) same = ap suc (length-beside ns ds (omega (arith, same)))

-- the document at a place, with its name
pub entry-at : (names : Names) (docs : Loaded) (at : ℕ) (name : List ℕ) (doc : LoadedTree) → length docs ≡ length names → at < length names
    → name ≡ get_or names at name → doc ≡ get_or docs at doc → drop at (zip names docs) ≡ (name, doc) ∷ drop (at + 1) (zip names docs)
entry-at names docs at name doc same there is_name is_doc =
    let long = length-beside names docs same in
    drop_more (zip names docs) at (name, doc) (omega (arith, there, long))
    ∙ ap (λ e. e ∷ drop (at + 1) (zip names docs))
    (get_or-zip names docs at (name, doc) there (omega (arith, there, same))
    ∙ (ap (λ n. (n, get_or docs at doc)) (sym is_name) ∙ ap (λ d. (name, d)) (sym is_doc)))

-- as many are left where one goes
pub fewer-beside : (names : Names) (docs : Loaded) (at : ℕ) → length docs ≡ length names → length (remove docs at) ≡ length (remove names at)
fewer-beside names docs at same = parts docs ∙ (ap (λ n. min at n + (n - suc at)) same ∙ sym (parts names))
  where
    parts : {X : Type 0} (xs : List X) → length (remove xs at) ≡ min at (length xs) + (length xs - suc at)
    parts xs = length-append (take at xs) (drop (suc at) xs) ∙ ap₂ (λ a b. a + b) (length-take at xs) (length-drop (suc at) xs)

-- one more
pub more-beside : (names : Names) (docs : Loaded) (name : List ℕ) (doc : LoadedTree) → length docs ≡ length names
    → zip (names ++ name ∷ []) (docs ++ doc ∷ []) ≡ zip names docs ++ (name, doc) ∷ []
more-beside [] [] name doc same = refl
more-beside [] (d ∷ ds) name doc same = absurd (omega (arith, same))
more-beside (n ∷ ns) [] name doc same = absurd (omega (arith, same))
more-beside (n ∷ ns) (d ∷ ds) name doc same = ap (λ es. (n, d) ∷ es) (more-beside ns ds name doc (omega (arith, same)))

-- another document in a place
pub set-beside : (names : Names) (docs : Loaded) (at : ℕ) (doc : LoadedTree) → zip names (slice_set docs at doc) ≡ set_value_at (zip names docs) at doc
set-beside [] docs at doc = refl
set-beside (n ∷ ns) [] at doc = refl
set-beside (n ∷ ns) (d ∷ ds) zero doc = refl
set-beside (n ∷ ns) (d ∷ ds) (suc at) doc = ap (λ es. (n, d) ∷ es) (set-beside ns ds at doc)

module _ (test : List ℕ → Bool) where
  abbrev first : Names → ℕ
  first names = position_or_len test names

  first-here : (n : List ℕ) (ns : Names) → test n ≡ true → first (n ∷ ns) ≡ 0
  first-here n ns is = ap (λ b. cond (not b) (1 + first ns) 0) is

  first-later : (n : List ℕ) (ns : Names) → test n ≡ false → first (n ∷ ns) ≡ suc (first ns)
  first-later n ns is = ap (λ b. cond (not b) (1 + first ns) 0) is ∙ omega arith

  found-first : (names : Names) (at : ℕ) → position test names ≡ Some at → (first names ≡ at) × (at < length names)
  found-first names at is = elim (cases_Bool (nat_lt (first names) (length names))) [
    | inl less ↦
        let found : Some (first names) ≡ Some at = sym (ap (λ b. cond b (Some (first names)) None) less) ∙ is in
        let one : first names ≡ at = cc in
        let within = ltb-true (first names) (length names) less in
        (one, omega (arith, one, within))
    | inr more ↦ let found : None ≡ Some at = sym (ap (λ b. cond b (Some (first names)) None) more) ∙ is in let no : ⊥ = cc in absurd no
  ]

  none-first : (names : Names) → position test names ≡ None → length names ≤ first names
  none-first names is = elim (cases_Bool (nat_lt (first names) (length names))) [
    | inl less ↦ let found : Some (first names) ≡ None = sym (ap (λ b. cond b (Some (first names)) None) less) ∙ is in let no : ⊥ = cc in absurd no
    | inr more ↦ ltb-false (first names) (length names) more
  ]

  lookup-first : (names : Names) (docs : Loaded) (doc : LoadedTree) → length docs ≡ length names → first names < length names
      → lookup test (zip names docs) ≡ Some (get_or docs (first names) doc)
  lookup-first [] docs doc same less = absurd (omega (arith, less))
  lookup-first (n ∷ ns) [] doc same less = absurd (omega (arith, same))
  lookup-first (n ∷ ns) (d ∷ ds) doc same less = elim (cases_Bool (test n)) [
    | inl is ↦ ap (λ b. cond b (Some d) (lookup test (zip ns ds))) is ∙ ap (λ k. Some (get_or (d ∷ ds) k doc)) (sym (first-here n ns is))
    | inr is ↦
        let later = first-later n ns is in
        ap (λ b. cond b (Some d) (lookup test (zip ns ds))) is
        ∙ (lookup-first ns ds doc (omega (arith, same)) (omega (arith, less, later)) ∙ ap (λ k. Some (get_or (d ∷ ds) k doc)) (sym later))
  ]

  lookup-nowhere : (names : Names) (docs : Loaded) → length names ≤ first names → lookup test (zip names docs) ≡ None
  lookup-nowhere [] docs least = refl
  lookup-nowhere (n ∷ ns) [] least = refl
  lookup-nowhere (n ∷ ns) (d ∷ ds) least = elim (cases_Bool (test n)) [
    | inl is ↦ let here = first-here n ns is in absurd (omega (arith, least, here))
    | inr is ↦ let later = first-later n ns is in ap (λ b. cond b (Some d) (lookup test (zip ns ds))) is ∙ lookup-nowhere ns ds (omega (arith, least, later))
  ]

  removed-first : (names : Names) (docs : Loaded) → length docs ≡ length names → first names < length names
      → remove_entry test (zip names docs) ≡ zip (remove names (first names)) (remove docs (first names))
  removed-first [] docs same less = absurd (omega (arith, less))
  removed-first (n ∷ ns) [] same less = absurd (omega (arith, same))
  removed-first (n ∷ ns) (d ∷ ds) same less = elim (cases_Bool (test n)) [
    | inl is ↦ ap (λ b. cond b (zip ns ds) ((n, d) ∷ remove_entry test (zip ns ds))) is ∙ ap (λ k. zip (remove (n ∷ ns) k) (remove (d ∷ ds) k)) (sym (first-here n ns is))
    | inr is ↦
        let later = first-later n ns is in
        ap (λ b. cond b (zip ns ds) ((n, d) ∷ remove_entry test (zip ns ds))) is
        ∙ (ap (λ es. (n, d) ∷ es) (removed-first ns ds (omega (arith, same)) (omega (arith, less, later)))
        ∙ ap (λ k. zip (remove (n ∷ ns) k) (remove (d ∷ ds) k)) (sym later))
  ]

  kept-nowhere : (names : Names) (docs : Loaded) → length names ≤ first names → remove_entry test (zip names docs) ≡ zip names docs
  kept-nowhere [] docs least = refl
  kept-nowhere (n ∷ ns) [] least = refl
  kept-nowhere (n ∷ ns) (d ∷ ds) least = elim (cases_Bool (test n)) [
    | inl is ↦ let here = first-here n ns is in absurd (omega (arith, least, here))
    | inr is ↦
        let later = first-later n ns is in
        ap (λ b. cond b (zip ns ds) ((n, d) ∷ remove_entry test (zip ns ds))) is ∙ ap (λ es. (n, d) ∷ es) (kept-nowhere ns ds (omega (arith, least, later)))
  ]

  -- the look-up of a name by its place among the names
  pub found-beside : (names : Names) (docs : Loaded) (at : ℕ) (doc : LoadedTree) → length docs ≡ length names → position test names ≡ Some at → doc ≡ get_or docs at doc
      → Some doc ≡ lookup test (zip names docs)
  found-beside names docs at doc same is there =
      let found = found-first names at is in
      let less = found.1 in
      let one = found.0 in
      sym (lookup-first names docs doc same (omega (arith, less, one)) ∙ ap (λ k. Some (get_or docs k doc)) one ∙ ap Some (sym there))

  pub nowhere-beside : (names : Names) (docs : Loaded) → position test names ≡ None → None ≡ lookup test (zip names docs)
  nowhere-beside names docs is = sym (lookup-nowhere names docs (none-first names is))

  -- the documents without the one of the name
  pub removed-beside : (names : Names) (docs : Loaded) (at : ℕ) → length docs ≡ length names → position test names ≡ Some at
      → zip (remove names at) (remove docs at) ≡ remove_entry test (zip names docs)
  removed-beside names docs at same is =
      let found = found-first names at is in
      let less = found.1 in
      let one = found.0 in
      sym (removed-first names docs same (omega (arith, less, one)) ∙ ap (λ k. zip (remove names k) (remove docs k)) one)

  pub kept-beside : (names : Names) (docs : Loaded) → position test names ≡ None → zip names docs ≡ remove_entry test (zip names docs)
  kept-beside names docs is = sym (kept-nowhere names docs (none-first names is))

  -- a name that no document has
  pub none-among : (names : Names) (docs : Loaded) → length docs ≡ length names → lookup test (zip names docs) ≡ None → list_any test names ≡ false
  none-among [] docs same is = refl
  none-among (n ∷ ns) [] same is = absurd (omega (arith, same))
  none-among (n ∷ ns) (d ∷ ds) same is = elim (cases_Bool (test n)) [
    | inl here ↦ let found : Some d ≡ None = sym (ap (λ b. cond b (Some d) (lookup test (zip ns ds))) here) ∙ is in let no : ⊥ = cc in absurd no
    | inr other ↦
        or_from (test n) (list_any test ns) other
        (none-among ns ds (omega (arith, same)) (sym (ap (λ b. cond b (Some d) (lookup test (zip ns ds))) other) ∙ is))
  ]
