-- What is planned for documents, one after the other, is what an edit makes of all.
use Rattle.std.proofs.Common.{◌≡◌, ◌∙◌, subst, sym, ap, refl, ℕ, ◌+◌, ◌<◌, ◌≤◌, arith, true, false, true≢false, Bool, not, ◌||◌, All, List, [], ◌∷◌, ◌++◌, length, drop, get_or, nat_le, append_assoc, append-nil, sum_by, Option, Some, None}
use Rattle.std.specs.List.{list_any}
use Rattle.std.proofs.lemmas.Bool.{le-leb, leb-true, or_left}
use Rattle.std.proofs.lemmas.List.{drop_all, drop_more, length-drop}
use Rattle.std.proofs.lemmas.List.Sums.{sum_by-cons}
use Rattle.document_edits.specs.Targets.{places_of}
use Rattle.ft_base.specs.Lists.{is_empty}
use Rattle.ft_base.specs.declared.ids.NodeRef.{NodeRef}
use Rattle.path_nodes.specs.References.{IsElement}
use Rattle.tree_edits.specs.declared.drafts.Draft.{Draft}
use Rattle.document_store.specs.Documents.{Edit}
use Rattle.document_store.specs.Loaded.{LoadedTree, trees_of}
use Rattle.document_store.specs.Targets.{AreTargets, places_of_targets}
use Rattle.document_store.specs.declared.planning.Planned.{Planned}
use Rattle.document_store.specs.steps.Planning.{ArePlanned, IsDraftOf}

abbrev Entry : Type 0
Entry = List ℕ × LoadedTree

abbrev Entries : Type 0
Entries = List (List ℕ × LoadedTree)

abbrev Lists : Type 0
Lists = List (List NodeRef)

abbrev places : Entries → Lists → List (List (List ℕ))
places entries lists = places_of_targets (trees_of entries) lists

-- ---- what is asked of all holds of each

pub fewer : (k n : ℕ) (other : Bool) → k ≤ n → (nat_le n 1 || other) ≡ true → (nat_le k 1 || other) ≡ true
fewer k n true less few = or_right_true (nat_le k 1)
  where
    or_right_true : (b : Bool) → (b || true) ≡ true
    or_right_true true = refl
    or_right_true false = refl
fewer k n false less few = let at_most : n ≤ 1 = leb-true n 1 (or_none (nat_le n 1) few) in or_left (nat_le k 1) false (le-leb k 1 (omega (arith, less, at_most)))
  where
    or_none : (b : Bool) → (b || false) ≡ true → b ≡ true
    or_none true is = refl
    or_none false is = is

pub stays-parts : (stays a b : Bool) → (stays || not (a || b)) ≡ true → ((stays || not a) ≡ true) × ((stays || not b) ≡ true)
stays-parts true a b is = (refl, refl)
stays-parts false true b is = absurd (true≢false (sym is))
stays-parts false false true is = absurd (true≢false (sym is))
stays-parts false false false is = (refl, refl)

-- there are as many lists of references as documents
pub as-many : (entries : Entries) (lists : Lists) → AreTargets (trees_of entries) lists → length lists ≡ length entries
as-many [] [] there = refl
as-many [] (refs ∷ lists) there = absurd there
as-many (e ∷ es) [] there = absurd there
as-many (e ∷ es) (refs ∷ lists) there = let later = as-many es lists there.1 in omega (arith, later)

-- ---- the draft of one document

-- ---- one document after the other

module _ (edit : Edit) (all : Entries) (lists : Lists) (stays empty : Bool) where
  -- The drafts so far, and those of the documents that are left, are those of all.
  pub record Planning (at : ℕ) (done : List Planned) (rest : Entries) (left : Lists) : Type 0 where
    pub planned : (ps : List Planned) → ArePlanned edit at rest left ps → ArePlanned edit 0 all lists (done ++ ps)
    pub there : AreTargets (trees_of rest) left
    pub once : (nat_le (sum_by length left) 1 || empty) ≡ true
    pub inner : (stays || not (list_any (list_any is_empty) (places rest left))) ≡ true

  -- what is asked of one document
  pub record AskedOf (entry : Entry) (refs : List NodeRef) : Type 0 where
    pub there : All (IsElement entry.1.tree.root) refs
    pub once : (nat_le (length refs) 1 || empty) ≡ true
    pub inner : (stays || not (list_any is_empty (places_of entry.1.tree.root refs))) ≡ true

  pub planning-asked : (at : ℕ) (done : List Planned) (e : Entry) (es : Entries) (refs : List NodeRef) (left : Lists) → Planning at done (e ∷ es) (refs ∷ left) → AskedOf e refs
  planning-asked at done e es refs left held = record {
    there = held.there.0;
    once = fewer (length refs) (sum_by length (refs ∷ left)) empty (let sum = sum_by-cons length refs left in omega (arith, sum)) held.once;
    inner = (stays-parts stays (list_any is_empty (places_of e.1.tree.root refs)) (list_any (list_any is_empty) (places es left)) held.inner).0;
  }

  planning-by : (at : ℕ) (done done' : List Planned) (e : Entry) (es : Entries) (refs : List NodeRef) (left : Lists) → Planning at done (e ∷ es) (refs ∷ left)
      → ((ps : List Planned) → ArePlanned edit (at + 1) es left ps → ArePlanned edit 0 all lists (done' ++ ps)) → Planning (at + 1) done' es left
  planning-by at done done' e es refs left held planned = record {
    planned = planned;
    there = held.there.1;
    once = fewer (sum_by length left) (sum_by length (refs ∷ left)) empty (let sum = sum_by-cons length refs left in omega (arith, sum)) held.once;
    inner = (stays-parts stays (list_any is_empty (places_of e.1.tree.root refs)) (list_any (list_any is_empty) (places es left)) held.inner).1;
  }

  -- nothing is planned for a document without references
  planning-less : (at : ℕ) (done : List Planned) (e : Entry) (es : Entries) (refs : List NodeRef) (left : Lists) → Planning at done (e ∷ es) (refs ∷ left)
      → IsDraftOf edit e.1.tree.root refs None → Planning (at + 1) done es left
  planning-less at done e es [] left held none = planning-by at done done e es [] left held (λ ps later. held.planned ps later)
  planning-less at done e es (r ∷ refs) left held none = absurd none

  planning-more : (at : ℕ) (done : List Planned) (e : Entry) (es : Entries) (refs : List NodeRef) (left : Lists) (p : Planned) → Planning at done (e ∷ es) (refs ∷ left)
      → p.at ≡ at → IsDraftOf edit e.1.tree.root refs (Some p.draft) → Planning (at + 1) (done ++ p ∷ []) es left
  planning-more at done e es [] left p held here made = let no : ⊥ = cc in absurd no
  planning-more at done e es (r ∷ refs) left p held here made =
      planning-by at done (done ++ p ∷ []) e es (r ∷ refs) left held
      (λ ps later. subst (ArePlanned edit 0 all lists) (sym (append_assoc done (p ∷ []) ps)) (held.planned (p ∷ ps) (here, (made, later))))

  -- ---- the same by places

  module _ (at : ℕ) (done : List Planned) (e : Entry) (held : Planning at done (drop at all) (drop at lists)) (next : drop at all ≡ e ∷ drop (at + 1) all) where
    pub list-there : at < length lists
    list-there =
        let some : length (drop at lists) ≡ length (e ∷ drop (at + 1) all) = as-many (drop at all) (drop at lists) held.there ∙ ap length next in
        let long = length-drop at lists in
        omega (arith, some, long)

    module _ (refs : List NodeRef) (chosen : refs ≡ get_or lists at refs) where
      here : Planning at done (e ∷ drop (at + 1) all) (refs ∷ drop (at + 1) lists)
      here =
          subst (λ l. Planning at done (e ∷ drop (at + 1) all) l) (drop_more lists at refs list-there ∙ ap (λ r. r ∷ drop (at + 1) lists) (sym chosen))
          (subst (λ r. Planning at done r (drop at lists)) next held)

      pub next-asked : AskedOf e refs
      next-asked = planning-asked at done e (drop (at + 1) all) refs (drop (at + 1) lists) here

      pub next-less : (draft : Option Draft) → draft ≡ None → IsDraftOf edit e.1.tree.root refs draft → Planning (at + 1) done (drop (at + 1) all) (drop (at + 1) lists)
      next-less draft none made =
          planning-less at done e (drop (at + 1) all) refs (drop (at + 1) lists) here (subst (IsDraftOf edit e.1.tree.root refs) none made)

      pub next-more : (draft : Option Draft) (p : Planned) → p.at ≡ at → draft ≡ Some p.draft → IsDraftOf edit e.1.tree.root refs draft
          → Planning (at + 1) (done ++ p ∷ []) (drop (at + 1) all) (drop (at + 1) lists)
      next-more draft p place some made =
          planning-more at done e (drop (at + 1) all) refs (drop (at + 1) lists) p here place (subst (IsDraftOf edit e.1.tree.root refs) some made)

  pub planning-last : (at : ℕ) (done : List Planned) → Planning at done (drop at all) (drop at lists) → length all ≤ at → ArePlanned edit 0 all lists done
  planning-last at done held end =
      subst (ArePlanned edit 0 all lists) (append-nil done) (held.planned [] (subst (λ es. ArePlanned edit at es (drop at lists) []) (sym (drop_all at all end)) refl))
