-- How many documents there are after a change, and which stamps go or change with them.
use Rattle.std.proofs.Common.{◌≡◌, ℕ, suc, ◌+◌, ◌<◌, Bool, true, false, true≢false, cond, ◌||◌, List, [], ◌∷◌, length, refl, sym, ap, ◌∙◌, subst, arith}
use Rattle.std.specs.Prelude.{Option, Some, None, Result, Ok, Err, nat_le, ⊤}
use Rattle.std.specs.List.{remove}
use Rattle.std.specs.Str.{bytes_eq}
use Rattle.std.proofs.lemmas.List.{length-append}
use Rattle.ft_base.specs.Limits.{max_documents}
use Rattle.ft_base.specs.declared.ids.NodeRef.{NodeRef}
use Rattle.ordered_tree.specs.Numbered.{Numbered}
use Rattle.path_meaning.specs.Collection.{Named}
use Rattle.plain_tree.specs.Document.{Node}
use Rattle.document_store.specs.declared.fault.NotEdited.{NotEdited}
use Rattle.document_store.specs.declared.fault.NotLoaded.{NotLoaded}
use Rattle.document_store.specs.declared.fault.NotLoaded.TheVariants as unloaded
use Rattle.document_store.specs.declared.fault.NotRemoved.TheVariants as unremoved
use Rattle.document_store.specs.Documents.{Edit, added, changed_roots, dropped, edited_documents, edited_within, has_name, limit_of, loaded, or_limited, without}
use Rattle.document_store.specs.Targets.{AreTargets, places_of_targets}
use Rattle.stamped_documents.specs.Stamps.{restamped, without_stamp}
use Rattle.stamped_documents.specs.steps.Places.{documents_before}

-- ---- loading

-- after an answer that is no fault there are so many documents
abbrev Counted : {E : Type 0} → ℕ → List Named × Result ⊤ E → Type 0
Counted count (documents, Ok t) = length documents ≡ count
Counted count (documents, Err e) = ⊤

counted-added : (documents : List Named) (name : List ℕ) (read : Result Node NotLoaded) → Counted (length documents + 1) (added documents name read)
counted-added documents name (Err why) = tt
counted-added documents name (Ok root) = length-append documents (record { name = name; root = root } ∷ [])

counted-loaded : (documents : List Named) (name : List ℕ) (read : Result Node NotLoaded) (taken full : Bool)
    → Counted (length documents + 1) (cond taken (documents, Err unloaded.NameTaken) (cond full (documents, Err unloaded.Full) (added documents name read)))
counted-loaded documents name read true full = tt
counted-loaded documents name read false true = tt
counted-loaded documents name read false false = counted-added documents name read

pub loaded-count : (documents after : List Named) (name : List ℕ) (read : Result Node NotLoaded) (t : ⊤) → (after, Ok t) ≡ loaded documents name read → length after ≡ length documents + 1
loaded-count documents after name read t is =
    subst (Counted (length documents + 1)) (sym is) (counted-loaded documents name read (has_name name documents) (nat_le max_documents (length documents)))

-- ---- taking out

-- as many stamps stay as documents
without-lengths : (name : List ℕ) (documents : List Named) (stamps : List ℕ) → length stamps ≡ length documents
    → length (without_stamp name documents stamps) ≡ length (without name documents)
without-lengths name [] stamps same = same
without-lengths name (d ∷ documents) [] same = absurd (omega (arith, same))
without-lengths name (d ∷ documents) (s ∷ stamps) same =
    elim (bytes_eq name d.name) as (λ b. length (cond b stamps (s ∷ without_stamp name documents stamps)) ≡ length (cond b documents (d ∷ without name documents)))
    [ true ↦ omega (arith, same) | false ↦ ap suc (without-lengths name documents stamps (omega (arith, same))) ]

counted-dropped : (documents : List Named) (name : List ℕ) (there : Bool)
    → Counted (length (without name documents)) (cond there (without name documents, Ok tt) (documents, Err unremoved.NoSuchName))
counted-dropped documents name true = refl
counted-dropped documents name false = tt

pub dropped-count : (documents after : List Named) (name stamps : List ℕ) (t : ⊤) → (after, Ok t) ≡ dropped documents name → length stamps ≡ length documents
    → length (without_stamp name documents stamps) ≡ length after
dropped-count documents after name stamps t is same =
    without-lengths name documents stamps same
    ∙ sym (subst (Counted (length (without name documents))) (sym is) (counted-dropped documents name (has_name name documents)))

abbrev There : {E : Type 0} → Bool → List Named × Result ⊤ E → Type 0
There there (documents, Ok t) = there ≡ true
There there (documents, Err e) = ⊤

there-dropped : (documents : List Named) (name : List ℕ) (there : Bool) → There there (cond there (without name documents, Ok tt) (documents, Err unremoved.NoSuchName))
there-dropped documents name true = refl
there-dropped documents name false = tt

-- a document that is taken out was there
pub dropped-there : (documents after : List Named) (name : List ℕ) (t : ⊤) → (after, Ok t) ≡ dropped documents name → has_name name documents ≡ true
dropped-there documents after name t is = subst (There (has_name name documents)) (sym is) (there-dropped documents name (has_name name documents))

-- the stamp that goes is the one at the place of the document
pub without-place : (name : List ℕ) (documents : List Named) (stamps : List ℕ) → length stamps ≡ length documents
    → remove stamps (documents_before name documents) ≡ without_stamp name documents stamps
without-place name [] [] same = refl
without-place name [] (s ∷ stamps) same = absurd (omega (arith, same))
without-place name (d ∷ documents) [] same = absurd (omega (arith, same))
without-place name (d ∷ documents) (s ∷ stamps) same =
    elim (bytes_eq name d.name) as (λ b. remove (s ∷ stamps) (cond b 0 (suc (documents_before name documents))) ≡ cond b stamps (s ∷ without_stamp name documents stamps))
    [ true ↦ refl | false ↦ ap (λ l. s ∷ l) (without-place name documents stamps (omega (arith, same))) ]

pub place-less : (name : List ℕ) (documents : List Named) → has_name name documents ≡ true → documents_before name documents < length documents
place-less name [] has = absurd (true≢false (sym has))
place-less name (d ∷ documents) has =
    elim (bytes_eq name d.name) as (λ b. (b || has_name name documents) ≡ true → cond b 0 (suc (documents_before name documents)) < suc (length documents))
    [ true ↦ λ h. omega arith | false ↦ λ h. omega (arith, place-less name documents h) ] has

-- ---- editing

counted-edited : (edit : Edit) (places : List (List (List ℕ))) (documents : List Named) → length (edited_documents edit places documents) ≡ length documents
counted-edited edit [] documents = refl
counted-edited edit (p ∷ places) [] = refl
counted-edited edit (p ∷ places) (d ∷ documents) = ap suc (counted-edited edit places documents)

counted-limited : (documents after : List Named) (why : Option NotEdited) → length after ≡ length documents → Counted (length documents) (or_limited documents why after)
counted-limited documents after (Some why) same = tt
counted-limited documents after None same = same

pub edited-count : (edit : Edit) (places : List (List (List ℕ))) (documents after : List Named) (t : ⊤) → (after, Ok t) ≡ edited_within edit places documents → length after ≡ length documents
unfolding edited_within
edited-count edit places documents after t is =
    subst (Counted (length documents)) (sym is)
    (counted-limited documents (edited_documents edit places documents) (limit_of (changed_roots edit places documents)) (counted-edited edit places documents))

-- there are elements to edit in a document where they have places
pub restamped-places : (next : ℕ) (trees : List (ℕ × Numbered)) (targets : List (List NodeRef)) (stamps : List ℕ) → AreTargets trees targets
    → restamped next targets stamps ≡ restamped next (places_of_targets trees targets) stamps
restamped-places next [] [] stamps are = refl
restamped-places next [] (refs ∷ targets) stamps are = absurd are
restamped-places next (t ∷ trees) [] stamps are = absurd are
restamped-places next (t ∷ trees) (refs ∷ targets) [] are = refl
restamped-places next (t ∷ trees) ([] ∷ targets) (s ∷ stamps) are = ap (λ l. s ∷ l) (restamped-places (suc next) trees targets stamps are.1)
restamped-places next (t ∷ trees) ((r ∷ refs) ∷ targets) (s ∷ stamps) are = ap (λ l. next ∷ l) (restamped-places (suc next) trees targets stamps are.1)
