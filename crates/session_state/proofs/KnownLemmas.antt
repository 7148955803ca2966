-- What kept answers know of documents stays right when documents come, go, change or get new stamps.
use Rattle.std.proofs.Common.{◌≡◌, ◌∙◌, sym, ap, refl, subst, ℕ, suc, ◌<◌, ◌≤◌, true, false, cond, List, [], ◌∷◌, ◌++◌, length, arith}
use Rattle.std.specs.Prelude.{nat_eq, Option, Some, None, is_some, unwrap_or}
use Rattle.std.specs.Cmp.{nat_eq_equiv}
use Rattle.std.specs.List.{flat_map, sum_by, AllByRecursion, IsDistinct}
use Rattle.std.specs.Str.{bytes_eq}
use Rattle.std.proofs.lemmas.Bool.{eq-eqb, ne_eqb}
use Rattle.std.proofs.lemmas.List.Sums.{sum_by-cons}
use Rattle.std.proofs.lemmas.Map.Keys.{IsDistinct-head, IsDistinct-tail}
use Rattle.document_store.specs.Documents.{edited_documents, without, Edit}
use Rattle.path_meaning.specs.Collection.{Named}
use Rattle.stamped_documents.specs.Stamps.{renewed, restamped, without_stamp}
use Rattle.standing_queries.specs.Answers.{all_lines, answers_of, kept_under, stamps_of, Answers}
use Rattle.session_state.specs.Standings.{answers_now, unknown_price, AreKnown, AreThose}
use Rattle.session_state.specs.steps.Turns.{turns_now}

-- ---- stamps that no answer has

-- each stamp of answers is below this number
abbrev pub Below : ℕ → Answers → Type 0
Below next kept = AllByRecursion (λ a. a.0 < next) kept

-- each stamp is this number or above it
abbrev pub AtLeast : ℕ → List ℕ → Type 0
AtLeast next stamps = AllByRecursion (λ s. next ≤ s) stamps

pub below-more : (next more : ℕ) (kept : Answers) → next ≤ more → Below next kept → Below more kept
below-more next more [] le below = tt
below-more next more (a ∷ kept) le below = (omega (arith, le, below.0), below-more next more kept le below.1)

pub not-kept : (stamp next : ℕ) (kept : Answers) → next ≤ stamp → Below next kept → kept_under stamp kept ≡ None
not-kept stamp next [] le below = refl
not-kept stamp next (a ∷ kept) le below =
    ap (λ t. cond t (Some a.1) (kept_under stamp kept)) (ne_eqb stamp a.0 (λ same. omega (arith, le, below.0, same)))
    ∙ not-kept stamp next kept le below.1

-- nothing is known under them
those-none : (kept : Option (List (List ℕ))) (lines : List (List ℕ)) → kept ≡ None → AreThose kept lines
those-none kept lines none = subst (λ o. AreThose o lines) (sym none) tt

module _ (kept : Answers) (lines : Named → List (List ℕ)) where
  pub known-new : (next : ℕ) (stamps : List ℕ) (documents : List Named) → Below next kept → AtLeast next stamps → AreKnown kept lines stamps documents
  known-new next [] documents below new = tt
  known-new next (s ∷ stamps) [] below new = tt
  known-new next (s ∷ stamps) (d ∷ documents) below new =
      (those-none (kept_under s kept) (lines d) (not-kept s next kept new.0 below), known-new next stamps documents below new.1)

  -- a document comes after the others
  pub known-more : (next : ℕ) (stamps : List ℕ) (documents : List Named) (d : Named) → length stamps ≡ length documents → Below next kept → AreKnown kept lines stamps documents
      → AreKnown kept lines (stamps ++ next ∷ []) (documents ++ d ∷ [])
  known-more next [] [] d same below known = (those-none (kept_under next kept) (lines d) (not-kept next next kept (omega arith) below), tt)
  known-more next [] (x ∷ documents) d same below known = absurd (omega (arith, same))
  known-more next (s ∷ stamps) [] d same below known = absurd (omega (arith, same))
  known-more next (s ∷ stamps) (x ∷ documents) d same below known = (known.0, known-more next stamps documents d (omega (arith, same)) below known.1)

  -- the document of a name goes
  pub known-less : (name : List ℕ) (stamps : List ℕ) (documents : List Named) → AreKnown kept lines stamps documents
      → AreKnown kept lines (without_stamp name documents stamps) (without name documents)
  known-less name [] [] known = tt
  known-less name [] (d ∷ documents) known = tt
  known-less name (s ∷ stamps) [] known = tt
  known-less name (s ∷ stamps) (d ∷ documents) known =
      elim (bytes_eq name d.name) as (λ t. AreKnown kept lines (cond t stamps (s ∷ without_stamp name documents stamps)) (cond t documents (d ∷ without name documents)))
      [ true ↦ known.1 | false ↦ (known.0, known-less name stamps documents known.1) ]

  -- documents are edited: of each either there is nothing to edit, and it stays with its stamp, or its stamp is new
  pub known-edited : (next n : ℕ) (edit : Edit) (places : List (List (List ℕ))) (stamps : List ℕ) (documents : List Named) → next ≤ n → Below next kept
      → AreKnown kept lines stamps documents → AreKnown kept lines (restamped n places stamps) (edited_documents edit places documents)
  known-edited next n edit [] stamps documents le below known = known
  known-edited next n edit (p ∷ places) [] documents le below known = tt
  known-edited next n edit (p ∷ places) (s ∷ stamps) [] le below known = tt
  known-edited next n edit ([] ∷ places) (s ∷ stamps) (d ∷ documents) le below known =
      (known.0, known-edited next (suc n) edit places stamps documents (omega (arith, le)) below known.1)
  known-edited next n edit ((x ∷ p) ∷ places) (s ∷ stamps) (d ∷ documents) le below known =
      (those-none (kept_under n kept) (lines _) (not-kept n next kept le below), known-edited next (suc n) edit places stamps documents (omega (arith, le)) below known.1)

-- all stamps are new
pub renewed-new : (next n : ℕ) (stamps : List ℕ) → next ≤ n → AtLeast next (renewed n stamps)
renewed-new next n [] le = tt
renewed-new next n (s ∷ stamps) le = (le, renewed-new next (suc n) stamps (omega (arith, le)))

-- ---- the answers of now

module _ (lines : Named → List (List ℕ)) where
  pub nothing-known : (stamps : List ℕ) (documents : List Named) → AreKnown [] lines stamps documents
  nothing-known [] documents = tt
  nothing-known (s ∷ stamps) [] = tt
  nothing-known (s ∷ stamps) (d ∷ documents) = (tt, nothing-known stamps documents)

  pub below-now : (next : ℕ) (stamps : List ℕ) (documents : List Named) → AllByRecursion (λ s. s < next) stamps → Below next (answers_now lines stamps documents)
  below-now next [] documents below = tt
  below-now next (s ∷ stamps) [] below = tt
  below-now next (s ∷ stamps) (d ∷ documents) below = (below.0, below-now next stamps documents below.1)

  -- what other answers know, those with one more under another stamp know
  known-further : (stamp : ℕ) (first : List (List ℕ)) (kept : Answers) (stamps : List ℕ) (documents : List Named) → AllByRecursion (λ s. nat_eq stamp s ≡ false) stamps
      → AreKnown kept lines stamps documents → AreKnown ((stamp, first) ∷ kept) lines stamps documents
  known-further stamp first kept [] documents apart known = tt
  known-further stamp first kept (s ∷ stamps) [] apart known = tt
  known-further stamp first kept (s ∷ stamps) (d ∷ documents) apart known = (
    subst (λ o. AreThose o (lines d)) (sym (ap (λ t. cond t (Some first) (kept_under s kept)) (nat_eq_equiv.symm s stamp ∙ apart.0))) known.0,
    known-further stamp first kept stamps documents apart.1 known.1,
  )

  pub known-now : (stamps : List ℕ) (documents : List Named) → IsDistinct nat_eq stamps → AreKnown (answers_now lines stamps documents) lines stamps documents
  known-now [] documents distinct = tt
  known-now (s ∷ stamps) [] distinct = tt
  known-now (s ∷ stamps) (d ∷ documents) distinct = (
    subst (λ o. AreThose o (lines d)) (sym (ap (λ t. cond t (Some (lines d)) (kept_under s (answers_now lines stamps documents))) (eq-eqb s s refl))) refl,
    known-further s (lines d) (answers_now lines stamps documents) stamps documents (IsDistinct-head nat_eq s stamps distinct)
        (known-now stamps documents (IsDistinct-tail nat_eq s stamps distinct)),
  )

  pub lines-now : (stamps : List ℕ) (documents : List Named) → length stamps ≡ length documents → all_lines (answers_now lines stamps documents) ≡ flat_map lines documents
  lines-now [] [] same = refl
  lines-now [] (d ∷ documents) same = absurd (omega (arith, same))
  lines-now (s ∷ stamps) [] same = absurd (omega (arith, same))
  lines-now (s ∷ stamps) (d ∷ documents) same = ap (λ ls. lines d ++ ls) (lines-now stamps documents (omega (arith, same)))

  -- ---- turns

  module _ (kept : Answers) where
    pub turn-stamps : (stamps : List ℕ) (documents : List Named) → length stamps ≡ length documents → stamps_of (turns_now kept lines stamps documents) ≡ stamps
    turn-stamps [] [] same = refl
    turn-stamps [] (d ∷ documents) same = absurd (omega (arith, same))
    turn-stamps (s ∷ stamps) [] same = absurd (omega (arith, same))
    turn-stamps (s ∷ stamps) (d ∷ documents) same = ap (λ ss. s ∷ ss) (turn-stamps stamps documents (omega (arith, same)))

    those-lines : (o : Option (List (List ℕ))) (ls : List (List ℕ)) → AreThose o ls → unwrap_or (cond (is_some o) None (Some ls)) (unwrap_or o []) ≡ ls
    those-lines None ls those = refl
    those-lines (Some k) ls those = those

    pub turn-answers : (stamps : List ℕ) (documents : List Named) → AreKnown kept lines stamps documents
        → answers_of kept (turns_now kept lines stamps documents) ≡ answers_now lines stamps documents
    turn-answers [] documents known = refl
    turn-answers (s ∷ stamps) [] known = refl
    turn-answers (s ∷ stamps) (d ∷ documents) known =
        λ i. (s, those-lines (kept_under s kept) (lines d) known.0 i) ∷ turn-answers stamps documents known.1 i

-- where nothing is kept, all documents are asked
pub all-unknown : (price : Named → ℕ) (stamps : List ℕ) (documents : List Named) → length stamps ≡ length documents → unknown_price [] price stamps documents ≡ sum_by price documents
all-unknown price [] [] same = refl
all-unknown price [] (d ∷ documents) same = absurd (omega (arith, same))
all-unknown price (s ∷ stamps) [] same = absurd (omega (arith, same))
all-unknown price (s ∷ stamps) (d ∷ documents) same = omega (arith, all-unknown price stamps documents (omega (arith, same)), sum_by-cons price d documents)
