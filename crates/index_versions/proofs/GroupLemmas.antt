-- Each id may stand in the groups of the documents that have it, and in a document of another group it doesn't stand.
use Rattle.std.proofs.Common.{◌≡◌, ℕ, ◌+◌, suc, true, false, ◌==◌, cond, List, [], ◌∷◌, ◌++◌, length, refl, ap, sym, ◌∙◌, arith, true≢false, inl, inr}
use Rattle.std.specs.Prelude.{nat_lt}
use Rattle.std.specs.List.{All}
use Rattle.std.proofs.lemmas.Bool.{or_parts, cases_Bool, false_from_ne_true, eqb-true}
use Rattle.std.proofs.lemmas.List.Elements.{All-append, All-filter}
use Rattle.index_document.specs.Terms.{has, places_from, places_of}
use Rattle.index_groups.specs.Groups.{may_be}
use Rattle.index_meaning.specs.Documents.{Numbered, document_at}
use Rattle.index_meaning.specs.Postings.{places}
use Rattle.index_versions.specs.Versions.{stands_in, term_at}
use Rattle.index_versions.specs.steps.Held.{Held, held_at, held_ids}
use Rattle.index_versions.specs.steps.Exchange.{held_before, in_back, exchanged}
use Rattle.index_versions.specs.steps.Sound.{IsGrouped}

-- ---- a document is exchanged

pub exchanged_grouped : (groups : List ℕ) (doc : ℕ) (new hs : List Held) → All (IsGrouped groups) hs → All (IsGrouped groups) new → All (IsGrouped groups) (exchanged doc new hs)
exchanged_grouped groups doc new hs all next =
    All-append (IsGrouped groups) (held_before doc hs) (new ++ in_back doc hs) (All-filter (λ (h : Held). nat_lt h.index.doc doc) (IsGrouped groups) hs all)
    (All-append (IsGrouped groups) new (in_back doc hs) next (All-filter (λ (h : Held). nat_lt doc h.index.doc) (IsGrouped groups) hs all))

-- ---- where a term stands

pub at_grouped : (groups : List ℕ) (n : ℕ) (hs : List Held) → All (IsGrouped groups) hs → (id : ℕ) → has id (held_ids (held_at n hs)) ≡ true → may_be groups id n ≡ true
at_grouped groups n [] all id there = absurd (true≢false (sym there))
at_grouped groups n (h ∷ hs) all id there =
    elim (cases_Bool (h.index.doc == n)) [
      | inl same ↦
          ap (may_be groups id) (sym (eqb-true h.index.doc n same))
          ∙ all 0 h (omega arith) id (ap (λ b. has id (held_ids (cond b h (held_at n hs)))) (sym same) ∙ there)
      | inr other ↦
          at_grouped groups n hs (λ k d within. all (suc k) d (omega (arith, within))) id (ap (λ b. has id (held_ids (cond b h (held_at n hs)))) (sym other) ∙ there)
    ]

not_placed : (id place : ℕ) (words : List ℕ) → has id words ≡ false → places_from id place words ≡ []
not_placed id place [] none = refl
not_placed id place (w ∷ words) none =
    let parts = or_parts (w == id) (has id words) none in
    ap (λ b. cond b (place ∷ places_from id (place + 1) words) (places_from id (place + 1) words)) parts.0 ∙ not_placed id (place + 1) words parts.1

-- a term whose id may not stand in the group of a document doesn't stand there
pub apart_stands : (groups : List ℕ) (hs : List Held) (version : List Numbered) (term id doc : ℕ) → All (IsGrouped groups) hs
    → places_of id (held_at doc hs).index.leaves ≡ places (term_at term version).word (document_at doc version) → may_be groups id doc ≡ false → stands_in term doc version ≡ false
apart_stands groups hs version term id doc all placed apart =
    let words = held_ids (held_at doc hs) in
    let none : has id words ≡ false = false_from_ne_true (has id words) (λ there. true≢false (sym (at_grouped groups doc hs all id there) ∙ apart)) in
    ap (λ (ps : List ℕ). nat_lt 0 (length ps)) (sym placed ∙ not_placed id 1 words none)
