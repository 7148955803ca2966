-- What is missing in a document: of several that are all needed one, or of those of which one is needed each.
use Rattle.std.proofs.Common.{◌≡◌, ◌<◌, ℕ, zero, suc, ◌+◌, Bool, true, false, ◌||◌, true≢false, List, [], ◌∷◌, filter, map, fold, take, length, get_or, Option, Some, None, refl, sym, ap, subst, ◌∙◌, arith}
use Rattle.std.specs.Prelude.{nat_lt, slice_get}
use Rattle.std.specs.List.{All, list_any}
use Rattle.std.proofs.lemmas.Bool.{lt-ltb}
use Rattle.std.proofs.lemmas.List.{take_more, take_all}
use Rattle.std.proofs.lemmas.List.Elements.{All-append, All-cons, All-nil}
use Rattle.ft_base.specs.declared.span.Span.{Span}
use Rattle.index_cursors.specs.SpanHits.{is_inside}
use Rattle.index_meaning.specs.Documents.{breaks_of, document_at}
use Rattle.index_versions.specs.FirstPlaces.{sooner, soonest}
use Rattle.index_versions.specs.Terms.{VersionTerm, first_in}
use Rattle.index_versions.specs.Versions.{stands_in}
use Rattle.plan_runs.specs.steps.RuledOut.{IsMissing}
use Rattle.plan_runs.specs.steps.Skips.{later, latest}
use Rattle.plan_runs.proofs.SkipLemmas.{first_found, none_latest, places_there}

module _ {X : Type 0} (f : Span → X → Option ℕ) where
  abbrev pub Missing : X → Type 0
  Missing x = IsMissing (λ part. f part x)

  -- ---- one that is needed

  folded : (g : X → Option ℕ) (last : Option ℕ) (xs : List X) (i : ℕ) (x : X) → i < length xs → x ≡ get_or xs i x → g x ≡ None → fold later last (map g xs) ≡ None
  folded g last [] i x within is none = absurd (omega (arith, within))
  folded g last (y ∷ ys) zero x within is none =
      ap (λ z. fold later (later last (g z)) (map g ys)) (sym is)
      ∙ ap (λ o. fold later (later last o) (map g ys)) none
      ∙ ap (λ o. fold later o (map g ys)) (after last)
      ∙ sym (none_latest (map g ys))
    where
      after : (o : Option ℕ) → later o None ≡ None
      after None = refl
      after (Some a) = refl
  folded g last (y ∷ ys) (suc i) x within is none = folded g (later last (g y)) ys i x (omega (arith, within)) is none

  pub one_missing : (xs : List X) (i : ℕ) (x : X) → i < length xs → x ≡ get_or xs i x → Missing x → IsMissing (λ part. latest (map (f part) xs))
  one_missing xs i x within is none = λ part. folded (f part) (Some 0) xs i x within is (none part)

  -- ---- each of those of which one is needed

  pub missing_more : (xs : List X) (i : ℕ) (x : X) → i < length xs → x ≡ get_or xs i x → All Missing (take i xs) → Missing x → All Missing (take (i + 1) xs)
  missing_more xs i x within is before none =
      subst (All Missing) (sym (take_more xs i x within))
      (All-append Missing (take i xs) (get_or xs i x ∷ []) before (All-cons Missing (get_or xs i x) [] (subst Missing is none) (All-nil Missing)))

  all_none : (g : X → Option ℕ) (xs : List X) → ((k : ℕ) (d : X) → k < length xs → g (get_or xs k d) ≡ None) → soonest (map g xs) ≡ None
  all_none g [] h = refl
  all_none g (x ∷ xs) h =
      ap (λ o. fold sooner o (map g xs)) (h 0 x (omega arith)) ∙ all_none g xs (λ k d within. h (suc k) d (omega (arith, within)))

  pub all_missing : (xs : List X) (i : ℕ) → length xs < i + 1 → All Missing (take i xs) → IsMissing (λ part. soonest (map (f part) xs))
  all_missing xs i past h =
      let each = subst (All Missing) (take_all i xs (omega (arith, past))) h in
      λ part. all_none (f part) xs (λ k d within. each k d within part)

-- ---- terms that stand nowhere in a document

pub later_none : (o : Option ℕ) → later o None ≡ None
later_none None = refl
later_none (Some a) = refl

both_false : (a b : Bool) → (a || b) ≡ false → (a ≡ false) × (b ≡ false)
both_false true b h = absurd (true≢false h)
both_false false b h = (refl, h)

module _ (doc : ℕ) where
  abbrev stands : VersionTerm → Bool
  stands source = stands_in source.term doc source.version

  no_place : (places : List ℕ) → nat_lt 0 (length places) ≡ false → places ≡ []
  no_place [] h = refl
  no_place (place ∷ places) h = absurd (true≢false (sym (lt-ltb 0 (length (place ∷ places)) (omega arith)) ∙ h))

  term_missing : (source : VersionTerm) → stands source ≡ false → Missing (first_in doc) source
  term_missing source h = λ part.
      first_found (breaks_of (document_at doc source.version)) (filter (is_inside part) (places_there doc source))
      ∙ ap (λ places. slice_get (filter (is_inside part) places) 0) (no_place (places_there doc source) h)

  pub terms_missing : (sources : List VersionTerm) → list_any stands sources ≡ false → IsMissing (λ part. soonest (map (first_in doc part) sources))
  terms_missing [] h = λ part. refl
  terms_missing (source ∷ sources) h = λ part.
      let parts = both_false (stands source) (list_any stands sources) h in
      ap (λ o. fold sooner o (map (first_in doc part) sources)) (term_missing source parts.0 part) ∙ terms_missing sources parts.1 part
