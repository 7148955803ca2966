-- What choices of a thesaurus option reach, with one choice more.
use Rattle.std.proofs.Common.{◌≡◌, refl, sym, ap, ◌∙◌, Bool, true, false, ◌||◌, List, [], ◌∷◌, ◌++◌, fold, append-nil}
use Rattle.std.specs.Prelude.{flat_map}
use Rattle.std.specs.List.{list_any}
use Rattle.std.specs.BTreeSet.{insert_key}
use Rattle.std.proofs.Math.Bool.{or-false}
use Rattle.std.proofs.lemmas.Grind.{flat_map-append}
use Rattle.std.proofs.lemmas.List.Concat.{flat_map-cons}
use Rattle.std.proofs.lemmas.List.Folds.{list_any-append}
use Rattle.std.proofs.lemmas.List.Sums.{fold-append}
use Rattle.all_matches.proofs.ListTests.{list_any-flat_map}
use Rattle.thesaurus_file.specs.Phrases.{Phrase, in_order, phrase_cmp, phrase_eq}
use Rattle.thesaurus_file.proofs.OrderLemmas.{in_order_same}

module _ {X : Type 0} (reach : X → List Phrase) (before : List X) (choice : X) where
  one_more : flat_map reach (before ++ choice ∷ []) ≡ flat_map reach before ++ reach choice
  one_more = flat_map-append reach before (choice ∷ []) ∙ ap (λ ys. flat_map reach before ++ ys) (flat_map-cons reach choice [] ∙ append-nil (reach choice))

  -- another choice puts what it reaches into the set
  pub another : in_order (flat_map reach (before ++ choice ∷ [])) ≡ fold (insert_key phrase_cmp) (in_order (flat_map reach before)) (reach choice)
  another = ap in_order one_more ∙ fold-append (insert_key phrase_cmp) [] (flat_map reach before) (reach choice)

  -- the same choice again reaches nothing new
  pub again : ((holds : X → Bool) → holds choice ≡ true → list_any holds before ≡ true) → in_order (flat_map reach (before ++ choice ∷ [])) ≡ in_order (flat_map reach before)
  again among =
      in_order_same (flat_map reach (before ++ choice ∷ [])) (flat_map reach before)
      (λ q. list_any-flat_map (phrase_eq q) reach (before ++ choice ∷ [])
      ∙ list_any-append (reaches q) before (choice ∷ [])
      ∙ ap (λ b. list_any (reaches q) before || b) (or-false (reaches q choice))
      ∙ nothing_new (reaches q choice) (list_any (reaches q) before) (among (reaches q))
      ∙ sym (list_any-flat_map (phrase_eq q) reach before))
    where
      reaches : Phrase → X → Bool
      reaches q one = list_any (phrase_eq q) (reach one)

      nothing_new : (new old : Bool) → (new ≡ true → old ≡ true) → (old || new) ≡ old
      nothing_new true old h = ap (λ b. b || true) (h refl) ∙ sym (h refl)
      nothing_new false old h = or-false old
