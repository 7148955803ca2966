-- Tests opened over a version say of its words what they say of what is looked at of them.
use Rattle.std.proofs.Common.{◌≡◌, refl, sym, ap, ◌∙◌, ℕ, true, false, cond, List, map, get_or, true≢false}
use Rattle.std.specs.List.{All}
use Rattle.std.proofs.lemmas.List.Elements.{All-map, All-nil}
use Rattle.index_meaning.specs.Documents.{Numbered}
use Rattle.index_phrases.specs.steps.Aiming.{AreThere}
use Rattle.index_phrases.specs.declared.word_terms.WordTerms.TheVariants as Terms
use Rattle.index_versions.specs.Terms.{VersionTerm, version_term}
use Rattle.word_lists.specs.Stems.{Stem}
use Rattle.plan_compiler.specs.ItemTests.{asks_nothing, passes}
use Rattle.plan_compiler.specs.TextWords.{word_as}
use Rattle.plan_compiler.specs.declared.item_matching.ItemTest.{ItemTest}
use Rattle.plan_compiler.specs.declared.item_matching.ItemTest.TheVariants as Test
use Rattle.plan_compiler.specs.declared.looks.Looks.{Looks}
use Rattle.plan_compiler.specs.declared.text_word.TextWord.{TextWord}
use Rattle.plan_runs.specs.steps.ChosenTerms.{IsKnown, is_among, terms_for}
use Rattle.plan_runs.specs.steps.OpenedItems.{opened_item, word_test}
use Rattle.plan_runs.specs.steps.RunTruth.{is_wanted}
use Rattle.plan_runs.proofs.TermLaws.{numbers_again}

pub every : {X : Type 0} (P : X → Type 0) → ((x : X) → P x) → (xs : List X) → All P xs
every P all xs = λ k d h. all (get_or xs k d)

any_passes : (test : ItemTest) (w : TextWord) → asks_nothing test ≡ true → passes test w ≡ true
unfolding passes
any_passes Test.Any w h = refl
any_passes (Test.ByForms test) w h = absurd (true≢false (sym h))
any_passes (Test.ByStem stem case) w h = absurd (true≢false (sym h))

module _ (looks : Looks) (stems : List Stem) (version : List Numbered) where
  pub item_says : (word : List ℕ) → IsKnown version word → (test : ItemTest) → is_wanted version (opened_item looks stems version test) word ≡ passes test (word_as looks stems word)
  unfolding is_wanted
  item_says word known test =
      elim (asks_nothing test) as (λ b. asks_nothing test ≡ b → is_wanted version (cond b Terms.Any (Terms.Of (map (version_term version) (terms_for (word_test looks stems test) version)))) word ≡ passes test (word_as looks stems word)) [
        | true ↦ λ h. sym (any_passes test (word_as looks stems word) h)
        | false ↦ λ h. ap (λ ns. is_among version ns word) (numbers_again version (terms_for (word_test looks stems test) version)) ∙ known (word_test looks stems test)
      ] refl

  -- its terms are those of the version
  pub item_there : (test : ItemTest) → AreThere version (opened_item looks stems version test)
  item_there test =
      elim (asks_nothing test) as (λ b. AreThere version (cond b Terms.Any (Terms.Of (map (version_term version) (terms_for (word_test looks stems test) version))))) [
        | true ↦ All-nil (λ (source : VersionTerm). source.version ≡ version)
        | false ↦ All-map (λ (source : VersionTerm). source.version ≡ version) (version_term version) (terms_for (word_test looks stems test) version)
            (every (λ (number : ℕ). version ≡ version) (λ number. refl) (terms_for (word_test looks stems test) version))
      ]
