-- A hit that stands twice passes a test where it passes it once.
use Rattle.std.proofs.Common.{◌≡◌, refl, ℕ, Bool, true, false, ◌||◌, sym, List, [], ◌∷◌}
use Rattle.std.specs.Prelude.{◌==◌, map}
use Rattle.std.specs.List.{list_any}
use Rattle.ft_base.specs.declared.hit.Hit.{Hit}
use Rattle.all_matches.specs.Ways.{Operator, either, phrase, together}
use Rattle.match_sets.specs.Examples.{hit_at, numbered}
use Rattle.match_sets.specs.United.{IsUnited, choice_hits, one_phrase, with_number}
use Rattle.match_sets.proofs.examples.phrases_united.Goals as goal

twice : (a : Bool) → (a || (a || false)) ≡ (a || false)
twice true = refl
twice false = refl

pub returns-clause-a_hit_of_both : goal.returns-clause-a_hit_of_both
returns-clause-a_hit_of_both c =
    one_phrase 1 (either (numbered 5 (3 ∷ [])) (numbered 7 (3 ∷ []))) (hit_at 1 3 ∷ []) (record { of_phrases = refl; same_hits = λ test. twice (test (hit_at 1 3)) })

-- the number of a phrase that stands for a choice with a hit is the first
has_number : (first next : ℕ) (choice : Operator) (found : List Hit) → IsUnited first next choice (phrase found) → (test : Hit → Bool)
    → list_any test (map (with_number first) (choice_hits choice)) ≡ list_any test found
has_number first next choice found (one_phrase _ _ _ one) test = one.same_hits test

pub returns-clause-with_another_number : goal.returns-clause-with_another_number
returns-clause-with_another_number c is = has_number 1 2 (either (numbered 5 (3 ∷ [])) (numbered 7 (3 ∷ []))) (hit_at 5 3 ∷ []) is (λ hit. hit.query == 5)

pub returns-clause-without_a_hit : goal.returns-clause-without_a_hit
returns-clause-without_a_hit c is = sym (has_number 1 2 (either (numbered 5 (3 ∷ [])) (numbered 7 (4 ∷ []))) (hit_at 1 3 ∷ []) is (λ hit. hit.from == 4))

no_choice : (first next : ℕ) (left right : Operator) (found : List Hit) → IsUnited first next (together left right) (phrase found) → false ≡ true
no_choice first next left right found (one_phrase _ _ _ one) = one.of_phrases

pub returns-clause-of_both : goal.returns-clause-of_both
returns-clause-of_both c is = no_choice 1 2 (numbered 5 []) (numbered 7 []) [] is
