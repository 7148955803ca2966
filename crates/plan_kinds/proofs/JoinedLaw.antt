-- Phrases that are joined by `ftand` and numbered one after the other, as a list.
use Rattle.std.proofs.Common.{◌≡◌, refl, sym, ap, subst, ◌∙◌, ℕ, ◌+◌, ◌-◌, ◌==◌, Bool, true, ◌&&◌, List, [], ◌∷◌, ◌++◌, map, fold, length, Option, Some, None, arith}
use Rattle.std.specs.List.{list_all}
use Rattle.std.proofs.lemmas.Bool.{and_from, and_parts, eqb-true, eq-eqb}
use Rattle.std.proofs.lemmas.List.{length-append, map_push}
use Rattle.std.proofs.lemmas.List.Sums.{fold-append}
use Rattle.std.proofs.lemmas.Option.{cond_some, none-some, same_Some}
use Rattle.ft_base.specs.declared.hit.Hit.{Hit}
use Rattle.all_matches.specs.Operators.{together_of}
use Rattle.all_matches.specs.Ways.{Operator, phrase, together}
use Rattle.plan_compiler.specs.declared.operator_plan.OperatorPlan.{OperatorPlan, Phrase, Choice', Both', MildNot', Negated', Filtered'}
use Rattle.plan_compiler.specs.declared.operator_plan.PhraseTests.{PhraseTests}
use Rattle.plan_compiler.specs.CheapPlans.{is_word}
use Rattle.plan_kinds.specs.steps.JoinedPhrases.{alone, are_two, joined_of, joined_phrases, one_more, phrase_of}
use Rattle.plan_kinds.specs.declared.joined.Joined.{Joined}

-- whether the phrases have the numbers from one on
abbrev pub from_number : ℕ → List PhraseTests → Bool
from_number number [] = true
from_number number (found ∷ phrases) = (found.number == number) && from_number (number + 1) phrases

from_number_push : (number : ℕ) (phrases : List PhraseTests) (found : PhraseTests) → from_number number phrases ≡ true → found.number ≡ number + length phrases
    → from_number number (phrases ++ found ∷ []) ≡ true
from_number_push number [] found h is = and_from (found.number == number) true (eq-eqb found.number number (omega (arith, is))) refl
from_number_push number (other ∷ phrases) found h is =
    let parts = and_parts (other.number == number) (from_number (number + 1) phrases) h in
    and_from (other.number == number) (from_number (number + 1) (phrases ++ found ∷ [])) parts.0
    (from_number_push (number + 1) phrases found parts.1 (omega (arith, is)))

words_push : (phrases : List PhraseTests) (found : PhraseTests) → list_all is_word phrases ≡ true → is_word found ≡ true → list_all is_word (phrases ++ found ∷ []) ≡ true
words_push [] found h one = and_from (is_word found) true one refl
words_push (other ∷ phrases) found h one =
    let parts = and_parts (is_word other) (list_all is_word phrases) h in
    and_from (is_word other) (list_all is_word (phrases ++ found ∷ [])) parts.0 (words_push phrases found parts.1 one)

-- the phrases that a plan joins: `same` says of whatever tells the hits of a phrase what it tells of the plan
pub record AreJoined (plan : OperatorPlan) (joined : Joined) : Type 0 where
  pub first : PhraseTests
  pub rest : List PhraseTests
  pub phrases : joined_phrases plan ≡ first ∷ rest
  pub numbered : from_number joined.first (first ∷ rest) ≡ true
  pub counted : joined.last ≡ joined.first + length rest
  pub words : joined.are_words ≡ true → list_all is_word (first ∷ rest) ≡ true
  pub same : (operators : OperatorPlan → Operator) (hits : PhraseTests → List Hit)
      → ((found : PhraseTests) → operators (Phrase found) ≡ phrase (hits found))
      → ((p : _) (left right : OperatorPlan) → operators (Both' p left right) ≡ together (operators left) (operators right))
      → operators plan ≡ together_of (map phrase (map hits (first ∷ rest)))

one_phrase : (found : PhraseTests) → AreJoined (Phrase found) (alone found)
unfolding joined_phrases
one_phrase found = record {
  first = found;
  rest = [];
  phrases = refl;
  numbered = and_from (found.number == found.number) true (eq-eqb found.number found.number refl) refl;
  counted = omega arith;
  words = λ word. and_from (is_word found) true word refl;
  same = λ operators hits each both. each found;
}

more_phrases : (p : _) (left : OperatorPlan) (found : PhraseTests) (before : Joined) → AreJoined left before → found.number ≡ before.last + 1
    → AreJoined (Both' p left (Phrase found)) (record { first = before.first; last = found.number; are_words = before.are_words && is_word found })
unfolding joined_phrases
more_phrases p left found before joined next =
    let count = joined.counted in
    record {
      first = joined.first;
      rest = joined.rest ++ found ∷ [];
      phrases = ap (λ phrases. phrases ++ found ∷ []) joined.phrases;
      numbered = from_number_push before.first (joined.first ∷ joined.rest) found joined.numbered (omega (arith, next, count));
      counted = let long = length-append joined.rest (found ∷ []) in omega (arith, next, count, long);
      words = λ words. let parts = and_parts before.are_words (is_word found) words in words_push (joined.first ∷ joined.rest) found (joined.words parts.0) parts.1;
      same = λ operators hits each both.
          both p left (Phrase found)
          ∙ (λ i. together (joined.same operators hits each both i) (each found i))
          ∙ sym (ap (fold together (phrase (hits joined.first))) (ap (map phrase) (map_push hits joined.rest found) ∙ map_push phrase (map hits joined.rest) (hits found))
          ∙ fold-append together (phrase (hits joined.first)) (map phrase (map hits joined.rest)) (phrase (hits found) ∷ []));
    }

after : (p : _) (left right : OperatorPlan) (before joined : Joined) → AreJoined left before → one_more (Some before) (phrase_of right) ≡ Some joined
    → AreJoined (Both' p left right) joined
after p left (Phrase found) before joined are h =
    let parts = cond_some (found.number - before.last == 1) (record { first = before.first; last = found.number; are_words = before.are_words && is_word found }) joined h in
    let next = eqb-true (found.number - before.last) 1 parts.0 in
    subst (AreJoined (Both' p left (Phrase found))) parts.1 (more_phrases p left found before are (omega (arith, next)))
after p left (Choice' q a b) before joined are h = absurd (none-some joined h)
after p left (Both' q a b) before joined are h = absurd (none-some joined h)
after p left (MildNot' q a b) before joined are h = absurd (none-some joined h)
after p left (Negated' q a) before joined are h = absurd (none-some joined h)
after p left (Filtered' q a kind) before joined are h = absurd (none-some joined h)

both_sides : (p : _) (left right : OperatorPlan) (before : Option Joined) → joined_of left ≡ before → ((own : Joined) → joined_of left ≡ Some own → AreJoined left own)
    → (joined : Joined) → one_more before (phrase_of right) ≡ Some joined → AreJoined (Both' p left right) joined
both_sides p left right None is each joined h = absurd (none-some joined h)
both_sides p left right (Some before) is each joined h = after p left right before joined (each before is) h

pub joined_law : (plan : OperatorPlan) (joined : Joined) → joined_of plan ≡ Some joined → AreJoined plan joined
unfolding joined_of
joined_law (Phrase found) joined h = subst (AreJoined (Phrase found)) (same_Some (alone found) joined h) (one_phrase found)
joined_law (Choice' p left right) joined h = absurd (none-some joined h)
joined_law (Both' p left right) joined h = both_sides p left right (joined_of left) refl (joined_law left) joined h
joined_law (MildNot' p left right) joined h = absurd (none-some joined h)
joined_law (Negated' p operand) joined h = absurd (none-some joined h)
joined_law (Filtered' p operand kind) joined h = absurd (none-some joined h)

-- two phrases are two
pub pair_count : (joined : Joined) (more : ℕ) → joined.last ≡ joined.first + more → are_two joined ≡ true → more ≡ 1
pair_count joined more counted two = let next = eqb-true (joined.last - joined.first) 1 two in omega (arith, counted, next)
