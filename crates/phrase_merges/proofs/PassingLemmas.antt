-- One step of a tree of lists, list by list and kind by kind.
use Rattle.std.proofs.Common.{◌≡◌, refl, sym, ap, ◌∙◌, ℕ, ◌+◌, ◌<◌, ◌≤◌, Bool, true, false, cond, List, map, drop, get_or, length, Option, Some, None, option_map, arith}
use Rattle.std.specs.Prelude.{nat_le}
use Rattle.std.specs.List.{list_all}
use Rattle.std.proofs.lemmas.Bool.{and_parts, le-leb, leb-false, leb-true, true≢false}
use Rattle.std.proofs.lemmas.List.{drop_all, drop_more}
use Rattle.std.proofs.lemmas.List.Folds.{list_all-map}
use Rattle.ft_base.specs.declared.span.Span.{Span}
use Rattle.ft_operators.specs.Phrases.{PhraseAims, PhraseState, aimed_at, first_hit}
use Rattle.phrase_merges.specs.NearTrees.{Passage, aims_at, lists_at, either_at, both_at, within_at}
use Rattle.phrase_merges.specs.declared.field.Field.{Field}
use Rattle.phrase_merges.specs.declared.passed.Passed.{Passed}
use Rattle.phrase_merges.specs.declared.position.Position.{Position}
use Rattle.phrase_merges.specs.steps.Passing.{IsAimed, IsMoved, aimed, behind, earlier, end_of, later, list_behind, next_at, next_of_lists, soonest, start_at, start_behind, start_of_lists, start_within, telling, weight}

pub soonest_turn : (a b c : Option Position) → soonest (soonest a b) c ≡ soonest a (soonest b c)
soonest_turn None b c = refl
soonest_turn (Some a) None c = refl
soonest_turn (Some a) (Some b) None = by (nat_le a.word b.word) refl
  where
    by : (x : Bool) → nat_le a.word b.word ≡ x → soonest (cond x (Some a) (Some b)) None ≡ cond (nat_le a.word b.word) (Some a) (Some b)
    by true h = ap (λ t. cond t (Some a) (Some b)) (sym h)
    by false h = ap (λ t. cond t (Some a) (Some b)) (sym h)
soonest_turn (Some a) (Some b) (Some c) = by (nat_le a.word b.word) (nat_le b.word c.word) (nat_le a.word c.word) refl refl refl
  where
    by : (x y z : Bool) → nat_le a.word b.word ≡ x → nat_le b.word c.word ≡ y → nat_le a.word c.word ≡ z
        → soonest (cond x (Some a) (Some b)) (Some c) ≡ soonest (Some a) (cond y (Some b) (Some c))
    by true true true p q r = ap (λ t. cond t (Some a) (Some c)) r ∙ ap (λ t. cond t (Some a) (Some b)) (sym p)
    by true true false p q r =
        let ab = leb-true a.word b.word p in
        let bc = leb-true b.word c.word q in
        absurd (true≢false (sym (le-leb a.word c.word (omega (arith, ab, bc))) ∙ r))
    by true false z p q r = refl
    by false true z p q r = ap (λ t. cond t (Some b) (Some c)) q ∙ ap (λ t. cond t (Some a) (Some b)) (sym p)
    by false false true p q r =
        let ab = leb-false a.word b.word p in
        let bc = leb-false b.word c.word q in
        let ac = leb-true a.word c.word r in
        absurd (omega (arith, ab, bc, ac))
    by false false false p q r = ap (λ t. cond t (Some b) (Some c)) q ∙ ap (λ t. cond t (Some a) (Some c)) (sym r)

-- ---- list by list

module _ (end : Position) (ss : List PhraseState) where
  -- the lists that were passed and those that are left lead where all of them do
  pub start_on : (number : ℕ) (so_far start next : Option Position) (s : PhraseState) → number < length ss → s ≡ get_or ss number s
      → start_of_lists end so_far (drop number ss) ≡ start_of_lists end start ss → next ≡ start_behind end so_far s.rest
      → start_of_lists end next (drop (number + 1) ss) ≡ start_of_lists end start ss
  start_on number so_far start next s h here leads is =
      ap (λ one. start_of_lists end one (drop (number + 1) ss)) is
      ∙ ap (λ (one : PhraseState). start_of_lists end (start_behind end so_far one.rest) (drop (number + 1) ss)) here
      ∙ ap (start_of_lists end so_far) (sym (drop_more ss number s h))
      ∙ leads

-- the ends of some lists and of those that are left are the ends of all
pub next_on : (ss : List PhraseState) (number : ℕ) (so_far one next : Option Position) (s : PhraseState) → number < length ss → s ≡ get_or ss number s
    → soonest so_far (next_of_lists (drop number ss)) ≡ next_of_lists ss → one ≡ option_map end_of (first_hit s.rest) → next ≡ soonest so_far one
    → soonest next (next_of_lists (drop (number + 1) ss)) ≡ next_of_lists ss
next_on ss number so_far one next s h here leads first is =
    ap (λ n. soonest n (next_of_lists (drop (number + 1) ss))) (is ∙ ap (soonest so_far) first)
    ∙ soonest_turn so_far (option_map end_of (first_hit s.rest)) (next_of_lists (drop (number + 1) ss))
    ∙ ap (λ (other : PhraseState). soonest so_far (soonest (option_map end_of (first_hit other.rest)) (next_of_lists (drop (number + 1) ss)))) here
    ∙ ap (λ (rest : List PhraseState). soonest so_far (next_of_lists rest)) (sym (drop_more ss number s h))
    ∙ leads

soonest_none : (a : Option Position) → soonest a None ≡ a
soonest_none None = refl
soonest_none (Some a) = refl

pub next_ends : (ss : List PhraseState) (number : ℕ) (so_far : Option Position) → length ss ≤ number → soonest so_far (next_of_lists (drop number ss)) ≡ next_of_lists ss
    → so_far ≡ next_of_lists ss
next_ends ss number so_far h leads =
    sym (soonest_none so_far) ∙ ap (λ (rest : List PhraseState). soonest so_far (next_of_lists rest)) (sym (drop_all number ss h)) ∙ leads

-- ---- kind by kind

-- what is told of what a tree has inside, told of the tree
pub moved_inside : (end : Position) (inside inside_new tree tree_new : Passage) (answer : Passed) → tree ≡ inside → tree_new ≡ inside_new
    → IsMoved (behind end inside) inside_new answer → IsMoved (behind end tree) tree_new answer
moved_inside end inside inside_new tree tree_new answer old new m = record {
  stands = new ∙ m.stands ∙ ap (behind end) (sym old);
  tells = m.tells ∙ ap telling (sym new);
}

pub moved_lists : (end : Position) (states states_new : List PhraseState) (start : Option Position) (answer : Passed) → states_new ≡ map (list_behind end) states
    → answer.start ≡ start_of_lists end start states → answer.next ≡ next_of_lists states_new
    → IsMoved (behind end (lists_at states start)) (lists_at states_new answer.start) answer
unfolding behind start_at next_at
moved_lists end states states_new start answer is from next = record {
  stands = λ i. lists_at (is i) (from i);
  tells = λ i. record { start = answer.start; next = next i };
}

pub moved_either : (end : Position) (l l_new r r_new : Passage) (a b : Passed) (start next : Option Position) → IsMoved (behind end l) l_new a → IsMoved (behind end r) r_new b
    → start ≡ later a.start b.start → next ≡ soonest a.next b.next → IsMoved (behind end (either_at l r)) (either_at l_new r_new) record { start = start; next = next }
unfolding behind start_at next_at
moved_either end l l_new r r_new a b start next left right from to = record {
  stands = λ i. either_at (left.stands i) (right.stands i);
  tells =
      (λ i. record { start = from i; next = to i })
      ∙ (λ i. record { start = later (left.tells i).start (right.tells i).start; next = soonest (left.tells i).next (right.tells i).next });
}

pub moved_both : (end : Position) (l l_new r r_new : Passage) (a b : Passed) (start next : Option Position) → IsMoved (behind end l) l_new a → IsMoved (behind end r) r_new b
    → start ≡ earlier a.start b.start → next ≡ soonest a.next b.next → IsMoved (behind end (both_at l r)) (both_at l_new r_new) record { start = start; next = next }
unfolding behind start_at next_at
moved_both end l l_new r r_new a b start next left right from to = record {
  stands = λ i. both_at (left.stands i) (right.stands i);
  tells =
      (λ i. record { start = from i; next = to i })
      ∙ (λ i. record { start = earlier (left.tells i).start (right.tells i).start; next = soonest (left.tells i).next (right.tells i).next });
}

pub moved_within : (end : Position) (inside inside_new : Passage) (field : Field) (old start one : Option Position) (a : Passed) → IsMoved (behind end inside) inside_new a
    → start ≡ later old one → one ≡ start_within field end a.start
    → IsMoved (behind end (within_at inside field old)) (within_at inside_new field start) record { start = start; next = a.next }
unfolding behind start_at next_at
moved_within end inside inside_new field old start one a m from kept = record {
  stands =
      (λ i. within_at (m.stands i) field (from i))
      ∙ (λ i. within_at (behind end inside) field (later old (kept i)))
      ∙ (λ i. within_at (behind end inside) field (later old (start_within field end (m.tells i).start)))
      ∙ (λ i. within_at (behind end inside) field (later old (start_within field end (start_at (m.stands i)))));
  tells = λ i. record { start = start; next = (m.tells i).next };
}

-- ---- aiming

pub aimed_inside : (doc : ℕ) (span : Span) (inside inside_new tree tree_new : Passage) (next : Option Position) → tree ≡ inside → tree_new ≡ inside_new
    → IsAimed (aimed doc span inside) inside_new next → IsAimed (aimed doc span tree) tree_new next
aimed_inside doc span inside inside_new tree tree_new next old new m = record {
  stands = new ∙ m.stands ∙ ap (aimed doc span) (sym old);
  first = m.first ∙ ap next_at (sym new);
}

pub aimed_lists : (doc : ℕ) (span : Span) (states states_new : List PhraseState) (start next : Option Position) → states_new ≡ map (aimed_at doc span) states
    → next ≡ next_of_lists states_new → IsAimed (aimed doc span (lists_at states start)) (lists_at states_new None) next
unfolding aimed next_at
aimed_lists doc span states states_new start next is first = record { stands = ap (λ own. lists_at own None) is; first = first }

pub aimed_pair : (doc : ℕ) (span : Span) (l l_new r r_new : Passage) (a b next : Option Position) → IsAimed (aimed doc span l) l_new a → IsAimed (aimed doc span r) r_new b
    → next ≡ soonest a b → IsAimed (aimed doc span (either_at l r)) (either_at l_new r_new) next
unfolding aimed next_at
aimed_pair doc span l l_new r r_new a b next left right is = record {
  stands = λ i. either_at (left.stands i) (right.stands i);
  first = is ∙ (λ i. soonest (left.first i) (right.first i));
}

-- aiming both of two sides is aiming one or the other
abbrev as_both : Passage → Passage
as_both (lists_at states start) = lists_at states start
as_both (either_at left right) = both_at left right
as_both (both_at left right) = both_at left right
as_both (within_at operand field start) = within_at operand field start

pub aimed_both : (doc : ℕ) (span : Span) (l l_new r r_new : Passage) (next : Option Position) → IsAimed (aimed doc span (either_at l r)) (either_at l_new r_new) next
    → IsAimed (aimed doc span (both_at l r)) (both_at l_new r_new) next
unfolding aimed next_at
aimed_both doc span l l_new r r_new next a = record { stands = ap as_both a.stands; first = a.first }

pub aimed_within : (doc : ℕ) (span : Span) (inside inside_new : Passage) (field : Field) (start next : Option Position) → IsAimed (aimed doc span inside) inside_new next
    → IsAimed (aimed doc span (within_at inside field start)) (within_at inside_new field None) next
unfolding aimed next_at
aimed_within doc span inside inside_new field start next a = record { stands = ap (λ own. within_at own field None) a.stands; first = a.first }

-- where a tree may be aimed its operands may be
pub may_sides : (left right : Passage) (doc : ℕ) (span : Span) → (aims_at (either_at left right)).may doc span ≡ true
    → ((aims_at left).may doc span ≡ true) × ((aims_at right).may doc span ≡ true)
unfolding aims_at
may_sides left right doc span may = and_parts ((aims_at left).may doc span) ((aims_at right).may doc span) may

pub may_both : (left right : Passage) (doc : ℕ) (span : Span) → (aims_at (both_at left right)).may doc span ≡ true → (aims_at (either_at left right)).may doc span ≡ true
unfolding aims_at
may_both left right doc span may = may

pub may_within : (operand : Passage) (field : Field) (start : Option Position) (doc : ℕ) (span : Span) → (aims_at (within_at operand field start)).may doc span ≡ true
    → (aims_at operand).may doc span ≡ true
unfolding aims_at
may_within operand field start doc span may = may

pub may_lists : {P : Type 0} (state : P → PhraseState) (lists : List P) (start : Option Position) (doc : ℕ) (span : Span) → (aims_at (lists_at (map state lists) start)).may doc span ≡ true
    → list_all (λ s. s.aims.may doc span) (map state lists) ≡ true
unfolding aims_at
may_lists state lists start doc span may = sym (list_all-map (λ (aims : PhraseAims). aims.may doc span) (λ s. s.aims) (map state lists)) ∙ may

-- each operand weighs less
pub heavier_either : (tree left right : Passage) → tree ≡ either_at left right → weight tree ≡ weight left + weight right + 1
unfolding weight
heavier_either tree left right is = ap weight is

pub heavier_both : (tree left right : Passage) → tree ≡ both_at left right → weight tree ≡ weight left + weight right + 1
unfolding weight
heavier_both tree left right is = ap weight is

pub heavier_within : (tree operand : Passage) (field : Field) (start : Option Position) → tree ≡ within_at operand field start → weight tree ≡ weight operand + 1
unfolding weight
heavier_within tree operand field start is = ap weight is
