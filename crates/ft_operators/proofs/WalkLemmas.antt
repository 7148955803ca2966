-- Moves of an operator's walk, made of moves of the walks through its operands.
use Rattle.std.proofs.Common.{◌≡◌, refl, ap, sym, ◌∙◌, subst, ℕ, ◌+◌, ◌<◌, ◌≤◌, Bool, true, false, length, arith}
use Rattle.ft_base.specs.Lists.{is_not_empty}
use Rattle.ft_base.specs.declared.filter.Filter.{Filter}
use Rattle.ft_operators.specs.declared.course.Course.{Course}
use Rattle.ft_operators.specs.Course.{course_inside, ways_on}
use Rattle.ft_operators.specs.Standing.{Standing, at_prefix, one_on}
use Rattle.ft_operators.specs.steps.Forms.{choice_of, negation_of, sieve_of, sifted, count_now}
use Rattle.ft_operators.specs.steps.Walking.{Moved, MayGoOn, Settling}
use Rattle.ft_operators.proofs.ChoiceLemmas.{choice_prefix_left, choice_prefix_right, left_there}
use Rattle.ft_operators.proofs.SieveLemmas.{sieve_prefix, sieve_settled, sieve_skip, sieve_end, sieve_on, sieve_over, sieve_there_first, sieve_there_next, sieve_none, fewer}

rest_there : Standing → Bool
rest_there s = is_not_empty s.rest

-- whether a walk has a way where it was to go
arrived : (wanted now : Standing) (room new_room start end : ℕ) (answer : Bool) → Moved wanted now room new_room start end answer → is_not_empty wanted.rest ≡ answer
unfolding rest_there
arrived wanted now room new_room start end answer m = ap rest_there (sym m.stand) ∙ sym m.there

module _ (course : Course) (second : Bool) (left left_now right right_now : Standing) (room mid_room new_room start mid end : ℕ) (answer second_answer : Bool) where
  pub choice_first_left : Moved (at_prefix course left) left_now room mid_room start mid answer → answer ≡ true
      → Moved (at_prefix course (choice_of course second left right)) (choice_of course false left_now right) room mid_room start mid true
  choice_first_left m there = record {
    stand = ap (λ s. choice_of course false s right) m.stand
        ∙ choice_prefix_left course second left right (arrived (at_prefix course left) left_now room mid_room start mid answer m ∙ there);
    there = sym there ∙ m.there ∙ sym (left_there left_now.rest (ways_on course right.operator));
    kept_room = m.kept_room;
    grown = m.grown;
  }

  pub choice_first_right : Moved (at_prefix course left) left_now room mid_room start mid answer → answer ≡ false
      → Moved (at_prefix course right) right_now mid_room new_room mid end second_answer
      → Moved (at_prefix course (choice_of course second left right)) (choice_of course true left_now right_now) room new_room start end second_answer
  choice_first_right m none n = record {
    stand = (λ i. choice_of course true (m.stand i) (n.stand i))
        ∙ choice_prefix_right course second left right (arrived (at_prefix course left) left_now room mid_room start mid answer m ∙ none);
    there = n.there;
    kept_room = omega (arith, m.kept_room, n.kept_room);
    grown = omega (arith, m.grown, n.grown);
  }

pub negation_first : (course : Course) (there : Bool) (operand : Standing) (room start : ℕ)
    → Moved (at_prefix course (negation_of course there operand)) (negation_of course true operand) room room start start true
unfolding ways_on
negation_first course there operand room start = record { stand = refl; there = refl; kept_room = omega arith; grown = omega arith }

pub negation_next : (course : Course) (there : Bool) (operand : Standing) (room start : ℕ)
    → Moved (one_on (negation_of course there operand)) (negation_of course false operand) room room start start false
negation_next course true operand room start = record { stand = refl; there = refl; kept_room = omega arith; grown = omega arith }
negation_next course false operand room start = record { stand = refl; there = refl; kept_room = omega arith; grown = omega arith }

module _ (course : Course) (kind : Filter) (lead : ℕ) (operand operand_now now : Standing) (room mid_room new_room start mid end : ℕ) (answer second_answer : Bool) where
  pub sieve_first : Moved (at_prefix (course_inside kind course) operand) operand_now room mid_room start mid answer → Moved (sifted course kind operand_now) now mid_room new_room mid end second_answer
      → Moved (at_prefix course (sieve_of course kind lead operand)) now room new_room start end second_answer
  sieve_first m n = record {
    stand = n.stand ∙ ap (sifted course kind) m.stand ∙ sieve_prefix course kind operand lead;
    there = n.there;
    kept_room = omega (arith, m.kept_room, n.kept_room);
    grown = omega (arith, m.grown, n.grown);
  }

  pub sieve_next_choice : (count : ℕ) → count ≡ count_now kind course operand.rest → lead + 1 < count → room ≤ new_room
      → Moved (one_on (sieve_of course kind lead operand)) (sieve_of course kind (lead + 1) operand) room new_room start start true
  sieve_next_choice count is more kept = record {
    stand = sieve_on course kind operand lead (omega (arith, is, more));
    there = sieve_there_next course kind operand lead (omega (arith, is, more));
    kept_room = kept;
    grown = omega arith;
  }

  pub sieve_next_way : (count first_room : ℕ) → count ≡ count_now kind course operand.rest → count ≤ lead + 1 → is_not_empty ((sieve_of course kind lead operand).rest) ≡ true → first_room ≤ room
      → Moved (one_on operand) operand_now room mid_room start mid answer → Moved (sifted course kind operand_now) now mid_room new_room mid end second_answer
      → Moved (one_on (sieve_of course kind lead operand)) now first_room new_room start end second_answer
  sieve_next_way count first_room is last there kept m n = record {
    stand = n.stand ∙ ap (sifted course kind) m.stand ∙ sieve_over course kind operand lead there (omega (arith, is, last));
    there = n.there;
    kept_room = omega (arith, kept, m.kept_room, n.kept_room);
    grown = omega (arith, m.grown, n.grown);
  }

module _ (course : Course) (wanted : Filter) (start now : Standing) (room now_room begin end : ℕ) (answer : Bool) (kept : Filter) (used : ℕ)
    (l : Settling course wanted start now room now_room begin end answer kept used) where
  pub settling_may : (first_room : ℕ) → start.shape.room ≤ first_room → first_room ≤ room → answer ≡ true → MayGoOn now now_room
  settling_may first_room fits grew there = record { there = sym l.there ∙ there; fits = let same = ap (λ s. s.room) l.same_shape in omega (arith, fits, grew, same, l.kept_room) }

  pub settled_here : (count new_room : ℕ) → count ≡ count_now kept course now.rest → 0 < count → now_room ≤ new_room
      → Moved (sifted course wanted start) (sieve_of course kept used now) room new_room begin end true
  settled_here count new_room is some grew = record {
    stand = (λ i. sieve_of course (l.same_kind i) (l.unused i) now) ∙ sieve_settled course wanted now (omega (arith, known)) ∙ l.passed;
    there = sieve_there_first course wanted now (omega (arith, known)) ∙ (λ i. is_not_empty ((sieve_of course (sym l.same_kind i) (sym l.unused i) now).rest));
    kept_room = omega (arith, grew, l.kept_room);
    grown = l.grown;
  }
    where
      known : 0 < count_now wanted course now.rest
      known = subst (λ k. 0 < count_now k course now.rest) l.same_kind (subst (λ n. 0 < n) is some)

  pub settling_on : (count mid_room new_room after : ℕ) (next : Standing) (next_answer : Bool) → count ≡ count_now kept course now.rest → count ≤ 0 → now_room ≤ mid_room
      → Moved (one_on now) next mid_room new_room end after next_answer → Settling course wanted start next room new_room begin after next_answer kept used
  settling_on count mid_room new_room after next next_answer is none grew m = record {
    passed = ap (sifted course wanted) m.stand ∙ sieve_skip course wanted now (subst (λ k. count_now k course now.rest ≡ 0) l.same_kind (omega (arith, is, none))) ∙ l.passed;
    same_shape = ap (λ s. s.shape) m.stand ∙ l.same_shape;
    there = m.there;
    kept_room = omega (arith, grew, l.kept_room, m.kept_room);
    grown = omega (arith, l.grown, m.grown);
    same_kind = l.same_kind;
    unused = l.unused;
  }

  pub settled_none : answer ≡ false → Moved (sifted course wanted start) (sieve_of course kept used now) room now_room begin end false
  settled_none none = record {
    stand = ap (λ k. sieve_of course k used now) l.same_kind ∙ sieve_end course wanted now used (sym l.there ∙ none) ∙ l.passed;
    there = sieve_none course kept now used (sym l.there ∙ none);
    kept_room = l.kept_room;
    grown = l.grown;
  }

pub settling_fewer : (now next : Standing) (room new_room start end : ℕ) (answer : Bool) → is_not_empty now.rest ≡ true → Moved (one_on now) next room new_room start end answer
    → length next.rest < length now.rest
settling_fewer now next room new_room start end answer there m = let same = ap (λ s. length s.rest) m.stand in omega (arith, same, fewer now.rest there)
