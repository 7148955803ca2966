-- Walks that are seen on another course that is the same one, and the shape of nodes that moved.
use Rattle.std.proofs.Common.{◌≡◌, ap, sym, ◌∙◌, subst, ℕ, ◌+◌, ◌≤◌, Bool, arith}
use Rattle.ft_base.specs.declared.filter.Filter.{Filter}
use Rattle.ft_operators.specs.declared.chain.Chain.{Chain}
use Rattle.ft_operators.specs.declared.course.Course.{Course}
use Rattle.ft_operators.specs.declared.node.Node.{Node}
use Rattle.ft_operators.specs.Course.{stands_on, without_bounds}
use Rattle.ft_operators.specs.Phrases.{PhraseState}
use Rattle.ft_operators.specs.Standing.{Frame, Standing, at_prefix, course_now, frame, one_on}
use Rattle.ft_operators.specs.steps.Cleaning.{Asked}
use Rattle.ft_operators.specs.steps.Forms.{apart_of, both_of, count_now}
use Rattle.ft_operators.specs.steps.Nodes.{shape_of, standing}
use Rattle.ft_operators.specs.steps.Walking.{MayGoOn, Moved}
use Rattle.ft_operators.proofs.ApartLemmas.{apart_there}
use Rattle.ft_operators.proofs.FrameLemmas.{frames_same}
use Rattle.ft_operators.proofs.TupleLemmas.{kept_shape, standing_room}

module _ {P : Type 0} (state : P → PhraseState) where
  module _ (c d : Course) (same : c ≡ d) where
    pub seen_may : (n : Node P) (room : ℕ) → MayGoOn (standing state d n) room → MayGoOn (standing state c n) room
    seen_may n room may = subst (λ e. MayGoOn (standing state e n) room) (sym same) may

    pub seen_first : (a b : Node P) (room new_room start end : ℕ) (answer : Bool) → Moved (at_prefix c (standing state c a)) (standing state c b) room new_room start end answer
        → Moved (at_prefix d (standing state d a)) (standing state d b) room new_room start end answer
    seen_first a b room new_room start end answer m = subst (λ e. Moved (at_prefix e (standing state e a)) (standing state e b) room new_room start end answer) same m

    pub seen_next : (a b : Node P) (room new_room start end : ℕ) (answer : Bool) → Moved (one_on (standing state c a)) (standing state c b) room new_room start end answer
        → Moved (one_on (standing state d a)) (standing state d b) room new_room start end answer
    seen_next a b room new_room start end answer m = subst (λ e. Moved (one_on (standing state e a)) (standing state e b) room new_room start end answer) same m

    pub seen_asked : (a b : Node P) (before after : Chain) (room new_room start end : ℕ) (answer : Bool) → Asked c (standing state c a) (standing state c b) before after room new_room start end answer
        → Asked d (standing state d a) (standing state d b) before after room new_room start end answer
    seen_asked a b before after room new_room start end answer asked = subst (λ e. Asked e (standing state e a) (standing state e b) before after room new_room start end answer) same asked

  module _ (course : Course) (a b : Node P) (room new_room start end : ℕ) (answer : Bool) where
    pub first_shape : Moved (at_prefix course (standing state course a)) (standing state course b) room new_room start end answer → shape_of b ≡ shape_of a
    first_shape m = kept_shape state course a b (ap frame m.stand)

    pub next_shape : Moved (one_on (standing state course a)) (standing state course b) room new_room start end answer → shape_of b ≡ shape_of a
    next_shape m = kept_shape state course a b (ap frame m.stand)

  -- the room for the hits of two operands is that of both
  module _ (course : Course) (left right : Node P) where
    pub pair_room : (both_of course (standing state course left) (standing state (course_now course (standing state course left).rest) right)).shape.room ≡ (shape_of left).room + (shape_of right).room
    pair_room = λ i. standing_room state course left left i + standing_room state (course_now course (standing state course left).rest) right right i

    pub apart_room : (apart_of course (standing state course left) (standing state (without_bounds course) right)).shape.room ≡ (shape_of left).room + (shape_of right).room
    apart_room = λ i. standing_room state course left left i + standing_room state (without_bounds course) right right i

  -- at a way of a mild not, wherever the walk through the right side is
  pub seen_apart : (course other : Course) (left right : Node P) (room : ℕ) → MayGoOn (apart_of course (standing state course left) (standing state (without_bounds course) right)) room
      → MayGoOn (apart_of course (standing state course left) (standing state other right)) room
  seen_apart course other left right room may =
      let same = frames_same state (without_bounds course) other right in record {
        there = apart_there (stands_on course (standing state other right).operator) (standing state course left).rest
            ∙ sym (apart_there (stands_on course (standing state (without_bounds course) right).operator) (standing state course left).rest) ∙ may.there;
        fits = subst (λ (f : Frame). (standing state course left).shape.room + f.shape.room ≤ room) same may.fits;
      }

pub apart_may : (course : Course) (left right : Standing) (room : ℕ) → MayGoOn (apart_of course left right) room → MayGoOn left room
apart_may course left right room may = record {
  there = sym (apart_there (stands_on course right.operator) left.rest) ∙ may.there;
  fits = omega (arith, may.fits);
}

-- as many choices
pub counted : {P : Type 0} (state : P → PhraseState) (kind : Filter) (n : Node P) (c d : Course) (count : ℕ) → c ≡ d → count ≡ count_now kind c ((standing state c n).rest)
    → count ≡ count_now kind d ((standing state d n).rest)
counted state kind n c d count same is = subst (λ e. count ≡ count_now kind e ((standing state e n).rest)) same is
