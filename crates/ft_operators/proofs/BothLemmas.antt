-- The ways of an And: each of the left side with each of the right one beside it.
use Rattle.std.proofs.Common.{◌≡◌, refl, ap, sym, ◌∙◌, ℕ, ◌+◌, ◌<◌, ◌≤◌, List, [], ◌∷◌, ◌++◌, Bool, true, false, map, drop, length, arith}
use Rattle.std.specs.Prelude.{flat_map}
use Rattle.ft_base.specs.Lists.{is_not_empty}
use Rattle.all_matches.specs.Ways.{Operator, together, Way, two_ways, way_includes}
use Rattle.ft_operators.specs.declared.course.Course.{Course}
use Rattle.ft_operators.specs.Course.{course_beside, pairs_with, ways_on}
use Rattle.ft_operators.specs.Standing.{Frame, Standing, at_prefix, course_now, frame, includes_now, one_on, two_aims}
use Rattle.ft_operators.specs.steps.Forms.{both_of, both_shape, paired, pairs_left}
use Rattle.ft_operators.specs.steps.Pairs.{Pairing}
use Rattle.ft_operators.specs.steps.Walking.{Moved, MayGoOn}
use Rattle.ft_operators.proofs.SieveLemmas.{fewer}

module _ (course : Course) (right : Operator) where
  -- there is a way where each side has one
  pub pairs_there : (xs ys : List Way) → is_not_empty xs ≡ true → is_not_empty (pairs_left course right xs ys) ≡ is_not_empty ys
  pairs_there [] ys there = cc
  pairs_there (x ∷ xs) [] there = refl
  pairs_there (x ∷ xs) (y ∷ ys) there = refl

  pub pairs_sides : (xs ys : List Way) → is_not_empty (pairs_left course right xs ys) ≡ true → (is_not_empty xs ≡ true) × (is_not_empty ys ≡ true)
  pairs_sides [] ys there = cc
  pairs_sides (x ∷ xs) [] there = cc
  pairs_sides (x ∷ xs) (y ∷ ys) there = (refl, refl)

  pub pair_includes : (xs ys : List Way) → is_not_empty (pairs_left course right xs ys) ≡ true → includes_now (pairs_left course right xs ys) ≡ includes_now xs ++ includes_now ys
  pair_includes [] ys there = cc
  pair_includes (x ∷ xs) [] there = cc
  pair_includes (x ∷ xs) (y ∷ ys) there = refl

  -- at the first of the right side
  pairs_here : (xs : List Way) → is_not_empty xs ≡ true → is_not_empty (ways_on (course_now course xs) right) ≡ true
      → pairs_left course right xs (ways_on (course_now course xs) right) ≡ flat_map (pairs_with course right) xs
  pairs_here [] there some = cc
  pairs_here (x ∷ xs) there some = of (ways_on (course_beside course (way_includes x)) right) some
    where
      of : (ys : List Way) → is_not_empty ys ≡ true → pairs_left course right (x ∷ xs) ys ≡ map (two_ways x) ys ++ flat_map (pairs_with course right) xs
      of [] none = cc
      of (y ∷ ys) there = refl

  -- a way of the left side that has none of the right side beside it
  pairs_passed : (xs : List Way) → is_not_empty (ways_on (course_now course xs) right) ≡ false → flat_map (pairs_with course right) (drop 1 xs) ≡ flat_map (pairs_with course right) xs
  pairs_passed [] none = refl
  pairs_passed (x ∷ xs) none = of (ways_on (course_beside course (way_includes x)) right) none
    where
      of : (ys : List Way) → is_not_empty ys ≡ false → flat_map (pairs_with course right) xs ≡ map (two_ways x) ys ++ flat_map (pairs_with course right) xs
      of [] none = refl
      of (y ∷ ys) there = cc

  pairs_none : (xs ys : List Way) → is_not_empty xs ≡ false → pairs_left course right xs ys ≡ flat_map (pairs_with course right) xs
  pairs_none [] ys none = refl
  pairs_none (x ∷ xs) ys none = cc

  none_there : (xs ys : List Way) → is_not_empty xs ≡ false → is_not_empty (pairs_left course right xs ys) ≡ false
  none_there [] ys none = refl
  none_there (x ∷ xs) ys none = cc

  -- one further on the right side, and past its last way
  pairs_on : (xs ys : List Way) → is_not_empty xs ≡ true → is_not_empty (drop 1 ys) ≡ true → pairs_left course right xs (drop 1 ys) ≡ drop 1 (pairs_left course right xs ys)
  pairs_on [] ys there more = cc
  pairs_on (x ∷ xs) [] there more = cc
  pairs_on (x ∷ xs) (y ∷ []) there more = cc
  pairs_on (x ∷ xs) (y ∷ z ∷ ys) there more = refl

  pairs_over : (xs ys : List Way) → is_not_empty xs ≡ true → is_not_empty ys ≡ true → is_not_empty (drop 1 ys) ≡ false
      → flat_map (pairs_with course right) (drop 1 xs) ≡ drop 1 (pairs_left course right xs ys)
  pairs_over [] ys there some over = cc
  pairs_over (x ∷ xs) [] there some over = cc
  pairs_over (x ∷ xs) (y ∷ []) there some over = refl
  pairs_over (x ∷ xs) (y ∷ z ∷ ys) there some over = cc

-- ---- moves

rest_there : Standing → Bool
rest_there s = is_not_empty s.rest

some_way : Course → Operator → Bool
some_way course operator = is_not_empty (ways_on course operator)

-- And of two operands, with these ways
made : Frame → Frame → List Way → Standing
made left right rest = record {
  aims = two_aims together left.aims right.aims;
  shape = both_shape left.shape right.shape;
  operator = together left.operator right.operator;
  rest = rest;
}

-- the right side is seen on two courses
module _ (course : Course) (left left_now right seen now : Standing) (same : frame right ≡ frame seen) (room mid_room new_room start mid end : ℕ) (answer second_answer : Bool) where
  pub both_first : Moved (at_prefix course left) left_now room mid_room start mid answer → Moved (paired course left_now right) now mid_room new_room mid end second_answer
      → Moved (at_prefix course (both_of course left seen)) now room new_room start end second_answer
  unfolding ways_on made
  both_first m n = record {
    stand = n.stand ∙ ap (λ s. paired course s right) m.stand
        ∙ (λ i. made (frame left) (same i) (flat_map (pairs_with course (same i).operator) (ways_on course left.operator)));
    there = n.there;
    kept_room = omega (arith, m.kept_room, n.kept_room);
    grown = omega (arith, m.grown, n.grown);
  }

module _ (course : Course) (left seen : Standing) (room : ℕ) (may : MayGoOn (both_of course left seen) room) where
  pub pair_may_left : MayGoOn left room
  pair_may_left = record { there = (pairs_sides course seen.operator left.rest seen.rest may.there).0; fits = omega (arith, may.fits) }

  pub pair_may_right : MayGoOn seen room
  pair_may_right = record { there = (pairs_sides course seen.operator left.rest seen.rest may.there).1; fits = omega (arith, may.fits) }

  module _ (seen_now : Standing) (mid_room new_room start mid : ℕ) (answer : Bool) (m : Moved (one_on seen) seen_now mid_room new_room start mid answer) (grew : room ≤ mid_room) where
    arrived : is_not_empty (drop 1 seen.rest) ≡ answer
    unfolding rest_there
    arrived = ap rest_there (sym m.stand) ∙ sym m.there

    pub both_next_right : answer ≡ true → Moved (one_on (both_of course left seen)) (both_of course left seen_now) room new_room start mid true
    unfolding made
    both_next_right more =
        let sides = pairs_sides course seen.operator left.rest seen.rest may.there in record {
          stand = ap (both_of course left) m.stand ∙ ap (made (frame left) (frame seen)) (pairs_on course seen.operator left.rest seen.rest sides.0 (arrived ∙ more));
          there = sym more ∙ m.there ∙ sym (pairs_there course seen_now.operator left.rest seen_now.rest sides.0);
          kept_room = omega (arith, grew, m.kept_room);
          grown = m.grown;
        }

    pub both_next_left : (left_now right now : Standing) (next_room last_room next end : ℕ) (left_answer last_answer : Bool) → answer ≡ false → frame right ≡ frame seen_now
        → Moved (one_on left) left_now new_room next_room mid next left_answer → Moved (paired course left_now right) now next_room last_room next end last_answer
        → Moved (one_on (both_of course left seen)) now room last_room start end last_answer
    unfolding made
    both_next_left left_now right now next_room last_room next end left_answer last_answer over same n p =
        let sides = pairs_sides course seen.operator left.rest seen.rest may.there in
        let framed = same ∙ ap frame m.stand in record {
          stand = p.stand ∙ ap (λ s. paired course s right) n.stand
              ∙ (λ i. made (frame left) (framed i) (flat_map (pairs_with course (framed i).operator) (drop 1 left.rest)))
              ∙ ap (made (frame left) (frame seen)) (pairs_over course seen.operator left.rest seen.rest sides.0 sides.1 (arrived ∙ over));
          there = p.there;
          kept_room = omega (arith, grew, m.kept_room, n.kept_room, p.kept_room);
          grown = omega (arith, m.grown, n.grown, p.grown);
        }

-- ---- the loop over the left side

module _ (course : Course) (left right left_now right_now : Standing) (room now_room start end : ℕ) (answer : Bool) (l : Pairing course left right left_now right_now room now_room start end answer) where
  pub pairing_left_may : (first_room : ℕ) → (left.shape.room + right.shape.room) ≤ first_room → first_room ≤ room → answer ≡ true → MayGoOn left_now now_room
  pairing_left_may first_room fits grew there = record {
    there = sym l.there_now ∙ there;
    fits = let a = ap (λ f. f.shape.room) l.same_left in omega (arith, fits, grew, a, l.kept_room);
  }

  module _ (beside : Course) (is : beside ≡ course_now course left_now.rest) (seen seen_now : Standing) (same : frame seen ≡ frame right_now) (mid_room tried_room tried_end : ℕ) (verdict : Bool)
      (grew : now_room ≤ mid_room) (m : Moved (at_prefix beside seen) seen_now mid_room tried_room end tried_end verdict) where
    framed : frame seen ≡ frame right
    framed = same ∙ l.same_right

    known : is_not_empty (ways_on (course_now course left_now.rest) right.operator) ≡ verdict
    unfolding rest_there some_way
    known = (λ i. some_way (sym is i) (sym framed i).operator) ∙ ap rest_there (sym m.stand) ∙ sym m.there

    pub pair_settled : (right_at : Standing) → right_at ≡ seen_now → answer ≡ true → verdict ≡ true
        → Moved (paired course left right) (both_of course left_now right_at) room tried_room start tried_end true
    unfolding made rest_there
    pair_settled right_at at there some = record {
      stand = ap (both_of course left_now) (at ∙ m.stand)
          ∙ ap (λ c. both_of course left_now (at_prefix c seen)) is
          ∙ (λ i. made (l.same_left i) (framed i) (pairs_left course (framed i).operator left_now.rest (ways_on (course_now course left_now.rest) (framed i).operator)))
          ∙ ap (made (frame left) (frame right)) (pairs_here course right.operator left_now.rest (sym l.there_now ∙ there) (known ∙ some) ∙ l.passed);
      there = sym some ∙ m.there ∙ ap rest_there (sym at) ∙ sym (pairs_there course right_at.operator left_now.rest right_at.rest (sym l.there_now ∙ there));
      kept_room = omega (arith, l.kept_room, grew, m.kept_room);
      grown = omega (arith, l.grown, m.grown);
    }

    module _ (right_next next : Standing) (kept : frame right_next ≡ frame seen_now) (next_room next_end : ℕ) (next_answer : Bool) (n : Moved (one_on left_now) next tried_room next_room tried_end next_end next_answer) where
      pub pairing_on : verdict ≡ false → Pairing course left right next right_next room next_room start next_end next_answer
      pairing_on none = record {
        passed = ap (λ s. flat_map (pairs_with course right.operator) s.rest) n.stand ∙ pairs_passed course right.operator left_now.rest (known ∙ none) ∙ l.passed;
        same_left = ap frame n.stand ∙ l.same_left;
        same_right = kept ∙ ap frame m.stand ∙ framed;
        there_now = n.there;
        kept_room = omega (arith, l.kept_room, grew, m.kept_room, n.kept_room);
        grown = omega (arith, l.grown, m.grown, n.grown);
      }

      pub pairing_fewer : answer ≡ true → length next.rest < length left_now.rest
      pairing_fewer there =
          let same_rest = ap (λ s. length s.rest) n.stand in omega (arith, same_rest, fewer left_now.rest (sym l.there_now ∙ there))

  pub pair_end : (right_at : Standing) → frame right_at ≡ frame right_now → answer ≡ false → Moved (paired course left right) (both_of course left_now right_at) room now_room start end false
  unfolding made
  pair_end right_at at none = record {
    stand = (λ i. made (l.same_left i) ((at ∙ l.same_right) i) (pairs_left course ((at ∙ l.same_right) i).operator left_now.rest right_at.rest))
        ∙ ap (made (frame left) (frame right)) (pairs_none course right.operator left_now.rest right_at.rest (sym l.there_now ∙ none) ∙ l.passed);
    there = sym (none_there course right_at.operator left_now.rest right_at.rest (sym l.there_now ∙ none));
    kept_room = l.kept_room;
    grown = l.grown;
  }
