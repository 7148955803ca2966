-- The ways of a mild not: those of the left side that stand out of each of the right side.
use Rattle.std.proofs.Common.{◌≡◌, refl, ap, sym, ◌∙◌, subst, ℕ, ◌<◌, ◌≤◌, List, [], ◌∷◌, ◌++◌, Bool, true, false, not, ◌&&◌, ◌||◌, cond, take, drop, length, arith}
use Rattle.std.proofs.lemmas.List.{take_at, drop_at}
use Rattle.std.specs.Prelude.{filter}
use Rattle.std.specs.List.{list_any, list_all}
use Rattle.std.proofs.Math.Bool.{or_assoc, and_assoc, or-false, and-true}
use Rattle.ft_base.specs.Lists.{is_not_empty}
use Rattle.ft_base.specs.declared.hit.Hit.{Hit}
use Rattle.all_matches.specs.MildNot.{stands_out}
use Rattle.all_matches.specs.Ways.{Way, apart, way_includes, standing_out}
use Rattle.ft_operators.specs.declared.course.Course.{Course}
use Rattle.ft_operators.specs.Course.{admitted, course_out, passes_out, stands_on, ways_on}
use Rattle.ft_operators.specs.declared.standing_out.Tried.{Tried}
use Rattle.ft_operators.specs.Standing.{Frame, Standing, frame, two_aims, at_prefix, one_on, includes_now}
use Rattle.ft_operators.specs.steps.Apart.{with_includes, none_tried, tried_ways, IsTried, MayTry, Trying, Sifting}
use Rattle.ft_operators.specs.steps.Forms.{apart_of, apart_left, apart_shape, apart_sifted}
use Rattle.ft_operators.specs.steps.Walking.{Gathered, Moved, MayGoOn}
use Rattle.ft_operators.proofs.SieveLemmas.{fewer}

with_rest : Standing → List Way → Standing
with_rest s rest = record { aims = s.aims; shape = s.shape; operator = s.operator; rest = rest }

-- ---- one way after the other

tried_is : (left : List Hit) (tried : Tried) (ways : List Way)
    → tried_ways left tried ways ≡ record { some = tried.some || list_any (λ way. is_not_empty (way_includes way)) ways; all = tried.all && list_all (λ way. stands_out left (way_includes way)) ways }
tried_is left tried [] = λ i. record { some = sym (or-false tried.some) i; all = sym (and-true tried.all) i }
tried_is left tried (way ∷ rest) =
    tried_is left (with_includes left (way_includes way) tried) rest
    ∙ (λ i. record {
      some = or_assoc tried.some (is_not_empty (way_includes way)) (list_any (λ w. is_not_empty (way_includes w)) rest) i;
      all = and_assoc tried.all (stands_out left (way_includes way)) (list_all (λ w. stands_out left (way_includes w)) rest) i;
    })

pub tried_all : (left : List Hit) (right : List Way) (so_far : Tried) → so_far ≡ tried_ways left none_tried right → (not so_far.some || so_far.all) ≡ admitted right left
tried_all left right so_far is = ap (λ t. not t.some || t.all) (is ∙ tried_is left none_tried right)

-- whatever follows
barred : (left : List Hit) (tried : Tried) (ways : List Way) → (tried.some && not tried.all) ≡ true → (not (tried_ways left tried ways).some || (tried_ways left tried ways).all) ≡ false
barred left tried ways h = ap (λ t. not t.some || t.all) (tried_is left tried ways) ∙ stays tried.some tried.all _ _ h
  where
    stays : (some all more rest : Bool) → (some && not all) ≡ true → (not (some || more) || (all && rest)) ≡ false
    stays true true more rest h = cc
    stays true false more rest h = refl
    stays false all more rest h = cc

-- ---- the ways that stand out

pub out_is : (left right : List Way) → standing_out left right ≡ filter (λ a. admitted right (way_includes a)) left
out_is left right = by_test (list_any (λ way. is_not_empty (way_includes way)) right) left
  where
    by_test : (b : Bool) (ways : List Way) → cond b (filter (λ a. list_all (λ w. stands_out (way_includes a) (way_includes w)) right) ways) ways
        ≡ filter (λ a. not b || list_all (λ w. stands_out (way_includes a) (way_includes w)) right) ways
    by_test true ways = refl
    by_test false [] = refl
    by_test false (a ∷ more) = ap (λ ws. a ∷ ws) (by_test false more)

-- a test of the first of some ways by its includes
module _ (test : List Hit → Bool) where
  abbrev stands : Way → Bool
  stands a = test (way_includes a)

  here_admitted : (left : List Way) → is_not_empty left ≡ true → test (includes_now left) ≡ true → apart_left stands left ≡ filter stands left
  here_admitted [] there verdict = cc
  here_admitted (a ∷ more) there verdict = ap (λ b. cond b (a ∷ filter stands more) (filter stands more)) (sym verdict)

  here_passed : (left : List Way) → test (includes_now left) ≡ false → filter stands (drop 1 left) ≡ filter stands left
  here_passed [] bars = refl
  here_passed (a ∷ more) bars = ap (λ b. cond b (a ∷ filter stands more) (filter stands more)) (sym bars)

module _ (stands : Way → Bool) where
  none_out : (left : List Way) → is_not_empty left ≡ false → apart_left stands left ≡ filter stands left
  none_out [] none = refl
  none_out (a ∷ more) none = cc

  one_out : (left : List Way) → filter stands (drop 1 left) ≡ drop 1 (apart_left stands left)
  one_out [] = refl
  one_out (a ∷ more) = refl

  pub apart_there : (left : List Way) → is_not_empty (apart_left stands left) ≡ is_not_empty left
  apart_there [] = refl
  apart_there (a ∷ more) = refl

  pub apart_includes : (left : List Way) → includes_now (apart_left stands left) ≡ includes_now left
  apart_includes [] = refl
  apart_includes (a ∷ more) = refl

-- ---- moves

rest_there : Standing → Bool
rest_there s = is_not_empty s.rest

module _ (course : Course) (left left_now right now : Standing) (room mid_room new_room start mid end : ℕ) (answer second_answer : Bool) where
  pub apart_first : Moved (at_prefix course left) left_now room mid_room start mid answer → Moved (apart_sifted course left_now right) now mid_room new_room mid end second_answer
      → Moved (at_prefix course (apart_of course left right)) now room new_room start end second_answer
  unfolding ways_on
  apart_first m n = record {
    stand = n.stand ∙ ap (λ s. apart_sifted course s right) m.stand;
    there = n.there;
    kept_room = omega (arith, m.kept_room, n.kept_room);
    grown = omega (arith, m.grown, n.grown);
  }

  pub apart_next : Moved (one_on left) left_now room mid_room start mid answer → Moved (apart_sifted course left_now right) now mid_room new_room mid end second_answer
      → Moved (one_on (apart_of course left right)) now room new_room start end second_answer
  unfolding with_rest
  apart_next m n = record {
    stand = n.stand ∙ ap (λ s. apart_sifted course s right) m.stand ∙ ap (with_rest (apart_of course left right)) (one_out (stands_on course right.operator) left.rest);
    there = n.there;
    kept_room = omega (arith, m.kept_room, n.kept_room);
    grown = omega (arith, m.grown, n.grown);
  }

-- mild not of two operands, with these ways
made : Frame → Frame → List Way → Standing
made left right rest = record {
  aims = two_aims apart left.aims right.aims;
  shape = apart_shape left.shape right.shape;
  operator = apart left.operator right.operator;
  rest = rest;
}

module _ (course : Course) (left right left_now right_now : Standing) (room now_room start end : ℕ) (answer : Bool) (l : Sifting course left right left_now right_now room now_room start end answer) where
  pub sifting_may : (first_room : ℕ) → (apart_of course left right).shape.room ≤ first_room → first_room ≤ room → answer ≡ true → MayGoOn (apart_of course left_now right_now) now_room
  sifting_may first_room fits grew there = record {
    there = apart_there (stands_on course right_now.operator) left_now.rest ∙ sym l.there_now ∙ there;
    fits =
        let a = ap (λ f. f.shape.room) l.same_left in
        let b = ap (λ f. f.shape.room) l.same_right in
        omega (arith, fits, grew, a, b, l.kept_room);
  }

  module _ (left_tried right_tried : Standing) (tried_room tried_end : ℕ) (verdict : Bool) (e : IsTried course left_now right_now left_tried right_tried now_room tried_room end tried_end verdict) where
    known : verdict ≡ passes_out course right.operator (includes_now left_now.rest)
    known = e.tried ∙ ap (λ f. passes_out course f.operator (includes_now left_now.rest)) l.same_right

    pub apart_settled : answer ≡ true → verdict ≡ true → Moved (apart_sifted course left right) (apart_of course left_tried right_tried) room tried_room start tried_end true
    unfolding made rest_there
    apart_settled there admits = record {
      stand = (λ i. made (frame (e.same_left i)) (e.same_right i) (apart_left (stands_on course (e.same_right i).operator) (e.same_left i).rest))
          ∙ (λ i. made (l.same_left i) (l.same_right i) (apart_left (stands_on course (l.same_right i).operator) left_now.rest))
          ∙ ap (made (frame left) (frame right)) (here_admitted (passes_out course right.operator) left_now.rest (sym l.there_now ∙ there) (sym known ∙ admits) ∙ l.passed);
      there = sym there ∙ l.there_now ∙ ap rest_there (sym e.same_left) ∙ sym (apart_there (stands_on course right_tried.operator) left_tried.rest);
      kept_room = omega (arith, l.kept_room, e.kept_room);
      grown = omega (arith, l.grown, e.grown);
    }

    pub sifting_left_may : (first_room : ℕ) → (apart_of course left right).shape.room ≤ first_room → first_room ≤ room → answer ≡ true → MayGoOn left_tried tried_room
    sifting_left_may first_room fits grew there = subst (λ s. MayGoOn s tried_room) (sym e.same_left) record {
      there = sym l.there_now ∙ there;
      fits =
          let a = ap (λ f. f.shape.room) l.same_left in
          omega (arith, fits, grew, a, l.kept_room, e.kept_room);
    }

    pub sifting_weight : left_tried.shape.weight ≡ left.shape.weight
    sifting_weight = ap (λ s. s.shape.weight) e.same_left ∙ ap (λ f. f.shape.weight) l.same_left

    module _ (next : Standing) (next_room next_end : ℕ) (next_answer : Bool) (m : Moved (one_on left_tried) next tried_room next_room tried_end next_end next_answer) where
      pub sifting_on : verdict ≡ false → Sifting course left right next right_tried room next_room start next_end next_answer
      sifting_on bars =
          let same = m.stand ∙ ap one_on e.same_left in record {
            passed = ap (λ s. filter (stands_on course right.operator) s.rest) same ∙ here_passed (passes_out course right.operator) left_now.rest (sym known ∙ bars) ∙ l.passed;
            same_left = ap frame same ∙ l.same_left;
            same_right = e.same_right ∙ l.same_right;
            there_now = m.there;
            kept_room = omega (arith, l.kept_room, e.kept_room, m.kept_room);
            grown = omega (arith, l.grown, e.grown, m.grown);
          }

      pub sifting_fewer : answer ≡ true → length next.rest < length left_now.rest
      sifting_fewer there =
          let same = ap (λ s. length s.rest) (m.stand ∙ ap one_on e.same_left) in
          omega (arith, same, fewer left_now.rest (sym l.there_now ∙ there))

  pub apart_end : answer ≡ false → Moved (apart_sifted course left right) (apart_of course left_now right_now) room now_room start end false
  unfolding made
  apart_end none = record {
    stand = (λ i. made (l.same_left i) (l.same_right i) (apart_left (stands_on course (l.same_right i).operator) left_now.rest))
        ∙ ap (made (frame left) (frame right)) (none_out (stands_on course right.operator) left_now.rest (sym l.there_now ∙ none) ∙ l.passed);
    there = sym none ∙ l.there_now ∙ sym (apart_there (stands_on course right_now.operator) left_now.rest);
    kept_room = l.kept_room;
    grown = l.grown;
  }

-- ---- the right side

tried_more : (left : List Hit) (tried : Tried) (ways : List Way) → is_not_empty ways ≡ true
    → tried_ways left (with_includes left (includes_now ways) tried) (drop 1 ways) ≡ tried_ways left tried ways
tried_more left tried [] there = cc
tried_more left tried (way ∷ rest) there = refl

tried_end : (left : List Hit) (tried : Tried) (ways : List Way) → is_not_empty ways ≡ false → tried ≡ tried_ways left tried ways
tried_end left tried [] none = refl
tried_end left tried (way ∷ rest) none = cc

module _ (course : Course) (left right left_now right_now : Standing) (room now_room start end : ℕ) (so_far : Tried) (answer : Bool) (l : Trying course left right left_now right_now room now_room start end so_far answer) where
  pub trying_may : (outer : Course) (first_room : ℕ) → MayGoOn (apart_of outer left right) first_room → first_room ≤ room → answer ≡ true → MayTry left_now right_now now_room
  unfolding rest_there
  trying_may outer first_room may grew there = record {
    left_there = ap rest_there l.same_left ∙ sym (apart_there (stands_on outer right.operator) left.rest) ∙ may.there;
    right_there = sym l.there_now ∙ there;
    fits =
        let a = ap (λ s. s.shape.room) l.same_left in
        let b = ap (λ f. f.shape.room) l.same_right in
        omega (arith, may.fits, grew, a, b, l.kept_room);
  }

  pub trying_weight : right_now.shape.weight ≡ right.shape.weight
  trying_weight = ap (λ f. f.shape.weight) l.same_right

  pub trying_on : (tried : Tried) (next : Standing) (mid_room next_room next_end : ℕ) (next_answer : Bool) → answer ≡ true
      → tried ≡ with_includes (includes_now left_now.rest) (includes_now right_now.rest) so_far → now_room ≤ mid_room
      → Moved (one_on right_now) next mid_room next_room end next_end next_answer → Trying course left right left_now next room next_room start next_end tried next_answer
  trying_on tried next mid_room next_room next_end next_answer there is grew m = record {
    same_left = l.same_left;
    same_right = ap frame m.stand ∙ l.same_right;
    tried = (λ i. tried_ways (includes_now left.rest) ((is ∙ ap (λ s. with_includes (includes_now s.rest) (includes_now right_now.rest) so_far) l.same_left) i) (m.stand i).rest)
        ∙ tried_more (includes_now left.rest) so_far right_now.rest (sym l.there_now ∙ there) ∙ l.tried;
    there_now = m.there;
    kept_room = omega (arith, grew, l.kept_room, m.kept_room);
    grown = omega (arith, l.grown, m.grown);
  }

  pub trying_fewer : (next : Standing) (mid_room next_room next_end : ℕ) (next_answer : Bool) → answer ≡ true
      → Moved (one_on right_now) next mid_room next_room end next_end next_answer → length next.rest < length right_now.rest
  trying_fewer next mid_room next_room next_end next_answer there m =
      let same = ap (λ s. length s.rest) m.stand in omega (arith, same, fewer right_now.rest (sym l.there_now ∙ there))

  -- told of the right side on any course
  module _ (outer : Course) (out : course ≡ course_out outer (includes_now left.rest)) (seen seen_now : Standing) (same : frame seen ≡ frame right) (same_now : frame seen_now ≡ frame right_now) where
    tried_on : (mid_room : ℕ) (verdict : Bool) → now_room ≤ mid_room → verdict ≡ admitted (ways_on course right.operator) (includes_now left.rest)
        → IsTried outer left seen left_now seen_now room mid_room start end verdict
    tried_on mid_room verdict grew is = record {
      same_left = l.same_left;
      same_right = same_now ∙ l.same_right ∙ sym same;
      tried = is ∙ (λ i. admitted (ways_on (out i) (sym same i).operator) (includes_now left.rest));
      kept_room = omega (arith, grew, l.kept_room);
      grown = l.grown;
    }

    pub tried_barred : (tried : Tried) (mid_room : ℕ) → answer ≡ true → tried ≡ with_includes (includes_now left_now.rest) (includes_now right_now.rest) so_far
        → (tried.some && not tried.all) ≡ true → now_room ≤ mid_room → IsTried outer left seen left_now seen_now room mid_room start end false
    tried_barred tried mid_room there is bars grew =
        let hits = includes_now left.rest in
        let same = is ∙ ap (λ s. with_includes (includes_now s.rest) (includes_now right_now.rest) so_far) l.same_left in
        tried_on mid_room false grew
        (sym (barred hits tried (drop 1 right_now.rest) bars)
        ∙ tried_all hits (ways_on course right.operator) (tried_ways hits tried (drop 1 right_now.rest))
        (ap (λ t. tried_ways hits t (drop 1 right_now.rest)) same ∙ tried_more hits so_far right_now.rest (sym l.there_now ∙ there) ∙ l.tried))

    pub tried_out : (verdict : Bool) → verdict ≡ (not so_far.some || so_far.all) → answer ≡ false → IsTried outer left seen left_now seen_now room now_room start end verdict
    tried_out verdict is none =
        tried_on now_room verdict (omega arith)
        (is ∙ tried_all (includes_now left.rest) (ways_on course right.operator) so_far
        (tried_end (includes_now left.rest) so_far right_now.rest (sym l.there_now ∙ none) ∙ l.tried))

-- the includes of both sides, one after the other
pub tried_pair : (left right : Standing) (room cleared_room left_room new_room : ℕ) (cleared held new : List Hit) (tried : Tried) (middle : ℕ) → cleared ≡ [] → cleared_room ≡ room → MayTry left right room
    → Gathered left cleared_room left_room cleared held → Gathered right left_room new_room held new → middle ≡ length held
    → with_includes (take middle new) (drop middle new) tried ≡ with_includes (includes_now left.rest) (includes_now right.rest) tried
tried_pair left right room cleared_room left_room new_room cleared held new tried middle none same may g h at =
    let few = g.few may.left_there in
    let empty = ap length none in
    let first = g.hits may.left_there (omega (arith, may.fits, same, empty)) ∙ ap (λ hits. hits ++ includes_now left.rest) none in
    let size = ap length first in
    let both = h.hits may.right_there (omega (arith, may.fits, same, few, size, g.kept_room)) ∙ ap (λ hits. hits ++ includes_now right.rest) first in
    let middle_at : length (includes_now left.rest) ≡ middle = omega (arith, at, size) in
    (λ i. with_includes
    ((ap (take middle) both ∙ take_at (includes_now left.rest) (includes_now right.rest) middle middle_at) i)
    ((ap (drop middle) both ∙ drop_at (includes_now left.rest) (includes_now right.rest) middle middle_at) i)
    tried)
