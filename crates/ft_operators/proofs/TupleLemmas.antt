-- What a walk shows, after the node inside has moved.
use Rattle.std.proofs.Common.{◌≡◌, refl, ap, sym, ◌∙◌, ℕ, ◌≤◌, List, [], ◌∷◌, Bool, true, false, cond, drop, arith}
use Rattle.std.specs.Prelude.{Option, Some, None}
use Rattle.ft_base.specs.Lists.{is_not_empty}
use Rattle.ft_base.specs.declared.hit.Hit.{Hit}
use Rattle.ft_base.specs.declared.span.Span.{Span}
use Rattle.all_matches.specs.Ways.{Way, ways_of}
use Rattle.ft_operators.specs.declared.course.Course.{Course}
use Rattle.ft_operators.specs.declared.node.Node.{Node}
use Rattle.ft_operators.specs.Course.{every, ways_on}
use Rattle.ft_operators.specs.Phrases.{PhraseState}
use Rattle.ft_operators.specs.Standing.{Frame, Standing, frame, at_prefix, one_on, includes_now}
use Rattle.ft_operators.specs.Walk.{Walk, tuple_of}
use Rattle.ft_operators.specs.steps.Nodes.{standing, frame_of, shape_of}
use Rattle.ft_operators.specs.steps.Walking.{Moved, MayGoOn, IsAimed, IsHeld}
use Rattle.ft_operators.proofs.CourseLemmas.{ways_every}
use Rattle.ft_operators.proofs.FrameLemmas.{frame_same, shape_same}

-- a walk at some ways, or at none
abbrev pub shown : Span → Frame → List Way → Option (List Hit) → Walk
shown item f rest tuple = record { item = item; aims = f.aims; operator = f.operator; rest = rest; tuple = tuple }

pub shown_ways : (item : Span) (f : Frame) (rest : List Way) (there : Bool) (held : List Hit) → there ≡ is_not_empty rest → (there ≡ true → held ≡ includes_now rest)
    → shown item f (cond there rest []) (cond there (Some held) None) ≡ shown item f rest (tuple_of rest)
shown_ways item f [] true held is same = cc
shown_ways item f [] false held is same = refl
shown_ways item f (way ∷ rest) true held is same = ap (λ hits. shown item f (way ∷ rest) (Some hits)) (same refl)
shown_ways item f (way ∷ rest) false held is same = cc

module _ {P : Type 0} (state : P → PhraseState) (course : Course) (old new : Node P) where
  pub standing_shape : (standing state course old).shape ≡ shape_of old
  standing_shape = ap (λ f. f.shape) (frame_same state course old) ∙ shape_same state old

  pub standing_room : (standing state course old).shape.room ≡ (shape_of old).room
  standing_room = ap (λ s. s.room) standing_shape

  -- a walk through the same operator
  module _ (same : frame (standing state course new) ≡ frame (standing state course old)) where
    pub kept_frame : frame_of state new ≡ frame_of state old
    kept_frame = sym (frame_same state course new) ∙ same ∙ frame_same state course old

    pub kept_shape : shape_of new ≡ shape_of old
    kept_shape = sym (shape_same state new) ∙ ap (λ f. f.shape) kept_frame ∙ shape_same state old

  module _ (wanted : Standing) (same : frame wanted ≡ frame (standing state course old)) (room mid_room new_room start end : ℕ) (answer : Bool) (held : List Hit)
      (m : Moved wanted (standing state course new) room mid_room start end answer) where
    moved_frame : frame_of state new ≡ frame_of state old
    moved_frame = kept_frame (ap frame m.stand ∙ same)

    pub moved_shape : shape_of new ≡ shape_of old
    moved_shape = kept_shape (ap frame m.stand ∙ same)

    pub moved_shown : IsHeld answer (standing state course new) mid_room new_room held → (shape_of old).room ≤ room
        → shown course.item (frame_of state new) (cond answer (standing state course new).rest []) (cond answer (Some held) None) ≡ shown course.item (frame_of state old) wanted.rest (tuple_of wanted.rest)
    moved_shown h fits =
        shown_ways course.item (frame_of state new) (standing state course new).rest answer held m.there
        (λ there.
        let same_room = ap (λ s. s.shape.room) m.stand in
        let start_room = ap (λ f. f.shape.room) same in
        h.hits there (sym m.there ∙ there) (omega (arith, same_room, start_room, standing_room, fits, m.kept_room)))
        ∙ (λ i. shown course.item (moved_frame i) (m.stand i).rest (tuple_of (m.stand i).rest))

  pub first_shown : (room mid_room new_room start end : ℕ) (answer : Bool) (held : List Hit) → Moved (at_prefix course (standing state course old)) (standing state course new) room mid_room start end answer
      → IsHeld answer (standing state course new) mid_room new_room held → (shape_of old).room ≤ room
      → shown course.item (frame_of state new) (cond answer (standing state course new).rest []) (cond answer (Some held) None)
      ≡ shown course.item (frame_of state old) (ways_on course (frame_of state old).operator) (tuple_of (ways_on course (frame_of state old).operator))
  first_shown room mid_room new_room start end answer held m h fits =
      moved_shown (at_prefix course (standing state course old)) refl room mid_room new_room start end answer held m h fits
      ∙ ap (λ f. shown course.item (frame_of state old) (ways_on course f.operator) (tuple_of (ways_on course f.operator))) (frame_same state course old)

  -- a walk that is at a way

  pub walk_there : (there : Bool) → is_not_empty (cond there (standing state course old).rest []) ≡ true → is_not_empty (standing state course old).rest ≡ true
  walk_there true h = h
  walk_there false h = cc

  pub walk_may : (there : Bool) (room : ℕ) → is_not_empty (cond there (standing state course old).rest []) ≡ true → (shape_of old).room ≤ room → MayGoOn (standing state course old) room
  walk_may there room h fits = record { there = walk_there there h; fits = omega (arith, standing_room, fits) }

  pub next_shown : (there : Bool) → is_not_empty (cond there (standing state course old).rest []) ≡ true
      → (room mid_room new_room start end : ℕ) (answer : Bool) (held : List Hit) → Moved (one_on (standing state course old)) (standing state course new) room mid_room start end answer
      → IsHeld answer (standing state course new) mid_room new_room held → (shape_of old).room ≤ room
      → shown course.item (frame_of state new) (cond answer (standing state course new).rest []) (cond answer (Some held) None)
      ≡ shown course.item (frame_of state old) (drop 1 (cond there (standing state course old).rest [])) (tuple_of (drop 1 (cond there (standing state course old).rest [])))
  next_shown true h room mid_room new_room start end answer held m g fits = moved_shown (one_on (standing state course old)) refl room mid_room new_room start end answer held m g fits
  next_shown false h room mid_room new_room start end answer held m g fits = cc

  pub aimed_shape : (doc : ℕ) (span : Span) (start end : ℕ) → IsAimed doc span (frame_of state old) (frame_of state new) start end → shape_of new ≡ shape_of old
  aimed_shape doc span start end a = sym (shape_same state new) ∙ ap (λ f. f.shape) a.framed ∙ shape_same state old

-- a node that was looked at, and then moved
module _ {P : Type 0} (state : P → PhraseState) (course : Course) (old seen : Node P) (same : frame_of state seen ≡ frame_of state old) where
  pub told_shape : (standing state course seen).shape ≡ shape_of old
  told_shape = standing_shape state course seen seen ∙ sym (shape_same state seen) ∙ ap (λ f. f.shape) same ∙ shape_same state old

  module _ (new : Node P) (kept : frame (standing state course new) ≡ frame (standing state course seen)) where
    pub told_frame : frame_of state new ≡ frame_of state old
    told_frame = kept_frame state course seen new kept ∙ same

    pub told_kept : shape_of new ≡ shape_of old
    told_kept = sym (shape_same state new) ∙ ap (λ f. f.shape) told_frame ∙ shape_same state old

pub answer_shown : (there : Bool) (rest : List Way) → there ≡ is_not_empty rest → there ≡ is_not_empty (cond there rest [])
answer_shown true rest is = is
answer_shown false rest is = refl

pub every_shown : (item : Span) (f : Frame) → shown item f (ways_on (every item) f.operator) (tuple_of (ways_on (every item) f.operator)) ≡ shown item f (ways_of item f.operator) (tuple_of (ways_of item f.operator))
every_shown item f = ap (λ ways. shown item f ways (tuple_of ways)) (ways_every item f.operator)
