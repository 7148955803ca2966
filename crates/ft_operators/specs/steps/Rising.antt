-- Looking at the hits of a node's phrases, in the order of the text, for whether they begin in the order of their sentences or paragraphs.
use Rattle.std.specs.Prelude.{◌≡◌, ℕ, ◌<◌, ◌≤◌, Bool, true, ◌&&◌, ◌||◌, ◌==◌, nat_le, nat_lt, List, ◌++◌, length, Option, Some, None, if◌then◌else◌}
use Rattle.std.specs.List.{list_all}
use Rattle.ft_base.specs.declared.hit.Hit.{Hit}
use Rattle.ft_base.specs.declared.unit.TextUnit.{TextUnit}
use Rattle.all_matches.specs.Positions.{start_in}
use Rattle.ft_operators.specs.declared.node.Node.{Node, Phrase, Choice', Both', MildNot', Negated', Filtered'}
use Rattle.ft_operators.specs.declared.node.Fork.{Fork}
use Rattle.ft_operators.specs.declared.node.Pair.{Pair}
use Rattle.ft_operators.specs.declared.node.Negation.{Negation}
use Rattle.ft_operators.specs.declared.node.Sieve.{Sieve}
use Rattle.ft_operators.specs.declared.rising.Start.{Start}
use Rattle.ft_operators.specs.Phrases.{PhraseState}
use Rattle.ft_operators.specs.Standing.{Frame, frame}
use Rattle.ft_operators.specs.Starts.{hits_of, starts_rise}
use Rattle.ft_operators.specs.steps.Forms.{phrase_of, choice_frame, both_frame, apart_frame, negated_frame, filtered_frame}

-- what is left of the hits of a node's phrases, and its frame
pub record Left : Type 0 where
  pub frame_now : Frame
  pub hits : List Hit

abbrev pub left_of_two : (Frame → Frame → Frame) → Left → Left → Left
left_of_two joined left right = record { frame_now = joined left.frame_now right.frame_now; hits = left.hits ++ right.hits }

abbrev pub left_of_one : (Frame → Frame) → Left → Left
left_of_one made operand = record { frame_now = made operand.frame_now; hits = operand.hits }

abbrev pub left_of_phrase : PhraseState → Left
left_of_phrase state = record { frame_now = frame (phrase_of state); hits = state.rest }

unfoldable pub left_of : {P : Type 0} → (P → PhraseState) → Node P → Left
left_of state (Phrase found) = left_of_phrase (state found)
left_of state (Choice' p left right second) = left_of_two choice_frame (left_of state left) (left_of state right)
left_of state (Both' p left right) = left_of_two both_frame (left_of state left) (left_of state right)
left_of state (MildNot' p left right) = left_of_two apart_frame (left_of state left) (left_of state right)
left_of state (Negated' p operand there) = left_of_one negated_frame (left_of state operand)
left_of state (Filtered' p operand kind lead) = left_of_one (filtered_frame kind) (left_of state operand)

-- whether a hit begins at a word and a number of the unit, and whether it does so at a later word and no lesser number
abbrev pub begins_at : TextUnit → Start → Hit → Bool
begins_at kind start hit = (hit.from == start.word) && (start_in kind hit == start.number)

abbrev pub is_later : Start → Start → Bool
is_later start other = nat_lt start.word other.word && nat_le start.number other.number

abbrev pub start_of : TextUnit → Hit → Start
start_of kind hit = record { word = hit.from; number = start_in kind hit }

abbrev pub follows : TextUnit → Start → Hit → Bool
follows kind start hit = begins_at kind start hit || is_later start (start_of kind hit)

-- nodes whose phrases went to their first hits
pub record IsBack (old new : Left) (start end : ℕ) : Type 0 where
  pub same : new.frame_now ≡ old.frame_now
  pub all : new.hits ≡ hits_of old.frame_now.operator
  pub grown : start ≤ end

pub record AreBack (left left_new right right_new : Left) (start end : ℕ) : Type 0 where
  pub same_left : left_new.frame_now ≡ left.frame_now
  pub all_left : left_new.hits ≡ hits_of left.frame_now.operator
  pub same_right : right_new.frame_now ≡ right.frame_now
  pub all_right : right_new.hits ≡ hits_of right.frame_now.operator
  pub grown : start ≤ end

-- the start that stands first in the text
abbrev pub earlier : Option Start → Option Start → Option Start
earlier None right = right
earlier (Some left) None = Some left
earlier (Some left) (Some right) = if nat_lt right.word left.word then Some right else Some left

-- where nothing is said no hit is left
pub record IsLeast (now : Left) (answer : Option Start) : Type 0 where
  pub none : answer ≡ None → length now.hits ≡ 0

-- phrases that passed hits which begin there: what is true of each of those is true of all hits that were left where it is of those that are,
-- and some were passed if that is answered
pub record IsPast (kind : TextUnit) (at : Start) (old new : Left) (start end : ℕ) (answer : Bool) : Type 0 where
  pub same : new.frame_now ≡ old.frame_now
  pub passed : (p : Hit → Bool) → ((hit : Hit) → begins_at kind at hit ≡ true → p hit ≡ true) → list_all p new.hits ≡ true → list_all p old.hits ≡ true
  pub few : length new.hits ≤ length old.hits
  pub moved : answer ≡ true → length new.hits < length old.hits
  pub grown : start ≤ end

pub record ArePast (kind : TextUnit) (at : Start) (left left_new right right_new : Left) (start end : ℕ) (answer : Bool) : Type 0 where
  pub same_left : left_new.frame_now ≡ left.frame_now
  pub same_right : right_new.frame_now ≡ right.frame_now
  pub passed : (p : Hit → Bool) → ((hit : Hit) → begins_at kind at hit ≡ true → p hit ≡ true) → list_all p (left_new.hits ++ right_new.hits) ≡ true → list_all p (left.hits ++ right.hits) ≡ true
  pub few : length (left_new.hits ++ right_new.hits) ≤ length (left.hits ++ right.hits)
  pub moved : answer ≡ true → length (left_new.hits ++ right_new.hits) < length (left.hits ++ right.hits)
  pub grown : start ≤ end

-- what the loop over starts keeps: if the hits that are left follow the last start and begin in order, all do
pub record Rounds (kind : TextUnit) (old now : Left) (start end : ℕ) (last : Start) : Type 0 where
  pub same : now.frame_now ≡ old.frame_now
  pub rises : list_all (follows kind last) now.hits ≡ true → starts_rise kind now.hits ≡ true → starts_rise kind (hits_of old.frame_now.operator) ≡ true
  pub grown : start ≤ end

-- what was answered
pub record IsRisen (kind : TextUnit) (old new : Left) (start end : ℕ) (answer : Bool) : Type 0 where
  pub same : new.frame_now ≡ old.frame_now
  pub rises : answer ≡ true → starts_rise kind (hits_of old.frame_now.operator) ≡ true
  pub grown : start ≤ end

-- what the loop over the hits of one phrase keeps
pub record PassingAt (kind : TextUnit) (at : Start) (old now : PhraseState) (start end : ℕ) (moved : Bool) : Type 0 where
  pub same_aims : now.aims ≡ old.aims
  pub same_hits : now.hits ≡ old.hits
  pub passed : (p : Hit → Bool) → ((hit : Hit) → begins_at kind at hit ≡ true → p hit ≡ true) → list_all p now.rest ≡ true → list_all p old.rest ≡ true
  pub few : length now.rest ≤ length old.rest
  pub fewer : moved ≡ true → length now.rest < length old.rest
  pub grown : start ≤ end
