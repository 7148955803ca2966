-- The hits of a node's phrases begin in order where each start that is passed is later than the one before it.
use Rattle.std.proofs.Common.{◌≡◌, refl, ap, sym, ◌∙◌, ℕ, ◌+◌, ◌<◌, ◌≤◌, List, ◌++◌, Bool, true, false, ◌&&◌, ◌||◌, ◌==◌, length, arith}
use Rattle.std.specs.Prelude.{nat_le, nat_lt, if◌then◌else◌, Option, Some, None}
use Rattle.std.specs.List.{list_all}
use Rattle.std.proofs.lemmas.Bool.{and_parts}
use Rattle.std.proofs.lemmas.Bool.Decides.{nat_tests}
use Rattle.std.proofs.lemmas.List.{length-append}
use Rattle.std.proofs.lemmas.List.Folds.{list_all-append}
use Rattle.ft_base.specs.declared.filter.Filter.{Filter}
use Rattle.ft_base.specs.declared.hit.Hit.{Hit}
use Rattle.ft_base.specs.declared.unit.TextUnit.{TextUnit}
use Rattle.all_matches.specs.Positions.{start_in}
use Rattle.ft_operators.specs.declared.rising.Start.{Start}
use Rattle.ft_operators.specs.Phrases.{PhraseState, at_first}
use Rattle.ft_operators.specs.Standing.{Frame}
use Rattle.ft_operators.specs.Starts.{hits_of, rises_to, starts_rise}
use Rattle.ft_operators.specs.steps.Forms.{filtered_frame}
use Rattle.ft_operators.specs.steps.Rising.{Left, left_of_one, left_of_phrase, left_of_two, AreBack, ArePast, IsBack, IsLeast, IsPast, Rounds, begins_at, earlier, follows, is_later, start_of}
use Rattle.ft_operators.proofs.BoundLemmas.{all_both, all_more}

-- ---- back to the first hits

pub back_phrase : (s new : PhraseState) (start end : ℕ) → new ≡ at_first s → start ≤ end → IsBack (left_of_phrase s) (left_of_phrase new) start end
back_phrase s new start end moved grown = record {
  same = ap (λ p. (left_of_phrase p).frame_now) moved;
  all = ap (λ p. p.rest) moved;
  grown = grown;
}

module _ (inside inside_new node node_new : Left) (start end : ℕ) (old : node ≡ inside) (new : node_new ≡ inside_new) where
  pub back_inside : IsBack inside inside_new start end → IsBack node node_new start end
  back_inside b = record {
    same = ap (λ l. l.frame_now) new ∙ b.same ∙ ap (λ l. l.frame_now) (sym old);
    all = ap (λ l. l.hits) new ∙ b.all ∙ ap (λ l. hits_of l.frame_now.operator) (sym old);
    grown = b.grown;
  }

  pub past_inside : (kind : TextUnit) (at : Start) (answer : Bool) → IsPast kind at inside inside_new start end answer → IsPast kind at node node_new start end answer
  past_inside kind at answer b = record {
    same = ap (λ l. l.frame_now) new ∙ b.same ∙ ap (λ l. l.frame_now) (sym old);
    passed = λ p there h. ap (λ l. list_all p l.hits) old ∙ b.passed p there (ap (λ l. list_all p l.hits) (sym new) ∙ h);
    few = let was = ap (λ l. length l.hits) old in let is = ap (λ l. length l.hits) new in omega (arith, was, is, b.few);
    moved = λ said. let was = ap (λ l. length l.hits) old in let is = ap (λ l. length l.hits) new in omega (arith, was, is, b.moved said);
    grown = b.grown;
  }

module _ (joined : Frame → Frame → Frame) (left left_new right right_new : Left) (start end : ℕ) where
  pub back_two : hits_of (joined left.frame_now right.frame_now).operator ≡ hits_of left.frame_now.operator ++ hits_of right.frame_now.operator
      → AreBack left left_new right right_new start end → IsBack (left_of_two joined left right) (left_of_two joined left_new right_new) start end
  back_two both b = record {
    same = λ i. joined (b.same_left i) (b.same_right i);
    all = (λ i. b.all_left i ++ b.all_right i) ∙ sym both;
    grown = b.grown;
  }

  pub past_two : (kind : TextUnit) (at : Start) (answer : Bool) → ArePast kind at left left_new right right_new start end answer
      → IsPast kind at (left_of_two joined left right) (left_of_two joined left_new right_new) start end answer
  past_two kind at answer b = record {
    same = λ i. joined (b.same_left i) (b.same_right i);
    passed = b.passed;
    few = b.few;
    moved = b.moved;
    grown = b.grown;
  }

module _ (kind kind_new : Filter) (same_kind : kind_new ≡ kind) (operand operand_new : Left) (start end : ℕ) where
  pub back_filtered : IsBack operand operand_new start end → IsBack (left_of_one (filtered_frame kind) operand) (left_of_one (filtered_frame kind_new) operand_new) start end
  back_filtered b = record { same = λ i. filtered_frame (same_kind i) (b.same i); all = b.all; grown = b.grown }

  pub past_filtered : (unit : TextUnit) (at : Start) (answer : Bool) → IsPast unit at operand operand_new start end answer
      → IsPast unit at (left_of_one (filtered_frame kind) operand) (left_of_one (filtered_frame kind_new) operand_new) start end answer
  past_filtered unit at answer b = record { same = λ i. filtered_frame (same_kind i) (b.same i); passed = b.passed; few = b.few; moved = b.moved; grown = b.grown }

module _ (made : Frame → Frame) (operand operand_new : Left) (start end : ℕ) where
  pub back_one : hits_of (made operand.frame_now).operator ≡ hits_of operand.frame_now.operator → IsBack operand operand_new start end
      → IsBack (left_of_one made operand) (left_of_one made operand_new) start end
  back_one one b = record { same = ap made b.same; all = b.all ∙ sym one; grown = b.grown }

  pub past_one : (unit : TextUnit) (at : Start) (answer : Bool) → IsPast unit at operand operand_new start end answer
      → IsPast unit at (left_of_one made operand) (left_of_one made operand_new) start end answer
  past_one unit at answer b = record { same = ap made b.same; passed = b.passed; few = b.few; moved = b.moved; grown = b.grown }

-- ---- where nothing is said no hit is left

pub least_inside : (inside node : Left) (answer : Option Start) → node ≡ inside → IsLeast inside answer → IsLeast node answer
least_inside inside node answer is l = record { none = λ none. ap (λ x. length x.hits) is ∙ l.none none }

neither : (a b : Option Start) → earlier a b ≡ None → (a ≡ None) × (b ≡ None)
neither None b h = (refl, h)
neither (Some left) None h = cc
neither (Some left) (Some right) h = by_test (nat_lt right.word left.word) h
  where
    by_test : (c : Bool) → (if c then Some right else Some left) ≡ None → (Some left ≡ None) × (Some right ≡ None)
    by_test true e = cc
    by_test false e = cc

pub least_two : (joined : Frame → Frame → Frame) (node left right : Left) (a b answer : Option Start) → node ≡ left_of_two joined left right → answer ≡ earlier a b
    → IsLeast left a → IsLeast right b → IsLeast node answer
least_two joined node left right a b answer is said l r = record {
  none = λ none.
      let both = neither a b (sym said ∙ none) in
      let hits = ap (λ x. length x.hits) is in
      omega (arith, hits, length-append left.hits right.hits, l.none both.0, r.none both.1);
}

-- ---- rounds

-- what begins at a start that is later follows the last one, and so does what follows that start
at_later : (kind : TextUnit) (last at : Start) (hit : Hit) → is_later last at ≡ true → begins_at kind at hit ≡ true → follows kind last hit ≡ true
at_later kind last at hit later h = grind (arith, nat_tests)

still_later : (kind : TextUnit) (last at : Start) (hit : Hit) → is_later last at ≡ true → follows kind at hit ≡ true → follows kind last hit ≡ true
still_later kind last at hit later h = grind (arith, nat_tests)

-- two that begin there, and one that does beside one that follows
rises_there : (kind : TextUnit) (at : Start) (hit other : Hit) → begins_at kind at hit ≡ true → begins_at kind at other ≡ true → rises_to kind hit other ≡ true
rises_there kind at hit other h k = grind (arith, nat_tests)

rises_from : (kind : TextUnit) (at : Start) (hit other : Hit) → begins_at kind at hit ≡ true → follows kind at other ≡ true → rises_to kind hit other ≡ true
rises_from kind at hit other h k = grind (arith, nat_tests)

rises_behind : (kind : TextUnit) (at : Start) (hit other : Hit) → follows kind at hit ≡ true → begins_at kind at other ≡ true → rises_to kind hit other ≡ true
rises_behind kind at hit other h k = grind (arith, nat_tests)

module _ (kind : TextUnit) (last at : Start) (later : is_later last at ≡ true) (now next : List Hit)
    (passed : (p : Hit → Bool) → ((hit : Hit) → begins_at kind at hit ≡ true → p hit ≡ true) → list_all p next ≡ true → list_all p now ≡ true)
    (follow : list_all (follows kind at) next ≡ true) (rise : starts_rise kind next ≡ true) where
  all_follow : list_all (follows kind last) now ≡ true
  all_follow = passed (follows kind last) (λ hit h. at_later kind last at hit later h) (all_more (follows kind at) (follows kind last) (λ hit h. still_later kind last at hit later h) next follow)

  all_rise : starts_rise kind now ≡ true
  all_rise =
      passed (λ other. list_all (λ hit. rises_to kind hit other) now)
      (λ other there.
      passed (λ hit. rises_to kind hit other) (λ hit h. rises_there kind at hit other h there) (all_more (follows kind at) (λ hit. rises_to kind hit other) (λ hit h. rises_behind kind at hit other h there) next follow))
      (all_both (follows kind at) (λ other. list_all (λ hit. rises_to kind hit other) next) (λ other. list_all (λ hit. rises_to kind hit other) now)
      (λ other f r. passed (λ hit. rises_to kind hit other) (λ hit h. rises_from kind at hit other h f) r) next follow rise)

pub rounds_on : (kind : TextUnit) (old now next : Left) (start mid end : ℕ) (last at : Start) → Rounds kind old now start mid last → is_later last at ≡ true
    → (answer : Bool) → IsPast kind at now next mid end answer → Rounds kind old next start end at
rounds_on kind old now next start mid end last at r later answer p = record {
  same = p.same ∙ r.same;
  rises = λ f h. r.rises (all_follow kind last at later now.hits next.hits p.passed f h) (all_rise kind last at later now.hits next.hits p.passed f h);
  grown = omega (arith, r.grown, p.grown);
}
