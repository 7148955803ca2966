-- A search through all variants for the first spot after another one at which one of them stands.
use Rattle.std.proofs.Common.{◌≡◌, refl, sym, ap, ◌∙◌, ℕ, ◌+◌, ◌<◌, ◌≤◌, ◌==◌, Bool, true, false, cond, ◌&&◌, ◌||◌, nat_lt, List, ◌∷◌, map, length, get_or, set, drop, subst, arith, length-set, drop-set-lt}
use Rattle.std.specs.List.{list_any}
use Rattle.std.proofs.lemmas.Bool.{and_left, and_right, eqb-true}
use Rattle.std.proofs.lemmas.Bool.Decides.{nat_tests}
use Rattle.std.proofs.lemmas.List.{drop_more, drop_all, length-map}
use Rattle.std.proofs.lemmas.List.Folds.{list_any_at}
use Rattle.ft_base.specs.Hits.{HitPlace}
use Rattle.place_merges.specs.declared.item.Variant.{Variant}
use Rattle.place_merges.specs.declared.spot.Spot.{Spot}
use Rattle.place_merges.specs.Sources.{lists_of}
use Rattle.place_merges.specs.Spots.{spot}
use Rattle.place_merges.specs.steps.Searching.{Shown, Leads, SameFrom, Moved, shown_all, variant_stands}
use Rattle.place_merges.specs.steps.Spotting.{LeadsAfter, SameAfter, is_before, variant_at}
use Rattle.place_merges.proofs.MoveLemmas.{moved_on, moved_in, any_set}

-- ---- the order of spots

pub before_trans : (a b c : Spot) → is_before a b ≡ true → is_before b c ≡ true → is_before a c ≡ true
before_trans a b c h k = grind (arith, nat_tests, h, k)

before_sooner : (a b c : Spot) → is_before a b ≡ true → is_before c b ≡ false → is_before a c ≡ true
before_sooner a b c h k = grind (arith, nat_tests, h, k)

-- ---- one variant

module _ {H : Type 0} (stands : H → HitPlace) (to : ℕ) (variant : Variant H) (at : Spot) where
  abbrev long : ℕ
  long = length variant.items.items

  abbrev is_at : Spot → Bool
  is_at other = variant_at stands to variant other

  -- the first place at which so many words may stand after the spot
  abbrev least : ℕ
  least = cond (nat_lt at.words long) at.place (at.place + 1)

  start_at : at.place ≤ least
  start_at = by_test (nat_lt at.words long)
    where
      by_test : (b : Bool) → at.place ≤ cond b at.place (at.place + 1)
      by_test true = omega arith
      by_test false = omega arith

  starts : (other : Spot) → is_before at other ≡ true → long ≡ other.words → least ≤ other.place
  starts other h same = by_test (nat_lt at.words long) refl
    where
      by_test : (b : Bool) → nat_lt at.words long ≡ b → cond b at.place (at.place + 1) ≤ other.place
      by_test true e = grind (arith, nat_tests, h)
      by_test false e = grind (arith, nat_tests, h, e, same)

  place_before : (other : Spot) (next : ℕ) → is_before other (spot next 0) ≡ true → other.place < next
  place_before other next h = grind (arith, nat_tests, h)

  ahead_of : (next : ℕ) → at.place < next → is_before at (spot next 0) ≡ true
  ahead_of next h = grind (arith, nat_tests)

  module _ (next : ℕ) (leads : Leads (variant_stands stands to variant) least to next) where
    pub jump_leads : (next ≡ least → ⊥) → LeadsAfter is_at at to (spot next 0)
    jump_leads other_place =
        let far = leads.from in
        let least = start_at in
        let most = leads.to in
        record {
          ahead = ahead_of next (omega (arith, far, least, other_place));
          last = omega (arith, most);
          there = λ some. absurd (omega (arith, some));
          none = λ other a b some. by_size other a b (long == other.words) refl;
        }
      where
        by_size : (other : Spot) → is_before at other ≡ true → is_before other (spot next 0) ≡ true → (b : Bool) → (long == other.words) ≡ b → is_at other ≡ false
        by_size other a b true e =
            and_right (long == other.words) (variant_stands stands to variant other.place)
            (leads.none other.place (starts other a (eqb-true long other.words e)) (place_before other next b))
        by_size other a b false e = and_left (long == other.words) (variant_stands stands to variant other.place) e

  pub same_after : (after : Variant H) → map (lists_of stands) after.items.items ≡ map (lists_of stands) variant.items.items
      → SameFrom least (variant_stands stands to after) (variant_stands stands to variant) → SameAfter at (variant_at stands to after) is_at
  same_after after lists same =
      let size : length after.items.items ≡ long = sym (length-map after.items.items (lists_of stands)) ∙ ap length lists ∙ length-map variant.items.items (lists_of stands) in
      record {
        same = λ other a.
            ap (λ n. (n == other.words) && variant_stands stands to after other.place) size
            ∙ by_size other a (long == other.words) refl;
      }
    where
      by_size : (other : Spot) → is_before at other ≡ true → (b : Bool) → (long == other.words) ≡ b
          → ((long == other.words) && variant_stands stands to after other.place) ≡ ((long == other.words) && variant_stands stands to variant other.place)
      by_size other a true e = ap (λ t. (long == other.words) && t) (same.same other.place (starts other a (eqb-true long other.words e)))
      by_size other a false e =
          and_left (long == other.words) (variant_stands stands to after other.place) e
          ∙ sym (and_left (long == other.words) (variant_stands stands to variant other.place) e)

  -- the same by what the place is made of
  module _ (place words : ℕ) (size : words ≡ long) (is : place ≡ cond (nat_lt at.words words) at.place (at.place + 1)) where
    is_least : place ≡ least
    is_least = is ∙ ap (λ n. cond (nat_lt at.words n) at.place (at.place + 1)) size

    pub jump_at : (next : ℕ) → Leads (variant_stands stands to variant) place to next → (next ≡ place → ⊥) → LeadsAfter is_at at to (spot next 0)
    jump_at next leads other_place =
        jump_leads next (subst (λ p. Leads (variant_stands stands to variant) p to next) is_least leads) (λ same. other_place (same ∙ sym is_least))

    pub same_at : (after : Variant H) → map (lists_of stands) after.items.items ≡ map (lists_of stands) variant.items.items
        → SameFrom place (variant_stands stands to after) (variant_stands stands to variant) → SameAfter at (variant_at stands to after) is_at
    same_at after lists same = same_after after lists (subst (λ p. SameFrom p (variant_stands stands to after) (variant_stands stands to variant)) is_least same)

-- ---- one after the other

-- whether one of them passes at the spot
abbrev pub some_pass : {A : Type 0} → (A → Spot → Bool) → List A → Spot → Bool
some_pass passes xs at = list_any (λ x. passes x at) xs

-- the elements before the number pass at no spot between that one and the first one found
pub record Passed {A L : Type 0} (passes : A → Spot → Bool) (shown : A → Shown L) (old now : List A) (at : Spot) (to : ℕ) (first : Spot) (number start end : ℕ) : Type 0 where
  pub long : length now ≡ length old
  pub ahead : is_before at first ≡ true
  pub last : first.place + first.words ≤ to
  pub there : 0 < first.words → some_pass passes old first ≡ true
  pub left : (other : Spot) → is_before at other ≡ true → is_before other first ≡ true → 1 ≤ other.words → some_pass passes old other ≡ some_pass passes (drop number now) other
  pub same : SameAfter at (some_pass passes now) (some_pass passes old)
  pub moved : Moved (shown_all shown old) (shown_all shown now) start end

module _ {A L : Type 0} (passes : A → Spot → Bool) (shown : A → Shown L) where
  module _ (old now : List A) (at : Spot) (to : ℕ) (first : Spot) (number start middle end : ℕ) (so_far : Passed passes shown old now at to first number start middle)
      (x y : A) (within : number < length now) (read : x ≡ get_or now number x) (next : Spot) (leads : LeadsAfter (passes x) at to next)
      (same : SameAfter at (passes y) (passes x)) (moved : Moved (shown x) (shown y) middle end) where
    -- what is left begins with the element
    here : drop number now ≡ x ∷ drop (number + 1) now
    here = drop_more now number x within ∙ ap (λ z. z ∷ drop (number + 1) now) (sym read)

    still : drop (number + 1) now ≡ drop (number + 1) (set now number y)
    still = sym (drop-set-lt (number + 1) now number y (omega arith))

    -- nothing is passed before both
    left_on : (other : Spot) → is_before at other ≡ true → is_before other first ≡ true → is_before other next ≡ true → 1 ≤ other.words
        → some_pass passes old other ≡ some_pass passes (drop (number + 1) (set now number y)) other
    left_on other a b c some =
        so_far.left other a b some
        ∙ ap (λ l. some_pass passes l other) here
        ∙ ap (λ t. t || some_pass passes (drop (number + 1) now) other) (leads.none other a c some)
        ∙ ap (λ l. some_pass passes l other) still

    found_one : 0 < next.words → some_pass passes old next ≡ true
    found_one some =
        sym (so_far.same.same next leads.ahead)
        ∙ list_any_at (λ z. passes z next) now number x within (ap (λ z. passes z next) (sym read) ∙ leads.there some)

    pub pass_goes_on : (soonest : Spot) → soonest ≡ cond (is_before next first) next first → Passed passes shown old (set now number y) at to soonest (number + 1) start end
    pass_goes_on soonest e = subst (λ s. Passed passes shown old (set now number y) at to s (number + 1) start end) (sym e) (by_order (is_before next first) refl)
      where
        still_long : length (set now number y) ≡ length old
        still_long = length-set now number y ∙ so_far.long

        same_now : SameAfter at (some_pass passes (set now number y)) (some_pass passes old)
        same_now = record { same = λ other a. any_set (λ z. passes z other) now number x y within read (same.same other a) ∙ so_far.same.same other a }

        moved_now : Moved (shown_all shown old) (shown_all shown (set now number y)) start end
        moved_now = moved_on (shown_all shown old) (shown_all shown now) (shown_all shown (set now number y)) start middle end so_far.moved (moved_in shown now number x y middle end within read moved)

        by_order : (b : Bool) → is_before next first ≡ b → Passed passes shown old (set now number y) at to (cond b next first) (number + 1) start end
        by_order true h = record {
          long = still_long;
          ahead = leads.ahead;
          last = leads.last;
          there = found_one;
          left = λ other a b some. left_on other a (before_trans other next first b h) b some;
          same = same_now;
          moved = moved_now;
        }
        by_order false h = record {
          long = still_long;
          ahead = so_far.ahead;
          last = so_far.last;
          there = so_far.there;
          left = λ other a b some. left_on other a b (before_sooner other first next b h) some;
          same = same_now;
          moved = moved_now;
        }

  pub pass_ends : (old now : List A) (at : Spot) (to : ℕ) (first : Spot) (number start end : ℕ) → Passed passes shown old now at to first number start end → length now ≤ number
      → LeadsAfter (some_pass passes old) at to first
  pass_ends old now at to first number start end so_far h = record {
    ahead = so_far.ahead;
    last = so_far.last;
    there = so_far.there;
    none = λ other a b some. so_far.left other a b some ∙ ap (λ l. some_pass passes l other) (drop_all number now h);
  }
