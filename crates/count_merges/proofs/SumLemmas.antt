-- Counts of one group, and of several together, as far as they stay.
use Rattle.std.proofs.Common.{◌≡◌, sym, ap, ◌∙◌, ℕ, ◌+◌, ◌-◌, ◌^◌, ◌<◌, ◌≤◌, min, Bool, true, false, ◌&&◌, List, ◌∷◌, length, get_or, set, drop, arith, length-set, drop-set-lt}
use Rattle.std.specs.Prelude.{Option, nat_le}
use Rattle.std.specs.List.{list_all, sum_by}
use Rattle.std.proofs.lemmas.List.{drop_all, drop_more}
use Rattle.std.proofs.lemmas.List.Sums.{sum_by-cons, sum_by-set}
use Rattle.counted_shapes.specs.Shapes.{is_at_most}
use Rattle.place_merges.specs.steps.Searching.{Leads, Moved, SameFrom, Shown, shown_all}
use Rattle.place_merges.proofs.MoveLemmas.{all_at, all_set, moved_in, moved_on}
use Rattle.count_merges.specs.steps.Passing.{SameCounts, Stays}

-- ---- what has come in but for what has gone out

module _ (last : ℕ) (come gone come_before gone_before : ℕ → ℕ) (same_come : SameCounts last come come_before) (same_gone : SameCounts last gone gone_before) where
  pub same_held : SameCounts last (λ other. come other - gone other) (λ other. come_before other - gone_before other)
  same_held = record { same = λ other past. λ i. same_come.same other past i - same_gone.same other past i }

  pub held_stays : (a b m n until much : ℕ) → last < a → last < b → ((other : ℕ) → other < a → come other ≡ m) → ((other : ℕ) → other < b → gone other ≡ n)
      → until ≡ min a b → much ≡ m - n → Stays (λ other. come_before other - gone_before other) last until much
  held_stays a b m n until much before_a before_b stays_come stays_gone first is = record {
    ahead = omega (arith, before_a, before_b, first);
    stays = λ other past before.
        let come_is = sym (same_come.same other past) ∙ stays_come other (omega (arith, first, before)) in
        let gone_is = sym (same_gone.same other past) ∙ stays_gone other (omega (arith, first, before)) in
        (λ i. come_is i - gone_is i) ∙ sym is;
  }

-- ---- several together

module _ {A : Type 0} (count : A → ℕ → ℕ) where
  abbrev pub total : List A → ℕ → ℕ
  total xs other = sum_by (λ x. count x other) xs

  abbrev pub capped : List A → ℕ → ℕ
  capped xs other = min (total xs other) (2 ^ 64 - 1)

  -- the elements before the number were counted: what they have, and up to where they have it
  pub record Summed {L : Type 0} (sound : A → Bool) (shown : A → Shown L) (old now : List A) (last limit until much number start end : ℕ) : Type 0 where
    pub long : length now ≡ length old
    pub ahead : last < until
    pub within : until ≤ limit
    pub fits : total (drop number now) last ≤ total old last
    pub sum : much ≡ min (total old last - total (drop number now) last) (2 ^ 64 - 1)
    pub stays : (other : ℕ) → last ≤ other → other < until → total old other + total (drop number now) last ≡ total old last + total (drop number now) other
    pub same : SameCounts last (total now) (total old)
    pub all_sound : list_all sound now ≡ true
    pub moved : Moved (shown_all shown old) (shown_all shown now) start end

  module _ {L : Type 0} (sound : A → Bool) (shown : A → Shown L) where
    module _ (old now : List A) (last limit until much number start middle end : ℕ) (so_far : Summed sound shown old now last limit until much number start middle)
        (x y : A) (within : number < length now) (read : x ≡ get_or now number x) where
      pub one_sound : sound x ≡ true
      one_sound = all_at sound now number x within read so_far.all_sound

      module _ (next more : ℕ) (stays : Stays (count x) last next more) (same : SameCounts last (count y) (count x))
          (sound_now : sound y ≡ true) (moved : Moved (shown x) (shown y) middle end) where
        rest_is : (other : ℕ) → total (drop number now) other ≡ count x other + total (drop (number + 1) (set now number y)) other
        rest_is other =
            ap (λ xs. total xs other) (drop_more now number x within ∙ ap (λ z. z ∷ drop (number + 1) now) (sym read))
            ∙ sum_by-cons (λ z. count z other) x (drop (number + 1) now)
            ∙ ap (λ xs. count x other + total xs other) (sym (drop-set-lt (number + 1) now number y (omega arith)))

        total_same : (other : ℕ) → last ≤ other → total (set now number y) other ≡ total now other
        total_same other past =
            let sum = sum_by-set (λ z. count z other) now number y x within in
            let here : count (get_or now number x) other ≡ count x other = ap (λ z. count z other) (sym read) in
            let one = same.same other past in
            omega (arith, sum, here, one)

        pub sum_goes_on : (sooner sum : ℕ) → sooner ≡ min until next → sum ≡ min (much + more) (2 ^ 64 - 1)
            → Summed sound shown old (set now number y) last limit sooner sum (number + 1) start end
        sum_goes_on sooner sum first added =
            let ahead = so_far.ahead in
            let further = stays.ahead in
            let most = so_far.within in
            let fits = so_far.fits in
            let was = so_far.sum in
            let here = rest_is last in
            let one = stays.stays last (omega arith) further in
            record {
              long = length-set now number y ∙ so_far.long;
              ahead = omega (arith, ahead, further, first);
              within = omega (arith, most, first);
              fits = omega (arith, fits, here);
              sum = omega (arith, was, added, fits, here, one);
              stays = λ other past before.
                  let all = so_far.stays other past (omega (arith, first, before)) in
                  let there = rest_is other in
                  let two = stays.stays other past (omega (arith, first, before)) in
                  omega (arith, all, here, there, one, two);
              same = record { same = λ other past. total_same other past ∙ so_far.same.same other past };
              all_sound = all_set sound now number x y within read (sound_now ∙ sym one_sound) ∙ so_far.all_sound;
              moved = moved_on (shown_all shown old) (shown_all shown now) (shown_all shown (set now number y)) start middle end so_far.moved
                  (moved_in shown now number x y middle end within read moved);
            }

    pub sum_ends : (old now : List A) (last limit until much number start end : ℕ) → Summed sound shown old now last limit until much number start end → length now ≤ number
        → Stays (capped old) last until much
    sum_ends old now last limit until much number start end so_far h =
        let none : (other : ℕ) → total (drop number now) other ≡ 0 = λ other. ap (λ xs. total xs other) (drop_all number now h) in
        record {
          ahead = so_far.ahead;
          stays = λ other past before.
              let all = so_far.stays other past before in
              let here = none last in
              let there = none other in
              let was = so_far.sum in
              omega (arith, all, here, there, was);
        }

-- ---- one item

module _ (least : ℕ) (most : Option ℕ) (held : ℕ → ℕ) (last limit until count : ℕ) (stays : Stays (λ other. min (held other) (2 ^ 64 - 1)) last until count) (enough : Bool)
    (tells : (much : ℕ) → count ≡ min much (2 ^ 64 - 1) → enough ≡ (nat_le least much && is_at_most most much)) where
  abbrev holds : ℕ → Bool
  holds other = nat_le least (held other) && is_at_most most (held other)

  holds_is : (other : ℕ) → last ≤ other → other < until → holds other ≡ enough
  holds_is other past before = sym (tells (held other) (sym (stays.stays other past before)))

  pub holds_here : enough ≡ true → last < limit → Leads holds last limit last
  holds_here is below = record {
    from = omega arith;
    to = omega (arith, below);
    there = λ e. holds_is last (omega arith) stays.ahead ∙ is;
    none = λ other a b. absurd (omega (arith, a, b));
  }

  pub holds_later : enough ≡ false → until ≤ limit → Leads holds last limit until
  holds_later is within =
      let ahead = stays.ahead in
      record {
        from = omega (arith, ahead);
        to = within;
        there = λ e. absurd (omega (arith, e, ahead));
        none = λ other a b. holds_is other a b ∙ is;
      }

pub holds_same : (least : ℕ) (most : Option ℕ) (last : ℕ) (new old : ℕ → ℕ) → SameCounts last new old
    → SameFrom last (λ other. nat_le least (new other) && is_at_most most (new other)) (λ other. nat_le least (old other) && is_at_most most (old other))
holds_same least most last new old same = record { same = λ other past. ap (λ n. nat_le least n && is_at_most most n) (same.same other past) }
