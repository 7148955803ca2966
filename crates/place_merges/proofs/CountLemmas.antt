-- Counts of the places at which a test holds, as far as the places go.
use Rattle.std.proofs.Common.{◌≡◌, ℕ, zero, suc, ◌+◌, ◌-◌, ◌<◌, ◌≤◌, Bool, true, false, cond, ◌&&◌, ◌||◌, List, [], ◌∷◌, filter, map, refl, sym, ap, ◌∙◌, arith, zero-add}
use Rattle.std.specs.List.{count_by, list_any, range_with_len}
use Rattle.ft_base.specs.Hits.{HitPlace}
use Rattle.all_matches.proofs.Counting.{count_by-cons, count_by-alike}
use Rattle.place_merges.specs.declared.item.Variant.{Variant}
use Rattle.place_merges.specs.Places.{Wanted, stands_before, some_stands, places_between}
use Rattle.place_merges.specs.Sources.{wanted, wanted_words}
use Rattle.place_merges.specs.steps.Searching.{Leads, SameFrom, Moved, one_stands, shown_variants}
use Rattle.place_merges.proofs.MoveLemmas.{moved_on, any_map}

-- at how many of so many places from one on
pub count : (ℕ → Bool) → ℕ → ℕ → ℕ
count test place size = count_by test (range_with_len place size)

count_same : (new old : ℕ → Bool) (place size : ℕ) → ((other : ℕ) → place ≤ other → new other ≡ old other) → count new place size ≡ count old place size
unfolding count
count_same new old place zero same = refl
count_same new old place (suc size) same =
    count_by-cons new place (range_with_len (place + 1) size)
    ∙ (λ i. cond (same place (omega arith) i) 1 0 + count_same new old (place + 1) size (λ other h. same other (omega arith)) i)
    ∙ sym (count_by-cons old place (range_with_len (place + 1) size))

count_jump : (test : ℕ → Bool) (place far size : ℕ) → ((other : ℕ) → place ≤ other → other < place + far → test other ≡ false) → count test place (far + size) ≡ count test (place + far) size
unfolding count
count_jump test place zero size none =
    let at : place ≡ place + 0 = omega arith in
    let all : 0 + size ≡ size = omega arith in
    λ i. count test (at i) (all i)
count_jump test place (suc far) size none =
    let all : suc far + size ≡ suc (far + size) = omega arith in
    let at : place + 1 + far ≡ place + suc far = omega arith in
    ap (count test place) all
    ∙ count_by-cons test place (range_with_len (place + 1) (far + size))
    ∙ ap (λ b. cond b 1 0 + count test (place + 1) (far + size)) (none place (omega arith) (omega arith))
    ∙ zero-add (count test (place + 1) (far + size))
    ∙ count_jump test (place + 1) far size (λ other a b. none other (omega arith) (omega arith))
    ∙ ap (λ p. count test p size) at

count_here : (test : ℕ → Bool) (place size : ℕ) → test place ≡ true → count test place (suc size) ≡ 1 + count test (place + 1) size
unfolding count
count_here test place size h = count_by-cons test place (range_with_len (place + 1) size) ∙ ap (λ b. cond b 1 0 + count test (place + 1) size) h

pub any_that_counts : {H : Type 0} (p : Variant H → Bool) (variants : List (Variant H)) → list_any p (filter (λ variant. variant.counts) variants) ≡ list_any (λ variant. variant.counts && p variant) variants
any_that_counts p [] = refl
any_that_counts p (variant ∷ variants) =
    let rest = any_that_counts p variants in
    elim variant.counts as (λ b. list_any p (cond b (variant ∷ filter (λ v. v.counts) variants) (filter (λ v. v.counts) variants)) ≡ ((b && p variant) || list_any (λ v. v.counts && p v) variants)) [
      | true ↦ ap (λ b. p variant || b) rest
      | false ↦ rest
    ]

module _ {H : Type 0} (stands : H → HitPlace) (to : ℕ) where
  -- at how many places, from one on, one of the variants stands
  pub still : List (Variant H) → ℕ → ℕ
  still variants place = count (one_stands stands to variants) place (to - place)

  pub still_is : (variants : List (Variant H)) (place : ℕ) → places_between place to (wanted_words stands variants) ≡ still variants place
  unfolding still count
  still_is variants place =
      count_by-alike (some_stands to (wanted_words stands variants)) (one_stands stands to variants) (range_with_len place (to - place))
      (λ other. any_map (stands_before to other) (λ variant. map (wanted stands) variant.items.items) (filter (λ variant. variant.counts) variants)
      ∙ any_that_counts (λ variant. stands_before to other (map (wanted stands) variant.items.items)) variants)

  -- variants that stand where some words do stand at as many places
  pub as_wanted : (variants : List (Variant H)) (words : List (List Wanted)) (place : ℕ) → SameFrom place (one_stands stands to variants) (some_stands to words)
      → places_between place to (wanted_words stands variants) ≡ places_between place to words
  unfolding still count
  as_wanted variants words place same = still_is variants place ∙ count_same (one_stands stands to variants) (some_stands to words) place (to - place) same.same

  still_same : (new old : List (Variant H)) (place : ℕ) → SameFrom place (one_stands stands to new) (one_stands stands to old) → still new place ≡ still old place
  unfolding still
  still_same new old place same = count_same (one_stands stands to new) (one_stands stands to old) place (to - place) same.same

  still_jumps : (variants : List (Variant H)) (place next : ℕ) → Leads (one_stands stands to variants) place to next → still variants place ≡ still variants next
  unfolding still
  still_jumps variants place next leads =
      let from = leads.from in
      let most = leads.to in
      let all : to - place ≡ (next - place) + (to - next) = omega arith in
      let at : place + (next - place) ≡ next = omega arith in
      ap (count (one_stands stands to variants) place) all
      ∙ count_jump (one_stands stands to variants) place (next - place) (to - next) (λ other a b. leads.none other a (omega arith))
      ∙ ap (λ p. count (one_stands stands to variants) p (to - next)) at

  still_here : (variants : List (Variant H)) (place : ℕ) → place < to → one_stands stands to variants place ≡ true → still variants place ≡ 1 + still variants (place + 1)
  unfolding still
  still_here variants place order h =
      let all : to - place ≡ suc (to - (place + 1)) = omega arith in
      ap (count (one_stands stands to variants) place) all ∙ count_here (one_stands stands to variants) place (to - (place + 1)) h

-- so many places are counted, and those from the place on are still to come
pub record Counted {H : Type 0} (stands : H → HitPlace) (plain : H → Bool) (old now : List (Variant H)) (from to most counted place start end : ℕ) : Type 0 where
  pub sum : counted + places_between place to (wanted_words stands now) ≡ places_between from to (wanted_words stands old)
  pub within : counted ≤ most
  pub moved : Moved (shown_variants stands plain old) (shown_variants stands plain now) start end

module _ {H : Type 0} (stands : H → HitPlace) (plain : H → Bool) where
  module _ (old now after : List (Variant H)) (from to most counted place start middle end : ℕ)
      (so_far : Counted stands plain old now from to most counted place start middle) (order : place < to) (below : counted < most) (next : ℕ)
      (leads : Leads (one_stands stands to now) place to next) (same : SameFrom place (one_stands stands to after) (one_stands stands to now))
      (moved : Moved (shown_variants stands plain now) (shown_variants stands plain after) middle end) where
    moved_too : Moved (shown_variants stands plain old) (shown_variants stands plain after) start end
    moved_too = moved_on (shown_variants stands plain old) (shown_variants stands plain now) (shown_variants stands plain after) start middle end so_far.moved moved

    pub counts_one : next ≡ place → Counted stands plain old after from to most (counted + 1) (place + 1) start end
    counts_one at_place =
        let sum = so_far.sum in
        let was = still_is stands to now place in
        let here = still_here stands to now place order (leads.there at_place) in
        let later = still_same_later in
        let is = still_is stands to after (place + 1) in
        record { sum = omega (arith, sum, was, here, later, is); within = omega arith; moved = moved_too }
      where
        still_same_later : still stands to after (place + 1) ≡ still stands to now (place + 1)
        still_same_later = still_same stands to after now (place + 1) (record { same = λ other h. same.same other (omega arith) })

    pub jumps : Counted stands plain old after from to most counted next start end
    jumps =
        let sum = so_far.sum in
        let was = still_is stands to now place in
        let jumped = still_jumps stands to now place next leads in
        let far = leads.from in
        let later = still_same stands to after now next (record { same = λ other h. same.same other (omega arith) }) in
        let is = still_is stands to after next in
        record { sum = omega (arith, sum, was, jumped, later, is); within = so_far.within; moved = moved_too }
