-- One phrase after another: what is left of both after the least end of the first and the least beginning of the second.
use Rattle.std.proofs.Common.{◌≡◌, refl, sym, ap, ◌∙◌, ℕ, suc, ◌+◌, ◌<◌, ◌≤◌, Bool, true, false, ◌&&◌, ◌||◌, List, [], ◌∷◌, filter, length, Option, Some, None, Vec, Global, ◌++◌, get_or, set, take, drop, arith}
use Rattle.std.specs.Prelude.{nat_le}
use Rattle.std.specs.List.{list_any, list_all}
use Rattle.std.proofs.lemmas.Bool.{and_from, and_parts, le-leb, leb-true}
use Rattle.std.proofs.lemmas.List.{length-map}
use Rattle.ft_base.specs.declared.hit.Hit.{Hit}
use Rattle.ft_base.specs.declared.unit.TextUnit.{TextUnit}
use Rattle.ft_operators.specs.Phrases.{PhraseState}
use Rattle.all_matches.proofs.ListTests.{list_any-alike, list_any-never}
use Rattle.all_matches.proofs.WayLaws.{any_or, any_swap}
use Rattle.all_matches.specs.Positions.{start_in, end_in}
use Rattle.window_merges.specs.Choices.{some_choice}
use Rattle.window_merges.proofs.ChoiceTests.{any_on}
use Rattle.phrase_merges.specs.Choices.{are_between, is_after}
use Rattle.phrase_merges.specs.Rows.{aims_of, all_aims, all_hits, are_rising, hits_left}
use Rattle.phrase_merges.specs.declared.edge.Edge.TheVariants.{Start, End}
use Rattle.phrase_merges.specs.steps.Ahead.{from_on, least_in, least_of, lists_from, number_at, some_after}
use Rattle.phrase_merges.proofs.AheadLemmas.{flat_lists, from_again, from_zero, hits_in, least_below, least_from, least_there, none_least}
use Rattle.phrase_merges.proofs.ChoiceLemmas.{all_filter, any_filter, any_with}

-- ---- tests of lists

any_constant : {A : Type 0} (b : Bool) (xs : List A) → list_any (λ x. b) xs ≡ true → b ≡ true
any_constant true xs h = refl
any_constant false xs h = sym (list_any-never xs) ∙ h

-- a test that asks for another
asks_and : (a b : Bool) → (b ≡ true → a ≡ true) → b ≡ (a && b)
asks_and true b asks = refl
asks_and false true asks = sym (asks refl)
asks_and false false asks = refl

-- of the elements that a test passes nothing is lost where another is asked first that it asks for
any_left : {A : Type 0} (p q : A → Bool) (xs : List A) → ((x : A) → p x ≡ true → q x ≡ true) → list_any p xs ≡ list_any p (filter q xs)
any_left p q xs asks = list_any-alike p (λ x. q x && p x) xs (λ x. asks_and (q x) (p x) (asks x)) ∙ sym (any_filter p q xs)

-- what all numbers are from is no more than the least
pub least_is_from : (number : Hit → ℕ) (place n : ℕ) (hits : List Hit) → list_all (λ hit. nat_le place (number hit)) hits ≡ true → least_in number hits ≡ Some n → place ≤ n
least_is_from number place n hits all is =
    leb-true place n (any_constant (nat_le place n) hits
    (any_with (λ hit. nat_le place (number hit)) (λ hit. nat_le (number hit) n) (λ hit. nat_le place n) hits all
    (λ hit from to. let low = leb-true place (number hit) from in let high = leb-true (number hit) n to in le-leb place n (omega (arith, low, high)))
    (least_there number hits n is)))

-- ---- one hit after another

begins_after : (low : ℕ) (high : Option ℕ) (unit : TextUnit) (a b : Hit) → is_after low high unit a b ≡ true → suc (end_in unit a + low) ≤ start_in unit b
begins_after low None unit a b h = leb-true (suc (end_in unit a + low)) (start_in unit b) h
begins_after low (Some high) unit a b h =
    leb-true (suc (end_in unit a + low)) (start_in unit b) (and_parts (nat_le (suc (end_in unit a + low)) (start_in unit b)) (nat_le (start_in unit b) (suc (end_in unit a + high))) h).0

-- where there is a most, what ends too far before isn't reached
pub too_far : (low : ℕ) (high : Option ℕ) (most start later : ℕ) (unit : TextUnit) (a b : Hit) → high ≡ Some most → later + most < start → is_after low high unit a b ≡ true
    → start ≤ start_in unit b → later ≤ end_in unit a
too_far low high most start later unit a b is less after from =
    let own = sym (ap (λ one. is_after low one unit a b) is) ∙ after in
    let to = leb-true (start_in unit b) (suc (end_in unit a + most)) (and_parts (nat_le (suc (end_in unit a + low)) (start_in unit b)) (nat_le (start_in unit b) (suc (end_in unit a + most))) own).1 in
    omega (arith, less, from, to)

pub any_after : (low : ℕ) (high : Option ℕ) (unit : TextUnit) (a b : Hit) → high ≡ None → suc (end_in unit a + low) ≤ start_in unit b → is_after low high unit a b ≡ true
any_after low high unit a b is from = ap (λ one. is_after low one unit a b) is ∙ le-leb (suc (end_in unit a + low)) (start_in unit b) from

pub near_after : (low : ℕ) (high : Option ℕ) (most : ℕ) (unit : TextUnit) (a b : Hit) → high ≡ Some most → suc (end_in unit a + low) ≤ start_in unit b → start_in unit b ≤ suc (end_in unit a + most)
    → is_after low high unit a b ≡ true
near_after low high most unit a b is from to =
    ap (λ one. is_after low one unit a b) is
    ∙ and_from (nat_le (suc (end_in unit a + low)) (start_in unit b)) (nat_le (start_in unit b) (suc (end_in unit a + most)))
    (le-leb (suc (end_in unit a + low)) (start_in unit b) from) (le-leb (start_in unit b) (suc (end_in unit a + most)) to)

module _ (low : ℕ) (high : Option ℕ) (unit : TextUnit) where
  -- ---- two lists

  -- after hits that end at a place or after it none is lost that begins too near to the place
  near_skipped : (place from : ℕ) (first second : List Hit) → from ≡ suc (place + low) → list_all (λ a. nat_le place (end_in unit a)) first ≡ true
      → some_after low high unit first second ≡ some_after low high unit first (from_on Start unit from second)
  near_skipped place from first second is all =
      any_on (λ a. nat_le place (end_in unit a)) (λ a. list_any (λ b. is_after low high unit a b) second) (λ a. list_any (λ b. is_after low high unit a b) (from_on Start unit from second)) first all
      (λ a one. any_left (λ b. is_after low high unit a b) (λ b. nat_le from (start_in unit b)) second
      (λ b after.
      let own = begins_after low high unit a b after in
      let ends = leb-true place (end_in unit a) one in
      le-leb from (start_in unit b) (omega (arith, is, own, ends))))

  -- before hits that begin at a place or after it none is lost that ends too far before the place
  far_skipped : (start later : ℕ) (first second : List Hit) → list_all (λ b. nat_le start (start_in unit b)) second ≡ true
      → ((a b : Hit) → is_after low high unit a b ≡ true → start ≤ start_in unit b → later ≤ end_in unit a)
      → some_after low high unit first second ≡ some_after low high unit (from_on End unit later first) second
  far_skipped start later first second all rule =
      any_left (λ a. list_any (λ b. is_after low high unit a b) second) (λ a. nat_le later (end_in unit a)) first
      (λ a some. any_constant (nat_le later (end_in unit a)) second
      (any_with (λ b. nat_le start (start_in unit b)) (λ b. is_after low high unit a b) (λ b. nat_le later (end_in unit a)) second all
      (λ b from after. le-leb later (end_in unit a) (rule a b after (leb-true start (start_in unit b) from))) some))

  -- the hit that ends first and the one that begins first
  pair_found : (end start from : ℕ) (first second : List Hit) → least_in (λ a. end_in unit a) first ≡ Some end → least_in (λ b. start_in unit b) second ≡ Some start
      → list_all (λ b. nat_le from (start_in unit b)) second ≡ true
      → ((a b : Hit) → end_in unit a ≡ end → from ≤ start_in unit b → start_in unit b ≤ start → is_after low high unit a b ≡ true)
      → some_after low high unit first second ≡ true
  pair_found end start from first second one other all rule =
      any_with (λ a. nat_le end (end_in unit a)) (λ a. nat_le (end_in unit a) end) (λ a. list_any (λ b. is_after low high unit a b) second) first
      (least_below (λ a. end_in unit a) first end one)
      (λ a least most.
      let from_end = leb-true end (end_in unit a) least in
      let to_end = leb-true (end_in unit a) end most in
      any_with (λ b. nat_le from (start_in unit b)) (λ b. nat_le (start_in unit b) start) (λ b. is_after low high unit a b) second all
      (λ b begins reaches. rule a b (omega (arith, from_end, to_end)) (leb-true from (start_in unit b) begins) (leb-true (start_in unit b) start reaches))
      (least_there (λ b. start_in unit b) second start other))
      (least_there (λ a. end_in unit a) first end one)

  -- ---- place after place

  module _ {P : Type 0} (state : P → PhraseState) where
    -- no hit of the first phrase before the place has one of the second after it
    pub record Passing (high_now : Option ℕ) (first_old first second_old second : List P) (place start end : ℕ) : Type 0 where
      pub high_same : high_now ≡ high
      pub passes : some_after low high unit (from_on End unit place (hits_left state first)) (from_on Start unit (suc (place + low)) (hits_left state second))
          ≡ some_after low high unit (hits_left state first_old) (hits_left state second_old)
      pub first_rises : are_rising state first ≡ true
      pub second_rises : are_rising state second ≡ true
      pub first_aims : aims_of state first ≡ aims_of state first_old
      pub second_aims : aims_of state second ≡ aims_of state second_old
      pub place_is : place ≤ 4294967296
      pub grown : start ≤ end

    pub passing_starts : (first second : List P) (steps : ℕ) → are_rising state first ≡ true → are_rising state second ≡ true → Passing high first first second second 0 steps steps
    passing_starts first second steps h k = record {
      high_same = refl;
      passes =
          sym (near_skipped 0 (suc (0 + low)) (from_on End unit 0 (hits_left state first)) (hits_left state second) refl (all_filter (λ a. nat_le 0 (end_in unit a)) (hits_left state first)))
          ∙ ap (λ hits. some_after low high unit hits (hits_left state second)) (from_zero End unit (hits_left state first));
      first_rises = h;
      second_rises = k;
      first_aims = refl;
      second_aims = refl;
      place_is = omega arith;
      grown = omega arith;
    }

    module _ (high_now : Option ℕ) (first_old first second_old second : List P) (place begin now : ℕ) (so_far : Passing high_now first_old first second_old second place begin now) where
      pub first_ends : None ≡ least_of (number_at End unit) (lists_from state End unit place first) → some_after low high unit (hits_left state first_old) (hits_left state second_old) ≡ false
      first_ends is =
          sym so_far.passes
          ∙ ap (λ hits. some_after low high unit hits (from_on Start unit (suc (place + low)) (hits_left state second)))
          (none_least (number_at End unit) (from_on End unit place (hits_left state first)) (sym (least_from state End unit (number_at End unit) place first) ∙ sym is))

      module _ (end from : ℕ) (from_is : from ≡ suc (end + low)) (is : Some end ≡ least_of (number_at End unit) (lists_from state End unit place first)) where
        least_end : least_in (number_at End unit) (from_on End unit place (hits_left state first)) ≡ Some end
        least_end = sym (least_from state End unit (number_at End unit) place first) ∙ sym is

        pub end_is : place ≤ end
        end_is = least_is_from (number_at End unit) place end (from_on End unit place (hits_left state first)) (all_filter (λ a. nat_le place (number_at End unit a)) (hits_left state first)) least_end

        skipped : some_after low high unit (from_on End unit place (hits_left state first)) (from_on Start unit from (hits_left state second))
            ≡ some_after low high unit (hits_left state first_old) (hits_left state second_old)
        skipped =
            let left = from_on End unit place (hits_left state first) in
            let order : suc (place + low) ≤ from = let less = end_is in omega (arith, less, from_is) in
            ap (λ hits. some_after low high unit left hits) (sym (from_again Start unit (suc (place + low)) from order (hits_left state second)))
            ∙ sym (near_skipped end from left (from_on Start unit (suc (place + low)) (hits_left state second)) from_is (least_below (number_at End unit) left end least_end))
            ∙ so_far.passes

        pub second_ends : None ≡ least_of (number_at Start unit) (lists_from state Start unit from second) → some_after low high unit (hits_left state first_old) (hits_left state second_old) ≡ false
        second_ends none =
            let left = from_on End unit place (hits_left state first) in
            sym skipped
            ∙ ap (λ hits. some_after low high unit left hits)
            (none_least (number_at Start unit) (from_on Start unit from (hits_left state second)) (sym (least_from state Start unit (number_at Start unit) from second) ∙ sym none))
            ∙ list_any-never left

        module _ (start : ℕ) (other : Some start ≡ least_of (number_at Start unit) (lists_from state Start unit from second)) where
          least_start : least_in (number_at Start unit) (from_on Start unit from (hits_left state second)) ≡ Some start
          least_start = sym (least_from state Start unit (number_at Start unit) from second) ∙ sym other

          pub found_after : ((a b : Hit) → end_in unit a ≡ end → from ≤ start_in unit b → start_in unit b ≤ start → is_after low high unit a b ≡ true)
              → some_after low high unit (hits_left state first_old) (hits_left state second_old) ≡ true
          found_after rule =
              sym skipped
              ∙ pair_found end start from (from_on End unit place (hits_left state first)) (from_on Start unit from (hits_left state second)) least_end least_start
              (all_filter (λ b. nat_le from (start_in unit b)) (hits_left state second)) rule

          pub passing_on : (high_after : Option ℕ) (first_after second_after : List P) (later steps : ℕ) → high_after ≡ high
              → ((a b : Hit) → is_after low high unit a b ≡ true → start ≤ start_in unit b → later ≤ end_in unit a) → end ≤ later → later ≤ 4294967296
              → lists_from state End unit place first_after ≡ lists_from state End unit place first → are_rising state first_after ≡ true → aims_of state first_after ≡ aims_of state first
              → lists_from state Start unit from second_after ≡ lists_from state Start unit from second → are_rising state second_after ≡ true → aims_of state second_after ≡ aims_of state second
              → now ≤ steps → Passing high_after first_old first_after second_old second_after later begin steps
          passing_on high_after first_after second_after later steps same rule order small first_left first_rises first_aims second_left second_rises second_aims more =
              let left = from_on End unit place (hits_left state first) in
              let rest = from_on Start unit from (hits_left state second) in
              let next = suc (later + low) in
              let place_order : place ≤ later = let less = end_is in omega (arith, less, order) in
              let next_order : from ≤ next = omega (arith, from_is, order) in
              let first_same : from_on End unit later (hits_left state first_after) ≡ from_on End unit later left =
              sym (from_again End unit place later place_order (hits_left state first_after))
              ∙ ap (from_on End unit later) (sym (flat_lists state End unit place first_after) ∙ ap (λ (lists : List (List Hit)). hits_in lists) first_left ∙ flat_lists state End unit place first) in
              let second_same : from_on Start unit next (hits_left state second_after) ≡ from_on Start unit next rest =
              sym (from_again Start unit from next next_order (hits_left state second_after))
              ∙ ap (from_on Start unit next) (sym (flat_lists state Start unit from second_after) ∙ ap (λ (lists : List (List Hit)). hits_in lists) second_left ∙ flat_lists state Start unit from second) in
              record {
                high_same = same;
                passes =
                    (λ i. some_after low high unit (first_same i) (second_same i))
                    ∙ sym (near_skipped later next (from_on End unit later left) rest refl (all_filter (λ a. nat_le later (end_in unit a)) left))
                    ∙ sym (far_skipped start later left rest (least_below (number_at Start unit) rest start least_start) rule)
                    ∙ skipped;
                first_rises = first_rises;
                second_rises = second_rises;
                first_aims = first_aims ∙ so_far.first_aims;
                second_aims = second_aims ∙ so_far.second_aims;
                place_is = small;
                grown = omega (arith, so_far.grown, more);
              }

  -- ---- both orders

  pub two_orders : (first second : List Hit) → some_choice (are_between low high unit) (first ∷ second ∷ []) ≡ (some_after low high unit first second || some_after low high unit second first)
  two_orders first second =
      list_any-alike (λ a. list_any (λ b. is_after low high unit a b || is_after low high unit b a) second)
      (λ a. list_any (λ b. is_after low high unit a b) second || list_any (λ b. is_after low high unit b a) second) first
      (λ a. sym (any_or (λ b. is_after low high unit a b) (λ b. is_after low high unit b a) second))
      ∙ sym (any_or (λ a. list_any (λ b. is_after low high unit a b) second) (λ a. list_any (λ b. is_after low high unit b a) second) first)
      ∙ ap (λ t. some_after low high unit first second || t) (any_swap (λ a b. is_after low high unit b a) first second)

  choice_never : {A : Type 0} (lists : List (List A)) → some_choice (λ chosen. false) lists ≡ false
  choice_never [] = refl
  choice_never (xs ∷ lists) = list_any-alike (λ x. some_choice (λ chosen. false) lists) (λ x. false) xs (λ x. choice_never lists) ∙ list_any-never xs

  pub not_two : (lists : List (List Hit)) → (length lists ≡ 2 → ⊥) → some_choice (are_between low high unit) lists ≡ false
  not_two [] other = refl
  not_two (first ∷ []) other = list_any-never first
  not_two (first ∷ second ∷ []) other = absurd (other refl)
  not_two (first ∷ second ∷ third ∷ lists) other =
      list_any-alike (λ a. some_choice (λ chosen. are_between low high unit (a ∷ chosen)) (second ∷ third ∷ lists)) (λ a. false) first
      (λ a. list_any-alike (λ b. some_choice (λ chosen. are_between low high unit (a ∷ b ∷ chosen)) (third ∷ lists)) (λ b. false) second
      (λ b. choice_never (third ∷ lists)) ∙ list_any-never second)
      ∙ list_any-never first

  -- of two lists the one order or the other
  pub first_order : (lists : List (List Hit)) (a b : List Hit) → lists ≡ a ∷ b ∷ [] → some_after low high unit a b ≡ true → some_choice (are_between low high unit) lists ≡ true
  first_order lists a b is found = ap (some_choice (are_between low high unit)) is ∙ two_orders a b ∙ ap (λ t. t || some_after low high unit b a) found

  pub second_order : (lists : List (List Hit)) (a b first second : List Hit) → lists ≡ a ∷ b ∷ [] → lists ≡ first ∷ second ∷ [] → some_after low high unit a b ≡ false
      → some_choice (are_between low high unit) lists ≡ some_after low high unit second first
  second_order lists a b first second is again none =
      ap (some_choice (are_between low high unit)) again
      ∙ two_orders first second
      ∙ ap (λ t. t || some_after low high unit second first) (ap as_given (sym again ∙ is) ∙ none)
    where
      as_given : List (List Hit) → Bool
      as_given [] = false
      as_given (one ∷ []) = false
      as_given (one ∷ other ∷ rest) = some_after low high unit one other

-- ---- two phrases

module _ {P : Type 0} (state : P → PhraseState) where
  pub pair_is : (phrases first second : List (Vec P Global)) (x y : Vec P Global) (lists : List (List Hit)) → all_hits state phrases ≡ lists → length lists ≡ 2
      → first ≡ take 1 phrases → second ≡ drop 1 phrases → lists ≡ hits_left state (get_or first 0 x).items ∷ hits_left state (get_or second 0 y).items ∷ []
  pair_is phrases first second x y lists hits two prefix back =
      let many : length phrases ≡ 2 = sym (length-map phrases (λ (phrase : Vec P Global). hits_left state phrase.items)) ∙ ap length hits ∙ two in
      sym hits ∙ the_two phrases many
      ∙ (λ i. hits_left state (get_or (sym prefix i) 0 x).items ∷ hits_left state (get_or (sym back i) 0 y).items ∷ [])
    where
      the_two : (own : List (Vec P Global)) → length own ≡ 2 → all_hits state own ≡ hits_left state (get_or (take 1 own) 0 x).items ∷ hits_left state (get_or (drop 1 own) 0 y).items ∷ []
      the_two [] h = absurd (omega (arith, h))
      the_two (p ∷ []) h = absurd (omega (arith, h))
      the_two (p ∷ q ∷ []) h = refl
      the_two (p ∷ q ∷ r ∷ own) h = absurd (omega (arith, h))

  -- two phrases that are put back where they were have the aims that they had
  pub aims_kept : (count : ℕ) (phrases first second : List (Vec P Global)) (x y p q : Vec P Global) (lists : List (List Hit)) → all_hits state phrases ≡ lists → length lists ≡ 2 → count ≡ length phrases
      → first ≡ take 1 phrases → second ≡ drop 1 phrases → aims_of state p.items ≡ aims_of state (get_or first 0 x).items → aims_of state q.items ≡ aims_of state (get_or second 0 y).items
      → all_aims state (take count ((set first 0 p ++ set second 0 q) ++ drop (length (set first 0 p ++ set second 0 q)) phrases)) ≡ all_aims state phrases
  aims_kept count phrases first second x y p q lists hits two count_is prefix back one other =
      let many : length phrases ≡ 2 = sym (length-map phrases (λ (phrase : Vec P Global). hits_left state phrase.items)) ∙ ap length hits ∙ two in
      (λ i. all_aims state (take ((count_is ∙ many) i) ((set (prefix i) 0 p ++ set (back i) 0 q) ++ drop (length (set (prefix i) 0 p ++ set (back i) 0 q)) phrases)))
      ∙ the_two phrases many (one ∙ ap (λ (own : List (Vec P Global)). aims_of state (get_or own 0 x).items) prefix) (other ∙ ap (λ (own : List (Vec P Global)). aims_of state (get_or own 0 y).items) back)
    where
      the_two : (own : List (Vec P Global)) → length own ≡ 2 → aims_of state p.items ≡ aims_of state (get_or (take 1 own) 0 x).items → aims_of state q.items ≡ aims_of state (get_or (drop 1 own) 0 y).items
          → all_aims state (take 2 ((set (take 1 own) 0 p ++ set (drop 1 own) 0 q) ++ drop (length (set (take 1 own) 0 p ++ set (drop 1 own) 0 q)) own)) ≡ all_aims state own
      the_two [] h k l = absurd (omega (arith, h))
      the_two (a ∷ []) h k l = absurd (omega (arith, h))
      the_two (a ∷ b ∷ []) h k l = λ i. k i ∷ l i ∷ []
      the_two (a ∷ b ∷ r ∷ own) h k l = absurd (omega (arith, h))
