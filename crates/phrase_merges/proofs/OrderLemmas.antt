-- Phrases in order: the first hit that doesn't begin before the last one serves best.
use Rattle.std.proofs.Common.{◌≡◌, refl, sym, ap, ◌∙◌, ℕ, ◌+◌, ◌<◌, ◌≤◌, Bool, true, false, ◌&&◌, eqb, true≢false, List, [], ◌∷◌, map, length, get_or, drop, set, length-set, Some, None, Vec, Global, arith}
use Rattle.std.specs.Prelude.{nat_le}
use Rattle.std.specs.List.{list_any, list_all}
use Rattle.std.proofs.lemmas.Bool.{and_from, and_parts, eqb-true, eq-eqb, le-leb, leb-true}
use Rattle.std.proofs.lemmas.List.{drop_more, drop_all, drop-map, drop-set-lt, get_or-drop, length-map}
use Rattle.std.proofs.lemmas.Grind.{drop_more_same}
use Rattle.ft_base.specs.declared.hit.Hit.{Hit}
use Rattle.ft_base.specs.declared.unit.TextUnit.TheVariants.{Words}
use Rattle.ft_operators.specs.Phrases.{PhraseState}
use Rattle.all_matches.proofs.ListTests.{list_any-map}
use Rattle.place_merges.specs.steps.Searching.{has}
use Rattle.place_merges.proofs.MoveLemmas.{all_at, all_set, map_set}
use Rattle.window_merges.specs.Choices.{are_in_order, some_choice}
use Rattle.window_merges.proofs.ChoiceTests.{choice_map}
use Rattle.window_merges.proofs.OrderLemmas.{first_serves, in_order_rises, none_serves, rising}
use Rattle.phrase_merges.specs.Choices.{begin_in_order}
use Rattle.phrase_merges.specs.Rows.{aims_of, all_aims, all_hits, all_rising, are_rising, hits_left}
use Rattle.phrase_merges.specs.declared.edge.Edge.TheVariants.{Start}
use Rattle.phrase_merges.specs.steps.Ahead.{from_on, least_in, least_of, lists_from, number_at}
use Rattle.phrase_merges.proofs.AheadLemmas.{least_below, least_from, least_there, none_least}
use Rattle.phrase_merges.proofs.ChoiceLemmas.{all_sure, any_filter, any_with}

-- where hits begin
abbrev pub firsts : List Hit → List ℕ
firsts hits = map (λ hit. hit.from) hits

pub in_order_is : (lists : List (List Hit)) → some_choice begin_in_order lists ≡ rising firsts 0 lists
in_order_is lists = choice_map (λ hit. hit.from) are_in_order lists ∙ in_order_rises firsts 0 lists (λ hits place h. omega arith)

begins_at : (hits : List Hit) (place : ℕ) → has (firsts hits) place ≡ list_any (λ hit. eqb hit.from place) hits
begins_at hits place = list_any-map (λ other. eqb other place) (λ hit. hit.from) hits

sure : (hits : List Hit) → list_all (λ hit. true) hits ≡ true
sure hits = all_sure (λ hit. true) hits (λ hit. refl)

never : (hits : List Hit) → list_any (λ hit. false) hits ≡ true → ⊥
never [] h = true≢false (sym h)
never (hit ∷ hits) h = never hits h

always : (b : Bool) (hits : List Hit) → list_any (λ hit. b) hits ≡ true → b ≡ true
always true hits h = refl
always false hits h = absurd (never hits h)

-- the least of the places from one on at which hits begin
pub record First (hits : List Hit) (place first : ℕ) : Type 0 where
  pub from : place ≤ first
  pub there : has (firsts hits) first ≡ true
  pub none : (other : ℕ) → place ≤ other → other < first → has (firsts hits) other ≡ true → ⊥

-- a hit that begins at a place is left, where the place isn't passed
left_at : (hits : List Hit) (place other : ℕ) → place ≤ other → has (firsts hits) other ≡ true → list_any (λ hit. eqb hit.from other) (from_on Start Words place hits) ≡ true
left_at hits place other h there =
    any_filter (λ hit. eqb hit.from other) (λ hit. nat_le place hit.from) hits
    ∙ any_with (λ hit. true) (λ hit. eqb hit.from other) (λ hit. nat_le place hit.from && eqb hit.from other) hits (sure hits)
    (λ hit good e. let is = eqb-true hit.from other e in and_from (nat_le place hit.from) (eqb hit.from other) (le-leb place hit.from (omega (arith, h, is))) e)
    (sym (begins_at hits other) ∙ there)

first_of : (hits : List Hit) (place first : ℕ) → least_in (λ hit. hit.from) (from_on Start Words place hits) ≡ Some first → First hits place first
first_of hits place first is =
    let left = from_on Start Words place hits in
    let below = least_below (λ hit. hit.from) left first is in
    let found : list_any (λ hit. nat_le place hit.from && eqb hit.from first) hits ≡ true =
    sym (any_filter (λ hit. eqb hit.from first) (λ hit. nat_le place hit.from) hits)
    ∙ any_with (λ hit. nat_le first hit.from) (λ hit. nat_le hit.from first) (λ hit. eqb hit.from first) left below
    (λ hit more less. let a = leb-true first hit.from more in let b = leb-true hit.from first less in eq-eqb hit.from first (omega (arith, a, b)))
    (least_there (λ hit. hit.from) left first is) in
    record {
      from = leb-true place first (always (nat_le place first) hits
          (any_with (λ hit. true) (λ hit. nat_le place hit.from && eqb hit.from first) (λ hit. nat_le place first) hits (sure hits)
          (λ hit good e. let parts = and_parts (nat_le place hit.from) (eqb hit.from first) e in sym (ap (nat_le place) (eqb-true hit.from first parts.1)) ∙ parts.0) found));
      there = begins_at hits first
          ∙ any_with (λ hit. true) (λ hit. nat_le place hit.from && eqb hit.from first) (λ hit. eqb hit.from first) hits (sure hits)
          (λ hit good e. (and_parts (nat_le place hit.from) (eqb hit.from first) e).1) found;
      none = λ other from less there. never left
          (any_with (λ hit. nat_le first hit.from) (λ hit. eqb hit.from other) (λ hit. false) left below
          (λ hit more e. let a = leb-true first hit.from more in let b = eqb-true hit.from other e in absurd (omega (arith, a, b, less)))
          (left_at hits place other from there));
    }

none_of : (hits : List Hit) (place : ℕ) → least_in (λ hit. hit.from) (from_on Start Words place hits) ≡ None → (other : ℕ) → place ≤ other → has (firsts hits) other ≡ true → ⊥
none_of hits place is other from there =
    true≢false (sym (left_at hits place other from there) ∙ ap (list_any (λ hit. eqb hit.from other)) (none_least (λ hit. hit.from) (from_on Start Words place hits) is))

-- ---- phrase after phrase

module _ {P : Type 0} (state : P → PhraseState) where
  -- the phrases before the number have hits in order, up to the place
  pub record Rising (old now : List (Vec P Global)) (place number start end : ℕ) : Type 0 where
    pub ordered : rising firsts place (drop number (all_hits state old)) ≡ some_choice begin_in_order (all_hits state old)
    pub unmoved : drop number now ≡ drop number old
    pub long : length now ≡ length old
    pub rises : all_rising state now ≡ true
    pub aims : all_aims state now ≡ all_aims state old
    pub grown : start ≤ end

  pub rising_starts : (old : List (Vec P Global)) (steps : ℕ) → all_rising state old ≡ true → Rising old old 0 0 steps steps
  rising_starts old steps h = record { ordered = sym (in_order_is (all_hits state old)); unmoved = refl; long = refl; rises = h; aims = refl; grown = omega arith }

  -- the phrase at the number, and those after it
  at_number : (old now : List (Vec P Global)) (place number start end : ℕ) (x : Vec P Global) → Rising old now place number start end → number < length now → x ≡ get_or now number x
      → drop number (all_hits state old) ≡ hits_left state x.items ∷ drop (number + 1) (all_hits state old)
  at_number old now place number start end x so_far h read =
      let within : number < length old = omega (arith, h, so_far.long) in
      let view : Vec P Global → List Hit = λ phrase. hits_left state phrase.items in
      let zero_more : number + 0 ≡ number = omega arith in
      let at_old : get_or old number x ≡ x =
      ap (λ n. get_or old n x) (sym zero_more) ∙ sym (get_or-drop number old 0 x) ∙ ap (λ (phrases : List (Vec P Global)). get_or phrases 0 x) (sym so_far.unmoved)
      ∙ get_or-drop number now 0 x ∙ ap (λ n. get_or now n x) zero_more ∙ sym read in
      drop-map view number old
      ∙ ap (map view) (drop_more old number x within)
      ∙ (λ i. view (at_old i) ∷ sym (drop-map view (number + 1) old) i)

  pub rising_goes_on : (old now : List (Vec P Global)) (place number start middle end : ℕ) (x y : Vec P Global) (first : ℕ)
      → Rising old now place number start middle → number < length now → x ≡ get_or now number x
      → Some first ≡ least_of (number_at Start Words) (lists_from state Start Words place x.items) → are_rising state y.items ≡ true → aims_of state y.items ≡ aims_of state x.items → middle ≤ end
      → Rising old (set now number y) first (number + 1) start end
  rising_goes_on old now place number start middle end x y first so_far h read is rises aims more =
      let hits = hits_left state x.items in
      let found = first_of hits place first (sym (least_from state Start Words (number_at Start Words) place x.items) ∙ sym is) in
      record {
        ordered =
            sym (first_serves firsts hits (drop (number + 1) (all_hits state old)) place first found.from found.there found.none)
            ∙ ap (rising firsts place) (sym (at_number old now place number start middle x so_far h read))
            ∙ so_far.ordered;
        unmoved =
            drop-set-lt (number + 1) now number y (omega arith)
            ∙ next now old so_far.unmoved;
        long = length-set now number y ∙ so_far.long;
        rises = all_set (λ phrase. are_rising state phrase.items) now number x y h read (rises ∙ sym (all_at (λ phrase. are_rising state phrase.items) now number x h read so_far.rises)) ∙ so_far.rises;
        aims = map_set (λ phrase. aims_of state phrase.items) now number x y h read aims ∙ so_far.aims;
        grown = omega (arith, so_far.grown, more);
      }
    where
      next : (new own : List (Vec P Global)) → drop number new ≡ drop number own → drop (number + 1) new ≡ drop (number + 1) own
      next new own same = drop_more_same new own number same

  pub rising_fails : (old now : List (Vec P Global)) (place number start end : ℕ) (x : Vec P Global)
      → Rising old now place number start end → number < length now → x ≡ get_or now number x
      → None ≡ least_of (number_at Start Words) (lists_from state Start Words place x.items) → some_choice begin_in_order (all_hits state old) ≡ false
  rising_fails old now place number start end x so_far h read is =
      let hits = hits_left state x.items in
      let none = none_of hits place (sym (least_from state Start Words (number_at Start Words) place x.items) ∙ sym is) in
      sym so_far.ordered
      ∙ ap (rising firsts place) (at_number old now place number start end x so_far h read)
      ∙ none_serves firsts hits (drop (number + 1) (all_hits state old)) place none

  pub rising_ends : (old now : List (Vec P Global)) (place number start end : ℕ) → Rising old now place number start end → length now ≤ number → some_choice begin_in_order (all_hits state old) ≡ true
  rising_ends old now place number start end so_far h =
      let many = length-map old (λ (phrase : Vec P Global). hits_left state phrase.items) in
      sym so_far.ordered ∙ ap (rising firsts place) (drop_all number (all_hits state old) (omega (arith, h, so_far.long, many)))

  -- what a phrase that had no such hit leaves
  pub aims_kept : (old now : List (Vec P Global)) (place number start end : ℕ) (x y : Vec P Global) → Rising old now place number start end → number < length now → x ≡ get_or now number x
      → aims_of state y.items ≡ aims_of state x.items → all_aims state (set now number y) ≡ all_aims state old
  aims_kept old now place number start end x y so_far h read aims = map_set (λ phrase. aims_of state phrase.items) now number x y h read aims ∙ so_far.aims
