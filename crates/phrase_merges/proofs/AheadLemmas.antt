-- The hits of rising lists from a place on, and the least of their numbers.
use Rattle.std.proofs.Common.{◌≡◌, refl, sym, ap, ◌∙◌, ℕ, ◌+◌, ◌<◌, ◌≤◌, min, max, Bool, true, false, ◌&&◌, List, [], ◌∷◌, ◌++◌, map, flat_map, length, get_or, drop, set, Option, Some, None, option_map, Vec, Global, arith, inl, inr}
use Rattle.std.specs.Prelude.{nat_le}
use Rattle.std.specs.List.{list_any, list_all}
use Rattle.std.proofs.lemmas.Bool.{and_from, and_parts, cases_lt, or_left, or_right, le-leb, leb-true}
use Rattle.std.proofs.Math.ListN.{get_or-map}
use Rattle.std.proofs.lemmas.List.{drop_more, length-map}
use Rattle.std.proofs.lemmas.List.Elements.{filter-append}
use Rattle.std.proofs.lemmas.Option.{none-some, same_Some}
use Rattle.all_matches.proofs.ListTests.{list_any-alike, list_any-never}
use Rattle.all_matches.specs.Positions.{start_in, end_in}
use Rattle.ft_base.specs.declared.hit.Hit.{Hit}
use Rattle.ft_base.specs.declared.unit.TextUnit.{TextUnit}
use Rattle.ft_base.specs.declared.unit.TextUnit.TheVariants.{Paragraphs, Sentences, Words}
use Rattle.ft_operators.specs.Phrases.{PhraseState, first_hit}
use Rattle.window_merges.specs.Choices.{some_choice}
use Rattle.phrase_merges.specs.Rows.{aims_of, all_hits, are_rising, goes_on, goes_on_in, hits_left, is_rising}
use Rattle.phrase_merges.specs.declared.edge.Edge.{Edge}
use Rattle.phrase_merges.specs.declared.edge.Edge.TheVariants.{Start, End}
use Rattle.phrase_merges.specs.steps.Ahead.{farther, farthest_of, from_on, least_in, least_of, lists_from, number_at, phrases_from, sooner}
use Rattle.place_merges.proofs.MoveLemmas.{all_at, all_set, map_set}
use Rattle.phrase_merges.proofs.ChoiceLemmas.{all_sure, all_with, any_with, choice_with, each_choice, each_sure, each_with, filter_all, filter_more}

-- ---- rising lists

goes_in : (unit : TextUnit) (a b : Hit) → goes_on a b ≡ true → goes_on_in unit a b ≡ true
goes_in Words a b h = (and_parts (goes_on_in Words a b) (goes_on_in Sentences a b && goes_on_in Paragraphs a b) h).0
goes_in Sentences a b h =
    (and_parts (goes_on_in Sentences a b) (goes_on_in Paragraphs a b) (and_parts (goes_on_in Words a b) (goes_on_in Sentences a b && goes_on_in Paragraphs a b) h).1).0
goes_in Paragraphs a b h =
    (and_parts (goes_on_in Sentences a b) (goes_on_in Paragraphs a b) (and_parts (goes_on_in Words a b) (goes_on_in Sentences a b && goes_on_in Paragraphs a b) h).1).1

pub goes_at : (edge : Edge) (unit : TextUnit) (a b : Hit) → goes_on a b ≡ true → number_at edge unit a ≤ number_at edge unit b
goes_at Start unit a b h = leb-true (start_in unit a) (start_in unit b) (and_parts (nat_le (start_in unit a) (start_in unit b)) (nat_le (end_in unit a) (end_in unit b)) (goes_in unit a b h)).0
goes_at End unit a b h = leb-true (end_in unit a) (end_in unit b) (and_parts (nat_le (start_in unit a) (start_in unit b)) (nat_le (end_in unit a) (end_in unit b)) (goes_in unit a b h)).1

-- the first hit that begins at the place or after it is reached
pub reached : (by : Edge) (unit : TextUnit) (place : ℕ) (hits : List Hit) (hit : Hit) → is_rising hits ≡ true → Some hit ≡ first_hit hits → place ≤ number_at by unit hit → from_on by unit place hits ≡ hits
reached by unit place [] hit h first le = absurd (none-some hit (sym first))
reached by unit place (own ∷ hits) hit h first le =
    let parts = and_parts (list_all (goes_on own) hits) (is_rising hits) h in
    let is : number_at by unit hit ≡ number_at by unit own = ap (number_at by unit) (same_Some hit own first) in
    let own_from : place ≤ number_at by unit own = omega (arith, le, is) in
    filter_all (λ other. nat_le place (number_at by unit other)) (own ∷ hits)
    (and_from (nat_le place (number_at by unit own)) (list_all (λ other. nat_le place (number_at by unit other)) hits) (le-leb place (number_at by unit own) own_from)
    (all_with (goes_on own) (λ other. nat_le place (number_at by unit other)) hits
    (λ other on. let after = goes_at by unit own other on in le-leb place (number_at by unit other) (omega (arith, own_from, after))) parts.0))

pub from_again : (by : Edge) (unit : TextUnit) (place later : ℕ) → place ≤ later → (hits : List Hit) → from_on by unit later (from_on by unit place hits) ≡ from_on by unit later hits
from_again by unit place later h hits =
    filter_more (λ hit. nat_le place (number_at by unit hit)) (λ hit. nat_le later (number_at by unit hit))
    (λ hit e. let from = leb-true later (number_at by unit hit) e in le-leb place (number_at by unit hit) (omega (arith, h, from))) hits

pub from_zero : (by : Edge) (unit : TextUnit) (hits : List Hit) → from_on by unit 0 hits ≡ hits
from_zero by unit hits = filter_all (λ hit. nat_le 0 (number_at by unit hit)) hits (each hits)
  where
    each : (own : List Hit) → list_all (λ hit. nat_le 0 (number_at by unit hit)) own ≡ true
    each [] = refl
    each (hit ∷ own) = and_from (nat_le 0 (number_at by unit hit)) (list_all (λ other. nat_le 0 (number_at by unit other)) own) (le-leb 0 (number_at by unit hit) (omega arith)) (each own)

-- ---- the least number

pub sooner_turn : (a b c : Option ℕ) → sooner (sooner a b) c ≡ sooner a (sooner b c)
sooner_turn None b c = refl
sooner_turn (Some a) None c = refl
sooner_turn (Some a) (Some b) None = refl
sooner_turn (Some a) (Some b) (Some c) = ap Some (min_turn a b c)
  where
    min_turn : (x y z : ℕ) → min (min x y) z ≡ min x (min y z)
    min_turn x y z = omega arith

least_stays : (number : Hit → ℕ) (n : ℕ) (hits : List Hit) → list_all (λ hit. nat_le n (number hit)) hits ≡ true → sooner (Some n) (least_in number hits) ≡ Some n
least_stays number n [] h = refl
least_stays number n (hit ∷ hits) h =
    let parts = and_parts (nat_le n (number hit)) (list_all (λ other. nat_le n (number other)) hits) h in
    let le = leb-true n (number hit) parts.0 in
    let least : min n (number hit) ≡ n = omega (arith, le) in
    sym (sooner_turn (Some n) (Some (number hit)) (least_in number hits))
    ∙ ap (λ m. sooner (Some m) (least_in number hits)) least
    ∙ least_stays number n hits parts.1

-- of a rising list the first hit has the least number
pub least_first : (edge : Edge) (unit : TextUnit) (hits : List Hit) → is_rising hits ≡ true → option_map (number_at edge unit) (first_hit hits) ≡ least_in (number_at edge unit) hits
least_first edge unit [] h = refl
least_first edge unit (hit ∷ hits) h =
    let parts = and_parts (list_all (goes_on hit) hits) (is_rising hits) h in
    sym (least_stays (number_at edge unit) (number_at edge unit hit) hits
    (all_with (goes_on hit) (λ other. nat_le (number_at edge unit hit) (number_at edge unit other)) hits
    (λ other on. le-leb (number_at edge unit hit) (number_at edge unit other) (goes_at edge unit hit other on)) parts.0))

least_append : (number : Hit → ℕ) (hits others : List Hit) → least_in number (hits ++ others) ≡ sooner (least_in number hits) (least_in number others)
least_append number [] others = refl
least_append number (hit ∷ hits) others = ap (sooner (Some (number hit))) (least_append number hits others) ∙ sym (sooner_turn (Some (number hit)) (least_in number hits) (least_in number others))

-- the hits of all lists
abbrev pub hits_in : List (List Hit) → List Hit
hits_in lists = flat_map (λ hits. hits) lists

pub least_flat : (number : Hit → ℕ) (lists : List (List Hit)) → least_of number lists ≡ least_in number (hits_in lists)
least_flat number [] = refl
least_flat number (hits ∷ lists) = ap (sooner (least_in number hits)) (least_flat number lists) ∙ sym (least_append number hits (hits_in lists))

pub none_least : (number : Hit → ℕ) (hits : List Hit) → least_in number hits ≡ None → hits ≡ []
none_least number [] h = refl
none_least number (hit ∷ hits) h = absurd (never (least_in number hits) h)
  where
    never : (rest : Option ℕ) → sooner (Some (number hit)) rest ≡ None → ⊥
    never None e = none-some (number hit) (sym e)
    never (Some m) e = none-some (min (number hit) m) (sym e)

-- a least number that the other hits have, too
below_one : (number : Hit → ℕ) (hit : Hit) (hits : List Hit) (n : ℕ) (rest : Option ℕ) → least_in number hits ≡ rest
    → ((m : ℕ) → least_in number hits ≡ Some m → list_all (λ other. nat_le m (number other)) hits ≡ true) → sooner (Some (number hit)) rest ≡ Some n
    → list_all (λ other. nat_le n (number other)) (hit ∷ hits) ≡ true
below_one number hit hits n None none below e =
    let is = same_Some (number hit) n e in
    and_from (nat_le n (number hit)) (list_all (λ other. nat_le n (number other)) hits) (le-leb n (number hit) (omega (arith, is)))
    (ap (list_all (λ other. nat_le n (number other))) (none_least number hits none))
below_one number hit hits n (Some m) some below e =
    let is = same_Some (min (number hit) m) n e in
    and_from (nat_le n (number hit)) (list_all (λ other. nat_le n (number other)) hits) (le-leb n (number hit) (omega (arith, is)))
    (all_with (λ other. nat_le m (number other)) (λ other. nat_le n (number other)) hits
    (λ other le. let less = leb-true m (number other) le in le-leb n (number other) (omega (arith, is, less))) (below m some))

pub least_below : (number : Hit → ℕ) (hits : List Hit) (n : ℕ) → least_in number hits ≡ Some n → list_all (λ hit. nat_le n (number hit)) hits ≡ true
least_below number [] n h = refl
least_below number (hit ∷ hits) n h = below_one number hit hits n (least_in number hits) refl (λ m. least_below number hits m) h

there_one : (number : Hit → ℕ) (hit : Hit) (hits : List Hit) (n : ℕ) (rest : Option ℕ) → least_in number hits ≡ rest
    → ((m : ℕ) → least_in number hits ≡ Some m → list_any (λ other. nat_le (number other) m) hits ≡ true) → sooner (Some (number hit)) rest ≡ Some n
    → list_any (λ other. nat_le (number other) n) (hit ∷ hits) ≡ true
there_one number hit hits n None none there e =
    let is = same_Some (number hit) n e in
    or_left (nat_le (number hit) n) (list_any (λ other. nat_le (number other) n) hits) (le-leb (number hit) n (omega (arith, is)))
there_one number hit hits n (Some m) some there e =
    let is = same_Some (min (number hit) m) n e in
    elim (cases_lt n (number hit)) [
      | inl less ↦
          let same : m ≡ n = omega (arith, is, less) in
          or_right (nat_le (number hit) n) (list_any (λ other. nat_le (number other) n) hits)
          (ap (λ k. list_any (λ other. nat_le (number other) k) hits) (sym same) ∙ there m some)
      | inr le ↦ or_left (nat_le (number hit) n) (list_any (λ other. nat_le (number other) n) hits) (le-leb (number hit) n le)
    ]

pub least_there : (number : Hit → ℕ) (hits : List Hit) (n : ℕ) → least_in number hits ≡ Some n → list_any (λ hit. nat_le (number hit) n) hits ≡ true
least_there number [] n h = absurd (none-some n h)
least_there number (hit ∷ hits) n h = there_one number hit hits n (least_in number hits) refl (λ m. least_there number hits m) h

-- ---- the farthest of the least numbers

-- the same of phrases each of which has one list
abbrev pub farthest_in : (Hit → ℕ) → List (List Hit) → Option ℕ
farthest_in number [] = Some 0
farthest_in number (hits ∷ lists) = farther (least_in number hits) (farthest_in number lists)

pub farthest_flat : (number : Hit → ℕ) (phrases : List (List (List Hit))) → farthest_of number phrases ≡ farthest_in number (map hits_in phrases)
farthest_flat number [] = refl
farthest_flat number (lists ∷ phrases) = λ i. farther (least_flat number lists i) (farthest_flat number phrases i)

-- the farthest number of some hits
abbrev pub latest : (Hit → ℕ) → List Hit → ℕ
latest number [] = 0
latest number (hit ∷ hits) = max (number hit) (latest number hits)

module _ (number : Hit → ℕ) where
  reaches_one : (hits : List Hit) (lists : List (List Hit)) (far : ℕ) (one rest : Option ℕ) → least_in number hits ≡ one → farthest_in number lists ≡ rest
      → ((m : ℕ) → farthest_in number lists ≡ Some m → each_choice (λ chosen. nat_le m (latest number chosen)) lists ≡ true) → farther one rest ≡ Some far
      → list_all (λ hit. each_choice (λ chosen. nat_le far (latest number (hit ∷ chosen))) lists) hits ≡ true
  reaches_one hits lists far None rest a b each e = absurd (none-some far e)
  reaches_one hits lists far (Some n) None a b each e = absurd (none-some far e)
  reaches_one hits lists far (Some n) (Some m) a b each e =
      let is = same_Some (max n m) far e in
      all_with (λ hit. nat_le n (number hit)) (λ hit. each_choice (λ chosen. nat_le far (latest number (hit ∷ chosen))) lists) hits
      (λ hit le. each_with (λ chosen. nat_le m (latest number chosen)) (λ chosen. nat_le far (latest number (hit ∷ chosen))) lists
      (λ chosen more.
      let first = leb-true n (number hit) le in
      let others = leb-true m (latest number chosen) more in
      le-leb far (latest number (hit ∷ chosen)) (omega (arith, is, first, others)))
      (each m b))
      (least_below number hits n a)

  -- each choice reaches as far
  pub each_reaches : (lists : List (List Hit)) (far : ℕ) → farthest_in number lists ≡ Some far → each_choice (λ chosen. nat_le far (latest number chosen)) lists ≡ true
  each_reaches [] far h = let is = same_Some 0 far h in le-leb far 0 (omega (arith, is))
  each_reaches (hits ∷ lists) far h = reaches_one hits lists far (least_in number hits) (farthest_in number lists) refl refl (each_reaches lists) h

  short_one : (hits : List Hit) (lists : List (List Hit)) (far : ℕ) (one rest : Option ℕ) → least_in number hits ≡ one → farthest_in number lists ≡ rest
      → ((m : ℕ) → farthest_in number lists ≡ Some m → some_choice (λ chosen. nat_le (latest number chosen) m) lists ≡ true) → farther one rest ≡ Some far
      → list_any (λ hit. some_choice (λ chosen. nat_le (latest number (hit ∷ chosen)) far) lists) hits ≡ true
  short_one hits lists far None rest a b some e = absurd (none-some far e)
  short_one hits lists far (Some n) None a b some e = absurd (none-some far e)
  short_one hits lists far (Some n) (Some m) a b some e =
      let is = same_Some (max n m) far e in
      any_with (λ hit. true) (λ hit. nat_le (number hit) n) (λ hit. some_choice (λ chosen. nat_le (latest number (hit ∷ chosen)) far) lists) hits
      (all_sure (λ hit. true) hits (λ hit. refl))
      (λ hit sure le. choice_with (λ chosen. true) (λ chosen. nat_le (latest number chosen) m) (λ chosen. nat_le (latest number (hit ∷ chosen)) far) lists
      (each_sure (λ chosen. true) lists (λ chosen. refl))
      (λ chosen one less.
      let first = leb-true (number hit) n le in
      let others = leb-true (latest number chosen) m less in
      le-leb (latest number (hit ∷ chosen)) far (omega (arith, is, first, others)))
      (some m b))
      (least_there number hits n a)

  -- and some choice reaches no farther
  pub some_short : (lists : List (List Hit)) (far : ℕ) → farthest_in number lists ≡ Some far → some_choice (λ chosen. nat_le (latest number chosen) far) lists ≡ true
  some_short [] far h = le-leb 0 far (omega arith)
  some_short (hits ∷ lists) far h = short_one hits lists far (least_in number hits) (farthest_in number lists) refl refl (some_short lists) h

  none_one : (test : List Hit → Bool) (hits : List Hit) (lists : List (List Hit)) (one rest : Option ℕ) → least_in number hits ≡ one → farthest_in number lists ≡ rest
      → ((other : List Hit → Bool) → farthest_in number lists ≡ None → some_choice other lists ≡ false) → farther one rest ≡ None
      → list_any (λ hit. some_choice (λ chosen. test (hit ∷ chosen)) lists) hits ≡ false
  none_one test hits lists None rest a b none e = ap (list_any (λ hit. some_choice (λ chosen. test (hit ∷ chosen)) lists)) (none_least number hits a)
  none_one test hits lists (Some n) None a b none e =
      list_any-alike (λ hit. some_choice (λ chosen. test (hit ∷ chosen)) lists) (λ hit. false) hits (λ hit. none (λ chosen. test (hit ∷ chosen)) b)
      ∙ list_any-never hits
  none_one test hits lists (Some n) (Some m) a b none e = absurd (none-some (max n m) (sym e))

  -- where a phrase has no hit there is no choice
  pub no_choice : (test : List Hit → Bool) (lists : List (List Hit)) → farthest_in number lists ≡ None → some_choice test lists ≡ false
  no_choice test [] h = absurd (none-some 0 (sym h))
  no_choice test (hits ∷ lists) h = none_one test hits lists (least_in number hits) (farthest_in number lists) refl refl (λ other. no_choice other lists) h

-- ---- phrases from a place on

module _ {P : Type 0} (state : P → PhraseState) (by : Edge) (unit : TextUnit) where
  pub flat_lists : (place : ℕ) (sources : List P) → hits_in (lists_from state by unit place sources) ≡ from_on by unit place (hits_left state sources)
  flat_lists place [] = refl
  flat_lists place (source ∷ sources) =
      ap (λ rest. from_on by unit place (state source).rest ++ rest) (flat_lists place sources)
      ∙ sym (filter-append (λ hit. nat_le place (number_at by unit hit)) (state source).rest (hits_left state sources))

  pub flat_phrases : (place : ℕ) (phrases : List (Vec P Global)) → map hits_in (phrases_from state by unit place phrases) ≡ map (from_on by unit place) (all_hits state phrases)
  flat_phrases place [] = refl
  flat_phrases place (phrase ∷ phrases) = λ i. flat_lists place phrase.items i ∷ flat_phrases place phrases i

  pub least_from : (number : Hit → ℕ) (place : ℕ) (sources : List P) → least_of number (lists_from state by unit place sources) ≡ least_in number (from_on by unit place (hits_left state sources))
  least_from number place sources = least_flat number (lists_from state by unit place sources) ∙ ap (least_in number) (flat_lists place sources)

  pub farthest_from : (number : Hit → ℕ) (place : ℕ) (phrases : List (Vec P Global))
      → farthest_of number (phrases_from state by unit place phrases) ≡ farthest_in number (map (from_on by unit place) (all_hits state phrases))
  farthest_from number place phrases = farthest_flat number (phrases_from state by unit place phrases) ∙ ap (farthest_in number) (flat_phrases place phrases)

  -- ---- list after list

  -- the lists before the number were reached
  pub record Gathering (number_of : Hit → ℕ) (place : ℕ) (old now : List P) (number : ℕ) (least : Option ℕ) (start end : ℕ) : Type 0 where
    pub least_is : sooner least (least_of number_of (drop number (lists_from state by unit place old))) ≡ least_of number_of (lists_from state by unit place old)
    pub left : lists_from state by unit place now ≡ lists_from state by unit place old
    pub rises : are_rising state now ≡ true
    pub aims : aims_of state now ≡ aims_of state old
    pub grown : start ≤ end

  pub gather_on : (edge : Edge) (place : ℕ) (old now : List P) (number : ℕ) (least : Option ℕ) (start middle end : ℕ) (x y : P) (first : Option Hit)
      → Gathering (number_at edge unit) place old now number least start middle → number < length now → x ≡ get_or now number x
      → first ≡ first_hit (state y).rest → (state y).rest ≡ from_on by unit place (state x).rest → is_rising (state y).rest ≡ true → (state y).aims ≡ (state x).aims → middle ≤ end
      → Gathering (number_at edge unit) place old (set now number y) (number + 1) (sooner least (option_map (number_at edge unit) first)) start end
  gather_on edge place old now number least start middle end x y first so_far h read is rest rises aims more =
      let lists = lists_from state by unit place old in
      let view : P → List Hit = λ source. from_on by unit place (state source).rest in
      let many : length now ≡ length lists = sym (length-map now view) ∙ ap length so_far.left in
      let within : number < length lists = omega (arith, h, many) in
      let here : view x ≡ get_or lists number (view x) =
      ap view read ∙ sym (get_or-map view now number x) ∙ ap (λ (views : List (List Hit)). get_or views number (view x)) so_far.left in
      let known : option_map (number_at edge unit) first ≡ least_in (number_at edge unit) (get_or lists number (view x)) =
      ap (option_map (number_at edge unit)) is ∙ least_first edge unit (state y).rest rises ∙ ap (least_in (number_at edge unit)) (rest ∙ here) in
      let again : view y ≡ view x =
      ap (from_on by unit place) rest ∙ from_again by unit place place (omega arith) (state x).rest in
      record {
        least_is =
            ap (λ one. sooner (sooner least one) (least_of (number_at edge unit) (drop (number + 1) lists))) known
            ∙ sooner_turn least (least_in (number_at edge unit) (get_or lists number (view x))) (least_of (number_at edge unit) (drop (number + 1) lists))
            ∙ ap (λ (views : List (List Hit)). sooner least (least_of (number_at edge unit) views)) (sym (drop_more lists number (view x) within))
            ∙ so_far.least_is;
        left = map_set view now number x y h read again ∙ so_far.left;
        rises = all_set (λ source. is_rising (state source).rest) now number x y h read (rises ∙ sym (all_at (λ source. is_rising (state source).rest) now number x h read so_far.rises)) ∙ so_far.rises;
        aims = map_set (λ source. (state source).aims) now number x y h read aims ∙ so_far.aims;
        grown = omega (arith, so_far.grown, more);
      }

  -- there are as many lists as before
  pub gather_count : (number_of : Hit → ℕ) (place : ℕ) (old now : List P) (number : ℕ) (least : Option ℕ) (start end : ℕ) → Gathering number_of place old now number least start end → length now ≡ length old
  gather_count number_of place old now number least start end so_far =
      let view : P → List Hit = λ source. from_on by unit place (state source).rest in
      sym (length-map now view) ∙ ap length so_far.left ∙ length-map old view

pub map_same : {A : Type 0} (f : A → A) → ((x : A) → f x ≡ x) → (xs : List A) → map f xs ≡ xs
map_same f same [] = refl
map_same f same (x ∷ xs) = λ i. same x i ∷ map_same f same xs i
