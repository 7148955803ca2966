-- Filters of Matches whose phrases have other numbers, where the hits that `ordered` compares are in turn.
use Rattle.std.proofs.Common.{◌≡◌, refl, ap, sym, ◌∙◌, ℕ, suc, ◌+◌, ◌-◌, List, [], ◌∷◌, ◌++◌, Bool, true, ◌&&◌, ◌||◌, cond, arith}
use Rattle.std.specs.Prelude.{pos, ◌-ℤ◌, ◌==◌, map, filter, Option, Some, None, option_map, option_to_list, nat_le, nat_lt}
use Rattle.std.specs.List.{list_any, list_all, range_with_len}
use Rattle.std.proofs.lemmas.Bool.{and_parts}
use Rattle.std.proofs.lemmas.Bool.Decides.{nat_tests}
use Rattle.std.proofs.lemmas.List.{map-append}
use Rattle.ft_base.specs.Hits.{every_two}
use Rattle.ft_base.specs.declared.filter.Filter.{Filter}
use Rattle.ft_base.specs.declared.filter.Filter.TheVariants as F
use Rattle.ft_base.specs.declared.hit.Hit.{Hit}
use Rattle.ft_base.specs.declared.hit.Match.{Match}
use Rattle.ft_base.specs.declared.range.Range.{Range}
use Rattle.ft_base.specs.declared.span.Span.{Span}
use Rattle.ft_base.specs.declared.unit.TextUnit.{TextUnit}
use Rattle.ft_base.specs.declared.unit.TextUnit.TheVariants.{Words, Sentences, Paragraphs}
use Rattle.all_matches.specs.declared.window.Window.{Window}
use Rattle.all_matches.specs.Distance.{gap_in_range, stands_before, put_in_order, in_order, neighbours_in_range, distance_in_range}
use Rattle.all_matches.specs.Filters.{passes, choices, keeps, after, through, filtered_match, ft_filtered}
use Rattle.all_matches.specs.Join.{least, greatest, are_whole, join}
use Rattle.all_matches.specs.Positions.{start_in, end_in, covers, places_from_to, share_one, are_apart, agree_in_order}
use Rattle.all_matches.specs.Spans.{places_in}
use Rattle.all_matches.specs.Window.{window_at, windows_round, fits_window, lies_in_window}
use Rattle.all_matches.proofs.ListTests.{list_any-map, list_any-alike}
use Rattle.all_matches.proofs.Shifted.{map-cond}
use Rattle.match_sets.specs.Numbers.{renumbered_hit, renumbered_match, renumbered, are_in_turn, keeps_turns}

module _ (number : ℕ → ℕ) where
  abbrev new : Hit → Hit
  new = renumbered_hit number

  -- ---- tests of lists

  -- a test of hits that answers alike where another one passes
  all_where : (fit p q : Hit → Bool) → ((hit : Hit) → fit hit ≡ true → p (new hit) ≡ q hit) → (hits : List Hit) → list_all fit hits ≡ true → list_all p (map new hits) ≡ list_all q hits
  all_where fit p q same [] h = refl
  all_where fit p q same (hit ∷ rest) h = let parts = and_parts (fit hit) (list_all fit rest) h in λ i. same hit parts.0 i && all_where fit p q same rest parts.1 i

  all_same : (p q : Hit → Bool) → ((hit : Hit) → p (new hit) ≡ q hit) → (hits : List Hit) → list_all p (map new hits) ≡ list_all q hits
  all_same p q same [] = refl
  all_same p q same (hit ∷ rest) = λ i. same hit i && all_same p q same rest i

  two_where : (fit test : Hit → Hit → Bool) → ((a b : Hit) → fit a b ≡ true → test (new a) (new b) ≡ test a b) → (hits : List Hit) → every_two fit hits ≡ true
      → every_two test (map new hits) ≡ every_two test hits
  two_where fit test same [] h = refl
  two_where fit test same (hit ∷ rest) h =
      let parts = and_parts (list_all (fit hit) rest) (every_two fit rest) h in
      λ i. all_where (fit hit) (test (new hit)) (test hit) (same hit) rest parts.0 i && two_where fit test same rest parts.1 i

  two_same : (test : Hit → Hit → Bool) → ((a b : Hit) → test (new a) (new b) ≡ test a b) → (hits : List Hit) → every_two test (map new hits) ≡ every_two test hits
  two_same test same [] = refl
  two_same test same (hit ∷ rest) = λ i. all_same (test (new hit)) (test hit) (same hit) rest i && two_same test same rest i

  pairs_same : (test : Hit → Hit → Bool) → ((a b : Hit) → test (new a) (new b) ≡ test a b) → (hits : List Hit)
      → list_all (λ a. list_all (test a) (map new hits)) (map new hits) ≡ list_all (λ a. list_all (test a) hits) hits
  pairs_same test same hits = all_same (λ a. list_all (test a) (map new hits)) (λ a. list_all (test a) hits) (λ a. all_same (test (new a)) (test a) (same a) hits) hits

  some_cover : (test : Hit → ℕ → Bool) → ((hit : Hit) (place : ℕ) → test (new hit) place ≡ test hit place) → (hits : List Hit) (places : List ℕ)
      → list_all (λ place. list_any (λ hit. test hit place) (map new hits)) places ≡ list_all (λ place. list_any (λ hit. test hit place) hits) places
  some_cover test same hits [] = refl
  some_cover test same hits (place ∷ rest) =
      λ i. (list_any-map (λ hit. test hit place) new hits ∙ list_any-alike (λ hit. test (new hit) place) (λ hit. test hit place) hits (λ hit. same hit place)) i && some_cover test same hits rest i

  filter_where : (fit p q : Hit → Bool) → ((hit : Hit) → fit hit ≡ true → p (new hit) ≡ q hit) → (hits : List Hit) → list_all fit hits ≡ true → filter p (map new hits) ≡ map new (filter q hits)
  filter_where fit p q same [] h = refl
  filter_where fit p q same (hit ∷ rest) h =
      let parts = and_parts (fit hit) (list_all fit rest) h in
      (λ i. cond (same hit parts.0 i) (new hit ∷ filter_where fit p q same rest parts.1 i) (filter_where fit p q same rest parts.1 i)) ∙ sym (map-cond new (q hit) (hit ∷ filter q rest) (filter q rest))

  -- ---- places

  start_same : (kind : TextUnit) (hit : Hit) → start_in kind (new hit) ≡ start_in kind hit
  start_same Words hit = refl
  start_same Sentences hit = refl
  start_same Paragraphs hit = refl

  end_same : (kind : TextUnit) (hit : Hit) → end_in kind (new hit) ≡ end_in kind hit
  end_same Words hit = refl
  end_same Sentences hit = refl
  end_same Paragraphs hit = refl

  agree_same : (a b : Hit) → are_in_turn number a b ≡ true → agree_in_order (new a) (new b) ≡ agree_in_order a b
  agree_same a b h = λ i. (nat_le a.from b.from && (turned a.query b.query (number a.query) (number b.query) h).0 i) || (nat_le b.from a.from && (turned a.query b.query (number a.query) (number b.query) h).1 i)
    where
      first_of : (m n p q : ℕ) → ((nat_lt m n && nat_lt p q) || (nat_lt n m && nat_lt q p)) ≡ true → nat_le p q ≡ nat_le m n
      first_of m n p q h = grind (arith, nat_tests)

      other_of : (m n p q : ℕ) → ((nat_lt m n && nat_lt p q) || (nat_lt n m && nat_lt q p)) ≡ true → nat_le q p ≡ nat_le n m
      other_of m n p q h = grind (arith, nat_tests)

      turned : (m n p q : ℕ) → ((nat_lt m n && nat_lt p q) || (nat_lt n m && nat_lt q p)) ≡ true → (nat_le p q ≡ nat_le m n) × (nat_le q p ≡ nat_le n m)
      turned m n p q h = (first_of m n p q h, other_of m n p q h)

  share_same : (kind : TextUnit) (a b : Hit) → share_one kind (new a) (new b) ≡ share_one kind a b
  share_same kind a b = λ i. (start_same kind a i == end_same kind a i) && (start_same kind b i == end_same kind b i) && (start_same kind a i == start_same kind b i)

  apart_same : (kind : TextUnit) (a b : Hit) → are_apart kind (new a) (new b) ≡ are_apart kind a b
  apart_same kind a b = λ i. nat_lt (end_same kind a i) (start_same kind b i) || nat_lt (end_same kind b i) (start_same kind a i)

  distance_same : (range : Range) (kind : TextUnit) (a b : Hit) → distance_in_range range kind (new a) (new b) ≡ distance_in_range range kind a b
  distance_same range kind a b = λ i. cond (stands_before a b) (gap_in_range range (end_same kind a i) (start_same kind b i)) (gap_in_range range (end_same kind b i) (start_same kind a i))

  lies_same : (kind : TextUnit) (window : Window) (hit : Hit) → lies_in_window kind window (new hit) ≡ lies_in_window kind window hit
  lies_same Words window hit = refl
  lies_same Sentences window hit = refl
  lies_same Paragraphs window hit = refl

  -- ---- joined hits, and hits in order

  column : (part : Hit → ℕ) → ((hit : Hit) → part (new hit) ≡ part hit) → (hits : List Hit) → map part (map new hits) ≡ map part hits
  column part same [] = refl
  column part same (hit ∷ rest) = λ i. same hit i ∷ column part same rest i

  join_same : (hits : List Hit) → join (map new hits) ≡ option_map new (join hits)
  join_same [] = refl
  join_same (first ∷ rest) =
      let from : least first.from (map (λ hit. hit.from) (map new rest)) ≡ least first.from (map (λ hit. hit.from) rest) = ap (least first.from) (column (λ hit. hit.from) (λ hit. refl) rest) in
      let to : greatest first.to (map (λ hit. hit.to) (map new rest)) ≡ greatest first.to (map (λ hit. hit.to) rest) = ap (greatest first.to) (column (λ hit. hit.to) (λ hit. refl) rest) in
      let low = least first.from (map (λ hit. hit.from) rest) in
      let high = greatest first.to (map (λ hit. hit.to) rest) in
      let whole : are_whole (map new (first ∷ rest)) low high ≡ are_whole (first ∷ rest) low high
      = λ i. all_same (λ hit. hit.whole) (λ hit. hit.whole) (λ hit. refl) (first ∷ rest) i && some_cover covers (λ hit place. refl) (first ∷ rest) (places_from_to low high) i in
      λ i. Some record {
        query = number first.query;
        from = from i;
        to = to i;
        sent_from = least first.sent_from (column (λ hit. hit.sent_from) (λ hit. refl) rest i);
        sent_to = greatest first.sent_to (column (λ hit. hit.sent_to) (λ hit. refl) rest i);
        para_from = least first.para_from (column (λ hit. hit.para_from) (λ hit. refl) rest i);
        para_to = greatest first.para_to (column (λ hit. hit.para_to) (λ hit. refl) rest i);
        whole = ((λ j. are_whole (map new (first ∷ rest)) (from j) (to j)) ∙ whole) i;
      }

  put_same : (hit : Hit) (hits : List Hit) → put_in_order (new hit) (map new hits) ≡ map new (put_in_order hit hits)
  put_same hit [] = refl
  put_same hit (first ∷ rest) =
      ap (λ more. cond (stands_before hit first) (new hit ∷ new first ∷ map new rest) (new first ∷ more)) (put_same hit rest)
      ∙ sym (map-cond new (stands_before hit first) (hit ∷ first ∷ rest) (first ∷ put_in_order hit rest))

  order_same : (hits : List Hit) → in_order (map new hits) ≡ map new (in_order hits)
  order_same [] = refl
  order_same (hit ∷ rest) = ap (put_in_order (new hit)) (order_same rest) ∙ put_same hit (in_order rest)

  neighbours_same : (range : Range) (kind : TextUnit) (hits : List Hit) → neighbours_in_range range kind (map new hits) ≡ neighbours_in_range range kind hits
  neighbours_same range kind [] = refl
  neighbours_same range kind (a ∷ []) = refl
  neighbours_same range kind (a ∷ b ∷ rest) = λ i. gap_in_range range (end_same kind a i) (start_same kind b i) && neighbours_same range kind (b ∷ rest) i

  windows_same : (size : ℕ) (kind : TextUnit) (joined : Option Hit) → windows_round size kind (option_map new joined) ≡ windows_round size kind joined
  windows_same size kind None = refl
  windows_same size kind (Some hit) =
      λ i. map (λ n. window_at size (pos (suc (end_same kind hit i) + n) -ℤ pos size)) (range_with_len 0 ((start_same kind hit i + size) - end_same kind hit i))

  fits_same : (size : ℕ) (kind : TextUnit) (joined : Option Hit) → fits_window size kind (option_map new joined) ≡ fits_window size kind joined
  fits_same size kind None = refl
  fits_same size kind (Some hit) = λ i. nat_lt (end_same kind hit i) (start_same kind hit i + size)

  joined_list : (joined : Option Hit) → option_to_list (option_map new joined) ≡ map new (option_to_list joined)
  joined_list None = refl
  joined_list (Some hit) = refl

  -- ---- filters

  passes_same : (kind : Filter) (includes : List Hit) (item : Span) → every_two (are_in_turn number) includes ≡ true → passes kind (map new includes) item ≡ passes kind includes item
  passes_same F.Ordered includes item turns = two_where (are_in_turn number) agree_in_order agree_same includes turns
  passes_same (F.Window size kind) includes item turns = ap (fits_window size kind) (join_same includes) ∙ fits_same size kind (join includes)
  passes_same (F.Distance range kind) includes item turns = ap (neighbours_in_range range kind) (order_same includes) ∙ neighbours_same range kind (in_order includes)
  passes_same F.SameSentence includes item turns = pairs_same (share_one Sentences) (share_same Sentences) includes
  passes_same F.SameParagraph includes item turns = pairs_same (share_one Paragraphs) (share_same Paragraphs) includes
  passes_same F.DifferentSentence includes item turns = two_same (are_apart Sentences) (apart_same Sentences) includes
  passes_same F.DifferentParagraph includes item turns = two_same (are_apart Paragraphs) (apart_same Paragraphs) includes
  passes_same F.AtStart includes item turns = list_any-map (λ hit. hit.from == item.from) new includes
  passes_same F.AtEnd includes item turns = list_any-map (λ hit. suc hit.to == item.to) new includes
  passes_same F.EntireContent includes item turns = some_cover (λ hit place. hit.whole && covers hit place) (λ hit place. refl) includes (places_in item)

  choices_same : (kind : Filter) (includes : List Hit) → choices kind (map new includes) ≡ choices kind includes
  choices_same F.Ordered includes = refl
  choices_same (F.Window size kind) includes = ap (map Some) (ap (windows_round size kind) (join_same includes) ∙ windows_same size kind (join includes))
  choices_same (F.Distance range kind) includes = refl
  choices_same F.SameSentence includes = refl
  choices_same F.SameParagraph includes = refl
  choices_same F.DifferentSentence includes = refl
  choices_same F.DifferentParagraph includes = refl
  choices_same F.AtStart includes = refl
  choices_same F.AtEnd includes = refl
  choices_same F.EntireContent includes = refl

  keeps_same : (kind : Filter) (includes : List Hit) (choice : Option Window) (hit : Hit) → list_all (are_in_turn number hit) includes ≡ true
      → keeps kind (map new includes) choice (new hit) ≡ keeps kind includes choice hit
  keeps_same F.Ordered includes choice hit turns = all_where (are_in_turn number hit) (agree_in_order (new hit)) (agree_in_order hit) (agree_same hit) includes turns
  keeps_same (F.Window size kind) includes None hit turns = refl
  keeps_same (F.Window size kind) includes (Some window) hit turns = lies_same kind window hit
  keeps_same (F.Distance range kind) includes choice hit turns =
      list_any-map (distance_in_range range kind (new hit)) new includes
      ∙ list_any-alike (λ a. distance_in_range range kind (new hit) (new a)) (distance_in_range range kind hit) includes (distance_same range kind hit)
  keeps_same F.SameSentence includes choice hit turns = all_same (share_one Sentences (new hit)) (share_one Sentences hit) (share_same Sentences hit) (hit ∷ includes)
  keeps_same F.SameParagraph includes choice hit turns = all_same (share_one Paragraphs (new hit)) (share_one Paragraphs hit) (share_same Paragraphs hit) (hit ∷ includes)
  keeps_same F.DifferentSentence includes choice hit turns = all_same (are_apart Sentences (new hit)) (are_apart Sentences hit) (apart_same Sentences hit) includes
  keeps_same F.DifferentParagraph includes choice hit turns = all_same (are_apart Paragraphs (new hit)) (are_apart Paragraphs hit) (apart_same Paragraphs hit) includes
  keeps_same F.AtStart includes choice hit turns = refl
  keeps_same F.AtEnd includes choice hit turns = refl
  keeps_same F.EntireContent includes choice hit turns = refl

  after_same : (kind : Filter) (includes : List Hit) → after kind (map new includes) ≡ map new (after kind includes)
  after_same F.Ordered includes = refl
  after_same (F.Window size kind) includes = ap option_to_list (join_same includes) ∙ joined_list (join includes)
  after_same (F.Distance range kind) includes = ap option_to_list (join_same includes) ∙ joined_list (join includes)
  after_same F.SameSentence includes = refl
  after_same F.SameParagraph includes = refl
  after_same F.DifferentSentence includes = refl
  after_same F.DifferentParagraph includes = refl
  after_same F.AtStart includes = refl
  after_same F.AtEnd includes = refl
  after_same F.EntireContent includes = refl

  module _ (kind : Filter) (item : Span) where
    module _ (m : Match) (turns : keeps_turns number m ≡ true) where
      abbrev parts : (every_two (are_in_turn number) m.includes ≡ true) × (list_all (λ hit. list_all (are_in_turn number hit) m.includes) m.excludes ≡ true)
      parts = and_parts (every_two (are_in_turn number) m.includes) (list_all (λ hit. list_all (are_in_turn number hit) m.includes) m.excludes) turns

      through_same : (choice : Option Window) → through kind (renumbered_match number m) choice ≡ renumbered_match number (through kind m choice)
      through_same choice = λ i. record {
        includes = after_same kind m.includes i;
        excludes = filter_where (λ hit. list_all (are_in_turn number hit) m.includes) (keeps kind (map new m.includes) choice) (keeps kind m.includes choice) (keeps_same kind m.includes choice) m.excludes parts.1 i;
      }

      each_choice : (choices : List (Option Window)) → map (through kind (renumbered_match number m)) choices ≡ renumbered number (map (through kind m) choices)
      each_choice [] = refl
      each_choice (choice ∷ rest) = λ i. through_same choice i ∷ each_choice rest i

      match_same : filtered_match kind item (renumbered_match number m) ≡ renumbered number (filtered_match kind item m)
      match_same =
          (λ i. cond (passes_same kind m.includes item parts.0 i) (map (through kind (renumbered_match number m)) (choices_same kind m.includes i)) [])
          ∙ ap (λ ms. cond (passes kind m.includes item) ms []) (each_choice (choices kind m.includes))
          ∙ sym (map-cond (renumbered_match number) (passes kind m.includes item) (map (through kind m) (choices kind m.includes)) [])

    pub filtered_same : (ms : List Match) → list_all (keeps_turns number) ms ≡ true → ft_filtered kind item (renumbered number ms) ≡ renumbered number (ft_filtered kind item ms)
    filtered_same [] turns = refl
    filtered_same (m ∷ rest) turns =
        let sides = and_parts (keeps_turns number m) (list_all (keeps_turns number) rest) turns in
        (λ i. match_same m sides.0 i ++ filtered_same rest sides.1 i) ∙ sym (map-append (renumbered_match number) (filtered_match kind item m) (ft_filtered kind item rest))
