-- Filters of AllMatches whose phrases have other numbers.
use Rattle.std.proofs.Common.{◌≡◌, refl, ap, sym, ◌∙◌, ℕ, suc, ◌+◌, ◌-◌, List, [], ◌∷◌, ◌++◌, Bool, ◌&&◌, ◌||◌, arith}
use Rattle.std.specs.Prelude.{pos, ◌-ℤ◌, ◌==◌, map, cond, Option, Some, None, option_map, option_to_list, nat_le}
use Rattle.std.specs.List.{list_any, list_all, range_with_len}
use Rattle.std.proofs.lemmas.Bool.Decides.{nat_tests}
use Rattle.std.proofs.lemmas.List.{map-append}
use Rattle.ft_base.specs.declared.hit.Hit.{Hit}
use Rattle.ft_base.specs.declared.hit.Match.{Match}
use Rattle.ft_base.specs.declared.filter.Filter.{Filter}
use Rattle.ft_base.specs.declared.filter.Filter.TheVariants as F
use Rattle.ft_base.specs.declared.range.Range.{Range}
use Rattle.ft_base.specs.declared.span.Span.{Span}
use Rattle.ft_base.specs.declared.unit.TextUnit.{TextUnit}
use Rattle.ft_base.specs.declared.unit.TextUnit.TheVariants.{Words, Sentences, Paragraphs}
use Rattle.all_matches.specs.declared.window.Window.{Window}
use Rattle.all_matches.specs.Spans.{places_in}
use Rattle.all_matches.specs.Positions.{start_in, end_in, covers, places_from_to, share_one, are_apart, agree_in_order}
use Rattle.all_matches.specs.Join.{least, greatest, are_whole, join}
use Rattle.all_matches.specs.Window.{window_at, windows_round, fits_window, lies_in_window}
use Rattle.all_matches.specs.Distance.{gap_in_range, stands_before, put_in_order, in_order, neighbours_in_range, distance_in_range}
use Rattle.ft_base.specs.Hits.{every_two}
use Rattle.all_matches.specs.Filters.{passes, choices, keeps, after, through, filtered_match, ft_filtered}
use Rattle.all_matches.specs.Numbering.{shifted_hit, shifted_match, shifted}
use Rattle.all_matches.proofs.Shifted.{map-cond, any-shifted, all-shifted, filter-shifted}

module _ (by : ℕ) where
  start-shifted : (kind : TextUnit) (hit : Hit) → start_in kind (shifted_hit by hit) ≡ start_in kind hit
  start-shifted Words hit = refl
  start-shifted Sentences hit = refl
  start-shifted Paragraphs hit = refl

  end-shifted : (kind : TextUnit) (hit : Hit) → end_in kind (shifted_hit by hit) ≡ end_in kind hit
  end-shifted Words hit = refl
  end-shifted Sentences hit = refl
  end-shifted Paragraphs hit = refl

  share_one-shifted : (kind : TextUnit) (a b : Hit) → share_one kind (shifted_hit by a) (shifted_hit by b) ≡ share_one kind a b
  share_one-shifted Words a b = refl
  share_one-shifted Sentences a b = refl
  share_one-shifted Paragraphs a b = refl

  are_apart-shifted : (kind : TextUnit) (a b : Hit) → are_apart kind (shifted_hit by a) (shifted_hit by b) ≡ are_apart kind a b
  are_apart-shifted Words a b = refl
  are_apart-shifted Sentences a b = refl
  are_apart-shifted Paragraphs a b = refl

  same_order : (m n : ℕ) → nat_le (by + m) (by + n) ≡ nat_le m n
  same_order m n = grind (arith, nat_tests)

  agree-shifted : (a b : Hit) → agree_in_order (shifted_hit by a) (shifted_hit by b) ≡ agree_in_order a b
  agree-shifted a b = λ i. (nat_le a.from b.from && same_order a.query b.query i) || (nat_le b.from a.from && same_order b.query a.query i)

  every_two-shifted : (test : Hit → Hit → Bool) → ((a b : Hit) → test (shifted_hit by a) (shifted_hit by b) ≡ test a b) → (hits : List Hit) → every_two test (map (shifted_hit by) hits) ≡ every_two test hits
  every_two-shifted test same [] = refl
  every_two-shifted test same (hit ∷ rest) = λ i. all-shifted by (test (shifted_hit by hit)) (test hit) (same hit) rest i && every_two-shifted test same rest i

  all_pairs-shifted : (test : Hit → Hit → Bool) → ((a b : Hit) → test (shifted_hit by a) (shifted_hit by b) ≡ test a b) → (hits : List Hit)
      → list_all (λ a. list_all (test a) (map (shifted_hit by) hits)) (map (shifted_hit by) hits) ≡ list_all (λ a. list_all (test a) hits) hits
  all_pairs-shifted test same hits =
      all-shifted by (λ a. list_all (test a) (map (shifted_hit by) hits)) (λ a. list_all (test a) hits) (λ a. all-shifted by (test (shifted_hit by a)) (test a) (same a) hits) hits

  column : (f : Hit → ℕ) → ((hit : Hit) → f (shifted_hit by hit) ≡ f hit) → (hits : List Hit) → map f (map (shifted_hit by) hits) ≡ map f hits
  column f same [] = refl
  column f same (hit ∷ rest) = λ i. same hit i ∷ column f same rest i

  are_whole-shifted : (hits : List Hit) (first last : ℕ) → are_whole (map (shifted_hit by) hits) first last ≡ are_whole hits first last
  are_whole-shifted hits first last =
      λ i. all-shifted by (λ hit. hit.whole) (λ hit. hit.whole) (λ hit. refl) hits i
      && list_all-places hits (places_from_to first last) i
    where
      list_all-places : (hs : List Hit) (places : List ℕ) → list_all (λ place. list_any (λ hit. covers hit place) (map (shifted_hit by) hs)) places ≡ list_all (λ place. list_any (λ hit. covers hit place) hs) places
      list_all-places hs [] = refl
      list_all-places hs (place ∷ rest) = λ i. any-shifted by (λ hit. covers hit place) (λ hit. refl) hs i && list_all-places hs rest i

  join-shifted : (hits : List Hit) → join (map (shifted_hit by) hits) ≡ option_map (shifted_hit by) (join hits)
  join-shifted [] = refl
  join-shifted (first ∷ rest) =
      let from-is : least first.from (map (λ hit. hit.from) (map (shifted_hit by) rest)) ≡ least first.from (map (λ hit. hit.from) rest) = ap (least first.from) (column (λ hit. hit.from) (λ hit. refl) rest) in
      let to-is : greatest first.to (map (λ hit. hit.to) (map (shifted_hit by) rest)) ≡ greatest first.to (map (λ hit. hit.to) rest) = ap (greatest first.to) (column (λ hit. hit.to) (λ hit. refl) rest) in
      let whole-is : are_whole (map (shifted_hit by) (first ∷ rest)) (least first.from (map (λ hit. hit.from) (map (shifted_hit by) rest))) (greatest first.to (map (λ hit. hit.to) (map (shifted_hit by) rest)))
      ≡ are_whole (first ∷ rest) (least first.from (map (λ hit. hit.from) rest)) (greatest first.to (map (λ hit. hit.to) rest))
      = (λ i. are_whole (map (shifted_hit by) (first ∷ rest)) (from-is i) (to-is i)) ∙ are_whole-shifted (first ∷ rest) (least first.from (map (λ hit. hit.from) rest)) (greatest first.to (map (λ hit. hit.to) rest)) in
      λ i. Some record {
        query = by + first.query;
        from = from-is i;
        to = to-is i;
        sent_from = least first.sent_from (column (λ hit. hit.sent_from) (λ hit. refl) rest i);
        sent_to = greatest first.sent_to (column (λ hit. hit.sent_to) (λ hit. refl) rest i);
        para_from = least first.para_from (column (λ hit. hit.para_from) (λ hit. refl) rest i);
        para_to = greatest first.para_to (column (λ hit. hit.para_to) (λ hit. refl) rest i);
        whole = whole-is i;
      }

  put-shifted : (hit : Hit) (hits : List Hit) → put_in_order (shifted_hit by hit) (map (shifted_hit by) hits) ≡ map (shifted_hit by) (put_in_order hit hits)
  put-shifted hit [] = refl
  put-shifted hit (first ∷ rest) =
      ap (λ more. cond (stands_before hit first) (shifted_hit by hit ∷ shifted_hit by first ∷ map (shifted_hit by) rest) (shifted_hit by first ∷ more)) (put-shifted hit rest)
      ∙ sym (map-cond (shifted_hit by) (stands_before hit first) (hit ∷ first ∷ rest) (first ∷ put_in_order hit rest))

  in_order-shifted : (hits : List Hit) → in_order (map (shifted_hit by) hits) ≡ map (shifted_hit by) (in_order hits)
  in_order-shifted [] = refl
  in_order-shifted (hit ∷ rest) = ap (put_in_order (shifted_hit by hit)) (in_order-shifted rest) ∙ put-shifted hit (in_order rest)

  neighbours-shifted : (range : Range) (kind : TextUnit) (hits : List Hit) → neighbours_in_range range kind (map (shifted_hit by) hits) ≡ neighbours_in_range range kind hits
  neighbours-shifted range kind [] = refl
  neighbours-shifted range kind (a ∷ []) = refl
  neighbours-shifted range kind (a ∷ b ∷ rest) = λ i. gap_in_range range (end-shifted kind a i) (start-shifted kind b i) && neighbours-shifted range kind (b ∷ rest) i

  distance-shifted : (range : Range) (kind : TextUnit) (a b : Hit) → distance_in_range range kind (shifted_hit by a) (shifted_hit by b) ≡ distance_in_range range kind a b
  distance-shifted range kind a b =
      λ i. cond (stands_before a b) (gap_in_range range (end-shifted kind a i) (start-shifted kind b i)) (gap_in_range range (end-shifted kind b i) (start-shifted kind a i))

  windows-shifted : (size : ℕ) (kind : TextUnit) (joined : Option Hit) → windows_round size kind (option_map (shifted_hit by) joined) ≡ windows_round size kind joined
  windows-shifted size kind None = refl
  windows-shifted size kind (Some hit) =
      λ i. map (λ n. window_at size (pos (suc (end-shifted kind hit i) + n) -ℤ pos size)) (range_with_len 0 ((start-shifted kind hit i + size) - end-shifted kind hit i))

  fits-shifted : (size : ℕ) (kind : TextUnit) (joined : Option Hit) → fits_window size kind (option_map (shifted_hit by) joined) ≡ fits_window size kind joined
  fits-shifted size Words None = refl
  fits-shifted size Sentences None = refl
  fits-shifted size Paragraphs None = refl
  fits-shifted size Words (Some hit) = refl
  fits-shifted size Sentences (Some hit) = refl
  fits-shifted size Paragraphs (Some hit) = refl

  lies-shifted : (kind : TextUnit) (window : Window) (hit : Hit) → lies_in_window kind window (shifted_hit by hit) ≡ lies_in_window kind window hit
  lies-shifted Words window hit = refl
  lies-shifted Sentences window hit = refl
  lies-shifted Paragraphs window hit = refl

  passes-shifted : (kind : Filter) (includes : List Hit) (item : Span) → passes kind (map (shifted_hit by) includes) item ≡ passes kind includes item
  passes-shifted F.Ordered includes item = every_two-shifted agree_in_order agree-shifted includes
  passes-shifted (F.Window size kind) includes item = ap (fits_window size kind) (join-shifted includes) ∙ fits-shifted size kind (join includes)
  passes-shifted (F.Distance range kind) includes item = ap (neighbours_in_range range kind) (in_order-shifted includes) ∙ neighbours-shifted range kind (in_order includes)
  passes-shifted F.SameSentence includes item = all_pairs-shifted (share_one Sentences) (share_one-shifted Sentences) includes
  passes-shifted F.SameParagraph includes item = all_pairs-shifted (share_one Paragraphs) (share_one-shifted Paragraphs) includes
  passes-shifted F.DifferentSentence includes item = every_two-shifted (are_apart Sentences) (are_apart-shifted Sentences) includes
  passes-shifted F.DifferentParagraph includes item = every_two-shifted (are_apart Paragraphs) (are_apart-shifted Paragraphs) includes
  passes-shifted F.AtStart includes item = any-shifted by (λ hit. hit.from == item.from) (λ hit. refl) includes
  passes-shifted F.AtEnd includes item = any-shifted by (λ hit. suc hit.to == item.to) (λ hit. refl) includes
  passes-shifted F.EntireContent includes item = entire (places_in item)
    where
      entire : (places : List ℕ) → list_all (λ place. list_any (λ hit. hit.whole && covers hit place) (map (shifted_hit by) includes)) places ≡ list_all (λ place. list_any (λ hit. hit.whole && covers hit place) includes) places
      entire [] = refl
      entire (place ∷ rest) = λ i. any-shifted by (λ hit. hit.whole && covers hit place) (λ hit. refl) includes i && entire rest i

  choices-shifted : (kind : Filter) (includes : List Hit) → choices kind (map (shifted_hit by) includes) ≡ choices kind includes
  choices-shifted F.Ordered includes = refl
  choices-shifted (F.Window size kind) includes = ap (map Some) (ap (windows_round size kind) (join-shifted includes) ∙ windows-shifted size kind (join includes))
  choices-shifted (F.Distance range kind) includes = refl
  choices-shifted F.SameSentence includes = refl
  choices-shifted F.SameParagraph includes = refl
  choices-shifted F.DifferentSentence includes = refl
  choices-shifted F.DifferentParagraph includes = refl
  choices-shifted F.AtStart includes = refl
  choices-shifted F.AtEnd includes = refl
  choices-shifted F.EntireContent includes = refl

  keeps-shifted : (kind : Filter) (includes : List Hit) (choice : Option Window) (hit : Hit) → keeps kind (map (shifted_hit by) includes) choice (shifted_hit by hit) ≡ keeps kind includes choice hit
  keeps-shifted F.Ordered includes choice hit = all-shifted by (agree_in_order (shifted_hit by hit)) (agree_in_order hit) (agree-shifted hit) includes
  keeps-shifted (F.Window size kind) includes None hit = refl
  keeps-shifted (F.Window size kind) includes (Some window) hit = lies-shifted kind window hit
  keeps-shifted (F.Distance range kind) includes choice hit = some_distance includes
    where
      some_distance : (hits : List Hit) → list_any (distance_in_range range kind (shifted_hit by hit)) (map (shifted_hit by) hits) ≡ list_any (distance_in_range range kind hit) hits
      some_distance [] = refl
      some_distance (a ∷ rest) = λ i. distance-shifted range kind hit a i || some_distance rest i
  keeps-shifted F.SameSentence includes choice hit = all-shifted by (share_one Sentences (shifted_hit by hit)) (share_one Sentences hit) (share_one-shifted Sentences hit) (hit ∷ includes)
  keeps-shifted F.SameParagraph includes choice hit = all-shifted by (share_one Paragraphs (shifted_hit by hit)) (share_one Paragraphs hit) (share_one-shifted Paragraphs hit) (hit ∷ includes)
  keeps-shifted F.DifferentSentence includes choice hit = all-shifted by (are_apart Sentences (shifted_hit by hit)) (are_apart Sentences hit) (are_apart-shifted Sentences hit) includes
  keeps-shifted F.DifferentParagraph includes choice hit = all-shifted by (are_apart Paragraphs (shifted_hit by hit)) (are_apart Paragraphs hit) (are_apart-shifted Paragraphs hit) includes
  keeps-shifted F.AtStart includes choice hit = refl
  keeps-shifted F.AtEnd includes choice hit = refl
  keeps-shifted F.EntireContent includes choice hit = refl

  list-shifted : (joined : Option Hit) → option_to_list (option_map (shifted_hit by) joined) ≡ map (shifted_hit by) (option_to_list joined)
  list-shifted None = refl
  list-shifted (Some hit) = refl

  after-shifted : (kind : Filter) (includes : List Hit) → after kind (map (shifted_hit by) includes) ≡ map (shifted_hit by) (after kind includes)
  after-shifted F.Ordered includes = refl
  after-shifted (F.Window size kind) includes = ap option_to_list (join-shifted includes) ∙ list-shifted (join includes)
  after-shifted (F.Distance range kind) includes = ap option_to_list (join-shifted includes) ∙ list-shifted (join includes)
  after-shifted F.SameSentence includes = refl
  after-shifted F.SameParagraph includes = refl
  after-shifted F.DifferentSentence includes = refl
  after-shifted F.DifferentParagraph includes = refl
  after-shifted F.AtStart includes = refl
  after-shifted F.AtEnd includes = refl
  after-shifted F.EntireContent includes = refl

  through-shifted : (kind : Filter) (m : Match) (choice : Option Window) → through kind (shifted_match by m) choice ≡ shifted_match by (through kind m choice)
  through-shifted kind m choice = λ i. record {
    includes = after-shifted kind m.includes i;
    excludes = filter-shifted by (keeps kind (map (shifted_hit by) m.includes) choice) (keeps kind m.includes choice) (keeps-shifted kind m.includes choice) m.excludes i;
  }

  each_choice : (kind : Filter) (m : Match) (cs : List (Option Window)) → map (through kind (shifted_match by m)) cs ≡ map (shifted_match by) (map (through kind m) cs)
  each_choice kind m [] = refl
  each_choice kind m (c ∷ cs) = λ i. through-shifted kind m c i ∷ each_choice kind m cs i

  filtered_match-shifted : (kind : Filter) (item : Span) (m : Match) → filtered_match kind item (shifted_match by m) ≡ map (shifted_match by) (filtered_match kind item m)
  filtered_match-shifted kind item m =
      (λ i. cond (passes-shifted kind m.includes item i) (map (through kind (shifted_match by m)) (choices-shifted kind m.includes i)) [])
      ∙ ap (λ ms. cond (passes kind m.includes item) ms []) (each_choice kind m (choices kind m.includes))
      ∙ sym (map-cond (shifted_match by) (passes kind m.includes item) (map (through kind m) (choices kind m.includes)) [])

  pub filtered-shifted : (kind : Filter) (item : Span) (ms : List Match) → ft_filtered kind item (shifted by ms) ≡ shifted by (ft_filtered kind item ms)
  filtered-shifted kind item [] = refl
  filtered-shifted kind item (m ∷ rest) =
      (λ i. filtered_match-shifted kind item m i ++ filtered-shifted kind item rest i)
      ∙ sym (map-append (shifted_match by) (filtered_match kind item m) (ft_filtered kind item rest))
