-- The least clean way of a window in words round phrases is the least joined hit of the choices that it holds.
use Rattle.std.proofs.Common.{◌≡◌, refl, sym, ap, ◌∙◌, ℕ, zero, suc, ◌+◌, ◌-◌, ◌<◌, ◌≤◌, Bool, true, false, true≢false, ◌&&◌, ◌||◌, cond, List, [], ◌∷◌, ◌++◌, map, filter, flat_map, append_assoc, arith, inl, inr, Option, Some, None}
use Rattle.std.specs.Prelude.{nat_lt, pos, ◌-ℤ◌}
use Rattle.std.specs.List.{list_all, list_any, range_with_len}
use Rattle.std.proofs.lemmas.Bool.{and_from, and_parts, cases_Bool, ltb-true}
use Rattle.std.proofs.lemmas.Grind.{flat_map-append}
use Rattle.std.proofs.lemmas.List.{append-nil, map-append}
use Rattle.std.proofs.lemmas.List.Elements.{filter-append}
use Rattle.std.proofs.lemmas.List.Folds.{list_any-append}
use Rattle.ft_base.specs.Lists.{is_not_empty}
use Rattle.ft_base.specs.declared.filter.Filter.{Filter}
use Rattle.ft_base.specs.declared.filter.Filter.TheVariants as F
use Rattle.ft_base.specs.declared.hit.Hit.{Hit}
use Rattle.ft_base.specs.declared.span.Span.{Span}
use Rattle.ft_base.specs.declared.unit.TextUnit.TheVariants.{Words}
use Rattle.all_matches.specs.declared.window.Window.{Window}
use Rattle.all_matches.specs.Chain.{kept_by}
use Rattle.all_matches.specs.Filters.{keeps}
use Rattle.all_matches.specs.Join.{join}
use Rattle.all_matches.specs.Ways.{Operator, phrase, together, through_filter, Way, one_hit, two_ways, turned_about, by_filter, way_includes, clean_under, filtered_ways, is_bare, ways_of, without_negation}
use Rattle.all_matches.specs.Window.{fits_window, window_at, windows_round}
use Rattle.all_matches.proofs.BareWays.{bare_ways}
use Rattle.best_hits.specs.Best.{spans_of}
use Rattle.best_hits.specs.Least.{least}
use Rattle.best_hits.proofs.LeastAlike.{least-alike}
use Rattle.plan_compiler.specs.Operators.{LookedText, hits_by_tests, operator_at}
use Rattle.plan_compiler.specs.declared.operator_plan.OperatorPlan.{OperatorPlan, Phrase, Choice', Both', MildNot', Negated', Filtered'}
use Rattle.plan_compiler.specs.declared.operator_plan.PhraseTests.{PhraseTests}
use Rattle.plan_kinds.specs.steps.JoinedPhrases.{joined_phrases}
use Rattle.match_marks.specs.steps.ShownRuns.{tested_hits}
use Rattle.match_marks.specs.steps.WindowRuns.{choices_of, held_choices, is_held, joined_alone, joins_phrases, least_held}

-- ---- choices of one hit of each phrase

single_choices : (hits : List Hit) → map way_includes (map one_hit hits) ≡ choices_of (hits ∷ [])
single_choices [] = refl
single_choices (hit ∷ hits) = ap (λ rest. (hit ∷ []) ∷ rest) (single_choices hits)

-- each list of some with each of others behind it
abbrev beside_each : List (List Hit) → List (List Hit) → List (List Hit)
beside_each lefts rights = flat_map (λ left. map (λ right. left ++ right) rights) lefts

behind_one : (hit : Hit) (left : List Hit) (rights : List (List Hit)) → map (λ own. hit ∷ own) (map (λ right. left ++ right) rights) ≡ map (λ right. (hit ∷ left) ++ right) rights
behind_one hit left [] = refl
behind_one hit left (right ∷ rights) = ap (λ rest. ((hit ∷ left) ++ right) ∷ rest) (behind_one hit left rights)

behind : (hit : Hit) (lefts rights : List (List Hit)) → map (λ own. hit ∷ own) (beside_each lefts rights) ≡ beside_each (map (λ own. hit ∷ own) lefts) rights
behind hit [] rights = refl
behind hit (left ∷ lefts) rights =
    map-append (λ own. hit ∷ own) (map (λ right. left ++ right) rights) (beside_each lefts rights) ∙ (λ i. behind_one hit left rights i ++ behind hit lefts rights i)

behind_hits : (hits : List Hit) (lefts rights : List (List Hit)) → flat_map (λ hit. map (λ own. hit ∷ own) (beside_each lefts rights)) hits
    ≡ beside_each (flat_map (λ hit. map (λ own. hit ∷ own) lefts) hits) rights
behind_hits [] lefts rights = refl
behind_hits (hit ∷ hits) lefts rights =
    (λ i. behind hit lefts rights i ++ behind_hits hits lefts rights i)
    ∙ sym (flat_map-append (λ left. map (λ right. left ++ right) rights) (map (λ own. hit ∷ own) lefts) (flat_map (λ other. map (λ own. other ∷ own) lefts) hits))

alone_before : (rights : List (List Hit)) → map (λ (right : List Hit). [] ++ right) rights ≡ rights
alone_before [] = refl
alone_before (right ∷ rights) = ap (λ rest. right ∷ rest) (alone_before rights)

choices-append : (lists others : List (List Hit)) → choices_of (lists ++ others) ≡ beside_each (choices_of lists) (choices_of others)
choices-append [] others = sym (append-nil (map (λ right. [] ++ right) (choices_of others)) ∙ alone_before (choices_of others))
choices-append (hits ∷ lists) others =
    ap (λ (choices : List (List Hit)). flat_map (λ hit. map (λ own. hit ∷ own) choices) hits) (choices-append lists others) ∙ behind_hits hits (choices_of lists) (choices_of others)

pairs_row : (left : Way) (rights : List Way) → map way_includes (map (two_ways left) rights) ≡ map (λ right. way_includes left ++ right) (map way_includes rights)
pairs_row left [] = refl
pairs_row left (right ∷ rights) = ap (λ rest. (way_includes left ++ way_includes right) ∷ rest) (pairs_row left rights)

pairs : (lefts rights : List Way) → map way_includes (flat_map (λ left. map (two_ways left) rights) lefts) ≡ beside_each (map way_includes lefts) (map way_includes rights)
pairs [] rights = refl
pairs (left ∷ lefts) rights =
    map-append way_includes (map (two_ways left) rights) (flat_map (λ other. map (two_ways other) rights) lefts) ∙ (λ i. pairs_row left rights i ++ pairs lefts rights i)

module _ (text : LookedText) (item : Span) where
  abbrev ways : OperatorPlan → List Way
  ways plan = ways_of item (operator_at text plan)

  joined_choices : (plan : OperatorPlan) → joins_phrases plan ≡ true → map way_includes (ways plan) ≡ choices_of (map (tested_hits text) (joined_phrases plan))
  unfolding joins_phrases joined_phrases operator_at ways_of
  joined_choices (Phrase found) h = single_choices (tested_hits text found)
  joined_choices (Choice' p left right) h = absurd (true≢false (sym h))
  joined_choices (Both' p left right) h =
      let parts = and_parts (joins_phrases left) (joins_phrases right) h in
      pairs (ways_of item (operator_at text left)) (ways_of item (operator_at text right))
      ∙ (λ i. beside_each (joined_choices left parts.0 i) (joined_choices right parts.1 i))
      ∙ sym (ap choices_of (map-append (tested_hits text) (joined_phrases left) (joined_phrases right)) ∙ choices-append (map (tested_hits text) (joined_phrases left)) (map (tested_hits text) (joined_phrases right)))
  joined_choices (MildNot' p left right) h = absurd (true≢false (sym h))
  joined_choices (Negated' p operand) h = absurd (true≢false (sym h))
  joined_choices (Filtered' p operand kind) h = absurd (true≢false (sym h))

  no_negation : (plan : OperatorPlan) → joins_phrases plan ≡ true → without_negation (operator_at text plan) ≡ true
  unfolding joins_phrases operator_at
  no_negation (Phrase found) h = refl
  no_negation (Choice' p left right) h = absurd (true≢false (sym h))
  no_negation (Both' p left right) h =
      let parts = and_parts (joins_phrases left) (joins_phrases right) h in
      and_from (without_negation (operator_at text left)) (without_negation (operator_at text right)) (no_negation left parts.0) (no_negation right parts.1)
  no_negation (MildNot' p left right) h = absurd (true≢false (sym h))
  no_negation (Negated' p operand) h = absurd (true≢false (sym h))
  no_negation (Filtered' p operand kind) h = absurd (true≢false (sym h))

-- ---- windows round them

bare_clean : (kept : Hit → Bool) (way : Way) → is_bare way ≡ true → clean_under kept way ≡ true
bare_clean kept (one_hit hit) h = refl
bare_clean kept (two_ways left right) h =
    let parts = and_parts (is_bare left) (is_bare right) h in
    and_from (clean_under kept left) (clean_under kept right) (bare_clean kept left parts.0) (bare_clean kept right parts.1)
bare_clean kept (turned_about matches) h = absurd (true≢false (sym h))
bare_clean kept (by_filter way kind choice) h = bare_clean (λ hit. keeps kind (way_includes way) choice hit && kept hit) way h

module _ (size : ℕ) (item : Span) (p : List Hit → Bool) where
  abbrev kind : Filter
  kind = F.Window size Words

  abbrev passed : List Way → Bool
  passed ways = list_any p (map way_includes (filter (clean_under (kept_by [])) ways))

  -- each window leaves the same hit
  each_window : (way : Way) → is_bare way ≡ true → (choices : List (Option Window)) → passed (map (by_filter way kind) choices) ≡ (is_not_empty choices && p (joined_alone (way_includes way)))
  each_window way bare [] = refl
  each_window way bare (choice ∷ choices) =
      (λ i. list_any p (map way_includes (cond (bare_clean (kept_by []) (by_filter way kind choice) bare i) (by_filter way kind choice ∷ filter (clean_under (kept_by [])) (map (by_filter way kind) choices))
      (filter (clean_under (kept_by [])) (map (by_filter way kind) choices)))))
      ∙ ap (λ b. p (joined_alone (way_includes way)) || b) (each_window way bare choices)
      ∙ by (p (joined_alone (way_includes way))) (is_not_empty choices)
    where
      by : (b c : Bool) → (b || (c && b)) ≡ (true && b)
      by true c = refl
      by false true = refl
      by false false = refl

  some_choice_of : (f : ℕ → Option Window) (from count : ℕ) → 0 < count → is_not_empty (map f (range_with_len from count)) ≡ true
  some_choice_of f from zero h = absurd (omega (arith, h))
  some_choice_of f from (suc count) h = refl

  map_twice : (f : ℕ → Window) (numbers : List ℕ) → map Some (map f numbers) ≡ map (λ n. Some (f n)) numbers
  map_twice f [] = refl
  map_twice f (n ∷ numbers) = ap (λ rest. Some (f n) ∷ rest) (map_twice f numbers)

  some_window_of : (joined : Option Hit) → fits_window size Words joined ≡ true → is_not_empty (map Some (windows_round size Words joined)) ≡ true
  some_window_of None h = absurd (true≢false (sym h))
  some_window_of (Some joined) h =
      let less = ltb-true joined.to (joined.from + size) h in
      ap is_not_empty (map_twice (λ n. window_at size (pos (suc joined.to + n) -ℤ pos size)) (range_with_len 0 ((joined.from + size) - joined.to)))
      ∙ some_choice_of (λ n. Some (window_at size (pos (suc joined.to + n) -ℤ pos size))) 0 ((joined.from + size) - joined.to) (omega (arith, less))

  one_way : (way : Way) → is_bare way ≡ true → passed (filtered_ways kind item way) ≡ (is_held size (way_includes way) && p (joined_alone (way_includes way)))
  one_way way bare = elim (cases_Bool (is_held size (way_includes way))) [
    | inl holds ↦
        (λ i. passed (cond (holds i) (map (by_filter way kind) (map Some (windows_round size Words (join (way_includes way))))) []))
        ∙ each_window way bare (map Some (windows_round size Words (join (way_includes way))))
        ∙ (λ i. some_window_of (join (way_includes way)) holds i && p (joined_alone (way_includes way)))
        ∙ (λ i. sym holds i && p (joined_alone (way_includes way)))
    | inr fails ↦
        (λ i. passed (cond (fails i) (map (by_filter way kind) (map Some (windows_round size Words (join (way_includes way))))) []))
        ∙ (λ i. sym fails i && p (joined_alone (way_includes way)))
  ]

  all_ways : (ways : List Way) → list_all is_bare ways ≡ true → passed (flat_map (filtered_ways kind item) ways) ≡ list_any p (map joined_alone (filter (is_held size) (map way_includes ways)))
  all_ways [] bare = refl
  all_ways (way ∷ ways) bare =
      let parts = and_parts (is_bare way) (list_all is_bare ways) bare in
      ap (λ own. list_any p (map way_includes own)) (filter-append (clean_under (kept_by [])) (filtered_ways kind item way) (flat_map (filtered_ways kind item) ways))
      ∙ ap (list_any p) (map-append way_includes (filter (clean_under (kept_by [])) (filtered_ways kind item way)) (filter (clean_under (kept_by [])) (flat_map (filtered_ways kind item) ways)))
      ∙ list_any-append p (map way_includes (filter (clean_under (kept_by [])) (filtered_ways kind item way))) (map way_includes (filter (clean_under (kept_by [])) (flat_map (filtered_ways kind item) ways)))
      ∙ (λ i. one_way way parts.0 i || all_ways ways parts.1 i)
      ∙ by (is_held size (way_includes way))
    where
      by : (b : Bool) → ((b && p (joined_alone (way_includes way))) || list_any p (map joined_alone (filter (is_held size) (map way_includes ways))))
          ≡ list_any p (map joined_alone (cond b (way_includes way ∷ filter (is_held size) (map way_includes ways)) (filter (is_held size) (map way_includes ways))))
      by true = refl
      by false = refl

-- what is shown of the window
pub window_shows : (text : LookedText) (item : Span) (size : ℕ) (plan : OperatorPlan) → joins_phrases plan ≡ true
    → spans_of (least (map way_includes (filter (clean_under (kept_by [])) (ways_of item (through_filter (operator_at text plan) (F.Window size Words))))))
    ≡ spans_of (least_held size (map (tested_hits text) (joined_phrases plan)))
unfolding ways_of
window_shows text item size plan joins =
    let ways = ways_of item (operator_at text plan) in
    least-alike (map way_includes (filter (clean_under (kept_by [])) (flat_map (filtered_ways (F.Window size Words) item) ways))) (map joined_alone (filter (is_held size) (map way_includes ways)))
    (λ p. all_ways size item p ways (bare_ways item (operator_at text plan) (no_negation text item plan joins)))
    ∙ ap (λ (choices : List (List Hit)). spans_of (least (map joined_alone (filter (is_held size) choices)))) (joined_choices text item plan joins)
