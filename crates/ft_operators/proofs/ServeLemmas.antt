-- A way that does for another one in each test that a walk asks.
use Rattle.std.proofs.Common.{◌≡◌, refl, ap, sym, ◌∙◌, subst, ℕ, suc, ◌+◌, ◌-◌, ◌≤◌, List, ◌++◌, Bool, true, ◌&&◌, map}
use Rattle.std.specs.Prelude.{Option, Some, None, ⊤}
use Rattle.std.specs.List.{list_any}
use Rattle.std.proofs.lemmas.Bool.{and_parts}
use Rattle.ft_base.specs.declared.filter.Filter.{Filter}
use Rattle.ft_base.specs.declared.filter.Filter.TheVariants as F
use Rattle.ft_base.specs.declared.hit.Hit.{Hit}
use Rattle.ft_base.specs.declared.unit.TextUnit.{TextUnit}
use Rattle.all_matches.specs.declared.window.Window.{Window}
use Rattle.all_matches.specs.Filters.{choices, keeps, after}
use Rattle.all_matches.specs.Join.{join}
use Rattle.all_matches.specs.Positions.{start_in, end_in}
use Rattle.all_matches.specs.Window.{windows_round, lies_in_window}
use Rattle.all_matches.specs.Ways.{Way, two_ways, by_filter, way_includes, clean_under}
use Rattle.ft_operators.specs.declared.course.Windows.{Windows}
use Rattle.ft_operators.specs.declared.course.Windows.TheVariants.{Each, Telling, First}
use Rattle.ft_operators.specs.declared.extent.UnitExtents.{UnitExtents}
use Rattle.ft_operators.specs.Course.{asked_for}
use Rattle.ft_operators.proofs.BoundLemmas.{few_at}
use Rattle.ft_operators.proofs.ExtentLemmas.{few_before}
use Rattle.ft_operators.proofs.TellingLemmas.{first_decides, tell_windows, nth_window, first_window_gap, lies_in_later, clean_less}

-- ---- a way that does for another: it has the same includes, where that is asked it is clean wherever the other is, and it has as
-- few includes before its distances

pub record Serves (asked : Type 0) (better way : Way) : Type 0 where
  pub same : way_includes better ≡ way_includes way
  pub clean : asked → (kept : Hit → Bool) → clean_under kept way ≡ true → clean_under kept better ≡ true
  pub few : (extents : UnitExtents) → few_before extents way ≡ true → few_before extents better ≡ true

-- a test that a way passes if one does for which it does
abbrev pub Respects : Type 0 → (Way → Bool) → Type 0
Respects asked test = (better way : Way) → Serves asked better way → test way ≡ true → test better ≡ true

-- whether the course tells which ways are clean
abbrev pub Asks : Windows → Type 0
Asks Each = ⊤
Asks Telling = ⊤
Asks First = ⊥

pub serves_left : (asked : Type 0) (better way other : Way) → Serves asked better way → Serves asked (two_ways better other) (two_ways way other)
serves_left asked better way other s = record {
  same = ap (λ hits. hits ++ way_includes other) s.same;
  clean = λ a kept h. let parts = and_parts (clean_under kept way) (clean_under kept other) h in λ i. s.clean a kept parts.0 i && parts.1 i;
  few = λ extents h. let parts = and_parts (few_before extents way) (few_before extents other) h in λ i. s.few extents parts.0 i && parts.1 i;
}

pub serves_right : (asked : Type 0) (better way other : Way) → Serves asked better way → Serves asked (two_ways other better) (two_ways other way)
serves_right asked better way other s = record {
  same = ap (λ hits. way_includes other ++ hits) s.same;
  clean = λ a kept h. let parts = and_parts (clean_under kept other) (clean_under kept way) h in λ i. parts.0 i && s.clean a kept parts.1 i;
  few = λ extents h. let parts = and_parts (few_before extents other) (few_before extents way) h in λ i. parts.0 i && s.few extents parts.1 i;
}

pub serves_filtered : (asked : Type 0) (better way : Way) (kind : Filter) (choice : Option Window) → Serves asked better way → Serves asked (by_filter better kind choice) (by_filter way kind choice)
serves_filtered asked better way kind choice s = record {
  same = ap (after kind) s.same;
  clean = λ a kept h.
      subst (λ hits. clean_under (λ hit. keeps kind hits choice hit && kept hit) better ≡ true) (sym s.same) (s.clean a (λ hit. keeps kind (way_includes way) choice hit && kept hit) h);
  few = λ extents h.
      let parts = and_parts (few_at extents kind (way_includes way)) (few_before extents way) h in
      λ i. (ap (few_at extents kind) s.same ∙ parts.0) i && s.few extents parts.1 i;
}

serves_any : (asked : Type 0) → (asked → ⊥) → (way : Way) (kind : Filter) (choice other : Option Window) → Serves asked (by_filter way kind choice) (by_filter way kind other)
serves_any asked none way kind choice other = record { same = refl; clean = λ a kept h. absurd (none a); few = λ extents h. h }

serves_window : (asked : Type 0) (way : Way) (size : ℕ) (kind : TextUnit) (last n : ℕ) → n ≤ size - suc last
    → Serves asked (by_filter way (F.Window size kind) (Some (nth_window size last 0))) (by_filter way (F.Window size kind) (Some (nth_window size last n)))
serves_window asked way size kind last n early = record {
  same = refl;
  clean = λ a kept h.
      clean_less (λ hit. lies_in_window kind (nth_window size last 0) hit && kept hit) (λ hit. lies_in_window kind (nth_window size last n) hit && kept hit)
      (λ hit e.
      let parts = and_parts (lies_in_window kind (nth_window size last 0) hit) (kept hit) e in
      λ i. lies_in_later kind size last n hit early parts.0 i && parts.1 i)
      way h;
  few = λ extents h. h;
}

-- ---- the choices of a filter

module _ (asked : Type 0) (test : Way → Bool) (respects : Respects asked test) (way : Way) where
  told_round : (size : ℕ) (kind : TextUnit) (joined : Option Hit)
      → list_any (λ c. test (by_filter way (F.Window size kind) c)) (asked_for Telling (map Some (windows_round size kind joined)))
      ≡ list_any (λ c. test (by_filter way (F.Window size kind) c)) (map Some (windows_round size kind joined))
  told_round size kind None = refl
  told_round size kind (Some joined) =
      tell_windows (λ c. test (by_filter way (F.Window size kind) c)) (nth_window size (end_in kind joined)) (size - suc (end_in kind joined)) ((start_in kind joined + size) - end_in kind joined)
      (first_window_gap size (end_in kind joined))
      (λ n early h. respects _ _ (serves_window asked way size kind (end_in kind joined) n early) h)

  known : (kind : Filter) (includes : List Hit)
      → list_any (λ c. test (by_filter way kind c)) (asked_for Telling (choices kind includes)) ≡ list_any (λ c. test (by_filter way kind c)) (choices kind includes)
  known F.Ordered includes = refl
  known (F.Window size kind) includes = told_round size kind (join includes)
  known (F.Distance range kind) includes = refl
  known F.SameSentence includes = refl
  known F.SameParagraph includes = refl
  known F.DifferentSentence includes = refl
  known F.DifferentParagraph includes = refl
  known F.AtStart includes = refl
  known F.AtEnd includes = refl
  known F.EntireContent includes = refl

pub choices_tell : (windows : Windows) (test : Way → Bool) → Respects (Asks windows) test → (way : Way) (kind : Filter) (includes : List Hit)
    → list_any (λ c. test (by_filter way kind c)) (asked_for windows (choices kind includes)) ≡ list_any (λ c. test (by_filter way kind c)) (choices kind includes)
choices_tell Each test respects way kind includes = refl
choices_tell Telling test respects way kind includes = known ⊤ test respects way kind includes
choices_tell First test respects way kind includes =
    first_decides (λ c. test (by_filter way kind c)) (choices kind includes) (λ a b h. respects (by_filter way kind b) (by_filter way kind a) (serves_any ⊥ (λ none. none) way kind b a) h)
