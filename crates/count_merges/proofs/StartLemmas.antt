-- Items of which no spots are passed yet: what is known of them, and that nothing has moved.
use Rattle.std.proofs.Common.{◌≡◌, refl, sym, ◌∙◌, ℕ, ◌+◌, ◌*◌, ◌^◌, ◌<◌, ◌≤◌, Bool, true, false, ◌==◌, ◌&&◌, List, map, arith, inl, inr}
use Rattle.std.specs.Prelude.{nat_le}
use Rattle.std.specs.List.{list_all, sum_by}
use Rattle.std.proofs.lemmas.Bool.{and_from, cases_lt, eq-eqb, le-leb}
use Rattle.std.proofs.lemmas.List.Folds.{list_all-map}
use Rattle.ft_base.specs.Hits.{HitPlace}
use Rattle.place_merges.specs.steps.Searching.{Leads, Moved, SameFrom, shown_all}
use Rattle.count_merges.specs.declared.item.CountedItem.{CountedItem}
use Rattle.count_merges.specs.declared.window.Window.{Window}
use Rattle.count_merges.specs.Groups.{group_left, group_lists, is_group_plain}
use Rattle.count_merges.specs.steps.Passing.{is_group_sound, is_item_sound, is_sound, next_event, none_passed, parts_of, shown_item, started, started_parts}
use Rattle.count_merges.proofs.ListChanges.{all_through, map-map, map_through, sum_by-map, sum_through}
use Rattle.count_merges.proofs.FitLemmas.{each_passes}

module _ (unit : ℕ → ℕ) (window : Window) (from : ℕ) where
  none_sound : (size words : ℕ) → from ≤ window.to → is_sound unit size words window.to (none_passed unit size words window.to from) ≡ true
  none_sound size words h =
      and_from (nat_le (from + 0) window.to) (nat_le 0 (from * 2 ^ 32 + 0) && (next_event unit size words window.to from == next_event unit size words window.to from))
      (le-leb (from + 0) window.to (omega (arith, h)))
      (and_from (nat_le 0 (from * 2 ^ 32 + 0)) (next_event unit size words window.to from == next_event unit size words window.to from)
      (le-leb 0 (from * 2 ^ 32 + 0) (omega arith)) (eq-eqb (next_event unit size words window.to from) (next_event unit size words window.to from) refl))

  module _ {H : Type 0} (now items : List (CountedItem H)) (is : map parts_of now ≡ map (started_parts unit window from) (map parts_of items)) where
    pub started_sound : from ≤ window.to → list_all (is_item_sound unit window) now ≡ true
    started_sound h =
        all_through parts_of (started_parts unit window from) now items is (λ item. list_all (is_group_sound unit window) item.groups)
        ∙ each_passes (λ item. list_all (is_group_sound unit window) (map (started unit window from) item.groups.items))
        (λ item. list_all-map (is_group_sound unit window) (started unit window from) item.groups.items
        ∙ each_passes (λ group. is_group_sound unit window (started unit window from group))
        (λ group. λ i. none_sound 0 group.words h i && none_sound window.size group.words h i) item.groups.items) items

    pub started_moved : (stand : H → HitPlace) (plain : H → Bool) (steps : ℕ) → Moved (shown_all (shown_item stand plain) items) (shown_all (shown_item stand plain) now) steps steps
    started_moved stand plain steps =
        let left : sum_by (λ item. sum_by (group_left stand) item.groups.items) now ≡ sum_by (λ item. sum_by (group_left stand) item.groups.items) items =
        sum_through parts_of (started_parts unit window from) now items is (λ item. sum_by (group_left stand) item.groups)
        ∙ (λ i. sum_by (λ item. sum_by-map (group_left stand) (started unit window from) item.groups.items i) items) in
        record {
          lists = map_through parts_of (started_parts unit window from) now items is (λ item. (item.least, item.most, map (group_lists stand) item.groups))
              ∙ (λ i. map (λ item. (item.least, item.most, map-map (group_lists stand) (started unit window from) item.groups.items i)) items);
          plain = all_through parts_of (started_parts unit window from) now items is (λ item. list_all (is_group_plain plain) item.groups)
              ∙ (λ i. list_all (λ item. list_all-map (is_group_plain plain) (started unit window from) item.groups.items i) items);
          counted = λ h. omega (arith, left);
          grown = omega arith;
        }

-- ends of windows that were tried: none before the last one fits, and those from there on hold what they held
pub record Tried (new old : ℕ → Bool) (last : ℕ) : Type 0 where
  pub same : SameFrom last new old
  pub none : (other : ℕ) → other < last → old other ≡ false

pub not_tried : (new old : ℕ → Bool) → ((other : ℕ) → new other ≡ old other) → Tried new old 0
not_tried new old same = record { same = record { same = λ other past. same other }; none = λ other h. absurd (omega (arith, h)) }

module _ (before after old : ℕ → Bool) (last limit next : ℕ) (tried : Tried before old last) (leads : Leads before last limit next) (same : SameFrom last after before) where
  pub tried_on : Tried after old next
  tried_on = record {
    same = record { same = λ other past. let from = leads.from in same.same other (omega (arith, past, from)) ∙ tried.same.same other (omega (arith, past, from)) };
    none = λ other h. elim (cases_lt other last) [
      | inl less ↦ tried.none other less
      | inr most ↦ sym (tried.same.same other most) ∙ leads.none other most h
    ];
  }

  pub tried_fits : next ≡ last → old last ≡ true
  tried_fits here = sym (tried.same.same last (omega arith)) ∙ leads.there here
