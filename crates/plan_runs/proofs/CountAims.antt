-- Groups and items that are counted, aimed one after the other, and what is counted of them then.
use Rattle.std.proofs.Common.{◌≡◌, refl, sym, ap, ◌∙◌, ℕ, ◌+◌, ◌*◌, ◌<◌, ◌≤◌, true, List, [], ◌∷◌, map, length, get_or, set, take, drop, flat_map, arith}
use Rattle.std.specs.Prelude.{Option}
use Rattle.std.specs.List.{list_all, sum_by}
use Rattle.std.proofs.lemmas.Bool.{and_from}
use Rattle.std.proofs.lemmas.List.{take_all, take_more_set}
use Rattle.std.proofs.lemmas.List.Folds.{flat_map-map}
use Rattle.std.proofs.lemmas.List.Sums.{sum_by_more, sum_by_push}
use Rattle.ft_base.specs.Hits.{HitPlace}
use Rattle.ft_base.specs.declared.hit.Hit.{Hit}
use Rattle.count_merges.specs.Groups.{VariantLists, all_counted, counted, group_lists, group_spots, is_group_plain, item_lists, items_plain, lists_of_items, told_hit}
use Rattle.count_merges.specs.declared.item.CountedItem.{CountedItem}
use Rattle.count_merges.specs.declared.item.VariantGroup.{VariantGroup}
use Rattle.counted_shapes.specs.declared.field.Field.{Field}
use Rattle.index_meaning.specs.Documents.{breaks_of, document_at}
use Rattle.index_phrases.specs.Phrases as phrases
use Rattle.index_phrases.specs.declared.word_terms.WordTerms.{WordTerms}
use Rattle.index_phrases.specs.steps.Aiming.{sizes_of, variant_words, wanted_size}
use Rattle.index_phrases.proofs.AimLemmas.{sizes_kept}
use Rattle.place_merges.specs.Places.{Wanted}
use Rattle.place_merges.specs.Sources.{all_plain, wanted_words}
use Rattle.plan_runs.specs.steps.AskedPlaces.{asked_at, wanted_at}
use Rattle.plan_runs.specs.steps.Counts.{GroupSizes, TermCounts, field_unit, group_sizes, terms_counted, unit_number}
use Rattle.plan_runs.specs.steps.RunCosts.{moves_for}
use Rattle.plan_runs.specs.steps.RunShapes.{item_backs, item_bounds, item_fronts}
use Rattle.plan_runs.specs.declared.asked_place.AskedPlace.{AskedPlace}
use Rattle.plan_runs.specs.declared.run_counts.TermGroup.{TermGroup}
use Rattle.plan_runs.proofs.GroupLaw.{all_are_plain, places_same}

-- ---- of one group and of one item: how many cursors there are, what they want, and what they cost

abbrev pub group_terms : TermGroup → ℕ × List (List WordTerms)
group_terms group = (group.words, map variant_words group.variants.items)

abbrev pub front_size : VariantGroup HitPlace → ℕ × List (List (Option ℕ))
front_size group = (group.words, map sizes_of group.front.items)

abbrev pub back_size : VariantGroup HitPlace → ℕ × List (List (Option ℕ))
back_size group = (group.words, map sizes_of group.back.items)

abbrev pub terms_size : ℕ × List (List WordTerms) → ℕ × List (List (Option ℕ))
terms_size group = (group.0, map (map wanted_size) group.1)

abbrev pub front_wants : VariantGroup HitPlace → List (List Wanted)
front_wants group = wanted_words (λ cursor. cursor) group.front.items

abbrev pub back_wants : VariantGroup HitPlace → List (List Wanted)
back_wants group = wanted_words (λ cursor. cursor) group.back.items

abbrev pub item_front_wants : CountedItem HitPlace → List (List (List Wanted))
item_front_wants item = map front_wants item.groups.items

abbrev pub item_back_wants : CountedItem HitPlace → List (List (List Wanted))
item_back_wants item = map back_wants item.groups.items

abbrev pub terms_bounds : TermCounts → ℕ × Option ℕ
terms_bounds item = (item.least, item.most)

abbrev pub terms_sizes : TermCounts → GroupSizes
terms_sizes item = group_sizes item.groups

module _ (place : AskedPlace) where
  abbrev pub group_wants : ℕ × List (List WordTerms) → List (List Wanted)
  group_wants group = map (map (wanted_at place)) group.1

  abbrev pub group_moves : ℕ × List (List WordTerms) → ℕ
  group_moves group = sum_by (sum_by (moves_for place)) group.1

  abbrev pub terms_wants : TermCounts → List (List (List Wanted))
  terms_wants item = map group_wants item.groups

  abbrev pub terms_moves : TermCounts → ℕ
  terms_moves item = sum_by group_moves item.groups

-- ---- one more

-- what is left of one part more, and what it costs
module _ {A C : Type 0} (left : A → ℕ) (cost : C → ℕ) (now : List A) (terms : List C) (i : ℕ) where
  pub more_left : (y : A) (t : C) → i < length now → i < length terms → t ≡ get_or terms i t → (start middle end : ℕ)
      → middle + 2 * sum_by left (take i now) ≤ start + 2 * sum_by cost (take i terms) → end + 2 * left y ≤ middle + 2 * cost t
      → end + 2 * sum_by left (take (i + 1) (set now i y)) ≤ start + 2 * sum_by cost (take (i + 1) terms)
  more_left y t many within is start middle end before one =
      let rest = ap (sum_by left) (take_more_set now i y many) ∙ sum_by_push left (take i now) y in
      let more = sum_by_more cost terms i t within in
      let own = ap cost is in
      omega (arith, rest, more, own, before, one)

-- all of them
module _ {A C : Type 0} (now : List A) (terms : List C) (i : ℕ) (many : length now ≤ i) (within : length terms ≤ i) where
  pub all_made : {D : Type 0} (made : A → D) (to_make : C → D) → map made (take i now) ≡ map to_make (take i terms) → map made now ≡ map to_make terms
  all_made made to_make same = sym (ap (map made) (take_all i now many)) ∙ same ∙ ap (map to_make) (take_all i terms within)

  pub all_left : (left : A → ℕ) (cost : C → ℕ) (start end : ℕ) → end + 2 * sum_by left (take i now) ≤ start + 2 * sum_by cost (take i terms)
      → end + 2 * sum_by left now ≤ start + 2 * sum_by cost terms
  all_left left cost start end h = omega (arith, ap (sum_by left) (take_all i now many), ap (sum_by cost) (take_all i terms within), h)

-- ---- what is counted

-- what is made of two views of each element is the same where both are
module _ {A B C D E : Type 0} (f : A → C) (g : B → C) (h : A → D) (k : B → D) (made : A → E) (to_make : B → E) (one : (a : A) (b : B) → f a ≡ g b → h a ≡ k b → made a ≡ to_make b) where
  made_alike : (xs : List A) (ys : List B) → map f xs ≡ map g ys → map h xs ≡ map k ys → map made xs ≡ map to_make ys
  made_alike [] [] same other = refl
  made_alike [] (y ∷ ys) same other = let many = ap length same in absurd (omega (arith, many))
  made_alike (x ∷ xs) [] same other = let many = ap length same in absurd (omega (arith, many))
  made_alike (x ∷ xs) (y ∷ ys) same other =
      let first = one x y (ap (λ (cs : List C). get_or cs 0 (f x)) same) (ap (λ (ds : List D). get_or ds 0 (h x)) other) in
      let rest = made_alike xs ys (ap (drop 1) same) (ap (drop 1) other) in
      λ i. first i ∷ rest i

-- and what is made of one view of elements of one kind
module _ {A C E : Type 0} (f : A → C) (made : A → E) (one : (a b : A) → f a ≡ f b → made a ≡ made b) where
  made_still : (xs ys : List A) → map f xs ≡ map f ys → map made xs ≡ map made ys
  made_still xs ys same = made_alike f f f f made made (λ a b view again. one a b view) xs ys same same

module _ (place : AskedPlace) (field : Field) where
  abbrev unit : ℕ → ℕ
  unit = unit_number (field_unit field) (breaks_of (document_at place.doc.0 place.version.now))

  abbrev hits_of : ℕ × List (List Wanted) → List Hit
  hits_of group = map (told_hit unit) (group_spots place.span group.0 group.1)

  -- a group by its number of words and what these want
  abbrev front_group : VariantGroup HitPlace → ℕ × List (List Wanted)
  front_group group = (group.words, front_wants group)

  abbrev terms_group : ℕ × List (List WordTerms) → ℕ × List (List Wanted)
  terms_group group = (group.0, map (map (phrases.wanted_at place.version.now place.doc.0 place.span)) group.1)

  groups_hits : (groups : List (VariantGroup HitPlace)) (terms : List (ℕ × List (List WordTerms))) → map front_size groups ≡ map terms_size terms → map front_wants groups ≡ map (group_wants place) terms
      → flat_map (λ (group : VariantGroup HitPlace). hits_of (front_group group)) groups ≡ flat_map (λ (group : ℕ × List (List WordTerms)). hits_of (terms_group group)) terms
  groups_hits groups terms sizes wants =
      sym (flat_map-map hits_of front_group groups)
      ∙ ap (flat_map hits_of)
      (made_alike front_size terms_size front_wants (group_wants place) front_group terms_group
      (λ group term size want.
      let words = want ∙ (λ j. map (map (λ (item : WordTerms). places_same place item j)) term.1) in
      λ i. ((size i).0, words i)) groups terms sizes wants)
      ∙ flat_map-map hits_of terms_group terms

  -- an item by its bounds and how many cursors there are
  abbrev item_view : CountedItem HitPlace → (ℕ × Option ℕ) × GroupSizes
  item_view item = (item_bounds item, item_fronts item)

  abbrev terms_view : TermCounts → (ℕ × Option ℕ) × GroupSizes
  terms_view terms = (terms_bounds terms, terms_sizes terms)

  item_counted : (item : CountedItem HitPlace) (terms : TermCounts) → item_view item ≡ terms_view terms → item_front_wants item ≡ terms_wants place terms
      → counted (λ cursor. cursor) unit place.span item ≡ terms_counted place.version.now field (asked_at place) terms
  item_counted item terms same wants =
      let hits = groups_hits item.groups.items terms.groups (ap (λ (p : (ℕ × Option ℕ) × GroupSizes). p.1) same) wants in
      λ i. record { hits = hits i; least = (same i).0.0; most = (same i).0.1 }

  -- items whose fronts want what the terms do, and which ask for as many hits, are counted alike
  pub counted_are : (items : List (CountedItem HitPlace)) (words : List TermCounts) → map item_bounds items ≡ map terms_bounds words
      → map item_fronts items ≡ map terms_sizes words → map item_front_wants items ≡ map (terms_wants place) words
      → all_counted (λ cursor. cursor) unit place.span items ≡ map (terms_counted place.version.now field (asked_at place)) words
  counted_are items words bounds sizes wants =
      made_alike item_view terms_view item_front_wants (terms_wants place)
      (counted (λ cursor. cursor) unit place.span) (terms_counted place.version.now field (asked_at place)) item_counted items words
      (made_alike item_bounds terms_bounds item_fronts terms_sizes item_view terms_view (λ item terms one many i. (one i, many i)) items words bounds sizes) wants

-- ---- the cursors of terms are plain

groups_plain : (groups : List (VariantGroup HitPlace)) → list_all (is_group_plain (λ cursor. true)) groups ≡ true
groups_plain [] = refl
groups_plain (group ∷ groups) =
    and_from (is_group_plain (λ cursor. true) group) (list_all (is_group_plain (λ cursor. true)) groups)
    (and_from (all_plain (λ cursor. true) group.front.items) (all_plain (λ cursor. true) group.back.items) (all_are_plain group.front.items) (all_are_plain group.back.items)) (groups_plain groups)

pub all_items_plain : (items : List (CountedItem HitPlace)) → items_plain (λ cursor. true) items ≡ true
all_items_plain [] = refl
all_items_plain (item ∷ items) =
    and_from (list_all (is_group_plain (λ cursor. true)) item.groups.items) (items_plain (λ cursor. true) items) (groups_plain item.groups.items) (all_items_plain items)

-- ---- what moves never change

abbrev stays_of : CountedItem HitPlace → ℕ × Option ℕ × List (ℕ × VariantLists × VariantLists)
stays_of item = item_lists (λ cursor. cursor) item

abbrev group_stays : VariantGroup HitPlace → ℕ × VariantLists × VariantLists
group_stays group = group_lists (λ cursor. cursor) group

module _ (before after : List (CountedItem HitPlace)) (same : lists_of_items (λ cursor. cursor) after ≡ lists_of_items (λ cursor. cursor) before) where
  pub bounds_kept : map item_bounds after ≡ map item_bounds before
  bounds_kept = made_still stays_of item_bounds (λ a b one i. ((one i).0, (one i).1)) after before same

  pub fronts_kept : map item_fronts after ≡ map item_fronts before
  fronts_kept =
      made_still stays_of item_fronts
      (λ a b one. made_still group_stays front_size
      (λ x y kept. let sizes = sizes_kept y.front.items x.front.items (λ i. (kept i).1) in λ i. ((kept i).0, sizes i)) a.groups.items b.groups.items (λ i. (one i).2)) after before same

  pub backs_kept : map item_backs after ≡ map item_backs before
  backs_kept =
      made_still stays_of item_backs
      (λ a b one. made_still group_stays back_size
      (λ x y kept. let sizes = sizes_kept y.back.items x.back.items (λ i. (kept i).2) in λ i. ((kept i).0, sizes i)) a.groups.items b.groups.items (λ i. (one i).2)) after before same
