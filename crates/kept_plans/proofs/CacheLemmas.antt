-- What the words of the cache mean for the plans that it holds.
use Rattle.std.proofs.Common.{◌≡◌, ◌∙◌, sym, refl, ap, subst, ℕ, suc, ◌≤◌, Bool, true, false, not, cond, ◌||◌, ◌-◌, ◌⊎◌, inl, inr, List, [], ◌∷◌, length, take, is_some, Option, Some, None, IfSome, length-take, arith}
use Rattle.std.specs.Prelude.{bytes_eq, Contains, Vec}
use Rattle.std.specs.List.{AllByRecursion, IsDistinct}
use Rattle.std.specs.Option.{option_map_or}
use mathlib.Core.Bool.{true≢false}
use Rattle.std.specs.Map.{lookup, lookup_entry, remove_entry, values_of}
use Rattle.std.specs.Cmp.Lexicographic.{bytes_decides}
use Rattle.std.proofs.lemmas.List.{take-map, take_all}
use Rattle.std.proofs.lemmas.List.Elements.{All-from_recursion, All-take, recursion_from_All}
use Rattle.std.proofs.lemmas.Map.Keys.{IsDistinct-head, IsDistinct-tail}
use Rattle.std.proofs.lemmas.Map.Entries.{length-values_of}
use Rattle.lru.specs.LruCache.{LruCache, lru_cache, promoted, put_entries}
use Rattle.lru.proofs.Splits.{Contains-head, Contains-tail}
use Rattle.kept_plans.specs.Kept.{is_kept}
use Rattle.kept_plans.specs.PlanOf.{PlanOf}
use Rattle.kept_plans.specs.Preparation.{texts_of}
use Rattle.kept_plans.specs.steps.Recent.{with_first, ComesFirst, IsByText, IsRecent}
use Rattle.kept_plans.proofs.OrderLemmas.{all_others, first_distinct, first_stays, other_plans}

abbrev Entries : Type 0 → Type 0
Entries Z = List (Vec ℕ Z × PlanOf)

-- whether a text is found
has_if : (b : Bool) (plan : PlanOf) (o : Option PlanOf) (rest : Bool) → is_some o ≡ rest → is_some (cond b (Some plan) o) ≡ (b || rest)
has_if true plan o rest r = refl
has_if false plan o rest r = r

module _ {Z : Type 0} where
  -- the test by which a text finds its plan
  abbrev pub of_text : List ℕ → Vec ℕ Z → Bool
  of_text text key = bytes_eq text key.items

  -- no plan has the text
  record Missed (text : List ℕ) (es : Entries Z) : Type 0 where
    value : lookup (of_text text) es ≡ None
    entry : lookup_entry (of_text text) es ≡ None
    others : other_plans text (values_of es) ≡ values_of es

  -- one plan has it, and the others stay where it is taken out
  record Found (text : List ℕ) (es : Entries Z) : Type 0 where
    key : Vec ℕ Z
    plan : PlanOf
    by_text : key.items ≡ plan.text
    its_text : plan.text ≡ text
    among : Contains (values_of es) plan
    value : lookup (of_text text) es ≡ Some plan
    entry : lookup_entry (of_text text) es ≡ Some (key, plan)
    others : values_of (remove_entry (of_text text) es) ≡ other_plans text (values_of es)
    fewer : suc (length (remove_entry (of_text text) es)) ≡ length es
    rest : AllByRecursion IsByText (remove_entry (of_text text) es)

  here : (text : List ℕ) (e : Vec ℕ Z × PlanOf) (es : Entries Z) → IsByText e → AllByRecursion IsByText es
      → AllByRecursion (λ t. bytes_eq e.1.text t ≡ false) (texts_of (values_of es)) → bytes_eq text e.0.items ≡ true → Found text (e ∷ es)
  here text e es by all apart t =
      let same : text ≡ e.0.items = (bytes_decides text e.0.items).0 t in
      let others : other_plans text (values_of es) ≡ values_of es =
      subst (λ u. other_plans u (values_of es) ≡ values_of es) (sym (same ∙ by)) (all_others e.1.text (values_of es) apart) in
      let hit : bytes_eq text e.1.text ≡ true = ap (bytes_eq text) (sym by) ∙ t in
      record {
        key = e.0;
        plan = e.1;
        by_text = by;
        its_text = sym (same ∙ by);
        among = Contains-head e.1 (values_of es);
        value = ap (λ b. cond b (Some e.1) (lookup (of_text text) es)) t;
        entry = ap (λ b. cond b (Some e) (lookup_entry (of_text text) es)) t;
        others = ap (λ b. values_of (cond b es (e ∷ remove_entry (of_text text) es))) t
            ∙ (sym others ∙ sym (ap (λ b. cond (not b) (e.1 ∷ other_plans text (values_of es)) (other_plans text (values_of es))) hit));
        fewer = ap (λ b. suc (length (cond b es (e ∷ remove_entry (of_text text) es)))) t;
        rest = subst (λ b. AllByRecursion IsByText (cond b es (e ∷ remove_entry (of_text text) es))) (sym t) all;
      }

  missed_after : (text : List ℕ) (e : Vec ℕ Z × PlanOf) (es : Entries Z) → IsByText e → bytes_eq text e.0.items ≡ false → Missed text es → Missed text (e ∷ es)
  missed_after text e es by f m =
      let other : bytes_eq text e.1.text ≡ false = ap (bytes_eq text) (sym by) ∙ f in
      record {
        value = ap (λ b. cond b (Some e.1) (lookup (of_text text) es)) f ∙ m.value;
        entry = ap (λ b. cond b (Some e) (lookup_entry (of_text text) es)) f ∙ m.entry;
        others = ap (λ b. cond (not b) (e.1 ∷ other_plans text (values_of es)) (other_plans text (values_of es))) other ∙ ap (λ ps. e.1 ∷ ps) m.others;
      }

  found_after : (text : List ℕ) (e : Vec ℕ Z × PlanOf) (es : Entries Z) → IsByText e → bytes_eq text e.0.items ≡ false → Found text es → Found text (e ∷ es)
  found_after text e es by f found =
      let other : bytes_eq text e.1.text ≡ false = ap (bytes_eq text) (sym by) ∙ f in
      record {
        key = found.key;
        plan = found.plan;
        by_text = found.by_text;
        its_text = found.its_text;
        among = Contains-tail e.1 (values_of es) found.plan found.among;
        value = ap (λ b. cond b (Some e.1) (lookup (of_text text) es)) f ∙ found.value;
        entry = ap (λ b. cond b (Some e) (lookup_entry (of_text text) es)) f ∙ found.entry;
        others = ap (λ b. values_of (cond b es (e ∷ remove_entry (of_text text) es))) f
            ∙ (ap (λ ps. e.1 ∷ ps) found.others
            ∙ sym (ap (λ b. cond (not b) (e.1 ∷ other_plans text (values_of es)) (other_plans text (values_of es))) other));
        fewer = ap (λ b. suc (length (cond b es (e ∷ remove_entry (of_text text) es)))) f ∙ ap suc found.fewer;
        rest = subst (λ b. AllByRecursion IsByText (cond b es (e ∷ remove_entry (of_text text) es))) (sym f) (by, found.rest);
      }

  sought : (text : List ℕ) (es : Entries Z) → AllByRecursion IsByText es → IsDistinct bytes_eq (texts_of (values_of es)) → Missed text es ⊎ Found text es
  sought text [] by d = inl (record { value = refl; entry = refl; others = refl })
  sought text (e ∷ es) by d =
      (elim (bytes_eq text e.0.items) as (λ b. bytes_eq text e.0.items ≡ b → Missed text (e ∷ es) ⊎ Found text (e ∷ es)) [
        | true ↦ λ t. inr (here text e es by.0 by.1 (IsDistinct-head bytes_eq e.1.text (texts_of (values_of es)) d) t)
        | false ↦ λ f. elim (sought text es by.1 (IsDistinct-tail bytes_eq e.1.text (texts_of (values_of es)) d)) [
          | inl m ↦ inl (missed_after text e es by.0 f m)
          | inr found ↦ inr (found_after text e es by.0 f found)
        ]
      ]) refl

  pub has-lookup : (text : List ℕ) (es : Entries Z) → AllByRecursion IsByText es → is_some (lookup (of_text text) es) ≡ is_kept text (texts_of (values_of es))
  has-lookup text [] by = refl
  has-lookup text (e ∷ es) by =
      ap (λ u. is_some (cond (bytes_eq text u) (Some e.1) (lookup (of_text text) es))) by.0
      ∙ has_if (bytes_eq text e.1.text) e.1 (lookup (of_text text) es) (is_kept text (texts_of (values_of es))) (has-lookup text es by.1)

  -- what is found
  pub record Finds (text : List ℕ) (es : Entries Z) (plan : PlanOf) : Type 0 where
    pub among : Contains (values_of es) plan
    pub its_text : plan.text ≡ text

  pub finds : (text : List ℕ) (cache : LruCache (Vec ℕ Z) PlanOf) → IsRecent cache → IfSome (lookup (of_text text) cache.entries) (Finds text cache.entries)
  finds text cache valid = elim (sought text cache.entries valid.by_text valid.distinct) [
    | inl m ↦ subst (λ o. IfSome o (Finds text cache.entries)) (sym m.value) tt
    | inr f ↦ subst (λ o. IfSome o (Finds text cache.entries)) (sym f.value) (record { among = f.among; its_text = f.its_text })
  ]

  -- entries of which the plans are those where one came to the front
  recent : (cache : LruCache (Vec ℕ Z) PlanOf) (plan : PlanOf) (es : Entries Z) → IsRecent cache → values_of es ≡ with_first plan (values_of cache.entries)
      → AllByRecursion IsByText es → IsRecent (lru_cache es cache.cap)
  recent cache plan es valid plans by =
      let count : length (with_first plan (values_of cache.entries)) ≤ 64 = short 64 (plan ∷ other_plans plan.text (values_of cache.entries)) in
      record {
        by_text = by;
        distinct = subst (λ ps. IsDistinct bytes_eq (texts_of ps)) (sym plans) (first_distinct plan (values_of cache.entries) valid.distinct);
        within = omega (arith, count, length-values_of es, ap length plans);
        most = valid.most;
      }
    where
      short : (n : ℕ) (ps : List PlanOf) → length (take n ps) ≤ n
      short n ps = omega (arith, length-take n ps)

  -- the entries where one that was found came to the front with a plan
  abbrev moved : Vec ℕ Z → PlanOf → List ℕ → Entries Z → Entries Z
  moved key plan text es = (key, plan) ∷ remove_entry (of_text text) es

  module _ (cache : LruCache (Vec ℕ Z) PlanOf) (text : List ℕ) (plan : PlanOf) (f : Found text cache.entries) (valid : IsRecent cache)
      (same : plan.text ≡ text) where
    others_left : values_of (remove_entry (of_text text) cache.entries) ≡ other_plans plan.text (values_of cache.entries)
    others_left = f.others ∙ ap (λ t. other_plans t (values_of cache.entries)) (sym same)

    fits : length (plan ∷ other_plans plan.text (values_of cache.entries)) ≤ 64
    fits = omega (arith, valid.within, f.fewer, ap length others_left, length-values_of (remove_entry (of_text text) cache.entries))

    moved_plans : values_of (moved f.key plan text cache.entries) ≡ with_first plan (values_of cache.entries)
    moved_plans = ap (λ ps. plan ∷ ps) others_left ∙ sym (take_all 64 (plan ∷ other_plans plan.text (values_of cache.entries)) fits)

  -- where a plan is put
  put_cases : (cache : LruCache (Vec ℕ Z) PlanOf) (key : Vec ℕ Z) (plan : PlanOf) → IsRecent cache → key.items ≡ plan.text
      → Missed key.items cache.entries ⊎ Found key.items cache.entries
      → (values_of (put_entries (λ a b. bytes_eq a.items b.items) cache key plan) ≡ with_first plan (values_of cache.entries))
      × AllByRecursion IsByText (put_entries (λ a b. bytes_eq a.items b.items) cache key plan)
  put_cases cache key plan valid by (inl m) =
      let es = cache.entries in
      let made : put_entries (λ a b. bytes_eq a.items b.items) cache key plan ≡ (key, plan) ∷ take 63 es =
      ap (λ o. option_map_or (λ e. (e.0, plan) ∷ remove_entry (of_text key.items) es) o ((key, plan) ∷ take (cache.cap - 1) es)) m.entry
      ∙ ap (λ n. (key, plan) ∷ take (n - 1) es) valid.most in
      let others : other_plans plan.text (values_of es) ≡ values_of es = ap (λ t. other_plans t (values_of es)) (sym by) ∙ m.others in (
        ap values_of made ∙ (ap (λ ps. plan ∷ ps) (sym (take-map (λ (e : Vec ℕ Z × PlanOf). e.1) 63 es)) ∙ ap (λ ps. plan ∷ take 63 ps) (sym others)),
        subst (AllByRecursion IsByText) (sym made) (by, recursion_from_All IsByText (take 63 es) (All-take IsByText 63 es (All-from_recursion IsByText es valid.by_text))),
      )
  put_cases cache key plan valid by (inr f) =
      let es = cache.entries in
      let made : put_entries (λ a b. bytes_eq a.items b.items) cache key plan ≡ moved f.key plan key.items es =
      ap (λ o. option_map_or (λ e. (e.0, plan) ∷ remove_entry (of_text key.items) es) o ((key, plan) ∷ take (cache.cap - 1) es)) f.entry in (
        ap values_of made ∙ moved_plans cache key.items plan f valid (sym by),
        subst (AllByRecursion IsByText) (sym made) (f.by_text ∙ (f.its_text ∙ by), f.rest),
      )

  module _ (cache : LruCache (Vec ℕ Z) PlanOf) (key : Vec ℕ Z) (plan : PlanOf) (valid : IsRecent cache) (by : key.items ≡ plan.text) where
    put : (values_of (put_entries (λ a b. bytes_eq a.items b.items) cache key plan) ≡ with_first plan (values_of cache.entries))
        × AllByRecursion IsByText (put_entries (λ a b. bytes_eq a.items b.items) cache key plan)
    put = put_cases cache key plan valid by (sought key.items cache.entries valid.by_text valid.distinct)

    pub put_plans : values_of (put_entries (λ a b. bytes_eq a.items b.items) cache key plan) ≡ with_first plan (values_of cache.entries)
    put_plans = put.0

    pub put_recent : IsRecent (lru_cache (put_entries (λ a b. bytes_eq a.items b.items) cache key plan) cache.cap)
    put_recent = recent cache plan (put_entries (λ a b. bytes_eq a.items b.items) cache key plan) valid put.0 put.1

  -- where the plan of a text comes to the front
  pub record Promotes (text : List ℕ) (cache : LruCache (Vec ℕ Z) PlanOf) : Type 0 where
    pub first : ComesFirst text (values_of cache.entries) (values_of (promoted (of_text text) cache.entries))
    pub valid : IsRecent (lru_cache (promoted (of_text text) cache.entries) cache.cap)

  pub promotes : (text : List ℕ) (cache : LruCache (Vec ℕ Z) PlanOf) → IsRecent cache → is_kept text (texts_of (values_of cache.entries)) ≡ true → Promotes text cache
  promotes text cache valid has = elim (sought text cache.entries valid.by_text valid.distinct) [
    | inl m ↦ absurd (true≢false (sym has ∙ (sym (has-lookup text cache.entries valid.by_text) ∙ ap is_some m.value)))
    | inr f ↦
        let made : promoted (of_text text) cache.entries ≡ moved f.key f.plan text cache.entries =
        ap (λ o. option_map_or (λ e. e ∷ remove_entry (of_text text) cache.entries) o cache.entries) f.entry in
        let plans : values_of (promoted (of_text text) cache.entries) ≡ with_first f.plan (values_of cache.entries) =
        ap values_of made ∙ moved_plans cache text f.plan f valid f.its_text in
        record {
          first = record {
            plan = f.plan;
            same = f.its_text;
            among = f.among;
            first = plans;
            stay = λ other h. subst (λ ps. is_kept other (texts_of ps) ≡ true) (sym plans)
                (first_stays f.plan (values_of cache.entries) other (fits cache text f.plan f valid f.its_text) h);
          };
          valid = recent cache f.plan (promoted (of_text text) cache.entries) valid plans (subst (AllByRecursion IsByText) (sym made) (f.by_text, f.rest));
        }
  ]

  pub none_recent : IsRecent {Z = Z} (lru_cache [] 64)
  unfolding IsDistinct
  none_recent = record { by_text = tt; distinct = tt; within = omega arith; most = refl }
