-- A search through all elements of a list for the first place at which one of them passes.
use Rattle.std.proofs.Common.{◌≡◌, ℕ, ◌+◌, ◌<◌, ◌≤◌, min, Bool, true, ◌||◌, List, ◌∷◌, length, get_or, set, drop, sym, ap, subst, ◌∙◌, arith, inl, inr, length-set, drop-set-lt}
use Rattle.std.specs.List.{list_any}
use Rattle.std.proofs.lemmas.Bool.{or_left, cases_lt}
use Rattle.std.proofs.lemmas.List.{drop_more, drop_all}
use Rattle.std.proofs.lemmas.List.Folds.{list_any_at}
use Rattle.place_merges.specs.steps.Searching.{Shown, Leads, SameFrom, Moved, shown_all}
use Rattle.place_merges.proofs.MoveLemmas.{moved_on, moved_in, same_on, any_set}

-- whether one of them passes at the place
abbrev pub some_pass : {A : Type 0} → (A → ℕ → Bool) → List A → ℕ → Bool
some_pass passes xs place = list_any (λ x. passes x place) xs

-- the elements before the number pass nowhere from the place up to the first one found
pub record Searched {A L : Type 0} (passes : A → ℕ → Bool) (shown : A → Shown L) (old now : List A) (place limit first number start end : ℕ) : Type 0 where
  pub long : length now ≡ length old
  pub ahead : place < first
  pub most : first ≤ limit
  pub left : (other : ℕ) → place ≤ other → other < first → some_pass passes old other ≡ some_pass passes (drop number now) other
  pub same : SameFrom place (some_pass passes now) (some_pass passes old)
  pub moved : Moved (shown_all shown old) (shown_all shown now) start end

-- one passes at the place itself, and the search ends there
pub record Found {A L : Type 0} (passes : A → ℕ → Bool) (shown : A → Shown L) (old now : List A) (place limit start end : ℕ) : Type 0 where
  pub leads : Leads (some_pass passes old) place limit place
  pub same : SameFrom place (some_pass passes now) (some_pass passes old)
  pub moved : Moved (shown_all shown old) (shown_all shown now) start end

module _ {A L : Type 0} (passes : A → ℕ → Bool) (shown : A → Shown L) where
  some_set : (xs : List A) (i place : ℕ) (x y : A) → i < length xs → x ≡ get_or xs i x → SameFrom place (passes y) (passes x) → SameFrom place (some_pass passes (set xs i y)) (some_pass passes xs)
  some_set xs i place x y h e same = record { same = λ other a. any_set (λ z. passes z other) xs i x y h e (same.same other a) }

  module _ (old now : List A) (place limit first number start middle end : ℕ) (so_far : Searched passes shown old now place limit first number start middle)
      (x y : A) (within : number < length now) (read : x ≡ get_or now number x) (next : ℕ) (leads : Leads (passes x) place limit next)
      (same : SameFrom place (passes y) (passes x)) (moved : Moved (shown x) (shown y) middle end) where
    -- what is left begins with the element
    here : drop number now ≡ x ∷ drop (number + 1) now
    here = drop_more now number x within ∙ ap (λ z. z ∷ drop (number + 1) now) (sym read)

    search_same : SameFrom place (some_pass passes (set now number y)) (some_pass passes old)
    search_same = same_on place (some_pass passes old) (some_pass passes now) (some_pass passes (set now number y)) so_far.same (some_set now number place x y within read same)

    search_moved : Moved (shown_all shown old) (shown_all shown (set now number y)) start end
    search_moved = moved_on (shown_all shown old) (shown_all shown now) (shown_all shown (set now number y)) start middle end so_far.moved (moved_in shown now number x y middle end within read moved)

    pub search_goes_on : (sooner : ℕ) → sooner ≡ min first next → (next ≡ place → ⊥) → Searched passes shown old (set now number y) place limit sooner (number + 1) start end
    search_goes_on sooner e other_place =
        let from = leads.from in
        let most = so_far.most in
        let ahead = so_far.ahead in
        let to = leads.to in
        record {
          long = length-set now number y ∙ so_far.long;
          ahead = omega arith;
          most = omega arith;
          left = λ other a b.
              let none = leads.none other a (omega arith) in
              so_far.left other a (omega arith)
              ∙ ap (λ l. some_pass passes l other) here
              ∙ ap (λ t. t || some_pass passes (drop (number + 1) now) other) none
              ∙ ap (λ l. some_pass passes l other) (sym (drop-set-lt (number + 1) now number y (omega arith)));
          same = search_same;
          moved = search_moved;
        }

    pub search_finds : next ≡ place → Found passes shown old (set now number y) place limit start end
    search_finds at_place =
        let most = so_far.most in
        let ahead = so_far.ahead in
        record {
          leads = record {
            from = omega arith;
            to = omega arith;
            there = λ e.
                so_far.left place (omega arith) ahead
                ∙ ap (λ l. some_pass passes l place) here
                ∙ or_left (passes x place) (some_pass passes (drop (number + 1) now) place) (leads.there at_place);
            none = λ other a b. absurd (omega arith);
          };
          same = search_same;
          moved = search_moved;
        }

  pub search_ends : (old now : List A) (place limit first number start end : ℕ) → Searched passes shown old now place limit first number start end → length now ≤ number → Leads (some_pass passes old) place limit first
  search_ends old now place limit first number start end so_far h =
      let ahead = so_far.ahead in
      record {
        from = omega arith;
        to = so_far.most;
        there = λ e. absurd (omega (arith, e));
        none = λ other a b. so_far.left other a b ∙ ap (λ l. some_pass passes l other) (drop_all number now h);
      }

-- a search whose first place found is one at which one passes
pub record Settled {A L : Type 0} (passes : A → ℕ → Bool) (shown : A → Shown L) (old now : List A) (place limit first number start end : ℕ) : Type 0 where
  pub searched : Searched passes shown old now place limit first number start end
  pub found : first < limit → some_pass passes old first ≡ true

module _ {A L : Type 0} (passes : A → ℕ → Bool) (shown : A → Shown L) where
  passed_at : (xs : List A) (i place : ℕ) (x : A) → i < length xs → x ≡ get_or xs i x → passes x place ≡ true → some_pass passes xs place ≡ true
  passed_at xs i place x h e there = list_any_at (λ y. passes y place) xs i x h (ap (λ y. passes y place) (sym e) ∙ there)

  module _ (old now : List A) (place limit first number start middle end : ℕ) (so_far : Settled passes shown old now place limit first number start middle)
      (x y : A) (within : number < length now) (read : x ≡ get_or now number x) (next : ℕ) (leads : Leads (passes x) place limit next) (there : next < limit → passes x next ≡ true)
      (same : SameFrom place (passes y) (passes x)) (moved : Moved (shown x) (shown y) middle end) where
    found_next : next < limit → some_pass passes old next ≡ true
    found_next less = sym (so_far.searched.same.same next leads.from) ∙ passed_at now number next x within read (there less)

    pub settled_goes_on : (sooner : ℕ) → sooner ≡ min first next → (next ≡ place → ⊥) → Settled passes shown old (set now number y) place limit sooner (number + 1) start end
    settled_goes_on sooner e other_place = record {
      searched = search_goes_on passes shown old now place limit first number start middle end so_far.searched x y within read next leads same moved sooner e other_place;
      found = λ less. elim (cases_lt next first) [
        | inl before ↦
            let is : next ≡ sooner = omega (arith, e) in
            subst (λ p. some_pass passes old p ≡ true) is (found_next (omega (arith, is, less)))
        | inr past ↦
            let is : first ≡ sooner = omega (arith, e) in
            subst (λ p. some_pass passes old p ≡ true) is (so_far.found (omega (arith, is, less)))
      ];
    }
