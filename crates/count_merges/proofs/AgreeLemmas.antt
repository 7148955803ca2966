-- A search through all elements for an end of a window at which each of them passes.
use Rattle.std.proofs.Common.{◌≡◌, sym, ap, ◌∙◌, ℕ, ◌+◌, ◌<◌, ◌≤◌, Bool, true, ◌&&◌, List, ◌∷◌, length, get_or, set, drop, arith, length-set, drop-set-lt}
use Rattle.std.specs.List.{list_all}
use Rattle.std.proofs.lemmas.List.{drop_all, drop_more}
use Rattle.std.proofs.lemmas.List.Folds.{list_all_at}
use Rattle.place_merges.specs.steps.Searching.{Leads, Moved, SameFrom, Shown, shown_all}
use Rattle.place_merges.proofs.MoveLemmas.{all_at, all_set, moved_in, moved_on, same_on}

module _ {A : Type 0} (passes : A → ℕ → Bool) where
  abbrev pub all_pass : List A → ℕ → Bool
  all_pass xs other = list_all (λ x. passes x other) xs

  -- the elements before the number pass
  pub record Agreed {L : Type 0} (sound : A → Bool) (shown : A → Shown L) (old now : List A) (last number start end : ℕ) : Type 0 where
    pub long : length now ≡ length old
    pub left : all_pass old last ≡ all_pass (drop number now) last
    pub same : SameFrom last (all_pass now) (all_pass old)
    pub all_sound : list_all sound now ≡ true
    pub moved : Moved (shown_all shown old) (shown_all shown now) start end

  -- one doesn't, and the search leads further
  pub record Jumped {L : Type 0} (sound : A → Bool) (shown : A → Shown L) (old now : List A) (last limit result start end : ℕ) : Type 0 where
    pub leads : Leads (all_pass old) last limit result
    pub same : SameFrom last (all_pass now) (all_pass old)
    pub all_sound : list_all sound now ≡ true
    pub moved : Moved (shown_all shown old) (shown_all shown now) start end

  module _ {L : Type 0} (sound : A → Bool) (shown : A → Shown L) where
    module _ (old now : List A) (last limit number start middle end : ℕ) (so_far : Agreed sound shown old now last number start middle)
        (x y : A) (within : number < length now) (read : x ≡ get_or now number x) where
      pub one_sound : sound x ≡ true
      one_sound = all_at sound now number x within read so_far.all_sound

      module _ (next : ℕ) (leads : Leads (passes x) last limit next) (same : SameFrom last (passes y) (passes x))
          (sound_now : sound y ≡ true) (moved : Moved (shown x) (shown y) middle end) where
        same_now : SameFrom last (all_pass (set now number y)) (all_pass old)
        same_now = same_on last (all_pass old) (all_pass now) (all_pass (set now number y)) so_far.same
            (record { same = λ other past. all_set (λ z. passes z other) now number x y within read (same.same other past) })

        sound_too : list_all sound (set now number y) ≡ true
        sound_too = all_set sound now number x y within read (sound_now ∙ sym one_sound) ∙ so_far.all_sound

        moved_too : Moved (shown_all shown old) (shown_all shown (set now number y)) start end
        moved_too = moved_on (shown_all shown old) (shown_all shown now) (shown_all shown (set now number y)) start middle end so_far.moved
            (moved_in shown now number x y middle end within read moved)

        pub agreed_goes_on : next ≡ last → Agreed sound shown old (set now number y) last (number + 1) start end
        agreed_goes_on here = record {
          long = length-set now number y ∙ so_far.long;
          left = so_far.left
              ∙ ap (λ xs. all_pass xs last) (drop_more now number x within ∙ ap (λ z. z ∷ drop (number + 1) now) (sym read))
              ∙ ap (λ b. b && all_pass (drop (number + 1) now) last) (leads.there here)
              ∙ ap (λ xs. all_pass xs last) (sym (drop-set-lt (number + 1) now number y (omega arith)));
          same = same_now;
          all_sound = sound_too;
          moved = moved_too;
        }

        pub agreed_jumps : (next ≡ last → ⊥) → Jumped sound shown old (set now number y) last limit next start end
        agreed_jumps further = record {
          leads = record {
            from = leads.from;
            to = leads.to;
            there = λ e. absurd (further e);
            none = λ other a b.
                sym (so_far.same.same other a)
                ∙ list_all_at (λ z. passes z other) now number x within (ap (λ z. passes z other) (sym read) ∙ leads.none other a b);
          };
          same = same_now;
          all_sound = sound_too;
          moved = moved_too;
        }

    pub agreed_ends : (old now : List A) (last limit number start end : ℕ) → last < limit → Agreed sound shown old now last number start end → length now ≤ number
        → Leads (all_pass old) last limit last
    agreed_ends old now last limit number start end before so_far h = record {
      from = omega arith;
      to = omega (arith, before);
      there = λ e. so_far.left ∙ ap (λ xs. all_pass xs last) (drop_all number now h);
      none = λ other a b. absurd (omega (arith, a, b));
    }
