-- The items of a variant, one after the other, from a place on.
use Rattle.std.proofs.Common.{◌≡◌, ℕ, zero, suc, ◌+◌, ◌-◌, ◌<◌, Bool, true, false, ◌&&◌, List, [], ◌∷◌, map, length, get_or, set, drop, refl, sym, ap, ◌∙◌, arith, length-set, drop-set-lt, drop-drop, Vec, Global}
use Rattle.std.proofs.lemmas.Bool.{and_left, and_right}
use Rattle.std.proofs.lemmas.List.{drop_more}
use Rattle.ft_base.specs.Hits.{HitPlace}
use Rattle.place_merges.specs.declared.item.Item.{Item}
use Rattle.place_merges.specs.declared.item.Item.TheVariants.{Of}
use Rattle.place_merges.specs.declared.item.Variant.{Variant}
use Rattle.place_merges.specs.Places.{Wanted, fits, stands_at}
use Rattle.place_merges.specs.Sources.{places_left}
use Rattle.place_merges.specs.steps.Searching.{Shown, Leads, SameFrom, Moved, shown_all, has, some_has, item_fits}
use Rattle.place_merges.proofs.MoveLemmas.{moved_on, moved_in, same_on, any_map}

-- an item of sources leads where they lead
module _ {H : Type 0} (stands : H → HitPlace) where
  sources_fit : (sources : Vec H Global) (place : ℕ) → item_fits stands (Of sources) place ≡ some_has stands sources.items place
  sources_fit sources place = any_map (λ places. has places place) (λ source. places_left (stands source)) sources.items

  pub sources_lead : (item : Item H) (sources : Vec H Global) → item ≡ Of sources → (place limit result : ℕ)
      → Leads (some_has stands sources.items) place limit result → Leads (item_fits stands item) place limit result
  sources_lead item sources e place limit result leads =
      let is : (other : ℕ) → item_fits stands item other ≡ some_has stands sources.items other = λ other. ap (λ i. item_fits stands i other) e ∙ sources_fit sources other in
      record {
        from = leads.from;
        to = leads.to;
        there = λ at. is place ∙ leads.there at;
        none = λ other a b. is other ∙ leads.none other a b;
      }

  pub sources_same : (item : Item H) (sources after : Vec H Global) → item ≡ Of sources → (place : ℕ)
      → SameFrom place (some_has stands after.items) (some_has stands sources.items) → SameFrom place (item_fits stands (Of after)) (item_fits stands item)
  sources_same item sources after e place same = record {
    same = λ other h. sources_fit after other ∙ same.same other h ∙ sym (sources_fit sources other) ∙ ap (λ i. item_fits stands i other) (sym e);
  }

module _ {A : Type 0} (want : A → Wanted) where
  -- whether some items stand from the place on
  abbrev pub stand : List A → ℕ → Bool
  stand xs place = stands_at place (map want xs)

  stand_set : (xs : List A) (i place : ℕ) (x y : A) → i < length xs → x ≡ get_or xs i x → fits (place + i) (want y) ≡ fits (place + i) (want x) → stand (set xs i y) place ≡ stand xs place
  stand_set [] i place x y h e same = absurd (omega arith)
  stand_set (z ∷ xs) zero place x y h e same =
      let at : place ≡ place + 0 = omega arith in
      let one : fits place (want y) ≡ fits place (want z) = ap (λ p. fits p (want y)) at ∙ same ∙ ap (λ p. fits p (want x)) (sym at) ∙ ap (λ a. fits place (want a)) e in
      ap (λ b. b && stand xs (place + 1)) one
  stand_set (z ∷ xs) (suc i) place x y h e same =
      let at : place + 1 + i ≡ place + suc i = omega arith in
      let one : fits (place + 1 + i) (want y) ≡ fits (place + 1 + i) (want x) = ap (λ p. fits p (want y)) at ∙ same ∙ ap (λ p. fits p (want x)) (sym at) in
      ap (λ b. fits place (want z) && b) (stand_set xs i (place + 1) x y (omega arith) e one)

  -- where an item doesn't fit, its variant doesn't stand
  unfit : (xs : List A) (i place : ℕ) (x : A) → i < length xs → x ≡ get_or xs i x → fits (place + i) (want x) ≡ false → stand xs place ≡ false
  unfit [] i place x h e wrong = absurd (omega arith)
  unfit (z ∷ xs) zero place x h e wrong =
      let at : place ≡ place + 0 = omega arith in
      and_left (fits place (want z)) (stand xs (place + 1)) (ap (λ a. fits place (want a)) (sym e) ∙ ap (λ p. fits p (want x)) at ∙ wrong)
  unfit (z ∷ xs) (suc i) place x h e wrong =
      let at : place + 1 + i ≡ place + suc i = omega arith in
      and_right (fits place (want z)) (stand xs (place + 1)) (unfit xs i (place + 1) x (omega arith) e (ap (λ p. fits p (want x)) at ∙ wrong))

-- the items before the number fit the words from the place on
pub record Fitted {A L : Type 0} (want : A → Wanted) (shown : A → Shown L) (old now : List A) (place number start end : ℕ) : Type 0 where
  pub long : length now ≡ length old
  pub left : stand want old place ≡ stand want (drop number old) (place + number)
  pub rest : drop number now ≡ drop number old
  pub same : SameFrom place (stand want now) (stand want old)
  pub moved : Moved (shown_all shown old) (shown_all shown now) start end

-- an item doesn't fit, and the place jumps
pub record Unfitted {A L : Type 0} (want : A → Wanted) (shown : A → Shown L) (old now : List A) (place limit result start end : ℕ) : Type 0 where
  pub leads : Leads (stand want old) place limit result
  pub same : SameFrom place (stand want now) (stand want old)
  pub moved : Moved (shown_all shown old) (shown_all shown now) start end

module _ {A L : Type 0} (want : A → Wanted) (shown : A → Shown L) where
  -- an item was asked for a place
  module _ (old now : List A) (place limit number start middle end : ℕ) (before : SameFrom place (stand want now) (stand want old)) (earlier : Moved (shown_all shown old) (shown_all shown now) start middle)
      (x y : A) (within : number < length now) (read : x ≡ get_or now number x) (next : ℕ) (leads : Leads (λ other. fits other (want x)) (place + number) (limit + number) next)
      (same : SameFrom (place + number) (λ other. fits other (want y)) (λ other. fits other (want x))) (moved : Moved (shown x) (shown y) middle end) where
    pub fit_same : SameFrom place (stand want (set now number y)) (stand want old)
    fit_same = same_on place (stand want old) (stand want now) (stand want (set now number y)) before
        (record { same = λ other a. stand_set want now number other x y within read (same.same (other + number) (omega arith)) })

    pub fit_moved : Moved (shown_all shown old) (shown_all shown (set now number y)) start end
    fit_moved = moved_on (shown_all shown old) (shown_all shown now) (shown_all shown (set now number y)) start middle end earlier (moved_in shown now number x y middle end within read moved)

    pub fit_jumps : (next ≡ place + number → ⊥) → Unfitted want shown old (set now number y) place limit (next - number) start end
    fit_jumps other_place =
        let from = leads.from in
        let to = leads.to in
        record {
          leads = record {
            from = omega arith;
            to = omega arith;
            there = λ e. absurd (omega (arith, e, other_place));
            none = λ other a b.
                sym (before.same other a) ∙ unfit want now number other x within read (leads.none (other + number) (omega arith) (omega arith));
          };
          same = fit_same;
          moved = fit_moved;
        }

  module _ (old now : List A) (place limit number start middle end : ℕ) (so_far : Fitted want shown old now place number start middle)
      (x y : A) (within : number < length now) (read : x ≡ get_or now number x) (next : ℕ) (leads : Leads (λ other. fits other (want x)) (place + number) (limit + number) next)
      (same : SameFrom (place + number) (λ other. fits other (want y)) (λ other. fits other (want x))) (moved : Moved (shown x) (shown y) middle end) where
    past : drop (number + 1) now ≡ drop (number + 1) old
    past = sym (drop-drop 1 number now) ∙ ap (drop 1) so_far.rest ∙ drop-drop 1 number old

    here : drop number old ≡ x ∷ drop (number + 1) old
    here = sym so_far.rest ∙ drop_more now number x within ∙ (λ i. sym read i ∷ past i)

    pub fit_goes_on : next ≡ place + number → Fitted want shown old (set now number y) place (number + 1) start end
    fit_goes_on at_place =
        let at : place + number + 1 ≡ place + (number + 1) = omega arith in
        record {
          long = length-set now number y ∙ so_far.long;
          left = so_far.left
              ∙ ap (λ l. stand want l (place + number)) here
              ∙ ap (λ b. b && stand want (drop (number + 1) old) (place + number + 1)) (leads.there at_place)
              ∙ ap (stand want (drop (number + 1) old)) at;
          rest = drop-set-lt (number + 1) now number y (omega arith) ∙ past;
          same = fit_same old now place limit number start middle end so_far.same so_far.moved x y within read next leads same moved;
          moved = fit_moved old now place limit number start middle end so_far.same so_far.moved x y within read next leads same moved;
        }

-- nothing was asked yet
pub nothing_asked : {A : Type 0} (want : A → Wanted) (xs : List A) (place : ℕ) → SameFrom place (stand want xs) (stand want xs)
nothing_asked want xs place = record { same = λ other a. refl }

-- what is found after moves that change nothing from the place on was to be found before them
pub leads_before : (before after : ℕ → Bool) (place limit result : ℕ) → SameFrom place after before → Leads after place limit result → Leads before place limit result
leads_before before after place limit result same leads = record {
  from = leads.from;
  to = leads.to;
  there = λ at. sym (same.same place (omega arith)) ∙ leads.there at;
  none = λ other a b. sym (same.same other a) ∙ leads.none other a b;
}

-- ---- variants that count

module _ {H : Type 0} (stands : H → HitPlace) (plain : H → Bool) (to : ℕ) where
  module _ (variant : Variant H) (after : Vec (Item H) Global) (counts : variant.counts ≡ true) where
    abbrev now : Variant H
    now = record { items = after; lead = variant.lead; counts = variant.counts }
