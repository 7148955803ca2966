-- Loops that aim one part of a list after another.
use Rattle.std.proofs.Common.{◌≡◌, refl, sym, ap, ◌∙◌, ℕ, ◌+◌, ◌<◌, ◌≤◌, Bool, true, ◌&&◌, List, [], ◌∷◌, ◌++◌, map, flat_map, length, get_or, set, take, Vec, Global, arith}
use Rattle.std.specs.List.{list_all}
use Rattle.std.proofs.Math.ListN.{get_or-map}
use Rattle.std.proofs.lemmas.List.Folds.{flat_map-map, list_all-map}
use Rattle.std.proofs.lemmas.List.{length-map, map_more, map_push, take_more_set, take_all}
use Rattle.ft_base.specs.declared.hit.Hit.{Hit}
use Rattle.ft_base.specs.declared.span.Span.{Span}
use Rattle.ft_operators.specs.Phrases.{PhraseAims, PhraseState}
use Rattle.place_merges.proofs.MoveLemmas.{all_at, map_set}
use Rattle.phrase_merges.specs.Rows.{all_hits, all_rising, hits_there, is_rising, rise_there}

module _ {A C D : Type 0} (view : A → C) (made : A → D) (to_make : C → D) where
  -- the parts look as they did, and those before the number are made
  pub record Making (views : List C) (now : List A) (number start end : ℕ) : Type 0 where
    pub same : map view now ≡ views
    pub done : map made (take number now) ≡ map to_make (take number views)
    pub grown : start ≤ end

  many : (views : List C) (now : List A) (number start end : ℕ) → Making views now number start end → length now ≡ length views
  many views now number start end so_far = sym (length-map now view) ∙ ap length so_far.same

  viewed : (views : List C) (now : List A) (number start end : ℕ) (x : A) → Making views now number start end → x ≡ get_or now number x → view x ≡ get_or views number (view x)
  viewed views now number start end x so_far read = ap view read ∙ sym (get_or-map view now number x) ∙ ap (λ (vs : List C). get_or vs number (view x)) so_far.same

  pub making_on : (views : List C) (now : List A) (number start middle end : ℕ) (x y : A) → Making views now number start middle → number < length now → x ≡ get_or now number x
      → view y ≡ view x → made y ≡ to_make (view x) → middle ≤ end → Making views (set now number y) (number + 1) start end
  making_on views now number start middle end x y so_far h read kept is more =
      let within : number < length views = omega (arith, h, many views now number start middle so_far) in
      record {
        same = map_set view now number x y h read kept ∙ so_far.same;
        done =
            ap (map made) (take_more_set now number y h)
            ∙ map_push made (take number now) y
            ∙ (λ i. so_far.done i ++ is i ∷ [])
            ∙ ap (λ (c : C). map to_make (take number views) ++ to_make c ∷ []) (viewed views now number start middle x so_far read)
            ∙ sym (map_more to_make views number (view x) within);
        grown = omega (arith, so_far.grown, more);
      }

  pub making_ends : (views : List C) (now : List A) (number start end : ℕ) → Making views now number start end → length now ≤ number → map made now ≡ map to_make views
  making_ends views now number start end so_far h =
      ap (map made) (sym (take_all number now h))
      ∙ so_far.done
      ∙ ap (map to_make) (take_all number views (omega (arith, h, many views now number start end so_far)))

  pub count_now : (old now : List A) (number start end : ℕ) → Making (map view old) now number start end → length now ≡ length old
  count_now old now number start end so_far = many (map view old) now number start end so_far ∙ length-map old view

  -- what holds of all of them holds of the one
  pub one_of_all : (p : C → Bool) (views : List C) (now : List A) (number start end : ℕ) (x : A) → list_all p views ≡ true → Making views now number start end → number < length now
      → x ≡ get_or now number x → p (view x) ≡ true
  one_of_all p views now number start end x all so_far h read =
      all_at p views number (view x) (omega (arith, h, many views now number start end so_far)) (viewed views now number start end x so_far read) all

-- ---- phrases that are aimed

module _ {P : Type 0} (state : P → PhraseState) (doc : ℕ) (span : Span) where
  abbrev pub rests : Vec P Global → List (List Hit)
  rests phrase = map (λ source. (state source).rest) phrase.items

  pub hits_aimed : (phrases : List (Vec P Global)) (aims : List (List PhraseAims)) → map rests phrases ≡ map (map (λ one. one.hits doc span)) aims
      → all_hits state phrases ≡ map (hits_there doc span) aims
  hits_aimed phrases aims h = sym (from_rests phrases) ∙ ap (map (flat_map (λ hits. hits))) h ∙ from_aims aims
    where
      from_rests : (own : List (Vec P Global)) → map (flat_map (λ hits. hits)) (map rests own) ≡ all_hits state own
      from_rests [] = refl
      from_rests (phrase ∷ own) = λ i. flat_map-map (λ own. own) (λ source. (state source).rest) phrase.items i ∷ from_rests own i

      from_aims : (own : List (List PhraseAims)) → map (flat_map (λ hits. hits)) (map (map (λ one. one.hits doc span)) own) ≡ map (hits_there doc span) own
      from_aims [] = refl
      from_aims (lists ∷ own) = λ i. flat_map-map (λ own. own) (λ (one : PhraseAims). one.hits doc span) lists i ∷ from_aims own i

  pub rising_aimed : (phrases : List (Vec P Global)) (aims : List (List PhraseAims)) → map rests phrases ≡ map (map (λ one. one.hits doc span)) aims
      → rise_there doc span aims ≡ true → all_rising state phrases ≡ true
  rising_aimed phrases aims h rises = sym (from_rests phrases) ∙ ap (list_all (list_all is_rising)) h ∙ from_aims aims ∙ rises
    where
      from_rests : (own : List (Vec P Global)) → list_all (list_all is_rising) (map rests own) ≡ all_rising state own
      from_rests [] = refl
      from_rests (phrase ∷ own) = λ i. list_all-map is_rising (λ source. (state source).rest) phrase.items i && from_rests own i

      from_aims : (own : List (List PhraseAims)) → list_all (list_all is_rising) (map (map (λ one. one.hits doc span)) own) ≡ rise_there doc span own
      from_aims [] = refl
      from_aims (lists ∷ own) = λ i. list_all-map is_rising (λ (one : PhraseAims). one.hits doc span) lists i && from_aims own i
