-- Loops that change the parts of a list one after the other, and keep what they look like.
use Rattle.std.proofs.Common.{◌≡◌, sym, ap, subst, ◌∙◌, ℕ, ◌+◌, ◌<◌, ◌≤◌, List, [], ◌∷◌, ◌++◌, map, length, get_or, set, take, arith}
use Rattle.std.specs.List.{All}
use Rattle.std.proofs.Math.ListN.{get_or-map}
use Rattle.std.proofs.Math.Seq.{map-set_same}
use Rattle.std.proofs.lemmas.List.{length-map, map_more, map_push, set-get_or, take_more_set, get_or-map as get_or_map}
use Rattle.std.proofs.lemmas.List.Elements.{All-get_or}

module _ {A B : Type 0} (f : A → B) where
  -- what one of the parts looks like, by what all of them do
  pub part_at : (now : List A) (views : List B) (i : ℕ) (x : A) → map f now ≡ views → x ≡ get_or now i x → f x ≡ get_or views i (f x)
  part_at now views i x same is = ap f is ∙ sym (get_or-map f now i x) ∙ ap (λ (vs : List B). get_or vs i (f x)) same

  pub parts_kept : (now : List A) (views : List B) (i : ℕ) (x y : A) → map f now ≡ views → x ≡ get_or now i x → f y ≡ f x → map f (set now i y) ≡ views
  parts_kept now views i x y same is kept = map-set_same f now i y x (kept ∙ ap f is) ∙ same

  pub as_many : (now : List A) (views : List B) → map f now ≡ views → length now ≡ length views
  as_many now views same = sym (length-map now f) ∙ ap length same

  -- what holds of all of them holds of the one
  pub holds_at : (P : B → Type 0) (now : List A) (views : List B) (i : ℕ) (x : A) → All P views → map f now ≡ views → i < length now → x ≡ get_or now i x → P (f x)
  holds_at P now views i x all same h is =
      let many = as_many now views same in
      let within : i < length views = omega arith in
      subst P (sym (part_at now views i x same is)) (All-get_or P views i (f x) within all)

module _ {A B C : Type 0} (f : A → B) (g : C → B) where
  -- one part more is as it is to be
  pub part_more : (now : List A) (wanted : List C) (i : ℕ) (y : A) (t : C) → length now ≡ length wanted → i < length now → t ≡ get_or wanted i t → f y ≡ g t
      → map f (take i now) ≡ map g (take i wanted) → map f (take (i + 1) (set now i y)) ≡ map g (take (i + 1) wanted)
  part_more now wanted i y t many h numbered_hit is before =
      let within : i < length wanted = omega arith in
      ap (map f) (take_more_set now i y h)
      ∙ map_push f (take i now) y
      ∙ (λ j. before j ++ is j ∷ [])
      ∙ ap (λ (c : C). map g (take i wanted) ++ g c ∷ []) numbered_hit
      ∙ sym (map_more g wanted i t within)

-- a part that stays as it is
pub set_kept : {A : Type 0} (now views : List A) (i : ℕ) (x y : A) → now ≡ views → x ≡ get_or now i x → y ≡ x → set now i y ≡ views
set_kept now views i x y same is kept = ap (set now i) (kept ∙ is) ∙ set-get_or now i x ∙ same

-- lists of two kinds that look the same
module _ {A B C : Type 0} (f : A → B) (g : C → B) where
  pub same_length : (now : List A) (wanted : List C) → map f now ≡ map g wanted → length now ≡ length wanted
  same_length now wanted same = sym (length-map now f) ∙ ap length same ∙ length-map wanted g

  pub both_at : (now : List A) (wanted : List C) (i : ℕ) (x : A) (t : C) → map f now ≡ map g wanted → i < length wanted → x ≡ get_or now i x → t ≡ get_or wanted i t → f x ≡ g t
  both_at now wanted i x t same h is numbered_hit =
      part_at f now (map g wanted) i x same is
      ∙ get_or_map g wanted i t (f x) h
      ∙ ap g (sym numbered_hit)

  -- one part more is as it is to be, and looks as it did
  pub record PartMore {D : Type 0} (made : A → D) (to_make : C → D) (after : List A) (wanted : List C) (i start end : ℕ) : Type 0 where
    pub sized : map f after ≡ map g wanted
    pub done : map made (take (i + 1) after) ≡ map to_make (take (i + 1) wanted)
    pub grown : start ≤ end

  pub parts_more : {D : Type 0} (made : A → D) (to_make : C → D) (now : List A) (wanted : List C) (i start middle end : ℕ) (x y : A) (t : C)
      → map f now ≡ map g wanted → i < length wanted → x ≡ get_or now i x → t ≡ get_or wanted i t → f y ≡ f x → made y ≡ to_make t
      → map made (take i now) ≡ map to_make (take i wanted) → start ≤ middle → middle ≤ end → PartMore made to_make (set now i y) wanted i start end
  parts_more made to_make now wanted i start middle end x y t same h is numbered_hit kept new before first then =
      let many = same_length now wanted same in
      record {
        sized = parts_kept f now (map g wanted) i x y same is kept;
        done = part_more made to_make now wanted i y t many (omega arith) numbered_hit new before;
        grown = omega arith;
      }
