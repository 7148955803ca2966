-- Hits joined one after the other are the joined hit.
use Rattle.std.proofs.Common.{◌≡◌, refl, ap, sym, ◌∙◌, ℕ, suc, ◌-◌, Bool, true, false, ◌&&◌, ◌||◌, List, [], ◌∷◌}
use Rattle.std.specs.Prelude.{map, fold, Option, Some, None, option_map}
use Rattle.std.specs.List.{list_all, list_any, range_with_len}
use Rattle.std.proofs.Math.Bool.{and-true, and_assoc}
use Rattle.std.proofs.lemmas.Bool.{and_parts}
use Rattle.ft_base.specs.declared.hit.Hit.{Hit}
use Rattle.ft_base.specs.declared.unit.TextUnit.{TextUnit}
use Rattle.ft_base.specs.declared.unit.TextUnit.TheVariants.{Words, Sentences, Paragraphs}
use Rattle.all_matches.specs.Positions.{covers}
use Rattle.all_matches.specs.Join.{least, greatest, join}
use Rattle.all_matches.specs.Window.{fits_window}
use Rattle.window_distance.specs.steps.Covering.{is_covered}
use Rattle.window_distance.specs.steps.Widening.{widened, with_hit, wide, with_cover}

-- the joined hit, where it is only known whether each is whole
abbrev spread : Hit → List Hit → Hit
spread first rest = record {
  query = first.query;
  from = least first.from (map (λ hit. hit.from) rest);
  to = greatest first.to (map (λ hit. hit.to) rest);
  sent_from = least first.sent_from (map (λ hit. hit.sent_from) rest);
  sent_to = greatest first.sent_to (map (λ hit. hit.sent_to) rest);
  para_from = least first.para_from (map (λ hit. hit.para_from) rest);
  para_to = greatest first.para_to (map (λ hit. hit.para_to) rest);
  whole = first.whole && list_all (λ hit. hit.whole) rest;
}

wide-is : (first : Hit) (rest : List Hit) → fold with_hit (Some first) rest ≡ Some (spread first rest)
wide-is first [] = λ i. Some (record first { whole = sym (and-true first.whole) i })
wide-is first (hit ∷ rest) =
    wide-is (widened first hit) rest
    ∙ (λ i. Some (record (spread (widened first hit) rest) { whole = and_assoc first.whole hit.whole (list_all (λ other. other.whole) rest) i }))

-- where each is whole, a word is covered by one that is whole where it is covered
whole_covers : (hits : List Hit) → list_all (λ hit. hit.whole) hits ≡ true → (place : ℕ) → is_covered hits place ≡ list_any (λ hit. covers hit place) hits
whole_covers [] h place = refl
whole_covers (hit ∷ rest) h place =
    let parts = and_parts hit.whole (list_all (λ hit. hit.whole) rest) h in
    λ i. (parts.0 i && covers hit place) || whole_covers rest parts.1 place i

all_alike : (p q : ℕ → Bool) → ((n : ℕ) → p n ≡ q n) → (ns : List ℕ) → list_all p ns ≡ list_all q ns
all_alike p q same [] = refl
all_alike p q same (n ∷ ns) = λ i. same n i && all_alike p q same ns i

covers_where_whole : (hits : List Hit) (places : List ℕ) (b : Bool) → list_all (λ hit. hit.whole) hits ≡ b
    → (b && list_all (is_covered hits) places) ≡ (b && list_all (λ place. list_any (λ hit. covers hit place) hits) places)
covers_where_whole hits places true e = all_alike (is_covered hits) (λ place. list_any (λ hit. covers hit place) hits) (whole_covers hits e) places
covers_where_whole hits places false e = refl

pub join-is : (hits : List Hit) → option_map (with_cover hits) (wide hits) ≡ join hits
join-is [] = refl
join-is (first ∷ rest) =
    ap (option_map (with_cover (first ∷ rest))) (wide-is first rest)
    ∙ (λ i. Some (record (spread first rest) {
      whole = covers_where_whole (first ∷ rest)
          (range_with_len (least first.from (map (λ hit. hit.from) rest)) (suc (greatest first.to (map (λ hit. hit.to) rest)) - least first.from (map (λ hit. hit.from) rest)))
          (list_all (λ hit. hit.whole) (first ∷ rest)) refl i;
    }))

fits-cover : (size : ℕ) (kind : TextUnit) (hits : List Hit) (joined : Option Hit) → fits_window size kind (option_map (with_cover hits) joined) ≡ fits_window size kind joined
fits-cover size kind hits None = refl
fits-cover size Words hits (Some joined) = refl
fits-cover size Sentences hits (Some joined) = refl
fits-cover size Paragraphs hits (Some joined) = refl

pub fits-is : (size : ℕ) (kind : TextUnit) (hits : List Hit) → fits_window size kind (wide hits) ≡ fits_window size kind (join hits)
fits-is size kind hits = sym (fits-cover size kind hits (wide hits)) ∙ ap (fits_window size kind) (join-is hits)

pub joined-none : (hits : List Hit) → None ≡ wide hits → None ≡ join hits
joined-none hits e = ap (option_map (with_cover hits)) e ∙ join-is hits

pub joined-some : (hits : List Hit) (joined : Hit) → Some joined ≡ wide hits → Some (with_cover hits joined) ≡ join hits
joined-some hits joined e = ap (option_map (with_cover hits)) e ∙ join-is hits
