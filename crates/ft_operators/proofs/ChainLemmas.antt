-- Putting a filter into a chain, taking it away, and asking one filter after the other.
use Rattle.std.proofs.Common.{◌≡◌, refl, ap, sym, ◌∙◌, ℕ, ◌+◌, ◌-◌, ◌<◌, ◌≤◌, List, [], ◌∷◌, ◌++◌, ◌&&◌, true, false, length, take, drop, reverse, get_or, min, arith}
use Rattle.std.proofs.lemmas.List.{reverse-append, take_at, drop_at, take_min, drop_min, take_more, length-take, length-drop}
use Rattle.ft_base.specs.Lists.{is_not_empty}
use Rattle.ft_base.specs.declared.hit.Hit.{Hit}
use Rattle.all_matches.specs.Chain.{Link, kept_by}
use Rattle.all_matches.specs.Filters.{keeps}
use Rattle.ft_operators.specs.declared.bounds.Bounds.{Bounds}
use Rattle.ft_operators.specs.declared.chain.Chain.{Chain}
use Rattle.ft_operators.specs.declared.chain.ChainLink.{ChainLink}
use Rattle.ft_operators.specs.KeptBounds.{chain_bounds, kept_bounds}
use Rattle.ft_operators.specs.Chains.{links_from, links_of, spare_filters, spare_hits, first_includes, IsKept}

pub links_pushed : (links : List ChainLink) (hits more : List Hit) (link : ChainLink) → link.start ≡ length hits
    → links_from (hits ++ more) (reverse (links ++ link ∷ [])) ≡ record { kind = link.kind; includes = more; choice = link.window } ∷ links_from hits (reverse links)
unfolding links_from
links_pushed links hits more link at =
    ap (links_from (hits ++ more)) (reverse-append links (link ∷ []))
    ∙ (λ i. record { kind = link.kind; includes = drop_at hits more link.start (sym at) i; choice = link.window } ∷ links_from (take_at hits more link.start (sym at) i) (reverse links))

pub pushed : (links new_links : List ChainLink) (hits new_hits more : List Hit) (link : ChainLink) → new_links ≡ links ++ link ∷ [] → new_hits ≡ hits ++ more → link.start ≡ length hits
    → links_from new_hits (reverse new_links) ≡ record { kind = link.kind; includes = more; choice = link.window } ∷ links_from hits (reverse links)
pushed links new_links hits new_hits more link put put_hits at = (λ i. links_from (put_hits i) (reverse (put i))) ∙ links_pushed links hits more link at

pub no_links : (hits : List Hit) → links_from hits (reverse []) ≡ []
unfolding links_from
no_links hits = refl

pub none_popped : {A : Type 0} (links : List ChainLink) (hits : List Hit) → length links ≡ 0 → is_not_empty (links_from hits (reverse links)) ≡ true → A
unfolding links_from
none_popped [] hits none some = cc
none_popped (link ∷ rest) hits none some = absurd (omega (arith, none))

pub links_popped : (links rest : List ChainLink) (hits : List Hit) (link : ChainLink) → links ≡ rest ++ link ∷ [] → links_from (take link.start hits) (reverse rest) ≡ drop 1 (links_from hits (reverse links))
unfolding links_from
links_popped links rest hits link is = sym (ap (λ ls. drop 1 (links_from hits ls)) (ap reverse is ∙ reverse-append rest (link ∷ [])))

pub hits_popped : (links rest : List ChainLink) (hits : List Hit) (link : ChainLink) → links ≡ rest ++ link ∷ []
    → length (take link.start hits) + length (first_includes (links_from hits (reverse links))) ≡ length hits
unfolding links_from
hits_popped links rest hits link is =
    ap (λ ls. length (take link.start hits) + length (first_includes (links_from hits ls))) (ap reverse is ∙ reverse-append rest (link ∷ []))
    ∙ omega (arith, length-take link.start hits, length-drop link.start hits)

-- the last filter, and those before it
links_last : (links : List ChainLink) (hits : List Hit) (number : ℕ) (link : ChainLink) → number < length links → link ≡ get_or links number link
    → links_from hits (reverse (take (number + 1) links))
    ≡ record { kind = link.kind; includes = drop (min link.start (length hits)) hits; choice = link.window } ∷ links_from (take (min link.start (length hits)) hits) (reverse (take number links))
unfolding links_from
links_last links hits number link below is =
    ap (λ ls. links_from hits (reverse ls)) (take_more links number link below ∙ ap (λ x. take number links ++ x ∷ []) (sym is))
    ∙ ap (links_from hits) (reverse-append (take number links) (link ∷ []))
    ∙ (λ i. record { kind = link.kind; includes = sym (drop_min link.start hits) i; choice = link.window } ∷ links_from (sym (take_min link.start hits) i) (reverse (take number links)))

-- the part of the last filter was cut off
module _ (links : List ChainLink) (hits outer own : List Hit) (number mid : ℕ) (link : ChainLink) (some : 0 < number) (below : number ≤ length links) (is : link ≡ get_or links (number - 1) link)
    (at : mid ≡ min link.start (length hits)) (prefix : outer ≡ take mid hits) (back : own ≡ drop mid hits) where
  links_step : links_from hits (reverse (take number links)) ≡ record { kind = link.kind; includes = own; choice = link.window } ∷ links_from outer (reverse (take (number - 1) links))
  links_step =
      let one : number ≡ (number - 1) + 1 = omega (arith, some) in
      let own_is = ap (λ n. drop n hits) (sym at) ∙ sym back in
      let outer_is = ap (λ n. take n hits) (sym at) ∙ sym prefix in
      ap (λ n. links_from hits (reverse (take n links))) one
      ∙ links_last links hits (number - 1) link (omega (arith, some, below)) is
      ∙ (λ i. record { kind = link.kind; includes = own_is i; choice = link.window } ∷ links_from (outer_is i) (reverse (take (number - 1) links)))

  -- its bounds were taken
  pub bounds_step : (bounds new : Bounds) → new ≡ kept_bounds link.kind own link.window bounds
      → chain_bounds (links_from outer (reverse (take (number - 1) links))) new ≡ chain_bounds (links_from hits (reverse (take number links))) bounds
  bounds_step bounds new told = ap (chain_bounds (links_from outer (reverse (take (number - 1) links)))) told ∙ sym (ap (λ ls. chain_bounds ls bounds) links_step)

-- and it was asked
module _ (links : List ChainLink) (hits outer own : List Hit) (hit : Hit) (number mid : ℕ) (link : ChainLink) (some : 0 < number) (below : number ≤ length links) (is : link ≡ get_or links (number - 1) link)
    (at : mid ≡ min link.start (length hits)) (prefix : outer ≡ take mid hits) (back : own ≡ drop mid hits) where
  kept_step : kept_by (links_from hits (reverse (take number links))) hit ≡ (keeps link.kind own link.window hit && kept_by (links_from outer (reverse (take (number - 1) links))) hit)
  kept_step = ap (λ ls. kept_by ls hit) (links_step links hits outer own number mid link some below is at prefix back)

  pub kept_no : keeps link.kind own link.window hit ≡ false → false ≡ kept_by (links_from hits (reverse (take number links))) hit
  kept_no fails = ap (λ b. b && kept_by (links_from outer (reverse (take (number - 1) links))) hit) (sym fails) ∙ sym kept_step

  pub kept_yes : keeps link.kind own link.window hit ≡ true → kept_by (links_from outer (reverse (take (number - 1) links))) hit ≡ kept_by (links_from hits (reverse (take number links))) hit
  kept_yes holds = ap (λ b. b && kept_by (links_from outer (reverse (take (number - 1) links))) hit) (sym holds) ∙ sym kept_step

pub bounds_all : (hits : List Hit) (links : List ChainLink) (bounds : Bounds) → chain_bounds (links_from hits (reverse (take 0 links))) bounds ≡ bounds
unfolding links_from
bounds_all hits [] bounds = refl
bounds_all hits (link ∷ rest) bounds = refl

pub kept_all : (hits : List Hit) (hit : Hit) (links : List ChainLink) → true ≡ kept_by (links_from hits (reverse (take 0 links))) hit
unfolding links_from
kept_all hits hit [] = refl
kept_all hits hit (link ∷ rest) = refl

-- ---- a chain that keeps its filters

pub kept_refl : (chain : Chain) → IsKept chain chain
kept_refl chain = record { links = refl; filters = omega arith; hits = omega arith }

pub kept_trans : (old mid new : Chain) → IsKept old mid → IsKept mid new → IsKept old new
kept_trans old mid new a b = record { links = b.links ∙ a.links; filters = omega (arith, a.filters, b.filters); hits = omega (arith, a.hits, b.hits) }

-- a filter was put, and taken away again when its chain had its filters still
pub put_and_taken : (old pushed asked new : Chain) (link : Link) → links_of pushed ≡ link ∷ links_of old → spare_filters old ≤ spare_filters pushed + 1 → spare_hits old ≤ spare_hits pushed + length link.includes
    → IsKept pushed asked → links_of new ≡ drop 1 (links_of asked) → spare_filters asked + 1 ≤ spare_filters new → spare_hits asked + length (first_includes (links_of asked)) ≤ spare_hits new
    → IsKept old new
put_and_taken old pushed asked new link put put_filters put_hits kept taken taken_filters taken_hits =
    let same = kept.links ∙ put in
    let size = ap (λ ls. length (first_includes ls)) same in
    record {
      links = taken ∙ ap (drop 1) same;
      filters = omega (arith, put_filters, kept.filters, taken_filters);
      hits = omega (arith, put_hits, kept.hits, taken_hits, size);
    }
