-- Or, And, Not and mild not of Matches whose phrases have other numbers.
use Rattle.std.proofs.Common.{◌≡◌, refl, ap, sym, ◌∙◌, ℕ, List, [], ◌∷◌, ◌++◌, not, ◌&&◌, ◌||◌, cond}
use Rattle.std.specs.Prelude.{map, filter, flat_map}
use Rattle.std.specs.List.{list_any, list_all}
use Rattle.std.proofs.lemmas.List.{map-append}
use Rattle.ft_base.specs.Lists.{is_not_empty}
use Rattle.ft_base.specs.declared.hit.Hit.{Hit}
use Rattle.ft_base.specs.declared.hit.Match.{Match}
use Rattle.all_matches.specs.Boolean.{both, with_include, with_exclude, ft_or, ft_and, ft_not}
use Rattle.all_matches.specs.MildNot.{stands_out, ft_mild_not}
use Rattle.all_matches.specs.Positions.{covers, places_from_to}
use Rattle.all_matches.proofs.ListTests.{list_any-alike, list_any-map}
use Rattle.all_matches.proofs.Shifted.{each_pair, map-cond}
use Rattle.match_sets.specs.Numbers.{renumbered_hit, renumbered_match, renumbered}

module _ (number : ℕ → ℕ) where
  abbrev hit_again : Hit → Hit
  hit_again = renumbered_hit number

  abbrev again : Match → Match
  again = renumbered_match number

  pub or_same : (left right : List Match) → renumbered number (ft_or left right) ≡ ft_or (renumbered number left) (renumbered number right)
  or_same left right = map-append again left right

  pub and_same : (left right : List Match) → renumbered number (ft_and left right) ≡ ft_and (renumbered number left) (renumbered number right)
  and_same left right = sym (each_pair again again again both (λ a b i. record {
    includes = sym (map-append hit_again a.includes b.includes) i;
    excludes = sym (map-append hit_again a.excludes b.excludes) i;
  }) left right)

  pub not_same : (ms : List Match) → renumbered number (ft_not ms) ≡ ft_not (renumbered number ms)
  not_same [] = refl
  not_same (m ∷ rest) =
      let excluded = flat_map (λ hit. map (with_exclude hit) (ft_not rest)) m.includes in
      let included = flat_map (λ hit. map (with_include hit) (ft_not rest)) m.excludes in
      map-append again excluded included
      ∙ (λ i. sym (each_pair hit_again again again with_exclude (λ hit n. refl) m.includes (ft_not rest)) i ++ sym (each_pair hit_again again again with_include (λ hit n. refl) m.excludes (ft_not rest)) i)
      ∙ ap (λ ns. flat_map (λ hit. map (with_exclude hit) ns) (map hit_again m.includes) ++ flat_map (λ hit. map (with_include hit) ns) (map hit_again m.excludes)) (not_same rest)

  out_same : (left right : List Hit) → stands_out (map hit_again left) (map hit_again right) ≡ stands_out left right
  out_same [] right = refl
  out_same (hit ∷ rest) right =
      λ i. list_any-alike (λ place. not (list_any (λ other. covers other place) (map hit_again right))) (λ place. not (list_any (λ other. covers other place) right)) (places_from_to hit.from hit.to)
      (λ place. ap not (list_any-map (λ other. covers other place) hit_again right)) i
      || out_same rest right i

  outside_same : (a : Match) (right : List Match) → list_all (λ b. stands_out (again a).includes b.includes) (renumbered number right) ≡ list_all (λ b. stands_out a.includes b.includes) right
  outside_same a [] = refl
  outside_same a (b ∷ rest) = λ i. out_same a.includes b.includes i && outside_same a rest i

  kept_same : (left right : List Match) → filter (λ a. list_all (λ b. stands_out a.includes b.includes) (renumbered number right)) (renumbered number left)
      ≡ renumbered number (filter (λ a. list_all (λ b. stands_out a.includes b.includes) right) left)
  kept_same [] right = refl
  kept_same (a ∷ rest) right =
      let stays = filter (λ c. list_all (λ b. stands_out c.includes b.includes) right) rest in
      (λ i. cond (outside_same a right i) (again a ∷ kept_same rest right i) (kept_same rest right i)) ∙ sym (map-cond again (list_all (λ b. stands_out a.includes b.includes) right) (a ∷ stays) stays)

  some_include : (ms : List Match) → list_any (λ m. is_not_empty m.includes) (renumbered number ms) ≡ list_any (λ m. is_not_empty m.includes) ms
  some_include ms = list_any-map (λ m. is_not_empty m.includes) again ms ∙ list_any-alike (λ m. is_not_empty (again m).includes) (λ m. is_not_empty m.includes) ms (λ m. emptiness m.includes)
    where
      emptiness : (hits : List Hit) → is_not_empty (map hit_again hits) ≡ is_not_empty hits
      emptiness [] = refl
      emptiness (hit ∷ rest) = refl

  pub mild_not_same : (left right : List Match) → renumbered number (ft_mild_not left right) ≡ ft_mild_not (renumbered number left) (renumbered number right)
  mild_not_same left right =
      map-cond again (list_any (λ m. is_not_empty m.includes) right) (filter (λ a. list_all (λ b. stands_out a.includes b.includes) right) left) left
      ∙ (λ i. cond (sym (some_include right) i) (sym (kept_same left right) i) (renumbered number left))
