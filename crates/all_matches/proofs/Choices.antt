-- Of a negated selection without excludes some choice survives a test exactly where none of its Matches has all its includes kept.
use Rattle.std.proofs.Common.{◌≡◌, refl, ap, ◌∙◌, List, [], ◌∷◌, Bool, true, false, not, ◌&&◌, ◌||◌}
use Rattle.std.specs.Prelude.{map, flat_map}
use Rattle.std.specs.List.{list_any, list_all}
use Rattle.std.proofs.lemmas.Bool.{and_parts}
use Rattle.std.proofs.lemmas.List.Folds.{list_any-append}
use Rattle.ft_base.specs.declared.hit.Hit.{Hit}
use Rattle.ft_base.specs.declared.hit.Match.{Match}
use Rattle.ft_base.proofs.Truth.{or_false}
use Rattle.all_matches.specs.Boolean.{with_include, with_exclude, ft_not, is_clean, survives}
use Rattle.all_matches.proofs.BooleanLaws.{neither}
use Rattle.all_matches.proofs.ListTests.{list_any-alike, list_any-map, list_any-flat_map, list_any-and, list_any-and_first}

some_fails : (kept : Hit → Bool) (hits : List Hit) → list_any (λ hit. not (kept hit)) hits ≡ not (list_all kept hits)
some_fails kept [] = refl
some_fails kept (hit ∷ rest) = ap (λ b. not (kept hit) || b) (some_fails kept rest) ∙ not_both (kept hit) (list_all kept rest)
  where
    not_both : (a b : Bool) → (not a || not b) ≡ not (a && b)
    not_both true b = refl
    not_both false b = refl

-- the choices of one include of a Match, each with the choices of the rest
turned : (kept : Hit → Bool) (hits : List Hit) (ms : List Match) → list_any (survives kept) (flat_map (λ hit. map (with_exclude hit) ms) hits) ≡ (not (list_all kept hits) && list_any (survives kept) ms)
turned kept hits ms =
    list_any-flat_map (survives kept) (λ hit. map (with_exclude hit) ms) hits
    ∙ list_any-alike (λ hit. list_any (survives kept) (map (with_exclude hit) ms)) (λ hit. not (kept hit) && list_any (survives kept) ms) hits
    (λ hit. list_any-map (survives kept) (with_exclude hit) ms ∙ list_any-and_first (not (kept hit)) (survives kept) ms)
    ∙ list_any-and (λ hit. not (kept hit)) (list_any (survives kept) ms) hits
    ∙ ap (λ b. b && list_any (survives kept) ms) (some_fails kept hits)

nothing_turned : (kept : Hit → Bool) (is es : List Hit) (ms : List Match) → is_clean (record { includes = is; excludes = es }) ≡ true → list_any (survives kept) (flat_map (λ hit. map (with_include hit) ms) es) ≡ false
nothing_turned kept is [] ms c = refl
nothing_turned kept is (hit ∷ rest) ms c = cc

pub some_choice : (kept : Hit → Bool) (ms : List Match) → list_all is_clean ms ≡ true → list_any (survives kept) (ft_not ms) ≡ not (list_any (λ m. list_all kept m.includes) ms)
some_choice kept [] c = refl
some_choice kept (m ∷ rest) c =
    let parts = and_parts (is_clean m) (list_all is_clean rest) c in
    list_any-append (survives kept) (flat_map (λ hit. map (with_exclude hit) (ft_not rest)) m.includes) (flat_map (λ hit. map (with_include hit) (ft_not rest)) m.excludes)
    ∙ or_false (list_any (survives kept) (flat_map (λ hit. map (with_exclude hit) (ft_not rest)) m.includes)) (list_any (survives kept) (flat_map (λ hit. map (with_include hit) (ft_not rest)) m.excludes))
    (nothing_turned kept m.includes m.excludes (ft_not rest) parts.0)
    ∙ turned kept m.includes (ft_not rest)
    ∙ ap (λ b. not (list_all kept m.includes) && b) (some_choice kept rest parts.1)
    ∙ neither (list_all kept m.includes) (list_any (λ n. list_all kept n.includes) rest)
