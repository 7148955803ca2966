-- Or, And, Not, mild not and times of AllMatches whose phrases have other numbers.
use Rattle.std.proofs.Common.{◌≡◌, refl, ap, sym, ◌∙◌, ℕ, zero, suc, pred, List, [], ◌∷◌, ◌++◌, Bool, true, false, not, ◌&&◌, ◌||◌}
use Rattle.std.specs.Prelude.{map, filter, flat_map, fold, cond, Option, Some, None, nat_lt, if◌then◌else◌}
use Rattle.std.specs.List.{list_any, list_all}
use Rattle.std.proofs.lemmas.List.{map-append}
use Rattle.ft_base.specs.Lists.{is_not_empty}
use Rattle.ft_base.specs.declared.hit.Hit.{Hit}
use Rattle.ft_base.specs.declared.hit.Match.{Match}
use Rattle.ft_base.specs.declared.range.Range.{Range}
use Rattle.ft_base.specs.declared.range.Range.TheVariants.{Exactly, AtLeast, AtMost, FromTo}
use Rattle.all_matches.specs.Boolean.{both, with_include, with_exclude, ft_or, ft_and, ft_not, is_clean, satisfied}
use Rattle.all_matches.specs.MildNot.{stands_out, ft_mild_not}
use Rattle.all_matches.specs.Positions.{covers, places_from_to}
use Rattle.all_matches.specs.Times.{at_least, between, ft_times, occurring}
use Rattle.all_matches.specs.Numbering.{shifted_hit, shifted_match, shifted}
use Rattle.all_matches.proofs.ListTests.{list_any-alike}

pub map-cond : {X Y : Type 0} (f : X → Y) (b : Bool) (xs ys : List X) → map f (cond b xs ys) ≡ cond b (map f xs) (map f ys)
map-cond f true xs ys = refl
map-cond f false xs ys = refl

module _ {X Y Z : Type 0} (f : X → X) (g : Y → Y) (h : Z → Z) (op : X → Y → Z) (same : (x : X) (y : Y) → op (f x) (g y) ≡ h (op x y)) where
  one_row : (x : X) (ys : List Y) → map (op (f x)) (map g ys) ≡ map h (map (op x) ys)
  one_row x [] = refl
  one_row x (y ∷ ys) = λ i. same x y i ∷ one_row x ys i

  -- what is made of each pair
  pub each_pair : (xs : List X) (ys : List Y) → flat_map (λ x. map (op x) (map g ys)) (map f xs) ≡ map h (flat_map (λ x. map (op x) ys) xs)
  each_pair [] ys = refl
  each_pair (x ∷ xs) ys = (λ i. one_row x ys i ++ each_pair xs ys i) ∙ sym (map-append h (map (op x) ys) (flat_map (λ z. map (op z) ys) xs))

module _ (by : ℕ) where
  both-shifted : (a b : Match) → both (shifted_match by a) (shifted_match by b) ≡ shifted_match by (both a b)
  both-shifted a b = λ i. record { includes = sym (map-append (shifted_hit by) a.includes b.includes) i; excludes = sym (map-append (shifted_hit by) a.excludes b.excludes) i }

  pub and-shifted : (left right : List Match) → ft_and (shifted by left) (shifted by right) ≡ shifted by (ft_and left right)
  and-shifted left right = each_pair (shifted_match by) (shifted_match by) (shifted_match by) both both-shifted left right

  pub or_of-shifted : (acc : List Match) (operands : List (List Match)) → fold ft_or (shifted by acc) (map (shifted by) operands) ≡ shifted by (fold ft_or acc operands)
  or_of-shifted acc [] = refl
  or_of-shifted acc (a ∷ rest) = ap (λ ms. fold ft_or ms (map (shifted by) rest)) (sym (map-append (shifted_match by) acc a)) ∙ or_of-shifted (ft_or acc a) rest

  pub and_of-shifted : (acc : List Match) (operands : List (List Match)) → fold ft_and (shifted by acc) (map (shifted by) operands) ≡ shifted by (fold ft_and acc operands)
  and_of-shifted acc [] = refl
  and_of-shifted acc (a ∷ rest) = ap (λ ms. fold ft_and ms (map (shifted by) rest)) (and-shifted acc a) ∙ and_of-shifted (ft_and acc a) rest

  pub not-shifted : (ms : List Match) → ft_not (shifted by ms) ≡ shifted by (ft_not ms)
  not-shifted [] = refl
  not-shifted (m ∷ rest) =
      ap (λ ns. flat_map (λ hit. map (with_exclude hit) ns) (map (shifted_hit by) m.includes) ++ flat_map (λ hit. map (with_include hit) ns) (map (shifted_hit by) m.excludes)) (not-shifted rest)
      ∙ (λ i. each_pair (shifted_hit by) (shifted_match by) (shifted_match by) with_exclude (λ x y. refl) m.includes (ft_not rest) i
      ++ each_pair (shifted_hit by) (shifted_match by) (shifted_match by) with_include (λ x y. refl) m.excludes (ft_not rest) i)
      ∙ sym (map-append (shifted_match by) (flat_map (λ hit. map (with_exclude hit) (ft_not rest)) m.includes) (flat_map (λ hit. map (with_include hit) (ft_not rest)) m.excludes))

  at_least-step : (m : Match) (ms : List Match) → map (both (shifted_match by m)) (shifted by ms) ≡ shifted by (map (both m) ms)
  at_least-step m [] = refl
  at_least-step m (n ∷ ms) = λ i. both-shifted m n i ∷ at_least-step m ms i

  pub at_least-shifted : (k : ℕ) (ms : List Match) → at_least k (shifted by ms) ≡ shifted by (at_least k ms)
  at_least-shifted zero [] = refl
  at_least-shifted (suc k) [] = refl
  at_least-shifted k (m ∷ rest) =
      (λ i. map (both (shifted_match by m)) (at_least-shifted (pred k) rest i) ++ at_least-shifted k rest i)
      ∙ ap (λ ms. ms ++ shifted by (at_least k rest)) (at_least-step m (at_least (pred k) rest))
      ∙ sym (map-append (shifted_match by) (map (both m) (at_least (pred k) rest)) (at_least k rest))

  pub between-shifted : (low high : ℕ) (ms : List Match) → between low high (shifted by ms) ≡ shifted by (between low high ms)
  between-shifted low high ms =
      ap (λ ns. if nat_lt high low then [] else ns) (
      (λ i. ft_and (at_least-shifted low ms i) (ft_not (at_least-shifted (suc high) ms i)))
      ∙ ap (ft_and (shifted by (at_least low ms))) (not-shifted (at_least (suc high) ms))
      ∙ and-shifted (at_least low ms) (ft_not (at_least (suc high) ms)))
      ∙ sym (map-cond (shifted_match by) (nat_lt high low) [] (ft_and (at_least low ms) (ft_not (at_least (suc high) ms))))

  pub times-shifted : (range : Range) (ms : List Match) → ft_times range (shifted by ms) ≡ shifted by (ft_times range ms)
  times-shifted (Exactly n) ms = between-shifted n n ms
  times-shifted (AtLeast n) ms = at_least-shifted n ms
  times-shifted (AtMost n) ms = between-shifted 0 n ms
  times-shifted (FromTo low high) ms = between-shifted low high ms

  pub occurring-shifted : (times : Option Range) (ms : List Match) → occurring times (shifted by ms) ≡ shifted by (occurring times ms)
  occurring-shifted None ms = refl
  occurring-shifted (Some range) ms = times-shifted range ms

  -- tests that don't look at numbers
  pub any-shifted : (p : Hit → Bool) → ((hit : Hit) → p (shifted_hit by hit) ≡ p hit) → (hits : List Hit) → list_any p (map (shifted_hit by) hits) ≡ list_any p hits
  any-shifted p same [] = refl
  any-shifted p same (hit ∷ rest) = λ i. same hit i || any-shifted p same rest i

  pub all-shifted : (p q : Hit → Bool) → ((hit : Hit) → p (shifted_hit by hit) ≡ q hit) → (hits : List Hit) → list_all p (map (shifted_hit by) hits) ≡ list_all q hits
  all-shifted p q same [] = refl
  all-shifted p q same (hit ∷ rest) = λ i. same hit i && all-shifted p q same rest i

  pub filter-shifted : (p q : Hit → Bool) → ((hit : Hit) → p (shifted_hit by hit) ≡ q hit) → (hits : List Hit) → filter p (map (shifted_hit by) hits) ≡ map (shifted_hit by) (filter q hits)
  filter-shifted p q same [] = refl
  filter-shifted p q same (hit ∷ rest) =
      (λ i. cond (same hit i) (shifted_hit by hit ∷ filter-shifted p q same rest i) (filter-shifted p q same rest i))
      ∙ sym (map-cond (shifted_hit by) (q hit) (hit ∷ filter q rest) (filter q rest))

  stands_out-shifted : (left right : List Hit) → stands_out (map (shifted_hit by) left) (map (shifted_hit by) right) ≡ stands_out left right
  stands_out-shifted [] right = refl
  stands_out-shifted (hit ∷ rest) right =
      λ i. list_any-alike (λ place. not (list_any (λ other. covers other place) (map (shifted_hit by) right))) (λ place. not (list_any (λ other. covers other place) right)) (places_from_to hit.from hit.to)
      (λ place. ap not (any-shifted (λ other. covers other place) (λ other. refl) right)) i
      || stands_out-shifted rest right i

  out_of_all-shifted : (a : Match) (right : List Match) → list_all (λ b. stands_out (shifted_match by a).includes b.includes) (shifted by right) ≡ list_all (λ b. stands_out a.includes b.includes) right
  out_of_all-shifted a [] = refl
  out_of_all-shifted a (b ∷ rest) = λ i. stands_out-shifted a.includes b.includes i && out_of_all-shifted a rest i

  kept-shifted : (left right : List Match) → filter (λ a. list_all (λ b. stands_out a.includes b.includes) (shifted by right)) (shifted by left) ≡ shifted by (filter (λ a. list_all (λ b. stands_out a.includes b.includes) right) left)
  kept-shifted [] right = refl
  kept-shifted (a ∷ rest) right =
      (λ i. cond (out_of_all-shifted a right i) (shifted_match by a ∷ kept-shifted rest right i) (kept-shifted rest right i))
      ∙ sym (map-cond (shifted_match by) (list_all (λ b. stands_out a.includes b.includes) right) (a ∷ filter (λ c. list_all (λ b. stands_out c.includes b.includes) right) rest) (filter (λ c. list_all (λ b. stands_out c.includes b.includes) right) rest))

  is_not_empty-shifted : (hits : List Hit) → is_not_empty (map (shifted_hit by) hits) ≡ is_not_empty hits
  is_not_empty-shifted [] = refl
  is_not_empty-shifted (hit ∷ rest) = refl

  some_include-shifted : (ms : List Match) → list_any (λ m. is_not_empty m.includes) (shifted by ms) ≡ list_any (λ m. is_not_empty m.includes) ms
  some_include-shifted [] = refl
  some_include-shifted (m ∷ rest) = λ i. is_not_empty-shifted m.includes i || some_include-shifted rest i

  pub mild_not-shifted : (left right : List Match) → ft_mild_not (shifted by left) (shifted by right) ≡ shifted by (ft_mild_not left right)
  mild_not-shifted left right =
      (λ i. cond (some_include-shifted right i) (kept-shifted left right i) (shifted by left))
      ∙ sym (map-cond (shifted_match by) (list_any (λ m. is_not_empty m.includes) right) (filter (λ a. list_all (λ b. stands_out a.includes b.includes) right) left) left)

  is_clean-shifted : (m : Match) → is_clean (shifted_match by m) ≡ is_clean m
  is_clean-shifted m = emptiness m.includes m.excludes
    where
      emptiness : (is es : List Hit) → is_clean (shifted_match by (record { includes = is; excludes = es })) ≡ is_clean (record { includes = is; excludes = es })
      emptiness is [] = refl
      emptiness is (hit ∷ rest) = refl

  pub satisfied-shifted : (ms : List Match) → satisfied (shifted by ms) ≡ satisfied ms
  satisfied-shifted [] = refl
  satisfied-shifted (m ∷ rest) = λ i. is_clean-shifted m i || satisfied-shifted rest i
