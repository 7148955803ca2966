-- Some item of a list that is joined or mapped; Matches that are both needed.
use Rattle.std.proofs.Common.{◌≡◌, ap, ◌∙◌, List, [], ◌∷◌, ◌++◌, inl, inr, true, ◌||◌}
use Rattle.std.specs.Prelude.{map}
use Rattle.std.proofs.lemmas.Bool.{and_from, or_right}
use Rattle.ft_base.specs.declared.hit.Hit.{Hit}
use Rattle.ft_base.specs.declared.hit.Match.{Match}
use Rattle.all_matches.specs.Boolean.{both, ft_and, is_clean, satisfied}
use Rattle.all_matches.proofs.BooleanLaws.{is_clean-both}
use Rattle.best_hits.specs.Best.{Gives, SomeOf}

pub some-left : {X : Type 0} (P : X → Type 0) (xs ys : List X) → SomeOf P xs → SomeOf P (xs ++ ys)
some-left P [] ys h = absurd h
some-left P (x ∷ xs) ys (inl h) = inl h
some-left P (x ∷ xs) ys (inr h) = inr (some-left P xs ys h)

pub some-right : {X : Type 0} (P : X → Type 0) (xs ys : List X) → SomeOf P ys → SomeOf P (xs ++ ys)
some-right P [] ys h = h
some-right P (x ∷ xs) ys h = inr (some-right P xs ys h)

pub some-map : {X Y : Type 0} (f : X → Y) (P : X → Type 0) (Q : Y → Type 0) → ((x : X) → P x → Q (f x)) → (xs : List X) → SomeOf P xs → SomeOf Q (map f xs)
some-map f P Q to [] h = absurd h
some-map f P Q to (x ∷ xs) (inl h) = inl (to x h)
some-map f P Q to (x ∷ xs) (inr h) = inr (some-map f P Q to xs h)

pub gives-both : (xs ys : List Hit) (a b : Match) → Gives xs a → Gives ys b → Gives (xs ++ ys) (both a b)
gives-both xs ys a b g h = record {
  clean = is_clean-both a b ∙ and_from (is_clean a) (is_clean b) g.clean h.clean;
  same = λ i. g.same i ++ h.same i;
}

pub some-and : (xs ys : List Hit) (left right : List Match) → SomeOf (Gives xs) left → SomeOf (Gives ys) right → SomeOf (Gives (xs ++ ys)) (ft_and left right)
some-and xs ys [] right h w = absurd h
some-and xs ys (a ∷ left) right (inl g) w =
    some-left (Gives (xs ++ ys)) (map (both a) right) (ft_and left right) (some-map (both a) (Gives ys) (Gives (xs ++ ys)) (λ b k. gives-both xs ys a b g k) right w)
some-and xs ys (a ∷ left) right (inr h) w = some-right (Gives (xs ++ ys)) (map (both a) right) (ft_and left right) (some-and xs ys left right h w)

pub some-satisfied : (hits : List Hit) (ms : List Match) → SomeOf (Gives hits) ms → satisfied ms ≡ true
some-satisfied hits [] h = absurd h
some-satisfied hits (m ∷ ms) (inl g) = ap (λ b. b || satisfied ms) g.clean
some-satisfied hits (m ∷ ms) (inr h) = or_right (is_clean m) (satisfied ms) (some-satisfied hits ms h)
