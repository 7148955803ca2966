-- What was put to the end, then the places that are left, are all; each that is left is after the last one.
use Rattle.std.proofs.Common.{◌≡◌, ℕ, ◌+◌, ◌<◌, ◌≤◌, ◌++◌, All, map, drop}
use Rattle.std.specs.Option.{ForSome}
use Rattle.ft_base.specs.Places.{last_place}
use Rattle.tokenizer.proofs.text_starts.push_places.Given as goal

abbrev pub invariant-loop-place : goal.invariant-loop-place
invariant-loop-place l = record {
  done : l.places ++ map (λ place. l.fn.before + place) (drop l.place-index l.place-items) ≡ l.fn.places ++ map (λ place. l.fn.before + place) l.added;
  above : ForSome (last_place l.places) (λ last. All (λ place. last < l.fn.before + place) (drop l.place-index l.place-items));
  most : (most : ℕ) → ForSome (last_place l.fn.places) (λ last. last ≤ most) → ForSome (last_place l.added) (λ last. l.fn.before + last ≤ most) → ForSome (last_place l.places) (λ last. last ≤ most);
}
