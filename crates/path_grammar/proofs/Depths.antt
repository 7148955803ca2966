-- How much is open on the machine's way is how deep the path's brackets and parentheses stand in one another.
use Rattle.std.proofs.Common.{◌≡◌, ◌⊎◌, ◌≤◌, ◌<◌, ℕ, Bool, true, false, List, [], ◌∷◌, ◌++◌, Option, Some, None, refl, sym, ◌∙◌, ap, arith}
use Rattle.std.proofs.Math.Dec.{leb}
use Rattle.std.proofs.lemmas.Bool.{leb-true, leb-false}
use Rattle.std.specs.Prelude.{max}
use Rattle.selection_grammar.specs.declared.symbol.Symbol.TheVariants as S
use Rattle.selection_grammar.specs.declared.symbol.Placed.{Placed}
use Rattle.path_grammar.specs.Form as form
use Rattle.path_grammar.specs.Grammar.{Inside, Path}
use Rattle.path_grammar.specs.Levels.{levels, BeginsWithin, OpensTooDeep}
use Rattle.path_grammar.specs.steps.Machine as m
use Rattle.path_grammar.specs.steps.Machine.{State, read, run_on, open_count, most_open, most_open_on}
use Rattle.path_grammar.proofs.Completed.{complete}
use Rattle.path_grammar.proofs.Growing.{grows_by}
use Rattle.path_grammar.proofs.Begun.{completion_of, whole_of, read_begins, begins_read, read-append}

most_least : (s : State) (v : List Placed) → most_open_on (Some s) v ≡ max (open_count s) (most_open_on (Some s) v)
most_least s [] = omega arith
most_least s (p ∷ v) = omega arith

most_open_on-append : (o : Option State) (u v : List Placed) → most_open_on o (u ++ v) ≡ max (most_open_on o u) (most_open_on (run_on o u) v)
most_open_on-append None u v = refl
most_open_on-append (Some s) [] v = most_least s v
most_open_on-append (Some s) (p ∷ u) v = omega (arith, most_open_on-append (m.advance s p) u v)

most_open-append : (u v : List Placed) → most_open (u ++ v) ≡ max (most_open u) (most_open_on (read u) v)
most_open-append u v = most_open_on-append (Some (m.at_root m.nothing)) u v

pub levels_most : (u : List Placed) (value : form.Path) (selections : List Inside) (a : Path u value selections) → levels a ≡ most_open u
levels_most u value selections a = let c = complete a in sym c.most_is

-- where the machine stands no more is open than the most on the way
last_most : (o : Option State) (u : List Placed) (s : State) → run_on o u ≡ Some s → open_count s ≤ most_open_on o u
last_most None u s e = cc
last_most (Some t) [] s e = let same : t ≡ s = cc in omega (arith, ap open_count same)
last_most (Some t) (p ∷ u) s e = omega (arith, last_most (m.advance t p) u s e)

-- the last symbol leads from where the machine stands before it
record Last (u : List Placed) (p : Placed) (s : State) : Type 0 where
  before : State
  is_read : read u ≡ Some before
  leads : m.advance before p ≡ Some s

last_of : (u : List Placed) (p : Placed) (s : State) → read (u ++ p ∷ []) ≡ Some s → Last u p s
last_of u p s e = go (read u) refl
  where
    ends : (o : Option State) → run_on o [] ≡ Some s → o ≡ Some s
    ends None h = h
    ends (Some r) h = h

    go : (o : Option State) → read u ≡ o → Last u p s
    go None k = let two : None ≡ Some s = sym (read-append u (p ∷ []) ∙ ap (λ o. run_on o (p ∷ [])) k) ∙ e in cc
    go (Some t) k = record { before = t; is_read = k; leads = ends (m.advance t p) (sym (read-append u (p ∷ []) ∙ ap (λ o. run_on o (p ∷ [])) k) ∙ e) }

pub one_more : (u : List Placed) (p : Placed) (s : State) → read (u ++ p ∷ []) ≡ Some s → most_open (u ++ p ∷ []) ≡ max (most_open u) (open_count s)
one_more u p s e = omega (arith, most_open-append u (p ∷ []), ap (λ o. most_open_on o (p ∷ [])) l.is_read, suffix, last_most (Some (m.at_root m.nothing)) u l.before l.is_read)
  where
    l : Last u p s
    l = last_of u p s e

    suffix : most_open_on (Some l.before) (p ∷ []) ≡ max (open_count l.before) (open_count s)
    suffix = ap (λ o. max (open_count l.before) (most_open_on o [])) l.leads

pub begins_within : (most : ℕ) (u : List Placed) → BeginsWithin most u → (s : State) × (read u ≡ Some s) × (most_open u ≤ most)
begins_within most u (rest, x, ss, a, few) = go (begins_read u (rest, x, ss, a))
  where
    go : (s : State) × (read u ≡ Some s) → (s : State) × (read u ≡ Some s) × (most_open u ≤ most)
    go (s, r) = (s, r, omega (arith, few, levels_most (u ++ rest) x ss a, most_open-append u rest))

pub read_within : (most : ℕ) (u : List Placed) (s : State) → read u ≡ Some s → most_open u ≤ most → BeginsWithin most u
read_within most u s e few =
    let c = completion_of u s e in
    let a = whole_of u s e c in
    let no_more : most_open u ≡ max (most_open u) (open_count s) = omega (arith, last_most (Some (m.at_root m.nothing)) u s e) in
    (c.rest, c.value, c.selections, a, omega (arith, few, no_more, levels_most (u ++ c.rest) c.value c.selections a, most_open-append u c.rest, ap (λ o. most_open_on o c.rest) e, c.most))

pub opens : (most : ℕ) (u : List Placed) (p : Placed) → OpensTooDeep most u p → (s : State) × (read (u ++ p ∷ []) ≡ Some s) × (most < open_count s)
opens most u p (within, begins, too_deep) = go (begins_read (u ++ p ∷ []) begins) (begins_within most u within)
  where
    go : (s : State) × (read (u ++ p ∷ []) ≡ Some s) → (t : State) × (read u ≡ Some t) × (most_open u ≤ most) → (s : State) × (read (u ++ p ∷ []) ≡ Some s) × (most < open_count s)
    go (s, r) (t, k, few) = by (leb (open_count s) most) refl
      where
        by : (b : Bool) → leb (open_count s) most ≡ b → (s : State) × (read (u ++ p ∷ []) ≡ Some s) × (most < open_count s)
        by true h = absurd (too_deep (read_within most (u ++ p ∷ []) s r (omega (arith, few, one_more u p s r, leb-true (open_count s) most h))))
        by false h = (s, r, leb-false (open_count s) most h)

pub opened : (most : ℕ) (u : List Placed) (p : Placed) → BeginsWithin most u → (s : State) × (read (u ++ p ∷ []) ≡ Some s) × (most < open_count s) → OpensTooDeep most u p
opened most u p within (s, r, many) = (within, read_begins (u ++ p ∷ []) s r, too_deep)
  where
    go : (t : State) × (read (u ++ p ∷ []) ≡ Some t) × (most_open (u ++ p ∷ []) ≤ most) → ⊥
    go (t, k, few) = absurd (omega (arith, few, many, one_more u p s r))

    too_deep : BeginsWithin most (u ++ p ∷ []) → ⊥
    too_deep b = go (begins_within most (u ++ p ∷ []) b)

-- what opens too deep is a bracket or a parenthesis
pub opening : (most : ℕ) (u : List Placed) (p : Placed) → OpensTooDeep most u p → (p.symbol ≡ S.OpenBracket) ⊎ (p.symbol ≡ S.OpenParenthesis)
opening most u p a = go (opens most u p a) (begins_within most u a.0)
  where
    go : (s : State) × (read (u ++ p ∷ []) ≡ Some s) × (most < open_count s) → (t : State) × (read u ≡ Some t) × (most_open u ≤ most) → (p.symbol ≡ S.OpenBracket) ⊎ (p.symbol ≡ S.OpenParenthesis)
    go (s, r, many) (t, k, few) = let l = last_of u p s r in
        grows_by l.before s p l.leads (omega (arith, many, few, last_most (Some (m.at_root m.nothing)) u l.before l.is_read))
