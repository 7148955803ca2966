-- The symbols of a line spell a path of numbered steps, by the grammar and within the limits.
use Rattle.std.proofs.Common.{◌≡◌, ◌∙◌, sym, ap, subst, refl, ℕ, ◌+◌, ◌≤◌, ◌↔◌, List, [], ◌∷◌, ◌++◌, length, map, false, None, arith, append_assoc, append-nil}
use Rattle.std.specs.Prelude.{Ok}
use Rattle.std.specs.List.{AllByRecursion}
use Rattle.ft_base.specs.Limits.{max_number, max_open}
use Rattle.selection_grammar.specs.declared.symbol.Placed.{Placed}
use Rattle.selection_grammar.specs.declared.symbol.Symbol.TheVariants as S
use Rattle.path_grammar.specs.Form as form
use Rattle.path_grammar.specs.Grammar as g
use Rattle.path_grammar.specs.Levels.{levels, step_levels, steps_levels}
use Rattle.path_grammar.specs.declared.path.NameTest.TheVariants as T
use Rattle.path_grammar.specs.declared.path.PathRoot.{PathRoot}
use Rattle.path_grammar.specs.declared.path.PathRoot.TheVariants as R
use Rattle.path_subset.specs.Answer.{path_read}
use Rattle.path_subset.specs.Limits.{AreNumbersWithin, Within}
use Rattle.path_subset.specs.Paths.{PathForm, path_form}
use Rattle.path_subset.specs.Spelled.{Each, SpellsPath}
use Rattle.query_lexer.specs.Symbols.{symbols_of}
use Rattle.element_lines.specs.LocationSteps.{Step}
use Rattle.line_round_trip.proofs.Symbols.{after_root, after_step, close_place, line_placed, name_place, number_place, open_place, root_placed, step_placed, steps_placed}

-- `/`, the name, and the number as a predicate
abbrev pub path_step : Step → form.Step
path_step s = form.step false (T.Name s.name) (form.predicates (form.number s.number ∷ []))

abbrev pub path_of : List ℕ → List Step → form.Path
path_of document steps = record { root = R.Doc document; steps = form.steps (map path_step steps) }

-- ---- by the grammar

-- symbols that spell a path in which no bracket stands in another
record Made (symbols : List Placed) (value : form.Path) : Type 0 where
  whole : g.Path symbols value []
  low : levels whole ≤ 1

moved : (a b : List Placed) (v w : form.Path) → Made a v → a ≡ b → v ≡ w → Made b w
moved a b v w made symbols value = subst (λ u. Made b u) value (subst (λ u. Made u v) symbols made)

one-step : (n place : ℕ) (s : Step) → g.Step n (step_placed place s) (path_step s) []
one-step n place s =
    g.step (g.child (place, place + 1)) (g.named (name_place place s, name_place place s + length s.name) s.name)
    (g.further_predicate g.no_predicate (g.number (open_place place s, open_place place s + 1)
    (number_place place s, number_place place s + length (_)) (close_place place s, close_place place s + 1) s.number))

step-low : (n place : ℕ) (s : Step) → step_levels (one-step n place s) ≤ 1
unfolding one-step
step-low n place s = omega arith

module _ (r : List Placed) (root : PathRoot) (begins : g.Root r root) where
  abbrev path_to : List form.Step → form.Path
  path_to xs = record { root = root; steps = form.steps xs }

  -- steps that are there, and one after them, and others after that
  steps-after : (v w : List Placed) (xs : List form.Step) (x : form.Step) (before : g.Steps 0 v xs []) (last : g.Step 0 w x [])
      → steps_levels before ≤ 1 → step_levels last ≤ 1 → (place : ℕ) (steps : List Step)
      → Made (r ++ ((v ++ w) ++ steps_placed place steps)) (path_to (xs ++ x ∷ map path_step steps))
  steps-after v w xs x before last low one place [] =
      moved ((r ++ v) ++ w) (r ++ ((v ++ w) ++ [])) (path_to (xs ++ x ∷ [])) (path_to (xs ++ x ∷ []))
      (record { whole = g.path begins before last; low = omega (arith, low, one) })
      (append_assoc r v w ∙ ap (λ u. r ++ u) (sym (append-nil (v ++ w)))) refl
  steps-after v w xs x before last low one place (s ∷ steps) =
      let next = step_placed place s in
      let rest = steps_placed (after_step place s) steps in
      moved (r ++ (((v ++ w) ++ next) ++ rest)) (r ++ ((v ++ w) ++ (next ++ rest)))
      (path_to ((xs ++ x ∷ []) ++ path_step s ∷ map path_step steps)) (path_to (xs ++ x ∷ path_step s ∷ map path_step steps))
      (steps-after (v ++ w) next (xs ++ x ∷ []) (path_step s) (g.further_step before last) (one-step 0 place s)
      (omega (arith, low, one)) (step-low 0 place s) (after_step place s) steps)
      (ap (λ u. r ++ u) (append_assoc (v ++ w) next rest))
      (ap path_to (append_assoc xs (x ∷ []) (path_step s ∷ map path_step steps)))

made : (document : List ℕ) (first : Step) (steps : List Step) → Made (line_placed document (first ∷ steps)) (path_of document (first ∷ steps))
made document first steps =
    steps-after (root_placed document) (R.Doc document) (g.doc (0, 3) (3, 4) (4, _) (_, _) document)
    [] (step_placed (after_root document) first) [] (path_step first) g.no_step (one-step 0 (after_root document) first)
    (omega arith) (step-low 0 (after_root document) first) (after_step (after_root document) first) steps

-- ---- within the limits

abbrev IsSmall : Placed → Type 0
IsSmall p = (n : ℕ) → p.symbol ≡ S.Number n → n ≤ max_number

abbrev AreSmall : List Placed → Type 0
AreSmall symbols = AllByRecursion IsSmall symbols

small-at : (before : List Placed) (p : Placed) (rest : List Placed) → AreSmall (before ++ p ∷ rest) → IsSmall p
small-at [] p rest h = h.0
small-at (q ∷ before) p rest h = small-at before p rest h.1

steps-small : (place : ℕ) (steps : List Step) → AllByRecursion (λ s. s.number ≤ max_number) steps → AreSmall (steps_placed place steps)
steps-small place [] h = tt
steps-small place (s ∷ steps) h =
    ((λ n is. cc), ((λ n is. cc), ((λ n is. cc), ((λ n is. number n is), ((λ n is. cc), steps-small (after_step place s) steps h.1)))))
  where
    number : (n : ℕ) → S.Number s.number ≡ S.Number n → n ≤ max_number
    number n is = let same : s.number ≡ n = cc in omega (arith, h.0, same)

line-small : (document : List ℕ) (steps : List Step) → AllByRecursion (λ s. s.number ≤ max_number) steps → AreSmall (line_placed document steps)
line-small document steps h = ((λ n is. cc), ((λ n is. cc), ((λ n is. cc), ((λ n is. cc), steps-small (after_root document) steps h))))

numbers-within : (symbols : List Placed) → AreSmall symbols → AreNumbersWithin symbols
numbers-within symbols h before p rest t n are reads other is = small-at before p rest (subst AreSmall are h) n is

-- ---- what a line is read as

module _ (spelled : (text : List ℕ) (value : PathForm) → (path_read text ≡ Ok value) ↔ SpellsPath text value)
    (within : (symbols : List Placed) (value : form.Path) (insides : List g.Inside) → (whole : g.Path symbols value insides)
    → Within symbols ↔ ((levels whole ≤ max_open) × AreNumbersWithin symbols)) where
  pub path-read : (document text : List ℕ) (first : Step) (steps : List Step) → AllByRecursion (λ s. s.number ≤ max_number) (first ∷ steps)
      → symbols_of text ≡ record { placed = line_placed document (first ∷ steps); bad = None }
      → path_read text ≡ Ok (path_form (path_of document (first ∷ steps)) [])
  path-read document text first steps small are =
      let symbols = line_placed document (first ∷ steps) in
      let value = path_of document (first ∷ steps) in
      let m = made document first steps in
      let placed : symbols ≡ (symbols_of text).placed = sym (ap (λ s. s.placed) are) in
      let limits : Within symbols = (within symbols value [] m.whole).1 (omega (arith, m.low), numbers-within symbols (line-small document (first ∷ steps) small)) in
      (spelled text (path_form value [])).1 (record {
        insides = [];
        all = ap (λ s. s.bad) are;
        spells = subst (λ u. g.Path u value []) placed m.whole;
        selections = Each.none;
        limits = subst Within placed limits;
      })
