-- The line's symbols spell the path of its steps, and these lead to the element alone.
use Rattle.std.proofs.Common.{◌≡◌, ◌∙◌, sym, ap, subst, refl, ℕ, List, [], ◌∷◌, ◌<◌, ◌≤◌, zero, suc, true, Some, length, get_or, AllPairs, Contains, arith}
use Rattle.std.specs.Prelude.{chars, encode_utf8_all}
use Rattle.std.specs.List.{AllByRecursion}
use Rattle.ft_base.specs.Limits.{max_number}
use Rattle.path_grammar.specs.Form as form
use Rattle.path_grammar.specs.declared.path.NameTest.TheVariants as T
use Rattle.path_meaning.specs.Elements.{Element, elements, node_at}
use Rattle.path_meaning.specs.Order.{Before}
use Rattle.path_subset.specs.Paths.{path_form}
use Rattle.element_lines.specs.Lines.{element_line}
use Rattle.element_lines.specs.LocationSteps.{Step, name_of, step, steps_below, steps_to}
use Rattle.line_round_trip.proofs.Alone.{filter-all}
use Rattle.line_round_trip.proofs.Led.{IsElement, all-elements, line-leads, line-readable}
use Rattle.line_round_trip.proofs.Letters.{AreReadable, line-written, line_letters}
use Rattle.line_round_trip.proofs.Paths.{path-read, path_of}
use Rattle.line_round_trip.proofs.Symbols.{line-read}
use Rattle.selection_round_trip.proofs.Characters.{chars_encoded}
use Rattle.line_round_trip.proofs.laws.line_law.Goals as goal

small : (steps : List Step) → AreReadable steps → AllByRecursion (λ s. s.number ≤ max_number) steps
small [] h = tt
small (s ∷ steps) h = (h.0.1, small steps h.1)

element-at : (xs : List Element) → AllByRecursion (λ e. IsElement e.node) xs → (e : Element) → Contains xs e → IsElement e.node
element-at xs all e there = subst (λ (x : Element). IsElement x.node) there.2 (at xs all there.0 e there.1)
  where
    at : (xs : List Element) → AllByRecursion (λ e. IsElement e.node) xs → (k : ℕ) (d : Element) → k < length xs → IsElement (get_or xs k d).node
    at [] all k d within = absurd (omega (arith, within))
    at (x ∷ xs) all zero d within = all.0
    at (x ∷ xs) all (suc k) d within = at xs all.1 k d (omega (arith, within))

pub returns : goal.returns
returns c = λ document root e encoded printable few there.
    let placed : node_at root e.place ≡ Some e.node = subst (λ x. node_at root x.place ≡ Some x.node) there.2 (c.places_law.ensures root there.0 e there.1) in
    let m = element-at (elements root) (all-elements [] root) e there in
    let steps = steps_to root e.place in
    let rest = steps_below root e.place in
    let h = line-readable root e printable few placed m in
    let text = element_line document root e in
    let letters = line_letters encoded.0 steps h in
    let written : encode_utf8_all letters ≡ text = line-written c.strings_read.ensures.written encoded.0 document encoded.1 steps h in
    let symbols = line-read c.strings_read.ensures.read c.names_read.ensures c.numbers_read.ensures c.bound_law.ensures encoded.0 document text encoded.1 steps h
    (ap chars (sym written) ∙ chars_encoded letters) in
    record {
      value = path_form (path_of document steps) [];
      read = path-read c.spelled_law.ensures c.depth_law.ensures.path document text (step (name_of root) 1) rest (small steps h) symbols;
      from = refl;
      plain = refl;
      alone = λ satisfies.
          let all : form.Steps = form.steps (form.step true T.Any (form.predicates []) ∷ []) in
          let pairs : AllPairs Before (elements root) =
          subst (AllPairs Before) (c.deep_step_law.ensures satisfies T.Any [] root ∙ filter-all _ (elements root) (λ x. refl)) (c.order_law.ensures.ordered satisfies all root) in
          line-leads c.order_law.ensures.once root pairs satisfies e m placed;
    }
