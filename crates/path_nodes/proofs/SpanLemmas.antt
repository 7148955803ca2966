-- Where the words of elements stand: those of what is below an element among its own.
use Rattle.std.proofs.Common.{◌≡◌, ◌+◌, ◌≤◌, ℕ, Bool, true, List, [], ◌∷◌, ◌++◌, map, filter, flat_map, get_or, sym, ap, ◌∙◌, subst, arith}
use Rattle.std.specs.List.{All, Contains, list_any}
use Rattle.std.proofs.lemmas.List.Elements.{All-nil, All-cons, All-append, All-map, All-filter, All-weaker, All-contains, filter_passes}
use Rattle.std.proofs.lemmas.List.Folds.{Any-from_list_any}
use Rattle.std.proofs.lemmas.Slice.Eq.{bytes_eq-Decides}
use Rattle.ordered_tree.specs.Counts.{word_count, word_counts}
use Rattle.ordered_tree.specs.Numbered.{Numbered, element_at, text_at, Children, no_children, child_then, plain, plain_children, first_of}
use Rattle.ordered_tree.specs.Stands.{round_root, round_first, round_next}
use Rattle.ordered_tree.specs.declared.around.Around.{Around}
use Rattle.path_grammar.specs.Form as form
use Rattle.path_meaning.specs.Elements.{Element, placed, elements, is_same, is_in}
use Rattle.path_meaning.specs.Meaning.{Context, item, lists, is_named, stepped, led, filtered}
use Rattle.path_nodes.specs.References.{Spot, spots, child_spots, spots_in, spot_element}
use Rattle.path_nodes.specs.steps.Regions.{at_or_below}
use Rattle.path_nodes.specs.steps.RuledOut.{StandsWithin}
use Rattle.path_nodes.proofs.AboveLemmas.{top}
use Rattle.path_nodes.proofs.AlikeLemmas.{ContextOf, all-lists-of}
use Rattle.path_nodes.proofs.ChosenLemmas.{filtered-of}
use Rattle.path_nodes.proofs.NamedLemmas.{Has, has-from}
use Rattle.path_nodes.proofs.PlaceLemmas.{one-place}
use Rattle.path_nodes.proofs.SpotLemmas.{inside}

-- the words of a node stand after so many words and among the first so many
abbrev WordsIn : ℕ → ℕ → Spot → Type 0
WordsIn before most t = (before ≤ t.stand.around.before) × (t.stand.around.before + word_count (plain t.stand.node) ≤ most)

wider-words : (before most less more : ℕ) → less ≤ before → most ≤ more → (xs : List Spot) → All (WordsIn before most) xs → All (WordsIn less more) xs
wider-words before most less more l m xs = All-weaker (WordsIn before most) (WordsIn less more) (λ t h. (omega (arith, h.0, l), omega (arith, h.1, m))) xs

mutual
  unfolding spots child_spots

  words-from : (place : List ℕ) (a : Around) (n : Numbered) → All (WordsIn a.before (a.before + word_count (plain n))) (spots place a n)
  words-from place a (element_at r name attrs kids) =
      let n = element_at r name attrs kids in
      All-cons (WordsIn a.before (a.before + word_count (plain n))) (top place a n) (child_spots place 1 (round_first a.before r) kids)
      (omega arith, omega arith) (words-below place 1 (round_first a.before r) kids)
  words-from place a (text_at r bytes) =
      let n = text_at r bytes in
      let P = WordsIn a.before (a.before + word_count (plain n)) in
      All-cons P (top place a n) [] (omega arith, omega arith) (All-nil P)

  words-below : (above : List ℕ) (number : ℕ) (a : Around) (ns : Children) → All (WordsIn a.before (a.before + word_counts (plain_children ns))) (child_spots above number a ns)
  words-below above number a no_children = All-nil (WordsIn a.before (a.before + 0))
  words-below above number a (child_then n ns) =
      let first : List Spot = spots (above ++ number ∷ []) (record a { next = first_of ns }) n in
      let rest : List Spot = child_spots above (number + 1) (round_next a n) ns in
      let words = word_count (plain n) in
      let most = a.before + (words + word_counts (plain_children ns)) in
      All-append (WordsIn a.before most) first rest
      (wider-words a.before (a.before + words) a.before most (omega arith) (omega arith) first (words-from (above ++ number ∷ []) (record a { next = first_of ns }) n))
      (wider-words (a.before + words) (a.before + words + word_counts (plain_children ns)) a.before most (omega arith) (omega arith) rest (words-below above (number + 1) (round_next a n) ns))

-- ---- elements whose words stand in a stretch

module _ (root : Numbered) (from to : ℕ) where
  abbrev Within : Element → Type 0
  Within = StandsWithin root from to

  pub below-within : (e : Element) → Within e → All Within (at_or_below e)
  below-within e w =
      let s = w.spot in
      let mine = spots s.place s.stand.around s.stand.node in
      subst (λ x. All Within (at_or_below x)) w.is
      (λ k d within.
      let h = has-from s.place s.stand.around s.stand.node k d within in
      let at = All-contains (WordsIn s.stand.around.before (s.stand.around.before + word_count (plain s.stand.node))) mine h.0 (words-from s.place s.stand.around s.stand.node) h.1 in
      let low = w.after in
      let high = w.ends_before in
      record {
        spot = h.0;
        among = All-contains (Contains (spots_in root)) mine h.0 (inside root s w.among) h.1;
        element = h.2;
        is = h.3;
        after = omega (arith, low, at.0);
        ends_before = omega (arith, high, at.1);
      })

  -- an element at the place of one of them is that one
  same-within : (e : Element) → Has (spots_in root) e → (f : Element) → Within f → is_same e f ≡ true → Within e
  same-within e h f w same =
      let s = h.0 in
      let t = w.spot in
      let place : s.place ≡ t.place = ap (λ x. x.place) h.3 ∙ (bytes_eq-Decides e.place f.place).0 same ∙ sym (ap (λ x. x.place) w.is) in
      let node = one-place root s t h.1 w.among place in
      let one : spot_element s ≡ spot_element t = ap (λ p. placed p (plain s.stand.node)) place ∙ ap (λ n. placed t.place (plain n)) node in
      subst Within (sym w.is ∙ sym one ∙ h.3) w

  in-lists : (e : Element) → Has (spots_in root) e → (ls : List (List Element)) → All (All Within) ls → is_in ls e ≡ true → Within e
  in-lists e h ls all is =
      let a = Any-from_list_any (list_any (is_same e)) ls is in
      let mine = All-contains (All Within) ls a.1 all (a.0, a.2, a.3) in
      let b = Any-from_list_any (is_same e) a.1 a.4 in
      same-within e h b.1 (All-contains Within a.1 b.1 mine (b.0, b.2, b.3)) b.4

  -- ---- what steps lead to from them is among them

  module _ (sat : ℕ → List Element → Element → Bool) where
    abbrev every : List Element
    every = elements (plain root)

    pub stepped-within : (s : form.Step) (cs : List Context) → All (ContextOf Within) cs → All Within (stepped sat every s cs)
    unfolding stepped
    stepped-within (form.step deep test ps) cs there = λ k d within.
        let name : Element → Bool = λ e. is_named test e.node in
        let lists-made = flat_map (lists deep) cs in
        let kept : List Element → List Element = λ items. filtered sat every ps (filter name items) in
        let made = map kept lists-made in
        let found = filter (is_in made) every in
        let all : All (All Within) made =
        All-map (All Within) kept lists-made
        (All-weaker (All Within) (λ l. All Within (kept l)) (λ l h. filtered-of sat every Within ps (filter name l) (All-filter name Within l h)) lists-made (all-lists-of Within below-within deep cs there)) in
        in-lists (get_or found k d) (All-filter (is_in made) (Has (spots_in root)) every (has-from [] round_root root) k d within) made all (filter_passes (is_in made) every k d within)

    pub led-within : (s : form.Steps) (items : List Element) → All Within items → All Within (led sat every s items)
    unfolding led
    led-within form.no_steps items h = h
    led-within (form.step_then s rest) items h =
        led-within rest (stepped sat every s (map item items)) (stepped-within s (map item items) (All-map (ContextOf Within) item items h))
