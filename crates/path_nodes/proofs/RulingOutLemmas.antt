-- What is ruled out in a stretch of words is false there, or leads nowhere, by its parts.
use Rattle.std.proofs.Common.{◌≡◌, ◌≢◌, ◌<◌, ◌≤◌, ℕ, zero, suc, Bool, true, false, ◌&&◌, ◌||◌, List, [], ◌∷◌, map, filter, flat_map, length, get_or, max, refl, sym, ap, ◌∙◌, subst, arith}
use Rattle.std.specs.Prelude.{IsTrue}
use Rattle.std.specs.List.{All, AllPairs, list_any}
use Rattle.std.proofs.lemmas.Bool.{and_right}
use Rattle.std.proofs.lemmas.List.Elements.{All-nil, All-cons, All-head, All-tail, All-map, All-filter, All-weaker}
use Rattle.std.proofs.lemmas.List.Folds.{list_any_none}
use Rattle.ft_base.specs.declared.ids.NodeRef.{NodeRef}
use Rattle.ordered_tree.specs.Numbered.{Numbered, is_element, plain}
use Rattle.ordered_tree.specs.Stands.{references, span}
use Rattle.path_grammar.specs.Form as form
use Rattle.path_grammar.specs.View.{step, predicate, condition}
use Rattle.path_grammar.specs.declared.path.Step as declared
use Rattle.path_grammar.specs.declared.path.Predicate.{Predicate}
use Rattle.path_grammar.specs.declared.path.Condition.{Condition}
use Rattle.path_meaning.specs.Elements.{Element, placed, elements, is_in}
use Rattle.path_meaning.specs.Meaning.{Context, document, item, lists, is_named, some_element, stepped, led, filtered, filtered_by, is_true, some_true, each_true, ignored, selected}
use Rattle.path_nodes.specs.Asked.{MayAsk}
use Rattle.path_nodes.specs.References.{IsElement, spot_reference, element_of}
use Rattle.path_nodes.specs.Says.{Meaning, reference_of, satisfied}
use Rattle.path_nodes.specs.steps.Regions.{at_or_below}
use Rattle.path_nodes.specs.steps.RuledOut.{StandsWithin, HasNone, IsFalse, KeepsNothing, KeepNothing, LeadNowhere}
use Rattle.path_nodes.proofs.AlikeLemmas.{ContextOf, all-lists-of, map-alike}
use Rattle.path_nodes.proofs.AskedLemmas.{step-is}
use Rattle.path_nodes.proofs.ChosenLemmas.{by-of}
use Rattle.path_nodes.proofs.PrefixLemmas.{filter-none}
use Rattle.path_nodes.proofs.MeaningLemmas.{by-none, filtered-none}
use Rattle.path_nodes.proofs.PlaceLemmas.{reference-back}
use Rattle.path_nodes.proofs.SpanLemmas.{below-within, stepped-within, led-within}
use Rattle.path_nodes.proofs.SelectedLemmas.{root-spot, root-among}
use Rattle.path_nodes.proofs.SpotLemmas.{element_of-is, spot-stand}

-- lists without elements have none
in-empty-lists : (lists : List (List Element)) (e : Element) → is_in (map (λ l. []) lists) e ≡ false
in-empty-lists [] e = refl
in-empty-lists (l ∷ lists) e = in-empty-lists lists e

-- what holds of two numbers holds of the greater
pub at-greater : (P : ℕ → Type 0) (a b : ℕ) → P a → P b → P (max a b)
at-greater P zero b first second = subst P (let e : b ≡ max 0 b = omega arith in e) second
at-greater P (suc a) zero first second = subst P (let e : suc a ≡ max (suc a) 0 = omega arith in e) first
at-greater P (suc a) (suc b) first second = subst P (let e : suc (max a b) ≡ max (suc a) (suc b) = omega arith in e) (at-greater (λ n. P (suc n)) a b first second)

module _ (root : Numbered) (m : Meaning) where
  abbrev every : List Element
  every = elements (plain root)

  abbrev sat : ℕ → List Element → Element → Bool
  sat = satisfied root m

  from-nothing : (s : form.Step) → stepped sat every s [] ≡ []
  unfolding stepped
  from-nothing (form.step deep test ps) = filter-none (is_in []) every (λ i d within. refl)

  led-nowhere : (s : form.Steps) → led sat every s [] ≡ []
  unfolding led
  led-nowhere form.no_steps = refl
  led-nowhere (form.step_then s rest) = ap (led sat every rest) (from-nothing s) ∙ led-nowhere rest

  module _ (from : ℕ) where
    -- ---- nothing stands before the first position

    before : (e : Element) → StandsWithin root from 0 e → ⊥
    before e w = let h = w.ends_before in omega (arith, h)

    none-before : (items : List Element) → All (StandsWithin root from 0) items → items ≡ []
    none-before [] h = refl
    none-before (x ∷ xs) h = absurd (before x (All-head (StandsWithin root from 0) x xs h))

    pub nothing-kept-by : (p : form.Predicate) → KeepsNothing root m from 0 p
    nothing-kept-by p = λ items there. ap (filtered_by sat every p) (none-before items there) ∙ by-none sat every p

    pub nothing-kept : (ps : form.Predicates) → KeepNothing root m from 0 ps
    nothing-kept ps = λ items there. ap (filtered sat every ps) (none-before items there) ∙ filtered-none sat every ps

    pub nothing-led : (s : form.Steps) → LeadNowhere root m from 0 s
    nothing-led s = record {
      from_elements = λ items there. ap (led sat every s) (none-before items there) ∙ led-nowhere s;
      from_document = λ w. absurd (before (placed [] (plain root)) w);
    }

    pub shorter-false : (less to : ℕ) (c : form.Condition) → less ≤ to → IsFalse root m from to c → IsFalse root m from less c
    shorter-false less to c l h = λ e w. let high = w.ends_before in h e (record {
      spot = w.spot;
      among = w.among;
      element = w.element;
      is = w.is;
      after = w.after;
      ends_before = omega (arith, high, l);
    })

    module _ (to : ℕ) where
      abbrev Within : Element → Type 0
      Within = StandsWithin root from to

      closed : (e : Element) → Within e → All Within (at_or_below e)
      closed = below-within root from to

      alone : (e : Element) → Within e → All Within (e ∷ [])
      alone e w = All-cons Within e [] w (All-nil Within)

      -- ---- selections and conditions

      pub none-there : AllPairs (λ a b. a ≢ b) (references root) → (k : ℕ) → MayAsk root m k
          → ((r : NodeRef) → IsTrue (m.may_ask k r) → from ≤ (m.span r).from → (m.span r).to ≤ to → m.says k [] r ≡ false) → HasNone root m from to k
      none-there apart k ask none = λ e w.
          let r = spot_reference w.spot in
          let x : IsElement root r = record { spot = w.spot; among = w.among; refers = refl; element = w.element; apart = apart } in
          let may = ask r x in
          let is : m.span r ≡ span w.spot.stand = may.1 w.spot.stand (spot-stand root w.spot w.among) refl in
          let low = w.after in
          let high = w.ends_before in
          let from-is = ap (λ s. s.from) is in
          let to-is = ap (λ s. s.to) is in
          let named : element_of root r ≡ e = element_of-is root w.spot w.among apart ∙ w.is in
          ap (λ y. m.says k [] (reference_of root y)) (sym named) ∙ ap (m.says k []) (reference-back root r x)
          ∙ none r may.0 (omega (arith, low, from-is)) (omega (arith, high, to-is))

      pub contains-none : (s : form.Steps) (k : ℕ) → HasNone root m from to k → IsFalse root m from to (form.contains s k form.no_paths)
      unfolding is_true ignored
      contains-none s k none = λ e w.
          let found = led sat every s (e ∷ []) in
          let there = led-within root from to sat s (e ∷ []) (alone e w) in
          list_any_none (sat k []) found (λ j d within. none (get_or found j d) (there j d within))

      pub contains-nowhere : (s : form.Steps) (k : ℕ) (paths : form.Paths) → LeadNowhere root m from to s → IsFalse root m from to (form.contains s k paths)
      unfolding is_true
      contains-nowhere s k paths h = λ e w. ap (list_any (sat k (ignored sat every paths e))) (h.from_elements (e ∷ []) (alone e w))

      pub exists-nowhere : (s : form.Steps) → LeadNowhere root m from to s → IsFalse root m from to (form.exists s)
      unfolding is_true
      exists-nowhere s h = λ e w. ap some_element (h.from_elements (e ∷ []) (alone e w))

      or-more : (c : form.Condition) (cs : form.Conditions) → IsFalse root m from to c → IsFalse root m from to (form.or_of cs) → IsFalse root m from to (form.or_of (form.condition_then c cs))
      unfolding is_true some_true
      or-more c cs first rest = λ e w. ap (λ b. b || some_true sat every cs e) (first e w) ∙ rest e w

      pub or-all : (xs : List Condition) → All (λ c. IsFalse root m from to (condition c)) xs → IsFalse root m from to (form.or_of (form.conditions (map condition xs)))
      unfolding is_true some_true
      or-all [] h = λ e w. refl
      or-all (x ∷ xs) h =
          or-more (condition x) (form.conditions (map condition xs)) (All-head (λ c. IsFalse root m from to (condition c)) x xs h)
          (or-all xs (All-tail (λ c. IsFalse root m from to (condition c)) x xs h))

      and-first : (c : form.Condition) (cs : form.Conditions) → IsFalse root m from to c → IsFalse root m from to (form.and_of (form.condition_then c cs))
      unfolding is_true each_true
      and-first c cs first = λ e w. ap (λ b. b && each_true sat every cs e) (first e w)

      and-more : (c : form.Condition) (cs : form.Conditions) → IsFalse root m from to (form.and_of cs) → IsFalse root m from to (form.and_of (form.condition_then c cs))
      unfolding is_true each_true
      and-more c cs rest = λ e w. and_right (is_true sat every c e) (each_true sat every cs e) (rest e w)

      pub and-one : (xs : List Condition) (i : ℕ) (d : Condition) → i < length xs → IsFalse root m from to (condition (get_or xs i d)) → IsFalse root m from to (form.and_of (form.conditions (map condition xs)))
      and-one [] i d lt h = absurd (omega (arith, lt))
      and-one (x ∷ xs) zero d lt h = and-first (condition x) (form.conditions (map condition xs)) h
      and-one (x ∷ xs) (suc i) d lt h = and-more (condition x) (form.conditions (map condition xs)) (and-one xs i d (omega (arith, lt)) h)

      -- ---- predicates

      pub keeps-nothing : (c : form.Condition) → IsFalse root m from to c → KeepsNothing root m from to (form.holds c)
      unfolding filtered_by
      keeps-nothing c false-there = λ items there. filter-none (is_true sat every c) items (λ i d within. false-there (get_or items i d) (there i d within))

      keep-first : (p : form.Predicate) (ps : form.Predicates) → KeepsNothing root m from to p → KeepNothing root m from to (form.predicate_then p ps)
      unfolding filtered
      keep-first p ps h = λ items there. ap (filtered sat every ps) (h items there) ∙ filtered-none sat every ps

      keep-more : (p : form.Predicate) (ps : form.Predicates) → KeepNothing root m from to ps → KeepNothing root m from to (form.predicate_then p ps)
      unfolding filtered
      keep-more p ps h = λ items there. h (filtered_by sat every p items) (by-of sat every Within p items there)

      pub keep-one : (xs : List Predicate) (i : ℕ) (d : Predicate) → i < length xs → KeepsNothing root m from to (predicate (get_or xs i d)) → KeepNothing root m from to (form.predicates (map predicate xs))
      keep-one [] i d lt h = absurd (omega (arith, lt))
      keep-one (x ∷ xs) zero d lt h = keep-first (predicate x) (form.predicates (map predicate xs)) h
      keep-one (x ∷ xs) (suc i) d lt h = keep-more (predicate x) (form.predicates (map predicate xs)) (keep-one xs i d (omega (arith, lt)) h)

      -- ---- steps

      step-nowhere : (deep : Bool) (test : _) (ps : form.Predicates) → KeepNothing root m from to ps → (cs : List Context) → All (ContextOf Within) cs
          → stepped sat every (form.step deep test ps) cs ≡ []
      unfolding stepped
      step-nowhere deep test ps h cs there =
          let name : Element → Bool = λ e. is_named test e.node in
          let made = flat_map (lists deep) cs in
          let kept : List Element → List Element = λ items. filtered sat every ps (filter name items) in
          let empty = map-alike kept (λ l. []) made
          (All-weaker (All Within) (λ l. kept l ≡ []) (λ l within. h (filter name l) (All-filter name Within l within)) made (all-lists-of Within closed deep cs there)) in
          ap (λ ls. filter (is_in ls) every) empty ∙ filter-none (is_in (map (λ l. []) made)) every (λ i d within. in-empty-lists made (get_or every i d))

      of-document : Within (placed [] (plain root)) → All (ContextOf Within) (document (plain root) ∷ [])
      of-document w = All-cons (ContextOf Within) (document (plain root)) [] (closed (placed [] (plain root)) w) (All-nil (ContextOf Within))

      steps-first : (deep : Bool) (test : _) (ps : form.Predicates) (rest : form.Steps) → KeepNothing root m from to ps → LeadNowhere root m from to (form.step_then (form.step deep test ps) rest)
      unfolding led selected
      steps-first deep test ps rest h = record {
        from_elements = λ items there.
            ap (led sat every rest) (step-nowhere deep test ps h (map item items) (All-map (ContextOf Within) item items there)) ∙ led-nowhere rest;
        from_document = λ w. ap (led sat every rest) (step-nowhere deep test ps h (document (plain root) ∷ []) (of-document w)) ∙ led-nowhere rest;
      }

      steps-more : (s : form.Step) (rest : form.Steps) → LeadNowhere root m from to rest → LeadNowhere root m from to (form.step_then s rest)
      unfolding led selected
      steps-more s rest h = record {
        from_elements = λ items there.
            h.from_elements (stepped sat every s (map item items)) (stepped-within root from to sat s (map item items) (All-map (ContextOf Within) item items there));
        from_document = λ w.
            h.from_elements (stepped sat every s (document (plain root) ∷ [])) (stepped-within root from to sat s (document (plain root) ∷ []) (of-document w));
      }

      pub steps-one : (xs : List declared.Step) (i : ℕ) (d : declared.Step) → i < length xs → KeepNothing root m from to (form.predicates (map predicate (get_or xs i d).predicates))
          → LeadNowhere root m from to (form.steps (map step xs))
      steps-one [] i d lt h = absurd (omega (arith, lt))
      steps-one (x ∷ xs) zero d lt h = rw (step-is x) (steps-first x.deep x.test (form.predicates (map predicate x.predicates)) (form.steps (map step xs)) h)
      steps-one (x ∷ xs) (suc i) d lt h = steps-more (step x) (form.steps (map step xs)) (steps-one xs i d (omega (arith, lt)) h)

-- the root's words are all that there are
pub root-within : (root : Numbered) (to : ℕ) → is_element root ≡ true → (span (root-spot root).stand).to ≤ to → StandsWithin root 1 to (placed [] (plain root))
root-within root to element less = record {
  spot = root-spot root;
  among = root-among root;
  element = element;
  is = refl;
  after = omega arith;
  ends_before = less;
}
