-- What steps lead to depends on what is said of the elements of the document alone.
use Rattle.std.proofs.Common.{◌≡◌, ◌+◌, ℕ, Bool, true, false, not, ◌||◌, ◌&&◌, List, [], ◌∷◌, ◌++◌, map, filter, flat_map, get_or, refl, ap, ◌∙◌, subst, arith}
use Rattle.std.specs.List.{All, Contains, list_any}
use Rattle.std.proofs.lemmas.List.Elements.{All-nil, All-cons, All-head, All-tail, All-append, All-map, All-filter, All-weaker, All-contains, All-contains_itself, Contains-append_right}
use Rattle.plain_tree.specs.Document.{Node, element, text, Nodes, no_nodes, node_then}
use Rattle.path_meaning.specs.Elements as el
use Rattle.path_meaning.specs.Elements.{Element, placed, elements_from, elements_below, elements_among, element_children, elements, kids_of, is_in}
use Rattle.path_grammar.specs.Form as form
use Rattle.path_grammar.specs.Form.{Step, step, Steps, no_steps, step_then, Predicate, holds, Predicates, no_predicates, predicate_then, Condition, or_of, and_of, not_of, attribute, exists, contains, Conditions, no_conditions, condition_then}
use Rattle.path_grammar.specs.Form.{Paths, no_paths, path_then}
use Rattle.path_meaning.specs.Meaning.{Context, document, item, children, with_descendants, lists, is_named, some_element, stepped, led, filtered, filtered_by, is_true, some_true, each_true, ignored, led_by_each, selected}
use Rattle.path_meaning.proofs.Lists.{filter-alike, list_any-alike}
use Rattle.path_nodes.specs.steps.Regions.{at_or_below}
use Rattle.path_nodes.specs.steps.Within.{is_prefix}
use Rattle.path_nodes.proofs.ChosenLemmas.{by-of}
use Rattle.path_nodes.proofs.PrefixLemmas.{region}
use Rattle.path_nodes.proofs.SpotLemmas.{Contains-cons}

-- ---- the lists of a step have elements of the document alone

abbrev pub In : Node → Element → Type 0
In root = Contains (elements root)

pub region-in : (root : Node) (e : Element) → In root e → All (In root) (at_or_below e)
region-in root e there =
    subst (All (In root)) (region [] root e there) (All-filter (λ x. is_prefix e.place x.place) (In root) (elements root) (All-contains_itself (elements root)))

among-below : (above : List ℕ) (number : ℕ) (ns : Nodes) → All (Contains (elements_below above number ns)) (elements_among above number ns)
among-below above number no_nodes = All-nil (Contains [])
among-below above number (node_then (element name attributes kids) ns) =
    let place = above ++ number ∷ [] in
    let first = elements_from place (element name attributes kids) in
    let rest = elements_below above (number + 1) ns in
    All-cons (Contains (first ++ rest)) (placed place (element name attributes kids)) (elements_among above (number + 1) ns) (0, omega arith, refl)
    (λ k d within. Contains-append_right first rest (get_or (elements_among above (number + 1) ns) k d) (among-below above (number + 1) ns k d within))
among-below above number (node_then (text bytes) ns) = among-below above (number + 1) ns

pub children-from : (place : List ℕ) (n : Node) → All (Contains (elements_from place n)) (elements_among place 1 (kids_of n))
children-from place (element name attributes kids) = λ k d within.
    Contains-cons (placed place (element name attributes kids)) (elements_below place 1 kids) (get_or (elements_among place 1 kids) k d) (among-below place 1 kids k d within)
children-from place (text bytes) = All-nil (Contains [])

-- what is below one of the elements, and what a context offers, where something holds of all that is below an element of which it holds
abbrev pub ContextOf : (Element → Type 0) → Context → Type 0
ContextOf P (document n) = All P (elements n)
ContextOf P (item e) = P e

module _ (P : Element → Type 0) (closed : (e : Element) → P e → All P (at_or_below e)) where
  pub children-of : (e : Element) → P e → All P (element_children e)
  children-of e there = λ k d within.
      All-contains P (at_or_below e) (get_or (element_children e) k d) (closed e there) (children-from e.place e.node k d within)

  root-of : (n : Node) → All P (elements n) → All P (el.element_at [] n)
  root-of (element name attributes kids) h =
      let e = placed [] (element name attributes kids) in All-cons P e [] (All-head P e (elements_below [] 1 kids) h) (All-nil P)
  root-of (text bytes) h = All-nil P

  offered-of : (c : Context) → ContextOf P c → All P (children c)
  offered-of (document n) h = root-of n h
  offered-of (item e) there = children-of e there

  contexts-of : (c : Context) → ContextOf P c → All (ContextOf P) (with_descendants c)
  contexts-of (document n) h = All-cons (ContextOf P) (document n) (map item (elements n)) h (All-map (ContextOf P) item (elements n) h)
  contexts-of (item e) there = All-map (ContextOf P) item (at_or_below e) (closed e there)

  lists-of : (deep : Bool) (c : Context) → ContextOf P c → All (All P) (lists deep c)
  lists-of true c h =
      All-map (All P) children (with_descendants c) (All-weaker (ContextOf P) (λ x. All P (children x)) offered-of (with_descendants c) (contexts-of c h))
  lists-of false c h = All-cons (All P) (children c) [] (offered-of c h) (All-nil (All P))

  pub all-lists-of : (deep : Bool) (cs : List Context) → All (ContextOf P) cs → All (All P) (flat_map (lists deep) cs)
  all-lists-of deep [] h = All-nil (All P)
  all-lists-of deep (c ∷ cs) h =
      All-append (All P) (lists deep c) (flat_map (lists deep) cs) (lists-of deep c (All-head (ContextOf P) c cs h)) (all-lists-of deep cs (All-tail (ContextOf P) c cs h))

pub children-in : (root : Node) (e : Element) → In root e → All (In root) (element_children e)
children-in root = children-of (In root) (region-in root)

abbrev pub ContextIn : Node → Context → Type 0
ContextIn root = ContextOf (In root)

pub all-lists-in : (root : Node) (deep : Bool) (cs : List Context) → All (ContextIn root) cs → All (All (In root)) (flat_map (lists deep) cs)
all-lists-in root = all-lists-of (In root) (region-in root)

pub map-alike : (f g : List Element → List Element) (ls : List (List Element)) → All (λ l. f l ≡ g l) ls → map f ls ≡ map g ls
map-alike f g [] same = refl
map-alike f g (l ∷ ls) same = ap (λ x. x ∷ map f ls) (All-head (λ l. f l ≡ g l) l ls same) ∙ ap (λ x. g l ∷ x) (map-alike f g ls (All-tail (λ l. f l ≡ g l) l ls same))

-- ---- what two answers that are alike for these elements lead to

-- the same is said of an element, whichever elements of the document are ignored
abbrev pub SayAlike : (ℕ → List Element → Element → Bool) → (ℕ → List Element → Element → Bool) → Node → Element → Type 0
SayAlike f g root e = (k : ℕ) (without : List Element) → All (In root) without → f k without e ≡ g k without e

module _ (f g : ℕ → List Element → Element → Bool) (root : Node) (same : All (SayAlike f g root) (elements root)) where
  pub stepped-in : (s : Step) (cs : List Context) → All (In root) (stepped g (elements root) s cs)
  unfolding stepped
  stepped-in (step deep test ps) cs =
      All-filter (is_in (map (λ items. filtered g (elements root) ps (filter (λ e. is_named test e.node) items)) (flat_map (lists deep) cs))) (In root) (elements root) (All-contains_itself (elements root))

  pub led-in : (s : Steps) (items : List Element) → All (In root) items → All (In root) (led g (elements root) s items)
  unfolding led
  led-in no_steps items h = h
  led-in (step_then s rest) items h = led-in rest (stepped g (elements root) s (map item items)) (stepped-in s (map item items))

  ignored-in : (paths : Paths) (e : Element) → All (In root) (ignored g (elements root) paths e)
  unfolding ignored
  ignored-in no_paths e = All-nil (In root)
  ignored-in (path_then path rest) e =
      All-filter (is_in (led g (elements root) path (e ∷ []) ∷ led_by_each g (elements root) rest e)) (In root) (elements root) (All-contains_itself (elements root))

  pub one : (e : Element) → In root e → All (In root) (e ∷ [])
  one e there = All-cons (In root) e [] there (All-nil (In root))

  mutual
    unfolding stepped led filtered filtered_by is_true some_true each_true ignored led_by_each

    pub stepped-alike : (s : Step) (cs : List Context) → All (ContextIn root) cs → stepped f (elements root) s cs ≡ stepped g (elements root) s cs
    stepped-alike (step deep test ps) cs h =
        let name : Element → Bool = λ e. is_named test e.node in
        ap (λ ls. filter (is_in ls) (elements root))
        (map-alike (λ items. filtered f (elements root) ps (filter name items)) (λ items. filtered g (elements root) ps (filter name items)) (flat_map (lists deep) cs)
        (All-weaker (All (In root)) (λ l. filtered f (elements root) ps (filter name l) ≡ filtered g (elements root) ps (filter name l))
        (λ l there. filtered-alike ps (filter name l) (All-filter name (In root) l there)) (flat_map (lists deep) cs) (all-lists-in root deep cs h)))

    pub led-alike : (s : Steps) (items : List Element) → All (In root) items → led f (elements root) s items ≡ led g (elements root) s items
    led-alike no_steps items h = refl
    led-alike (step_then s rest) items h =
        ap (led f (elements root) rest) (stepped-alike s (map item items) (All-map (ContextIn root) item items h))
        ∙ led-alike rest (stepped g (elements root) s (map item items)) (stepped-in s (map item items))

    filtered-alike : (ps : Predicates) (items : List Element) → All (In root) items → filtered f (elements root) ps items ≡ filtered g (elements root) ps items
    filtered-alike no_predicates items h = refl
    filtered-alike (predicate_then p ps) items h =
        ap (filtered f (elements root) ps) (by-alike p items h) ∙ filtered-alike ps (filtered_by g (elements root) p items) (by-of g (elements root) (In root) p items h)

    pub by-alike : (p : Predicate) (items : List Element) → All (In root) items → filtered_by f (elements root) p items ≡ filtered_by g (elements root) p items
    by-alike (form.number k) items h = refl
    by-alike (holds c) items h = filter-alike (is_true f (elements root) c) (is_true g (elements root) c) items (λ k d within. true-alike c (get_or items k d) (h k d within))

    true-alike : (c : Condition) (e : Element) → In root e → is_true f (elements root) c e ≡ is_true g (elements root) c e
    true-alike (or_of cs) e there = some-alike cs e there
    true-alike (and_of cs) e there = each-alike cs e there
    true-alike (not_of c) e there = ap not (true-alike c e there)
    true-alike (attribute name value) e there = refl
    true-alike (exists s) e there = ap some_element (led-alike s (e ∷ []) (one e there))
    true-alike (contains s selection paths) e there =
        let found = led g (elements root) s (e ∷ []) in
        let without = ignored g (elements root) paths e in
        ap (λ l. list_any (f selection l) (led f (elements root) s (e ∷ []))) (ignored-alike paths e there)
        ∙ ap (list_any (f selection without)) (led-alike s (e ∷ []) (one e there))
        ∙ list_any-alike (f selection without) (g selection without) found
        (λ i d within. All-contains (SayAlike f g root) (elements root) (get_or found i d) same (led-in s (e ∷ []) (one e there) i d within) selection without (ignored-in paths e))

    ignored-alike : (paths : Paths) (e : Element) → In root e → ignored f (elements root) paths e ≡ ignored g (elements root) paths e
    ignored-alike no_paths e there = refl
    ignored-alike (path_then path rest) e there =
        ap (λ l. filter (is_in (l ∷ led_by_each f (elements root) rest e)) (elements root)) (led-alike path (e ∷ []) (one e there))
        ∙ ap (λ ls. filter (is_in (led g (elements root) path (e ∷ []) ∷ ls)) (elements root)) (led-each-alike rest e there)

    led-each-alike : (paths : Paths) (e : Element) → In root e → led_by_each f (elements root) paths e ≡ led_by_each g (elements root) paths e
    led-each-alike no_paths e there = refl
    led-each-alike (path_then path rest) e there =
        ap (λ l. l ∷ led_by_each f (elements root) rest e) (led-alike path (e ∷ []) (one e there))
        ∙ ap (λ ls. led g (elements root) path (e ∷ []) ∷ ls) (led-each-alike rest e there)

    some-alike : (cs : Conditions) (e : Element) → In root e → some_true f (elements root) cs e ≡ some_true g (elements root) cs e
    some-alike no_conditions e there = refl
    some-alike (condition_then c cs) e there = ap (λ b. b || some_true f (elements root) cs e) (true-alike c e there) ∙ ap (λ b. is_true g (elements root) c e || b) (some-alike cs e there)

    each-alike : (cs : Conditions) (e : Element) → In root e → each_true f (elements root) cs e ≡ each_true g (elements root) cs e
    each-alike no_conditions e there = refl
    each-alike (condition_then c cs) e there = ap (λ b. b && each_true f (elements root) cs e) (true-alike c e there) ∙ ap (λ b. is_true g (elements root) c e && b) (each-alike cs e there)

  pub selected-alike : (s : Steps) → selected f s root ≡ selected g s root
  unfolding selected
  selected-alike no_steps = refl
  selected-alike (step_then first rest) =
      ap (led f (elements root) rest) (stepped-alike first (document root ∷ []) (All-cons (ContextIn root) (document root) [] (All-contains_itself (elements root)) (All-nil (ContextIn root))))
      ∙ led-alike rest (stepped g (elements root) first (document root ∷ [])) (stepped-in first (document root ∷ []))
