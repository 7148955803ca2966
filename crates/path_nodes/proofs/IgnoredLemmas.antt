-- What paths from an element lead to, by the marks of what each of them leads to.
use Rattle.std.proofs.Common.{◌≡◌, ◌<◌, ◌+◌, ◌||◌, ◌&&◌, ℕ, Bool, true, false, List, [], ◌∷◌, map, filter, take, length, get_or, refl, sym, ap, ◌∙◌, subst}
use Rattle.std.specs.HashSet.{HashSet}
use Rattle.std.specs.List.{All, list_any}
use Rattle.std.proofs.lemmas.List.{map-append}
use Rattle.std.proofs.lemmas.List.Elements.{All-head, All-tail, All-push}
use Rattle.std.proofs.lemmas.Slice.Eq.{bytes_eq-Decides}
use Rattle.path_grammar.specs.Form as form
use Rattle.path_grammar.specs.View.{step, relative_path}
use Rattle.path_grammar.specs.declared.path.RelativePath.{RelativePath, out-RelativePath}
use Rattle.path_meaning.specs.Elements.{Element, elements, is_same, is_in}
use Rattle.path_meaning.specs.Meaning.{led, led_by_each, ignored}
use Rattle.path_meaning.proofs.Lists as lists
use Rattle.path_meaning.proofs.Lists.{filter-alike, filter-filter}
use Rattle.ordered_tree.specs.Numbered.{Numbered, plain}
use Rattle.ft_base.specs.declared.ids.NodeRef.{NodeRef}
use Rattle.path_nodes.specs.References.{IsElement, element_of}
use Rattle.path_nodes.specs.Says.{Meaning, satisfied}
use Rattle.path_nodes.specs.steps.Marks.{is_marked}
use Rattle.path_nodes.specs.steps.Regions.{at_or_below}
use Rattle.path_nodes.specs.steps.Ways.{AreWays, LeadTo}
use Rattle.path_nodes.specs.steps.Within.{is_prefix, AtOrBelow, IsBelow}
use Rattle.path_nodes.proofs.AskedLemmas.{path-is}
use Rattle.path_nodes.proofs.ChosenLemmas.{of-document}
use Rattle.path_nodes.proofs.ListLemmas.{any-more-of, map-more}
use Rattle.path_nodes.proofs.MemberLemmas.{or-cases}
use Rattle.path_nodes.proofs.PrefixLemmas.{prefix-of, region}

abbrev pub steps_of : RelativePath → form.Steps
steps_of p = form.steps (map step (out-RelativePath p).steps)

-- what each of some paths leads to from an element
abbrev pub led_by : Numbered → Meaning → Element → List RelativePath → List (List Element)
led_by root m e paths = map (λ s. led (satisfied root m) (elements (plain root)) s (e ∷ [])) (map steps_of paths)

pub led-by-each : (root : Numbered) (m : Meaning) (e : Element) (paths : List RelativePath)
    → led_by root m e paths ≡ led_by_each (satisfied root m) (elements (plain root)) (form.paths (map relative_path paths)) e
unfolding led_by_each
led-by-each root m e [] = refl
led-by-each root m e (p ∷ paths) =
    ap (λ s. led (satisfied root m) (elements (plain root)) s (e ∷ []) ∷ led_by root m e paths) (sym (path-is p))
    ∙ ap (λ ls. led (satisfied root m) (elements (plain root)) (relative_path p) (e ∷ []) ∷ ls) (led-by-each root m e paths)

ignored-is : (root : Numbered) (m : Meaning) (e : Element) (paths : form.Paths)
    → filter (is_in (led_by_each (satisfied root m) (elements (plain root)) paths e)) (elements (plain root)) ≡ ignored (satisfied root m) (elements (plain root)) paths e
unfolding ignored led_by_each
ignored-is root m e form.no_paths = lists.filter-none (elements (plain root))
ignored-is root m e (form.path_then p paths) = refl

-- ---- all of it stands at or below the element

in-list : (base x : Element) (l : List Element) → All (AtOrBelow base) l → list_any (is_same x) l ≡ true → AtOrBelow base x
in-list base x [] h is = cc
in-list base x (y ∷ l) h is =
    or-cases (is_same x y) (list_any (is_same x) l) (is_prefix base.place x.place) is
    (λ same. ap (is_prefix base.place) ((bytes_eq-Decides x.place y.place).0 same) ∙ All-head (AtOrBelow base) y l h)
    (in-list base x l (All-tail (AtOrBelow base) y l h))

in-lists : (base x : Element) (ls : List (List Element)) → All (All (AtOrBelow base)) ls → is_in ls x ≡ true → AtOrBelow base x
in-lists base x [] h is = cc
in-lists base x (l ∷ ls) h is =
    or-cases (list_any (is_same x) l) (is_in ls x) (is_prefix base.place x.place) is
    (in-list base x l (All-head (All (AtOrBelow base)) l ls h)) (in-lists base x ls (All-tail (All (AtOrBelow base)) l ls h))

and-inside : (a b : Bool) → (a ≡ true → b ≡ true) → a ≡ (b && a)
and-inside true b f = ap (λ c. c && true) (sym (f refl))
and-inside false true f = refl
and-inside false false f = refl

module _ (root : Numbered) (r : NodeRef) (x : IsElement root r) where
  abbrev base : Element
  base = element_of root r

  within-item : (ls : List (List Element)) → All (All (AtOrBelow base)) ls → filter (is_in ls) (at_or_below base) ≡ filter (is_in ls) (elements (plain root))
  within-item ls h =
      let every = elements (plain root) in
      sym (
      filter-alike (is_in ls) (λ e. is_prefix base.place e.place && is_in ls e) every
      (λ k d within. let y = get_or every k d in and-inside (is_in ls y) (is_prefix base.place y.place) (in-lists base y ls h))
      ∙ sym (filter-filter (λ e. is_prefix base.place e.place) (is_in ls) every)
      ∙ ap (filter (is_in ls)) (region [] (plain root) base (of-document root r x))
      )

  pub all-ignored : (m : Meaning) (paths : List RelativePath) → All (All (AtOrBelow base)) (led_by root m base paths)
      → filter (is_in (led_by root m base paths)) (at_or_below base) ≡ ignored (satisfied root m) (elements (plain root)) (form.paths (map relative_path paths)) base
  all-ignored m paths h =
      within-item (led_by root m base paths) h
      ∙ ap (λ ls. filter (is_in ls) (elements (plain root))) (led-by-each root m base paths)
      ∙ ignored-is root m base (form.paths (map relative_path paths))

-- ---- one more path

-- what is above what was found leads to it
lead-found : {S : Type 0} (root : Numbered) (found : List NodeRef) → All (IsElement root) found → (ways : HashSet ℕ S) → AreWays root ways → All (λ n. is_marked ways n ≡ true) found
    → (r : NodeRef) → IsElement root r → (x : Element) → IsBelow (element_of root r) x → list_any (is_same x) (map (element_of root) found) ≡ true → is_marked ways r ≡ true
lead-found root [] there ways closed marked r y x h is = cc
lead-found root (n ∷ found) there ways closed marked r y x (k, t, at) is =
    or-cases (is_same x (element_of root n)) (list_any (is_same x) (map (element_of root) found)) (is_marked ways r) is
    (λ same. let place = (bytes_eq-Decides x.place (element_of root n).place).0 same in
    closed r n y (All-head (IsElement root) n found there)
    (ap (is_prefix (element_of root r).place) (sym place ∙ at) ∙ prefix-of (element_of root r).place (k ∷ t))
    (All-head (λ q. is_marked ways q ≡ true) n found marked))
    (lead-found root found (All-tail (IsElement root) n found there) ways closed (All-tail (λ q. is_marked ways q ≡ true) n found marked) r y x (k, t, at))

module _ (root : Numbered) (m : Meaning) (e : Element) (paths : List RelativePath) (i : ℕ) (d : RelativePath) (lt : i < length paths) (found : List NodeRef)
    (is : map (element_of root) found ≡ led (satisfied root m) (elements (plain root)) (steps_of (get_or paths i d)) (e ∷ [])) where
  abbrev leads : form.Steps → List Element
  leads s = led (satisfied root m) (elements (plain root)) s (e ∷ [])

  one-more : (x : Element) → is_in (led_by root m e (take (i + 1) paths)) x ≡ (list_any (is_same x) (map (element_of root) found) || is_in (led_by root m e (take i paths)) x)
  one-more x =
      any-more-of steps_of leads (list_any (is_same x)) paths i d lt
      ∙ ap (λ l. list_any (is_same x) l || is_in (led_by root m e (take i paths)) x) (sym is)

  pub marks-more : {S : Type 0} (before after : HashSet ℕ S) → ((r : NodeRef) → IsElement root r → is_marked after r ≡ (list_any (is_same (element_of root r)) (map (element_of root) found) || is_marked before r))
      → ((r : NodeRef) → IsElement root r → is_marked before r ≡ is_in (led_by root m e (take i paths)) (element_of root r))
      → (r : NodeRef) → IsElement root r → is_marked after r ≡ is_in (led_by root m e (take (i + 1) paths)) (element_of root r)
  marks-more before after says were r x =
      let y = element_of root r in
      says r x ∙ ap (λ b. list_any (is_same y) (map (element_of root) found) || b) (were r x) ∙ sym (one-more y)

  pub lead-more : {S : Type 0} (before after : HashSet ℕ S) → All (IsElement root) found → AreWays root after → All (λ n. is_marked after n ≡ true) found
      → ((r : NodeRef) → is_marked before r ≡ true → is_marked after r ≡ true)
      → LeadTo root before (is_in (led_by root m e (take i paths))) → LeadTo root after (is_in (led_by root m e (take (i + 1) paths)))
  lead-more before after there closed marked more lead r y x h some =
      or-cases (list_any (is_same x) (map (element_of root) found)) (is_in (led_by root m e (take i paths)) x) (is_marked after r) (sym (one-more x) ∙ some)
      (lead-found root found there after closed marked r y x h)
      (λ was. more r (lead r y x h was))

  pub inside-more : (base : Element) → All (AtOrBelow base) (leads (steps_of (get_or paths i d))) → All (All (AtOrBelow base)) (led_by root m e (take i paths))
      → All (All (AtOrBelow base)) (led_by root m e (take (i + 1) paths))
  inside-more base one were =
      subst (All (All (AtOrBelow base))) (sym (ap (map leads) (map-more steps_of paths i d lt) ∙ map-append leads (map steps_of (take i paths)) (steps_of (get_or paths i d) ∷ [])))
      (All-push (All (AtOrBelow base)) (led_by root m e (take i paths)) (leads (steps_of (get_or paths i d))) were one)
