-- Where a selection may end, a symbol goes on with it exactly where the machine does.
use Rattle.std.proofs.Common.{◌≡◌, ℕ, Bool, true, false, ◌||◌, ◌&&◌, cond, List, [], ◌∷◌, ◌++◌, Option, Some, None, refl, sym, ◌∙◌, ap}
use Rattle.std.specs.Prelude.{codes}
use Rattle.std.specs.Option.{is_none, is_some}
use Rattle.std.proofs.lemmas.Bool.{not-false, not-true, or_parts}
use Rattle.std.proofs.Math.Bool.{or-false, or_assoc}
use Rattle.ft_base.proofs.Truth.{none_from_test}
use Rattle.ft_base.specs.declared.words.Mode.TheVariants as M
use Rattle.selection_grammar.specs.declared.symbol.Placed.{Placed}
use Rattle.selection_grammar.specs.declared.parsed.PlacedOption.{PlacedOption}
use Rattle.selection_grammar.specs.steps.Machine as m
use Rattle.selection_grammar.specs.steps.Machine.{Left, Frame, Stage, State, next, finished_in, finished_at, selection_at}
use Rattle.selection_grammar.specs.steps.Reading.{first_is}
use Rattle.selection_grammar.specs.Shapes.{Shape, whole, nothing, word, number, text, mark, is_word, is_mark, number_of, text_of, number_leads, text_leads, step}
use Rattle.selection_grammar.specs.Tree.{Primary, phrases}
use Rattle.ft_parser.specs.steps.Ending.{joins, follows_options, follows_mode, follows_name, begins_mode, begins_term, goes_on, ends_in, ends_before}
use Rattle.ft_parser.specs.steps.Parts.{begins_filter, begins_other_filter}
use Rattle.ft_parser.specs.steps.Turns.{begins_range_without_at}

-- whether a symbol leads on along a shape
abbrev takes : {A : Type 0} → Shape A → Placed → Bool
takes (whole a) p = false
takes nothing p = false
takes (word key to rest) p = is_word key p.symbol || takes rest p
takes (number to rest) p = is_some (number_of p.symbol) || takes rest p
takes (text to rest) p = is_some (text_of p.symbol) || takes rest p
takes (mark k to rest) p = is_mark k p.symbol || takes rest p

by_test : {A : Type 0} (b : Bool) (x : A) (o : Option A) → is_some (cond b (Some x) o) ≡ (b || is_some o)
by_test true x o = refl
by_test false x o = refl

by_number : {A : Type 0} (to : ℕ → Shape A) (o : Option (Shape A)) (n : Option ℕ) → is_some (number_leads to o n) ≡ (is_some n || is_some o)
by_number to o None = refl
by_number to o (Some n) = refl

by_text : {A : Type 0} (to : List ℕ → Shape A) (o : Option (Shape A)) (s : Option (List ℕ)) → is_some (text_leads to o s) ≡ (is_some s || is_some o)
by_text to o None = refl
by_text to o (Some s) = refl

leads_takes : {A : Type 0} (t : Shape A) (p : Placed) → is_some (step t p) ≡ takes t p
leads_takes (whole a) p = refl
leads_takes nothing p = refl
leads_takes (word key to rest) p = by_test (is_word key p.symbol) (to p.from) (step rest p) ∙ ap (λ b. is_word key p.symbol || b) (leads_takes rest p)
leads_takes (number to rest) p = by_number to (step rest p) (number_of p.symbol) ∙ ap (λ b. is_some (number_of p.symbol) || b) (leads_takes rest p)
leads_takes (text to rest) p = by_text (to p.from) (step rest p) (text_of p.symbol) ∙ ap (λ b. is_some (text_of p.symbol) || b) (leads_takes rest p)
leads_takes (mark k to rest) p = by_test (is_mark k p.symbol) to (step rest p) ∙ ap (λ b. is_mark k p.symbol || b) (leads_takes rest p)

-- tests one after the other, gathered
three : (a b c r : Bool) → (a || (b || (c || r))) ≡ (a || b || c || r)
three true b c r = refl
three false b c r = sym (or_assoc b c r)

six : (a b c d e f r : Bool) → (a || (b || (c || (d || (e || (f || r)))))) ≡ (a || b || c || d || e || f || r)
six true b c d e f r = refl
six false true c d e f r = refl
six false false true d e f r = refl
six false false false d e f r = three d e f r

seven : (a b c d e f g r : Bool) → (a || (b || (c || (d || (e || (f || (g || r))))))) ≡ (a || b || c || d || e || f || g || r)
seven a b c d e f g r = six a b c d e f (g || r) ∙ sym (or_assoc (a || b || c || d || e || f) g r)

last_three : (a b c d e : Bool) → (a || (b || (c || (d || (e || false))))) ≡ (a || b || (c || d || e))
last_three true b c d e = refl
last_three false true c d e = refl
last_three false false true d e = refl
last_three false false false true e = refl
last_three false false false false true = refl
last_three false false false false false = refl

-- an `at`, which begins levels as well as a filter
at_later : (a b c o r : Bool) → (a || (b || (c || (o || r)))) ≡ ((b || c) || ((o || a) || r))
at_later true true c o r = refl
at_later true false true o r = refl
at_later true false false true r = refl
at_later true false false false r = refl
at_later false true c o r = refl
at_later false false true o r = refl
at_later false false false true r = refl
at_later false false false false r = refl

-- what may stand after whole options, but for filters
abbrev has : List ℕ → Placed → Bool
has key p = is_word key p.symbol

abbrev after_filters : Placed → Bool
after_filters p = has (codes "using") p || (has (codes "ftor") p || (has (codes "ftand") p || (has (codes "not") p || false)))

gathered : (p : Placed) (z : List Placed) → (begins_filter (p ∷ z) || after_filters p) ≡ follows_options (p ∷ z)
gathered p z = last_three (begins_filter (p ∷ z)) (has (codes "using") p) (has (codes "ftor") p) (has (codes "ftand") p) (has (codes "not") p)

options_takes : (left : Left) (n : Option ℕ) (x : Primary) (os : List PlacedOption) (p : Placed) (z : List Placed) → takes (m.options_next [] left n x os) p ≡ follows_options (p ∷ z)
options_takes left n x os p z =
    seven (has (codes "ordered") p) (has (codes "window") p) (has (codes "distance") p) (has (codes "same") p) (has (codes "different") p) (has (codes "entire") p) (has (codes "at") p) (after_filters p) ∙ gathered p z

mode_takes : (left : Left) (n : Option ℕ) (x : Primary) (p : Placed) (z : List Placed) → (has (codes "occurs") p || takes (m.options_next [] left n x []) p) ≡ follows_mode (p ∷ z)
mode_takes left n x p z = ap (λ b. has (codes "occurs") p || b) (options_takes left n x [] p z)

rest_takes : (left : Left) (n : Option ℕ) (x : Primary) (os : List PlacedOption) (i : ℕ) (s : List ℕ) (r : Option (List ℕ)) (p : Placed) (z : List Placed)
    → takes (m.thesaurus_rest [] left n x os i s r) p ≡ (begins_range_without_at (p ∷ z) || follows_options (p ∷ z))
rest_takes left n x os i s r p z =
    ap (λ b. has (codes "at") p || (has (codes "exactly") p || (has (codes "from") p || b)))
    (six (has (codes "ordered") p) (has (codes "window") p) (has (codes "distance") p) (has (codes "same") p) (has (codes "different") p) (has (codes "entire") p) (after_filters p))
    ∙ at_later (has (codes "at") p) (has (codes "exactly") p) (has (codes "from") p) (begins_other_filter (p ∷ z)) (after_filters p)
    ∙ ap (λ b. begins_range_without_at (p ∷ z) || b) (gathered p z)

name_takes : (left : Left) (n : Option ℕ) (x : Primary) (os : List PlacedOption) (i : ℕ) (s : List ℕ) (r : Option (List ℕ)) (p : Placed) (z : List Placed) → takes (m.thesaurus_next [] left n x os i s r) p ≡ follows_name (is_none r) (p ∷ z)
name_takes left n x os i s None p z = ap (λ b. has (codes "relationship") p || b) (rest_takes left n x os i s None p z)
name_takes left n x os i s (Some r) p z = rest_takes left n x os i s (Some r) p z

-- what goes on with none begins no filter
options_filters : (w : List Placed) → follows_options w ≡ false → begins_filter w ≡ false
options_filters w h = (or_parts (begins_filter w) (first_is (codes "using") w) (or_parts (begins_filter w || first_is (codes "using") w) (joins w) h).0).0

mode_filters : (w : List Placed) → follows_mode w ≡ false → begins_filter w ≡ false
mode_filters w h = options_filters w (or_parts (first_is (codes "occurs") w) (follows_options w) h).1

name_ends : (b : Bool) → follows_name b [] ≡ false
name_ends true = refl
name_ends false = refl

name_filters : (b : Bool) (w : List Placed) → follows_name b w ≡ false → begins_filter w ≡ false
name_filters b w h = options_filters w (or_parts (begins_range_without_at w) (follows_options w) (or_parts (b && first_is (codes "relationship") w) (begins_range_without_at w || follows_options w) h).1).1

-- A selection may end there: a symbol goes on with it where it leads on, the end doesn't, and no filter does unless it goes on.
record MayEnd (left : Left) (stage : Stage) : Type 0 where
  pub leads : (p : Placed) (z : List Placed) → takes (m.next_at [] left stage) p ≡ goes_on stage (p ∷ z)
  pub ends : goes_on stage [] ≡ false
  pub filters : (w : List Placed) → goes_on stage w ≡ false → begins_filter w ≡ false

by_stage : (left : Left) (stage : Stage) (C : Type 0) → (selection_at left stage ≡ None → ((w : List Placed) → goes_on stage w ≡ true) → C) → (MayEnd left stage → C) → C
by_stage left (m.wanted n) C partly wholly = partly refl (λ w. refl)
by_stage left (m.in_braces n xs) C partly wholly = partly refl (λ w. refl)
by_stage left (m.valued n xs) C partly wholly = wholly (record {
  leads = λ p z. three (has (codes "any") p) (has (codes "all") p) (has (codes "phrase") p) _ ∙ ap (λ b. begins_mode (p ∷ z) || b) (mode_takes left n (phrases xs M.Any None) p z);
  ends = refl;
  filters = λ w h. mode_filters w (or_parts (begins_mode w) (follows_mode w) h).1;
})
by_stage left (m.any_of n xs) C partly wholly = wholly (record {
  leads = λ p z. ap (λ b. has (codes "word") p || b) (mode_takes left n (phrases xs M.Any None) p z);
  ends = refl;
  filters = λ w h. mode_filters w (or_parts (first_is (codes "word") w) (follows_mode w) h).1;
})
by_stage left (m.all_of n xs) C partly wholly = wholly (record {
  leads = λ p z. ap (λ b. has (codes "words") p || b) (mode_takes left n (phrases xs M.All None) p z);
  ends = refl;
  filters = λ w h. mode_filters w (or_parts (first_is (codes "words") w) (follows_mode w) h).1;
})
by_stage left (m.moded n xs mode) C partly wholly = wholly (record { leads = λ p z. mode_takes left n (phrases xs mode None) p z; ends = refl; filters = mode_filters })
by_stage left (m.given_options n x os) C partly wholly = wholly (record { leads = λ p z. options_takes left n x os p z; ends = refl; filters = options_filters })
by_stage left (m.stop_terms n x os i ts) C partly wholly = wholly (record {
  leads = λ p z. sym (or_assoc (has (codes "union") p) (has (codes "except") p) _) ∙ ap (λ b. begins_term (p ∷ z) || b) (options_takes left n x (os ++ m.stop_option i ts ∷ []) p z);
  ends = refl;
  filters = λ w h. options_filters w (or_parts (begins_term w) (follows_options w) h).1;
})
by_stage left (m.stop_strings n x os i ts except xs) C partly wholly = partly refl (λ w. refl)
by_stage left (m.thesaurus n x os i s r) C partly wholly = wholly (record { leads = λ p z. name_takes left n x os i s r p z; ends = name_ends (is_none r); filters = name_filters (is_none r) })
by_stage left (m.thesaurus_in n x os i us s r) C partly wholly = partly refl (λ w. refl)
by_stage left (m.thesauri_in n x os i us) C partly wholly = partly refl (λ w. refl)
by_stage left (m.with_filter x) C partly wholly = wholly (record {
  leads = λ p z. seven (has (codes "ordered") p) (has (codes "window") p) (has (codes "distance") p) (has (codes "same") p) (has (codes "different") p) (has (codes "entire") p) (has (codes "at") p) false ∙ or-false (begins_filter (p ∷ z));
  ends = refl;
  filters = λ w h. h;
})

-- where it ends before symbols, the first of them leads nowhere and begins no filter
pub record Ends (s : State) (w : List Placed) : Type 0 where
  pub stops : (p : Placed) (z : List Placed) → w ≡ p ∷ z → step (next s) p ≡ None
  pub filters : begins_filter w ≡ false

stage_ends : (left : Left) (stage : Stage) (p : Placed) (z : List Placed) → goes_on stage (p ∷ z) ≡ false → step (m.next_at [] left stage) p ≡ None
stage_ends left stage p z h = by_stage left stage _
    (λ e f. let two : true ≡ false = sym (f (p ∷ z)) ∙ h in cc)
    (λ x. none_from_test (step (m.next_at [] left stage) p) (leads_takes (m.next_at [] left stage) p ∙ x.leads p z ∙ h))

stage_filters : (left : Left) (stage : Stage) (w : List Placed) → goes_on stage w ≡ false → begins_filter w ≡ false
stage_filters left stage w h = by_stage left stage _ (λ e f. let two : true ≡ false = sym (f w) ∙ h in cc) (λ x. x.filters w h)

pub ended : (s : State) (w : List Placed) → ends_before s w ≡ true → Ends s w
unfolding ends_before next
ended s w h = go s.outer refl h
  where
    go : (outer : List Frame) → s.outer ≡ outer → ends_in outer s.stage w ≡ true → Ends s w
    go [] e k = record {
      stops = λ p z j. ap (λ o. step (m.next_at o s.left s.stage) p) e ∙ stage_ends s.left s.stage p z (ap (goes_on s.stage) (sym j) ∙ not-true (goes_on s.stage w) k);
      filters = stage_filters s.left s.stage w (not-true (goes_on s.stage w) k);
    }
    go (frame ∷ outer) e k = cc

-- where it doesn't, and none of them leads anywhere, no selection is whole
stage_part : (left : Left) (stage : Stage) (w : List Placed) → goes_on stage w ≡ true → ((p : Placed) (z : List Placed) → w ≡ p ∷ z → step (m.next_at [] left stage) p ≡ None) → selection_at left stage ≡ None
stage_part left stage w h stops = by_stage left stage _ (λ e f. e) (λ x. absurd (lost x w h stops))
  where
    lost : MayEnd left stage → (w : List Placed) → goes_on stage w ≡ true → ((p : Placed) (z : List Placed) → w ≡ p ∷ z → step (m.next_at [] left stage) p ≡ None) → ⊥
    lost x [] h stops = let two : true ≡ false = sym h ∙ x.ends in cc
    lost x (p ∷ z) h stops = let two : true ≡ false = sym h ∙ sym (x.leads p z) ∙ sym (leads_takes (m.next_at [] left stage) p) ∙ ap is_some (stops p z refl) in cc

pub unended : (s : State) (w : List Placed) → ends_before s w ≡ false → ((p : Placed) (z : List Placed) → w ≡ p ∷ z → step (next s) p ≡ None) → finished_at (whole s) ≡ None
unfolding ends_before next
unended s w h stops = go s.outer refl h
  where
    go : (outer : List Frame) → s.outer ≡ outer → ends_in outer s.stage w ≡ false → finished_in outer (selection_at s.left s.stage) ≡ None
    go [] e k = stage_part s.left s.stage w (not-false (goes_on s.stage w) k) (λ p z j. ap (λ o. step (m.next_at o s.left s.stage) p) (sym e) ∙ stops p z j)
    go (frame ∷ outer) e k = refl
