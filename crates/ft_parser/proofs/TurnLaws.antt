-- Each step of the reader goes as far along what may stand next as the symbols do.
use Rattle.std.proofs.Common.{◌≡◌, ℕ, ◌+◌, Bool, true, false, ◌||◌, cond, List, [], ◌∷◌, ◌++◌, drop, Option, Some, None, Result, Ok, Err, refl, sym, ◌∙◌, ap}
use Rattle.std.specs.Prelude.{codes}
use Rattle.ft_base.specs.declared.filter.Filter.{Filter}
use Rattle.ft_base.specs.declared.filter.Filter.TheVariants as F
use Rattle.ft_base.specs.declared.range.Range.{Range}
use Rattle.ft_base.specs.declared.range.Range.TheVariants as R
use Rattle.ft_base.specs.declared.words.Mode.{Mode}
use Rattle.ft_base.specs.declared.words.Mode.TheVariants as M
use Rattle.ft_base.specs.declared.options.ThesaurusUse.{ThesaurusUse}
use Rattle.selection_grammar.specs.declared.symbol.Placed.{Placed}
use Rattle.selection_grammar.specs.declared.parsed.PlacedString.{PlacedString}
use Rattle.selection_grammar.specs.declared.parsed.PlacedOption.{PlacedOption}
use Rattle.selection_grammar.specs.declared.parsed.PlacedTimes.{PlacedTimes}
use Rattle.selection_grammar.specs.Shapes.{Shape, whole, word, is_word, or_else, and_then}
use Rattle.selection_grammar.specs.Keywords.{key, unit, range, one_number, two_bounds, bound, side, scope, distance, window, filters, filters_without_at, plain_option}
use Rattle.selection_grammar.specs.Tree.{Primary, phrases}
use Rattle.selection_grammar.specs.steps.Machine as m
use Rattle.selection_grammar.specs.steps.Machine.{Left, Frame, Stage, State, next, selection_with, operand_of, filtered_state, thesaurus_ended, thesaurus_selection}
use Rattle.selection_grammar.specs.steps.Reading.{reading, further, first_is, first_place, first_number}
use Rattle.selection_grammar.proofs.Words.{word_is}
use Rattle.selection_grammar.proofs.Readings.{reading-and_then, same_further, same_number, same_cond}
use Rattle.ft_parser.specs.steps.Parts.{times_reading, distance_reading, window_reading, other_filter_reading, filter_reading, begins_filter, begins_other_filter}
use Rattle.ft_parser.specs.steps.Turns.{Turn, stands, using_turn, unfiltered_turn, options_turn, moded_turn, levels_turn, with_levels, after_at_turn, after_thesaurus_turn, thesaurus_rest_turn, thesaurus_in_rest_turn, in_levels, thesaurus_in_turn, thesaurus_turn, valued_turn, any_of_turn, all_of_turn, stop_terms_turn, with_filter_turn, state_turn, stage_turn}

-- tests one after the other, gathered
six : {A B : Type 0} (f : A → B) (a b c d e g : Bool) (x y z u v w end : A) (rest : B) → cond a (f x) (cond b (f y) (cond c (f z) (cond d (f u) (cond e (f v) (cond g (f w) rest))))) ≡ cond (a || b || c || d || e || g) (f (cond a x (cond b y (cond c z (cond d u (cond e v (cond g w end))))))) rest
six f true b c d e g x y z u v w end rest = refl
six f false true c d e g x y z u v w end rest = refl
six f false false true d e g x y z u v w end rest = refl
six f false false false true e g x y z u v w end rest = refl
six f false false false false true g x y z u v w end rest = refl
six f false false false false false true x y z u v w end rest = refl
six f false false false false false false x y z u v w end rest = refl

two : {A B : Type 0} (f : A → B) (a b : Bool) (x y end : A) (rest : B) → cond a (f x) (cond b (f y) rest) ≡ cond (a || b) (f (cond a x (cond b y end))) rest
two f true b x y end rest = refl
two f false true x y end rest = refl
two f false false x y end rest = refl

three : {A B : Type 0} (f : A → B) (a b c : Bool) (x y z end : A) (rest : B) → cond a (f x) (cond b (f y) (cond c (f z) rest)) ≡ cond (a || b || c) (f (cond a x (cond b y (cond c z end)))) rest
three f true b c x y z end rest = refl
three f false true c x y z end rest = refl
three f false false true x y z end rest = refl
three f false false false x y z end rest = refl

abbrev whole_of : {A : Type 0} → (A → State) → A → Shape State
whole_of k a = whole (k a)

abbrev stood : {A : Type 0} → (A → State) → Result (A × ℕ) ℕ → Turn
stood k r = further r (λ a n. Ok (k a, n))

-- the parts of filters
window_law : (w : List Placed) (i : ℕ) → reading window w i ≡ window_reading w i
window_law w i = same_number _ _ _ _ (first_number (drop i w)) (λ n. reading-and_then unit (λ u. whole (F.Window n u)) w (i + 1)) refl

distance_law : (w : List Placed) (i : ℕ) → reading distance w i ≡ distance_reading w i
distance_law w i = reading-and_then range (λ r. and_then unit (λ u. whole (F.Distance r u))) w i ∙ same_further (reading range w i) _ _ (λ r n. reading-and_then unit (λ u. whole (F.Distance r u)) w n)

other_filters_law : (k : Filter → State) (rest : Shape State) (w : List Placed) (i : ℕ) → reading (or_else (and_then filters_without_at (whole_of k)) rest) w i ≡ cond (begins_other_filter (drop i w)) (stood k (other_filter_reading w i)) (reading rest w i)
unfolding other_filter_reading
other_filters_law k rest w i =
    same_cond (first_is (codes "ordered") (drop i w)) _ _ _ _ refl
    (same_cond (first_is (codes "window") (drop i w)) _ _ _ _ (reading-and_then window (whole_of k) w (i + 1) ∙ ap (stood k) (window_law w (i + 1)))
    (same_cond (first_is (codes "distance") (drop i w)) _ _ _ _ (reading-and_then distance (whole_of k) w (i + 1) ∙ ap (stood k) (distance_law w (i + 1)))
    (same_cond (first_is (codes "same") (drop i w)) _ _ _ _ (reading-and_then (scope F.SameSentence F.SameParagraph) (whole_of k) w (i + 1))
    (same_cond (first_is (codes "different") (drop i w)) _ _ _ _ (reading-and_then (scope F.DifferentSentence F.DifferentParagraph) (whole_of k) w (i + 1))
    (same_cond (first_is (codes "entire") (drop i w)) _ _ _ _ (reading-and_then (key (codes "content") (whole F.EntireContent)) (whole_of k) w (i + 1)) refl)))))
    ∙ six (stood k) (first_is (codes "ordered") (drop i w)) (first_is (codes "window") (drop i w)) (first_is (codes "distance") (drop i w)) (first_is (codes "same") (drop i w)) (first_is (codes "different") (drop i w)) (first_is (codes "entire") (drop i w)) _ _ _ _ _ _ (Err i) (reading rest w i)

-- a filter with `at` is no other
at_excludes : (v : List Placed) → first_is (codes "at") v ≡ true → begins_other_filter v ≡ false
at_excludes [] h = cc
at_excludes (p ∷ z) h = ap (λ symbol. is_word (codes "ordered") symbol || is_word (codes "window") symbol || is_word (codes "distance") symbol || is_word (codes "same") symbol || is_word (codes "different") symbol || is_word (codes "entire") symbol) (word_is (codes "at") p.symbol h)

seam : {A B : Type 0} (f : A → B) (o a : Bool) (x y : A) (r : B) → (a ≡ true → o ≡ false) → cond o (f x) (cond a (f y) r) ≡ cond (o || a) (f (cond a y x)) r
seam f true true x y r h = let two : true ≡ false = h refl in cc
seam f true false x y r h = refl
seam f false true x y r h = refl
seam f false false x y r h = refl

filters_law : (k : Filter → State) (rest : Shape State) (w : List Placed) (i : ℕ) → reading (or_else (and_then filters (whole_of k)) rest) w i ≡ cond (begins_filter (drop i w)) (stood k (filter_reading w i)) (reading rest w i)
unfolding filter_reading
filters_law k rest w i = other_filters_law k (word (codes "at") (λ p. and_then side (whole_of k)) rest) w i
    ∙ same_cond (begins_other_filter (drop i w)) _ _ _ _ refl (same_cond (first_is (codes "at") (drop i w)) _ _ _ (reading rest w i) (reading-and_then side (whole_of k) w (i + 1)) refl)
    ∙ seam (stood k) (begins_other_filter (drop i w)) (first_is (codes "at") (drop i w)) (other_filter_reading w i) (reading side w (i + 1)) (reading rest w i) (at_excludes (drop i w))

-- options
using_law : (outer : List Frame) (left : Left) (n : Option ℕ) (x : Primary) (os : List PlacedOption) (at : ℕ) (w : List Placed) (i : ℕ) → using_turn outer left n x os at w i ≡ reading (m.using_next outer left n x os at) w i
unfolding using_turn
using_law outer left n x os at w i = same_cond (first_is (codes "thesaurus") (drop i w)) _ _ _ _ refl (same_cond (first_is (codes "stop") (drop i w)) _ _ _ _ refl (sym (reading-and_then (plain_option at) (λ o. whole (stands outer left (m.given_options n x (os ++ o ∷ [])))) w i)))

unfiltered_law : (outer : List Frame) (left : Left) (n : Option ℕ) (x : Primary) (os : List PlacedOption) (w : List Placed) (i : ℕ) → unfiltered_turn outer left n x os w i ≡ reading (m.unfiltered_next outer left n x os) w i
unfolding unfiltered_turn
unfiltered_law outer left n x os w i = same_cond (first_is (codes "using") (drop i w)) _ _ _ _ (using_law outer left n x os (first_place (drop i w)) w (i + 1)) refl

options_law : (outer : List Frame) (left : Left) (n : Option ℕ) (x : Primary) (os : List PlacedOption) (w : List Placed) (i : ℕ) → options_turn outer left n x os w i ≡ reading (m.options_next outer left n x os) w i
unfolding options_turn
options_law outer left n x os w i = same_cond (begins_filter (drop i w)) _ _ _ _ refl (unfiltered_law outer left n x os w i) ∙ sym (filters_law (filtered_state outer (selection_with left (operand_of n x os))) (m.unfiltered_next outer left n x os) w i)

times_law : (k : PlacedTimes → State) (at : ℕ) (w : List Placed) (i : ℕ) → stood k (times_reading at w i) ≡ reading (and_then (and_then range (λ r. key (codes "times") (whole (record { at = at; range = r })))) (whole_of k)) w i
times_law k at w i = ap (stood k) (sym (reading-and_then range (λ r. key (codes "times") (whole (record { at = at; range = r }))) w i)) ∙ sym (reading-and_then (and_then range (λ r. key (codes "times") (whole (record { at = at; range = r })))) (whole_of k) w i)

moded_law : (outer : List Frame) (left : Left) (n : Option ℕ) (xs : List PlacedString) (mode : Mode) (w : List Placed) (i : ℕ) → moded_turn outer left n xs mode w i ≡ reading (m.moded_next outer left n xs mode) w i
unfolding moded_turn
moded_law outer left n xs mode w i = same_cond (first_is (codes "occurs") (drop i w)) _ _ _ _ (times_law (λ t. stands outer left (m.given_options n (phrases xs mode (Some t)) [])) (first_place (drop i w)) w (i + 1)) (options_law outer left n (phrases xs mode None) [] w i)

-- levels
levels_law : (made : Option Range → State) (t : Shape Range) (w : List Placed) (i : ℕ) → reading (and_then t (m.levels_end made)) w i ≡ levels_turn made w (reading t w i)
levels_law made t w i = reading-and_then t (m.levels_end made) w i

after_at_law : (outer : List Frame) (left : Left) (n : Option ℕ) (x : Primary) (os : List PlacedOption) (at : ℕ) (s : List ℕ) (r : Option (List ℕ)) (w : List Placed) (i : ℕ)
    → after_at_turn outer left n x os at s r w i ≡ reading (or_else (and_then bound (m.levels_end (with_levels outer left n x os at s r))) (and_then side (λ f. whole (filtered_state outer (thesaurus_selection left n x os at s r) f)))) w i
unfolding after_at_turn
after_at_law outer left n x os at s r w i = sym (
    same_cond (first_is (codes "least") (drop i w)) _ _ _ _ (levels_law made (one_number R.AtLeast) w (i + 1)) (same_cond (first_is (codes "most") (drop i w)) _ _ _ _ (levels_law made (one_number R.AtMost) w (i + 1)) (reading-and_then side (λ f. whole (filtered_state outer (thesaurus_selection left n x os at s r) f)) w i))
    ∙ two (levels_turn made w) (first_is (codes "least") (drop i w)) (first_is (codes "most") (drop i w)) _ _ (Err i) _)
  where
    made : Option Range → State
    made = with_levels outer left n x os at s r

after_thesaurus_law : (outer : List Frame) (left : Left) (n : Option ℕ) (x : Primary) (os : List PlacedOption) (at : ℕ) (s : List ℕ) (r : Option (List ℕ)) (w : List Placed) (i : ℕ)
    → after_thesaurus_turn outer left n x os at s r w i ≡ reading (or_else (and_then filters_without_at (λ f. whole (filtered_state outer (thesaurus_selection left n x os at s r) f))) (m.unfiltered_next outer left n x (thesaurus_ended os at s r None))) w i
unfolding after_thesaurus_turn
after_thesaurus_law outer left n x os at s r w i = same_cond (begins_other_filter (drop i w)) _ _ _ _ refl (unfiltered_law outer left n x (thesaurus_ended os at s r None) w i)
    ∙ sym (other_filters_law (filtered_state outer (thesaurus_selection left n x os at s r)) (m.unfiltered_next outer left n x (thesaurus_ended os at s r None)) w i)

rest_law : (outer : List Frame) (left : Left) (n : Option ℕ) (x : Primary) (os : List PlacedOption) (at : ℕ) (s : List ℕ) (r : Option (List ℕ)) (w : List Placed) (i : ℕ) → thesaurus_rest_turn outer left n x os at s r w i ≡ reading (m.thesaurus_rest outer left n x os at s r) w i
unfolding thesaurus_rest_turn
rest_law outer left n x os at s r w i = same_cond (first_is (codes "at") (drop i w)) _ _ _ _ (after_at_law outer left n x os at s r w (i + 1)) (sym (
    same_cond (first_is (codes "exactly") (drop i w)) _ _ _ _ (levels_law made (one_number R.Exactly) w (i + 1)) (same_cond (first_is (codes "from") (drop i w)) _ _ _ _ (levels_law made two_bounds w (i + 1)) (sym (after_thesaurus_law outer left n x os at s r w i)))
    ∙ two (levels_turn made w) (first_is (codes "exactly") (drop i w)) (first_is (codes "from") (drop i w)) _ _ (Err i) _))
  where
    made : Option Range → State
    made = with_levels outer left n x os at s r

in_rest_law : (outer : List Frame) (left : Left) (n : Option ℕ) (x : Primary) (os : List PlacedOption) (at : ℕ) (us : List ThesaurusUse) (s : List ℕ) (r : Option (List ℕ)) (w : List Placed) (i : ℕ) → thesaurus_in_rest_turn outer left n x os at us s r w i ≡ reading (m.thesaurus_in_rest outer left n x os at us s r) w i
unfolding thesaurus_in_rest_turn
in_rest_law outer left n x os at us s r w i = sym (
    same_cond (first_is (codes "exactly") (drop i w)) _ _ _ _ (levels_law made (one_number R.Exactly) w (i + 1)) (same_cond (first_is (codes "from") (drop i w)) _ _ _ _ (levels_law made two_bounds w (i + 1)) (same_cond (first_is (codes "at") (drop i w)) _ _ _ _ (levels_law made bound w (i + 1)) refl))
    ∙ three (levels_turn made w) (first_is (codes "exactly") (drop i w)) (first_is (codes "from") (drop i w)) (first_is (codes "at") (drop i w)) _ _ _ (Err i) _)
  where
    made : Option Range → State
    made = in_levels outer left n x os at us s r

thesaurus_law : (outer : List Frame) (left : Left) (n : Option ℕ) (x : Primary) (os : List PlacedOption) (at : ℕ) (s : List ℕ) (r : Option (List ℕ)) (w : List Placed) (i : ℕ) → thesaurus_turn outer left n x os at s r w i ≡ reading (m.thesaurus_next outer left n x os at s r) w i
unfolding thesaurus_turn
thesaurus_law outer left n x os at s None w i = same_cond (first_is (codes "relationship") (drop i w)) _ _ _ _ refl (rest_law outer left n x os at s None w i)
thesaurus_law outer left n x os at s (Some r) w i = rest_law outer left n x os at s (Some r) w i

thesaurus_in_law : (outer : List Frame) (left : Left) (n : Option ℕ) (x : Primary) (os : List PlacedOption) (at : ℕ) (us : List ThesaurusUse) (s : List ℕ) (r : Option (List ℕ)) (w : List Placed) (i : ℕ) → thesaurus_in_turn outer left n x os at us s r w i ≡ reading (m.thesaurus_in_next outer left n x os at us s r) w i
unfolding thesaurus_in_turn
thesaurus_in_law outer left n x os at us s None w i = same_cond (first_is (codes "relationship") (drop i w)) _ _ _ _ refl (in_rest_law outer left n x os at us s None w i)
thesaurus_in_law outer left n x os at us s (Some r) w i = in_rest_law outer left n x os at us s (Some r) w i

stage_law : (outer : List Frame) (left : Left) (stage : Stage) (w : List Placed) (i : ℕ) → stage_turn outer left stage w i ≡ reading (m.next_at outer left stage) w i
unfolding valued_turn any_of_turn all_of_turn stop_terms_turn with_filter_turn
stage_law outer left (m.wanted n) w i = refl
stage_law outer left (m.in_braces n xs) w i = refl
stage_law outer left (m.valued n xs) w i = same_cond (first_is (codes "any") (drop i w)) _ _ _ _ refl (same_cond (first_is (codes "all") (drop i w)) _ _ _ _ refl (same_cond (first_is (codes "phrase") (drop i w)) _ _ _ _ refl (moded_law outer left n xs M.Any w i)))
stage_law outer left (m.any_of n xs) w i = same_cond (first_is (codes "word") (drop i w)) _ _ _ _ refl (moded_law outer left n xs M.Any w i)
stage_law outer left (m.all_of n xs) w i = same_cond (first_is (codes "words") (drop i w)) _ _ _ _ refl (moded_law outer left n xs M.All w i)
stage_law outer left (m.moded n xs mode) w i = moded_law outer left n xs mode w i
stage_law outer left (m.given_options n x os) w i = options_law outer left n x os w i
stage_law outer left (m.stop_terms n x os at ts) w i = same_cond (first_is (codes "union") (drop i w)) _ _ _ _ refl (same_cond (first_is (codes "except") (drop i w)) _ _ _ _ refl (options_law outer left n x (os ++ m.stop_option at ts ∷ []) w i))
stage_law outer left (m.stop_strings n x os at ts except xs) w i = refl
stage_law outer left (m.thesaurus n x os at s r) w i = thesaurus_law outer left n x os at s r w i
stage_law outer left (m.thesaurus_in n x os at us s r) w i = thesaurus_in_law outer left n x os at us s r w i
stage_law outer left (m.thesauri_in n x os at us) w i = refl
stage_law outer left (m.with_filter x) w i = sym (filters_law (filtered_state outer x) (m.close_next outer x) w i)

pub state_law : (s : State) (w : List Placed) (i : ℕ) → state_turn s w i ≡ reading (next s) w i
unfolding state_turn next
state_law s w i = stage_law s.outer s.left s.stage w i
