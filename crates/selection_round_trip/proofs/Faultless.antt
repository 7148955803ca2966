-- A selection has a fault or none by its form alone, but for options that are given twice.
use Rattle.std.proofs.Common.{◌≡◌, ℕ, Bool, true, false, cond, nat_le, ◌||◌, List, [], ◌∷◌, ◌++◌, Option, Some, None, option_map, refl, sym, ◌∙◌, ap}
use Rattle.std.specs.Option.{is_some, option_to_list}
use Rattle.ft_base.specs.Selection.{Form}
use Rattle.ft_base.specs.declared.fault.QueryFault.{QueryFault}
use Rattle.ft_base.specs.declared.fault.QueryFault.TheVariants as F
use Rattle.ft_base.proofs.Truth.{none_from_test}
use Rattle.selection_grammar.specs.Form.{form_of}
use Rattle.selection_grammar.specs.Tree.{Tree}
use Rattle.selection_faults.specs.Excludes.{mild_not_excludes, inside_filters}
use Rattle.selection_faults.specs.Faults.{faults_at, faults, fault_of}
use Rattle.selection_faults.specs.Least.{earlier, least}
use Rattle.selection_faults.specs.Options.{options_twice}
use Rattle.selection_faults.specs.Strings.{strings_of, phrases_past, bad_wildcards}
use Rattle.selection_round_trip.proofs.Marks.{has_some, some_append, either, Marks, marks_of, marks_same}
use Rattle.selection_round_trip.proofs.Strings.{strings_in, strings_same, past_same, bad_same}
use Rattle.selection_round_trip.proofs.Once.{Once}

-- there is a least one where there is one at all
some_of_two : {A : Type 0} (b : Bool) (x y : A) → is_some (cond b (Some x) (Some y)) ≡ true
some_of_two true x y = refl
some_of_two false x y = refl

some_earlier : {A : Type 0} (place : A → ℕ) (x : A) (o : Option A) → is_some (earlier place (Some x) o) ≡ true
some_earlier place x None = refl
some_earlier place x (Some y) = some_of_two (nat_le (place x) (place y)) x y

some_mapped : {A B : Type 0} (f : A → B) (o : Option A) → is_some (option_map f o) ≡ is_some o
some_mapped f None = refl
some_mapped f (Some x) = refl

some_least : {A : Type 0} (place : A → ℕ) (xs : List A) → is_some (least place xs) ≡ has_some xs
some_least place [] = refl
some_least place (x ∷ xs) = some_earlier place x (least place xs)

some_first : {A B : Type 0} (xs : List A) (f : A → B) (place : A → ℕ) → is_some (option_map f (least place xs)) ≡ has_some xs
some_first xs f place = some_mapped f (least place xs) ∙ some_least place xs

-- one kind of faults after the other
some_places : (kind : ℕ → QueryFault) (places : List ℕ) → has_some (faults_at kind places) ≡ has_some places
some_places kind [] = refl
some_places kind (at ∷ rest) = refl

pub some_option : (o : Option ℕ) → has_some (option_to_list o) ≡ is_some o
some_option None = refl
some_option (Some at) = refl

some_five : {A : Type 0} (a b c d e : List A) {p q r s t : Bool} → has_some a ≡ p → has_some b ≡ q → has_some c ≡ r → has_some d ≡ s → has_some e ≡ t → has_some (a ++ b ++ c ++ d ++ e) ≡ ((((p || q) || r) || s) || t)
some_five a b c d e f g h i j = some_append (a ++ b ++ c ++ d) e ∙ either (some_append (a ++ b ++ c) d ∙ either (some_append (a ++ b) c ∙ either (some_append a b ∙ either f g) h) i) j

-- the faults that the form tells
abbrev past : Form → Bool
past x = is_some (phrases_past 0 (strings_in false x))

abbrev bad : Form → Bool
bad x = has_some (bad_wildcards (strings_in false x))

has_fault : (t : Tree) → is_some (fault_of t) ≡ ((((past (form_of t) || has_some (options_twice t)) || bad (form_of t)) || (marks_of (form_of t)).mild_not_excludes) || (marks_of (form_of t)).inside_filters)
unfolding fault_of
has_fault t =
    some_first (faults t) (λ f. f.fault) (λ f. f.at)
    ∙ some_five (faults_at F.Phrases (option_to_list (phrases_past 0 (strings_of t)))) (faults_at F.OptionTwice (options_twice t)) (faults_at F.BadWildcard (bad_wildcards (strings_of t))) (faults_at F.MildNotExclude (mild_not_excludes t)) (faults_at F.InsideFilter (inside_filters t))
    (some_places F.Phrases (option_to_list (phrases_past 0 (strings_of t))) ∙ some_option (phrases_past 0 (strings_of t)) ∙ past_same 0 (strings_of t) ∙ ap (λ w. is_some (phrases_past 0 w)) (strings_same false t))
    (some_places F.OptionTwice (options_twice t))
    (some_places F.BadWildcard (bad_wildcards (strings_of t)) ∙ bad_same (strings_of t) ∙ ap (λ w. has_some (bad_wildcards w)) (strings_same false t))
    (some_places F.MildNotExclude (mild_not_excludes t) ∙ ap (λ (m : Marks). m.mild_not_excludes) (marks_same t))
    (some_places F.InsideFilter (inside_filters t) ∙ ap (λ (m : Marks). m.inside_filters) (marks_same t))

without : (p t b m f : Bool) → ((((p || t) || b) || m) || f) ≡ false → ((((p || false) || b) || m) || f) ≡ false
without true t b m f e = e
without false true b m f e = cc
without false false b m f e = e

-- whether there is a fault is told by the form, and by whether an option is given twice
pub same_fault : (t u : Tree) → form_of u ≡ form_of t → has_some (options_twice u) ≡ has_some (options_twice t) → is_some (fault_of u) ≡ is_some (fault_of t)
same_fault t u e twice =
    has_fault u
    ∙ (λ i. (((past (e i) || twice i) || bad (e i)) || (marks_of (e i)).mild_not_excludes) || (marks_of (e i)).inside_filters)
    ∙ sym (has_fault t)

-- a selection of the form of one without a fault has none, if it has no option twice
pub faultless_again : (t u : Tree) → form_of u ≡ form_of t → Once u → fault_of t ≡ None → fault_of u ≡ None
faultless_again t u e once h = none_from_test (fault_of u)
    (has_fault u
    ∙ ap (λ x. (((past x || has_some (options_twice u)) || bad x) || (marks_of x).mild_not_excludes) || (marks_of x).inside_filters) e
    ∙ ap (λ o. (((past (form_of t) || o) || bad (form_of t)) || (marks_of (form_of t)).mild_not_excludes) || (marks_of (form_of t)).inside_filters) once
    ∙ without (past (form_of t)) (has_some (options_twice t)) (bad (form_of t)) (marks_of (form_of t)).mild_not_excludes (marks_of (form_of t)).inside_filters (sym (has_fault t) ∙ ap is_some h))
