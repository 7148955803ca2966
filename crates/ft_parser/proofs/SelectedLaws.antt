-- What symbols are read as is right by the grammar, and what is right by the grammar is read.
use Rattle.std.proofs.Common.{◌≡◌, ℕ, Bool, true, false, ◌||◌, ◌&&◌, cond, List, [], ◌∷◌, ◌++◌, Option, Some, None, Result, Ok, Err, refl, sym, ◌∙◌, ap, subst, append_assoc}
use Rattle.std.proofs.lemmas.Bool.{or_parts}
use Rattle.std.proofs.lemmas.List.{append-nil}
use Rattle.std.specs.Prelude.{nat_le}
use Rattle.ft_base.specs.Limits.{max_open}
use Rattle.ft_base.specs.Selection.{Form}
use Rattle.ft_base.specs.declared.fault.QueryFault.{QueryFault}
use Rattle.ft_base.specs.declared.fault.QueryFault.TheVariants as Q
use Rattle.selection_grammar.specs.declared.symbol.Symbol.{Symbol}
use Rattle.selection_grammar.specs.declared.symbol.Symbol.TheVariants as S
use Rattle.selection_grammar.specs.declared.symbol.Placed.{Placed}
use Rattle.selection_grammar.specs.Grammar.{Selection}
use Rattle.selection_grammar.specs.steps.Machine.{State, start, advance, run_on, read, finished, finished_at}
use Rattle.selection_grammar.specs.Shapes.{Shape, whole, nothing, word, text, mark, is_mark, open_parenthesis, number_of}
use Rattle.selection_grammar.specs.Shapes as shapes
use Rattle.selection_grammar.specs.Tree.{Tree}
use Rattle.selection_grammar.proofs.Decided.{spells_read, read_spells, read_begins, refused_begins, read-append}
use Rattle.selection_faults.specs.Faults.{fault_of}
use Rattle.ft_parser.specs.Answer.{scanned_on, scanned_from, faultless, ended, read_as}
use Rattle.ft_parser.specs.Limits.{is_great, depth_after, exceeds, before_limit, from_limit, limit_fault, is_deep_filter, is_filter_word}
use Rattle.ft_parser.proofs.FilterRuns.{none_deep_within}
use Rattle.ft_parser.specs.Selected.{open_after, open_in, is_deep_there, is_deep_after, exceeds_limit, MayStand, IsWhole, Selects, Refuses}

-- the last symbol of a list, or one before it
last_or_inner : (u : List Placed) (p : Placed) (before : List Placed) (q : Placed) (rest : List Placed) (C : Type 0) → u ++ p ∷ [] ≡ before ++ q ∷ rest → (before ≡ u → q ≡ p → C) → ((inner : List Placed) → u ≡ before ++ q ∷ inner → C) → C
last_or_inner [] p [] q rest C e last inner = last refl cc
last_or_inner [] p (b ∷ []) q rest C e last inner = let two : [] ≡ q ∷ rest = cc in cc
last_or_inner [] p (b ∷ c ∷ before) q rest C e last inner = let two : [] ≡ c ∷ (before ++ q ∷ rest) = cc in cc
last_or_inner (a ∷ u) p [] q rest C e last inner = inner u cc
last_or_inner (a ∷ u) p (b ∷ before) q rest C e last inner =
    let head : a ≡ b = cc in
    let tail : u ++ p ∷ [] ≡ before ++ q ∷ rest = cc in
    last_or_inner u p before q rest C tail (λ h k. last (λ i. sym head i ∷ h i) k) (λ r h. inner r (λ i. head i ∷ h i))

pub open_on : (u v : List Placed) (depth : ℕ) → open_after depth (u ++ v) ≡ open_after (open_after depth u) v
open_on [] v depth = refl
open_on (p ∷ u) v depth = open_on u v (depth_after depth p.symbol)

-- which faults the limits have
pub number_no_mark : (s : Symbol) → is_great (number_of s) ≡ true → is_mark open_parenthesis s ≡ false
number_no_mark (S.Number n) h = refl
number_no_mark other h = cc

word_exceeds_none : (s : Symbol) (depth : ℕ) (all : Bool) → (is_filter_word s && all) ≡ true → exceeds depth s ≡ false
word_exceeds_none (S.Name name) depth all h = no_mark (nat_le max_open depth)
  where
    no_mark : (b : Bool) → (b && false) ≡ false
    no_mark true = refl
    no_mark false = refl
word_exceeds_none other depth all h = cc

pub deep_exceeds_none : (shape : Shape State) (s : Symbol) (depth : ℕ) → is_deep_filter shape s ≡ true → exceeds depth s ≡ false
deep_exceeds_none (whole t) s depth h = word_exceeds_none s depth _ h
deep_exceeds_none nothing s depth h = cc
deep_exceeds_none (word key to rest) s depth h = cc
deep_exceeds_none (shapes.number to rest) s depth h = cc
deep_exceeds_none (text to rest) s depth h = cc
deep_exceeds_none (mark m to rest) s depth h = cc

-- what is read of the symbols that are left
abbrev pub rest_read : ℕ → Shape State → List Placed → Option ℕ → ℕ → Result Form QueryFault
rest_read depth shape v bad size = read_as (scanned_from shape (before_limit depth v)) (from_limit depth v) bad size

abbrev pub Outcome : List Placed → Option ℕ → ℕ → Result Form QueryFault → Type 0
Outcome symbols bad size (Ok form) = Selects symbols bad form
Outcome symbols bad size (Err fault) = Refuses symbols bad size fault

-- after all symbols
whole_of : {u : List Placed} {tree : Tree} → MayStand u → Selection u tree → IsWhole u tree
whole_of {u = u} {tree = tree} h a = record {
  spells = a;
  limits = λ before p rest e. (or_parts (exceeds (open_in before) p.symbol) (is_deep_after before p.symbol) (h.limits before p rest e)).0;
  filters = none_deep_within u tree a (λ before p rest e. (or_parts (exceeds (open_in before) p.symbol) (is_deep_after before p.symbol) (h.limits before p rest e)).1);
}

judged : (u : List Placed) (size : ℕ) (tree : Tree) (o : Option QueryFault) → MayStand u → Selection u tree → fault_of tree ≡ o → Outcome u None size (faultless tree o)
judged u size tree None h a e = record { tree = tree; all = refl; whole = whole_of h a; faultless = e; is = refl }
judged u size tree (Some fault) h a e = Refuses.selection tree fault refl (whole_of h a) e

at_end : (u : List Placed) (shape : Shape State) (bad : Option ℕ) (size : ℕ) (o : Option Tree) → read u ≡ Some shape → MayStand u → finished_at shape ≡ o → Outcome u bad size (ended bad size o)
at_end u shape (Some at) size o r h e = Refuses.character at refl h
at_end u shape None size None r h e = Refuses.end refl h (λ x a. let two : Some x ≡ None = sym (spells_read u x a) ∙ ap finished r ∙ e in cc)
at_end u shape None size (Some tree) r h e = judged u size tree (fault_of tree) h (read_spells u tree (ap finished r ∙ e)) refl

-- one symbol more
stands_on : (u : List Placed) (p : Placed) (shape : Shape State) → MayStand u → exceeds_limit u p.symbol ≡ false → read (u ++ p ∷ []) ≡ Some shape → MayStand (u ++ p ∷ [])
stands_on u p shape h l r = record {
  begins = read_begins (u ++ p ∷ []) shape r;
  limits = λ before q rest e. last_or_inner u p before q rest (exceeds_limit before q.symbol ≡ false) e (λ a b. (λ i. exceeds_limit (a i) (b i).symbol) ∙ l) (λ inner a. h.limits before q inner a);
}

read_one : (u : List Placed) (p : Placed) (shape : Shape State) → read u ≡ Some shape → read (u ++ p ∷ []) ≡ run_on (advance shape p) []
read_one u p shape r = read-append u (p ∷ []) ∙ ap (λ o. run_on o (p ∷ [])) r

-- a symbol, where what is after it is known
one_read : (bad : Option ℕ) (size : ℕ) (p : Placed) (v u : List Placed) (shape : Shape State) (depth : ℕ) → read u ≡ Some shape → MayStand u → open_in u ≡ depth
    → ((next : Shape State) → read (u ++ p ∷ []) ≡ Some next → MayStand (u ++ p ∷ []) → Outcome ((u ++ p ∷ []) ++ v) bad size (rest_read (depth_after depth p.symbol) next v bad size))
    → Outcome (u ++ p ∷ v) bad size (rest_read depth shape (p ∷ v) bad size)
unfolding scanned_from
one_read bad size p v u shape depth r h e further = by_limit (exceeds depth p.symbol) refl
  where
    by_advance : (o : Option (Shape State)) → advance shape p ≡ o → exceeds_limit u p.symbol ≡ false → Outcome (u ++ p ∷ v) bad size (read_as (scanned_on p o (λ s. scanned_from s (before_limit (depth_after depth p.symbol) v))) (from_limit (depth_after depth p.symbol) v) bad size)
    by_advance None a l = Refuses.symbol u p v refl h l (refused_begins (u ++ p ∷ []) (read_one u p shape r ∙ ap (λ o. run_on o []) a))
    by_advance (Some next) a l =
        let there : read (u ++ p ∷ []) ≡ Some next = read_one u p shape r ∙ ap (λ o. run_on o []) a in
        subst (λ w. Outcome w bad size (rest_read (depth_after depth p.symbol) next v bad size)) (append_assoc u (p ∷ []) v) (further next there (stands_on u p next h l there))

    by_filter : (b : Bool) → is_deep_filter shape p.symbol ≡ b → exceeds depth p.symbol ≡ false → Outcome (u ++ p ∷ v) bad size (read_as (cond b (Err (Q.Deep p.from)) (scanned_on p (advance shape p) (λ s. scanned_from s (before_limit (depth_after depth p.symbol) v)))) (from_limit (depth_after depth p.symbol) v) bad size)
    by_filter true a l = Refuses.filter u p v refl h (ap (λ o. is_deep_there o p.symbol) r ∙ a)
    by_filter false a l = by_advance (advance shape p) refl (ap (λ n. exceeds n p.symbol || is_deep_after u p.symbol) e ∙ ap (λ b. b || is_deep_after u p.symbol) l ∙ ap (λ o. is_deep_there o p.symbol) r ∙ a)

    by_kind : (b c d : Bool) → is_great (number_of p.symbol) ≡ b → nat_le max_open depth ≡ c → is_mark open_parenthesis p.symbol ≡ d → (b || (c && d)) ≡ true → Outcome (u ++ p ∷ v) bad size (Err (limit_fault p))
    by_kind true c d a k m l = subst (λ b. Refuses (u ++ p ∷ v) bad size (cond b (Q.Deep p.from) (Q.Number p.from))) (sym (number_no_mark p.symbol a)) (Refuses.number u p v refl h a)
    by_kind false true true a k m l = subst (λ b. Refuses (u ++ p ∷ v) bad size (cond b (Q.Deep p.from) (Q.Number p.from))) (sym m) (Refuses.parenthesis u p v refl h m (ap (nat_le max_open) e ∙ k))
    by_kind false true false a k m l = cc
    by_kind false false d a k m l = cc

    by_limit : (b : Bool) → exceeds depth p.symbol ≡ b → Outcome (u ++ p ∷ v) bad size (read_as (scanned_from shape (cond b [] (p ∷ before_limit (depth_after depth p.symbol) v))) (cond b (p ∷ v) (from_limit (depth_after depth p.symbol) v)) bad size)
    by_limit true l = by_kind (is_great (number_of p.symbol)) (nat_le max_open depth) (is_mark open_parenthesis p.symbol) refl refl refl l
    by_limit false l = by_filter (is_deep_filter shape p.symbol) refl l

forward : (bad : Option ℕ) (size : ℕ) (v u : List Placed) (shape : Shape State) (depth : ℕ) → read u ≡ Some shape → MayStand u → open_in u ≡ depth → Outcome (u ++ v) bad size (rest_read depth shape v bad size)
unfolding scanned_from
forward bad size [] u shape depth r h e = subst (λ w. Outcome w bad size (ended bad size (finished_at shape))) (sym (append-nil u)) (at_end u shape bad size (finished_at shape) r h refl)
forward bad size (p ∷ v) u shape depth r h e = one_read bad size p v u shape depth r h e
    (λ next there k. forward bad size v (u ++ p ∷ []) next (depth_after depth p.symbol) there k (open_on u (p ∷ []) 0 ∙ ap (λ n. depth_after n p.symbol) e))

nothing_read : MayStand []
nothing_read = record { begins = read_begins [] (whole start) refl; limits = λ before p rest e. no before p rest e }
  where
    no : (before : List Placed) (p : Placed) (rest : List Placed) → [] ≡ before ++ p ∷ rest → exceeds_limit before p.symbol ≡ false
    no [] p rest e = cc
    no (b ∷ before) p rest e = cc

pub all_read : (symbols : List Placed) (bad : Option ℕ) (size : ℕ) → Outcome symbols bad size (rest_read 0 (whole start) symbols bad size)
all_read symbols bad size = forward bad size symbols [] (whole start) 0 refl nothing_read refl
