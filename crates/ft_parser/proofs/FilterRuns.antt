-- What the limit of filters tells of the selection that symbols spell, and of where they stand.
use Rattle.std.proofs.Common.{◌≡◌, Bool, true, false, ◌&&◌, List, [], ◌∷◌, ◌++◌, Option, Some, None, refl, sym, ◌∙◌, ap, subst, append_assoc}
use Rattle.std.specs.Prelude.{not}
use Rattle.std.proofs.lemmas.Bool.{and_parts}
use Rattle.ft_base.specs.declared.words.Mode.TheVariants as M
use Rattle.selection_grammar.specs.declared.symbol.Symbol.{Symbol}
use Rattle.selection_grammar.specs.declared.symbol.Symbol.TheVariants as S
use Rattle.selection_grammar.specs.declared.symbol.Placed.{Placed}
use Rattle.selection_grammar.specs.Grammar.{Selection, at}
use Rattle.selection_grammar.specs.steps.Machine as m
use Rattle.selection_grammar.specs.steps.Machine.{Left, Frame, Stage, State, start, next, advance, run_on, read, finished, finished_at, finished_in, selection_at, thesaurus_ended}
use Rattle.selection_grammar.specs.Shapes.{Shape, whole, nothing, word, number, text, mark}
use Rattle.selection_grammar.specs.Tree.{Tree, phrases}
use Rattle.selection_grammar.proofs.Decided.{spells_read, read-append, within_selection}
use Rattle.selection_grammar.proofs.Reached.{stood}
use Rattle.selection_grammar.proofs.Standing.{Outer, Stands}
use Rattle.ft_parser.specs.FilterLimit.{are_filters_within}
use Rattle.ft_parser.specs.FilterPlaces.{NoneIsDeep, Opened, HasAllFilters}
use Rattle.ft_parser.specs.Limits.{has_all_filters, is_filter_word, is_deep_filter}
use Rattle.ft_parser.specs.Selected.{is_deep_there, is_deep_after}
use Rattle.ft_parser.proofs.FilterShapes.{AllEnds, all_step, first_step}
use Rattle.ft_parser.proofs.FilterStages.{stage_first}
use Rattle.ft_parser.proofs.FilterStates.{old, frames_within, under_within, state_within, whole_within}

-- where symbols lead, the first of them leads somewhere
pub led : (o : Option (Shape State)) (u : List Placed) (shape : Shape State) (C : Type 0) → run_on o u ≡ Some shape → ((next : Shape State) → o ≡ Some next → C) → C
led None u shape C e there = cc
led (Some next) u shape C e there = there next refl

abbrev Is : Bool → State → Type 0
Is b s = state_within s ≡ b

-- one symbol
advance_all : (b : Bool) (t r : Shape State) (p : Placed) → AllEnds (Is b) t → advance t p ≡ Some r → AllEnds (Is (b && not (is_deep_filter t p.symbol))) r
unfolding next
advance_all b (whole s) r p h e = subst (λ a. AllEnds (Is (a && not (is_deep_filter (whole s) p.symbol))) r) h (first_step state_within (state_within s) (has_all_filters (selection_at s.left s.stage)) (next s) r p (stage_first s.outer s.left s.stage) e)
advance_all b nothing r p h e = cc
advance_all b (word key to rest) r p h e = subst (λ a. AllEnds (Is a) r) (old b) (all_step (Is b) (word key to rest) r p h e)
advance_all b (number to rest) r p h e = subst (λ a. AllEnds (Is a) r) (old b) (all_step (Is b) (number to rest) r p h e)
advance_all b (text to rest) r p h e = subst (λ a. AllEnds (Is a) r) (old b) (all_step (Is b) (text to rest) r p h e)
advance_all b (mark k to rest) r p h e = subst (λ a. AllEnds (Is a) r) (old b) (all_step (Is b) (mark k to rest) r p h e)

-- several symbols
some_all : (u : List Placed) (b : Bool) (t r : Shape State) → AllEnds (Is b) t → run_on (Some t) u ≡ Some r → (c : Bool) × AllEnds (Is c) r
some_all [] b t r h e = let same : t ≡ r = cc in (b, subst (AllEnds (Is b)) same h)
some_all (p ∷ u) b t r h e = led (advance t p) u r _ e (λ n a. some_all u (b && not (is_deep_filter t p.symbol)) n r (advance_all b t n p h a) (sym (ap (λ o. run_on o u) a) ∙ e))

lost : (u : List Placed) (t r : Shape State) → AllEnds (Is false) t → run_on (Some t) u ≡ Some r → AllEnds (Is false) r
lost [] t r h e = let same : t ≡ r = cc in subst (AllEnds (Is false)) same h
lost (p ∷ u) t r h e = led (advance t p) u r _ e (λ n a. lost u n r (advance_all false t n p h a) (sym (ap (λ o. run_on o u) a) ∙ e))

kept : (u u0 : List Placed) (t r : Shape State) → read u0 ≡ Some t → AllEnds (Is true) t → NoneIsDeep (u0 ++ u) → run_on (Some t) u ≡ Some r → AllEnds (Is true) r
kept [] u0 t r e h k f = let same : t ≡ r = cc in subst (AllEnds (Is true)) same h
kept (p ∷ u) u0 t r e h k f = led (advance t p) u r _ f (λ n a.
    let none : is_deep_filter t p.symbol ≡ false = sym (ap (λ o. is_deep_there o p.symbol) e) ∙ k u0 p u refl in
    kept u (u0 ++ p ∷ []) n r (read-append u0 (p ∷ []) ∙ ap (λ o. run_on o (p ∷ [])) e ∙ ap (λ o. run_on o []) a)
    (subst (λ b. AllEnds (Is (true && not b)) n) none (advance_all true t n p h a))
    (subst NoneIsDeep (sym (append_assoc u0 (p ∷ []) u)) k) (sym (ap (λ o. run_on o u) a) ∙ f))

-- a whole selection
same_within : (x y : Tree) (b : Bool) → Some x ≡ Some y → are_filters_within x ≡ b → are_filters_within y ≡ b
same_within x y b e h = let same : x ≡ y = cc in ap are_filters_within (sym same) ∙ h

final_within : (left : Left) (stage : Stage) (x : Tree) → selection_at left stage ≡ Some x → are_filters_within x ≡ under_within left stage
final_within left (m.wanted n) x e = cc
final_within left (m.in_braces n xs) x e = cc
final_within left (m.valued n xs) x e = same_within _ x _ e (whole_within left n (phrases xs M.Any None) [])
final_within left (m.any_of n xs) x e = same_within _ x _ e (whole_within left n (phrases xs M.Any None) [])
final_within left (m.all_of n xs) x e = same_within _ x _ e (whole_within left n (phrases xs M.All None) [])
final_within left (m.moded n xs mode) x e = same_within _ x _ e (whole_within left n (phrases xs mode None) [])
final_within left (m.given_options n y os) x e = same_within _ x _ e (whole_within left n y os)
final_within left (m.stop_terms n y os i ts) x e = same_within _ x _ e (whole_within left n y (os ++ m.stop_option i ts ∷ []))
final_within left (m.stop_strings n y os i ts except xs) x e = cc
final_within left (m.thesaurus n y os i s r) x e = same_within _ x _ e (whole_within left n y (thesaurus_ended os i s r None))
final_within left (m.thesaurus_in n y os i us s r) x e = cc
final_within left (m.thesauri_in n y os i us) x e = cc
final_within left (m.with_filter y) x e = same_within y x _ e refl

ends_within : (t : Shape State) (x : Tree) (b : Bool) → finished_at t ≡ Some x → AllEnds (Is b) t → are_filters_within x ≡ b
ends_within (whole s) x b e h = go s.outer e h
  where
    go : (outer : List Frame) → finished_in outer (selection_at s.left s.stage) ≡ Some x → (frames_within outer && under_within s.left s.stage) ≡ b → are_filters_within x ≡ b
    go [] e h = final_within s.left s.stage x e ∙ h
    go (frame ∷ outer) e h = cc
ends_within nothing x b e h = cc
ends_within (word key to rest) x b e h = cc
ends_within (number to rest) x b e h = cc
ends_within (text to rest) x b e h = cc
ends_within (mark k to rest) x b e h = cc

read_whole : (symbols : List Placed) (x : Tree) → Selection symbols x → (C : Type 0) → ((t : Shape State) → read symbols ≡ Some t → finished_at t ≡ Some x → C) → C
read_whole symbols x a C there = go (read symbols) refl
  where
    go : (o : Option (Shape State)) → read symbols ≡ o → C
    go None e = let two : None ≡ Some x = sym (ap finished e) ∙ spells_read symbols x a in cc
    go (Some t) e = there t e (sym (ap finished e) ∙ spells_read symbols x a)

pub none_deep_within : (symbols : List Placed) (x : Tree) → Selection symbols x → NoneIsDeep symbols → are_filters_within x ≡ true
none_deep_within symbols x a k = read_whole symbols x a _ (λ t e f. ends_within t x true f (kept symbols [] (whole start) t refl refl k e))

never : (b : Bool) → (b && not true) ≡ false
never true = refl
never false = refl

read_deep : (before : List Placed) (symbol : Symbol) (C : Type 0) → is_deep_after before symbol ≡ true → ((t : Shape State) → read before ≡ Some t → is_deep_filter t symbol ≡ true → C) → C
read_deep before symbol C d there = go (read before) refl d
  where
    go : (o : Option (Shape State)) → read before ≡ o → is_deep_there o symbol ≡ true → C
    go None e d = cc
    go (Some t) e d = there t e d

deep_lost : (symbols before : List Placed) (p : Placed) (rest : List Placed) (x : Tree) → Selection symbols x → symbols ≡ before ++ p ∷ rest → is_deep_after before p.symbol ≡ true → are_filters_within x ≡ false
deep_lost symbols before p rest x a e d = read_whole symbols x a _ (λ t r f. read_deep before p.symbol _ d (λ t0 r0 d0.
    let on : run_on (advance t0 p) rest ≡ Some t = sym (ap read e ∙ read-append before (p ∷ rest) ∙ ap (λ o. run_on o (p ∷ rest)) r0) ∙ r in
    led (advance t0 p) rest t _ on (λ n k.
    let there = some_all before true (whole start) t0 refl r0 in
    let suffix : AllEnds (Is false) n = subst (λ b. AllEnds (Is b) n) (ap (λ b. there.0 && not b) d0 ∙ never there.0) (advance_all there.0 t0 n p there.1 k) in
    ends_within t x false f (lost rest n t suffix (sym (ap (λ o. run_on o rest) k) ∙ on)))))

pub within_none_deep : (symbols : List Placed) (x : Tree) → Selection symbols x → are_filters_within x ≡ true → NoneIsDeep symbols
within_none_deep symbols x a w before p rest e = go (is_deep_after before p.symbol) refl
  where
    go : (b : Bool) → is_deep_after before p.symbol ≡ b → is_deep_after before p.symbol ≡ false
    go false d = d
    go true d = let two : true ≡ false = sym w ∙ deep_lost symbols before p rest x a e d in cc

-- where a filter too many begins
regrouped : (u v w q : List Placed) → ((u ++ v) ++ w) ++ q ≡ u ++ v ++ w ++ q
regrouped u v w q = simp append_assoc

outer_opened : {u : List Placed} {outer : List Frame} → Outer u outer → Opened u
outer_opened Outer.none = Opened.nothing
outer_opened (Outer.open_one {u = u} {v = v} {w = w} o l n p) = subst Opened (regrouped u v w (at p S.OpenParenthesis ∷ [])) (Opened.suffix ((u ++ v) ++ w) p)

stands_deep : {u : List Placed} {s : State} → Stands u s → has_all_filters (selection_at s.left s.stage) ≡ true → HasAllFilters u
stands_deep {u = u} {s = s} x f = go (selection_at s.left s.stage) refl f
  where
    go : (o : Option Tree) → selection_at s.left s.stage ≡ o → has_all_filters o ≡ true → HasAllFilters u
    go None e f = cc
    go (Some y) e f = record { outside = x.outside; inside = x.inside; tree = y; split = x.spelled; opened = outer_opened x.outer; spells = within_selection x.within e; full = f }

deep_at : (before : List Placed) (t : Shape State) (symbol : Symbol) → read before ≡ Some t → is_deep_filter t symbol ≡ true → (is_filter_word symbol ≡ true) × HasAllFilters before
deep_at before (whole s) symbol r d = let parts = and_parts (is_filter_word symbol) (has_all_filters (selection_at s.left s.stage)) d in (parts.0, stands_deep (stood before (whole s) r) parts.1)
deep_at before nothing symbol r d = cc
deep_at before (word key to rest) symbol r d = cc
deep_at before (number to rest) symbol r d = cc
deep_at before (text to rest) symbol r d = cc
deep_at before (mark k to rest) symbol r d = cc

pub deep_stands : (before : List Placed) (symbol : Symbol) → is_deep_after before symbol ≡ true → (is_filter_word symbol ≡ true) × HasAllFilters before
deep_stands before symbol d = read_deep before symbol _ d (λ t r k. deep_at before t symbol r k)
