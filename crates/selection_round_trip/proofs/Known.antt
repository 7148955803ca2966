-- Symbols of a text that was read: what their texts are, and that they pass no limit.
use Rattle.std.proofs.Common.{◌≡◌, ◌≤◌, ◌+◌, ◌-◌, ℕ, Bool, true, false, cond, ◌||◌, ◌&&◌, List, [], ◌∷◌, ◌++◌, Option, Some, None, refl, ◌∙◌, ap, subst, arith}
use Rattle.std.proofs.lemmas.Bool.{ltb-false, or_parts}
use Rattle.std.specs.Prelude.{nat_le, nat_lt}
use Rattle.ft_parser.specs.Limits.{depth_after, exceeds}
use Rattle.ft_parser.specs.Selected.{open_after}
use Rattle.ft_parser.proofs.SelectedLaws.{open_on}
use Rattle.ft_base.specs.Limits.{max_number, max_open}
use Rattle.selection_grammar.specs.declared.symbol.Placed.{Placed}
use Rattle.selection_grammar.specs.declared.symbol.Symbol.{Symbol}
use Rattle.selection_grammar.specs.declared.symbol.Symbol.TheVariants as S
use Rattle.selection_grammar.specs.Grammar.{Spot, at, name, string}
use Rattle.selection_grammar.specs.Shapes as s
use Rattle.selection_grammar.specs.Shapes.{Shape, is_word, number_of, text_of, number_leads, text_leads, step, run, Spelled}
use Rattle.selection_round_trip.specs.Printable.{IsEncoded}
use Rattle.selection_round_trip.proofs.Fits.{Room}

abbrev pub Content : Symbol → Type 0
Content (S.Text text) = IsEncoded text
Content other = Unit {0}

-- where so many parentheses are open before them
abbrev pub Known : ℕ → List Placed → Type 0
Known d [] = Unit {0}
Known d (p ∷ rest) = Content p.symbol × (exceeds d p.symbol ≡ false) × Known (depth_after d p.symbol) rest

-- what follows of symbols that are known, with all parentheses closed after them
abbrev pub Kept : (ℕ → Type 0) → List Placed → Type 0
Kept F u = (d : ℕ) → Known d u → F d × (open_after d u ≡ d)

known_prefix : (u v : List Placed) (d : ℕ) → Known d (u ++ v) → Known d u
known_prefix [] v d h = tt
known_prefix (p ∷ u) v d h = (h.0, h.1, known_prefix u v (depth_after d p.symbol) h.2)

known_back : (u v : List Placed) (d : ℕ) → Known d (u ++ v) → Known (open_after d u) v
known_back [] v d h = h
known_back (p ∷ u) v d h = known_back u v (depth_after d p.symbol) h.2

pub kept_both : {F G : ℕ → Type 0} (u v : List Placed) → Kept F u → Kept G v → Kept (λ d. F d × G d) (u ++ v)
kept_both u v f g d h =
    let x = f d (known_prefix u v d h) in
    let y = g d (subst (λ n. Known n v) x.1 (known_back u v d h)) in
    ((x.0, y.0), open_on u v d ∙ ap (λ n. open_after n v) x.1 ∙ y.1)

pub kept_name : {F : ℕ → Type 0} (p : Spot) (key : List ℕ) (u : List Placed) → Kept F u → Kept F (name p key ∷ u)
kept_name p key u f d h = f d h.2

pub kept_comma : {F : ℕ → Type 0} (p : Spot) (u : List Placed) → Kept F u → Kept F (at p S.Comma ∷ u)
kept_comma p u f d h = f d h.2

pub kept_string : {F : ℕ → Type 0} (p : Spot) (t : List ℕ) (u : List Placed) → Kept F u → Kept (λ d. IsEncoded t × F d) (string p t ∷ u)
kept_string p t u f d h = let x = f d h.2 in ((h.0, x.0), x.1)

pub kept_nothing : Kept (λ d. Unit {0}) []
kept_nothing d h = (tt, refl)

pub kept_braces : {F : ℕ → Type 0} (p q : Spot) (u : List Placed) → Kept F u → Kept F (at p S.OpenBrace ∷ u ++ at q S.CloseBrace ∷ [])
kept_braces {F} p q u f d h =
    let last : List Placed = at q S.CloseBrace ∷ [] in
    let x = f d (known_prefix u last d h.2) in
    (x.0, open_on u last d ∙ x.1)

pub kept_closed : {F : ℕ → Type 0} (p q : Spot) (u : List Placed) → Kept F u → Kept (λ d. Room d × F (d + 1)) (at p S.OpenParenthesis ∷ u ++ at q S.CloseParenthesis ∷ [])
kept_closed {F} p q u f d h =
    let last : List Placed = at q S.CloseParenthesis ∷ [] in
    let x = f (d + 1) (known_prefix u last (d + 1) h.2) in
    let room : Room d = one (nat_le max_open d) h.1 in
    ((room, x.0), open_on u last (d + 1) ∙ ap (λ n. n - 1) x.1 ∙ back)
  where
    one : (b : Bool) → (false || (b && true)) ≡ false → b ≡ false
    one true e = e
    one false e = e

    back : (d + 1) - 1 ≡ d
    back = omega arith

pub kept_as : {F G : ℕ → Type 0} (u : List Placed) → ((d : ℕ) → F d → G d) → Kept F u → Kept G u
kept_as u k f d h = let x = f d h in (k d x.0, x.1)

-- shapes
abbrev pub Ends : {A : Type 0} → (A → Type 0) → Shape A → Type 0
Ends P (s.whole a) = P a
Ends P s.nothing = Unit {0}
Ends P (s.word key to rest) = ((p : ℕ) → Ends P (to p)) × Ends P rest
Ends P (s.number to rest) = ((n : ℕ) → n ≤ max_number → Ends P (to n)) × Ends P rest
Ends P (s.text to rest) = ((p : ℕ) (t : List ℕ) → IsEncoded t → Ends P (to p t)) × Ends P rest
Ends P (s.mark m to rest) = ⊥

abbrev StepEnds : {A : Type 0} → (A → Type 0) → ℕ → Symbol → Option (Shape A) → Type 0
StepEnds P d symbol None = Unit {0}
StepEnds P d symbol (Some x) = Ends P x × (depth_after d symbol ≡ d)

word_open : (key : List ℕ) (symbol : Symbol) (d : ℕ) → is_word key symbol ≡ true → depth_after d symbol ≡ d
word_open key (S.Name text) d h = refl
word_open key other d h = cc

by_word : {A : Type 0} (P : A → Type 0) (d : ℕ) (key : List ℕ) (symbol : Symbol) (b : Bool) → is_word key symbol ≡ b → (to : Shape A) (rest : Option (Shape A)) → Ends P to → StepEnds P d symbol rest → StepEnds P d symbol (cond b (Some to) rest)
by_word P d key symbol true e to rest h k = (h, word_open key symbol d e)
by_word P d key symbol false e to rest h k = k

by_number : {A : Type 0} (P : A → Type 0) (d : ℕ) (symbol : Symbol) → exceeds d symbol ≡ false → (to : ℕ → Shape A) (rest : Option (Shape A)) → ((n : ℕ) → n ≤ max_number → Ends P (to n)) → StepEnds P d symbol rest → StepEnds P d symbol (number_leads to rest (number_of symbol))
by_number P d (S.Number n) e to rest h k = (h n (ltb-false max_number n (or_parts (nat_lt max_number n) (nat_le max_open d && false) e).0), refl)
by_number P d other e to rest h k = k

by_text : {A : Type 0} (P : A → Type 0) (d : ℕ) (symbol : Symbol) → Content symbol → (to : List ℕ → Shape A) (rest : Option (Shape A)) → ((t : List ℕ) → IsEncoded t → Ends P (to t)) → StepEnds P d symbol rest → StepEnds P d symbol (text_leads to rest (text_of symbol))
by_text P d (S.Text t) e to rest h k = (h t e, refl)
by_text P d other e to rest h k = k

step_ends : {A : Type 0} (P : A → Type 0) (d : ℕ) (p : Placed) → Content p.symbol → exceeds d p.symbol ≡ false → (x : Shape A) → Ends P x → StepEnds P d p.symbol (step x p)
step_ends P d p c e (s.whole a) h = tt
step_ends P d p c e s.nothing h = tt
step_ends P d p c e (s.word key to rest) h = by_word P d key p.symbol (is_word key p.symbol) refl (to p.from) (step rest p) (h.0 p.from) (step_ends P d p c e rest h.1)
step_ends P d p c e (s.number to rest) h = by_number P d p.symbol e to (step rest p) h.0 (step_ends P d p c e rest h.1)
step_ends P d p c e (s.text to rest) h = by_text P d p.symbol c (to p.from) (step rest p) (h.0 p.from) (step_ends P d p c e rest h.1)
step_ends P d p c e (s.mark m to rest) h = absurd h

run_ends : {A : Type 0} (P : A → Type 0) (u : List Placed) (x : Option (Shape A)) (a : A) (d : ℕ) → ((y : Shape A) → x ≡ Some y → Ends P y) → run x u ≡ Some (s.whole a) → Known d u → P a × (open_after d u ≡ d)
run_ends P [] None a d h e k = cc
run_ends P [] (Some x) a d h e k = let same : x ≡ s.whole a = cc in (subst (Ends P) same (h x refl), refl)
run_ends P (p ∷ u) None a d h e k = cc
run_ends {A = A} P (p ∷ u) (Some x) a d h e k = go (step x p) (step_ends P d p k.0 k.1 x (h x refl)) e (λ y i l m. run_ends P u (Some y) a d (λ v f. let same : y ≡ v = cc in subst (Ends P) same i) l m)
  where
    none : (w : List Placed) → run None w ≡ Some (s.whole a) → ⊥
    none [] l = cc
    none (q ∷ w) l = cc

    go : (y : Option (Shape A)) → StepEnds P d p.symbol y → run y u ≡ Some (s.whole a) → ((y : Shape A) → Ends P y → run (Some y) u ≡ Some (s.whole a) → Known d u → P a × (open_after d u ≡ d)) → P a × (open_after (depth_after d p.symbol) u ≡ d)
    go None i l more = absurd (none u l)
    go (Some y) i l more = let z = more y i.0 l (subst (λ n. Known n u) i.1 k.2) in (z.0, ap (λ n. open_after n u) i.1 ∙ z.1)

pub kept_spelled : {A : Type 0} (P : A → Type 0) (x : Shape A) (u : List Placed) (a : A) → Ends P x → Spelled x u a → Kept (λ d. P a) u
kept_spelled P x u a h e d k = run_ends P u (Some x) a d (λ y f. let same : x ≡ y = cc in subst (Ends P) same h) e.runs k
