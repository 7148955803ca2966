-- What is read after a symbol, and after the symbols that were read with it.
use Rattle.std.proofs.Common.{◌≡◌, ◌<◌, ◌+◌, ℕ, zero, suc, true, false, cond, List, [], ◌∷◌, length, drop, get_or, Option, Result, Ok, Err, refl, sym, ◌∙◌, ap}
use Rattle.std.proofs.lemmas.List.{drop-drop, drop_more}
use Rattle.ft_base.specs.declared.fault.QueryFault.{QueryFault}
use Rattle.ft_base.specs.declared.fault.QueryFault.TheVariants as Q
use Rattle.ft_parser.specs.Answer.{Answered}
use Rattle.selection_grammar.specs.declared.symbol.Placed.{Placed}
use Rattle.path_grammar.specs.steps.Machine.{State, advance, open_count}
use Rattle.path_subset.specs.Answer.{Led, led_by, turned, further, read_from, ended_by, finished_path}
use Rattle.path_subset.specs.Limits.{exceeds, limit_fault}
use Rattle.path_subset.specs.Paths.{PlacedForm}

pub skipped : (s : State) (found : List PlacedForm) (count : ℕ) (symbols : List Placed) (bad : Option ℕ) (size : ℕ)
    → read_from s found count symbols bad size ≡ read_from s found 0 (drop count symbols) bad size
unfolding read_from
skipped s found zero symbols bad size = refl
skipped s found (suc count) [] bad size = refl
skipped s found (suc count) (p ∷ rest) bad size = skipped s found count rest bad size

-- one symbol on
pub first : (s : State) (found : List PlacedForm) (p : Placed) (rest : List Placed) (bad : Option ℕ) (size : ℕ)
    → read_from s found 0 (p ∷ rest) bad size ≡ further (turned s found p rest bad size) (λ l. read_from l.state l.selections l.count rest bad size)
unfolding read_from
first s found p rest bad size = refl

-- one symbol on, in a list of which so many are after
module _ (s : State) (found : List PlacedForm) (symbols : List Placed) (n : ℕ) (p : Placed) (bad : Option ℕ) (size : ℕ) (within : n < length symbols) (is : p ≡ get_or symbols n p) where
  at_symbol : read_from s found 0 (drop n symbols) bad size ≡ further (turned s found p (drop (n + 1) symbols) bad size) (λ l. read_from l.state l.selections l.count (drop (n + 1) symbols) bad size)
  at_symbol = ap (λ u. read_from s found 0 u bad size) (drop_more symbols n p within ∙ ap (λ q. q ∷ drop (n + 1) symbols) (sym is)) ∙ first s found p (drop (n + 1) symbols) bad size

  pub leads : (l : Led) → Ok l ≡ turned s found p (drop (n + 1) symbols) bad size
      → read_from l.state l.selections 0 (drop (n + 1 + l.count) symbols) bad size ≡ read_from s found 0 (drop n symbols) bad size
  leads l e =
      ap (λ u. read_from l.state l.selections 0 u bad size) (sym (drop-drop l.count (n + 1) symbols))
      ∙ sym (skipped l.state l.selections l.count (drop (n + 1) symbols) bad size)
      ∙ ap (λ r. further r (λ l. read_from l.state l.selections l.count (drop (n + 1) symbols) bad size)) e
      ∙ sym at_symbol

  pub halts : (fault : QueryFault) → Err fault ≡ turned s found p (drop (n + 1) symbols) bad size → Err fault ≡ read_from s found 0 (drop n symbols) bad size
  halts fault e = ap (λ r. further r (λ l. read_from l.state l.selections l.count (drop (n + 1) symbols) bad size)) e ∙ sym at_symbol

-- a fault that is expected in one place is in the other
pub stops : {A B C D : Type 0} (view : A → B) (other : C → D) (x : Result B QueryFault) (y : Result D QueryFault) (fault : QueryFault) → ((f : QueryFault) → Err f ≡ x → Err f ≡ y)
    → Answered view x (Err fault) → Answered other y (Err fault)
stops view other x y Q.Memory on h = h
stops view other x y (Q.Syntax at) on h = on (Q.Syntax at) h
stops view other x y (Q.Deep at) on h = on (Q.Deep at) h
stops view other x y (Q.Number at) on h = on (Q.Number at) h
stops view other x y (Q.Phrases at) on h = on (Q.Phrases at) h
stops view other x y (Q.OptionTwice at) on h = on (Q.OptionTwice at) h
stops view other x y (Q.BadWildcard at) on h = on (Q.BadWildcard at) h
stops view other x y (Q.MildNotExclude at) on h = on (Q.MildNotExclude at) h
stops view other x y (Q.InsideFilter at) on h = on (Q.InsideFilter at) h

pub nothing_left : (s : State) (found : List PlacedForm) (bad : Option ℕ) (size : ℕ) → read_from s found 0 [] bad size ≡ ended_by bad size found (finished_path s)
unfolding read_from
nothing_left s found bad size = refl

pub at_end : (s : State) (found : List PlacedForm) (symbols : List Placed) (n : ℕ) (bad : Option ℕ) (size : ℕ) → drop n symbols ≡ []
    → read_from s found 0 (drop n symbols) bad size ≡ ended_by bad size found (finished_path s)
at_end s found symbols n bad size e = ap (λ u. read_from s found 0 u bad size) e ∙ nothing_left s found bad size

-- where no limit is passed
pub turned_within : (s : State) (found : List PlacedForm) (p : Placed) (rest : List Placed) (bad : Option ℕ) (size : ℕ) → exceeds (open_count s) p.symbol ≡ false
    → led_by p (advance s p) found rest bad size ≡ turned s found p rest bad size
unfolding turned
turned_within s found p rest bad size h = sym (ap (λ b. cond b (Err (limit_fault p)) (led_by p (advance s p) found rest bad size)) h)

-- and where one is
pub turned_past : (s : State) (found : List PlacedForm) (p : Placed) (rest : List Placed) (bad : Option ℕ) (size : ℕ) → exceeds (open_count s) p.symbol ≡ true
    → turned s found p rest bad size ≡ Err (limit_fault p)
unfolding turned
turned_past s found p rest bad size h = ap (λ b. cond b (Err (limit_fault p)) (led_by p (advance s p) found rest bad size)) h
