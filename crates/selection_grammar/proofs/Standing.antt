-- What the symbols that the machine has read spell, wherever it stands.
use Rattle.std.proofs.Common.{◌≡◌, ℕ, Bool, false, List, [], ◌∷◌, ◌++◌, Option, Some, None, sym, subst, append_assoc}
use Rattle.std.proofs.lemmas.List.{append-nil}
use Rattle.std.specs.Prelude.{codes}
use Rattle.ft_base.specs.declared.words.Mode.{Mode}
use Rattle.ft_base.specs.declared.words.Mode.TheVariants as M
use Rattle.ft_base.specs.declared.options.StopTerm.{StopTerm}
use Rattle.ft_base.specs.declared.options.ThesaurusUse.{ThesaurusUse}
use Rattle.selection_grammar.specs.declared.symbol.Symbol.TheVariants as S
use Rattle.selection_grammar.specs.declared.symbol.Placed.{Placed}
use Rattle.selection_grammar.specs.declared.parsed.PlacedString.{PlacedString}
use Rattle.selection_grammar.specs.declared.parsed.PlacedOption.{PlacedOption}
use Rattle.selection_grammar.specs.Tree as tree
use Rattle.selection_grammar.specs.Tree.{Tree, and_of, joined, Primary}
use Rattle.selection_grammar.specs.Grammar as g
use Rattle.selection_grammar.specs.Grammar.{Spot, at, name, joint, Strings, Value, Moded, Named, Thesauri, Terms, Given, Options, Negation, Operand, Unary, Mild, Ands, Ors, Selection}
use Rattle.selection_grammar.specs.steps.Machine as m
use Rattle.selection_grammar.specs.steps.Machine.{Left, nothing_left_of, Frame, Stage, State, mild_with, ands_with, ors_with, selection_with, operand_of}

-- what stands before the last `ftor`, before the last `ftand` after it, and before `not in` after that
pub data LeftOrs : List Placed → List Tree → Type 0 where
  none : LeftOrs [] []
  some : {u : List Placed} {xs : List Tree} → Ors u xs → (p : Spot) → LeftOrs (u ++ name p (codes "ftor") ∷ []) xs

pub data LeftAnds : List Placed → List Tree → Type 0 where
  none : LeftAnds [] []
  some : {u : List Placed} {xs : List Tree} → Ands u xs → (p : Spot) → LeftAnds (u ++ name p (codes "ftand") ∷ []) xs

pub data LeftMild : List Placed → Option Tree → Type 0 where
  none : LeftMild [] None
  some : {u : List Placed} {x : Tree} → Mild u x → (p q : Spot) → LeftMild (u ++ name p (codes "not") ∷ name q (codes "in") ∷ []) (Some x)

pub data Lefts : List Placed → Left → Type 0 where
  lefts : {u v w : List Placed} {xs ys : List Tree} {z : Option Tree} → LeftOrs u xs → LeftAnds v ys → LeftMild w z → Lefts (u ++ v ++ w) (record { ors = xs; ands = ys; mild = z })

-- an operand with whole options
pub data Base : List Placed → Option ℕ → Primary → List PlacedOption → Type 0 where
  base : {u v w : List Placed} {n : Option ℕ} {x : Primary} {os : List PlacedOption} → Negation u n → Operand v x → Options w os → Base (u ++ v ++ w) n x os

-- stop terms before a further one, and whether that is after `except`
pub data TermsBefore : List Placed → List StopTerm → Bool → Type 0 where
  none : TermsBefore [] [] false
  some : {u : List Placed} {xs : List StopTerm} → Terms u xs → (p : Spot) (except : Bool) → TermsBefore (u ++ name p (joint except) ∷ []) xs except

-- uses of thesauri before a further one
pub data UsesBefore : List Placed → List ThesaurusUse → Type 0 where
  none : UsesBefore [] []
  some : {u : List Placed} {xs : List ThesaurusUse} → Thesauri u xs → (p : Spot) → UsesBefore (u ++ at p S.Comma ∷ []) xs

abbrev pub using_stop : Spot → Spot → Spot → List Placed → List Placed
using_stop p q r u = name p (codes "using") ∷ name q (codes "stop") ∷ name r (codes "words") ∷ u

abbrev pub using_thesaurus : Spot → Spot → List Placed → List Placed
using_thesaurus p q u = name p (codes "using") ∷ name q (codes "thesaurus") ∷ u

-- the operand under way
pub data Under : List Placed → Stage → Type 0 where
  wanted : {u : List Placed} {n : Option ℕ} → Negation u n → Under u (m.wanted n)
  in_braces : {u v : List Placed} {n : Option ℕ} {xs : List PlacedString} → Negation u n → (p : Spot) → Strings v xs → Under (u ++ at p S.OpenBrace ∷ v) (m.in_braces n xs)
  valued : {u v : List Placed} {n : Option ℕ} {xs : List PlacedString} → Negation u n → Value v xs → Under (u ++ v) (m.valued n xs)
  any_of : {u v : List Placed} {n : Option ℕ} {xs : List PlacedString} → Negation u n → Value v xs → (p : Spot) → Under (u ++ v ++ name p (codes "any") ∷ []) (m.any_of n xs)
  all_of : {u v : List Placed} {n : Option ℕ} {xs : List PlacedString} → Negation u n → Value v xs → (p : Spot) → Under (u ++ v ++ name p (codes "all") ∷ []) (m.all_of n xs)
  moded : {u v w : List Placed} {n : Option ℕ} {xs : List PlacedString} {mode : Mode} → Negation u n → Value v xs → Moded w mode → Under (u ++ v ++ w) (m.moded n xs mode)
  given_options : {u : List Placed} {n : Option ℕ} {x : Primary} {os : List PlacedOption} → Base u n x os → Under u (m.given_options n x os)
  stop_terms : {u v : List Placed} {n : Option ℕ} {x : Primary} {os : List PlacedOption} {ts : List StopTerm} → Base u n x os → (p q r : Spot) → Terms v ts
      → Under (u ++ using_stop p q r v) (m.stop_terms n x os p.0 ts)
  stop_strings : {u v w : List Placed} {n : Option ℕ} {x : Primary} {os : List PlacedOption} {ts : List StopTerm} {except : Bool} {xs : List PlacedString} → Base u n x os → (p q r : Spot) → TermsBefore v ts except → (t : Spot) → Strings w xs
      → Under (u ++ using_stop p q r (v ++ at t S.OpenParenthesis ∷ w)) (m.stop_strings n x os p.0 ts except xs)
  thesaurus : {u v : List Placed} {n : Option ℕ} {x : Primary} {os : List PlacedOption} {s : List ℕ} {r : Option (List ℕ)} → Base u n x os → (p q : Spot) → Named v s r
      → Under (u ++ using_thesaurus p q v) (m.thesaurus n x os p.0 s r)
  thesaurus_in : {u v w : List Placed} {n : Option ℕ} {x : Primary} {os : List PlacedOption} {us : List ThesaurusUse} {s : List ℕ} {r : Option (List ℕ)} → Base u n x os → (p q t : Spot) → UsesBefore v us → Named w s r
      → Under (u ++ using_thesaurus p q (at t S.OpenParenthesis ∷ v ++ w)) (m.thesaurus_in n x os p.0 us s r)
  thesauri_in : {u v : List Placed} {n : Option ℕ} {x : Primary} {os : List PlacedOption} {us : List ThesaurusUse} → Base u n x os → (p q t : Spot) → Thesauri v us
      → Under (u ++ using_thesaurus p q (at t S.OpenParenthesis ∷ v)) (m.thesauri_in n x os p.0 us)

-- the selection under way
pub data Within : List Placed → Left → Stage → Type 0 where
  operand : {u v : List Placed} {left : Left} {stage : Stage} → Lefts u left → Under v stage → Within (u ++ v) left stage
  filtered : {u : List Placed} {x : Tree} → Selection u x → Within u nothing_left_of (m.with_filter x)

-- the open parentheses
pub data Outer : List Placed → List Frame → Type 0 where
  none : Outer [] []
  open_one : {u v w : List Placed} {outer : List Frame} {left : Left} {n : Option ℕ} → Outer u outer → Lefts v left → Negation w n → (p : Spot)
      → Outer (u ++ v ++ w ++ at p S.OpenParenthesis ∷ []) (record { left = left; negation = n } ∷ outer)

pub record Stands (u : List Placed) (s : State) : Type 0 where
  pub outside : List Placed
  pub inside : List Placed
  pub spelled : u ≡ outside ++ inside
  pub outer : Outer outside s.outer
  pub within : Within inside s.left s.stage

-- the same symbols, written otherwise
pub mild_same : {u w : List Placed} {x : Tree} → Mild u x → u ≡ w → Mild w x
mild_same {x = x} a e = subst (λ z. Mild z x) e a

pub ands_same : {u w : List Placed} {x : List Tree} → Ands u x → u ≡ w → Ands w x
ands_same {x = x} a e = subst (λ z. Ands z x) e a

pub ors_same : {u w : List Placed} {x : List Tree} → Ors u x → u ≡ w → Ors w x
ors_same {x = x} a e = subst (λ z. Ors z x) e a

pub selection_same : {u w : List Placed} {x : Tree} → Selection u x → u ≡ w → Selection w x
selection_same {x = x} a e = subst (λ z. Selection z x) e a

pub lefts_same : {u w : List Placed} {x : Left} → Lefts u x → u ≡ w → Lefts w x
lefts_same {x = x} a e = subst (λ z. Lefts z x) e a

pub base_same : {u w : List Placed} {n : Option ℕ} {x : Primary} {os : List PlacedOption} → Base u n x os → u ≡ w → Base w n x os
base_same {n = n} {x = x} {os = os} a e = subst (λ z. Base z n x os) e a

-- what stands to the left, and an operand
pub with_mild : {u v : List Placed} {m : Option Tree} {y : Tree} → LeftMild u m → Unary v y → Mild (u ++ v) (mild_with m y)
with_mild none y = g.Mild.first_mild y
with_mild {v = v} (some {u = u} x p q) y = mild_same (g.Mild.further_mild x p q y) (sym (append_assoc u (name p (codes "not") ∷ name q (codes "in") ∷ []) v))

pub with_ands : {u v : List Placed} {xs : List Tree} {y : Tree} → LeftAnds u xs → Mild v y → Ands (u ++ v) (xs ++ y ∷ [])
with_ands none y = g.Ands.first_and y
with_ands {v = v} (some {u = u} x p) y = ands_same (g.Ands.further_and x p y) (sym (append_assoc u (name p (codes "ftand") ∷ []) v))

pub with_ors : {u v : List Placed} {xs ys : List Tree} → LeftOrs u xs → Ands v ys → Ors (u ++ v) (xs ++ joined and_of ys ∷ [])
with_ors none y = g.Ors.first_or y
with_ors {v = v} (some {u = u} x p) y = ors_same (g.Ors.further_or x p y) (sym (append_assoc u (name p (codes "ftor") ∷ []) v))

pub left_selection : {u v : List Placed} {left : Left} {y : Tree} → Lefts u left → Unary v y → Selection (u ++ v) (selection_with left y)
left_selection {v = d} (lefts {u = a} {v = b} {w = c} x y z) e = selection_same (g.Selection.plain (with_ors x (with_ands y (with_mild z e)))) (regroup a b c d)
  where
    regroup : (a b c d : List Placed) → a ++ (b ++ (c ++ d)) ≡ a ++ b ++ c ++ d
    regroup a b c d = simp append_assoc

-- after `ftor`, `ftand` and `not in`
pub left_or : {u v : List Placed} {left : Left} {y : Tree} → Lefts u left → Unary v y → (p : Spot) → Lefts (u ++ v ++ name p (codes "ftor") ∷ []) (record { ors = ors_with left y; ands = []; mild = None })
left_or {v = d} (lefts {u = a} {v = b} {w = c} x y z) e p = lefts_same (lefts (some (with_ors x (with_ands y (with_mild z e))) p) none none) (regroup a b c d (name p (codes "ftor") ∷ []))
  where
    regroup : (a b c d q : List Placed) → a ++ (b ++ (c ++ d)) ++ q ++ [] ++ [] ≡ a ++ b ++ c ++ d ++ q
    regroup a b c d q = simp (append_assoc, append-nil)

pub left_and : {u v : List Placed} {left : Left} {y : Tree} → Lefts u left → Unary v y → (p : Spot) → Lefts (u ++ v ++ name p (codes "ftand") ∷ []) (record { ors = left.ors; ands = ands_with left y; mild = None })
left_and {v = d} (lefts {u = a} {v = b} {w = c} x y z) e p = lefts_same (lefts x (some (with_ands y (with_mild z e)) p) none) (regroup a b c d (name p (codes "ftand") ∷ []))
  where
    regroup : (a b c d q : List Placed) → a ++ (b ++ (c ++ d) ++ q) ++ [] ≡ a ++ b ++ c ++ d ++ q
    regroup a b c d q = simp (append_assoc, append-nil)

pub left_mild : {u v : List Placed} {left : Left} {y : Tree} → Lefts u left → Unary v y → (p q : Spot) → Lefts (u ++ v ++ name p (codes "not") ∷ name q (codes "in") ∷ []) (record { ors = left.ors; ands = left.ands; mild = Some (mild_with left.mild y) })
left_mild {v = d} (lefts {u = a} {v = b} {w = c} x y z) e p q = lefts_same (lefts x y (some (with_mild z e) p q)) (regroup a b c d (name p (codes "not") ∷ name q (codes "in") ∷ []))
  where
    regroup : (a b c d q : List Placed) → a ++ b ++ (c ++ d ++ q) ≡ a ++ b ++ c ++ d ++ q
    regroup a b c d q = simp append_assoc

pub nothing_left : Lefts [] nothing_left_of
nothing_left = lefts none none none

pub base_unary : {u : List Placed} {n : Option ℕ} {x : Primary} {os : List PlacedOption} → Base u n x os → Unary u (operand_of n x os)
base_unary (base n x os) = g.Unary.unary n x os

pub base_option : {u v : List Placed} {n : Option ℕ} {x : Primary} {os : List PlacedOption} {o : PlacedOption} → Base u n x os → Given v o → Base (u ++ v) n x (os ++ o ∷ [])
base_option {v = d} (base {u = a} {v = b} {w = c} n x os) o = base_same (base n x (g.Options.further os o)) (sym (append_assoc (a ++ b) c d))
