-- The machine goes through what the grammar spells: between two constructs, and past what else may stand there.
use Rattle.std.proofs.Common.{◌≡◌, ℕ, Bool, true, false, cond, List, [], ◌∷◌, ◌++◌, Option, Some, None, refl, sym, ◌∙◌, ap, subst, append_assoc}
use Rattle.std.proofs.lemmas.List.{append-nil}
use Rattle.std.specs.Prelude.{codes}
use Rattle.ft_base.specs.declared.filter.Filter.{Filter}
use Rattle.ft_base.specs.declared.range.Range.{Range}
use Rattle.ft_base.specs.declared.words.Mode.{Mode}
use Rattle.ft_base.specs.declared.words.Mode.TheVariants as M
use Rattle.ft_base.specs.declared.options.StopTerm.{StopTerm}
use Rattle.ft_base.specs.declared.options.StopSource.{StopSource}
use Rattle.ft_base.specs.declared.options.StopSource.TheVariants.{At, Written}
use Rattle.ft_base.specs.declared.options.ThesaurusUse.{ThesaurusUse}
use Rattle.selection_grammar.specs.declared.symbol.Symbol.TheVariants as S
use Rattle.selection_grammar.specs.declared.symbol.Placed.{Placed}
use Rattle.selection_grammar.specs.declared.parsed.PlacedString.{PlacedString}
use Rattle.selection_grammar.specs.declared.parsed.PlacedOption.{PlacedOption}
use Rattle.selection_grammar.specs.declared.parsed.PlacedTimes.{PlacedTimes}
use Rattle.selection_grammar.specs.Shapes.{Shape, whole, nothing, word, number, text, mark, is_word, step, run, Spelled, or_else, and_then}
use Rattle.selection_grammar.specs.Keywords.{filters, times, levels, plain_option}
use Rattle.selection_grammar.specs.Tree as tree
use Rattle.selection_grammar.specs.Tree.{Tree, and_of, joined, Primary, phrases, inner}
use Rattle.selection_grammar.specs.Grammar as g
use Rattle.selection_grammar.specs.Grammar.{Spot, at, name, string, joint, Strings, Value, Moded, Timed, Named, Thesaurus, Thesauri, Source, Terms, Given, Options, Negation, Operand, Unary, Mild, Ands, Ors, Selection, texts_of}
use Rattle.selection_grammar.specs.steps.Machine as m
use Rattle.selection_grammar.specs.steps.Machine.{Left, nothing_left_of, Frame, Stage, State, next, advance, run_on, selection_at, selection_with, ors_with, ands_with, mild_with, operand_of, filtered_state, thesaurus_option, thesaurus_use, stop_option, start, close_next}
use Rattle.selection_grammar.proofs.Words.{word_is}
use Rattle.selection_grammar.proofs.Paths.{Paths, along}

abbrev pub st : List Frame → Left → Stage → State
st outer left stage = record { outer = outer; left = left; stage = stage }

-- from between two constructs to between two others
pub record Walks (s : State) (u : List Placed) (t : State) : Type 0 where
  pub ends : run_on (Some (whole s)) u ≡ Some (whole t)

pub run_on-append : (o : Option (Shape State)) (u v : List Placed) → run_on o (u ++ v) ≡ run_on (run_on o u) v
run_on-append None u v = refl
run_on-append (Some t) [] v = refl
run_on-append (Some t) (p ∷ u) v = run_on-append (advance t p) u v

pub stays : (s : State) → Walks s [] s
stays s = record { ends = refl }

pub goes_on : {s t r : State} {u v : List Placed} → Walks s u t → Walks t v r → Walks s (u ++ v) r
goes_on {s = s} {u = u} {v = v} a b = record { ends = run_on-append (Some (whole s)) u v ∙ ap (λ o. run_on o v) a.ends ∙ b.ends }

pub walks_same : {s t : State} {u w : List Placed} → Walks s u t → u ≡ w → Walks s w t
walks_same {s = s} {t = t} x e = subst (λ z. Walks s z t) e x

-- within a construct the machine only follows its shape
pub run_on_any : (u : List Placed) (o : Option (Shape State)) (r : Shape State) → run o u ≡ Some r → run_on o u ≡ Some r
run_on_any u None r e = e
run_on_any [] (Some t) r e = e
run_on_any (p ∷ u) (Some (whole a)) r e = cc
run_on_any (p ∷ u) (Some nothing) r e = cc
run_on_any (p ∷ u) (Some (word key to rest)) r e = run_on_any u (step (word key to rest) p) r e
run_on_any (p ∷ u) (Some (number to rest)) r e = run_on_any u (step (number to rest) p) r e
run_on_any (p ∷ u) (Some (text to rest)) r e = run_on_any u (step (text to rest) p) r e
run_on_any (p ∷ u) (Some (mark m to rest)) r e = run_on_any u (step (mark m to rest) p) r e

pub run_on_of : (u : List Placed) (o : Option (Shape State)) (s : State) → run o u ≡ Some (whole s) → run_on o u ≡ Some (whole s)
run_on_of u o s e = run_on_any u o (whole s) e

-- what stands next leads so from a state
pub record Takes (s : State) (shape : Shape State) : Type 0 where
  pub takes : (p : Placed) (u : List Placed) (t : State) → run (Some shape) (p ∷ u) ≡ Some (whole t) → run (Some (next s)) (p ∷ u) ≡ Some (whole t)

pub walk : {s : State} {shape : Shape State} → Takes s shape → (p : Placed) (u : List Placed) (t : State) → run (Some shape) (p ∷ u) ≡ Some (whole t) → Walks s (p ∷ u) t
walk {s = s} x p u t e = record { ends = run_on_of u (step (next s) p) t (x.takes p u t e) }

pub takes_own : (s : State) (shape : Shape State) → next s ≡ shape → Takes s shape
takes_own s shape same = record { takes = λ p u t e. ap (λ z. run (Some z) (p ∷ u)) same ∙ e }

-- a shape of keywords, none of which begins another shape
abbrev pub Apart : {A : Type 0} → Shape A → Shape A → Type 0
Apart (whole a) rest = ⊥
Apart nothing rest = Unit {0}
Apart (word key to others) rest = ((p : Spot) → step rest (name p key) ≡ None) × Apart others rest
Apart (number to others) rest = ⊥
Apart (text to others) rest = ⊥
Apart (mark m to others) rest = ⊥

not_both : {A : Type 0} (key : List ℕ) (rest : Shape A) → ((p : Spot) → step rest (name p key) ≡ None) → (p : Placed) (u : List Placed) (a : A) → is_word key p.symbol ≡ true → run (step rest p) u ≡ Some (whole a) → ⊥
not_both key rest other p u a k e =
    let symbol = word_is key p.symbol k in
    let there : step rest p ≡ None = ap (λ z. step rest (record { symbol = z; from = p.from; to = p.to })) symbol ∙ other (p.from, p.to) in
    let two : None ≡ Some (whole a) = sym (ap (λ o. run o u) there) ∙ e in
    cc

by_word : {A : Type 0} (x y : Option (Shape A)) (u : List Placed) (a : A) (b : Bool) → (b ≡ true → ⊥) → run y u ≡ Some (whole a) → run (cond b x y) u ≡ Some (whole a)
by_word x y u a true no_word e = absurd (no_word refl)
by_word x y u a false no_word e = e

-- it stands before the other without taking anything from it
pub past : {A : Type 0} (t rest : Shape A) → Apart t rest → (p : Placed) (u : List Placed) (a : A) → run (step rest p) u ≡ Some (whole a) → run (step (or_else t rest) p) u ≡ Some (whole a)
past (whole b) rest h p u a e = absurd h
past nothing rest h p u a e = e
past (word key to others) rest h p u a e = by_word (Some (to p.from)) (step (or_else others rest) p) u a (is_word key p.symbol) (λ k. not_both key rest h.0 p u a k e) (past others rest h.1 p u a e)
past (number to others) rest h p u a e = absurd h
past (text to others) rest h p u a e = absurd h
past (mark m to others) rest h p u a e = absurd h

pub takes_past : {s : State} (t rest : Shape State) → Takes s (or_else t rest) → Apart t rest → Takes s rest
takes_past t rest x apart = record { takes = λ p u r e. x.takes p u r (past t rest apart p u r e) }

pub walk_all : {s : State} {shape : Shape State} → Takes s shape → (u : List Placed) (t : State) → (Some shape ≡ Some (whole t) → ⊥) → run (Some shape) u ≡ Some (whole t) → Walks s u t
walk_all x [] t no_end e = absurd (no_end e)
walk_all x (p ∷ u) t no_end e = walk x p u t e

-- a closing parenthesis is no keyword
pub close_word : (outer : List Frame) (x : Tree) (p : Spot) (key : List ℕ) → step (close_next outer x) (name p key) ≡ None
close_word [] x p key = refl
close_word (frame ∷ outer) x p key = refl
