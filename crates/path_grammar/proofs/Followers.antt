-- What ends a condition goes on with no selection that is whole.
use Rattle.std.proofs.Common.{◌≡◌, List, [], ◌∷◌, Some, None, refl}
use Rattle.std.specs.Prelude.{codes}
use Rattle.selection_grammar.specs.declared.symbol.Symbol.{Symbol}
use Rattle.selection_grammar.specs.declared.symbol.Symbol.TheVariants as S
use Rattle.selection_grammar.specs.Grammar.{Spot, at}
use Rattle.selection_grammar.specs.Shapes.{Shape, whole, nothing, word, number, text, mark, step}
use Rattle.selection_grammar.specs.steps.Machine as selection
use Rattle.selection_grammar.specs.steps.Machine.{Left, Frame, State, next, next_at, advance, finished_at, finished_in, selection_at}
use Rattle.selection_grammar.specs.Tree.{Tree}

-- `]`, `)`, `and` and `or`
pub data Follower : Symbol → Type 0 where
  close_bracket : Follower S.CloseBracket
  close_parenthesis : Follower S.CloseParenthesis
  and : Follower (S.Name (codes "and"))
  or : Follower (S.Name (codes "or"))

-- those, and `without`, end a selection
pub data Ending : Symbol → Type 0 where
  follower : {z : Symbol} → Follower z → Ending z
  without : Ending (S.Name (codes "without"))

stage_stops : {z : Symbol} (p : Spot) (left : Left) (stage : selection.Stage) (x : Tree) → Ending z → selection_at left stage ≡ Some x → step (next_at [] left stage) (at p z) ≡ None
stage_stops p left (selection.thesaurus n y os at s None) x (Ending.follower close_bracket) e = refl
stage_stops p left (selection.thesaurus n y os at s None) x (Ending.follower close_parenthesis) e = refl
stage_stops p left (selection.thesaurus n y os at s None) x (Ending.follower and) e = refl
stage_stops p left (selection.thesaurus n y os at s None) x (Ending.follower or) e = refl
stage_stops p left (selection.thesaurus n y os at s None) x Ending.without e = refl
stage_stops p left (selection.thesaurus n y os at s (Some r)) x (Ending.follower close_bracket) e = refl
stage_stops p left (selection.thesaurus n y os at s (Some r)) x (Ending.follower close_parenthesis) e = refl
stage_stops p left (selection.thesaurus n y os at s (Some r)) x (Ending.follower and) e = refl
stage_stops p left (selection.thesaurus n y os at s (Some r)) x (Ending.follower or) e = refl
stage_stops p left (selection.thesaurus n y os at s (Some r)) x Ending.without e = refl
stage_stops p left other x (Ending.follower close_bracket) e = cc
stage_stops p left other x (Ending.follower close_parenthesis) e = cc
stage_stops p left other x (Ending.follower and) e = cc
stage_stops p left other x (Ending.follower or) e = cc
stage_stops p left other x Ending.without e = cc

state_stops : {z : Symbol} (p : Spot) (outer : List Frame) (left : Left) (stage : selection.Stage) (x : Tree) → Ending z → finished_in outer (selection_at left stage) ≡ Some x → step (next_at outer left stage) (at p z) ≡ None
state_stops p [] left stage x f e = stage_stops p left stage x f e
state_stops p (frame ∷ outer) left stage x f e = cc

pub selection_stops : {z : Symbol} (p : Spot) (t : Shape State) (x : Tree) → Ending z → finished_at t ≡ Some x → advance t (at p z) ≡ None
unfolding next
selection_stops p (whole s) x f e = state_stops p s.outer s.left s.stage x f e
selection_stops p nothing x f e = refl
selection_stops p (word key to rest) x f e = cc
selection_stops p (number to rest) x f e = cc
selection_stops p (text to rest) x f e = cc
selection_stops p (mark m to rest) x f e = cc
