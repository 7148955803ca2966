-- Why a text is refused as a path.
use Rattle.std.specs.Prelude.{◌≡◌, ℕ, true, false, List, [], ◌∷◌, ◌++◌, length, Option, Some, None}
use Rattle.ft_base.specs.declared.fault.QueryFault.{QueryFault}
use Rattle.ft_base.specs.declared.fault.QueryFault.TheVariants as Q
use Rattle.selection_grammar.specs.declared.symbol.Placed.{Placed}
use Rattle.selection_grammar.specs.steps.Machine as selection
use Rattle.selection_grammar.specs.Shapes.{whole}
use Rattle.query_lexer.specs.Symbols.{symbols_of}
use Rattle.path_grammar.specs.declared.path.PathRoot.{PathRoot}
use Rattle.path_grammar.specs.Form as form
use Rattle.path_grammar.specs.Grammar.{Inside, Path, Begins}
use Rattle.path_grammar.specs.steps.Machine.{State, Frame, Joint, along, stand, selecting, read, open_count}
use Rattle.path_subset.specs.Limits.{exceeds, limit_fault, Within}
use Rattle.path_subset.specs.Runs.{EndsAmong, Misread}

-- The symbols before a place end with `contains text`.
pub data WantSelection (before : List Placed) : Type 0 where
  after_text : (root : PathRoot) (frames : List Frame) (joint : Joint) (insides : List Inside) (steps : List form.Step)
      → read before ≡ Some (along root (stand frames joint insides (selecting steps [] (whole selection.start)))) → WantSelection before

-- Nothing is wrong with some symbols before others: they begin a path; outside of all selections none of them exceeds a limit; and each selection that
-- begins among them is within the limits and without a fault, and ends among them.
pub record MayStand (before rest : List Placed) : Type 0 where
  pub begins : Begins before
  pub limits : Within before
  pub selections : (prefix inner : List Placed) → before ≡ prefix ++ inner → WantSelection prefix → EndsAmong inner rest

-- The cause of a fault, in a text of so many bytes that has a character that begins no symbol, or none. Nothing is wrong with the symbols before it, so
-- that the first fault counts. Any fault of a selection counts where the selection begins: before all that stands after the selection, and after
-- the faults of the selections before it.
pub data Refuses (symbols : List Placed) (bad : Option ℕ) (size : ℕ) : QueryFault → Type 0 where
  -- a number is too great, or a bracket or parenthesis opens where as many are open as may be
  limit : (before : List Placed) (p : Placed) (rest : List Placed) (s : State) → symbols ≡ before ++ p ∷ rest → MayStand before (p ∷ rest)
      → read before ≡ Some s → exceeds (open_count s) p.symbol ≡ true → Refuses symbols bad size (limit_fault p)
  -- with the symbol there, which exceeds no limit, they begin no path
  symbol : (before : List Placed) (p : Placed) (rest : List Placed) (s : State) → symbols ≡ before ++ p ∷ rest → MayStand before (p ∷ rest)
      → read before ≡ Some s → exceeds (open_count s) p.symbol ≡ false → (Begins (before ++ p ∷ []) → ⊥)
      → Refuses symbols bad size (Q.Syntax p.from)
  -- after `contains text`, of which that symbol is the last, no selection is read
  misread : (before : List Placed) (p : Placed) (rest : List Placed) (fault : QueryFault) → symbols ≡ before ++ p ∷ rest
      → MayStand before (p ∷ rest) → WantSelection (before ++ p ∷ []) → Misread rest bad size fault → Refuses symbols bad size fault
  -- a character after all symbols begins none
  character : (at : ℕ) → bad ≡ Some at → MayStand symbols [] → Refuses symbols bad size (Q.Syntax at)
  -- the text ends before the path does
  end : bad ≡ None → MayStand symbols [] → ((value : form.Path) (insides : List Inside) → Path symbols value insides → ⊥)
      → Refuses symbols bad size (Q.Syntax size)

-- the same of a text
abbrev pub IsFaultOf : List ℕ → QueryFault → Type 0
IsFaultOf text fault = Refuses (symbols_of text).placed (symbols_of text).bad (length text) fault
