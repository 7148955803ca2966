-- The selection with which symbols begin: their longest prefix that begins one, the run.
use Rattle.std.specs.Prelude.{◌≡◌, ℕ, List, [], ◌∷◌, ◌++◌, Option, None}
use Rattle.ft_base.specs.Selection.{Form}
use Rattle.ft_base.specs.declared.fault.QueryFault.{QueryFault}
use Rattle.selection_grammar.specs.declared.symbol.Placed.{Placed}
use Rattle.selection_grammar.specs.Grammar.{Selection}
use Rattle.selection_grammar.specs.Texts.{Begins}
use Rattle.selection_grammar.specs.Tree.{Tree}
use Rattle.ft_parser.specs.Selected.{Selects, Refuses}

-- Some symbols begin a selection, and none does with the symbol after them.
pub record IsRun (run rest : List Placed) : Type 0 where
  pub begins : Begins run
  pub longest : (p : Placed) (more : List Placed) → rest ≡ p ∷ more → Begins (run ++ p ∷ []) → ⊥

-- The run is a selection within the limits and without a fault, and ends among the first of the symbols.
pub record EndsAmong (first rest : List Placed) : Type 0 where
  pub run : List Placed
  pub after : List Placed
  pub form : Form
  pub parts : first ≡ run ++ after
  pub is_run : IsRun run (after ++ rest)
  pub selects : Selects run None form

-- The fault of symbols where a selection is to begin, in a text of so many bytes that has a character that begins no symbol, or none.
pub data Misread (symbols : List Placed) (bad : Option ℕ) (size : ℕ) (fault : QueryFault) : Type 0 where
  -- the run is a selection, and has the fault, whatever stands after it
  whole : (run rest : List Placed) (tree : Tree) → symbols ≡ run ++ rest → IsRun run rest → Selection run tree → Refuses run None size fault
      → Misread symbols bad size fault
  -- the run is none: the symbols all together are refused as a selection
  part : (run rest : List Placed) → symbols ≡ run ++ rest → IsRun run rest → ((tree : Tree) → Selection run tree → ⊥)
      → Refuses symbols bad size fault → Misread symbols bad size fault
