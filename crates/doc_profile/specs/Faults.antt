-- What each fault of a text says.
use Rattle.std.specs.Prelude.{◌≡◌, ℕ, ◌+◌, ◌≤◌, List, length, encode_utf8_all, ⊤}
use Rattle.std.specs.Str.{IsUtf8, IsValidUpTo}
use Rattle.ft_base.specs.Limits.{max_depth, max_nodes}
use Rattle.plain_tree.specs.Document.{Node, Nodes}
use Rattle.doc_grammar.specs.Texts.{Kind, GoesWrong}
use Rattle.doc_grammar.specs.Limits.{Limit, depth_limit, node_limit, Passes, KeepsLimits, height, heights, node_count, nodes_count}
use Rattle.doc_profile.specs.declared.fault.DocFault.{DocFault}
use Rattle.doc_profile.specs.declared.fault.DocFault.TheVariants as faults

-- the text passes no limit
abbrev pub Fits : Kind → List ℕ → Type 0
Fits kind text = (prefix : List ℕ) (limit : Limit) → Passes max_depth max_nodes kind text prefix limit → ⊥

-- a node, and nodes, are no deeper and have no more elements and texts
abbrev pub IsWithin : Node → Type 0
IsWithin n = (height n ≤ max_depth) × (node_count n ≤ max_nodes)

abbrev pub AreWithin : Nodes → Type 0
AreWithin ns = (heights ns ≤ max_depth) × (nodes_count ns ≤ max_nodes)

-- the place after a prefix of a text that begins at the place `from`
abbrev pub IsPlace : ℕ → List ℕ → ℕ → Type 0
IsPlace from prefix at = at ≡ from + length (encode_utf8_all prefix)

-- the text goes wrong at the place, and passes no limit before
pub record SyntaxAt (kind : Kind) (text : List ℕ) (from at : ℕ) : Type 0 where
  pub prefix : List ℕ
  pub goes_wrong : GoesWrong kind text prefix
  pub keeps : KeepsLimits max_depth max_nodes kind text prefix
  pub is_place : IsPlace from prefix at

-- elements stand too deep from the place on, and no limit is passed before
pub record DepthAt (kind : Kind) (text : List ℕ) (from at : ℕ) : Type 0 where
  pub prefix : List ℕ
  pub passes : Passes max_depth max_nodes kind text prefix depth_limit
  pub keeps : KeepsLimits max_depth max_nodes kind text prefix
  pub is_place : IsPlace from prefix at

-- there are too many nodes from the place on, elements don't stand too deep there, and no limit is passed before
pub record NodesAt (kind : Kind) (text : List ℕ) (from at : ℕ) : Type 0 where
  pub prefix : List ℕ
  pub passes : Passes max_depth max_nodes kind text prefix node_limit
  pub not_deep : Passes max_depth max_nodes kind text prefix depth_limit → ⊥
  pub keeps : KeepsLimits max_depth max_nodes kind text prefix
  pub is_place : IsPlace from prefix at

-- a fault of characters, whose first stands at the place `from`
abbrev pub FaultIn : Kind → List ℕ → ℕ → DocFault → Type 0
FaultIn kind text from (faults.NotUtf8 at) = ⊥
FaultIn kind text from (faults.Syntax at) = SyntaxAt kind text from at
FaultIn kind text from (faults.Depth at) = DepthAt kind text from at
FaultIn kind text from (faults.Nodes at) = NodesAt kind text from at
FaultIn kind text from faults.Memory = ⊤

-- The bytes are not UTF-8, and the place is where they stop to be.
abbrev pub IsNotUtf8 : List ℕ → DocFault → Type 0
IsNotUtf8 bytes (faults.NotUtf8 at) = ¬ (IsUtf8 bytes) × IsValidUpTo bytes at
IsNotUtf8 bytes (faults.Syntax at) = ⊥
IsNotUtf8 bytes (faults.Depth at) = ⊥
IsNotUtf8 bytes (faults.Nodes at) = ⊥
IsNotUtf8 bytes faults.Memory = ⊥

-- a fault of bytes, whose text stands after the place `from`
abbrev pub FaultOf : Kind → List ℕ → List ℕ → ℕ → DocFault → Type 0
FaultOf kind bytes text from (faults.NotUtf8 at) = ¬ (IsUtf8 bytes) × IsValidUpTo bytes at
FaultOf kind bytes text from (faults.Syntax at) = IsUtf8 bytes × SyntaxAt kind text from at
FaultOf kind bytes text from (faults.Depth at) = IsUtf8 bytes × DepthAt kind text from at
FaultOf kind bytes text from (faults.Nodes at) = IsUtf8 bytes × NodesAt kind text from at
FaultOf kind bytes text from faults.Memory = ⊤

-- the same, and no want of memory
pub record IsFaultOf (kind : Kind) (bytes text : List ℕ) (from : ℕ) (fault : DocFault) : Type 0 where
  pub is_fault : FaultOf kind bytes text from fault
  pub no_memory : fault ≡ faults.Memory → ⊥
