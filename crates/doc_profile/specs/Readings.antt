-- What bytes are read as: the document or the fragment that they spell, or their first fault. Want of memory is none of them.
use Rattle.std.specs.Prelude.{◌≡◌, ℕ, ◌+◌, ◌-◌, Bool, false, nat_le, ◌==◌, List, [], ◌∷◌, length}
use Rattle.std.specs.Prelude.{Option, Some, None, Result, Ok, Err, if◌then◌else◌, encode_utf8, ⊤}
use Rattle.std.specs.Str.{chars, is_utf8}
use Rattle.std.specs.Str.Lossy.{utf8_valid_len}
use Rattle.plain_tree.specs.Document.{Node}
use Rattle.doc_grammar.specs.Grammar.{lines_from}
use Rattle.doc_grammar.specs.steps.Machine.{State, run_on, start, finished}
use Rattle.doc_grammar.specs.Texts.{Kind, without_mark, mark_len}
use Rattle.doc_grammar.specs.steps.Reading.{outer_of}
use Rattle.doc_grammar.specs.Limits.{text_here, element_here, place_count, depth}
use Rattle.ft_base.specs.Limits.{max_depth, max_nodes}
use Rattle.doc_profile.specs.declared.fault.DocFault.{DocFault}
use Rattle.doc_profile.specs.declared.fault.DocFault.TheVariants as faults

-- the limit that the next character passes, at its place
abbrev pub element_passes : State → ℕ → Option DocFault
element_passes s at = if nat_le max_depth (depth s.place.outer) then Some (faults.Depth (at - 1))
    else if nat_le max_nodes (place_count s.place) then Some (faults.Nodes (at - 1))
    else None

abbrev pub text_passes : State → ℕ → Option DocFault
text_passes s at = if nat_le max_nodes (place_count s.place) then Some (faults.Nodes at) else None

abbrev pub passes : State → Bool → ℕ → ℕ → Option DocFault
passes s after_return c at = if element_here s c then element_passes s at else if text_here s after_return c then text_passes s at else None

-- where the machine stands after the next character, whose line end it normalizes
abbrev pub taken : State → Bool → ℕ → Option State
taken s after_return c = run_on (Some s) (lines_from after_return (c ∷ []))

-- A limit comes first, and then a character that may not stand here.
abbrev pub or_fault : Option DocFault → Option State → ℕ → (State → Result State DocFault) → Result State DocFault
or_fault (Some fault) next at further = Err fault
or_fault None None at further = Err (faults.Syntax at)
or_fault None (Some s) at further = further s

-- where the machine stands after characters, the first of which has the place `at`
unfoldable pub walk : List ℕ → State → Bool → ℕ → Result State DocFault
walk [] s after_return at = Ok s
walk (c ∷ cs) s after_return at = or_fault (passes s after_return c at) (taken s after_return c) at (λ t. walk cs t (c == 13) (at + length (encode_utf8 c)))

-- what is read where the text ends at the place, or it ends too soon
abbrev pub or_too_soon : {A : Type 0} → Option A → ℕ → Result A DocFault
or_too_soon (Some x) end = Ok x
or_too_soon None end = Err (faults.Syntax end)

abbrev pub at_end : {A : Type 0} → (State → Option A) → ℕ → Result State DocFault → Result A DocFault
at_end nodes end (Ok s) = or_too_soon (nodes s) end
at_end nodes end (Err fault) = Err fault

-- the root of a document
abbrev pub only : Option (List Node) → Option Node
only None = None
only (Some []) = None
only (Some (n ∷ [])) = Some n
only (Some (n ∷ k ∷ ks)) = None

-- Bytes are UTF-8, or their fault is the place where they stop to be.
abbrev pub if_utf8 : {A : Type 0} → List ℕ → Result A DocFault → Result A DocFault
if_utf8 bytes answer = if is_utf8 bytes then answer else Err (faults.NotUtf8 (utf8_valid_len bytes))

-- the nodes of a text between two places
abbrev pub nodes_in : Kind → List ℕ → ℕ → ℕ → Result (List Node) DocFault
nodes_in kind text from end = at_end finished end (walk text (start (outer_of kind)) false from)

-- what bytes are read as by `read_doc`, and by `read_fragment`
unfoldable pub document_of : List ℕ → Result Node DocFault
document_of bytes =
    if_utf8 bytes
    (at_end (λ s. only (finished s)) (length bytes) (walk (without_mark (chars bytes)) (start (outer_of Kind.document)) false (mark_len (chars bytes))))

unfoldable pub fragment_of : List ℕ → Result (List Node) DocFault
fragment_of bytes = if_utf8 bytes (nodes_in Kind.fragment (chars bytes) 0 (length bytes))

-- an answer is this fault, unless memory runs out
abbrev pub Faults : {A : Type 0} → Result A DocFault → DocFault → Type 0
Faults answer (faults.NotUtf8 at) = answer ≡ Err (faults.NotUtf8 at)
Faults answer (faults.Syntax at) = answer ≡ Err (faults.Syntax at)
Faults answer (faults.Depth at) = answer ≡ Err (faults.Depth at)
Faults answer (faults.Nodes at) = answer ≡ Err (faults.Nodes at)
Faults answer faults.Memory = ⊤
