-- What a reader of lists says.
use Rattle.std.specs.Prelude.{◌≡◌, ℕ, Bool, true, false, Option, Some, None, Result, Err, ⊤}
use Rattle.ft_base.specs.declared.fault.ListFault.{ListFault}
use Rattle.ft_base.specs.declared.fault.ListFault.TheVariants.{BadLine, Memory}

-- true: the line gave the list; false: it is bad
abbrev pub Added : {L : Type 0} → Bool → Option L → L → Type 0
Added true next list = next ≡ Some list
Added false next list = next ≡ None

-- the fault is the first bad line, or want of memory
abbrev pub IsFault : {L : Type 0} → ListFault → Result L ℕ → Type 0
IsFault (BadLine line) read = read ≡ Err line
IsFault Memory read = ⊤
