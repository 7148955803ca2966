-- What is answered of a selection is answered of it with a number, and with a place.
use Rattle.std.proofs.Common.{◌≡◌, Result, Err}
use Rattle.ft_base.specs.declared.fault.QueryFault.{QueryFault}
use Rattle.ft_base.specs.declared.fault.QueryFault.TheVariants as Q
use Rattle.ft_parser.specs.Answer.{Answered}

-- a fault is answered of whatever keeps faults
pub fault_kept : {A A' B B' : Type 0} (view : A → B) (view' : A' → B') (e : Result B QueryFault) (e' : Result B' QueryFault) (fault : QueryFault) → ((f : QueryFault) → Err f ≡ e → Err f ≡ e') → Answered view e (Err fault) → Answered view' e' (Err fault)
fault_kept view view' e e' (Q.Syntax at) kept h = kept (Q.Syntax at) h
fault_kept view view' e e' (Q.Deep at) kept h = kept (Q.Deep at) h
fault_kept view view' e e' (Q.Number at) kept h = kept (Q.Number at) h
fault_kept view view' e e' (Q.Phrases at) kept h = kept (Q.Phrases at) h
fault_kept view view' e e' (Q.OptionTwice at) kept h = kept (Q.OptionTwice at) h
fault_kept view view' e e' (Q.BadWildcard at) kept h = kept (Q.BadWildcard at) h
fault_kept view view' e e' (Q.MildNotExclude at) kept h = kept (Q.MildNotExclude at) h
fault_kept view view' e e' (Q.InsideFilter at) kept h = kept (Q.InsideFilter at) h
fault_kept view view' e e' Q.Memory kept h = tt

-- and of what is that fault
pub answered : {A B : Type 0} (view : A → B) (e : Result B QueryFault) (fault : QueryFault) → Err fault ≡ e → Answered view e (Err fault)
answered view e (Q.Syntax at) h = h
answered view e (Q.Deep at) h = h
answered view e (Q.Number at) h = h
answered view e (Q.Phrases at) h = h
answered view e (Q.OptionTwice at) h = h
answered view e (Q.BadWildcard at) h = h
answered view e (Q.MildNotExclude at) h = h
answered view e (Q.InsideFilter at) h = h
answered view e Q.Memory h = tt
