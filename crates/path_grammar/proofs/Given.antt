-- A value with its selections: two that are equal have the same value and the same selections.
use Rattle.std.proofs.Common.{◌≡◌, List, Option, Some, None, ap}
use Rattle.path_grammar.specs.Grammar.{Inside}

abbrev pub given : {A : Type 0} → A → List Inside → Option (A × List Inside)
given a selections = Some (a, selections)

abbrev value_or : {A : Type 0} → A → Option (A × List Inside) → A
value_or a None = a
value_or a (Some x) = x.0

abbrev selections_or : {A : Type 0} → List Inside → Option (A × List Inside) → List Inside
selections_or selections None = selections
selections_or selections (Some x) = x.1

pub same_value : {A : Type 0} {a b : A} {ss ts : List Inside} → given a ss ≡ given b ts → a ≡ b
same_value {a = a} e = ap (value_or a) e

pub same_selections : {A : Type 0} {a b : A} {ss ts : List Inside} → given a ss ≡ given b ts → ss ≡ ts
same_selections {ss = ss} e = ap (selections_or ss) e
