-- Looking at the hits of an operator's phrases for how many includes its ways have, and how large they are in a unit.
use Rattle.std.specs.Prelude.{◌≡◌, ℕ, ◌≤◌, Bool, true, false, ◌&&◌, nat_le, fold, Option, Some, None}
use Rattle.ft_base.specs.declared.filter.Filter.{Filter}
use Rattle.ft_base.specs.declared.unit.TextUnit.{TextUnit}
use Rattle.ft_base.specs.declared.unit.TextUnit.TheVariants.{Words, Sentences, Paragraphs}
use Rattle.all_matches.specs.Ways.{Operator}
use Rattle.ft_operators.specs.declared.extent.Extent.{Extent}
use Rattle.ft_operators.specs.declared.extent.UnitExtents.{UnitExtents}
use Rattle.ft_operators.specs.declared.measuring.Extents.{Extents}
use Rattle.ft_operators.specs.declared.measuring.Told.{Told}
use Rattle.ft_operators.specs.Extents.{extent_of, extent_beside, extent_inside, extent_of_either, extent_of_both, extent_behind, extent_before, longer, longest, no_include}
use Rattle.ft_operators.specs.Phrases.{PhraseState}
use Rattle.ft_operators.specs.Standing.{Frame}
use Rattle.ft_operators.specs.Starts.{hits_of, starts_rise}

abbrev pub extents_of : TextUnit → Operator → Extents
extents_of kind operator = record { own = extent_of kind operator; inside = extent_inside kind operator; beside = extent_beside kind operator }

-- what two operands make, and what a filter makes of its operand
abbrev pub extents_of_either : Extents → Extents → Extents
extents_of_either left right = record {
  own = extent_of_either left.own right.own;
  inside = extent_of_either left.inside right.inside;
  beside = extent_of_either left.beside right.beside;
}

abbrev pub extents_of_both : Extents → Extents → Extents
extents_of_both left right = record {
  own = extent_of_both left.own right.own;
  inside = extent_of_either left.inside right.inside;
  beside = extent_of_either left.beside right.beside;
}

abbrev pub extents_of_apart : Extents → Extents → Extents
extents_of_apart left right = record {
  own = left.own;
  inside = extent_of_either left.inside right.inside;
  beside = extent_of_either right.own (extent_of_either left.beside right.beside);
}

abbrev pub extents_of_negated : Extents → Extents
extents_of_negated operand = record { own = no_include; inside = operand.inside; beside = operand.beside }

abbrev pub extents_behind : TextUnit → Filter → Extents → Extents
extents_behind kind filter operand = record {
  own = extent_behind kind filter operand.own;
  inside = extent_of_either operand.inside (extent_before kind filter operand.own);
  beside = operand.beside;
}

-- whether an extent, where one is said, is no less than another
abbrev pub holds : Option Extent → Option Extent → Bool
holds None other = true
holds (Some extent) None = false
holds (Some extent) (Some other) = nat_le other.includes extent.includes && nat_le other.size extent.size

-- whether an extent, where one is told, is no less than that of an operator before the distances in a unit, and its hits begin in order
abbrev pub is_held : TextUnit → Option Extent → Operator → Bool
is_held kind None operator = true
is_held kind (Some extent) operator = holds (Some extent) (extent_inside kind operator) && starts_rise kind (hits_of operator)

-- the same of those told in each unit
abbrev pub are_held : UnitExtents → Operator → Bool
are_held extents operator = is_held Words extents.words operator && (is_held Sentences extents.sentences operator && is_held Paragraphs extents.paragraphs operator)

-- an operator whose hits were looked at, and what was found
pub record IsMeasured (kind : TextUnit) (old new : Frame) (start end : ℕ) (answer : Extents) : Type 0 where
  pub same : new ≡ old
  pub found : answer ≡ extents_of kind old.operator
  pub grown : start ≤ end

pub record AreMeasured (kind : TextUnit) (left left_new right right_new : Frame) (start end : ℕ) (first second : Extents) : Type 0 where
  pub same_left : left_new ≡ left
  pub same_right : right_new ≡ right
  pub found_left : first ≡ extents_of kind left.operator
  pub found_right : second ≡ extents_of kind right.operator
  pub grown : start ≤ end

-- what is told of an operator in a unit holds for it
pub record IsLimited (kind : TextUnit) (old new : Frame) (start end : ℕ) (answer : Extents) : Type 0 where
  pub same : new ≡ old
  pub holds_inside : holds answer.inside (extent_inside kind old.operator) ≡ true
  pub holds_beside : holds answer.beside (extent_beside kind old.operator) ≡ true
  pub grown : start ≤ end

-- the same where its hits begin in order
pub record IsToldIn (kind : TextUnit) (old new : Frame) (start end : ℕ) (answer : Option Extent) : Type 0 where
  pub same : new ≡ old
  pub held : is_held kind answer old.operator ≡ true
  pub grown : start ≤ end

-- and in each unit
pub record IsTold (old new : Frame) (start end : ℕ) (answer : Told) : Type 0 where
  pub same : new ≡ old
  pub held : are_held answer.extents old.operator ≡ true
  pub beside : holds answer.beside (extent_beside Words old.operator) ≡ true
  pub grown : start ≤ end

-- a phrase all of whose hits were looked at
pub record IsPassed (kind : TextUnit) (old new : PhraseState) (start end answer : ℕ) : Type 0 where
  pub same_aims : new.aims ≡ old.aims
  pub same_hits : new.hits ≡ old.hits
  pub found : answer ≡ longest kind old.hits
  pub grown : start ≤ end

-- what the loop over the hits keeps: what is left makes of the size found what all make of none
pub record Passing (kind : TextUnit) (old now : PhraseState) (start end size : ℕ) : Type 0 where
  pub same_aims : now.aims ≡ old.aims
  pub same_hits : now.hits ≡ old.hits
  pub found : fold (longer kind) size now.rest ≡ longest kind old.hits
  pub grown : start ≤ end
