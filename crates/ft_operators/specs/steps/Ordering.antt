-- Looking at the hits of an operator's phrases for whether its ways come in the order of their includes.
use Rattle.std.specs.Prelude.{◌≡◌, ℕ, ◌≤◌, Bool, true, ◌&&◌, List, [], ◌∷◌, Option, None}
use Rattle.std.specs.List.{list_all}
use Rattle.ft_base.specs.declared.hit.Hit.{Hit}
use Rattle.all_matches.specs.Ways.{Way, way_includes}
use Rattle.best_hits.specs.Least.{comes_before}
use Rattle.ft_operators.specs.Ordered.{comes_in_order, rise_after}
use Rattle.ft_operators.specs.Phrases.{PhraseState}
use Rattle.ft_operators.specs.Standing.{Frame}

-- an operator whose hits were looked at, and what was found
pub record IsOrdered (old new : Frame) (start end : ℕ) (answer : Bool) : Type 0 where
  pub same : new ≡ old
  pub found : answer ≡ comes_in_order old.operator
  pub grown : start ≤ end

-- a phrase whose hits were looked at, up to the first that doesn't rise
pub record IsRising (old new : PhraseState) (start end : ℕ) (answer : Bool) : Type 0 where
  pub same_aims : new.aims ≡ old.aims
  pub same_hits : new.hits ≡ old.hits
  pub found : answer ≡ rise_after None old.hits
  pub grown : start ≤ end

-- what the loop over the hits keeps: all hits rise where those that are left do
pub record Rising (old now : PhraseState) (start end : ℕ) (last : Option Hit) : Type 0 where
  pub same_aims : now.aims ≡ old.aims
  pub same_hits : now.hits ≡ old.hits
  pub found : rise_after last now.rest ≡ rise_after None old.hits
  pub grown : start ≤ end

-- whether the includes of a way come before those of another, and each before all that follow
abbrev pub is_before : Way → Way → Bool
is_before a b = comes_before (way_includes a) (way_includes b)

abbrev pub rise : List Way → Bool
rise [] = true
rise (way ∷ rest) = list_all (is_before way) rest && rise rest
