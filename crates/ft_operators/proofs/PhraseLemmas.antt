-- The ways of a phrase are its hits, one after the other.
use Rattle.std.proofs.Common.{◌≡◌, refl, List, [], ◌∷◌, map}
use Rattle.std.specs.Option.{is_some}
use Rattle.ft_base.specs.Lists.{is_not_empty}
use Rattle.ft_base.specs.declared.hit.Hit.{Hit}
use Rattle.all_matches.specs.Ways.{one_hit}
use Rattle.ft_operators.specs.declared.course.Course.{Course}
use Rattle.ft_operators.specs.Course.{ways_on}
use Rattle.ft_operators.specs.Phrases.{PhraseState, first_hit, at_first_in}
use Rattle.ft_operators.specs.Standing.{at_prefix}
use Rattle.ft_operators.specs.steps.Forms.{phrase_of}

pub some_hit : (hits : List Hit) → is_some (first_hit hits) ≡ is_not_empty (map one_hit hits)
some_hit [] = refl
some_hit (hit ∷ rest) = refl

pub phrase_prefix : (course : Course) (s : PhraseState) → phrase_of (at_first_in course.bounds s) ≡ at_prefix course (phrase_of s)
unfolding ways_on
phrase_prefix course s = refl
