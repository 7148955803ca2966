-- Lists of texts are compared as the lists of their bytes.
use Rattle.std.proofs.Common.{◌≡◌, ◌∙◌, ap, refl, List, [], ◌∷◌, map}
use Rattle.std.specs.Prelude.{String, string_bytes}
use Rattle.std.specs.String.{string_cmp}
use Rattle.std.specs.Ordering.{ordering_then, nat_cmp}
use Rattle.std.specs.Cmp.Lexicographic.{slice_cmp}
use Rattle.thesaurus_file.specs.Phrases.{phrase_cmp}
use Rattle.thesaurus_file.proofs.phrase.PhraseOrd.cmp.Goals as goal

by_bytes : {Y : Type 0} (xs ys : List (String Y)) → slice_cmp string_cmp xs ys ≡ phrase_cmp (map string_bytes xs) (map string_bytes ys)
by_bytes [] [] = refl
by_bytes [] (y ∷ ys) = refl
by_bytes (x ∷ xs) [] = refl
by_bytes (x ∷ xs) (y ∷ ys) = ap (ordering_then (slice_cmp nat_cmp (string_bytes x) (string_bytes y))) (by_bytes xs ys)

pub returns : goal.returns
returns c = c.cmp.ensures ∙ by_bytes c.self.inside.keys.items c.other.inside.keys.items ∙ (λ i. phrase_cmp (c.self.view_is i) (c.other.view_is i))
