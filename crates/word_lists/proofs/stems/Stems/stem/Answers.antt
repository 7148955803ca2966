-- The pairs of texts are asked.
use Rattle.std.proofs.Common.{◌≡◌, ◌∙◌, sym, ap, ℕ, List, map}
use Rattle.std.specs.Prelude.{Option, Some, None, String, string_bytes, option_map, unwrap_or}
use Rattle.std.specs.Option.{option_copied}
use Rattle.word_lists.specs.Stems.{Stem, stem_in}
use Rattle.word_lists.specs.View.{bytes_of_both}
use Rattle.word_lists.proofs.StemLemmas.{found_in, stem_found}
use Rattle.word_lists.proofs.stems.Stems.stem.Goals as goal

-- what the pairs of texts say of a key
said : {Y Z : Type 0} (stems : List Stem) (pairs : List (String Y × String Z)) (key : List ℕ) (found : Option (String Z)) → stems ≡ map bytes_of_both pairs → found_in key pairs ≡ found
    → stem_in stems key ≡ unwrap_or (option_map string_bytes found) key
said stems pairs key found view is =
    ap (λ s. stem_in s key) view ∙ ap (λ o. unwrap_or o key) (stem_found key pairs ∙ ap (option_map string_bytes) is)

pub returns-in-Some : goal.returns-in-Some
returns-in-Some c =
    c.as_str.ensures.value
    ∙ sym (said c.args.self.now c.self.inside.stems.entries c.args.key.now (Some c.in-Some.stem.now) (sym c.self.view_is) (sym c.get.ensures.value ∙ ap option_copied c.in-Some.is))

pub returns-in-None : goal.returns-in-None
returns-in-None c =
    sym (said c.args.self.now c.self.inside.stems.entries c.args.key.now None (sym c.self.view_is) (sym c.get.ensures.value ∙ ap option_copied c.in-None.is))
