-- A fourth part is one too many.
use Rattle.std.proofs.Common.{◌≡◌, ◌∙◌, ap, ◌∷◌, true, rules}
use Rattle.std.specs.Prelude.{is_some}
use Rattle.thesaurus_file.specs.Lines.{three}
use Rattle.thesaurus_file.proofs.FieldLemmas.{four_parts}
use Rattle.thesaurus_file.proofs.parse.three_parts.Goals as goal

pub returns-then-is_some : goal.returns-then-is_some
returns-then-is_some c =
    let first = c.in-Some.first.now in
    let second = c.in-Some-split_at_bar.second.now in
    let some : is_some c.split_at_bar-3.result ≡ true = search rules in
    ap three (c.in-Some.ensures ∙ ap (λ l. first ∷ l) c.in-Some-split_at_bar.ensures)
    ∙ four_parts first second c.in-Some-split_at_bar.third.now c.split_at_bar-3.result c.split_at_bar-3.ensures some
