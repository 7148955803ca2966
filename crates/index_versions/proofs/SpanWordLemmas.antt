-- The words between two places of a document are those that the ids between them name.
use Rattle.std.proofs.Common.{◌≡◌, ◌∙◌, ◌-◌, ℕ, List, map, take, drop, sym, ap}
use Rattle.std.specs.List.{slice_range}
use Rattle.std.proofs.lemmas.List.{drop-map, take-map}
use Rattle.index_meaning.specs.Entries.{Entry}
use Rattle.index_meaning.specs.Documents.{words_of}
use Rattle.index_versions.specs.steps.Held.{Held, document_under, held_ids, word_of}
use Rattle.index_versions.proofs.DocumentLemmas.{words_under}

pub words_between : (given : List Entry) (h : Held) (from to : ℕ) → map (word_of given) (slice_range (held_ids h) from to) ≡ slice_range (words_of (document_under given h)) from to
words_between given h from to =
    sym (take-map (word_of given) (to - from) (drop from (held_ids h)))
    ∙ ap (take (to - from)) (sym (drop-map (word_of given) from (held_ids h)))
    ∙ ap (λ ws. slice_range ws from to) (sym (words_under given h))
