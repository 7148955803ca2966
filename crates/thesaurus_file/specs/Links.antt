-- A thesaurus: the phrases that lines begin with, in their order, each with where these lines lead, in the order of the lines.
use Rattle.std.specs.Prelude.{ℕ, Bool, true, List, [], ◌∷◌, ◌++◌, Option, Some, None, bytes_eq, unwrap_or}
use Rattle.std.specs.Map.{lookup, set_value}
use Rattle.std.specs.BTreeMap.{insert_entry}
use Rattle.thesaurus_file.specs.Phrases.{Phrase, phrase_cmp, phrase_eq}
use Rattle.thesaurus_file.specs.declared.link.Link.{Link}

abbrev pub Links : Type 0
Links = List (Phrase × List Link)

-- where the lines that begin with a phrase lead
abbrev pub links_from : Links → Phrase → List Link
links_from thesaurus phrase = unwrap_or (lookup (phrase_eq phrase) thesaurus) []

-- one more link of a phrase: after those that it has, or as its first
abbrev pub link_added : Links → Phrase → Link → Option (List Link) → Links
link_added thesaurus from link None = insert_entry phrase_cmp thesaurus from (link ∷ [])
link_added thesaurus from link (Some links) = set_value (phrase_eq from) thesaurus (links ++ link ∷ [])

abbrev pub with_link : Links → Phrase × Link → Links
with_link thesaurus (from, link) = link_added thesaurus from link (lookup (phrase_eq from) thesaurus)

-- whether a link has the relation that is asked for, where one is
abbrev pub is_wanted : Option (List ℕ) → Link → Bool
is_wanted None link = true
is_wanted (Some relation) link = bytes_eq relation link.relation
