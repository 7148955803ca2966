-- The cursors of a phrase: how many there are, and where they stand when they were aimed.
use Rattle.std.specs.Prelude.{◌≡◌, ℕ, Bool, true, List, [], map, length, Option, Some, None}
use Rattle.std.specs.declared.alloc.Global.{Global}
use Rattle.std.specs.declared.vec.Vec.{Vec}
use Rattle.std.specs.List.{All}
use Rattle.ft_base.specs.Hits.{HitPlace}
use Rattle.ft_base.specs.declared.span.Span.{Span}
use Rattle.index_meaning.specs.Documents.{Numbered, breaks_of, document_at, has_document}
use Rattle.index_versions.specs.Terms.{VersionTerm}
use Rattle.index_versions.specs.Versions.{term_hits}
use Rattle.place_merges.specs.Places.{Wanted, any_word, one_of}
use Rattle.place_merges.specs.Sources.{wanted}
use Rattle.place_merges.specs.declared.item.Item.{Item}
use Rattle.place_merges.specs.declared.item.Item.TheVariants as Merged
use Rattle.place_merges.specs.declared.item.Variant.{Variant}
use Rattle.index_phrases.specs.declared.target.Target.{Target}
use Rattle.index_phrases.specs.declared.word_terms.WordTerms.{WordTerms}
use Rattle.index_phrases.specs.declared.word_terms.WordTerms.TheVariants as Terms

-- how many cursors a word has, and how many it is to have
abbrev pub size_of : Item HitPlace → Option ℕ
size_of Merged.Any = None
size_of (Merged.Of cursors) = Some (length cursors.items)

abbrev pub sizes_of : Variant HitPlace → List (Option ℕ)
sizes_of variant = map size_of variant.items.items

abbrev pub wanted_size : WordTerms → Option ℕ
wanted_size Terms.Any = None
wanted_size (Terms.Of sources) = Some (length sources)

-- the words of a variant as a list
abbrev pub variant_words : Vec WordTerms Global → List WordTerms
variant_words terms = terms.items

-- the terms of a word
abbrev pub sources_of : WordTerms → List VersionTerm
sources_of Terms.Any = []
sources_of (Terms.Of sources) = sources

-- they are the version's
abbrev pub AreThere : List Numbered → WordTerms → Type 0
AreThere version word = All (λ source. source.version ≡ version) (sources_of word)

-- the version of each has the document
abbrev pub HasDocument : ℕ → WordTerms → Type 0
HasDocument doc word = All (λ source. has_document doc source.version ≡ true) (sources_of word)

-- the places in a span of a document at which a word may stand, each term by its own version
abbrev pub own_wanted : ℕ → Span → WordTerms → Wanted
own_wanted doc span Terms.Any = any_word
own_wanted doc span (Terms.Of sources) = one_of (map (λ source. map (λ hit. hit.from) (term_hits source.term doc span source.version)) sources)

-- whether a variant counts, and what its words want
abbrev pub counted_words : Variant HitPlace → Bool × List Wanted
counted_words variant = (variant.counts, map (wanted (λ cursor. cursor)) variant.items.items)

-- the document is there, and the breaks are its own
pub record IsTarget (version : List Numbered) (target : Target) : Type 0 where
  pub there : has_document target.doc.0 version ≡ true
  pub breaks : target.breaks.breaks.now ≡ breaks_of (document_at target.doc.0 version)
