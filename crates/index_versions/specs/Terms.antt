-- Terms of a version by their numbers, with the version.
use Rattle.std.specs.Prelude.{ℕ, List, Option, option_map}
use Rattle.ft_base.specs.Hits.{HitPlace, hit_at, hit_place}
use Rattle.ft_base.specs.declared.span.Span.{Span}
use Rattle.index_meaning.specs.Documents.{Numbered}
use Rattle.index_versions.specs.Versions.{term_hits}

pub record VersionTerm : Type 0 where
  pub version : List Numbered
  pub term : ℕ

abbrev pub version_term : List Numbered → ℕ → VersionTerm
version_term version term = record { version = version; term = term }

-- its hits in a span of a document, at the first of them
abbrev pub aimed_at : ℕ → Span → VersionTerm → HitPlace
aimed_at id span source = hit_place (term_hits source.term id span source.version) 0

-- its first place in a span of a document, if it has one there
abbrev pub first_in : ℕ → Span → VersionTerm → Option ℕ
first_in id span source = option_map (λ hit. hit.from) (hit_at (aimed_at id span source))
