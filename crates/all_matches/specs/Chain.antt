-- The filters round a selection, from the inside to the outside, as a value.
use Rattle.std.specs.Prelude.{Bool, true, ◌&&◌, List, [], ◌∷◌, Option}
use Rattle.ft_base.specs.declared.hit.Hit.{Hit}
use Rattle.ft_base.specs.declared.filter.Filter.{Filter}
use Rattle.all_matches.specs.declared.window.Window.{Window}
use Rattle.all_matches.specs.Filters.{keeps}
use Rattle.all_matches.specs.Ways.{Way, way_includes}

-- a filter, with the includes that it saw and the window that was chosen
pub record Link : Type 0 where
  pub kind : Filter
  pub includes : List Hit
  pub choice : Option Window

-- whether each filter keeps an exclude
abbrev pub kept_by : List Link → Hit → Bool
kept_by [] hit = true
kept_by (link ∷ links) hit = keeps link.kind link.includes link.choice hit && kept_by links hit

-- the filter after which a way goes on
abbrev pub link_of : Way → Filter → Option Window → Link
link_of way kind choice = record { kind = kind; includes = way_includes way; choice = choice }
