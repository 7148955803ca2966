-- Positional filters (XQuery and XPath Full Text 3.0, section 4.2.7): whether a Match stays, the windows through which it goes,
-- whether an exclude stays, and the includes after the filter.
use Rattle.std.specs.Prelude.{suc, Bool, true, false, ◌&&◌, ◌==◌, if◌then◌else◌, List, [], ◌∷◌, map, flat_map, filter, Option, Some, None, option_to_list}
use Rattle.std.specs.List.{list_any, list_all}
use Rattle.ft_base.specs.Hits.{every_two}
use Rattle.ft_base.specs.declared.hit.Hit.{Hit}
use Rattle.ft_base.specs.declared.hit.Match.{Match}
use Rattle.ft_base.specs.declared.filter.Filter.{Filter}
use Rattle.ft_base.specs.declared.filter.Filter.TheVariants as F
use Rattle.ft_base.specs.declared.span.Span.{Span}
use Rattle.ft_base.specs.declared.unit.TextUnit.{TextUnit}
use Rattle.ft_base.specs.declared.unit.TextUnit.TheVariants.{Sentences, Paragraphs}
use Rattle.all_matches.specs.declared.window.Window.{Window}
use Rattle.all_matches.specs.Positions.{covers, share_one, are_apart, agree_in_order}
use Rattle.all_matches.specs.Spans.{places_in}
use Rattle.all_matches.specs.Join.{join}
use Rattle.all_matches.specs.Window.{windows_round, fits_window, lies_in_window}
use Rattle.all_matches.specs.Distance.{in_order, neighbours_in_range, distance_in_range}

-- whether all hits lie in one sentence or paragraph
abbrev pub all_in_one : TextUnit → List Hit → Bool
all_in_one kind includes = list_all (λ a. list_all (share_one kind a) includes) includes

-- whether a filter keeps a Match with these includes, in the item of this span. A window filter keeps it where it has a window
abbrev pub passes : Filter → List Hit → Span → Bool
passes F.Ordered includes item = every_two agree_in_order includes
passes (F.Window size kind) includes item = fits_window size kind (join includes)
passes (F.Distance range kind) includes item = neighbours_in_range range kind (in_order includes)
passes F.SameSentence includes item = all_in_one Sentences includes
passes F.SameParagraph includes item = all_in_one Paragraphs includes
passes F.DifferentSentence includes item = every_two (are_apart Sentences) includes
passes F.DifferentParagraph includes item = every_two (are_apart Paragraphs) includes
passes F.AtStart includes item = list_any (λ hit. hit.from == item.from) includes
passes F.AtEnd includes item = list_any (λ hit. suc hit.to == item.to) includes
passes F.EntireContent includes item = list_all (λ place. list_any (λ hit. hit.whole && covers hit place) includes) (places_in item)

-- the choices that a filter leaves: a window filter one for each window, any other filter one that says nothing
abbrev pub choices : Filter → List Hit → List (Option Window)
choices F.Ordered includes = None ∷ []
choices (F.Window size kind) includes = map Some (windows_round size kind (join includes))
choices (F.Distance range kind) includes = None ∷ []
choices F.SameSentence includes = None ∷ []
choices F.SameParagraph includes = None ∷ []
choices F.DifferentSentence includes = None ∷ []
choices F.DifferentParagraph includes = None ∷ []
choices F.AtStart includes = None ∷ []
choices F.AtEnd includes = None ∷ []
choices F.EntireContent includes = None ∷ []

-- whether a filter keeps an exclude of a Match with these includes, through a chosen window
abbrev pub keeps : Filter → List Hit → Option Window → Hit → Bool
keeps F.Ordered includes choice hit = list_all (agree_in_order hit) includes
keeps (F.Window size kind) includes None hit = false
keeps (F.Window size kind) includes (Some window) hit = lies_in_window kind window hit
keeps (F.Distance range kind) includes choice hit = list_any (distance_in_range range kind hit) includes
keeps F.SameSentence includes choice hit = list_all (share_one Sentences hit) (hit ∷ includes)
keeps F.SameParagraph includes choice hit = list_all (share_one Paragraphs hit) (hit ∷ includes)
keeps F.DifferentSentence includes choice hit = list_all (are_apart Sentences hit) includes
keeps F.DifferentParagraph includes choice hit = list_all (are_apart Paragraphs hit) includes
keeps F.AtStart includes choice hit = true
keeps F.AtEnd includes choice hit = true
keeps F.EntireContent includes choice hit = true

-- the includes after a filter: a window and a distance leave the joined hit alone
abbrev pub after : Filter → List Hit → List Hit
after F.Ordered includes = includes
after (F.Window size kind) includes = option_to_list (join includes)
after (F.Distance range kind) includes = option_to_list (join includes)
after F.SameSentence includes = includes
after F.SameParagraph includes = includes
after F.DifferentSentence includes = includes
after F.DifferentParagraph includes = includes
after F.AtStart includes = includes
after F.AtEnd includes = includes
after F.EntireContent includes = includes

-- a Match after a filter, through a chosen window
abbrev pub through : Filter → Match → Option Window → Match
through kind m choice = record { includes = after kind m.includes; excludes = filter (keeps kind m.includes choice) m.excludes }

-- what a filter leaves of one Match
abbrev pub filtered_match : Filter → Span → Match → List Match
filtered_match kind item m = if passes kind m.includes item then map (through kind m) (choices kind m.includes) else []

-- what a filter leaves of AllMatches, in the item of this span
abbrev pub ft_filtered : Filter → Span → List Match → List Match
ft_filtered kind item matches = flat_map (filtered_match kind item) matches
