-- Hits as one, taken one after the other.
use Rattle.std.specs.Prelude.{suc, ◌-◌, ◌&&◌, min, max, List, fold, Option, Some, None}
use Rattle.std.specs.List.{list_all, range_with_len}
use Rattle.ft_base.specs.declared.hit.Hit.{Hit}
use Rattle.window_distance.specs.steps.Covering.{is_covered}

-- two hits as one, which is whole where both are
abbrev pub widened : Hit → Hit → Hit
widened first other = record {
  query = first.query;
  from = min first.from other.from;
  to = max first.to other.to;
  sent_from = min first.sent_from other.sent_from;
  sent_to = max first.sent_to other.sent_to;
  para_from = min first.para_from other.para_from;
  para_to = max first.para_to other.para_to;
  whole = first.whole && other.whole;
}

-- what one more hit makes of those before it
abbrev pub with_hit : Option Hit → Hit → Option Hit
with_hit None hit = Some hit
with_hit (Some joined) hit = Some (widened joined hit)

-- hits as one, which is whole where each is
abbrev pub wide : List Hit → Option Hit
wide hits = fold with_hit None hits

-- hits as one, which stays whole where they cover each of its words
abbrev pub with_cover : List Hit → Hit → Hit
with_cover hits joined = record joined { whole = joined.whole && list_all (is_covered hits) (range_with_len joined.from (suc joined.to - joined.from)) }
