-- The hits of phrases.
use Rattle.std.specs.Prelude.{◌==◌, Bool, ◌&&◌, nat_le, nat_lt}
use Rattle.ft_base.specs.declared.hit.Hit.{Hit}
use Rattle.ft_base.specs.declared.span.Span.{Span}

-- whether a hit has a word
abbrev pub is_hit : Hit → Bool
is_hit hit = nat_le hit.from hit.to

-- whether it has one, lies in a text of this span, and is that of one phrase
abbrev pub lies_inside : Span → Hit → Bool
lies_inside item hit = is_hit hit && (nat_le item.from hit.from && (nat_lt hit.to item.to && hit.whole))

-- whether it has one word alone
abbrev pub is_one_word : Hit → Bool
is_one_word hit = hit.to == hit.from
