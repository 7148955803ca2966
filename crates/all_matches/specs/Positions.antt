-- Where hits stand, in words, sentences and paragraphs.
use Rattle.std.specs.Prelude.{ℕ, suc, ◌-◌, Bool, ◌&&◌, ◌||◌, ◌==◌, nat_lt, nat_le, List}
use Rattle.std.specs.List.{range_with_len}
use Rattle.ft_base.specs.declared.hit.Hit.{Hit}
use Rattle.ft_base.specs.declared.unit.TextUnit.{TextUnit}
use Rattle.ft_base.specs.declared.unit.TextUnit.TheVariants.{Words, Sentences, Paragraphs}

-- the first number of a hit in a unit
abbrev pub start_in : TextUnit → Hit → ℕ
start_in Words hit = hit.from
start_in Sentences hit = hit.sent_from
start_in Paragraphs hit = hit.para_from

-- the last number of a hit in a unit
abbrev pub end_in : TextUnit → Hit → ℕ
end_in Words hit = hit.to
end_in Sentences hit = hit.sent_to
end_in Paragraphs hit = hit.para_to

-- whether a place lies between the first and the last word of a hit
abbrev pub covers : Hit → ℕ → Bool
covers hit place = nat_le hit.from place && nat_le place hit.to

-- the places from the first to the last
abbrev pub places_from_to : ℕ → ℕ → List ℕ
places_from_to first last = range_with_len first (suc last - first)

-- whether both hits lie in one sentence or paragraph, the same one
abbrev pub share_one : TextUnit → Hit → Hit → Bool
share_one kind a b = (start_in kind a == end_in kind a) && (start_in kind b == end_in kind b) && (start_in kind a == start_in kind b)

-- whether the sentences or paragraphs of two hits are disjoint
abbrev pub are_apart : TextUnit → Hit → Hit → Bool
are_apart kind a b = nat_lt (end_in kind a) (start_in kind b) || nat_lt (end_in kind b) (start_in kind a)

-- whether two hits stand in the text as their phrases stand in the query
abbrev pub agree_in_order : Hit → Hit → Bool
agree_in_order a b = (nat_le a.from b.from && nat_le a.query b.query) || (nat_le b.from a.from && nat_le b.query a.query)
