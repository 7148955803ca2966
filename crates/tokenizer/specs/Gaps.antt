-- The gap between two neighbouring tokens: the characters of all texts and the tags that stand between them. Here it is
-- a list of parts without words, and its characters are one run, wherever the texts that they stand in end. The period directly behind an
-- abbreviation is none of them; since it stands before all others, it changes nothing of blank lines.
use Rattle.std.specs.Prelude.{ℕ, Bool, false, ◌&&◌, ◌||◌, ◌==◌, List, [], ◌∷◌, flat_map, bytes_eq, codes}
use Rattle.std.specs.List.{list_any}
use Rattle.std.specs.Str.{chars}
use Rattle.ft_base.specs.Characters.{is_blank, is_line_feed}
use Rattle.tokenizer.specs.Parts.{Part, word, gap_characters, gap_tag}

-- the parts up to the next word
abbrev pub gap : List Part → List Part
gap [] = []
gap (word bytes ∷ rest) = []
gap (gap_characters bytes ∷ rest) = gap_characters bytes ∷ gap rest
gap (gap_tag name ∷ rest) = gap_tag name ∷ gap rest

abbrev pub characters_of_part : Part → List ℕ
characters_of_part (word bytes) = []
characters_of_part (gap_characters bytes) = chars bytes
characters_of_part (gap_tag name) = []

-- the characters of a gap
abbrev pub characters_of : List Part → List ℕ
characters_of = flat_map characters_of_part

abbrev pub tags_of_part : Part → List (List ℕ)
tags_of_part (word bytes) = []
tags_of_part (gap_characters bytes) = []
tags_of_part (gap_tag name) = name ∷ []

-- the names in the tags of a gap
abbrev pub tags_of : List Part → List (List ℕ)
tags_of = flat_map tags_of_part

-- `.`, `!` or `?`
abbrev pub is_sentence_end : ℕ → Bool
is_sentence_end c = c == 46 || c == 33 || c == 63

-- spaces and tabs or nothing, and then a line feed
unfoldable pub begins_with_line_end : List ℕ → Bool
begins_with_line_end [] = false
begins_with_line_end (c ∷ cs) = is_line_feed c || (is_blank c && begins_with_line_end cs)

-- a line feed, then spaces and tabs or nothing, then a line feed
unfoldable pub has_blank_line : List ℕ → Bool
has_blank_line [] = false
has_blank_line (c ∷ cs) = (is_line_feed c && begins_with_line_end cs) || has_blank_line cs

-- the names of the elements whose tags part paragraphs
abbrev pub block_elements : List (List ℕ)
block_elements =
    codes "abstract" ∷ codes "address" ∷ codes "article" ∷ codes "aside" ∷ codes "blockquote" ∷ codes "body" ∷ codes "book"
    ∷ codes "caption" ∷ codes "chapter" ∷ codes "dd" ∷ codes "div" ∷ codes "dl" ∷ codes "dt" ∷ codes "figure" ∷ codes "footer"
    ∷ codes "h1" ∷ codes "h2" ∷ codes "h3" ∷ codes "h4" ∷ codes "h5" ∷ codes "h6" ∷ codes "head" ∷ codes "header" ∷ codes "li"
    ∷ codes "main" ∷ codes "nav" ∷ codes "note" ∷ codes "ol" ∷ codes "p" ∷ codes "para" ∷ codes "part" ∷ codes "pre"
    ∷ codes "preface" ∷ codes "row" ∷ codes "section" ∷ codes "table" ∷ codes "td" ∷ codes "th" ∷ codes "title" ∷ codes "tr"
    ∷ codes "ul" ∷ []

unfoldable pub is_block_element : List ℕ → Bool
is_block_element name = list_any (λ block. bytes_eq block name) block_elements

-- a paragraph ends in the gap: there is a blank line in its characters, or a tag of a block element
unfoldable pub ends_paragraph : List Part → Bool
ends_paragraph parts = has_blank_line (characters_of parts) || list_any is_block_element (tags_of parts)

-- a sentence ends in the gap: a paragraph does, or its characters hold a mark that ends sentences
unfoldable pub ends_sentence : List Part → Bool
ends_sentence parts = ends_paragraph parts || list_any is_sentence_end (characters_of parts)
