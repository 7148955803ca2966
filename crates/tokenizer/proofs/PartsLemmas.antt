-- The parts of a text, one segment further, and the words that are among parts.
use Rattle.std.proofs.Common.{◌≡◌, ℕ, Bool, true, false, List, [], ◌∷◌, ◌++◌, map, flat_map, filter, length, refl, sym, ap, ap₂, ◌∙◌, append-nil, inl, inr}
use Rattle.std.proofs.lemmas.Bool.{cases_Bool}
use Rattle.std.proofs.lemmas.Grind.{flat_map-append}
use Rattle.std.proofs.lemmas.List.{length-map}
use Rattle.plain_tree.specs.Document.{Node, element, text, Nodes, no_nodes, node_then}
use Rattle.unicode_segmentation.specs.Word.{word_bounds}
use Rattle.text_words.specs.Words.{is_word, words}
use Rattle.tokenizer.specs.Gaps.{gap, ends_paragraph, ends_sentence}
use Rattle.tokenizer.specs.Parts.{Event, Part, word, gap_characters, gap_tag, events, events_of, is_abbreviation, parts, parts_behind, parts_of_event, parts_of_text, without_period}
use Rattle.tokenizer.specs.Tokens.{shifted, tokens, tokens_from, words_in, words_in_all}

-- ---- one segment further

module _ (abbreviations : List (List ℕ)) (spares : Bool) (segment : List ℕ) (rest : List (List ℕ)) where
  pub parts_behind-word : is_word segment ≡ true → parts_behind abbreviations spares (segment ∷ rest) ≡ word segment ∷ parts_behind abbreviations (is_abbreviation abbreviations segment) rest
  unfolding parts_behind
  parts_behind-word holds = rw holds refl

  pub parts_behind-characters : is_word segment ≡ false → parts_behind abbreviations spares (segment ∷ rest) ≡ gap_characters (without_period spares segment) ∷ parts_behind abbreviations false rest
  unfolding parts_behind
  parts_behind-characters fails = rw fails refl

pub parts_behind-nil : (abbreviations : List (List ℕ)) (spares : Bool) → parts_behind abbreviations spares [] ≡ []
unfolding parts_behind
parts_behind-nil abbreviations spares = refl

-- ---- the words

abbrev pub words_among : List Part → List (List ℕ)
words_among [] = []
words_among (word bytes ∷ rest) = bytes ∷ words_among rest
words_among (gap_characters bytes ∷ rest) = words_among rest
words_among (gap_tag name ∷ rest) = words_among rest

pub words_among-append : (xs ys : List Part) → words_among (xs ++ ys) ≡ words_among xs ++ words_among ys
words_among-append [] ys = refl
words_among-append (word bytes ∷ xs) ys = ap (λ l. bytes ∷ l) (words_among-append xs ys)
words_among-append (gap_characters bytes ∷ xs) ys = words_among-append xs ys
words_among-append (gap_tag name ∷ xs) ys = words_among-append xs ys

words_among-tokens : (sentence paragraph : ℕ) (parts : List Part) → map (λ token. token.word) (tokens_from sentence paragraph parts) ≡ words_among parts
unfolding tokens_from
words_among-tokens s p [] = refl
words_among-tokens s p (word bytes ∷ rest) = ap (λ l. bytes ∷ l) (words_among-tokens (shifted (ends_sentence (gap rest)) s) (shifted (ends_paragraph (gap rest)) p) rest)
words_among-tokens s p (gap_characters bytes ∷ rest) = words_among-tokens s p rest
words_among-tokens s p (gap_tag name ∷ rest) = words_among-tokens s p rest

words_among-segments : (abbreviations : List (List ℕ)) (spares : Bool) (segments : List (List ℕ)) → words_among (parts_behind abbreviations spares segments) ≡ filter is_word segments
words_among-segments abbreviations spares [] = ap words_among (parts_behind-nil abbreviations spares)
words_among-segments abbreviations spares (segment ∷ segments) =
    elim (cases_Bool (is_word segment)) [
      | inl holds ↦ ap words_among (parts_behind-word abbreviations spares segment segments holds)
          ∙ rw holds (ap (λ l. segment ∷ l) (words_among-segments abbreviations (is_abbreviation abbreviations segment) segments))
      | inr fails ↦ ap words_among (parts_behind-characters abbreviations spares segment segments fails)
          ∙ rw fails (words_among-segments abbreviations false segments)
    ]

-- the words among all parts of a text
pub words_among-all : (abbreviations : List (List ℕ)) (bytes : List ℕ) (all : List Part) → all ≡ parts_of_text abbreviations bytes → words_among all ≡ words bytes
words_among-all abbreviations bytes all is = ap words_among is ∙ words_among-segments abbreviations false (word_bounds bytes)

pub words_among-text : (abbreviations : List (List ℕ)) (segments : List (List ℕ)) (rest : List Part) → words_among (parts_behind abbreviations false segments ++ rest) ≡ filter is_word segments ++ words_among rest
words_among-text abbreviations segments rest =
    words_among-append (parts_behind abbreviations false segments) rest ∙ ap (λ l. l ++ words_among rest) (words_among-segments abbreviations false segments)

events_words-append : (abbreviations : List (List ℕ)) (xs ys : List Event)
    → words_among (flat_map (parts_of_event abbreviations) (xs ++ ys)) ≡ words_among (flat_map (parts_of_event abbreviations) xs) ++ words_among (flat_map (parts_of_event abbreviations) ys)
events_words-append abbreviations xs ys =
    ap words_among (flat_map-append (parts_of_event abbreviations) xs ys)
    ∙ words_among-append (flat_map (parts_of_event abbreviations) xs) (flat_map (parts_of_event abbreviations) ys)

mutual
  unfolding events

  words_among-node : (abbreviations : List (List ℕ)) (n : Node) → words_among (flat_map (parts_of_event abbreviations) (events n)) ≡ words_in n
  words_among-node abbreviations (element name attrs kids) = events_words-append abbreviations (events_of kids) _ ∙ append-nil _ ∙ words_among-nodes abbreviations kids
  words_among-node abbreviations (text bytes) = ap words_among (append-nil (parts_behind abbreviations false (word_bounds bytes))) ∙ words_among-segments abbreviations false (word_bounds bytes)

  words_among-nodes : (abbreviations : List (List ℕ)) (ns : Nodes) → words_among (flat_map (parts_of_event abbreviations) (events_of ns)) ≡ words_in_all ns
  words_among-nodes abbreviations no_nodes = refl
  words_among-nodes abbreviations (node_then n ns) =
      events_words-append abbreviations (events n) (events_of ns) ∙ ap₂ (λ a b. a ++ b) (words_among-node abbreviations n) (words_among-nodes abbreviations ns)

pub words_among-parts : (abbreviations : List (List ℕ)) (n : Node) → words_among (parts abbreviations n) ≡ words_in n
words_among-parts = words_among-node

pub words-tokens : (abbreviations : List (List ℕ)) (n : Node) → map (λ token. token.word) (tokens abbreviations n) ≡ words_in n
unfolding tokens
words-tokens abbreviations n = words_among-tokens 1 1 (parts abbreviations n) ∙ words_among-parts abbreviations n

pub length-tokens : (abbreviations : List (List ℕ)) (n : Node) → length (tokens abbreviations n) ≡ length (words_in n)
length-tokens abbreviations n = sym (length-map (tokens abbreviations n) (λ token. token.word)) ∙ ap length (words-tokens abbreviations n)
