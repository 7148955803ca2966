-- The hits of a phrase over an index are those among the tokens of the span.
use Rattle.std.proofs.Common.{◌≡◌, refl, ap, sym, ◌∙◌, ℕ, zero, suc, ◌+◌, ◌-◌, ◌<◌, ◌≤◌, ◌==◌, Bool, true, ◌&&◌, List, [], ◌∷◌, map, filter, length, take, drop, get_or, arith, get_or-drop, length-drop}
use Rattle.std.specs.List.{list_any}
use Rattle.std.proofs.Math.Dec.{eqb-zero-suc, eqb-suc-zero, eqb-suc-suc}
use Rattle.std.proofs.lemmas.List.{length-map}
use Rattle.ft_base.specs.declared.hit.Hit.{Hit}
use Rattle.ft_base.specs.declared.options.Options.{Options}
use Rattle.ft_base.specs.declared.span.Span.{Span}
use Rattle.ft_base.specs.declared.token.Token.{Token}
use Rattle.ft_base.proofs.Truth.{and_swap}
use Rattle.all_matches.specs.Counting.{begins_as}
use Rattle.all_matches.specs.Hits.{Interval, hit_on, hits, intervals, passes_item, sentence_at, paragraph_at, stands_as, tokens_in}
use Rattle.all_matches.specs.Variants.{Item, Lexicon, variants}
use Rattle.all_matches.proofs.ListTests.{list_any-alike, list_any-map}
use Rattle.index_meaning.specs.Documents.{Numbered, breaks_of, document_at}
use Rattle.place_merges.specs.Places.{Wanted, fits, stands_before}
use Rattle.place_merges.specs.Spots.{some_at, spot, spots_between}
use Rattle.place_merges.specs.declared.spot.Spot.{Spot}
use Rattle.place_merges.proofs.PlacesLaw.{variant_law}
use Rattle.index_phrases.specs.Phrases.{own_number, phrase_hits, numbered_hit, wanted_at}
use Rattle.index_phrases.specs.Tokens.{AreVariants, IsSpan, interval_of, passes_terms, span_tokens, stands_on}
use Rattle.index_phrases.specs.declared.word_terms.WordTerms.{WordTerms}
use Rattle.index_phrases.proofs.SpanTokens.{no_token, paragraph_read, sentence_read, token_there, tokens_long}
use Rattle.index_phrases.proofs.SpotIntervals.{Agrees, as_intervals, on}
use Rattle.index_phrases.proofs.TermPlaces.{wanted_law}

-- ---- items on the prefix of some tokens

module _ {X : Type 0} (passes : X → Token → Bool) where
  -- a list of items stands on the prefix of its own length alone
  pub prefix_stands : (items : List X) (tokens : List Token) (k : ℕ) → k ≤ length tokens → stands_on passes items (take k tokens) ≡ ((length items == k) && begins_as passes items tokens)
  prefix_stands [] tokens zero h = refl
  prefix_stands [] [] (suc k) h = absurd (omega arith)
  prefix_stands [] (token ∷ tokens) (suc k) h = ap (λ b. b && true) (sym (eqb-zero-suc k))
  prefix_stands (item ∷ items) tokens zero h = ap (λ b. b && begins_as passes (item ∷ items) tokens) (sym (eqb-suc-zero (length items)))
  prefix_stands (item ∷ items) [] (suc k) h = absurd (omega arith)
  prefix_stands (item ∷ items) (token ∷ tokens) (suc k) h =
      ap (λ b. passes item token && b) (prefix_stands items tokens k (omega arith))
      ∙ and_swap (passes item token) (length items == k) (begins_as passes items tokens)
      ∙ ap (λ b. b && (passes item token && begins_as passes items tokens)) (sym (eqb-suc-suc (length items) k))

-- the items of a phrase stand as all items do
own : (lexicon : Lexicon) (options : Options) (items : List Item) (tokens : List Token) → stands_as lexicon options items tokens ≡ stands_on (passes_item lexicon options) items tokens
own lexicon options [] [] = refl
own lexicon options [] (token ∷ tokens) = refl
own lexicon options (item ∷ items) [] = refl
own lexicon options (item ∷ items) (token ∷ tokens) = ap (λ b. passes_item lexicon options item token && b) (own lexicon options items tokens)

-- ---- the spots of a phrase's hits

module _ (lexicon : Lexicon) (options : Options) (number : ℕ) (phrase : List Item) (tokens : List Token) where
  abbrev begins_at : Spot → Bool
  begins_at at = list_any (λ variant. (length variant == at.words) && begins_as (passes_item lexicon options) variant (drop (at.place - 1) tokens)) (variants lexicon options phrase)

  abbrev stands_in : Interval → Bool
  stands_in i = list_any (λ variant. stands_as lexicon options variant (tokens_in tokens i)) (variants lexicon options phrase)

  spots_agree : Agrees 0 (length tokens) begins_at (λ at. hit_on tokens number (interval_of at)) stands_in (hit_on tokens number)
  spots_agree = record {
    tests = λ from to first order last.
        let at : (0 + from) - 1 ≡ from - 1 = omega arith in
        let left = length-drop (from - 1) tokens in
        list_any-alike
        (λ variant. (length variant == suc to - from) && begins_as (passes_item lexicon options) variant (drop ((0 + from) - 1) tokens))
        (λ variant. stands_as lexicon options variant (tokens_in tokens (on from to))) (variants lexicon options phrase)
        (λ variant.
        ap (λ p. (length variant == suc to - from) && begins_as (passes_item lexicon options) variant (drop p tokens)) at
        ∙ sym (prefix_stands (passes_item lexicon options) variant (drop (from - 1) tokens) (suc to - from) (omega (arith, left, first, order, last)))
        ∙ sym (own lexicon options variant (tokens_in tokens (on from to))));
    values = λ from to first order last.
        let start : 0 + from ≡ from = omega arith in
        let end : (0 + from) + ((suc to - from) - 1) ≡ to = omega (arith, first, order) in
        ap (hit_on tokens number) (λ i. on (start i) (end i));
  }

  pub hits_by_spots : hits lexicon options number phrase tokens ≡ map (λ at. hit_on tokens number (interval_of at)) (filter begins_at (spots_between 1 (suc (length tokens))))
  hits_by_spots =
      let size : 0 + length tokens ≡ length tokens = omega arith in
      sym (
      ap (λ n. map (λ at. hit_on tokens number (interval_of at)) (filter begins_at (spots_between 1 (suc n)))) (sym size)
      ∙ as_intervals 0 (length tokens) begins_at (λ at. hit_on tokens number (interval_of at)) stands_in (hit_on tokens number) spots_agree)

-- ---- a phrase over an index

module _ (version : List Numbered) (doc number : ℕ) (span : Span) (terms : List (List WordTerms)) (s : IsSpan span (document_at doc version)) where
  abbrev part : List Token
  part = span_tokens span (document_at doc version)

  abbrev want : WordTerms → Wanted
  want = wanted_at version doc span

  abbrev k : ℕ
  k = span.from - 1

  abbrev m : ℕ
  m = span.to - span.from

  abbrev terms_stand : Interval → Bool
  terms_stand i = list_any (λ variant. stands_on (passes_terms version) variant (tokens_in part i)) terms

  -- the words wanted at the places from one on are those of the tokens from it on
  fits_there : (from : ℕ) → 1 ≤ from → from ≤ m → (item : WordTerms) (j : ℕ) (token : Token) → j < length (drop (from - 1) part)
      → fits ((k + from) + j) (want item) ≡ passes_terms version item (get_or (drop (from - 1) part) j token)
  fits_there from first within item j token h =
      let start = s.first in
      let long = tokens_long span (document_at doc version) s in
      let left = length-drop (from - 1) part in
      let at : (k + from) + j ≡ span.from + ((from - 1) + j) = omega (arith, start, first) in
      ap (λ p. fits p (want item)) at
      ∙ wanted_law version doc span s item ((from - 1) + j) (omega (arith, h, left, long))
      ∙ sym (ap (passes_terms version item) (get_or-drop (from - 1) part j token ∙ token_there span (document_at doc version) s ((from - 1) + j) token (omega (arith, h, left, long))))

  variant_stands : (from to : ℕ) → 1 ≤ from → from ≤ to → to ≤ m → (variant : List WordTerms)
      → ((length (map want variant) == suc to - from) && stands_before span.to (k + from) (map want variant)) ≡ stands_on (passes_terms version) variant (tokens_in part (on from to))
  variant_stands from to first order last variant =
      let start = s.first in
      let long = tokens_long span (document_at doc version) s in
      let left = length-drop (from - 1) part in
      let ordered = s.order in
      ap (λ n. (n == suc to - from) && stands_before span.to (k + from) (map want variant)) (length-map variant want)
      ∙ ap (λ b. (length variant == suc to - from) && b)
      (variant_law (passes_terms version) want variant (k + from) span.to (drop (from - 1) part) (omega (arith, start, long, left, first, order, last, ordered)) (fits_there from first (omega (arith, order, last))))
      ∙ sym (prefix_stands (passes_terms version) variant (drop (from - 1) part) (suc to - from) (omega (arith, long, left, first, order, last)))

  told_there : (from to : ℕ) → 1 ≤ from → from ≤ to → to ≤ m → numbered_hit number (breaks_of (document_at doc version)) span (spot (k + from) (suc to - from)) ≡ hit_on part number (on from to)
  told_there from to first order last =
      let start = s.first in
      let long = tokens_long span (document_at doc version) s in
      let from_place : span.from + (from - 1) ≡ k + from = omega (arith, start, first) in
      let to_place : span.from + (to - 1) ≡ (k + from) + ((suc to - from) - 1) = omega (arith, start, first, order) in
      let own_from : (k + from) - (span.from - 1) ≡ from = omega arith in
      let own_to : ((k + from) + ((suc to - from) - 1)) - (span.from - 1) ≡ to = omega (arith, first, order) in
      λ i. record {
        query = number;
        from = own_from i;
        to = own_to i;
        sent_from = sym (sentence_there from first (omega (arith, order, last)) ∙ ap (own_number (breaks_of (document_at doc version)).sentences span.from) from_place) i;
        sent_to = sym (sentence_there to (omega (arith, first, order)) last ∙ ap (own_number (breaks_of (document_at doc version)).sentences span.from) to_place) i;
        para_from = sym (paragraph_there from first (omega (arith, order, last)) ∙ ap (own_number (breaks_of (document_at doc version)).paragraphs span.from) from_place) i;
        para_to = sym (paragraph_there to (omega (arith, first, order)) last ∙ ap (own_number (breaks_of (document_at doc version)).paragraphs span.from) to_place) i;
        whole = true;
      }
    where
      sentence_there : (place : ℕ) → 1 ≤ place → place ≤ m → sentence_at part place ≡ own_number (breaks_of (document_at doc version)).sentences span.from (span.from + (place - 1))
      sentence_there place low high =
          let long = tokens_long span (document_at doc version) s in
          let at : place ≡ suc (place - 1) = omega (arith, low) in
          ap (sentence_at part) at
          ∙ sentence_read part (place - 1) (omega (arith, long, low, high))
          ∙ ap (λ (token : Token). token.sentence) (token_there span (document_at doc version) s (place - 1) no_token (omega (arith, low, high)))

      paragraph_there : (place : ℕ) → 1 ≤ place → place ≤ m → paragraph_at part place ≡ own_number (breaks_of (document_at doc version)).paragraphs span.from (span.from + (place - 1))
      paragraph_there place low high =
          let long = tokens_long span (document_at doc version) s in
          let at : place ≡ suc (place - 1) = omega (arith, low) in
          ap (paragraph_at part) at
          ∙ paragraph_read part (place - 1) (omega (arith, long, low, high))
          ∙ ap (λ (token : Token). token.paragraph) (token_there span (document_at doc version) s (place - 1) no_token (omega (arith, low, high)))

  abbrev is_wanted_at : Spot → Bool
  is_wanted_at = some_at span.to (map (map want) terms)

  abbrev own_hit : Spot → Hit
  own_hit = numbered_hit number (breaks_of (document_at doc version)) span

  terms_agree : Agrees k m is_wanted_at own_hit terms_stand (hit_on part number)
  terms_agree = record {
    tests = λ from to first order last.
        list_any-map (λ (ws : List Wanted). (length ws == suc to - from) && stands_before span.to (k + from) ws) (map want) terms
        ∙ list_any-alike (λ variant. (length (map want variant) == suc to - from) && stands_before span.to (k + from) (map want variant))
        (λ variant. stands_on (passes_terms version) variant (tokens_in part (on from to))) terms (variant_stands from to first order last);
    values = told_there;
  }

  pub hits_by_terms : phrase_hits version number terms doc span ≡ map (hit_on part number) (filter terms_stand (intervals (length part)))
  hits_by_terms =
      let start = s.first in
      let order = s.order in
      let from_is : span.from ≡ suc k = omega (arith, start) in
      let to_is : span.to ≡ suc (k + m) = omega (arith, start, order) in
      ap (λ n. map own_hit (filter is_wanted_at (spots_between n span.to))) from_is
      ∙ ap (λ n. map own_hit (filter is_wanted_at (spots_between (suc k) n))) to_is
      ∙ as_intervals k m is_wanted_at own_hit terms_stand (hit_on part number) terms_agree
      ∙ ap (λ n. map (hit_on part number) (filter terms_stand (intervals n))) (sym (tokens_long span (document_at doc version) s))

  pub hits_of_phrase : (lexicon : Lexicon) (options : Options) (phrase : List Item) → AreVariants version terms lexicon options phrase part
      → phrase_hits version number terms doc span ≡ hits lexicon options number phrase part
  hits_of_phrase lexicon options phrase same = hits_by_terms ∙ (λ i. map (hit_on part number) (filter (λ interval. same interval i) (intervals (length part))))
