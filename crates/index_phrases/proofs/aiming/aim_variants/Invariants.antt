-- The cursors of the first variants were aimed.
use Rattle.std.proofs.Common.{◌≡◌, ◌≤◌, List, map, take, true}
use Rattle.index_phrases.specs.steps.Aiming.{counted_words, own_wanted, sizes_of, variant_words, wanted_size}
use Rattle.index_phrases.specs.declared.word_terms.WordTerms.{WordTerms}
use Rattle.index_phrases.proofs.aiming.aim_variants.Given as goal

abbrev pub invariant-loop-number : goal.invariant-loop-number
invariant-loop-number g l = record {
  terms : map variant_words l.terms.items ≡ map variant_words l.fn.terms.items;
  sized : map sizes_of l.variants.items ≡ map (map wanted_size) (map variant_words l.fn.terms.items);
  done : map counted_words (take l.number l.variants.items)
      ≡ map (λ (words : List WordTerms). (true, map (own_wanted l.target.doc.0 l.target.span) words)) (take l.number (map variant_words l.fn.terms.items));
  grown : l.fn.steps ≤ l.steps;
}
