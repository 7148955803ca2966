-- The first level is the phrase alone; each turn passes one more; after an empty level all are empty.
use Rattle.std.proofs.Common.{◌≡◌, ◌∙◌, sym, ap, ℕ, suc, ◌+◌, ◌-◌, ◌<◌, cond, List, [], ◌∷◌, ◌++◌, length, arith, append-nil, append_assoc}
use Rattle.std.proofs.lemmas.List.{nil_from_length}
use Rattle.std.specs.Prelude.{flat_map, fold, Option}
use Rattle.std.specs.Option.{option_copied}
use Rattle.std.specs.List.{list_any, range_with_len}
use Rattle.std.specs.BTreeSet.{insert_key}
use Rattle.thesaurus_file.specs.Expansion.{asked_level, expanded, is_nearer, level, reached}
use Rattle.thesaurus_file.specs.Levels.{in_range}
use Rattle.thesaurus_file.specs.Links.{Links}
use Rattle.thesaurus_file.specs.Phrases.{Phrase, phrase_cmp, phrase_eq}
use Rattle.thesaurus_file.specs.steps.Walks.{level_after}
use Rattle.thesaurus_file.specs.declared.levels.Levels.{Levels}
use Rattle.thesaurus_file.proofs.LevelLemmas.{known_0, known_next, level_0, level_suc, none_above, none_asked}
use Rattle.thesaurus_file.proofs.thesaurus.Thesaurus.expand.Goals as goal

abbrev levels_from : Links → Option (List ℕ) → Levels → Phrase → ℕ → ℕ → List Phrase
levels_from thesaurus relation levels start n count = flat_map (asked_level thesaurus relation levels start) (range_with_len n count)

all_left : (thesaurus : Links) (relation : Option (List ℕ)) (levels : Levels) (start : Phrase) (before : List Phrase) → before ≡ start ∷ []
    → before ++ levels_from thesaurus relation levels start 1 (length thesaurus - 0) ≡ expanded thesaurus relation levels start
unfolding reached
all_left thesaurus relation levels start before is =
    let e : length thesaurus - 0 ≡ length thesaurus = omega arith in
    ap (λ r. r ++ levels_from thesaurus relation levels start 1 (length thesaurus - 0)) is
    ∙ ap (λ n. start ∷ levels_from thesaurus relation levels start 1 n) e

one_passed : (thesaurus : Links) (relation : Option (List ℕ)) (levels : Levels) (start : Phrase) (before : List Phrase) (passed count : ℕ) → passed < count
    → (before ++ asked_level thesaurus relation levels start (suc passed)) ++ levels_from thesaurus relation levels start (suc (passed + 1)) (count - (passed + 1))
    ≡ before ++ levels_from thesaurus relation levels start (suc passed) (count - passed)
one_passed thesaurus relation levels start before passed count more =
    let e : count - passed ≡ suc (count - (passed + 1)) = omega arith in
    let n : suc (passed + 1) ≡ suc passed + 1 = omega arith in
    append_assoc before (asked_level thesaurus relation levels start (suc passed)) (levels_from thesaurus relation levels start (suc (passed + 1)) (count - (passed + 1)))
    ∙ ap (λ k. before ++ (asked_level thesaurus relation levels start (suc passed) ++ levels_from thesaurus relation levels start k (count - (passed + 1)))) n
    ∙ ap (λ k. before ++ levels_from thesaurus relation levels start (suc passed) k) (sym e)

pub loop-passed-init : goal.loop-passed-init
loop-passed-init c =
    let relation = option_copied c.args.relationship in
    record {
      last = c.in_ok-level.ensures ∙ sym (level_0 c.args.self.now relation c.args.phrase.now);
      known = λ q. ap (list_any (phrase_eq q)) c.in_ok-seen.ensures ∙ known_0 c.args.self.now relation c.args.phrase.now q;
      left = all_left c.args.self.now relation c.args.levels.now c.args.phrase.now c.push.new.self.items
          (c.in_ok-push.ensures.items ∙ (λ i. c.new-reached.ensures.items i ++ c.in_ok-copy.ensures i ∷ []));
    }

pub returns-then-is_empty : goal.returns-then-is_empty
returns-then-is_empty c =
    let relation = option_copied c.args.relationship in
    let none : c.loop-passed.level.keys ≡ [] = nil_from_length c.loop-passed.level.keys (c.is_empty.ensures.0 c.if-is_empty.true) in
    sym (append-nil c.loop-passed.reached.items)
    ∙ ap (λ l. c.loop-passed.reached.items ++ l) (sym (none_asked c.args.self.now relation c.args.phrase.now c.args.levels.now (length c.args.self.now - c.loop-passed.passed) c.loop-passed.passed c.loop-passed.seen.keys c.loop-passed.invariant.known (sym c.loop-passed.invariant.last ∙ none)))
    ∙ c.loop-passed.invariant.left

pub loop-passed-preserved : goal.loop-passed-preserved
loop-passed-preserved c =
    let thesaurus = c.args.self.now in
    let relation = option_copied c.args.relationship in
    let start = c.args.phrase.now in
    let passed = c.loop-passed.passed in
    let e : suc passed ≡ passed + 1 = omega arith in
    let next : c.in_ok-level-2.level.keys ≡ level thesaurus relation (suc passed) start =
    c.in_ok-level-2.ensures
    ∙ ap (level_after thesaurus relation c.loop-passed.seen.keys) c.loop-passed.invariant.last
    ∙ level_suc thesaurus relation start passed c.loop-passed.seen.keys c.loop-passed.invariant.known in
    record {
      last = next ∙ ap (λ n. level thesaurus relation n start) e;
      known = λ q. ap (list_any (phrase_eq q)) (c.in_ok-insert_level.ensures ∙ ap (fold (insert_key phrase_cmp) c.loop-passed.seen.keys) next)
          ∙ known_next thesaurus relation start passed c.loop-passed.seen.keys c.loop-passed.invariant.known q
          ∙ ap (λ n. is_nearer thesaurus relation (suc n) start q) e;
      left = ap (λ r. r ++ levels_from thesaurus relation c.args.levels.now start (suc (passed + 1)) (length thesaurus - (passed + 1)))
          (c.in_ok-push_level.ensures ∙ (λ i. c.loop-passed.reached.items ++ cond (c.hold.ensures i) (next i) []) ∙ ap (λ n. c.loop-passed.reached.items ++ cond (in_range c.args.levels.now n) (level thesaurus relation (suc passed) start) []) (sym e))
          ∙ one_passed thesaurus relation c.args.levels.now start c.loop-passed.reached.items passed (length thesaurus) (omega (arith, c.loop-passed-test.true, c.last_within-passed-end.ensures.within, c.len.ensures.len, ap length c.self.view_is))
          ∙ c.loop-passed.invariant.left;
    }

pub returns : goal.returns
returns c =
    let thesaurus = c.args.self.now in
    let relation = option_copied c.args.relationship in
    let passed = c.loop-passed.passed in
    let none : levels_from thesaurus relation c.args.levels.now c.args.phrase.now (suc passed) (length thesaurus - passed) ≡ [] =
    none_above thesaurus relation c.args.phrase.now c.args.levels.now (length thesaurus - passed) (suc passed)
    (λ n low high. c.last_within-passed-end.ensures.last n (omega (arith, low, c.loop-passed-test.false)) (omega (arith, high, low, c.len.ensures.len, ap length c.self.view_is))) in
    sym (append-nil c.loop-passed.reached.items)
    ∙ ap (λ l. c.loop-passed.reached.items ++ l) (sym none)
    ∙ c.loop-passed.invariant.left
