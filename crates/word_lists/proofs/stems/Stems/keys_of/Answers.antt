-- No pair is left, so what is found is what the pairs list, and the stem itself, where its stem is itself.
use Rattle.std.proofs.Common.{◌≡◌, ◌∙◌, ◌||◌, ◌∷◌, [], false, List, Bor, refl, map, sym, ap}
use Rattle.std.specs.Prelude.{String, bytes_eq}
use Rattle.std.specs.List.{list_any}
use Rattle.std.proofs.lemmas.List.Folds.{list_any-append}
use Rattle.ft_base.proofs.Truth.{or_false}
use Rattle.word_lists.specs.Stems.{is_one_of}
use Rattle.word_lists.specs.View.{bytes_of_both}
use Rattle.word_lists.proofs.KeysOfStem.{lists_key, keys_listed, keys_with_itself}
use Rattle.word_lists.proofs.stems.Stems.keys_of.Goals as goal
use Rattle.word_lists.proofs.stems.Stems.keys_of.Goals.{then-eq-3+in_ok-push-2, else-eq-3}

pub returns : goal.returns
returns c = λ key.
    let stems = c.args.self.now in
    let stem = c.args.stem.now in
    let looked : is_one_of c.loop-word.keys key ≡ list_any (lists_key stems stem key) stems =
    sym (or_false (is_one_of c.loop-word.keys key) false refl)
    ∙ ap (λ (rest : List (String _ × String _)). is_one_of c.loop-word.keys key || list_any (lists_key stems stem key) (map bytes_of_both rest)) (sym c.in-None.ensures.steps.0)
    ∙ c.loop-word.invariant key in
    elim c.if-eq-3.branch [
      | then-eq-3+in_ok-push-2 w ↦
          ap (λ keys. is_one_of keys key) (w.keys-is ∙ w.in_ok-push-2.ensures.ok)
          ∙ list_any-append (λ (text : Bor _). bytes_eq key text.now) c.loop-word.keys (c.args.stem ∷ [])
          ∙ ap (λ b. b || (bytes_eq key stem || false)) looked
          ∙ ap (λ b. list_any (lists_key stems stem key) stems || b) (or_false (bytes_eq key stem) false refl)
          ∙ keys_with_itself stems stem key (ap (λ own. bytes_eq own stem) (sym c.stem-2.ensures) ∙ sym w.if-eq-3.ensures)
      | else-eq-3 w ↦
          ap (λ keys. is_one_of keys key) w.keys-is ∙ looked ∙ keys_listed stems stem key (ap (λ own. bytes_eq own stem) (sym c.stem-2.ensures) ∙ sym w.if-eq-3.ensures)
    ]
