-- The parts of the compiled words.
use Rattle.std.proofs.Common.{◌≡◌, ◌∙◌, refl, sym, ap, Bool, true, false, not, ◌&&◌, List, [], ◌∷◌}
use Rattle.std.specs.Prelude.{◌↔◌, IsTrue}
use Rattle.ft_base.specs.Lists.{is_not_empty}
use Rattle.plan_compiler.specs.WordsMeaning.{asks_all}
use Rattle.plan_compiler.proofs.compiling_words.compile_words.Goals.{then-asks_all, else-asks_all}
use Rattle.plan_compiler.proofs.compiling_words.compile_words.Goals as goal

some_phrase : {X : Type 0} (xs : List X) (empty : Bool) → IsTrue empty ↔ (xs ≡ []) → not empty ≡ is_not_empty xs
some_phrase [] true h = refl
some_phrase [] false h = let no : false ≡ true = h.1 refl in cc
some_phrase (x ∷ xs) true h = let no : (x ∷ xs) ≡ [] = h.0 refl in cc
some_phrase (x ∷ xs) false h = refl

pub returns : goal.returns
returns c =
    let all : c.if-asks_all.all ≡ (asks_all c.args.words.now.mode && is_not_empty c.in_ok-phrases.phrases) = elim c.if-asks_all.branch [
      | then-asks_all w ↦
          w.all-is
          ∙ some_phrase c.in_ok-phrases.phrases w.is_empty.result w.is_empty.ensures
          ∙ ap (λ b. b && is_not_empty c.in_ok-phrases.phrases) (sym (sym c.asks_all.ensures ∙ w.if-asks_all.true))
      | else-asks_all w ↦ w.all-is ∙ w.if-asks_all.false ∙ ap (λ b. b && is_not_empty c.in_ok-phrases.phrases) (sym (sym c.asks_all.ensures ∙ w.if-asks_all.false))
    ] in
    record {
      reading = c.in_ok-reading.reading;
      reads = c.in_ok-reading.ensures;
      phrases = c.in_ok-phrases.ensures;
      all = all;
      times = refl;
    }
