-- The text gives one leaf more, after the last one, and the starts in it are those that its words bring.
use Rattle.std.proofs.Common.{◌≡◌, ℕ, List, [], ◌∷◌, ◌++◌, refl, ap, ◌∙◌, subst}
use Rattle.tokenizer.specs.Parts.{Part, parts_of_text}
use Rattle.text_words.specs.Words.{words}
use Rattle.tokenizer.specs.steps.StartsLeft.{sentences_in, paragraphs_in}
use Rattle.ordered_tree.specs.Leaves.{leaf_of, leaves_after, last_leaf}
use Rattle.ordered_tree.proofs.texts_read.TextsRead.pass_text.Goals as goal

pub returns-clause-gathers : goal.returns-clause-gathers
unfolding leaves_after last_leaf
returns-clause-gathers c =
    let old = c.args.self.now in
    let starts = c.pass_text.new.self in
    let parts = parts_of_text old.abbreviations.now in
    record {
      leaves = c.in_ok-push.ensures.ok
          ∙ ap (λ ws. old.leaves ++ record { leaf = leaf_of c.args.node; after = old.last; words = ws } ∷ []) c.in_ok-read.ensures.words
          ∙ ap (λ b. old.leaves ++ record { leaf = leaf_of c.args.node; after = old.last; words = words b } ∷ []) c.as_str.ensures;
      last = refl;
      sentences = subst (λ (b : List ℕ). (rest : List Part) → sentences_in old.starts (parts b ++ rest) ≡ sentences_in starts rest) c.as_str.ensures c.in_ok-read.ensures.sentences;
      paragraphs = subst (λ (b : List ℕ). (rest : List Part) → paragraphs_in old.starts (parts b ++ rest) ≡ paragraphs_in starts rest) c.as_str.ensures c.in_ok-read.ensures.paragraphs;
      abbreviations = refl;
      most = refl;
    }
