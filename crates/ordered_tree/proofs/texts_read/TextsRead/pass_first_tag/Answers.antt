-- A tag brings no leaf, and the places of the starts are those that the tag leaves.
use Rattle.std.proofs.Common.{◌++◌, ◌∷◌, refl, sym, ap, ◌∙◌, append-nil}
use Rattle.tokenizer.specs.Parts.{gap_tag}
use Rattle.tokenizer.specs.steps.StartsLeft.{sentences_in, paragraphs_in}
use Rattle.ordered_tree.proofs.LeavesLemmas.{leaves_after-nil, last_leaf-nil}
use Rattle.ordered_tree.proofs.texts_read.TextsRead.pass_first_tag.Goals as goal

pub returns-clause-gathers : goal.returns-clause-gathers
returns-clause-gathers c =
    let old = c.args.self.now in
    record {
      leaves = sym (append-nil old.leaves) ∙ ap (λ l. old.leaves ++ l) (sym (leaves_after-nil old.last));
      last = sym (last_leaf-nil old.last);
      sentences = λ rest. ap (λ n. sentences_in old.starts (gap_tag n ∷ rest)) (sym c.as_str.ensures) ∙ c.pass_tag.ensures.sentences rest;
      paragraphs = λ rest. ap (λ n. paragraphs_in old.starts (gap_tag n ∷ rest)) (sym c.as_str.ensures) ∙ c.pass_tag.ensures.paragraphs rest;
      abbreviations = refl;
      most = refl;
    }
