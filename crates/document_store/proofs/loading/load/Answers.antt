-- The document with references and what was found of it, or too many tokens.
use Rattle.std.proofs.Common.{◌∙◌, ◌≤◌, subst, sym, ap, Ok}
use Rattle.std.specs.Prelude.{Err}
use Rattle.doc_grammar.specs.Limits.{node_count}
use Rattle.ft_base.specs.Limits.{max_nodes}
use Rattle.tokenizer.specs.Tokens.{tokens, paragraph_starts, sentence_starts}
use Rattle.ordered_tree.specs.Leaves.{leaves}
use Rattle.ordered_tree.specs.Stored.{Stored}
use Rattle.document_store.proofs.LoadingLemmas.{tree-is, with_few_tokens-few, with_few_tokens-many}
use Rattle.document_store.proofs.loading.load.Goals as goal

pub invariant_of-result : goal.invariant_of-result
invariant_of-result c =
    record { within = subst (λ n. node_count n ≤ max_nodes) (sym (tree-is c.in-Ok.read.tree c.args.document c.numbered_law.ensures c.in-Ok.ensures.tree)) c.requires.1 }

pub returns-in-Ok-clause-found : goal.returns-in-Ok-clause-found
returns-in-Ok-clause-found c =
    let keys = c.args.abbreviations.now in
    let is = sym (tree-is c.in-Ok.read.tree c.args.document c.numbered_law.ensures c.in-Ok.ensures.tree) in
    record {
      leaves = c.in-Ok.ensures.leaves ∙ sym (ap (λ (t : Stored). leaves t.root) c.in-Ok.ensures.tree);
      sentences = c.in-Ok.ensures.sentences ∙ ap (λ n. sentence_starts (tokens keys n)) is;
      paragraphs = c.in-Ok.ensures.paragraphs ∙ ap (λ n. paragraph_starts (tokens keys n)) is;
    }

pub returns-in-Ok-clause-outcome : goal.returns-in-Ok-clause-outcome
returns-in-Ok-clause-outcome c =
    ap Ok (tree-is c.in-Ok.read.tree c.args.document c.numbered_law.ensures c.in-Ok.ensures.tree)
    ∙ sym (with_few_tokens-few c.args.document c.in-Ok.ensures.few)

pub returns-in-Err-Tokens-clause-outcome : goal.returns-in-Err-Tokens-clause-outcome
returns-in-Err-Tokens-clause-outcome c = sym (with_few_tokens-many c.args.document (c.in-Err-Tokens.ensures.full (ap Err c.in-Err-Tokens.field-0-is)))
