-- The documents of a collection, and what loading, dropping and editing do to them.
use Rattle.std.specs.Prelude.{ℕ, Bool, nat_le, nat_lt, ◌+◌, ◌||◌, if◌then◌else◌, List, [], ◌∷◌, ◌++◌, length, map, Option, Some, None, Result, Ok, Err, ⊤}
use Rattle.std.specs.List.{flat_map, list_any, sum_by}
use Rattle.std.specs.Set.{distinct_count}
use Rattle.std.specs.Str.{bytes_eq}
use Rattle.doc_grammar.specs.Limits.{height, node_count}
use Rattle.doc_profile.specs.Readings.{document_of}
use Rattle.doc_profile.specs.declared.fault.DocFault.{DocFault}
use Rattle.document_edits.specs.Edited.{edited}
use Rattle.document_edits.specs.Targets.{touched_by}
use Rattle.ft_base.specs.Limits.{max_depth, max_documents, max_nodes, max_tokens}
use Rattle.path_meaning.specs.Collection.{Named}
use Rattle.plain_tree.specs.Document.{Node, Nodes}
use Rattle.plain_tree.specs.declared.place.How.{How}
use Rattle.text_forms.specs.Forms.{key_of}
use Rattle.ordered_tree.specs.Counts.{word_count}
use Rattle.tokenizer.specs.Tokens.{words_in}
use Rattle.document_store.specs.declared.fault.NotEdited.{NotEdited}
use Rattle.document_store.specs.declared.fault.NotEdited.TheVariants as unedited
use Rattle.document_store.specs.declared.fault.NotLoaded.{NotLoaded}
use Rattle.document_store.specs.declared.fault.NotLoaded.TheVariants as unloaded
use Rattle.document_store.specs.declared.fault.NotRemoved.{NotRemoved}
use Rattle.document_store.specs.declared.fault.NotRemoved.TheVariants as unremoved

abbrev pub has_name : List ℕ → List Named → Bool
has_name name documents = list_any (λ d. bytes_eq name d.name) documents

-- ---- loading and dropping

-- a document that was read, unless it has too many tokens
abbrev pub with_few_tokens : Result Node DocFault → Result Node NotLoaded
with_few_tokens (Err fault) = Err (unloaded.Document fault)
with_few_tokens (Ok root) = if nat_lt max_tokens (word_count root) then Err unloaded.TooManyTokens else Ok root

-- the document that a block is, or why it can't be loaded
unfoldable pub loadable : List ℕ → Result Node NotLoaded
loadable block = with_few_tokens (document_of block)

-- the documents with one more after them, and the answer
abbrev pub added : List Named → List ℕ → Result Node NotLoaded → List Named × Result ⊤ NotLoaded
added documents name (Err why) = (documents, Err why)
added documents name (Ok root) = (documents ++ record { name = name; root = root } ∷ [], Ok tt)

-- a document is loaded, unless its name is taken, the collection is full, or the block is no such document
abbrev pub loaded : List Named → List ℕ → Result Node NotLoaded → List Named × Result ⊤ NotLoaded
loaded documents name document =
    if has_name name documents then (documents, Err unloaded.NameTaken)
    else if nat_le max_documents (length documents) then (documents, Err unloaded.Full)
    else added documents name document

-- the documents without the one of that name
abbrev pub without : List ℕ → List Named → List Named
without name [] = []
without name (d ∷ ds) = if bytes_eq name d.name then ds else d ∷ without name ds

-- a document is taken out, where there is one of that name
abbrev pub dropped : List Named → List ℕ → List Named × Result ⊤ NotRemoved
dropped documents name =
    if has_name name documents then (without name documents, Ok tt) else (documents, Err unremoved.NoSuchName)

-- how many tokens the document has that a load puts in; none, where it is refused
abbrev pub tokens_loaded : List Named → List ℕ → Result Node NotLoaded → ℕ
tokens_loaded documents name (Err why) = 0
tokens_loaded documents name (Ok root) =
    if has_name name documents || nat_le max_documents (length documents) then 0 else word_count root

-- how many tokens the document of a name has; none, where there is no such document
abbrev pub tokens_named : List Named → List ℕ → ℕ
tokens_named [] name = 0
tokens_named (d ∷ ds) name = if bytes_eq name d.name then word_count d.root else tokens_named ds name

-- ---- editing

-- an edit: what comes into or beside the elements of which it is, or, where it isn't said how, into their place
pub record Edit : Type 0 where
  pub how : Option How
  pub content : Nodes

-- the root of a document after an edit of its elements at these places
abbrev pub edited_root : Edit → List (List ℕ) → Node → Node
edited_root edit [] root = root
edited_root edit (place ∷ rest) root = edited edit.how edit.content (place ∷ rest) root

-- documents after an edit, of each of which the places are told, in order
abbrev pub edited_documents : Edit → List (List (List ℕ)) → List Named → List Named
edited_documents edit [] documents = documents
edited_documents edit (places ∷ rest) [] = []
edited_documents edit (places ∷ rest) (d ∷ ds) = record { name = d.name; root = edited_root edit places d.root } ∷ edited_documents edit rest ds

-- the roots, after the edit, of the documents that it changes
abbrev pub changed_root : Edit → List (List ℕ) → Node → List Node
changed_root edit [] root = []
changed_root edit (place ∷ rest) root = edited_root edit (place ∷ rest) root ∷ []

abbrev pub changed_roots : Edit → List (List (List ℕ)) → List Named → List Node
changed_roots edit [] documents = []
changed_roots edit (places ∷ rest) [] = []
changed_roots edit (places ∷ rest) (d ∷ ds) = changed_root edit places d.root ++ changed_roots edit rest ds

-- what some of these documents have too much of: levels of elements are looked at first, then nodes, then tokens
abbrev pub limit_of : List Node → Option NotEdited
limit_of roots =
    if list_any (λ root. nat_lt max_depth (height root)) roots then Some unedited.TooDeep
    else if list_any (λ root. nat_lt max_nodes (node_count root)) roots then Some unedited.TooManyNodes
    else if list_any (λ root. nat_lt max_tokens (word_count root)) roots then Some unedited.TooManyTokens
    else None

abbrev pub or_limited : List Named → Option NotEdited → List Named → List Named × Result ⊤ NotEdited
or_limited before (Some why) after = (before, Err why)
or_limited before None after = (after, Ok tt)

-- documents after an edit, unless one would exceed a limit; then they stay as they are
unfoldable pub edited_within : Edit → List (List (List ℕ)) → List Named → List Named × Result ⊤ NotEdited
edited_within edit places documents = or_limited documents (limit_of (changed_roots edit places documents)) (edited_documents edit places documents)

-- how many words of texts that don't stay an edit has in documents
abbrev pub touched_root : Edit → List (List ℕ) → Node → ℕ
touched_root edit [] root = 0
touched_root edit (place ∷ rest) root = touched_by edit.how edit.content (place ∷ rest) root

abbrev pub touched_in : Edit → List (List (List ℕ)) → List Named → ℕ
touched_in edit [] documents = 0
touched_in edit (places ∷ rest) [] = 0
touched_in edit (places ∷ rest) (d ∷ ds) = touched_root edit places d.root + touched_in edit rest ds

-- ---- counts

abbrev pub token_total : List Named → ℕ
token_total documents = sum_by (λ d. word_count d.root) documents

-- how many different keys the tokens of documents have
abbrev pub key_total : List Named → ℕ
key_total documents = distinct_count bytes_eq (map key_of (flat_map (λ d. words_in d.root) documents))
