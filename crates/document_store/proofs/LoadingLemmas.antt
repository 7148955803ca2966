-- When a document is loaded or taken out, and when that is refused.
use Rattle.std.proofs.Common.{◌≡◌, ◌≢◌, ◌∙◌, sym, ap, refl, ℕ, ◌<◌, ◌≤◌, Bool, true, false, cond, ◌||◌, List, [], ◌∷◌, length, map}
use Rattle.std.specs.Prelude.{Some, None, Result, Ok, Err, is_some, nat_le, ⊤}
use Rattle.std.specs.Map.{lookup, remove_entry}
use Rattle.std.specs.Str.{bytes_eq}
use Rattle.std.proofs.lemmas.Bool.{lt-ltb, le-ltb, true≢false}
use Rattle.std.proofs.lemmas.List.{length-map}
use Rattle.doc_profile.specs.declared.fault.DocFault.{DocFault}
use Rattle.doc_profile.specs.declared.fault.DocFault.TheVariants as faults
use Rattle.doc_grammar.specs.Limits.{node_count}
use Rattle.ordered_tree.specs.Counts.{word_count}
use Rattle.ordered_tree.specs.Numbered.{plain}
use Rattle.ordered_tree.specs.Numbering.{numbered}
use Rattle.ordered_tree.specs.Stored.{Stored}
use Rattle.path_meaning.specs.Collection.{Named}
use Rattle.plain_tree.specs.Document.{Node}
use Rattle.doc_profile.specs.Readings.{Faults, document_of}
use Rattle.document_store.specs.declared.fault.NotLoaded.{NotLoaded}
use Rattle.document_store.specs.declared.fault.NotLoaded.TheVariants as unloaded
use Rattle.document_store.specs.declared.fault.NotLoaded.TheVariants.{Full, NameTaken, TooManyTokens}
use Rattle.document_store.specs.declared.fault.NotRemoved.TheVariants.{NoSuchName}
use Rattle.document_store.specs.Loaded.{LoadedTree, to_document}
use Rattle.ft_base.specs.Limits.{max_documents, max_tokens}
use Rattle.document_store.specs.Documents.{added, has_name, dropped, loadable, loaded, tokens_loaded, with_few_tokens, without}

-- a name is taken where a look-up finds it
pub has_name-lookup : (name : List ℕ) (entries : List (List ℕ × LoadedTree)) → has_name name (map to_document entries) ≡ is_some (lookup (bytes_eq name) entries)
has_name-lookup name [] = refl
has_name-lookup name (e ∷ es) =
    elim (bytes_eq name e.0) as (λ t. (t || has_name name (map to_document es)) ≡ is_some (cond t (Some e.1) (lookup (bytes_eq name) es)))
    [ true ↦ refl | false ↦ has_name-lookup name es ]

-- the same in the documents of entries
pub name-taken : (entries : List (List ℕ × LoadedTree)) (documents : List Named) (name : List ℕ) → map to_document entries ≡ documents
    → has_name name documents ≡ is_some (lookup (bytes_eq name) entries)
name-taken entries documents name there = ap (has_name name) (sym there) ∙ has_name-lookup name entries

-- nothing has a name that isn't there
pub lookup-absent : (name : List ℕ) (entries : List (List ℕ × LoadedTree)) → has_name name (map to_document entries) ≡ false
    → lookup (bytes_eq name) entries ≡ None
lookup-absent name [] = (λ absent. refl)
lookup-absent name (e ∷ es) =
    elim (bytes_eq name e.0) as (λ t. (t || has_name name (map to_document es)) ≡ false → cond t (Some e.1) (lookup (bytes_eq name) es) ≡ None)
    [ true ↦ (λ same. absurd (true≢false same)) | false ↦ lookup-absent name es ]

-- what is looked for before a document is loaded: whether its name is taken, and whether there is no room for one more
module _ (entries : List (List ℕ × LoadedTree)) (documents : List Named) (name asked : List ℕ) (there : map to_document entries ≡ documents) (same : name ≡ asked)
    (taken full : Bool) (found : has_name name (map to_document entries) ≡ taken) (long : nat_le max_documents (length entries) ≡ full) where
  has : has_name asked documents ≡ taken
  has = ap (has_name asked) (sym there) ∙ (ap (λ n. has_name n (map to_document entries)) (sym same) ∙ found)

  count : nat_le max_documents (length documents) ≡ full
  count = ap (λ ds. nat_le max_documents (length ds)) (sym there) ∙ (ap (nat_le max_documents) (length-map entries to_document) ∙ long)

  -- the two tests decide, before the block is looked at
  pub loaded-by : (read : Result Node NotLoaded)
      → loaded documents asked read ≡ cond taken (documents, Err NameTaken) (cond full (documents, Err Full) (added documents asked read))
  loaded-by read =
      ap (λ t. cond t (documents, Err NameTaken) (cond (nat_le max_documents (length documents)) (documents, Err Full) (added documents asked read))) has
      ∙ ap (λ t. cond taken (documents, Err NameTaken) (cond t (documents, Err Full) (added documents asked read))) count

  -- the tokens of a document that comes
  pub tokens-come : (root : Node) → tokens_loaded documents asked (Ok root) ≡ cond (taken || full) 0 (word_count root)
  tokens-come root =
      ap (λ t. cond (t || nat_le max_documents (length documents)) 0 (word_count root)) has ∙ ap (λ t. cond (taken || t) 0 (word_count root)) count

pub dropped-test : (documents : List Named) (name : List ℕ) (there : Bool) → has_name name documents ≡ there
    → dropped documents name ≡ cond there (without name documents, Ok tt) (documents, Err NoSuchName)
dropped-test documents name there has = ap (λ t. cond t (without name documents, Ok tt) (documents, Err NoSuchName)) has

-- the entries without the first of the name
pub without-removed : (name : List ℕ) (entries : List (List ℕ × LoadedTree)) → map to_document (remove_entry (bytes_eq name) entries) ≡ without name (map to_document entries)
without-removed name [] = refl
without-removed name (e ∷ es) =
    elim (bytes_eq name e.0) as (λ t. map to_document (cond t es (e ∷ remove_entry (bytes_eq name) es)) ≡ cond t (map to_document es) (to_document e ∷ without name (map to_document es)))
    [ true ↦ refl | false ↦ ap (λ ds. to_document e ∷ ds) (without-removed name es) ]

-- documents that became others
abbrev pub changed_to : {E : Type 0} → List Named → List Named × Result ⊤ E
changed_to documents = (documents, Ok tt)

-- a document that was read, and too many tokens
pub with_few_tokens-many : (root : Node) → max_tokens < word_count root → with_few_tokens (Ok root) ≡ Err TooManyTokens
with_few_tokens-many root many = ap (λ t. cond t (Err TooManyTokens) (Ok root)) (lt-ltb max_tokens (word_count root) many)

pub with_few_tokens-few : (root : Node) → word_count root ≤ max_tokens → with_few_tokens (Ok root) ≡ Ok root
with_few_tokens-few root few = ap (λ t. cond t (Err TooManyTokens) (Ok root)) (le-ltb max_tokens (word_count root) few)

-- a block's fault, or its document
module _ (block : List ℕ) where
  pub loadable-fault : (fault : DocFault) → document_of block ≡ Err fault → loadable block ≡ Err (unloaded.Document fault)
  unfolding loadable
  loadable-fault fault is = ap with_few_tokens is

  pub loadable-read : (root : Node) → document_of block ≡ Ok root → with_few_tokens (Ok root) ≡ loadable block
  unfolding loadable
  loadable-read root is = sym (ap with_few_tokens is)

  -- a fault that isn't want of memory is the block's
  pub loadable-refused : (fault : DocFault) (why : NotLoaded) → Faults (document_of block) fault → fault ≢ faults.Memory → why ≡ unloaded.Document fault → Err why ≡ loadable block
  loadable-refused (faults.NotUtf8 at) why h other is = ap Err is ∙ sym (loadable-fault (faults.NotUtf8 at) h)
  loadable-refused (faults.Syntax at) why h other is = ap Err is ∙ sym (loadable-fault (faults.Syntax at) h)
  loadable-refused (faults.Depth at) why h other is = ap Err is ∙ sym (loadable-fault (faults.Depth at) h)
  loadable-refused (faults.Nodes at) why h other is = ap Err is ∙ sym (loadable-fault (faults.Nodes at) h)
  loadable-refused faults.Memory why h other is = absurd (other refl)

-- the document of a tree that was made of it
pub tree-is : (tree : Stored) (document : Node) → ((n : Node) (first : ℕ) → plain (numbered first n) ≡ n)
    → tree ≡ record { root = numbered 0 document; slots = node_count document } → plain tree.root ≡ document
tree-is tree document without made = ap (λ (t : Stored). plain t.root) made ∙ without document 0
