-- How far cursors may move by which a path of cheap selections is answered: the prices of the tests for which it asks, over the version of the index.
-- That counts the cursors over the index. What is left of an element where others are ignored is a view of its own, whose cursors aren't among them.
use Rattle.std.specs.Prelude.{ℕ, zero, suc, Bool, true, if◌then◌else◌, List, [], ◌∷◌, map, Option, Some, None, Result, Ok, Err}
use Rattle.std.specs.List.{list_all, sum_by}
use Rattle.ft_base.specs.Selection.{Form}
use Rattle.ft_base.specs.declared.fault.QueryFault.{QueryFault}
use Rattle.index_meaning.specs.Documents.{Numbered}
use Rattle.path_meaning.specs.Collection.{Named, documents}
use Rattle.path_meaning.specs.Elements.{Element}
use Rattle.path_meaning.specs.Tests.{selected_tests}
use Rattle.path_nodes.specs.Prices.{total_price}
use Rattle.path_subset.specs.Answer.{path_read}
use Rattle.path_subset.specs.Paths.{PathForm}
use Rattle.plain_tree.specs.Document.{Node}
use Rattle.plan_runs.specs.Judgement.{Judgement}
use Rattle.standing_queries.specs.Answers.{Answers}
use Rattle.plan_compiler.specs.CheapSelections.{is_cheap}
use Rattle.plan_compiler.specs.Lexicon.{lexicon}
use Rattle.plan_compiler.specs.NamedLists.{NamedLists}
use Rattle.plan_runs.specs.RunPrice.{price}
use Rattle.reply_lines.specs.declared.command.Command.{Command}
use Rattle.reply_lines.specs.declared.command.Command.TheVariants as command
use Rattle.tokenizer.specs.Tokens.{words_in}
use Rattle.session_state.specs.Held.{Held}
use Rattle.session_state.specs.Marks.{at_mark, mark_named, version_of_mark}
use Rattle.session_state.specs.Edits.{leads_through}
use Rattle.session_state.specs.Paths.{satisfies, selections_of}
use Rattle.session_state.specs.Standings.{standing_of, unknown_price}
use Rattle.session_state.specs.State.{Mark, State, Watch}
use Rattle.session_state.specs.Watches.{watch_named}

-- the words of an element, in order
abbrev pub words_of : Element → List (List ℕ)
words_of e = words_in e.node

-- the price of the selection of that number at an element, by what each selection costs at words; none for one that isn't there
unfoldable pub element_price : List (List (List ℕ) → ℕ) → ℕ → Element → ℕ
element_price [] k e = 0
element_price (first ∷ rest) zero e = first (words_of e)
element_price (first ∷ rest) (suc k) e = element_price rest k e

-- what each selection of a path costs at words, under lists and over a version
abbrev pub selection_prices : NamedLists → List Numbered → PathForm → List (List (List ℕ) → ℕ)
selection_prices lists version p = map (λ form text. price (lexicon lists) form version text) (selections_of p)

-- the prices of the tests for which a path asks in a document
abbrev pub price_in : Judgement → List (List ℕ) → NamedLists → List Numbered → PathForm → Node → ℕ
price_in says abbreviations lists version p root =
    total_price (element_price (selection_prices lists version p))
    (selected_tests (satisfies says abbreviations lists (selections_of p)) p.path.steps root)

-- and in all documents of its root
abbrev pub path_price : Judgement → Held → PathForm → ℕ
path_price says held p = sum_by (λ d. price_in says held.state.abbreviations held.state.lists held.version p d.root) (documents p.path.root held.state.documents)

-- a text that is no path asks for nothing
abbrev pub read_price : Judgement → Held → Result PathForm QueryFault → ℕ
read_price says held (Err fault) = 0
read_price says held (Ok p) = path_price says held p

-- what a session holds, with the documents, the abbreviations and the version of a mark in the place of those of now
abbrev pub held_at : Held → List ℕ → Mark → Held
held_at held name mark =
    record held { state = at_mark held.state mark; version = version_of_mark name held.state.marks held.mark_versions }

-- a path costs nothing at a mark that isn't there
abbrev pub price_at : Judgement → Held → List ℕ → List ℕ → Option Mark → ℕ
price_at says held name path None = 0
price_at says held name path (Some mark) = read_price says (held_at held name mark) (path_read path)

-- in a document; it costs nothing where the path doesn't lead through the document
abbrev pub document_price : Judgement → Held → PathForm → Named → ℕ
document_price says held p d =
    if leads_through p.path.root d.name then price_in says held.state.abbreviations held.state.lists held.version p d.root else 0

-- in the documents alone of which nothing is kept
abbrev pub price_of_unknown : Judgement → Held → Answers → Result PathForm QueryFault → ℕ
price_of_unknown says held kept (Err fault) = 0
price_of_unknown says held kept (Ok p) = unknown_price kept (document_price says held p) held.stamps held.state.documents

-- what has to be asked for the changes of a watch: nothing where there is no such watch
abbrev pub price_of_changes : Judgement → Held → List ℕ → Option Watch → ℕ
price_of_changes says held name None = 0
price_of_changes says held name (Some w) = price_of_unknown says held (standing_of name held.state.watches held.standings) (path_read w.path)

-- whether selections are cheap, each under its lists
abbrev pub are_cheap : List (NamedLists × Form) → Bool
are_cheap selections = list_all (λ s. is_cheap (lexicon s.0) s.1) selections

-- whether all selections of a path are cheap under lists; a text that is no path has none
abbrev pub is_cheap_path : NamedLists → Result PathForm QueryFault → Bool
is_cheap_path lists (Err fault) = true
is_cheap_path lists (Ok p) = are_cheap (map (λ form. (lists, form)) (selections_of p))

abbrev pub is_cheap_watch : NamedLists → Option Watch → Bool
is_cheap_watch lists None = true
is_cheap_watch lists (Some w) = is_cheap_path lists (path_read w.path)

-- whether all selections for which a command asks are cheap
unfoldable pub asks_cheaply : State → Command → Bool
asks_cheaply state (command.Insert how path block) = is_cheap_path state.lists (path_read path)
asks_cheaply state (command.Replace path block) = is_cheap_path state.lists (path_read path)
asks_cheaply state (command.Delete path) = is_cheap_path state.lists (path_read path)
asks_cheaply state (command.Query path) = is_cheap_path state.lists (path_read path)
asks_cheaply state (command.QueryAt name path) = is_cheap_path state.lists (path_read path)
asks_cheaply state (command.Print path) = is_cheap_path state.lists (path_read path)
asks_cheaply state (command.Show path) = is_cheap_path state.lists (path_read path)
asks_cheaply state (command.Watch name path) = is_cheap_path state.lists (path_read path)
asks_cheaply state (command.Changes name) = is_cheap_watch state.lists (watch_named name state.watches)
asks_cheaply state _ = true

-- how far a command may move cursors, where all selections for which it asks are cheap: as far as the tests of its path cost
unfoldable pub moves_for : Judgement → Held → Command → ℕ
moves_for says held (command.Insert how path block) = read_price says held (path_read path)
moves_for says held (command.Replace path block) = read_price says held (path_read path)
moves_for says held (command.Delete path) = read_price says held (path_read path)
moves_for says held (command.Query path) = read_price says held (path_read path)
moves_for says held (command.QueryAt name path) = price_at says held name path (mark_named name held.state.marks)
moves_for says held (command.Print path) = read_price says held (path_read path)
moves_for says held (command.Show path) = read_price says held (path_read path)
moves_for says held (command.Watch name path) = read_price says held (path_read path)
moves_for says held (command.Changes name) = price_of_changes says held name (watch_named name held.state.watches)
moves_for says held _ = 0
