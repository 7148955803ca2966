-- The limits of the search engine, as definitions name them. Each is the constant of the program, so that the two are one number.
use Rattle.std.specs.Prelude.{ℕ}
use Rattle.ft_base.specs.declared.limits.TheConstants.{MAX_SESSION_BYTES, MAX_PIECE_BYTES, MAX_LINE_BYTES, MAX_NAME_BYTES, MAX_DOCUMENTS, MAX_MARKS}
use Rattle.ft_base.specs.declared.limits.TheConstants.{MAX_LISTS, MAX_DEPTH, MAX_NODES, MAX_TOKENS, MAX_OPEN, MAX_FILTERS, MAX_PHRASES, MAX_NUMBER}

-- the most bytes of a session, and of a piece of it that is read at once
abbrev pub max_session_bytes : ℕ
max_session_bytes = MAX_SESSION_BYTES

abbrev pub max_piece_bytes : ℕ
max_piece_bytes = MAX_PIECE_BYTES

-- the most bytes of a command line, without its line end, and of a name
abbrev pub max_line_bytes : ℕ
max_line_bytes = MAX_LINE_BYTES

abbrev pub max_name_bytes : ℕ
max_name_bytes = MAX_NAME_BYTES

-- the most documents at once, the most marks, and the most stop lists, and as many thesauri
abbrev pub max_documents : ℕ
max_documents = MAX_DOCUMENTS

abbrev pub max_marks : ℕ
max_marks = MAX_MARKS

abbrev pub max_lists : ℕ
max_lists = MAX_LISTS

-- the deepest level of a document's elements, and the most elements and texts, and tokens, of a document
abbrev pub max_depth : ℕ
max_depth = MAX_DEPTH

abbrev pub max_nodes : ℕ
max_nodes = MAX_NODES

abbrev pub max_tokens : ℕ
max_tokens = MAX_TOKENS

-- the most parentheses of a selection, or brackets and parentheses of a path, that are open at once
abbrev pub max_open : ℕ
max_open = MAX_OPEN

-- the most filters directly round one another, and the most phrases, of a selection
abbrev pub max_filters : ℕ
max_filters = MAX_FILTERS

abbrev pub max_phrases : ℕ
max_phrases = MAX_PHRASES

-- the greatest number in a query
abbrev pub max_number : ℕ
max_number = MAX_NUMBER
