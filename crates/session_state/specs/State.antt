-- What a session holds.
use Rattle.std.specs.Prelude.{ℕ, List, []}
use Rattle.kept_plans.specs.Kept.{Kept, nothing_kept}
use Rattle.path_meaning.specs.Collection.{Named}
use Rattle.plan_compiler.specs.NamedLists.{NamedLists, no_lists}
use Rattle.reply_lines.specs.declared.reply.Reply.{Reply}

-- a mark: the documents as they were when it was set, with the abbreviations of then, under a name
pub record Mark : Type 0 where
  pub name : List ℕ
  pub documents : List Named
  pub abbreviations : List (List ℕ)

-- a watch: the text of a path, and the lines that name the elements that it selected when they were told last, under a name
pub record Watch : Type 0 where
  pub name : List ℕ
  pub path : List ℕ
  pub lines : List (List ℕ)

-- the documents in the order in which they were loaded, the keys of the abbreviations, the lists, the marks and the watches in the order
-- in which they were set, and the texts of the selections whose plans are kept
pub record State : Type 0 where
  pub documents : List Named
  pub abbreviations : List (List ℕ)
  pub lists : NamedLists
  pub marks : List Mark
  pub watches : List Watch
  pub kept : Kept

abbrev pub opening : State
opening = record { documents = []; abbreviations = []; lists = no_lists; marks = []; watches = []; kept = nothing_kept }

-- a state with other documents, and the reply
abbrev pub with_documents : State → List Named × Reply → State × Reply
with_documents state (documents, reply) = (record state { documents = documents }, reply)
