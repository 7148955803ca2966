-- Marks: the collection as it was, under a name.
use Rattle.std.specs.Prelude.{ℕ, Bool, nat_le, if◌then◌else◌, List, [], ◌∷◌, ◌++◌, length, find, Option, ⊤}
use Rattle.std.specs.List.{list_any}
use Rattle.std.specs.Str.{bytes_eq}
use Rattle.document_store.specs.Indexed.{IsIndexOf}
use Rattle.ft_base.specs.Limits.{max_marks}
use Rattle.index_meaning.specs.Documents.{Numbered}
use Rattle.path_meaning.specs.Collection.{Named}
use Rattle.reply_lines.specs.declared.reply.FullOf.TheVariants as full
use Rattle.reply_lines.specs.declared.reply.Refusal.TheVariants as refusal
use Rattle.reply_lines.specs.declared.reply.Reply.{Reply}
use Rattle.reply_lines.specs.declared.reply.Reply.TheVariants.{Done, Refused}
use Rattle.session_state.specs.State.{State, Mark}

abbrev pub has_mark : List ℕ → List Mark → Bool
has_mark name marks = list_any (λ m. bytes_eq name m.name) marks

abbrev pub mark_named : List ℕ → List Mark → Option Mark
mark_named name marks = find (λ m. bytes_eq name m.name) marks

-- the marks without the one of that name
abbrev pub without_mark : List ℕ → List Mark → List Mark
without_mark name [] = []
without_mark name (m ∷ ms) = if bytes_eq name m.name then ms else m ∷ without_mark name ms

-- a mark comes after the others, which keeps these documents and abbreviations, unless its name is taken or there are as many as there
-- may be
abbrev pub mark_put : List Mark → List ℕ → List Named → List (List ℕ) → List Mark × Reply
mark_put marks name documents abbreviations =
    if has_mark name marks then (marks, Refused (refusal.NameTaken name))
    else if nat_le max_marks (length marks) then (marks, Refused (refusal.Full full.Marks))
    else (marks ++ record { name = name; documents = documents; abbreviations = abbreviations } ∷ [], Done)

-- a mark is given up, where there is one of that name
abbrev pub mark_taken : List Mark → List ℕ → List Mark × Reply
mark_taken marks name =
    if has_mark name marks then (without_mark name marks, Done) else (marks, Refused (refusal.NoSuchName name))

-- a state with other marks, and the reply
abbrev pub with_marks : State → List Mark × Reply → State × Reply
with_marks state (marks, reply) = (record state { marks = marks }, reply)

-- the documents and the abbreviations of now are kept under a name, or the mark of a name is given up
abbrev pub marked : State → List ℕ → State × Reply
marked state name = with_marks state (mark_put state.marks name state.documents state.abbreviations)

abbrev pub unmarked : State → List ℕ → State × Reply
unmarked state name = with_marks state (mark_taken state.marks name)

-- the state with the documents and the abbreviations of a mark in the place of those of now
abbrev pub at_mark : State → Mark → State
at_mark state mark = record state { documents = mark.documents; abbreviations = mark.abbreviations }

-- ---- the versions that marks keep

-- the version of the mark of a name, by the versions of all marks in order
abbrev pub version_of_mark : List ℕ → List Mark → List (List Numbered) → List Numbered
version_of_mark name [] versions = []
version_of_mark name (m ∷ ms) [] = []
version_of_mark name (m ∷ ms) (v ∷ vs) = if bytes_eq name m.name then v else version_of_mark name ms vs

-- Each version is the index of the documents of its mark under its abbreviations, in order.
abbrev pub AreIndexesOf : List Mark → List (List Numbered) → Type 0
AreIndexesOf [] [] = ⊤
AreIndexesOf [] (v ∷ vs) = ⊥
AreIndexesOf (m ∷ ms) [] = ⊥
AreIndexesOf (m ∷ ms) (v ∷ vs) = IsIndexOf m.abbreviations m.documents v × AreIndexesOf ms vs
