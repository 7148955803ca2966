-- When a mark is set or given up, what is found under its name, and that its version is an index.
use Rattle.std.proofs.Common.{◌≡◌, ◌∙◌, sym, ap, refl, ℕ, Bool, true, false, cond, ◌||◌, List, [], ◌∷◌, ◌++◌, length}
use Rattle.std.specs.Prelude.{Some, None, is_some, nat_le, Result, Ok, Err, IfOk, OnOk}
use Rattle.std.specs.List.{AllByRecursion}
use Rattle.std.specs.Map.{lookup, remove_entry}
use Rattle.std.specs.Str.{bytes_eq}
use Rattle.std.proofs.lemmas.List.{length-map, map_push}
use Rattle.document_store.specs.Indexed.{Indexed}
use Rattle.ft_base.specs.Limits.{max_marks}
use Rattle.ft_base.specs.declared.memory.Memory.{Memory}
use Rattle.path_meaning.specs.Collection.{Named}
use Rattle.reply_lines.specs.declared.reply.FullOf.TheVariants as full
use Rattle.reply_lines.specs.declared.reply.Refusal.TheVariants as refusal
use Rattle.reply_lines.specs.declared.reply.Reply.{Reply}
use Rattle.reply_lines.specs.declared.reply.Reply.TheVariants.{Done, Refused}
use Rattle.session_state.specs.KeptMarks.{marks_of, to_mark, versions_of, IsOwnIndex}
use Rattle.session_state.specs.Marks.{has_mark, mark_named, mark_put, mark_taken, version_of_mark, without_mark, AreIndexesOf}
use Rattle.session_state.specs.State.{Mark}

abbrev pub Entry : Type 0
Entry = List ℕ × Indexed

abbrev pub with_reply : {X : Type 0} → X → Reply → X × Reply
with_reply held reply = (held, reply)

-- what is answered where what is held, and the reply, are these
pub answered : {X : Type 0} (result : Result Reply Memory) (new held : X) (reply : Reply) (target : X × Reply) → OnOk result (new ≡ held)
    → IfOk result (λ r. r ≡ reply) → target ≡ (held, reply) → IfOk result (λ r. with_reply new r ≡ target)
answered (Ok r) new held reply target same is meant = ap (λ h. with_reply h r) same ∙ (ap (with_reply held) is ∙ sym meant)
answered (Err e) new held reply target same is meant = tt

-- one more entry is one more mark
pub marks-more : (result : Result Reply Memory) (old new : List Entry) (e : Entry) → OnOk result (new ≡ old ++ e ∷ []) → OnOk result (marks_of new ≡ marks_of old ++ to_mark e ∷ [])
marks-more (Ok r) old new e h = ap marks_of h ∙ map_push to_mark old e
marks-more (Err x) old new e h = tt

-- a mark is there where a look-up finds it
pub has_mark-lookup : (name : List ℕ) (entries : List Entry) → has_mark name (marks_of entries) ≡ is_some (lookup (bytes_eq name) entries)
has_mark-lookup name [] = refl
has_mark-lookup name (e ∷ es) =
    elim (bytes_eq name e.0) as (λ t. (t || has_mark name (marks_of es)) ≡ is_some (cond t (Some e.1) (lookup (bytes_eq name) es)))
    [ true ↦ refl | false ↦ has_mark-lookup name es ]

-- the marks without the first of the name
pub without-removed : (name : List ℕ) (entries : List Entry) → marks_of (remove_entry (bytes_eq name) entries) ≡ without_mark name (marks_of entries)
without-removed name [] = refl
without-removed name (e ∷ es) =
    elim (bytes_eq name e.0) as (λ t. marks_of (cond t es (e ∷ remove_entry (bytes_eq name) es)) ≡ cond t (marks_of es) (to_mark e ∷ without_mark name (marks_of es)))
    [ true ↦ refl | false ↦ ap (λ ms. to_mark e ∷ ms) (without-removed name es) ]

-- the two tests decide whether a mark is set
pub put-by : (entries : List Entry) (name asked : List ℕ) (documents : List Named) (abbreviations : List (List ℕ)) (taken no_room : Bool) → name ≡ asked
    → is_some (lookup (bytes_eq name) entries) ≡ taken → nat_le max_marks (length entries) ≡ no_room
    → mark_put (marks_of entries) asked documents abbreviations
    ≡ cond taken (marks_of entries, Refused (refusal.NameTaken asked))
    (cond no_room (marks_of entries, Refused (refusal.Full full.Marks)) (marks_of entries ++ record { name = asked; documents = documents; abbreviations = abbreviations } ∷ [], Done))
put-by entries name asked documents abbreviations taken no_room same found long =
    let marks = marks_of entries in
    let more : List Mark × Reply = (marks ++ record { name = asked; documents = documents; abbreviations = abbreviations } ∷ [], Done) in
    let has : has_mark asked marks ≡ taken = ap (λ n. has_mark n marks) (sym same) ∙ (has_mark-lookup name entries ∙ found) in
    let count : nat_le max_marks (length marks) ≡ no_room = ap (nat_le max_marks) (length-map entries to_mark) ∙ long in
    ap (λ t. cond t (marks, Refused (refusal.NameTaken asked)) (cond (nat_le max_marks (length marks)) (marks, Refused (refusal.Full full.Marks)) more)) has
    ∙ ap (λ t. cond taken (marks, Refused (refusal.NameTaken asked)) (cond t (marks, Refused (refusal.Full full.Marks)) more)) count

pub taken-by : (entries : List Entry) (name : List ℕ) (there : Bool) → is_some (lookup (bytes_eq name) entries) ≡ there
    → mark_taken (marks_of entries) name
    ≡ cond there (without_mark name (marks_of entries), Done) (marks_of entries, Refused (refusal.NoSuchName name))
taken-by entries name there found =
    ap (λ t. cond t (without_mark name (marks_of entries), Done) (marks_of entries, Refused (refusal.NoSuchName name))) (has_mark-lookup name entries ∙ found)

-- what a look-up finds is what the mark of the name keeps
pub record IsFound (name : List ℕ) (entries : List Entry) (found : Indexed) : Type 0 where
  pub mark : Mark
  pub named : mark_named name (marks_of entries) ≡ Some mark
  pub documents : mark.documents ≡ found.documents
  pub abbreviations : mark.abbreviations ≡ found.abbreviations
  pub version : version_of_mark name (marks_of entries) (versions_of entries) ≡ found.version

pub found-mark : (name : List ℕ) (entries : List Entry) (found : Indexed) → lookup (bytes_eq name) entries ≡ Some found → IsFound name entries found
found-mark name [] found h = let no : ⊥ = cc in absurd no
found-mark name (e ∷ es) found h = by (λ g. found-mark name es found g) (bytes_eq name e.0) refl
  where
    by : (lookup (bytes_eq name) es ≡ Some found → IsFound name es found) → (test : Bool) → bytes_eq name e.0 ≡ test → IsFound name (e ∷ es) found
    by rest true is =
        let here : Some e.1 ≡ Some found = sym (ap (λ t. cond t (Some e.1) (lookup (bytes_eq name) es)) is) ∙ h in
        let same : e.1 ≡ found = cc in
        record {
          mark = to_mark e;
          named = ap (λ t. cond t (Some (to_mark e)) (mark_named name (marks_of es))) is;
          documents = ap (λ (i : Indexed). i.documents) same;
          abbreviations = ap (λ (i : Indexed). i.abbreviations) same;
          version = ap (λ t. cond t e.1.version (version_of_mark name (marks_of es) (versions_of es))) is ∙ ap (λ (i : Indexed). i.version) same;
        }
    by rest false is =
        let further = rest (sym (ap (λ t. cond t (Some e.1) (lookup (bytes_eq name) es)) is) ∙ h) in
        record {
          mark = further.mark;
          named = ap (λ t. cond t (Some (to_mark e)) (mark_named name (marks_of es))) is ∙ further.named;
          documents = further.documents;
          abbreviations = further.abbreviations;
          version = ap (λ t. cond t e.1.version (version_of_mark name (marks_of es) (versions_of es))) is ∙ further.version;
        }

pub none-marked : (name : List ℕ) (entries : List Entry) → lookup (bytes_eq name) entries ≡ None → mark_named name (marks_of entries) ≡ None
none-marked name [] h = refl
none-marked name (e ∷ es) h = by (λ g. none-marked name es g) (bytes_eq name e.0) refl
  where
    by : (lookup (bytes_eq name) es ≡ None → mark_named name (marks_of es) ≡ None) → (test : Bool) → bytes_eq name e.0 ≡ test → mark_named name (marks_of (e ∷ es)) ≡ None
    by rest true is = let both : Some e.1 ≡ None = sym (ap (λ t. cond t (Some e.1) (lookup (bytes_eq name) es)) is) ∙ h in let no : ⊥ = cc in absurd no
    by rest false is =
        ap (λ t. cond t (Some (to_mark e)) (mark_named name (marks_of es))) is ∙ rest (sym (ap (λ t. cond t (Some e.1) (lookup (bytes_eq name) es)) is) ∙ h)

-- what is kept keeps its index
pub indexes-of : (entries : List Entry) → AllByRecursion IsOwnIndex entries → AreIndexesOf (marks_of entries) (versions_of entries)
indexes-of [] h = tt
indexes-of (e ∷ es) h = (h.0, indexes-of es h.1)

pub own-more : (entries : List Entry) (e : Entry) → AllByRecursion IsOwnIndex entries → IsOwnIndex e → AllByRecursion IsOwnIndex (entries ++ e ∷ [])
own-more [] e h one = (one, tt)
own-more (x ∷ xs) e h one = (h.0, own-more xs e h.1 one)

pub own-less : (name : List ℕ) (entries : List Entry) → AllByRecursion IsOwnIndex entries → AllByRecursion IsOwnIndex (remove_entry (bytes_eq name) entries)
own-less name [] h = tt
own-less name (e ∷ es) h =
    elim (bytes_eq name e.0) as (λ t. AllByRecursion IsOwnIndex (cond t es (e ∷ remove_entry (bytes_eq name) es)))
    [ true ↦ h.1 | false ↦ (h.0, own-less name es h.1) ]

-- nothing is given up where nothing is found
pub remove-none : (name : List ℕ) (entries : List Entry) → lookup (bytes_eq name) entries ≡ None → remove_entry (bytes_eq name) entries ≡ entries
remove-none name [] h = refl
remove-none name (e ∷ es) h = by (λ g. remove-none name es g) (bytes_eq name e.0) refl
  where
    by : (lookup (bytes_eq name) es ≡ None → remove_entry (bytes_eq name) es ≡ es) → (test : Bool) → bytes_eq name e.0 ≡ test → remove_entry (bytes_eq name) (e ∷ es) ≡ e ∷ es
    by rest true is = let both : Some e.1 ≡ None = sym (ap (λ t. cond t (Some e.1) (lookup (bytes_eq name) es)) is) ∙ h in let no : ⊥ = cc in absurd no
    by rest false is =
        ap (λ t. cond t es (e ∷ remove_entry (bytes_eq name) es)) is
        ∙ ap (λ xs. e ∷ xs) (rest (sym (ap (λ t. cond t (Some e.1) (lookup (bytes_eq name) es)) is) ∙ h))

pub whatever : {X : Type 0} (result : Result Reply Memory) → X → OnOk result X
whatever (Ok r) x = x
whatever (Err e) x = tt
