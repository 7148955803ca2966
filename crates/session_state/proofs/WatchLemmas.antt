-- When a watch is set, asked again or given up, what is found under its name, and what it keeps.
use Rattle.std.proofs.Common.{◌≡◌, ◌∙◌, sym, ap, refl, subst, ℕ, Bool, true, false, cond, ◌||◌, List, [], ◌∷◌, ◌++◌, length}
use Rattle.std.specs.Prelude.{Some, None, is_some, nat_le}
use Rattle.std.specs.List.{AllByRecursion}
use Rattle.std.specs.Map.{lookup, remove_entry}
use Rattle.std.specs.Str.{bytes_eq}
use Rattle.std.proofs.lemmas.List.{length-map}
use Rattle.indexmap.specs.IndexMap.{insert_entry}
use Rattle.reply_lines.specs.Limits.{max_watches}
use Rattle.reply_lines.specs.declared.reply.FullOf.TheVariants as full
use Rattle.reply_lines.specs.declared.reply.Refusal.TheVariants as refusal
use Rattle.reply_lines.specs.declared.reply.Reply.TheVariants.{Done, Refused}
use Rattle.standing_queries.specs.Answers.{all_lines}
use Rattle.session_state.specs.declared.watches.KeptWatch.{KeptWatch}
use Rattle.session_state.specs.KeptWatches.{standings_of, to_watch, watches_of}
use Rattle.session_state.specs.Standings.{standing_of, with_standing, without_standing}
use Rattle.session_state.specs.State.{Watch}
use Rattle.session_state.specs.Watches.{has_watch, watch_named, watch_refusal, watch_taken, with_lines, without_watch}

abbrev pub Entry : Type 0
Entry = List ℕ × KeptWatch

-- ---- look-ups

-- a watch is there where a look-up finds it
pub has_watch-lookup : (name : List ℕ) (entries : List Entry) → has_watch name (watches_of entries) ≡ is_some (lookup (bytes_eq name) entries)
has_watch-lookup name [] = refl
has_watch-lookup name (e ∷ es) =
    elim (bytes_eq name e.0) as (λ t. (t || has_watch name (watches_of es)) ≡ is_some (cond t (Some e.1) (lookup (bytes_eq name) es)))
    [ true ↦ refl | false ↦ has_watch-lookup name es ]

-- what a look-up finds is what the watch of the name keeps
pub record IsFound (name : List ℕ) (entries : List Entry) (found : KeptWatch) : Type 0 where
  pub watch : Watch
  pub named : watch_named name (watches_of entries) ≡ Some watch
  pub path : watch.path ≡ found.path
  pub lines : watch.lines ≡ all_lines found.standing
  pub standing : standing_of name (watches_of entries) (standings_of entries) ≡ found.standing

pub found-watch : (name : List ℕ) (entries : List Entry) (found : KeptWatch) → lookup (bytes_eq name) entries ≡ Some found → IsFound name entries found
found-watch name [] found h = let no : ⊥ = cc in absurd no
found-watch name (e ∷ es) found h = by (λ g. found-watch name es found g) (bytes_eq name e.0) refl
  where
    by : (lookup (bytes_eq name) es ≡ Some found → IsFound name es found) → (test : Bool) → bytes_eq name e.0 ≡ test → IsFound name (e ∷ es) found
    by rest true is =
        let here : Some e.1 ≡ Some found = sym (ap (λ t. cond t (Some e.1) (lookup (bytes_eq name) es)) is) ∙ h in
        let same : e.1 ≡ found = cc in
        record {
          watch = to_watch e;
          named = ap (λ t. cond t (Some (to_watch e)) (watch_named name (watches_of es))) is;
          path = ap (λ (w : KeptWatch). w.path) same;
          lines = ap (λ (w : KeptWatch). all_lines w.standing) same;
          standing = ap (λ t. cond t e.1.standing (standing_of name (watches_of es) (standings_of es))) is ∙ ap (λ (w : KeptWatch). w.standing) same;
        }
    by rest false is =
        let further = rest (sym (ap (λ t. cond t (Some e.1) (lookup (bytes_eq name) es)) is) ∙ h) in
        record {
          watch = further.watch;
          named = ap (λ t. cond t (Some (to_watch e)) (watch_named name (watches_of es))) is ∙ further.named;
          path = further.path;
          lines = further.lines;
          standing = ap (λ t. cond t e.1.standing (standing_of name (watches_of es) (standings_of es))) is ∙ further.standing;
        }

pub none-watched : (name : List ℕ) (entries : List Entry) → lookup (bytes_eq name) entries ≡ None → watch_named name (watches_of entries) ≡ None
none-watched name [] h = refl
none-watched name (e ∷ es) h = by (λ g. none-watched name es g) (bytes_eq name e.0) refl
  where
    by : (lookup (bytes_eq name) es ≡ None → watch_named name (watches_of es) ≡ None) → (test : Bool) → bytes_eq name e.0 ≡ test → watch_named name (watches_of (e ∷ es)) ≡ None
    by rest true is = let both : Some e.1 ≡ None = sym (ap (λ t. cond t (Some e.1) (lookup (bytes_eq name) es)) is) ∙ h in let no : ⊥ = cc in absurd no
    by rest false is =
        ap (λ t. cond t (Some (to_watch e)) (watch_named name (watches_of es))) is ∙ rest (sym (ap (λ t. cond t (Some e.1) (lookup (bytes_eq name) es)) is) ∙ h)

-- ---- a watch is set under a new name

-- the two tests decide whether a watch can be set
pub refused-by : (entries : List Entry) (name : List ℕ) (taken no_room : Bool) → is_some (lookup (bytes_eq name) entries) ≡ taken → nat_le max_watches (length entries) ≡ no_room
    → watch_refusal name (watches_of entries) ≡ cond taken (Some (refusal.NameTaken name)) (cond no_room (Some (refusal.Full full.Watches)) None)
refused-by entries name taken no_room found long =
    let count : nat_le max_watches (length (watches_of entries)) ≡ no_room = ap (nat_le max_watches) (length-map entries to_watch) ∙ long in
    ap (λ t. cond t (Some (refusal.NameTaken name)) (cond (nat_le max_watches (length (watches_of entries))) (Some (refusal.Full full.Watches)) None)) (has_watch-lookup name entries ∙ found)
    ∙ ap (λ t. cond taken (Some (refusal.NameTaken name)) (cond t (Some (refusal.Full full.Watches)) None)) count

-- where one can be set, none has the name
pub none-refused : (entries : List Entry) (name : List ℕ) → watch_refusal name (watches_of entries) ≡ None → has_watch name (watches_of entries) ≡ false
none-refused entries name h = by (has_watch name (watches_of entries)) refl
  where
    by : (test : Bool) → has_watch name (watches_of entries) ≡ test → test ≡ false
    by false is = refl
    by true is =
        let taken : Some (refusal.NameTaken name) ≡ None =
        sym (ap (λ t. cond t (Some (refusal.NameTaken name)) (cond (nat_le max_watches (length (watches_of entries))) (Some (refusal.Full full.Watches)) None)) is) ∙ h in
        let no : ⊥ = cc in absurd no

module _ (name : List ℕ) (w : KeptWatch) where
  one-more : (e : Entry) (es : List Entry) (rest : insert_entry bytes_eq es name w ≡ es ++ (name, w) ∷ []) → bytes_eq name e.0 ≡ false
      → insert_entry bytes_eq (e ∷ es) name w ≡ e ∷ es ++ (name, w) ∷ []
  one-more e es rest is = ap (λ t. cond t ((e.0, w) ∷ es) (e ∷ insert_entry bytes_eq es name w)) is ∙ ap (λ xs. e ∷ xs) rest

  -- a new name comes last
  pub put-new : (entries : List Entry) → has_watch name (watches_of entries) ≡ false → insert_entry bytes_eq entries name w ≡ entries ++ (name, w) ∷ []
  put-new [] h = refl
  put-new (e ∷ es) h = by (λ g. put-new es g) (bytes_eq name e.0) refl
    where
      by : (has_watch name (watches_of es) ≡ false → insert_entry bytes_eq es name w ≡ es ++ (name, w) ∷ []) → (test : Bool) → bytes_eq name e.0 ≡ test
          → insert_entry bytes_eq (e ∷ es) name w ≡ e ∷ es ++ (name, w) ∷ []
      by rest true is = let both : true ≡ false = sym (ap (λ t. t || has_watch name (watches_of es)) is) ∙ h in let no : ⊥ = cc in absurd no
      by rest false is = one-more e es (rest (sym (ap (λ t. t || has_watch name (watches_of es)) is) ∙ h)) is

  -- ---- a watch is asked again

  -- a name that is there keeps its place, and its watch the lines of now
  pub put-lines : (entries : List Entry) (found : KeptWatch) → lookup (bytes_eq name) entries ≡ Some found → w.path ≡ found.path
      → watches_of (insert_entry bytes_eq entries name w) ≡ with_lines name (all_lines w.standing) (watches_of entries)
  put-lines [] found h same = let no : ⊥ = cc in absurd no
  put-lines (e ∷ es) found h same = by (λ g. put-lines es found g same) (bytes_eq name e.0) refl
    where
      by : (lookup (bytes_eq name) es ≡ Some found → watches_of (insert_entry bytes_eq es name w) ≡ with_lines name (all_lines w.standing) (watches_of es)) → (test : Bool) → bytes_eq name e.0 ≡ test
          → watches_of (insert_entry bytes_eq (e ∷ es) name w) ≡ with_lines name (all_lines w.standing) (watches_of (e ∷ es))
      by rest true is =
          let here : Some e.1 ≡ Some found = sym (ap (λ t. cond t (Some e.1) (lookup (bytes_eq name) es)) is) ∙ h in
          let kept : e.1 ≡ found = cc in
          let path : w.path ≡ e.1.path = same ∙ sym (ap (λ (x : KeptWatch). x.path) kept) in
          ap (λ t. watches_of (cond t ((e.0, w) ∷ es) (e ∷ insert_entry bytes_eq es name w))) is
          ∙ (ap (λ p. let now : Watch = record { name = e.0; path = p; lines = all_lines w.standing } in now ∷ watches_of es) path
          ∙ sym (ap (λ t. cond t (record (to_watch e) { lines = all_lines w.standing } ∷ watches_of es) (to_watch e ∷ with_lines name (all_lines w.standing) (watches_of es))) is))
      by rest false is =
          ap (λ t. watches_of (cond t ((e.0, w) ∷ es) (e ∷ insert_entry bytes_eq es name w))) is
          ∙ (ap (λ ws. to_watch e ∷ ws) (rest (sym (ap (λ t. cond t (Some e.1) (lookup (bytes_eq name) es)) is) ∙ h))
          ∙ sym (ap (λ t. cond t (record (to_watch e) { lines = all_lines w.standing } ∷ watches_of es) (to_watch e ∷ with_lines name (all_lines w.standing) (watches_of es))) is))

  -- and its answers are these
  pub put-standing : (entries : List Entry) (found : KeptWatch) → lookup (bytes_eq name) entries ≡ Some found
      → standings_of (insert_entry bytes_eq entries name w) ≡ with_standing name w.standing (watches_of entries) (standings_of entries)
  put-standing [] found h = let no : ⊥ = cc in absurd no
  put-standing (e ∷ es) found h = by (λ g. put-standing es found g) (bytes_eq name e.0) refl
    where
      by : (lookup (bytes_eq name) es ≡ Some found → standings_of (insert_entry bytes_eq es name w) ≡ with_standing name w.standing (watches_of es) (standings_of es)) → (test : Bool) → bytes_eq name e.0 ≡ test
          → standings_of (insert_entry bytes_eq (e ∷ es) name w) ≡ with_standing name w.standing (watches_of (e ∷ es)) (standings_of (e ∷ es))
      by rest true is =
          ap (λ t. standings_of (cond t ((e.0, w) ∷ es) (e ∷ insert_entry bytes_eq es name w))) is
          ∙ sym (ap (λ t. cond t (w.standing ∷ standings_of es) (e.1.standing ∷ with_standing name w.standing (watches_of es) (standings_of es))) is)
      by rest false is =
          ap (λ t. standings_of (cond t ((e.0, w) ∷ es) (e ∷ insert_entry bytes_eq es name w))) is
          ∙ (ap (λ ss. e.1.standing ∷ ss) (rest (sym (ap (λ t. cond t (Some e.1) (lookup (bytes_eq name) es)) is) ∙ h))
          ∙ sym (ap (λ t. cond t (w.standing ∷ standings_of es) (e.1.standing ∷ with_standing name w.standing (watches_of es) (standings_of es))) is))

-- ---- a watch is given up

pub without-removed : (name : List ℕ) (entries : List Entry) → watches_of (remove_entry (bytes_eq name) entries) ≡ without_watch name (watches_of entries)
without-removed name [] = refl
without-removed name (e ∷ es) =
    elim (bytes_eq name e.0) as (λ t. watches_of (cond t es (e ∷ remove_entry (bytes_eq name) es)) ≡ cond t (watches_of es) (to_watch e ∷ without_watch name (watches_of es)))
    [ true ↦ refl | false ↦ ap (λ ws. to_watch e ∷ ws) (without-removed name es) ]

pub standings-removed : (name : List ℕ) (entries : List Entry) → standings_of (remove_entry (bytes_eq name) entries) ≡ without_standing name (watches_of entries) (standings_of entries)
standings-removed name [] = refl
standings-removed name (e ∷ es) =
    elim (bytes_eq name e.0) as (λ t. standings_of (cond t es (e ∷ remove_entry (bytes_eq name) es)) ≡ cond t (standings_of es) (e.1.standing ∷ without_standing name (watches_of es) (standings_of es)))
    [ true ↦ refl | false ↦ ap (λ ss. e.1.standing ∷ ss) (standings-removed name es) ]

pub taken-by : (entries : List Entry) (name : List ℕ) (there : Bool) → is_some (lookup (bytes_eq name) entries) ≡ there
    → watch_taken (watches_of entries) name ≡ cond there (without_watch name (watches_of entries), Done) (watches_of entries, Refused (refusal.NoSuchName name))
taken-by entries name there found =
    ap (λ t. cond t (without_watch name (watches_of entries), Done) (watches_of entries, Refused (refusal.NoSuchName name))) (has_watch-lookup name entries ∙ found)

-- nothing is given up where nothing is found
pub remove-none : (name : List ℕ) (entries : List Entry) → lookup (bytes_eq name) entries ≡ None → remove_entry (bytes_eq name) entries ≡ entries
remove-none name [] h = refl
remove-none name (e ∷ es) h = by (λ g. remove-none name es g) (bytes_eq name e.0) refl
  where
    by : (lookup (bytes_eq name) es ≡ None → remove_entry (bytes_eq name) es ≡ es) → (test : Bool) → bytes_eq name e.0 ≡ test → remove_entry (bytes_eq name) (e ∷ es) ≡ e ∷ es
    by rest true is = let both : Some e.1 ≡ None = sym (ap (λ t. cond t (Some e.1) (lookup (bytes_eq name) es)) is) ∙ h in let no : ⊥ = cc in absurd no
    by rest false is =
        ap (λ t. cond t es (e ∷ remove_entry (bytes_eq name) es)) is
        ∙ ap (λ xs. e ∷ xs) (rest (sym (ap (λ t. cond t (Some e.1) (lookup (bytes_eq name) es)) is) ∙ h))

-- ---- what holds of each watch

pub each-put : (P : KeptWatch → Type 0) (name : List ℕ) (w : KeptWatch) (entries : List Entry) → AllByRecursion (λ e. P e.1) entries → P w
    → AllByRecursion (λ e. P e.1) (insert_entry bytes_eq entries name w)
each-put P name w [] h one = (one, tt)
each-put P name w (e ∷ es) h one =
    elim (bytes_eq name e.0) as (λ t. AllByRecursion (λ x. P x.1) (cond t ((e.0, w) ∷ es) (e ∷ insert_entry bytes_eq es name w)))
    [ true ↦ (one, h.1) | false ↦ (h.0, each-put P name w es h.1 one) ]

pub each-less : (P : KeptWatch → Type 0) (name : List ℕ) (entries : List Entry) → AllByRecursion (λ e. P e.1) entries → AllByRecursion (λ e. P e.1) (remove_entry (bytes_eq name) entries)
each-less P name [] h = tt
each-less P name (e ∷ es) h =
    elim (bytes_eq name e.0) as (λ t. AllByRecursion (λ x. P x.1) (cond t es (e ∷ remove_entry (bytes_eq name) es)))
    [ true ↦ h.1 | false ↦ (h.0, each-less P name es h.1) ]

pub each-found : (P : KeptWatch → Type 0) (name : List ℕ) (entries : List Entry) (found : KeptWatch) → AllByRecursion (λ e. P e.1) entries → lookup (bytes_eq name) entries ≡ Some found → P found
each-found P name [] found all h = let no : ⊥ = cc in absurd no
each-found P name (e ∷ es) found all h = by (λ g. each-found P name es found all.1 g) (bytes_eq name e.0) refl
  where
    by : (lookup (bytes_eq name) es ≡ Some found → P found) → (test : Bool) → bytes_eq name e.0 ≡ test → P found
    by rest true is =
        let here : Some e.1 ≡ Some found = sym (ap (λ t. cond t (Some e.1) (lookup (bytes_eq name) es)) is) ∙ h in
        let same : e.1 ≡ found = cc in
        subst P same all.0
    by rest false is = rest (sym (ap (λ t. cond t (Some e.1) (lookup (bytes_eq name) es)) is) ∙ h)

pub each-more : (P Q : KeptWatch → Type 0) → ((w : KeptWatch) → P w → Q w) → (entries : List Entry) → AllByRecursion (λ e. P e.1) entries → AllByRecursion (λ e. Q e.1) entries
each-more P Q more [] h = tt
each-more P Q more (e ∷ es) h = (more e.1 h.0, each-more P Q more es h.1)
