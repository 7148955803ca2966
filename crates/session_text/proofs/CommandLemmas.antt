-- Each command that is read has names that are names, texts that aren't empty, and no block but the one after its line.
use Rattle.std.proofs.Common.{◌≡◌, ◌∙◌, sym, ap, refl, ℕ, Bool, true, false, not, cond, ◌&&◌, ◌||◌, List}
use Rattle.std.specs.Prelude.{Option, Some, None, Ok, Err, codes}
use Rattle.ft_base.specs.Lists.{is_empty}
use Rattle.reply_lines.specs.declared.command.Command.{Command}
use Rattle.reply_lines.specs.declared.command.Command.TheVariants as command
use Rattle.plain_tree.specs.declared.place.How.{How}
use Rattle.session_text.specs.LineCommands.{block_command, command_of_block, command_of_line, command_of_sized_block, how_of, insertion, made, named, named_with_path, query, quoted_name, quoted_name_and_path, second_command, watch_command, with_text}
use Rattle.session_text.specs.Quoted.{is_quoted, quoted}
use Rattle.text_lines.specs.Lines.{trimmed_line, first_word, after_first_word}
use Rattle.reply_lines.specs.Names.{is_bare_name, is_name, is_quoted_name}
use Rattle.session_text.specs.Words.{is_text, is_one_word, is_command_line}

-- what holds of both holds of the one that is chosen
chosen : (P : Command → Type 0) (t : Bool) (a b : Command) → P a → P b → P (cond t a b)
chosen P true a b p q = p
chosen P false a b p q = q

quoted_is_name : (text : List ℕ) → is_quoted_name text ≡ true → is_name text ≡ true
quoted_is_name text h = by (is_bare_name text)
  where
    by : (bare : Bool) → (bare || is_quoted_name text) ≡ true
    by true = refl
    by false = h

bare_is_name : (text : List ℕ) → is_bare_name text ≡ true → is_name text ≡ true
bare_is_name text h = ap (λ t. t || is_quoted_name text) h

-- a name in quotation marks makes a command only where it is a name
of_quoted : (P : Command → Type 0) (number : ℕ) (read : Option (List ℕ × List ℕ)) (make : List ℕ → Command)
    → ((n : ℕ) → P (command.BadCommand n)) → ((n : ℕ) → P (command.BadName n)) → ((name : List ℕ) → is_name name ≡ true → P (make name)) → P (made make (quoted_name number read))
of_quoted P number None make bad bad_name good = bad number
of_quoted P number (Some q) make bad bad_name good = by (is_empty q.1) (is_quoted_name q.0) refl
  where
    by : (ends name : Bool) → is_quoted_name q.0 ≡ name → P (made make (cond (not ends) (Err (command.BadCommand number)) (cond name (Ok q.0) (Err (command.BadName number)))))
    by false name e = bad number
    by true true e = good q.0 (quoted_is_name q.0 e)
    by true false e = bad_name number

-- a name makes a command only where it is a name
of_name : (P : Command → Type 0) (quotes : Bool) (number : ℕ) (rest : List ℕ) (make : List ℕ → Command)
    → ((n : ℕ) → P (command.BadCommand n)) → ((n : ℕ) → P (command.BadName n)) → ((name : List ℕ) → is_name name ≡ true → P (make name)) → P (named quotes number rest make)
of_name P quotes number rest make bad bad_name good = by (quotes && is_quoted rest) (is_one_word rest) (is_bare_name rest) refl
  where
    by : (quoted_one one name : Bool) → is_bare_name rest ≡ name
        → P (made make (cond quoted_one (quoted_name number (quoted rest)) (cond (not one) (Err (command.BadCommand number)) (cond name (Ok rest) (Err (command.BadName number))))))
    by true one name e = of_quoted P number (quoted rest) make bad bad_name good
    by false false name e = bad number
    by false true true e = good rest (bare_is_name rest e)
    by false true false e = bad_name number

-- a text makes a command only where it isn't empty
of_text : (P : Command → Type 0) (number : ℕ) (rest : List ℕ) (make : List ℕ → Command)
    → ((n : ℕ) → P (command.BadCommand n)) → ((text : List ℕ) → is_empty text ≡ false → P (make text)) → P (with_text number rest make)
of_text P number rest make bad good = by (is_empty rest) refl
  where
    by : (empty : Bool) → is_empty rest ≡ empty → P (made make (cond empty (Err (command.BadCommand number)) (Ok rest)))
    by true e = bad number
    by false e = good rest e

-- the same of a name in quotation marks and a path behind it
of_quoted_and_path : (P : Command → Type 0) (number : ℕ) (read : Option (List ℕ × List ℕ)) (make : List ℕ → List ℕ → Command)
    → ((n : ℕ) → P (command.BadCommand n)) → ((n : ℕ) → P (command.BadName n)) → ((name path : List ℕ) → is_name name ≡ true → is_empty path ≡ false → P (make name path))
    → P (made (λ (p : List ℕ × List ℕ). make p.0 p.1) (quoted_name_and_path number read))
of_quoted_and_path P number None make bad bad_name good = bad number
of_quoted_and_path P number (Some q) make bad bad_name good = by (is_empty (first_word q.1)) (is_empty (after_first_word q.1)) (is_quoted_name q.0) refl refl
  where
    by : (divided empty named : Bool) → is_empty (after_first_word q.1) ≡ empty → is_quoted_name q.0 ≡ named
        → P (made (λ (p : List ℕ × List ℕ). make p.0 p.1) (cond (not divided || empty) (Err (command.BadCommand number)) (cond named (Ok (q.0, after_first_word q.1)) (Err (command.BadName number)))))
    by false empty named e f = bad number
    by true true named e f = bad number
    by true false true e f = good q.0 (after_first_word q.1) (quoted_is_name q.0 f) e
    by true false false e f = bad_name number

-- a name and a path make a command only where the one is a name and the other isn't empty
of_name_and_path : (P : Command → Type 0) (quotes : Bool) (number : ℕ) (rest : List ℕ) (make : List ℕ → List ℕ → Command)
    → ((n : ℕ) → P (command.BadCommand n)) → ((n : ℕ) → P (command.BadName n)) → ((name path : List ℕ) → is_name name ≡ true → is_empty path ≡ false → P (make name path))
    → P (named_with_path quotes number rest make)
of_name_and_path P quotes number rest make bad bad_name good = by (quotes && is_quoted rest) (is_empty (after_first_word rest)) (is_bare_name (first_word rest)) refl refl
  where
    by : (quoted_one empty named : Bool) → is_empty (after_first_word rest) ≡ empty → is_bare_name (first_word rest) ≡ named
        → P (made (λ (p : List ℕ × List ℕ). make p.0 p.1) (cond quoted_one (quoted_name_and_path number (quoted rest))
        (cond empty (Err (command.BadCommand number)) (cond named (Ok (first_word rest, after_first_word rest)) (Err (command.BadName number))))))
    by true empty named e f = of_quoted_and_path P number (quoted rest) make bad bad_name good
    by false true named e f = bad number
    by false false true e f = good (first_word rest) (after_first_word rest) (bare_is_name (first_word rest) f) e
    by false false false e f = bad_name number

-- what holds of each command that a line without a block may be
pub record HoldsOfLines (P : Command → Type 0) : Type 0 where
  pub bad : (n : ℕ) → P (command.BadCommand n)
  pub bad_name : (n : ℕ) → P (command.BadName n)
  pub drop : (name : List ℕ) → is_name name ≡ true → P (command.Drop name)
  pub mark : (name : List ℕ) → is_name name ≡ true → P (command.Mark name)
  pub unmark : (name : List ℕ) → is_name name ≡ true → P (command.Unmark name)
  pub stats : P command.Stats
  pub delete : (path : List ℕ) → is_empty path ≡ false → P (command.Delete path)
  pub print : (path : List ℕ) → is_empty path ≡ false → P (command.Print path)
  pub show : (path : List ℕ) → is_empty path ≡ false → P (command.Show path)
  pub explain : (text : List ℕ) → is_empty text ≡ false → P (command.Explain text)
  pub query : (path : List ℕ) → is_empty path ≡ false → P (command.Query path)
  pub watch : (name path : List ℕ) → is_name name ≡ true → is_empty path ≡ false → P (command.Watch name path)
  pub changes : (name : List ℕ) → is_name name ≡ true → P (command.Changes name)
  pub unwatch : (name : List ℕ) → is_name name ≡ true → P (command.Unwatch name)
  pub query_at : (name path : List ℕ) → is_name name ≡ true → is_empty path ≡ false → P (command.QueryAt name path)

-- and one with this block
pub record HoldsOfBlocks (P : Command → Type 0) (block : List ℕ) : Type 0 where
  pub bad : (n : ℕ) → P (command.BadCommand n)
  pub bad_name : (n : ℕ) → P (command.BadName n)
  pub load : (name : List ℕ) → is_name name ≡ true → P (command.Load name block)
  pub insert : (h : How) (path : List ℕ) → is_empty path ≡ false → P (command.Insert h path block)
  pub replace : (path : List ℕ) → is_empty path ≡ false → P (command.Replace path block)
  pub stop : (name : List ℕ) → is_name name ≡ true → P (command.Stop name block)
  pub stems : P (command.Stems block)
  pub abbreviations : P (command.Abbreviations block)
  pub thesaurus : (name : List ℕ) → is_name name ≡ true → P (command.Thesaurus name block)

query_holds : (P : Command → Type 0) → HoldsOfLines P → (quotes : Bool) (number : ℕ) (rest : List ℕ) → P (query quotes number rest)
query_holds P h quotes number rest =
    chosen P (is_text (first_word rest) (codes "at")) _ _ (of_name_and_path P quotes number (after_first_word rest) command.QueryAt h.bad h.bad_name h.query_at)
    (of_text P number rest command.Query h.bad h.query)

watch_holds : (P : Command → Type 0) → HoldsOfLines P → (number : ℕ) (word rest : List ℕ) → P (watch_command number word rest)
watch_holds P h number word rest =
    chosen P (is_text word (codes "watch")) _ _ (of_name_and_path P true number rest command.Watch h.bad h.bad_name h.watch)
    (chosen P (is_text word (codes "changes")) _ _ (of_name P true number rest command.Changes h.bad h.bad_name h.changes)
    (chosen P (is_text word (codes "unwatch")) _ _ (of_name P true number rest command.Unwatch h.bad h.bad_name h.unwatch) (h.bad number)))

second_holds : (P : Command → Type 0) → HoldsOfLines P → (number : ℕ) (word rest : List ℕ) → P (second_command number word rest)
second_holds P h number word rest =
    chosen P (is_text word (codes "show")) _ _ (of_text P number rest command.Show h.bad h.show) (watch_holds P h number word rest)

pub holds_of_line : (P : Command → Type 0) → HoldsOfLines P → (second : Bool) (number : ℕ) (line : List ℕ) → P (command_of_line second number line)
holds_of_line P h second number line =
    let word = first_word (trimmed_line line) in
    let rest = after_first_word (trimmed_line line) in
    chosen P (is_command_line line) _ _
    (chosen P (is_text word (codes "query")) _ _ (query_holds P h second number rest)
    (chosen P (is_text word (codes "print")) _ _ (of_text P number rest command.Print h.bad h.print)
    (chosen P (is_text word (codes "explain")) _ _ (of_text P number rest command.Explain h.bad h.explain)
    (chosen P (is_text word (codes "delete")) _ _ (of_text P number rest command.Delete h.bad h.delete)
    (chosen P (is_text word (codes "drop")) _ _ (of_name P second number rest command.Drop h.bad h.bad_name h.drop)
    (chosen P (is_text word (codes "mark")) _ _ (of_name P second number rest command.Mark h.bad h.bad_name h.mark)
    (chosen P (is_text word (codes "unmark")) _ _ (of_name P second number rest command.Unmark h.bad h.bad_name h.unmark)
    (chosen P (is_text word (codes "stats")) _ _ (chosen P (is_empty rest) _ _ h.stats (h.bad number))
    (chosen P second _ _ (second_holds P h number word rest) (h.bad number))))))))))
    (h.bad number)

insertion_holds : (P : Command → Type 0) (block : List ℕ) → HoldsOfBlocks P block → (number : ℕ) (where_to : Option How) (path : List ℕ) → P (insertion number where_to path block)
insertion_holds P block h number None path = h.bad number
insertion_holds P block h number (Some how) path = of_text P number path (λ p. command.Insert how p block) h.bad (h.insert how)

words_hold : (P : Command → Type 0) (block : List ℕ) → HoldsOfBlocks P block → (quotes : Bool) (number : ℕ) (word rest : List ℕ) → P (block_command quotes number word rest block)
words_hold P block h quotes number word rest =
    chosen P (is_text word (codes "load")) _ _ (of_name P quotes number rest (λ name. command.Load name block) h.bad h.bad_name h.load)
    (chosen P (is_text word (codes "insert")) _ _ (insertion_holds P block h number (how_of (first_word rest)) (after_first_word rest))
    (chosen P (is_text word (codes "replace")) _ _ (of_text P number rest (λ path. command.Replace path block) h.bad h.replace)
    (chosen P (is_text word (codes "stop")) _ _ (of_name P quotes number rest (λ name. command.Stop name block) h.bad h.bad_name h.stop)
    (chosen P (is_text word (codes "stems")) _ _ (chosen P (is_empty rest) _ _ h.stems (h.bad number))
    (chosen P (is_text word (codes "abbreviations")) _ _ (chosen P (is_empty rest) _ _ h.abbreviations (h.bad number))
    (chosen P (is_text word (codes "thesaurus")) _ _ (of_name P quotes number rest (λ name. command.Thesaurus name block) h.bad h.bad_name h.thesaurus) (h.bad number)))))))

pub holds_of_block : (P : Command → Type 0) (block : List ℕ) → HoldsOfBlocks P block → (number : ℕ) (line : List ℕ) → P (command_of_block number line block)
holds_of_block P block h number line =
    chosen P (is_command_line line) _ _ (words_hold P block h false number (first_word (trimmed_line line)) (after_first_word (trimmed_line line))) (h.bad number)

pub holds_of_sized_block : (P : Command → Type 0) (block : List ℕ) → HoldsOfBlocks P block → (number : ℕ) (line : List ℕ) → P (command_of_sized_block number line block)
holds_of_sized_block P block h number line =
    chosen P (is_command_line line) _ _ (words_hold P block h true number (first_word (trimmed_line line)) (after_first_word (after_first_word (trimmed_line line)))) (h.bad number)

-- what stands in quotation marks is no name, or is one
pub bad_quoted_name : (number : ℕ) (read : Option (List ℕ × List ℕ)) (name suffix : List ℕ) → read ≡ Some (name, suffix)
    → is_empty (first_word suffix) ≡ true → is_empty (after_first_word suffix) ≡ false → is_quoted_name name ≡ false → Err (command.BadName number) ≡ quoted_name_and_path number read
bad_quoted_name number read name suffix is word path quoted =
    sym (ap (quoted_name_and_path number) is
    ∙ (λ i. cond (not (word i) || path i) (Err (command.BadCommand number)) (cond (quoted i) (Ok (name, after_first_word suffix)) (Err (command.BadName number)))))

pub good_quoted_name : (number : ℕ) (read : Option (List ℕ × List ℕ)) (name suffix said : List ℕ) → read ≡ Some (name, suffix)
    → is_empty (first_word suffix) ≡ true → is_empty (after_first_word suffix) ≡ false → is_quoted_name name ≡ true → said ≡ after_first_word suffix
    → Ok (name, said) ≡ quoted_name_and_path number read
good_quoted_name number read name suffix said is word path quoted says =
    (λ i. Ok (name, says i))
    ∙ sym (ap (quoted_name_and_path number) is
    ∙ (λ i. cond (not (word i) || path i) (Err (command.BadCommand number)) (cond (quoted i) (Ok (name, after_first_word suffix)) (Err (command.BadName number)))))
