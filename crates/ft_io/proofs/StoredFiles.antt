-- What a search through the files of a shelf in memory finds, and what a file that is put there changes.
use Rattle.std.proofs.Common.{◌≡◌, ◌<◌, ℕ, Bool, true, false, cond, List, [], ◌∷◌, ◌++◌, map, length, get_or, set, refl, sym, ◌∙◌, ap, nat_eq, Option, Some, None, option_map, position, ◌≤◌, arith, ltb-false}
use Rattle.std.specs.List.{find, position_or_len}
use Rattle.std.specs.Option.{option_or}
use Rattle.std.proofs.lemmas.Option.{slice_get_past}
use Rattle.std.proofs.lemmas.List.Quantifiers.{position-Some}
use Rattle.std.specs.Cmp.Lexicographic.{pointwise, slice_cmp, texts_ties, same_text, nat_list_cmp_total}
use Rattle.std.specs.Ordering.{nat_cmp}
use Rattle.std.specs.FinMap.{get, insert, get-insert, get-from_entries, same_map, slice_cmp-IsAntisymmetric, nat_cmp-IsAntisymmetric}
use Rattle.std.specs.FinMap.Entries.{find as find_entry}
use Rattle.std.proofs.lemmas.List.Folds.{find-set, find_past, find-append, find_at}
use Rattle.ft_io.specs.declared.memory_shelf.StoredFile.{StoredFile}
use Rattle.ft_io.specs.StoredFile.{has_name, entry_of, files_of}
use Rattle.ft_io.specs.Shelf.{bytes_of}

find_entry-map : (files : List StoredFile) (name : List ℕ) → find_entry (slice_cmp nat_cmp) name (map entry_of files) ≡ option_map (λ f. f.bytes) (find (has_name name) files)
find_entry-map [] name = refl
find_entry-map (file ∷ files) name =
    rw (← texts_ties name file.name) (
    elim (pointwise nat_eq name file.name) as (λ b. cond b (Some file.bytes) (find_entry (slice_cmp nat_cmp) name (map entry_of files)) ≡ option_map (λ f. f.bytes) (cond b (Some file) (find (has_name name) files)))
    [ true ↦ refl | false ↦ find_entry-map files name ])

-- the bytes of a name are those of the first file of that name
pub bytes_of_files : (files : List StoredFile) (name : List ℕ) → bytes_of (files_of files) name ≡ option_map (λ f. f.bytes) (find (has_name name) files)
bytes_of_files files name = get-from_entries nat_list_cmp_total (map entry_of files) name ∙ find_entry-map files name

-- a map of files is known by the bytes of each name
same_files : (files : List StoredFile) (old : List StoredFile) (file : StoredFile)
    → ((q : List ℕ) → option_map (λ f. f.bytes) (find (has_name q) files) ≡ cond (pointwise nat_eq q file.name) (Some file.bytes) (option_map (λ f. f.bytes) (find (has_name q) old)))
    → files_of files ≡ insert (files_of old) file.name file.bytes
same_files files old file alike = same_map nat_list_cmp_total (slice_cmp-IsAntisymmetric nat_cmp-IsAntisymmetric) (files_of files) (insert (files_of old) file.name file.bytes) (λ q.
    bytes_of_files files q ∙ alike q
    ∙ sym (get-insert nat_list_cmp_total (files_of old) file.name file.bytes q
    ∙ ap (λ b. cond b (Some file.bytes) (get (files_of old) q)) (sym (texts_ties q file.name))
    ∙ ap (cond (pointwise nat_eq q file.name) (Some file.bytes)) (bytes_of_files old q)))

no_place : (b : Bool) (place : ℕ) → cond b (Some place) None ≡ None → b ≡ false
no_place true place none = cc
no_place false place none = refl

not_found : {X : Type 0} (p : X → Bool) (xs : List X) → position p xs ≡ None → find p xs ≡ None
not_found p xs none =
    let past : length xs ≤ position_or_len p xs = omega (arith, ltb-false (position_or_len p xs) (length xs) (no_place _ _ none)) in
    find_at p xs ∙ slice_get_past xs (position_or_len p xs) past

the_place : (b : Bool) (n place : ℕ) → cond b (Some n) None ≡ Some place → place ≡ n
the_place true n place at = cc
the_place false n place at = cc

-- a file after the others, none of which has its name
pushed : (files : List StoredFile) (file : StoredFile) → position (has_name file.name) files ≡ None → files_of (files ++ file ∷ []) ≡ insert (files_of files) file.name file.bytes
pushed files file none = same_files (files ++ file ∷ []) files file (λ q.
    ap (option_map (λ f. f.bytes)) (find-append (has_name q) files (file ∷ [])) ∙ suffix q (pointwise nat_eq q file.name) refl (find (has_name q) files) refl)
  where
    suffix : (q : List ℕ) (b : Bool) → pointwise nat_eq q file.name ≡ b → (found : Option StoredFile) → find (has_name q) files ≡ found
        → option_map (λ f. f.bytes) (option_or found (cond b (Some file) None)) ≡ cond b (Some file.bytes) (option_map (λ f. f.bytes) found)
    suffix q true same None is = refl
    suffix q true same (Some other) is =
        let is_name : q ≡ file.name = same_text q file.name (sym same) in
        let nothing : find (has_name q) files ≡ None = ap (λ n. find (has_name n) files) is_name ∙ not_found (has_name file.name) files none in
        cc
    suffix q false differs None is = refl
    suffix q false differs (Some other) is = refl

-- a file in the place of the first of its name
replaced : (files : List StoredFile) (place : ℕ) (file : StoredFile) → position (has_name file.name) files ≡ Some place → files_of (set files place file) ≡ insert (files_of files) file.name file.bytes
replaced files place file at = same_files (set files place file) files file (λ q. over q (pointwise nat_eq q file.name) refl)
  where
    first : (place < length files) × (has_name file.name (get_or files place file) ≡ true) × ((k : ℕ) → k < place → has_name file.name (get_or files k file) ≡ false)
    first = position-Some (has_name file.name) files place file at

    over : (q : List ℕ) (b : Bool) → pointwise nat_eq q file.name ≡ b
        → option_map (λ f. f.bytes) (find (has_name q) (set files place file)) ≡ cond b (Some file.bytes) (option_map (λ f. f.bytes) (find (has_name q) files))
    over q true same =
        let is_name : q ≡ file.name = same_text q file.name (sym same) in
        let here : place ≡ position_or_len (has_name q) files = the_place _ _ place at ∙ ap (λ n. position_or_len (has_name n) files) (sym is_name) in
        ap (option_map (λ f. f.bytes)) (find-set (has_name q) files place file here first.0 same)
    over q false differs =
        let is_name : file.name ≡ (get_or files place file).name = same_text _ _ (sym first.1) in
        let other : has_name q (get_or files place file) ≡ false = ap (pointwise nat_eq q) (sym is_name) ∙ differs in
        ap (option_map (λ f. f.bytes)) (find_past (has_name q) files place file file other differs)

-- the same, at a file's two parts
pub files_pushed : (files : List StoredFile) (name bytes : List ℕ) → position (has_name name) files ≡ None → files_of (files ++ record { name = name; bytes = bytes } ∷ []) ≡ insert (files_of files) name bytes
files_pushed files name bytes none = pushed files (record { name = name; bytes = bytes }) none

pub files_replaced : (files : List StoredFile) (place : ℕ) (name bytes : List ℕ) → position (has_name name) files ≡ Some place → files_of (set files place (record { name = name; bytes = bytes })) ≡ insert (files_of files) name bytes
files_replaced files place name bytes at = replaced files place (record { name = name; bytes = bytes }) at
