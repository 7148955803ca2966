-- What the grammar of patterns spells is read, and what is read is spelled so.
use Rattle.std.proofs.Common.{◌≡◌, refl, sym, ap, ◌∙◌, subst, ℕ, zero, suc, ◌+◌, ◌-◌, ◌<◌, ◌≤◌, ◌⊎◌, inl, inr, Bool, true, false, ◌&&◌, ◌||◌, List, [], ◌∷◌, ◌++◌, length, take, drop, Option, Some, None, append_assoc, append-nil, arith, cond, length-append, take-append-drop}
use Rattle.std.specs.Prelude.{option_map, nat_lt, nat_le, ◌==◌}
use Rattle.std.specs.List.{prefix_len, list_all}
use Rattle.std.proofs.Math.Seq.{take-append_seam, drop-append_seam}
use Rattle.std.proofs.lemmas.Bool.{cond-true, cond-false, eqb-true, eq-eqb, and_parts, and_from, ltb-true, lt-ltb, leb-true, le-leb, or_parts}
use Rattle.std.proofs.lemmas.List.Folds.{length-prefix_len}
use Rattle.match_options.specs.declared.atom.Atom.{Atom}
use Rattle.match_options.specs.declared.atom.Atom.TheVariants.{Letter, Gap}
use Rattle.match_options.specs.declared.atom.SizedAtom.{SizedAtom}
use Rattle.match_options.specs.declared.atom.Number.{Number}
use Rattle.ft_base.specs.Letters.{is_digit, number_of, begins_with}
use Rattle.ft_base.specs.Limits.{max_number}
use Rattle.match_options.specs.Patterns.{is_period, is_backslash, sized, number_before, upper_bound, bounds, braces_at, period_before, backslash_before, first_atom, atoms_after, atoms_of}
use Rattle.match_options.specs.Grammar.{IsNumber, goes_on_with_period, Spells, letter, escaped, one, at_most_one, any_number, at_least_one, from_to, Pattern, last, before}
use Rattle.match_options.proofs.Reading.{passed, atoms_first, atoms_bad}

-- ---- what is spelled is read

digits_run : (digits rest : List ℕ) (closing : ℕ) → list_all is_digit digits ≡ true → is_digit closing ≡ false → prefix_len is_digit (digits ++ closing ∷ rest) ≡ length digits
digits_run [] rest closing each other = cond-false _ _ _ other
digits_run (d ∷ digits) rest closing each other =
    let parts = and_parts (is_digit d) (list_all is_digit digits) each in
    let one_more : 1 + length digits ≡ suc (length digits) = omega arith in
    cond-true _ _ _ parts.0 ∙ ap (λ n. 1 + n) (digits_run digits rest closing parts.1 other) ∙ one_more

-- a number of so many digits
number_by : ℕ → ℕ → List ℕ → Option Number
number_by n closing letters = cond (nat_lt 0 n && begins_with closing (drop n letters)) (Some record { value = number_of (take n letters); size = n + 1 }) None

number_spelled : (digits rest : List ℕ) (closing : ℕ) → IsNumber digits → is_digit closing ≡ false → number_before closing (digits ++ closing ∷ rest) ≡ Some record { value = number_of digits; size = length digits + 1 }
unfolding number_by
number_spelled digits rest closing number other =
    ap (λ n. number_by n closing (digits ++ closing ∷ rest)) (digits_run digits rest closing number.each other)
    ∙ (λ i. cond (nat_lt 0 (length digits) && begins_with closing (drop-append_seam digits (closing ∷ rest) i)) (Some record { value = number_of (take-append_seam digits (closing ∷ rest) i); size = length digits + 1 }) None)
    ∙ cond-true _ _ _ (and_from (nat_lt 0 (length digits)) _ (lt-ltb 0 (length digits) number.some) (eq-eqb closing closing refl))

after_closing : (digits rest : List ℕ) (closing : ℕ) → drop (length digits + 1) (digits ++ closing ∷ rest) ≡ rest
after_closing digits rest closing = ap (λ xs. drop (length digits + 1) xs) (sym (append_assoc digits (closing ∷ []) rest)) ∙ ap (λ n. drop n ((digits ++ closing ∷ []) ++ rest)) (sym (length-append digits (closing ∷ []))) ∙ drop-append_seam (digits ++ closing ∷ []) rest

braces_spelled : (low high rest : List ℕ) → IsNumber low → IsNumber high → number_of low ≤ number_of high → number_of high ≤ max_number
    → braces_at ((low ++ 44 ∷ (high ++ 125 ∷ [])) ++ rest) ≡ sized (Gap (number_of low) (Some (number_of high))) (suc (suc (length (low ++ 44 ∷ (high ++ 125 ∷ [])))))
braces_spelled low high rest nl nh ordered small =
    let regrouped : (low ++ 44 ∷ (high ++ 125 ∷ [])) ++ rest ≡ low ++ 44 ∷ (high ++ 125 ∷ rest) = append_assoc low (44 ∷ (high ++ 125 ∷ [])) rest ∙ ap (λ xs. low ++ 44 ∷ xs) (append_assoc high (125 ∷ []) rest) in
    let sizes : (length low + 1) + (length high + 1) + 2 ≡ suc (suc (length (low ++ 44 ∷ (high ++ 125 ∷ [])))) = omega (arith, length-append low (44 ∷ (high ++ 125 ∷ [])), length-append high (125 ∷ [])) in
    ap braces_at regrouped
    ∙ ap (λ n. bounds n (low ++ 44 ∷ (high ++ 125 ∷ rest))) (number_spelled low (high ++ 125 ∷ rest) 44 nl refl)
    ∙ ap (λ xs. upper_bound (number_of low) (length low + 1) (number_before 125 xs)) (after_closing low (high ++ 125 ∷ rest) 44)
    ∙ ap (upper_bound (number_of low) (length low + 1)) (number_spelled high rest 125 nh refl)
    ∙ cond-true _ _ _ (and_from _ _ (le-leb (number_of low) (number_of high) ordered) (le-leb (number_of high) max_number small))
    ∙ ap (sized (Gap (number_of low) (Some (number_of high)))) sizes

record SpelledFirst (text : List ℕ) (atom : Atom) (rest : List ℕ) : Type 0 where
  first : ℕ
  further : List ℕ
  split : text ≡ first ∷ further
  reads : first_atom first (further ++ rest) ≡ sized atom (suc (length further))

period_alone : (rest : List ℕ) → goes_on_with_period rest ≡ false → period_before rest ≡ sized (Gap 1 (Some 1)) 1
period_alone [] h = refl
period_alone (c ∷ rest) h =
    let braces = or_parts (((c == 63) || (c == 42)) || (c == 43)) (c == 123) h in
    let plus = or_parts ((c == 63) || (c == 42)) (c == 43) braces.0 in
    let first = or_parts (c == 63) (c == 42) plus.0 in
    cond-false _ _ _ first.0 ∙ cond-false _ _ _ first.1 ∙ cond-false _ _ _ plus.1 ∙ cond-false _ _ _ braces.1

letter_alone : (c : ℕ) (rest : List ℕ) → (is_period c || is_backslash c) ≡ false → first_atom c rest ≡ sized (Letter c) 1
letter_alone c rest h = let parts = or_parts (is_period c) (is_backslash c) h in cond-false _ _ _ parts.0 ∙ cond-false _ _ _ parts.1

spelled_first : (text : List ℕ) (atom : Atom) (rest : List ℕ) → Spells text atom rest → SpelledFirst text atom rest
spelled_first _ _ _ (letter c rest h) = record { first = c; further = []; split = refl; reads = letter_alone c rest h }
spelled_first _ _ _ (escaped c rest) = record { first = 92; further = c ∷ []; split = refl; reads = refl }
spelled_first _ _ _ (one rest h) = record { first = 46; further = []; split = refl; reads = period_alone rest h }
spelled_first _ _ _ (at_most_one rest) = record { first = 46; further = 63 ∷ []; split = refl; reads = refl }
spelled_first _ _ _ (any_number rest) = record { first = 46; further = 42 ∷ []; split = refl; reads = refl }
spelled_first _ _ _ (at_least_one rest) = record { first = 46; further = 43 ∷ []; split = refl; reads = refl }
spelled_first _ _ _ (from_to low high rest nl nh ordered small) =
    record { first = 46; further = 123 ∷ (low ++ 44 ∷ (high ++ 125 ∷ [])); split = refl; reads = braces_spelled low high rest nl nh ordered small }

after_first_atom : (first : ℕ) (further rest : List ℕ) (atom : Atom) → first_atom first (further ++ rest) ≡ sized atom (suc (length further))
    → atoms_after 0 (first ∷ (further ++ rest)) ≡ option_map (λ atoms. atom ∷ atoms) (atoms_after 0 rest)
after_first_atom first further rest atom reads =
    let size : suc (length further) - 1 ≡ length further = omega arith in
    let within : length further ≤ length (further ++ rest) = omega (arith, length-append further rest) in
    atoms_first first (further ++ rest) (record { atom = atom; size = suc (length further) }) reads
    ∙ ap (option_map (λ atoms. atom ∷ atoms)) (
    ap (λ n. atoms_after n (further ++ rest)) size
    ∙ passed (length further) (further ++ rest) within
    ∙ ap (atoms_after 0) (drop-append_seam further rest))

pattern_after : (text : List ℕ) (atoms : List Atom) → atoms_of text ≡ Some atoms → atoms_after 0 text ≡ Some atoms
unfolding atoms_of
pattern_after [] atoms e = cc
pattern_after (c ∷ rest) atoms e = e

no_atoms : (atoms : List Atom) → atoms_of [] ≡ Some atoms → ⊥
unfolding atoms_of
no_atoms atoms e = cc

of_after : (first : ℕ) (rest text : List ℕ) → text ≡ first ∷ rest → atoms_of text ≡ atoms_after 0 (first ∷ rest)
unfolding atoms_of
of_after first rest text e = ap atoms_of e

pub spelled_read : (text : List ℕ) (atoms : List Atom) → Pattern text atoms → atoms_of text ≡ Some atoms
unfolding atoms_after
spelled_read _ _ (last text atom spells) =
    let found = spelled_first text atom [] spells in
    of_after found.first (found.further ++ []) text (found.split ∙ ap (λ xs. found.first ∷ xs) (sym (append-nil found.further)))
    ∙ after_first_atom found.first found.further [] atom found.reads
spelled_read _ _ (before prefix rest atom atoms spells further) =
    let found = spelled_first prefix atom rest spells in
    of_after found.first (found.further ++ rest) (prefix ++ rest) (ap (λ xs. xs ++ rest) found.split)
    ∙ after_first_atom found.first found.further rest atom found.reads
    ∙ ap (option_map (λ more. atom ∷ more)) (pattern_after rest atoms (spelled_read rest atoms further))

-- ---- what is read is spelled

chosen : {X : Type 0} (b : Bool) (x y z : X) → cond b x y ≡ z → ((b ≡ true) × (x ≡ z)) ⊎ ((b ≡ false) × (y ≡ z))
chosen true x y z e = inl (refl, e)
chosen false x y z e = inr (refl, e)

run_passes : (p : ℕ → Bool) (xs : List ℕ) → list_all p (take (prefix_len p xs) xs) ≡ true
run_passes p [] = refl
run_passes p (x ∷ xs) = by_test (p x) refl (run_passes p xs)
  where
    by_test : (b : Bool) → p x ≡ b → list_all p (take (prefix_len p xs) xs) ≡ true → list_all p (take (prefix_len p (x ∷ xs)) (x ∷ xs)) ≡ true
    by_test true holds each =
        let one_more : 1 + prefix_len p xs ≡ suc (prefix_len p xs) = omega arith in
        ap (λ n. list_all p (take n (x ∷ xs))) (cond-true _ _ _ holds ∙ one_more) ∙ and_from (p x) _ holds each
    by_test false fails each = ap (λ n. list_all p (take n (x ∷ xs))) (cond-false _ _ _ fails)

record NumberOf (closing : ℕ) (letters : List ℕ) (number : Number) : Type 0 where
  digits : List ℕ
  suffix : List ℕ
  split : letters ≡ digits ++ closing ∷ suffix
  spelled : IsNumber digits
  value : number.value ≡ number_of digits
  size : number.size ≡ length digits + 1

begins : (closing : ℕ) (xs : List ℕ) → begins_with closing xs ≡ true → (suffix : List ℕ) × (xs ≡ closing ∷ suffix)
begins closing [] h = cc
begins closing (x ∷ xs) h = (xs, ap (λ d. d ∷ xs) (eqb-true x closing h))

number_read : (closing : ℕ) (letters : List ℕ) (number : Number) → number_before closing letters ≡ Some number → NumberOf closing letters number
number_read closing letters number e =
    let n = prefix_len is_digit letters in
    elim (chosen (nat_lt 0 n && begins_with closing (drop n letters)) (Some record { value = number_of (take n letters); size = n + 1 }) None (Some number) e) [
      | inl (test, same) ↦
          let parts = and_parts (nat_lt 0 n) (begins_with closing (drop n letters)) test in
          let rest = begins closing (drop n letters) parts.1 in
          let long : length (take n letters) ≡ n = length-prefix_len is_digit letters in
          let some : 0 < n = ltb-true 0 n parts.0 in
          let value : number.value ≡ number_of (take n letters) = cc in
          let size : number.size ≡ n + 1 = cc in
          record {
            digits = take n letters;
            suffix = rest.0;
            split = sym (take-append-drop n letters) ∙ ap (λ xs. take n letters ++ xs) rest.1;
            spelled = record { some = omega arith; each = run_passes is_digit letters };
            value = value;
            size = omega arith;
          }
      | inr (test, same) ↦ cc
    ]

-- the characters of the atom at the front
record FirstOf (c : ℕ) (rest : List ℕ) (first : SizedAtom) : Type 0 where
  prefix : List ℕ
  suffix : List ℕ
  split : rest ≡ prefix ++ suffix
  size : first.size ≡ suc (length prefix)
  spells : Spells (c ∷ prefix) first.atom suffix

sized_is : (atom : Atom) (size : ℕ) (first : SizedAtom) → sized atom size ≡ Some first → record { atom = atom; size = size } ≡ first
sized_is atom size first e = cc

upper_read : (rest : List ℕ) (low : Number) (first : SizedAtom) → NumberOf 44 rest low → (o : Option Number) → number_before 125 (drop low.size rest) ≡ o → upper_bound low.value low.size o ≡ Some first → FirstOf 46 (123 ∷ rest) first
upper_read rest low first l None h e = cc
upper_read rest low first l (Some high) h e =
    elim (chosen (nat_le low.value high.value && nat_le high.value max_number) (sized (Gap low.value (Some high.value)) (low.size + high.size + 2)) None (Some first) e) [
      | inl (test, same) ↦
          let left : drop low.size rest ≡ l.suffix = (λ i. drop (l.size i) (l.split i)) ∙ after_closing l.digits l.suffix 44 in
          let r = number_read 125 l.suffix high (ap (number_before 125) (sym left) ∙ h) in
          let parts = and_parts (nat_le low.value high.value) (nat_le high.value max_number) test in
          let is = sized_is (Gap low.value (Some high.value)) (low.size + high.size + 2) first same in
          let ordered = leb-true low.value high.value parts.0 in
          let small = leb-true high.value max_number parts.1 in
          let text = l.digits ++ 44 ∷ (r.digits ++ 125 ∷ []) in
          let lv = l.value in
          let rv = r.value in
          let ls = l.size in
          let rs = r.size in
          let sizes : low.size + high.size + 2 ≡ suc (length (123 ∷ text)) = omega (arith, length-append l.digits (44 ∷ (r.digits ++ 125 ∷ [])), length-append r.digits (125 ∷ [])) in
          let ordered_too : number_of l.digits ≤ number_of r.digits = omega arith in
          let small_too : number_of r.digits ≤ max_number = omega arith in
          record {
            prefix = 123 ∷ text;
            suffix = r.suffix;
            split = ap (λ xs. 123 ∷ xs) (l.split ∙ ap (λ xs. l.digits ++ 44 ∷ xs) r.split ∙ sym (append_assoc l.digits (44 ∷ (r.digits ++ 125 ∷ [])) r.suffix ∙ ap (λ xs. l.digits ++ 44 ∷ xs) (append_assoc r.digits (125 ∷ []) r.suffix)));
            size = ap (λ f. f.size) (sym is) ∙ sizes;
            spells = subst (λ (a : Atom). Spells (46 ∷ 123 ∷ text) a r.suffix) ((λ i. Gap (sym l.value i) (Some (sym r.value i))) ∙ ap (λ f. f.atom) is)
                (from_to l.digits r.digits r.suffix l.spelled r.spelled ordered_too small_too);
          }
      | inr (test, same) ↦ cc
    ]

braces_read : (rest : List ℕ) (first : SizedAtom) (o : Option Number) → number_before 44 rest ≡ o → bounds o rest ≡ Some first → FirstOf 46 (123 ∷ rest) first
braces_read rest first None h e = cc
braces_read rest first (Some low) h e = upper_read rest low first (number_read 44 rest low h) (number_before 125 (drop low.size rest)) refl e

period_read : (rest : List ℕ) (first : SizedAtom) → period_before rest ≡ Some first → FirstOf 46 rest first
period_read [] first e = subst (FirstOf 46 []) (sized_is (Gap 1 (Some 1)) 1 first e) (record { prefix = []; suffix = []; split = refl; size = refl; spells = one [] refl })
period_read (d ∷ rest) first e =
    let alone = sized (Gap 1 (Some 1)) 1 in
    let braces = cond (d == 123) (braces_at rest) alone in
    let plus = cond (d == 43) (sized (Gap 1 None) 2) braces in
    let star = cond (d == 42) (sized (Gap 0 None) 2) plus in
    elim (chosen (d == 63) (sized (Gap 0 (Some 1)) 2) star (Some first) e) [
      | inl (t, same) ↦ subst (FirstOf 46 (d ∷ rest)) (sized_is (Gap 0 (Some 1)) 2 first same) (record { prefix = 63 ∷ []; suffix = rest; split = ap (λ x. x ∷ rest) (eqb-true d 63 t); size = refl; spells = at_most_one rest })
      | inr (f1, e1) ↦ elim (chosen (d == 42) (sized (Gap 0 None) 2) plus (Some first) e1) [
        | inl (t, same) ↦ subst (FirstOf 46 (d ∷ rest)) (sized_is (Gap 0 None) 2 first same) (record { prefix = 42 ∷ []; suffix = rest; split = ap (λ x. x ∷ rest) (eqb-true d 42 t); size = refl; spells = any_number rest })
        | inr (f2, e2) ↦ elim (chosen (d == 43) (sized (Gap 1 None) 2) braces (Some first) e2) [
          | inl (t, same) ↦ subst (FirstOf 46 (d ∷ rest)) (sized_is (Gap 1 None) 2 first same) (record { prefix = 43 ∷ []; suffix = rest; split = ap (λ x. x ∷ rest) (eqb-true d 43 t); size = refl; spells = at_least_one rest })
          | inr (f3, e3) ↦ elim (chosen (d == 123) (braces_at rest) alone (Some first) e3) [
            | inl (t, same) ↦ subst (λ x. FirstOf 46 (x ∷ rest) first) (sym (eqb-true d 123 t)) (braces_read rest first (number_before 44 rest) refl same)
            | inr (f4, same) ↦ subst (FirstOf 46 (d ∷ rest)) (sized_is (Gap 1 (Some 1)) 1 first same) (record { prefix = []; suffix = d ∷ rest; split = refl; size = refl; spells = one (d ∷ rest) (λ i. ((f1 i || f2 i) || f3 i) || f4 i) })
          ]
        ]
      ]
    ]

backslash_read : (rest : List ℕ) (first : SizedAtom) → backslash_before rest ≡ Some first → FirstOf 92 rest first
backslash_read [] first e = cc
backslash_read (d ∷ rest) first e = subst (FirstOf 92 (d ∷ rest)) (sized_is (Letter d) 2 first e) (record { prefix = d ∷ []; suffix = rest; split = refl; size = refl; spells = escaped d rest })

first_read : (c : ℕ) (rest : List ℕ) (first : SizedAtom) → first_atom c rest ≡ Some first → FirstOf c rest first
first_read c rest first e =
    let alone = sized (Letter c) 1 in
    elim (chosen (is_period c) (period_before rest) (cond (is_backslash c) (backslash_before rest) alone) (Some first) e) [
      | inl (t, same) ↦ subst (λ x. FirstOf x rest first) (sym (eqb-true c 46 t)) (period_read rest first same)
      | inr (f1, e1) ↦ elim (chosen (is_backslash c) (backslash_before rest) alone (Some first) e1) [
        | inl (t, same) ↦ subst (λ x. FirstOf x rest first) (sym (eqb-true c 92 t)) (backslash_read rest first same)
        | inr (f2, same) ↦ subst (FirstOf c rest) (sized_is (Letter c) 1 first same) (record { prefix = []; suffix = rest; split = refl; size = refl; spells = letter c rest (λ i. f1 i || f2 i) })
      ]
    ]

mapped : (atom : Atom) (o : Option (List Atom)) (atoms : List Atom) → option_map (λ more. atom ∷ more) o ≡ Some atoms → (more : List Atom) × (o ≡ Some more) × (atom ∷ more ≡ atoms)
mapped atom None atoms e = cc
mapped atom (Some more) atoms e = (more, refl, cc)

read_first : (c : ℕ) (rest : List ℕ) (first : SizedAtom) (f : FirstOf c rest first) → first_atom c rest ≡ Some first → atoms_after 0 (c ∷ rest) ≡ option_map (λ atoms. first.atom ∷ atoms) (atoms_after 0 f.suffix)
read_first c rest first f e =
    let size : first.size - 1 ≡ length f.prefix = omega (arith, f.size) in
    let within : length f.prefix ≤ length (f.prefix ++ f.suffix) = omega (arith, length-append f.prefix f.suffix) in
    atoms_first c rest first e
    ∙ ap (option_map (λ atoms. first.atom ∷ atoms)) (
    (λ i. atoms_after (size i) (f.split i))
    ∙ passed (length f.prefix) (f.prefix ++ f.suffix) within
    ∙ ap (atoms_after 0) (drop-append_seam f.prefix f.suffix))

none_read : (c : ℕ) (rest : List ℕ) (atoms : List Atom) (o : Option SizedAtom) → first_atom c rest ≡ o → atoms_after 0 (c ∷ rest) ≡ Some atoms → (first : SizedAtom) × (first_atom c rest ≡ Some first)
none_read c rest atoms None h e = let bad = atoms_bad c rest h in cc
none_read c rest atoms (Some first) h e = (first, h)

joined : (prefix suffix : List ℕ) (atom : Atom) (atoms : List Atom) → Spells prefix atom suffix → option_map (λ more. atom ∷ more) (atoms_after 0 suffix) ≡ Some atoms
    → ((more : List Atom) → atoms_of suffix ≡ Some more → Pattern suffix more) → Pattern (prefix ++ suffix) atoms
unfolding atoms_after atoms_of
joined prefix [] atom atoms spells e further =
    let is : atom ∷ [] ≡ atoms = cc in
    subst (λ t. Pattern t atoms) (sym (append-nil prefix)) (subst (Pattern prefix) is (last prefix atom spells))
joined prefix (x ∷ suffix) atom atoms spells e further =
    let more = mapped atom (atoms_after 0 (x ∷ suffix)) atoms e in
    subst (Pattern (prefix ++ x ∷ suffix)) more.2 (before prefix (x ∷ suffix) atom more.0 spells (further more.0 more.1))

letters_spelled : (bound : ℕ) (letters : List ℕ) (atoms : List Atom) → length letters ≤ bound → atoms_of letters ≡ Some atoms → Pattern letters atoms
letters_spelled bound [] atoms h e = absurd (no_atoms atoms e)
letters_spelled zero (c ∷ rest) atoms h e = absurd (omega arith)
letters_spelled (suc bound) (c ∷ rest) atoms h e =
    let suffix = pattern_after (c ∷ rest) atoms e in
    let found = none_read c rest atoms (first_atom c rest) refl suffix in
    let f = first_read c rest found.0 found.1 in
    let left : length f.suffix ≤ bound = omega (arith, ap length f.split, length-append f.prefix f.suffix) in
    subst (λ t. Pattern t atoms) (ap (λ xs. c ∷ xs) (sym f.split))
    (joined (c ∷ f.prefix) f.suffix found.0.atom atoms f.spells (sym (read_first c rest found.0 f found.1) ∙ suffix) (λ more h2. letters_spelled bound f.suffix more left h2))

pub read_spelled : (text : List ℕ) (atoms : List Atom) → atoms_of text ≡ Some atoms → Pattern text atoms
read_spelled text atoms e = letters_spelled (length text) text atoms (omega arith) e
