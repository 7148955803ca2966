-- A line that stands at the end of an open block: what is left of it when it ends.
use Rattle.std.proofs.Common.{◌≡◌, ◌∙◌, sym, ap, refl, ℕ, zero, suc, ◌+◌, ◌-◌, ◌≤◌, Bool, true, false, cond, List, [], ◌∷◌, ◌++◌, length, take, drop, append-nil, arith}
use Rattle.std.specs.Prelude.{nat_eq, nat_le, codes, Option, Some, None, ◌==◌}
use Rattle.std.specs.List.{starts_with}
use Rattle.std.proofs.Math.Seq.{drop-nil, take-length}
use Rattle.std.proofs.lemmas.Bool.Decides.{nat_tests}
use Rattle.std.proofs.lemmas.List.{drop_all, length-drop, take-append-drop}
use Rattle.std.proofs.lemmas.Bool.{leb-true}
use Rattle.reply_lines.specs.declared.command.Command.{Command}
use Rattle.session_text.specs.PeriodBlocks.{closes_block, unquoted}
use Rattle.session_text.specs.LineCommands.{command_of_block}
use Rattle.session_text.specs.steps.Blocks.{without_last}
use Rattle.session_text.specs.Lines.{without_mark}
use Rattle.session_text.specs.steps.PeriodReading.{Opened, OpenLines, Place, after_lines, between_lines, line_ended, open_lines, place_of}

drop_further : (m n : ℕ) (xs : List ℕ) → drop m (drop n xs) ≡ drop (n + m) xs
drop_further m zero xs = let same : m ≡ zero + m = omega arith in ap (λ k. drop k xs) same
drop_further m (suc n) [] = drop-nil m ∙ sym (drop-nil (suc n + m))
drop_further m (suc n) (x ∷ xs) = let same : suc (n + m) ≡ suc n + m = omega arith in drop_further m n xs ∙ ap (λ k. drop k (x ∷ xs)) same

-- what stands after some first bytes
abbrev EndsIn : List ℕ → List ℕ → Type 0
EndsIn bytes end = (n : ℕ) × (end ≡ drop n bytes)

ends_further : (bytes part end : List ℕ) → EndsIn bytes part → EndsIn part end → EndsIn bytes end
ends_further bytes part end (n, p) (m, e) = (n + m, e ∙ (ap (drop m) p ∙ drop_further m n bytes))

chosen_end : (test : Bool) (bytes : List ℕ) (n : ℕ) → EndsIn bytes (cond test (drop n bytes) bytes)
chosen_end true bytes n = (n, refl)
chosen_end false bytes n = (0, refl)

after_end : (test : Bool) (bytes : List ℕ) → EndsIn bytes (cond test (without_mark bytes) bytes)
after_end true bytes = chosen_end (starts_with nat_eq bytes (239 ∷ 187 ∷ 191 ∷ [])) bytes 3
after_end false bytes = (0, refl)

beyond : (a b : ℕ) → nat_le a b ≡ false → b ≤ a
beyond a b h = grind (arith, nat_tests)

-- the end of bytes by its length
end_is : (bytes end : List ℕ) → EndsIn bytes end → drop (length bytes - length end) bytes ≡ end
end_is bytes end (n, e) = by (nat_le n (length bytes)) refl
  where
    long : length end ≡ length bytes - n
    long = ap length e ∙ length-drop n bytes

    by : (test : Bool) → nat_le n (length bytes) ≡ test → drop (length bytes - length end) bytes ≡ end
    by true h = let here : length bytes - length end ≡ n = omega (arith, long, leb-true n (length bytes) h) in ap (λ k. drop k bytes) here ∙ sym e
    by false h =
        let none : length end ≡ 0 = omega (arith, long, beyond n (length bytes) h) in
        let all : length bytes - length end ≡ length bytes = omega (arith, none) in
        ap (λ k. drop k bytes) all ∙ (drop_all (length bytes) bytes (omega arith) ∙ sym (e ∙ drop_all n bytes (omega (arith, beyond n (length bytes) h))))

-- the bytes of the line after a mark and a period
pub kept_is : (lines : ℕ) (start : ℕ) (block : List ℕ) → drop (length block - length (unquoted (after_lines lines (drop start block)))) block ≡ unquoted (after_lines lines (drop start block))
kept_is lines start block =
    let rest = drop start block in
    let line = after_lines lines rest in
    end_is block (unquoted line)
    (ends_further block line (unquoted line) (ends_further block rest line (start, refl) (after_end (lines == 0) rest)) (chosen_end (starts_with nat_eq line (codes ".")) line 1))

-- the block with the line, where it goes on
pub goes_on : (o : Opened) (line kept : List ℕ) (removed : List ℕ) → closes_block line ≡ false → kept ≡ unquoted line → removed ≡ o.block ++ kept
    → (λ (e : Option Command × Option OpenLines). e) (None, Some (open_lines o.line o.number 0 (removed ++ 10 ∷ []))) ≡ between_lines (line_ended o.number (Some o) line)
goes_on o line kept removed open_still is_kept is_removed =
    let all = removed ++ 10 ∷ [] in
    let whole : all ≡ o.block ++ unquoted line ++ 10 ∷ [] = ap (λ b. b ++ 10 ∷ []) (is_removed ∙ ap (λ k. o.block ++ k) is_kept) in
    let end : length all - 0 ≡ length all = omega arith in
    let kept_all : take (length all - 0) all ≡ all = ap (λ k. take k all) end ∙ take-length all in
    let none_left : drop (length all - 0) all ≡ [] = ap (λ k. drop k all) end ∙ drop_all (length all) all (omega arith) in
    let fresh : open_lines o.line o.number 0 all ≡ (λ (o : OpenLines). o) (record { opened = record o { block = all }; rest = [] }) =
    (λ i. record { opened = record o { block = kept_all i }; rest = none_left i }) in
    ap (λ (o : OpenLines). (None, Some o)) fresh ∙ (ap (λ b. (None, Some (record { opened = record o { block = b }; rest = [] }))) whole
    ∙ ap between_lines (sym (ap (λ t. cond t (Some (command_of_block o.number o.line (without_last o.block)), None) (None, Some (record o { block = o.block ++ unquoted line ++ 10 ∷ [] }))) open_still)))

-- the block where a line closes it
pub closed : (o : Opened) (line : List ℕ) (command : Command) → closes_block line ≡ true → command ≡ command_of_block o.number o.line (without_last o.block)
    → (λ (e : Option Command × Option OpenLines). e) (Some command, None) ≡ between_lines (line_ended o.number (Some o) line)
closed o line command closes is =
    ap (λ (k : Command). (λ (e : Option Command × Option OpenLines). e) (Some k, None)) is
    ∙ ap between_lines (sym (ap (λ t. cond t (Some (command_of_block o.number o.line (without_last o.block)), None) (None, Some (record o { block = o.block ++ unquoted line ++ 10 ∷ [] }))) closes))

-- a block that holds nothing of a line is all bytes
pub whole_block : (line : List ℕ) (number held : ℕ) (bytes : List ℕ) (p : OpenLines) → open_lines line number held bytes ≡ p → p.rest ≡ [] → p.opened.block ≡ bytes
whole_block line number held bytes p view none =
    let n = length bytes - held in
    let left : drop n bytes ≡ [] = ap (λ (q : OpenLines). q.rest) view ∙ none in
    sym (ap (λ (q : OpenLines). q.opened.block) view) ∙ (sym (append-nil (take n bytes)) ∙ (ap (λ d. take n bytes ++ d) (sym left) ∙ take-append-drop n bytes))

-- outside a block the line that hasn't ended stands by itself
pub outside_rest : (lines : ℕ) (rest : List ℕ) (opened : Option OpenLines) (p : Place) → place_of lines rest opened ≡ p → p.opened ≡ None → rest ≡ [] → p.rest ≡ []
outside_rest lines rest None p view none empty = sym (ap (λ (q : Place). q.rest) view) ∙ empty
outside_rest lines rest (Some o) p view none empty = absurd (let two : Some o.opened ≡ None = ap (λ (q : Place). q.opened) view ∙ none in let no : ⊥ = cc in no)

pub no_bytes : (bytes : List ℕ) → length bytes ≡ 0 → bytes ≡ []
no_bytes [] none = refl
no_bytes (byte ∷ bytes) none = absurd (omega (arith, none))
