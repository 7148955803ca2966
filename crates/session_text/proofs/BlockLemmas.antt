-- A block that is read line by line.
use Rattle.std.proofs.Common.{◌≡◌, ◌∙◌, sym, ap, refl, ℕ, ◌+◌, ◌-◌, suc, true, false, not, cond, ◌||◌, List, [], ◌∷◌, ◌++◌, length, take, map, arith, append_assoc, length-append}
use Rattle.std.specs.Prelude.{Some, None, if◌then◌else◌}
use Rattle.std.specs.List.{list_any, take_while, prefix_len, join_with_byte}
use Rattle.std.proofs.lemmas.List.{take_at, append-nil}
use Rattle.session_text.specs.steps.Blocks.{without_last, block_after}
use Rattle.session_text.specs.PeriodBlocks.{block_of, closes_block, unquoted}

-- lines one after the other, each with a line feed after it
abbrev written : List (List ℕ) → List ℕ
written [] = []
written (line ∷ lines) = (line ++ 10 ∷ []) ++ written lines

written-push : (lines : List (List ℕ)) (line : List ℕ) → written (lines ++ line ∷ []) ≡ written lines ++ line ++ 10 ∷ []
written-push [] line = append-nil (line ++ 10 ∷ [])
written-push (first ∷ lines) line = ap (λ w. (first ++ 10 ∷ []) ++ w) (written-push lines line) ∙ simp append_assoc

written-join : (line : List ℕ) (lines : List (List ℕ)) → written (line ∷ lines) ≡ join_with_byte 10 (line ∷ lines) ++ 10 ∷ []
written-join line [] = append-nil (line ++ 10 ∷ [])
written-join line (next ∷ lines) = ap (λ w. (line ++ 10 ∷ []) ++ w) (written-join next lines) ∙ simp append_assoc

without_last-push : (bytes : List ℕ) (byte : ℕ) → without_last (bytes ++ byte ∷ []) ≡ bytes
without_last-push bytes byte = take_at bytes (byte ∷ []) (length (bytes ++ byte ∷ []) - 1) (omega (arith, length-append bytes (byte ∷ [])))

without_last-written : (lines : List (List ℕ)) → without_last (written lines) ≡ join_with_byte 10 lines
without_last-written [] = refl
without_last-written (line ∷ lines) = ap without_last (written-join line lines) ∙ without_last-push (join_with_byte 10 (line ∷ lines)) 10

-- the lines of a block up to its end
abbrev inside : List (List ℕ) → List (List ℕ)
inside lines = map unquoted (take_while (λ line. not (closes_block line)) lines)

-- the block after the lines that were read
block_after-written : (read lines : List (List ℕ)) → block_after (written read) lines ≡ (if list_any closes_block lines then Some (join_with_byte 10 (read ++ inside lines)) else None)
block_after-written read [] = refl
block_after-written read (line ∷ lines) =
    let n = prefix_len (λ line. not (closes_block line)) lines in
    elim (closes_block line) as (λ t.
    cond t (Some (without_last (written read))) (block_after (written read ++ unquoted line ++ 10 ∷ []) lines)
    ≡ cond (t || list_any closes_block lines) (Some (join_with_byte 10 (read ++ map unquoted (take (cond (not t) (1 + n) 0) (line ∷ lines))))) None) [
      | true ↦ ap Some (without_last-written read ∙ ap (join_with_byte 10) (sym (append-nil read)))
      | false ↦
          ap (λ w. block_after w lines) (sym (written-push read (unquoted line)))
          ∙ (block_after-written (read ++ unquoted line ∷ []) lines
          ∙ ap (λ ls. if list_any closes_block lines then Some (join_with_byte 10 ls) else None)
          (append_assoc read (unquoted line ∷ []) (inside lines) ∙ ap (λ k. read ++ map unquoted (take k (line ∷ lines))) (let e : suc n ≡ 1 + n = omega arith in e)))
    ]

pub block_of-lines : (lines : List (List ℕ)) → block_of lines ≡ block_after [] lines
block_of-lines lines = sym (block_after-written [] lines)
