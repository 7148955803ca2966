-- Options of different groups, and what keeps a selection from having two of one group.
use Rattle.std.proofs.Common.{◌≡◌, ℕ, Bool, true, false, cond, ◌||◌, ◌<◌, ◌+◌, arith, List, [], ◌∷◌, ◌++◌, Some, None, refl, sym, ◌∙◌, ap, append_assoc}
use Rattle.std.proofs.lemmas.List.{append-nil}
use Rattle.selection_grammar.specs.declared.parsed.MatchOption.{MatchOption}
use Rattle.selection_grammar.specs.declared.parsed.MatchOption.TheVariants as O
use Rattle.selection_grammar.specs.declared.parsed.PlacedOption.{PlacedOption}
use Rattle.selection_faults.specs.Options.{same_group, is_second, second_after, second_option}

-- where the group stands in the printed form
abbrev pub place : MatchOption → ℕ
place (O.Case x) = 0
place (O.Diacritics x) = 1
place (O.Stemming x) = 2
place (O.Thesaurus x) = 3
place (O.StopWords x) = 4
place (O.Language x) = 5
place (O.Wildcards x) = 6

groups_apart : (a b : MatchOption) → place a < place b → same_group a b ≡ false
groups_apart (O.Case x) (O.Case y) e = absurd (omega (arith, e))
groups_apart (O.Case x) (O.Diacritics y) e = refl
groups_apart (O.Case x) (O.Stemming y) e = refl
groups_apart (O.Case x) (O.Thesaurus y) e = refl
groups_apart (O.Case x) (O.StopWords y) e = refl
groups_apart (O.Case x) (O.Language y) e = refl
groups_apart (O.Case x) (O.Wildcards y) e = refl
groups_apart (O.Diacritics x) (O.Case y) e = refl
groups_apart (O.Diacritics x) (O.Diacritics y) e = absurd (omega (arith, e))
groups_apart (O.Diacritics x) (O.Stemming y) e = refl
groups_apart (O.Diacritics x) (O.Thesaurus y) e = refl
groups_apart (O.Diacritics x) (O.StopWords y) e = refl
groups_apart (O.Diacritics x) (O.Language y) e = refl
groups_apart (O.Diacritics x) (O.Wildcards y) e = refl
groups_apart (O.Stemming x) (O.Case y) e = refl
groups_apart (O.Stemming x) (O.Diacritics y) e = refl
groups_apart (O.Stemming x) (O.Stemming y) e = absurd (omega (arith, e))
groups_apart (O.Stemming x) (O.Thesaurus y) e = refl
groups_apart (O.Stemming x) (O.StopWords y) e = refl
groups_apart (O.Stemming x) (O.Language y) e = refl
groups_apart (O.Stemming x) (O.Wildcards y) e = refl
groups_apart (O.Thesaurus x) (O.Case y) e = refl
groups_apart (O.Thesaurus x) (O.Diacritics y) e = refl
groups_apart (O.Thesaurus x) (O.Stemming y) e = refl
groups_apart (O.Thesaurus x) (O.Thesaurus y) e = absurd (omega (arith, e))
groups_apart (O.Thesaurus x) (O.StopWords y) e = refl
groups_apart (O.Thesaurus x) (O.Language y) e = refl
groups_apart (O.Thesaurus x) (O.Wildcards y) e = refl
groups_apart (O.StopWords x) (O.Case y) e = refl
groups_apart (O.StopWords x) (O.Diacritics y) e = refl
groups_apart (O.StopWords x) (O.Stemming y) e = refl
groups_apart (O.StopWords x) (O.Thesaurus y) e = refl
groups_apart (O.StopWords x) (O.StopWords y) e = absurd (omega (arith, e))
groups_apart (O.StopWords x) (O.Language y) e = refl
groups_apart (O.StopWords x) (O.Wildcards y) e = refl
groups_apart (O.Language x) (O.Case y) e = refl
groups_apart (O.Language x) (O.Diacritics y) e = refl
groups_apart (O.Language x) (O.Stemming y) e = refl
groups_apart (O.Language x) (O.Thesaurus y) e = refl
groups_apart (O.Language x) (O.StopWords y) e = refl
groups_apart (O.Language x) (O.Language y) e = absurd (omega (arith, e))
groups_apart (O.Language x) (O.Wildcards y) e = refl
groups_apart (O.Wildcards x) (O.Case y) e = refl
groups_apart (O.Wildcards x) (O.Diacritics y) e = refl
groups_apart (O.Wildcards x) (O.Stemming y) e = refl
groups_apart (O.Wildcards x) (O.Thesaurus y) e = refl
groups_apart (O.Wildcards x) (O.StopWords y) e = refl
groups_apart (O.Wildcards x) (O.Language y) e = refl
groups_apart (O.Wildcards x) (O.Wildcards y) e = absurd (omega (arith, e))

-- options whose groups stand before a place
abbrev pub AllBefore : ℕ → List PlacedOption → Type 0
AllBefore n [] = Unit {0}
AllBefore n (x ∷ rest) = (place x.option < n) × AllBefore n rest

pub one_before : (n : ℕ) (xs : List PlacedOption) (x : PlacedOption) → AllBefore n xs → place x.option < n → AllBefore n (xs ++ x ∷ [])
one_before n [] x h e = (e, tt)
one_before n (y ∷ ys) x h e = (h.0, one_before n ys x h.1 e)

pub further_before : (n : ℕ) (xs : List PlacedOption) → AllBefore n xs → AllBefore (n + 1) xs
further_before n [] h = tt
further_before n (x ∷ xs) h = (omega (arith, h.0), further_before n xs h.1)

first_of_group : (xs : List PlacedOption) (x : PlacedOption) → AllBefore (place x.option) xs → is_second xs x ≡ false
first_of_group [] x h = refl
first_of_group (y ∷ ys) x h = ap (λ b. b || is_second ys x) (groups_apart y.option x.option h.0) ∙ first_of_group ys x h.1

second_on : (before xs : List PlacedOption) (x : PlacedOption) → second_after before xs ≡ None → is_second (before ++ xs) x ≡ false → second_after before (xs ++ x ∷ []) ≡ None
second_on before [] x e k = ap (λ b. cond b (Some x.at) None) (ap (λ w. is_second w x) (sym (append-nil before)) ∙ k)
second_on before (y ∷ ys) x e k = go (is_second before y) refl e (λ i. second_on (before ++ y ∷ []) ys x i (ap (λ w. is_second w x) (append_assoc before (y ∷ []) ys) ∙ k))
  where
    go : (b : Bool) → is_second before y ≡ b → cond b (Some y.at) (second_after (before ++ y ∷ []) ys) ≡ None → (second_after (before ++ y ∷ []) ys ≡ None → second_after (before ++ y ∷ []) (ys ++ x ∷ []) ≡ None) → cond (is_second before y) (Some y.at) (second_after (before ++ y ∷ []) (ys ++ x ∷ [])) ≡ None
    go true f i on = cc
    go false f i on = ap (λ b. cond b (Some y.at) (second_after (before ++ y ∷ []) (ys ++ x ∷ []))) f ∙ on i

pub second_more : (xs : List PlacedOption) (x : PlacedOption) → second_option xs ≡ None → AllBefore (place x.option) xs → second_option (xs ++ x ∷ []) ≡ None
second_more xs x e h = second_on [] xs x e (first_of_group xs x h)
