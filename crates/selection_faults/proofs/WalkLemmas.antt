-- What a walk over strings keeps.
use Rattle.std.proofs.Common.{◌≡◌, ℕ, ◌+◌, ◌<◌, Bool, true, false, cond, List, [], ◌∷◌, ◌++◌, Option, Some, None, map, filter, refl, sym, ap, ◌∙◌, ltb, length, take, get_or, append_assoc}
use Rattle.std.proofs.lemmas.List.{take_more}
use Rattle.ft_base.specs.Limits.{max_phrases}
use Rattle.selection_grammar.specs.Tree.{Tree, trees_of}
use Rattle.selection_faults.specs.Least.{earlier, itself, least_place}
use Rattle.selection_faults.specs.Strings.{Written, strings_inside, strings_inside_all, phrases_of, phrases_past, is_bad, bad_wildcards}
use Rattle.selection_faults.specs.steps.Walk.{after, after_all, bad_after}
use Rattle.selection_faults.specs.declared.strings.StringWalk.{StringWalk}
use Rattle.selection_faults.proofs.LeastLemmas.{earlier_groups, earlier_none}

pub after_append : (walk : StringWalk) (xs ys : List Written) → after_all walk (xs ++ ys) ≡ after_all (after_all walk xs) ys
unfolding after_all
after_append walk [] ys = refl
after_append walk (x ∷ xs) ys = after_append (after walk x) xs ys

pub strings_append : (around : Bool) (xs ys : List Tree) → strings_inside_all around (trees_of (xs ++ ys)) ≡ strings_inside_all around (trees_of xs) ++ strings_inside_all around (trees_of ys)
unfolding strings_inside
strings_append around [] ys = refl
strings_append around (x ∷ xs) ys =
    ap (λ more. strings_inside around x ++ more) (strings_append around xs ys)
    ∙ sym (append_assoc (strings_inside around x) (strings_inside_all around (trees_of xs)) (strings_inside_all around (trees_of ys)))

abbrev made : ℕ → Option ℕ → Option ℕ → StringWalk
made phrases past_at bad_at = record { phrases = phrases; past_at = past_at; bad_at = bad_at }

-- where the phrases are too many, the place stays
past_stays : (n at : ℕ) (bad : Option ℕ) (strings : List Written) → (after_all (made n (Some at) bad) strings).past_at ≡ Some at
unfolding after_all
past_stays n at bad [] = refl
past_stays n at bad (s ∷ rest) = past_stays n at (bad_after bad (is_bad s) s.string.at) rest

past_next : (n p at : ℕ) (bad after_bad : Option ℕ) (rest : List Written) (is_past : Bool) → ((m : ℕ) (b : Option ℕ) → (after_all (made m None b) rest).past_at ≡ phrases_past m rest)
    → (after_all (record (cond is_past (made n (Some at) bad) (made (n + p) None bad)) { bad_at = after_bad }) rest).past_at ≡ cond is_past (Some at) (phrases_past (n + p) rest)
past_next n p at bad after_bad rest true further = past_stays n at after_bad rest
past_next n p at bad after_bad rest false further = further (n + p) after_bad

pub past_walked : (n : ℕ) (bad : Option ℕ) (strings : List Written) → (after_all (made n None bad) strings).past_at ≡ phrases_past n strings
unfolding after_all
past_walked n bad [] = refl
past_walked n bad (s ∷ rest) = past_next n (phrases_of s) s.string.at bad (bad_after bad (is_bad s) s.string.at) rest (ltb max_phrases (n + phrases_of s)) (λ m b. past_walked m b rest)

bad_next : (bad : Option ℕ) (s : Written) (rest : List Written) (bad_here : Bool)
    → earlier itself (bad_after bad bad_here s.string.at) (least_place (map (λ w. w.string.at) rest)) ≡ earlier itself bad (least_place (map (λ (w : Written). w.string.at) (cond bad_here (s ∷ rest) rest)))
bad_next bad s rest true = earlier_groups itself bad (Some s.string.at) (least_place (map (λ w. w.string.at) rest))
bad_next bad s rest false = refl

pub bad_walked : (walk : StringWalk) (strings : List Written) → (after_all walk strings).bad_at ≡ earlier itself walk.bad_at (least_place (bad_wildcards strings))
unfolding after_all
bad_walked walk [] = sym (earlier_none itself walk.bad_at)
bad_walked walk (s ∷ rest) = bad_walked (after walk s) rest ∙ bad_next walk.bad_at s (filter is_bad rest) (is_bad s)

-- one more string
pub walk_next : {X : Type 0} (walk : StringWalk) (made : X → List Written) (strings : List X → List Written) → ((xs : List X) (x : X) → strings (xs ++ x ∷ []) ≡ strings xs ++ made x)
    → (xs : List X) (i : ℕ) (x : X) → i < length xs → after_all (after_all walk (strings (take i xs))) (made (get_or xs i x)) ≡ after_all walk (strings (take (i + 1) xs))
walk_next walk each strings one_more xs i x h =
    sym (ap (λ ys. after_all walk (strings ys)) (take_more xs i x h)
    ∙ ap (after_all walk) (one_more (take i xs) (get_or xs i x))
    ∙ after_append walk (strings (take i xs)) (each (get_or xs i x)))
