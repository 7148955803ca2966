-- Symbols that are added one after the other.
use Rattle.std.proofs.Common.{◌≡◌, ℕ, ◌+◌, ◌<◌, ◌≤◌, List, [], ◌∷◌, ◌++◌, length, get_or, take, map, refl, sym, ap, ◌∙◌, append-nil, append_assoc}
use Rattle.std.specs.Prelude.{flat_map, ◌||◌, if◌then◌else◌}
use Rattle.std.proofs.lemmas.List.{take_more, take_all, map_more}
use Rattle.std.proofs.lemmas.List.Concat.{flat_map-append}
use Rattle.ft_syntax.specs.Spacing.{Symbol, closes, gap, set_out}
use Rattle.ft_syntax.specs.steps.Page.{Page, empty_page, put, put_all}

pub put_all_append : (page : Page) (xs ys : List Symbol) → put_all page (xs ++ ys) ≡ put_all (put_all page xs) ys
put_all_append page [] ys = refl
put_all_append page (x ∷ xs) ys = put_all_append (put page x) xs ys

-- symbols between two others
pub in_brackets : (page opened filled closed : Page) (left right : Symbol) (symbols : List Symbol) → opened ≡ put page left → filled ≡ put_all opened symbols → closed ≡ put filled right → closed ≡ put_all page (left ∷ symbols ++ right ∷ [])
in_brackets page opened filled closed left right symbols first inside last =
    last ∙ ap (λ p. put p right) (inside ∙ ap (λ p. put_all p symbols) first) ∙ sym (put_all_append (put page left) symbols (right ∷ []))

-- one more symbol of a list, and the symbols of one more item
pub put_map_more : {X : Type 0} (page : Page) (f : X → Symbol) (xs : List X) (i : ℕ) (x : X) → i < length xs → put_all page (map f (take (i + 1) xs)) ≡ put (put_all page (map f (take i xs))) (f (get_or xs i x))
put_map_more page f xs i x h =
    ap (put_all page) (map_more f xs i x h)
    ∙ put_all_append page (map f (take i xs)) (f (get_or xs i x) ∷ [])

pub put_flat_map_more : {X : Type 0} (page : Page) (f : X → List Symbol) (xs : List X) (i : ℕ) (x : X) → i < length xs → put_all page (flat_map f (take (i + 1) xs)) ≡ put_all (put_all page (flat_map f (take i xs))) (f (get_or xs i x))
put_flat_map_more page f xs i x h =
    ap (λ ys. put_all page (flat_map f ys)) (take_more xs i x h)
    ∙ ap (put_all page) (flat_map-append f (take i xs) (get_or xs i x ∷ []) ∙ ap (λ ys. flat_map f (take i xs) ++ ys) (append-nil (f (get_or xs i x))))
    ∙ put_all_append page (flat_map f (take i xs)) (f (get_or xs i x))

-- the same for a loop over the list: what stands on the page before and after its next item
pub next_symbol : {X : Type 0} (start page new : Page) (f : X → Symbol) (xs : List X) (i : ℕ) (x : X) → page ≡ put_all start (map f (take i xs)) → new ≡ put page (f (get_or xs i x)) → i < length xs → new ≡ put_all start (map f (take (i + 1) xs))
next_symbol start page new f xs i x known added h = added ∙ ap (λ p. put p (f (get_or xs i x))) known ∙ sym (put_map_more start f xs i x h)

pub next_item : {X : Type 0} (start page new : Page) (f : X → List Symbol) (xs : List X) (i : ℕ) (x : X) → page ≡ put_all start (flat_map f (take i xs)) → new ≡ put_all page (f x) → x ≡ get_or xs i x → i < length xs → new ≡ put_all start (flat_map f (take (i + 1) xs))
next_item start page new f xs i x known added there h =
    added ∙ ap (λ y. put_all page (f y)) there ∙ ap (λ p. put_all p (f (get_or xs i x))) known ∙ sym (put_flat_map_more start f xs i x h)

-- a first item and then all others
pub all_items : {X : Type 0} (start begun page : Page) (head : List Symbol) (f : X → List Symbol) (rest : List X) (i : ℕ) → begun ≡ put_all start head → page ≡ put_all begun (flat_map f (take i rest)) → length rest ≤ i → page ≡ put_all start (head ++ flat_map f rest)
all_items start begun page head f rest i first known h =
    known ∙ ap (λ xs. put_all begun (flat_map f xs)) (take_all i rest h) ∙ ap (λ p. put_all p (flat_map f rest)) first ∙ sym (put_all_append start head (flat_map f rest))

-- the text of symbols on a page
text_after : (page : Page) (symbol : Symbol) (rest : List Symbol) → (put_all page (symbol ∷ rest)).text ≡ page.text ++ (if page.is_open || closes symbol then [] else 32 ∷ []) ++ set_out (symbol ∷ rest)
unfolding put set_out
text_after page symbol [] = refl
text_after page symbol (next ∷ rest) =
    text_after (put page symbol) next rest
    ∙ regroup page.text (if page.is_open || closes symbol then [] else 32 ∷ []) symbol (gap symbol next) (set_out (next ∷ rest))
  where
    regroup : (a b c d e : List ℕ) → ((a ++ b) ++ c) ++ d ++ e ≡ (a ++ b) ++ ((c ++ d) ++ e)
    regroup a b c d e = simp append_assoc

pub text_of_page : (symbols : List Symbol) → (put_all empty_page symbols).text ≡ set_out symbols
unfolding set_out
text_of_page [] = refl
text_of_page (symbol ∷ rest) = text_after empty_page symbol rest
