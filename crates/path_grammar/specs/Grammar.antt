-- The grammar of paths over symbols with their places: which symbols spell which path (XQuery 3.0, section 3.3; the part of its
-- grammar that is read here). The selections inside are numbered in the order of the text: a relation with a number n before
-- numbers its own from n on, and its last part is the list of them, each with its symbols.
use Rattle.std.specs.Prelude.{ℕ, ◌+◌, Bool, true, false, List, [], ◌∷◌, ◌++◌, length, Some, None, codes}
use Rattle.selection_grammar.specs.declared.symbol.Placed.{Placed}
use Rattle.selection_grammar.specs.declared.symbol.Symbol.TheVariants as S
use Rattle.selection_grammar.specs.Grammar.{Spot, at, name, string, Selection}
use Rattle.selection_grammar.specs.Tree.{Tree}
use Rattle.path_grammar.specs.declared.path.NameTest.{NameTest}
use Rattle.path_grammar.specs.declared.path.NameTest.TheVariants as T
use Rattle.path_grammar.specs.declared.path.PathRoot.{PathRoot}
use Rattle.path_grammar.specs.declared.path.PathRoot.TheVariants as R
use Rattle.path_grammar.specs.Form as form
use Rattle.path_grammar.specs.Form.{steps, predicates, paths, no_paths, joined, or_of, and_of}

-- a selection inside a path, with its symbols
pub record Inside : Type 0 where
  pub symbols : List Placed
  pub tree : Tree

abbrev pub inside : List Placed → Tree → Inside
inside symbols tree = record { symbols = symbols; tree = tree }

-- the places of the first of some symbols, and after the last
abbrev pub begins_at : List Placed → ℕ
begins_at [] = 0
begins_at (p ∷ rest) = p.from

abbrev pub ends_at : List Placed → ℕ
ends_at [] = 0
ends_at (p ∷ []) = p.to
ends_at (p ∷ next ∷ rest) = ends_at (next ∷ rest)

-- Root ::= "collection" "(" ")" | "doc" "(" String ")"
pub data Root : List Placed → PathRoot → Type 0 where
  collection : (p q r : Spot) → Root (name p (codes "collection") ∷ at q S.OpenParenthesis ∷ at r S.CloseParenthesis ∷ []) R.Collection
  doc : (p q r t : Spot) (s : List ℕ) → Root (name p (codes "doc") ∷ at q S.OpenParenthesis ∷ string r s ∷ at t S.CloseParenthesis ∷ []) (R.Doc s)

-- "/" | "//"
pub data Slashes : List Placed → Bool → Type 0 where
  child : (p : Spot) → Slashes (at p S.Slash ∷ []) false
  deep : (p : Spot) → Slashes (at p S.DoubleSlash ∷ []) true

-- Test ::= Name | "*"
pub data Test : List Placed → NameTest → Type 0 where
  named : (p : Spot) (s : List ℕ) → Test (name p s ∷ []) (T.Name s)
  any : (p : Spot) → Test (at p S.Star ∷ []) T.Any

mutual
  -- Step ::= ("/" | "//") Test Pred*
  pub data Step : ℕ → List Placed → form.Step → List Inside → Type 0 where
    step : {n : ℕ} {u v w : List Placed} {deep : Bool} {test : NameTest} {ps : List form.Predicate} {ss : List Inside}
        → Slashes u deep → Test v test → Predicates n w ps ss → Step n (u ++ v ++ w) (form.step deep test (predicates ps)) ss

  -- Step*
  pub data Steps : ℕ → List Placed → List form.Step → List Inside → Type 0 where
    no_step : {n : ℕ} → Steps n [] [] []
    further_step : {n : ℕ} {u v : List Placed} {xs : List form.Step} {x : form.Step} {ss tt : List Inside}
        → Steps n u xs ss → Step (n + length ss) v x tt → Steps n (u ++ v) (xs ++ x ∷ []) (ss ++ tt)

  -- Pred ::= "[" ( Number | POr ) "]"
  pub data Predicate : ℕ → List Placed → form.Predicate → List Inside → Type 0 where
    number : {n : ℕ} (p q r : Spot) (k : ℕ) → Predicate n (at p S.OpenBracket ∷ at q (S.Number k) ∷ at r S.CloseBracket ∷ []) (form.number k) []
    holds : {n : ℕ} {u : List Placed} {xs : List form.Condition} {ss : List Inside} (p : Spot) → Ors n u xs ss → (q : Spot)
        → Predicate n (at p S.OpenBracket ∷ u ++ at q S.CloseBracket ∷ []) (form.holds (joined or_of xs)) ss

  -- Pred*
  pub data Predicates : ℕ → List Placed → List form.Predicate → List Inside → Type 0 where
    no_predicate : {n : ℕ} → Predicates n [] [] []
    further_predicate : {n : ℕ} {u v : List Placed} {xs : List form.Predicate} {x : form.Predicate} {ss tt : List Inside}
        → Predicates n u xs ss → Predicate (n + length ss) v x tt → Predicates n (u ++ v) (xs ++ x ∷ []) (ss ++ tt)

  -- POr ::= PAnd ("or" PAnd)*
  pub data Ors : ℕ → List Placed → List form.Condition → List Inside → Type 0 where
    first_or : {n : ℕ} {u : List Placed} {xs : List form.Condition} {ss : List Inside} → Ands n u xs ss → Ors n u (joined and_of xs ∷ []) ss
    further_or : {n : ℕ} {u v : List Placed} {xs ys : List form.Condition} {ss tt : List Inside}
        → Ors n u xs ss → (p : Spot) → Ands (n + length ss) v ys tt → Ors n (u ++ name p (codes "or") ∷ v) (xs ++ joined and_of ys ∷ []) (ss ++ tt)

  -- PAnd ::= PPrim ("and" PPrim)*
  pub data Ands : ℕ → List Placed → List form.Condition → List Inside → Type 0 where
    first_and : {n : ℕ} {u : List Placed} {x : form.Condition} {ss : List Inside} → Primary n u x ss → Ands n u (x ∷ []) ss
    further_and : {n : ℕ} {u v : List Placed} {xs : List form.Condition} {x : form.Condition} {ss tt : List Inside}
        → Ands n u xs ss → (p : Spot) → Primary (n + length ss) v x tt → Ands n (u ++ name p (codes "and") ∷ v) (xs ++ x ∷ []) (ss ++ tt)

  -- PPrim ::= "not" "(" POr ")" | "(" POr ")" | "@" Name ("=" String)? | Rel ("contains" "text" Selection ("without" "content" Rels)?)?
  pub data Primary : ℕ → List Placed → form.Condition → List Inside → Type 0 where
    negated : {n : ℕ} {u : List Placed} {xs : List form.Condition} {ss : List Inside} (p q : Spot) → Ors n u xs ss → (r : Spot)
        → Primary n (name p (codes "not") ∷ at q S.OpenParenthesis ∷ u ++ at r S.CloseParenthesis ∷ []) (form.not_of (joined or_of xs)) ss
    parentheses : {n : ℕ} {u : List Placed} {xs : List form.Condition} {ss : List Inside} (p : Spot) → Ors n u xs ss → (q : Spot)
        → Primary n (at p S.OpenParenthesis ∷ u ++ at q S.CloseParenthesis ∷ []) (joined or_of xs) ss
    attribute : {n : ℕ} (p q : Spot) (s : List ℕ) → Primary n (at p S.At ∷ name q s ∷ []) (form.attribute s None) []
    valued : {n : ℕ} (p q r t : Spot) (s value : List ℕ)
        → Primary n (at p S.At ∷ name q s ∷ at r S.Equals ∷ string t value ∷ []) (form.attribute s (Some value)) []
    exists : {n : ℕ} {u : List Placed} {xs : List form.Step} {ss : List Inside} → Rel n u xs ss → Primary n u (form.exists (steps xs)) ss
    contains : {n : ℕ} {u v : List Placed} {xs : List form.Step} {ss : List Inside} {x : Tree} → Rel n u xs ss → (p q : Spot) → Selection v x
        → Primary n (u ++ name p (codes "contains") ∷ name q (codes "text") ∷ v) (form.contains (steps xs) (n + length ss) no_paths) (ss ++ inside v x ∷ [])
    without : {n : ℕ} {u v w : List Placed} {xs : List form.Step} {ys : List form.Steps} {ss tt : List Inside} {x : Tree} → Rel n u xs ss → (p q : Spot) → Selection v x
        → (r t : Spot) → Rels (n + length (ss ++ inside v x ∷ [])) w ys tt
        → Primary n (u ++ name p (codes "contains") ∷ name q (codes "text") ∷ v ++ name r (codes "without") ∷ name t (codes "content") ∷ w)
        (form.contains (steps xs) (n + length ss) (paths ys)) (ss ++ inside v x ∷ [] ++ tt)

  -- Rels ::= Rel ("|" Rel)*
  pub data Rels : ℕ → List Placed → List form.Steps → List Inside → Type 0 where
    first_rel : {n : ℕ} {u : List Placed} {xs : List form.Step} {ss : List Inside} → Rel n u xs ss → Rels n u (steps xs ∷ []) ss
    further_rel : {n : ℕ} {u v : List Placed} {ys : List form.Steps} {xs : List form.Step} {ss tt : List Inside}
        → Rels n u ys ss → (p : Spot) → Rel (n + length ss) v xs tt → Rels n (u ++ at p S.VerticalBar ∷ v) (ys ++ steps xs ∷ []) (ss ++ tt)

  -- Rel ::= "." Step* | Test Pred* Step*
  pub data Rel : ℕ → List Placed → List form.Step → List Inside → Type 0 where
    itself : {n : ℕ} {u : List Placed} {xs : List form.Step} {ss : List Inside} (p : Spot) → Steps n u xs ss → Rel n (at p S.Period ∷ u) xs ss
    some_child : {n : ℕ} {u v w : List Placed} {test : NameTest} {ps : List form.Predicate} {xs : List form.Step} {ss tt : List Inside}
        → Test u test → Predicates n v ps ss → Steps (n + length ss) w xs tt → Rel n (u ++ v ++ w) (form.step false test (predicates ps) ∷ xs) (ss ++ tt)

-- Path ::= Root Step+, with its selections
pub data Path : List Placed → form.Path → List Inside → Type 0 where
  path : {u v w : List Placed} {root : PathRoot} {xs : List form.Step} {x : form.Step} {ss tt : List Inside}
      → Root u root → Steps 0 v xs ss → Step (length ss) w x tt → Path (u ++ v ++ w) (record { root = root; steps = steps (xs ++ x ∷ []) }) (ss ++ tt)

-- some further symbols make them a whole path
abbrev pub Begins : List Placed → Type 0
Begins symbols = (rest : List Placed) × (value : form.Path) × (selections : List Inside) × Path (symbols ++ rest) value selections
