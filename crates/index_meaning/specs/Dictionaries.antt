-- What a dictionary has: entries in order, each under an id that names it for ever.
use Rattle.std.specs.Prelude.{ℕ, Bool, true, cond, not, nat_lt, ◌&&◌, ◌==◌, List, [], ◌∷◌, ◌++◌, length, filter, map, Option, Some, None}
use Rattle.std.specs.List.{list_all}
use Rattle.std.specs.Ordering.{is_eq}
use Rattle.index_meaning.specs.Entries.{Entry, entry_cmp, by_order, has_entry, stands_at}

-- an entry, and its id
pub record Term : Type 0 where
  pub entry : Entry
  pub id : ℕ

abbrev pub term : Entry → ℕ → Term
term e id = record { entry = e; id = id }

-- the terms, and the entries that ever came in, in the order in which they did: the id of an entry is its place among these, from 0
pub record Dictionary : Type 0 where
  pub terms : List Term
  pub given : List Entry

abbrev pub dictionary : List Term → List Entry → Dictionary
dictionary terms given = record { terms = terms; given = given }

abbrev pub entries : List Term → List Entry
entries terms = map (λ t. t.entry) terms

abbrev pub ids : List Term → List ℕ
ids terms = map (λ t. t.id) terms

-- whether no two of these have the same id
abbrev pub are_apart : List Term → Bool
are_apart [] = true
are_apart (t ∷ rest) = list_all (λ u. not (t.id == u.id)) rest && are_apart rest

-- whether all ids are below this one
abbrev pub ids_below : ℕ → List Term → Bool
ids_below next terms = list_all (λ t. nat_lt t.id next) terms

-- whether the id of each term names its entry among those that came in
abbrev pub are_given : List Entry → List Term → Bool
are_given given terms = list_all (λ t. stands_at t.entry t.id given) terms

-- the id of the entry, if it is there
abbrev pub id_of : Entry → List Term → Option ℕ
id_of e [] = None
id_of e (t ∷ rest) = cond (is_eq (entry_cmp e t.entry)) (Some t.id) (id_of e rest)

-- the terms with one more, at its place in the order; nothing changes where its entry is there
abbrev pub with_term : Term → List Term → List Term
with_term t [] = t ∷ []
with_term t (u ∷ rest) = by_order (entry_cmp t.entry u.entry) (t ∷ u ∷ rest) (u ∷ rest) (u ∷ with_term t rest)

-- the dictionary with one more entry, which gets an id that none had before; nothing changes where it is there
abbrev pub with_new : Entry → Dictionary → Dictionary
with_new e d = cond (has_entry e (entries d.terms)) d (dictionary (with_term (term e (length d.given)) d.terms) (d.given ++ e ∷ []))

-- the same for each of the new entries, one after the other
abbrev pub with_all_new : List Entry → Dictionary → Dictionary
with_all_new [] d = d
with_all_new (e ∷ new) d = with_all_new new (with_new e d)

-- the dictionary without this entry, which its id still names; it gets another one where it comes again
abbrev pub without_term : Entry → Dictionary → Dictionary
without_term e d = dictionary (filter (λ t. not (is_eq (entry_cmp e t.entry))) d.terms) d.given
