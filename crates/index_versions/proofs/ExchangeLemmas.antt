-- Documents in the order of their numbers, where one goes, comes, or is exchanged: where it stands, what the list means
-- then, and how many documents have an id.
use Rattle.std.proofs.Common.{◌≡◌, ℕ, ◌<◌, ◌≤◌, ◌+◌, zero, suc, Bool, true, false, ◌||◌, ◌⊎◌, ◌==◌, cond, not, List, [], ◌∷◌, ◌++◌, length, drop, set, get_or, Option, Some, None, refl, ap, sym, subst, ◌∙◌, arith, true≢false, inl, inr, length-append}
use Rattle.std.specs.Prelude.{nat_lt, slice_get, filter, insert, remove, IfSome}
use Rattle.std.specs.Option.{option_map_or}
use Rattle.std.proofs.Math.Seq.{take-append_seam, drop-append_seam, set-append_seam, get_or-append_seam}
use Rattle.std.proofs.lemmas.Bool.{or_cases, or_left, or_right, or_from, cases_order, lt-ltb, le-ltb, eq-eqb, ne_eqb, eqb-true, cond-true, cond-false}
use Rattle.std.proofs.lemmas.List.{map-append}
use Rattle.std.proofs.lemmas.List.Sums.{length-filter, sum_by-append}
use Rattle.ft_base.specs.Places.{is_ascending}
use Rattle.index_document.specs.Terms.{has}
use Rattle.ft_base.proofs.PlacesLemmas.{rest-ascending}
use Rattle.index_document.proofs.TermLemmas.{first-below, ascending-cons, has-head, has-append}
use Rattle.index_cursors.specs.SpanHits.{below}
use Rattle.index_meaning.specs.Entries.{Entry}
use Rattle.index_meaning.specs.Documents.{numbered, with_document, without_document}
use Rattle.index_versions.specs.steps.Held.{Held, document_under, numbered_under, documents_under, numbers, held_ids, documents_with, held_at, nothing_held, listed}
use Rattle.index_versions.specs.steps.Exchange.{held_before, of_number, in_back, exchanged}

-- ---- a first document of a smaller number, of this one, or of a greater one

module _ (id : ℕ) (h : Held) (hs : List Held) where
  prefix_less : h.index.doc < id → held_before id (h ∷ hs) ≡ h ∷ held_before id hs
  prefix_less less = cond-true (nat_lt h.index.doc id) (h ∷ held_before id hs) (held_before id hs) (lt-ltb h.index.doc id less)

  prefix_else : id ≤ h.index.doc → held_before id (h ∷ hs) ≡ held_before id hs
  prefix_else le = cond-false (nat_lt h.index.doc id) (h ∷ held_before id hs) (held_before id hs) (le-ltb h.index.doc id le)

  number_same : h.index.doc ≡ id → of_number id (h ∷ hs) ≡ h ∷ of_number id hs
  number_same same = cond-true (h.index.doc == id) (h ∷ of_number id hs) (of_number id hs) (eq-eqb h.index.doc id same)

  number_else : (h.index.doc ≡ id → ⊥) → of_number id (h ∷ hs) ≡ of_number id hs
  number_else other = cond-false (h.index.doc == id) (h ∷ of_number id hs) (of_number id hs) (ne_eqb h.index.doc id other)

  back_more : id < h.index.doc → in_back id (h ∷ hs) ≡ h ∷ in_back id hs
  back_more more = cond-true (nat_lt id h.index.doc) (h ∷ in_back id hs) (in_back id hs) (lt-ltb id h.index.doc more)

  back_else : h.index.doc ≤ id → in_back id (h ∷ hs) ≡ in_back id hs
  back_else le = cond-false (nat_lt id h.index.doc) (h ∷ in_back id hs) (in_back id hs) (le-ltb id h.index.doc le)

-- where all have greater numbers
record Above (id : ℕ) (hs : List Held) : Type 0 where
  prefix : held_before id hs ≡ []
  number : of_number id hs ≡ []
  back : in_back id hs ≡ hs
  none : has id (numbers hs) ≡ false
  found : held_at id hs ≡ nothing_held id

above : (id : ℕ) (hs : List Held) → ((n : ℕ) → has n (numbers hs) ≡ true → id < n) → Above id hs
above id [] greater = record { prefix = refl; number = refl; back = refl; none = refl; found = refl }
above id (h ∷ hs) greater =
    let first : id < h.index.doc = greater h.index.doc (has-head h.index.doc h.index.doc (numbers hs) refl) in
    let rest = above id hs (λ n there. greater n (or_more n there)) in
    record {
      prefix = prefix_else id h hs (omega arith) ∙ rest.prefix;
      number = number_else id h hs (λ same. omega (arith, same)) ∙ rest.number;
      back = back_more id h hs first ∙ ap (λ xs. h ∷ xs) rest.back;
      none = or_from (h.index.doc == id) (has id (numbers hs)) (ne_eqb h.index.doc id (λ same. omega (arith, same))) rest.none;
      found = cond-false (h.index.doc == id) h (held_at id hs) (ne_eqb h.index.doc id (λ same. omega (arith, same))) ∙ rest.found;
    }
  where
    or_more : (n : ℕ) → has n (numbers hs) ≡ true → has n (numbers (h ∷ hs)) ≡ true
    or_more n there = or_right (h.index.doc == n) (has n (numbers hs)) there

-- ---- where the document of a number stands

abbrev pub stands : ℕ → List Held → ℕ → Bool
stands id hs at = option_map_or (λ (n : ℕ). n == id) (slice_get (numbers hs) at) false

pub record Absent (id : ℕ) (hs : List Held) : Type 0 where
  pub number : of_number id hs ≡ []
  pub list : hs ≡ held_before id hs ++ in_back id hs
  pub test : stands id hs (length (held_before id hs)) ≡ false
  pub none : has id (numbers hs) ≡ false
  pub found : held_at id hs ≡ nothing_held id

pub record Present (id : ℕ) (hs : List Held) : Type 0 where
  pub held : Held
  pub number : of_number id hs ≡ held ∷ []
  pub list : hs ≡ held_before id hs ++ held ∷ in_back id hs
  pub test : stands id hs (length (held_before id hs)) ≡ true
  pub there : has id (numbers hs) ≡ true
  pub found : held_at id hs ≡ held

pub where_is : (id : ℕ) (hs : List Held) → is_ascending (numbers hs) ≡ true → Absent id hs ⊎ Present id hs
where_is id [] up = inl (record { number = refl; list = refl; test = refl; none = refl; found = refl })
where_is id (h ∷ hs) up = elim (cases_order h.index.doc id) [
  | inl same ↦
      let rest = above id hs (λ n there. subst (λ k. k < n) same (first-below h.index.doc (numbers hs) up n there)) in
      let prefix = prefix_else id h hs (omega (arith, same)) ∙ rest.prefix in
      let back = back_else id h hs (omega (arith, same)) ∙ rest.back in
      inr (record {
        held = h;
        number = number_same id h hs same ∙ ap (λ xs. h ∷ xs) rest.number;
        list = sym (λ i. prefix i ++ h ∷ back i);
        test = ap (λ xs. stands id (h ∷ hs) (length xs)) prefix ∙ eq-eqb h.index.doc id same;
        there = or_left (h.index.doc == id) (has id (numbers hs)) (eq-eqb h.index.doc id same);
        found = cond-true (h.index.doc == id) h (held_at id hs) (eq-eqb h.index.doc id same);
      })
  | inr apart ↦ elim apart [
    | inl less ↦
        let prefix = prefix_less id h hs less in
        let number = number_else id h hs (λ same. omega (arith, same)) in
        let back = back_else id h hs (omega arith) in
        elim (where_is id hs (rest-ascending h.index.doc (numbers hs) up)) [
          | inl rest ↦ inl (record {
            number = number ∙ rest.number;
            list = ap (λ xs. h ∷ xs) rest.list ∙ sym (λ i. prefix i ++ back i);
            test = ap (λ xs. stands id (h ∷ hs) (length xs)) prefix ∙ rest.test;
            none = or_from (h.index.doc == id) (has id (numbers hs)) (other less) rest.none;
            found = cond-false (h.index.doc == id) h (held_at id hs) (other less) ∙ rest.found;
          })
          | inr rest ↦ inr (record {
            held = rest.held;
            number = number ∙ rest.number;
            list = ap (λ xs. h ∷ xs) rest.list ∙ sym (λ i. prefix i ++ rest.held ∷ back i);
            test = ap (λ xs. stands id (h ∷ hs) (length xs)) prefix ∙ rest.test;
            there = or_right (h.index.doc == id) (has id (numbers hs)) rest.there;
            found = cond-false (h.index.doc == id) h (held_at id hs) (other less) ∙ rest.found;
          })
        ]
    | inr greater ↦
        let rest = above id hs (λ n there. omega (arith, greater, first-below h.index.doc (numbers hs) up n there)) in
        let prefix = prefix_else id h hs (omega arith) ∙ rest.prefix in
        let back = back_more id h hs greater ∙ ap (λ xs. h ∷ xs) rest.back in
        inl (record {
          number = number_else id h hs (λ same. omega (arith, same)) ∙ rest.number;
          list = sym (λ i. prefix i ++ back i);
          test = ap (λ xs. stands id (h ∷ hs) (length xs)) prefix ∙ ne_eqb h.index.doc id (λ same. omega (arith, same));
          none = or_from (h.index.doc == id) (has id (numbers hs)) (ne_eqb h.index.doc id (λ same. omega (arith, same))) rest.none;
          found = cond-false (h.index.doc == id) h (held_at id hs) (ne_eqb h.index.doc id (λ same. omega (arith, same))) ∙ rest.found;
        })
  ]
]
  where
    other : h.index.doc < id → (h.index.doc == id) ≡ false
    other less = ne_eqb h.index.doc id (λ same. omega (arith, same))

length_prefix : (id : ℕ) (hs : List Held) → length (filter (λ n. nat_lt n id) (numbers hs)) ≡ length (held_before id hs)
length_prefix id [] = refl
length_prefix id (h ∷ hs) =
    elim (nat_lt h.index.doc id) as (λ b. length (cond b (h.index.doc ∷ filter (λ n. nat_lt n id) (numbers hs)) (filter (λ n. nat_lt n id) (numbers hs)))
    ≡ length (cond b (h ∷ held_before id hs) (held_before id hs))) [
      | true ↦ ap suc (length_prefix id hs)
      | false ↦ length_prefix id hs
    ]

pub place_is : (id at : ℕ) (hs : List Held) → at ≡ below id (numbers hs) → at ≡ length (held_before id hs)
place_is id at hs is = is ∙ sym (length-filter (λ n. nat_lt n id) (numbers hs)) ∙ length_prefix id hs

-- ---- the document of a number is found

pub stands_has : (id at : ℕ) (hs : List Held) → is_ascending (numbers hs) ≡ true → at ≡ below id (numbers hs) → stands id hs at ≡ has id (numbers hs)
stands_has id at hs up place = ap (stands id hs) (place_is id at hs place) ∙ elim (where_is id hs up) [
  | inl none ↦ none.test ∙ sym none.none
  | inr there ↦ there.test ∙ sym there.there
]

pub none_held : (id : ℕ) (hs : List Held) → is_ascending (numbers hs) ≡ true → has id (numbers hs) ≡ false → held_at id hs ≡ nothing_held id
none_held id hs up fails = elim (where_is id hs up) [
  | inl none ↦ none.found
  | inr there ↦ absurd (true≢false (sym there.there ∙ fails))
]

-- ---- what the list becomes

module _ (id at : ℕ) (hs : List Held) (b : Bool) (up : is_ascending (numbers hs) ≡ true) (place : at ≡ below id (numbers hs)) (test : b ≡ stands id hs at) where
  at_prefix : at ≡ length (held_before id hs)
  at_prefix = place_is id at hs place

  pub absent : b ≡ false → Absent id hs
  absent fails = elim (where_is id hs up) [
    | inl none ↦ none
    | inr there ↦ absurd (true≢false (sym there.test ∙ ap (stands id hs) (sym at_prefix) ∙ sym test ∙ fails))
  ]

  pub present : b ≡ true → Present id hs
  present holds = elim (where_is id hs up) [
    | inl none ↦ absurd (true≢false (sym holds ∙ test ∙ ap (stands id hs) at_prefix ∙ none.test))
    | inr there ↦ there
  ]

  pub inserted : (new : Held) → b ≡ false → insert hs at new ≡ exchanged id (new ∷ []) hs
  inserted new fails =
      let prefix = held_before id hs in
      let back = in_back id hs in
      (λ i. insert ((absent fails).list i) (at_prefix i) new)
      ∙ (λ i. take-append_seam prefix back i ++ new ∷ drop-append_seam prefix back i)

  pub nothing_taken : b ≡ false → hs ≡ exchanged id [] hs
  nothing_taken fails = (absent fails).list

  pub within : b ≡ true → at < length hs
  within holds =
      let there = present holds in
      omega (arith, at_prefix, ap length there.list, length-append (held_before id hs) (there.held ∷ in_back id hs))

  pub read : (d : Held) (holds : b ≡ true) → get_or hs at d ≡ (present holds).held
  read d holds =
      let there = present holds in
      (λ i. get_or (there.list i) (at_prefix i) d) ∙ get_or-append_seam (held_before id hs) there.held (in_back id hs) d

  pub read_held : (d : Held) → b ≡ true → get_or hs at d ≡ held_at id hs
  read_held d holds = read d holds ∙ sym ((present holds).found)

  pub replaced : (new : Held) → b ≡ true → set hs at new ≡ exchanged id (new ∷ []) hs
  replaced new holds =
      let there = present holds in
      (λ i. set (there.list i) (at_prefix i) new) ∙ set-append_seam (held_before id hs) there.held (in_back id hs) new

  pub removed : b ≡ true → remove hs at ≡ exchanged id [] hs
  removed holds =
      let there = present holds in
      let prefix = held_before id hs in
      (λ i. remove (there.list i) (at_prefix i)) ∙ (λ i. take-append_seam prefix (there.held ∷ in_back id hs) i ++ after prefix there.held (in_back id hs) i)
    where
      after : (xs : List Held) (x : Held) (ys : List Held) → drop (suc (length xs)) (xs ++ x ∷ ys) ≡ ys
      after [] x ys = refl
      after (y ∷ xs) x ys = after xs x ys

-- ---- the numbers still ascend

filtered : (p : Held → Bool) (n : ℕ) (hs : List Held) → has n (numbers (filter p hs)) ≡ true → has n (numbers hs) ≡ true
filtered p n [] there = there
filtered p n (h ∷ hs) there =
    elim (p h) as (λ b. has n (numbers (cond b (h ∷ filter p hs) (filter p hs))) ≡ true → has n (numbers (h ∷ hs)) ≡ true) [
      | true ↦ λ t. elim (or_cases (h.index.doc == n) (has n (numbers (filter p hs))) t) [
        | inl here ↦ or_left (h.index.doc == n) (has n (numbers hs)) here
        | inr further ↦ or_right (h.index.doc == n) (has n (numbers hs)) (filtered p n hs further)
      ]
      | false ↦ λ t. or_right (h.index.doc == n) (has n (numbers hs)) (filtered p n hs t)
    ] there

-- the new document, if there is one, has that number
abbrev pub HasNumber : ℕ → Option Held → Type 0
HasNumber id new = IfSome new (λ h. h.index.doc ≡ id)

joined_has : (n : ℕ) (xs ys : List Held) → has n (numbers (xs ++ ys)) ≡ (has n (numbers xs) || has n (numbers ys))
joined_has n xs ys = ap (has n) (map-append (λ (h : Held). h.index.doc) xs ys) ∙ has-append n (numbers xs) (numbers ys)

listed_has : (id n : ℕ) (new : Option Held) → HasNumber id new → has n (numbers (listed new)) ≡ true → n ≡ id
listed_has id n None number there = absurd (true≢false (sym there))
listed_has id n (Some h) number there = elim (or_cases (h.index.doc == n) false there) [
  | inl here ↦ sym (eqb-true h.index.doc n here) ∙ number
  | inr further ↦ absurd (true≢false (sym further))
]

exchanged_has : (id n : ℕ) (new : Option Held) (hs : List Held) → HasNumber id new → has n (numbers (exchanged id (listed new) hs)) ≡ true → (n ≡ id) ⊎ (has n (numbers hs) ≡ true)
exchanged_has id n new hs number there =
    elim (or_cases (has n (numbers (held_before id hs))) (has n (numbers (listed new ++ in_back id hs))) (sym (joined_has n (held_before id hs) (listed new ++ in_back id hs)) ∙ there)) [
      | inl prefix ↦ inr (filtered (λ (h : Held). nat_lt h.index.doc id) n hs prefix)
      | inr later ↦ elim (or_cases (has n (numbers (listed new))) (has n (numbers (in_back id hs))) (sym (joined_has n (listed new) (in_back id hs)) ∙ later)) [
        | inl here ↦ inl (listed_has id n new number here)
        | inr back ↦ inr (filtered (λ (h : Held). nat_lt id h.index.doc) n hs back)
      ]
    ]

put_first : (id : ℕ) (new : Option Held) (hs : List Held) → HasNumber id new → ((n : ℕ) → has n (numbers hs) ≡ true → id < n) → is_ascending (numbers hs) ≡ true
    → is_ascending (numbers (listed new ++ hs)) ≡ true
put_first id None hs number greater up = up
put_first id (Some h) hs number greater up = ascending-cons h.index.doc (numbers hs) (λ n there. subst (λ k. k < n) (sym number) (greater n there)) up

pub ascending_exchanged : (id : ℕ) (new : Option Held) (hs : List Held) → HasNumber id new → is_ascending (numbers hs) ≡ true → is_ascending (numbers (exchanged id (listed new) hs)) ≡ true
ascending_exchanged id new [] number up = put_first id new [] number (λ n there. absurd (true≢false (sym there))) up
ascending_exchanged id new (h ∷ hs) number up = elim (cases_order h.index.doc id) [
  | inl same ↦
      let greater : (n : ℕ) → has n (numbers hs) ≡ true → id < n = λ n there. subst (λ k. k < n) same (first-below h.index.doc (numbers hs) up n there) in
      let rest = above id hs greater in
      let prefix = prefix_else id h hs (omega (arith, same)) ∙ rest.prefix in
      let back = back_else id h hs (omega (arith, same)) ∙ rest.back in
      (λ i. is_ascending (numbers (prefix i ++ (listed new ++ back i)))) ∙ put_first id new hs number greater (rest-ascending h.index.doc (numbers hs) up)
  | inr apart ↦ elim apart [
    | inl less ↦
        let prefix = prefix_less id h hs less in
        let back = back_else id h hs (omega arith) in
        (λ i. is_ascending (numbers (prefix i ++ (listed new ++ back i))))
        ∙ ascending-cons h.index.doc (numbers (exchanged id (listed new) hs))
        (λ n there. elim (exchanged_has id n new hs number there) [
          | inl is ↦ omega (arith, less, is)
          | inr before ↦ first-below h.index.doc (numbers hs) up n before
        ])
        (ascending_exchanged id new hs number (rest-ascending h.index.doc (numbers hs) up))
    | inr greater ↦
        let all : (n : ℕ) → has n (numbers (h ∷ hs)) ≡ true → id < n = λ n there. elim (or_cases (h.index.doc == n) (has n (numbers hs)) there) [
          | inl here ↦ omega (arith, greater, eqb-true h.index.doc n here)
          | inr further ↦ omega (arith, greater, first-below h.index.doc (numbers hs) up n further)
        ] in
        let rest = above id (h ∷ hs) all in
        (λ i. is_ascending (numbers (rest.prefix i ++ (listed new ++ rest.back i)))) ∙ put_first id new (h ∷ hs) number all up
  ]
]

-- ---- how many documents have an id

pub counts_exchanged : (id doc : ℕ) (new hs : List Held)
    → documents_with id (exchanged doc new hs) ≡ documents_with id (held_before doc hs) + (documents_with id new + documents_with id (in_back doc hs))
counts_exchanged id doc new hs =
    let one = λ (h : Held). cond (has id (held_ids h)) 1 0 in
    sum_by-append one (held_before doc hs) (new ++ in_back doc hs) ∙ ap (λ n. documents_with id (held_before doc hs) + n) (sum_by-append one new (in_back doc hs))

pub whole : (doc : ℕ) (hs : List Held) → is_ascending (numbers hs) ≡ true → hs ≡ exchanged doc (of_number doc hs) hs
whole doc hs up = elim (where_is doc hs up) [
  | inl none ↦ none.list ∙ ap (λ xs. held_before doc hs ++ (xs ++ in_back doc hs)) (sym none.number)
  | inr there ↦ there.list ∙ ap (λ xs. held_before doc hs ++ (xs ++ in_back doc hs)) (sym there.number)
]

-- ---- what the documents mean then

pub with_under : (given : List Entry) (id : ℕ) (new : Held) (hs : List Held) → new.index.doc ≡ id → is_ascending (numbers hs) ≡ true
    → documents_under given (exchanged id (new ∷ []) hs) ≡ with_document (numbered id (document_under given new)) (documents_under given hs)
with_under given id new [] number up = ap (λ n. numbered n (document_under given new) ∷ []) number
with_under given id new (h ∷ hs) number up =
    let mean = numbered id (document_under given new) in
    let rest_mean = documents_under given hs in
    let head : numbered_under given new ≡ mean = ap (λ n. numbered n (document_under given new)) number in
    let first = nat_lt id h.index.doc in
    let step = λ (b c : Bool). cond b (mean ∷ numbered_under given h ∷ rest_mean) (cond c (mean ∷ rest_mean) (numbered_under given h ∷ with_document mean rest_mean)) in
    elim (cases_order h.index.doc id) [
      | inl same ↦
          let rest = above id hs (λ n there. subst (λ k. k < n) same (first-below h.index.doc (numbers hs) up n there)) in
          let prefix = prefix_else id h hs (omega (arith, same)) ∙ rest.prefix in
          let back = back_else id h hs (omega (arith, same)) ∙ rest.back in
          (λ i. documents_under given (prefix i ++ new ∷ back i))
          ∙ ap (λ m. m ∷ rest_mean) head
          ∙ sym (λ i. step (le-ltb id h.index.doc (omega (arith, same)) i) (eq-eqb id h.index.doc (sym same) i))
      | inr apart ↦ elim apart [
        | inl less ↦
            let prefix = prefix_less id h hs less in
            let back = back_else id h hs (omega arith) in
            (λ i. documents_under given (prefix i ++ new ∷ back i))
            ∙ ap (λ ms. numbered_under given h ∷ ms) (with_under given id new hs number (rest-ascending h.index.doc (numbers hs) up))
            ∙ sym (λ i. step (le-ltb id h.index.doc (omega arith) i) (ne_eqb id h.index.doc (λ same. omega (arith, same)) i))
        | inr greater ↦
            let all : (n : ℕ) → has n (numbers (h ∷ hs)) ≡ true → id < n = λ n there. elim (or_cases (h.index.doc == n) (has n (numbers hs)) there) [
              | inl here ↦ omega (arith, greater, eqb-true h.index.doc n here)
              | inr further ↦ omega (arith, greater, first-below h.index.doc (numbers hs) up n further)
            ] in
            let rest = above id (h ∷ hs) all in
            (λ i. documents_under given (rest.prefix i ++ new ∷ rest.back i))
            ∙ ap (λ m. m ∷ numbered_under given h ∷ rest_mean) head
            ∙ sym (λ i. step (lt-ltb id h.index.doc greater i) (id == h.index.doc))
      ]
    ]

pub without_under : (given : List Entry) (id : ℕ) (hs : List Held) → is_ascending (numbers hs) ≡ true
    → documents_under given (exchanged id [] hs) ≡ without_document id (documents_under given hs)
without_under given id [] up = refl
without_under given id (h ∷ hs) up =
    let rest_mean = without_document id (documents_under given hs) in
    let step = λ (b : Bool). cond (not b) (numbered_under given h ∷ rest_mean) rest_mean in
    let more = without_under given id hs (rest-ascending h.index.doc (numbers hs) up) in
    elim (cases_order h.index.doc id) [
      | inl same ↦
          (λ i. documents_under given (prefix_else id h hs (omega (arith, same)) i ++ back_else id h hs (omega (arith, same)) i))
          ∙ more ∙ sym (ap step (eq-eqb h.index.doc id same))
      | inr apart ↦ elim apart [
        | inl less ↦
            (λ i. documents_under given (prefix_less id h hs less i ++ back_else id h hs (omega arith) i))
            ∙ ap (λ ms. numbered_under given h ∷ ms) more ∙ sym (ap step (ne_eqb h.index.doc id (λ same. omega (arith, same))))
        | inr greater ↦
            let rest = above id hs (λ n there. omega (arith, greater, first-below h.index.doc (numbers hs) up n there)) in
            (λ i. documents_under given (prefix_else id h hs (omega arith) i ++ back_more id h hs greater i))
            ∙ (λ i. documents_under given (rest.prefix i ++ h ∷ in_back id hs))
            ∙ ap (λ ms. numbered_under given h ∷ ms) (sym (λ i. documents_under given (rest.prefix i ++ in_back id hs)) ∙ more)
            ∙ sym (ap step (ne_eqb h.index.doc id (λ same. omega (arith, same))))
      ]
    ]

-- ---- a document that is read

pub number_at : (hs : List Held) (k : ℕ) (h : Held) → k < length hs → h ≡ get_or hs k h → get_or (numbers hs) k 0 ≡ h.index.doc
number_at [] k h within is = absurd (omega arith)
number_at (g ∷ hs) zero h within is = ap (λ (x : Held). x.index.doc) (sym is)
number_at (g ∷ hs) (suc k) h within is = number_at hs k h (omega arith) is
