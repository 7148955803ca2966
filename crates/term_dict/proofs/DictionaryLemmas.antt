-- What holds of a dictionary where a term comes in or goes out.
use Rattle.std.proofs.Common.{◌≡◌, ℕ, ◌+◌, ◌-◌, ◌<◌, ◌≤◌, ◌^◌, Bool, true, false, cond, List, [], ◌∷◌, ◌++◌, length, get_or, Some, None, ap, sym, subst, ◌∙◌, arith, inl, inr, length-append}
use Rattle.std.specs.Prelude.{insert, remove}
use Rattle.std.proofs.lemmas.Bool.{cases_Bool}
use Rattle.std.proofs.lemmas.List.{length-map}
use Rattle.std.proofs.lemmas.List.Edits.{length-insert, length-remove}
use Rattle.index_meaning.specs.Entries.{Entry, is_sorted, has_entry, stands_at, number_of, with_entry, key_count}
use Rattle.index_meaning.specs.Dictionaries.{Term, term, entries, Dictionary, dictionary, with_new, without_term, are_given}
use Rattle.term_dict.specs.Places.{count_before, brings_key}
use Rattle.term_dict.specs.Sound.{IsSound}
use Rattle.term_dict.specs.declared.places.Place.TheVariants.{AtEntry}
use Rattle.term_dict.proofs.OrderLemmas.{stands_there}
use Rattle.term_dict.proofs.RankLemmas.{rank_within, found_at, number_at}
use Rattle.term_dict.proofs.TermLemmas.{grown, put_at, take_at, none_taken, entries_with, entries_without, nothing_new, sorted_with, sorted_without, given_with, given_without}
use Rattle.term_dict.proofs.KeyLemmas.{keys_with, keys_fewer, insert_removed, entries_insert, entries_remove}

pub place_within : (e : Entry) (ts : List Term) → count_before AtEntry e (entries ts) ≤ length ts
place_within e ts = omega (arith, rank_within AtEntry e (entries ts), length-map ts (λ (t : Term). t.entry))

-- the term of the entry that stands at its place
pub at_place : (e : Entry) (n : ℕ) (ts : List Term) → stands_at e n (entries ts) ≡ true → (n < length ts) × (get_or (entries ts) n e ≡ e)
at_place e n ts h = let stands = stands_there e n (entries ts) h in (omega (arith, stands.0, length-map ts (λ (t : Term). t.entry)), stands.1)

-- what a test at its place says of an entry
pub known : (e : Entry) (ts : List Term) (n : ℕ) (b : Bool) → is_sorted (entries ts) ≡ true → n ≡ count_before AtEntry e (entries ts) → b ≡ stands_at e n (entries ts) → has_entry e (entries ts) ≡ b
known e ts n b sorted is shown = sym (found_at e (entries ts) sorted) ∙ ap (λ k. stands_at e k (entries ts)) (sym is) ∙ sym shown

pub told_number : (e : Entry) (es : List Entry) (n : ℕ) (b : Bool) → is_sorted es ≡ true → n ≡ count_before AtEntry e es → b ≡ stands_at e n es → cond b (Some n) None ≡ number_of e es
told_number e es n b sorted is shown =
    ap (λ c. cond c (Some n) None) shown ∙ ap (λ k. cond (stands_at e k es) (Some k) None) is ∙ sym (number_at e es sorted)

one_at_most : (b : Bool) → cond b 1 0 ≤ 1
one_at_most true = omega arith
one_at_most false = omega arith

pub keys_bounded : (ts : List Term) (keys brought : ℕ) (given : List Entry) (b : Bool) → IsSound ts keys given → brought ≡ cond b 1 0 → keys + brought ≤ length given + 1
keys_bounded ts keys brought given b s is = omega (arith, s.counted, s.fewer, keys_fewer (entries ts), length-map ts (λ (t : Term). t.entry), is, one_at_most b)

-- ---- a term comes in

put_is : (ts : List Term) (given : List Entry) (e : Entry) → is_sorted (entries ts) ≡ true → has_entry e (entries ts) ≡ false →
    dictionary (insert ts (count_before AtEntry e (entries ts)) (term e (length given))) (given ++ e ∷ []) ≡ with_new e (dictionary ts given)
put_is ts given e sorted new =
    ap (λ us. dictionary us (given ++ e ∷ [])) (sym (put_at (term e (length given)) ts sorted new))
    ∙ sym (ap (λ b. cond b (dictionary ts given) (grown e (dictionary ts given))) new)

pub kept_is : (d : Dictionary) (e : Entry) → has_entry e (entries d.terms) ≡ true → d ≡ with_new e d
kept_is d e there = sym (ap (λ b. cond b d (grown e d)) there)

sound_put : (ts : List Term) (keys : ℕ) (given : List Entry) (e : Entry) → IsSound ts keys given → has_entry e (entries ts) ≡ false → length (given ++ e ∷ []) < 2 ^ 32 →
    IsSound (insert ts (count_before AtEntry e (entries ts)) (term e (length given)))
    (keys + cond (brings_key e.key (count_before AtEntry e (entries ts)) (entries ts)) 1 0) (given ++ e ∷ [])
sound_put ts keys given e s new fits =
    let n = count_before AtEntry e (entries ts) in
    let t = term e (length given) in
    let put = put_at t ts s.sorted new in
    let within = rank_within AtEntry e (entries ts) in
    let sorted : is_sorted (entries (insert ts n t)) ≡ true =
    ap (λ us. is_sorted (entries us)) (sym put) ∙ ap is_sorted (entries_with t ts) ∙ sorted_with e (entries ts) s.sorted in
    record {
      sorted = sorted;
      named = ap (are_given (given ++ e ∷ [])) (sym put) ∙ given_with e given ts s.named;
      counted = ap (λ k. k + cond (brings_key e.key n (entries ts)) 1 0) s.counted
          ∙ sym (ap key_count (entries_insert ts n t) ∙ keys_with (entries ts) n e within (ap is_sorted (sym (entries_insert ts n t)) ∙ sorted));
      fewer = omega (arith, s.fewer, length-insert ts n t (place_within e ts), length-append given (e ∷ []));
      fits = fits;
    }

module _ (ts us : List Term) (keys number brought : ℕ) (given after : List Entry) (e : Entry) (is_number : number ≡ count_before AtEntry e (entries ts))
    (is_us : us ≡ insert ts number (term e (length given))) (is_after : after ≡ given ++ e ∷ []) where
  put_list : us ≡ insert ts (count_before AtEntry e (entries ts)) (term e (length given))
  put_list = is_us ∙ ap (λ n. insert ts n (term e (length given))) is_number

  pub put_whole : is_sorted (entries ts) ≡ true → has_entry e (entries ts) ≡ false → dictionary us after ≡ with_new e (dictionary ts given)
  put_whole sorted new = (λ i. dictionary (put_list i) (is_after i)) ∙ put_is ts given e sorted new

  pub put_sound : IsSound ts keys given → has_entry e (entries ts) ≡ false → length after < 2 ^ 32 → brought ≡ cond (brings_key e.key number (entries ts)) 1 0 → IsSound us (keys + brought) after
  put_sound s new fits is_brought =
      let n = count_before AtEntry e (entries ts) in
      let more : brought ≡ cond (brings_key e.key n (entries ts)) 1 0 = is_brought ∙ ap (λ k. cond (brings_key e.key k (entries ts)) 1 0) is_number in
      subst (λ (xs : List Term). IsSound xs (keys + brought) after) (sym put_list)
      (subst (λ (k : ℕ). IsSound (insert ts n (term e (length given))) (keys + k) after) (sym more)
      (subst (λ (es : List Entry). IsSound (insert ts n (term e (length given))) (keys + cond (brings_key e.key n (entries ts)) 1 0) es) (sym is_after)
      (sound_put ts keys given e s new (omega (arith, fits, ap length is_after)))))

-- the entries of the dictionary with one more
pub new_entries : (e : Entry) (d : Dictionary) → is_sorted (entries d.terms) ≡ true → entries (with_new e d).terms ≡ with_entry e (entries d.terms)
new_entries e d sorted = elim (cases_Bool (has_entry e (entries d.terms))) [
  | inl there ↦ ap (λ (f : Dictionary). entries f.terms) (sym (kept_is d e there)) ∙ sym (nothing_new e (entries d.terms) sorted there)
  | inr none ↦ ap (λ b. entries (cond b d (grown e d)).terms) none ∙ entries_with (term e (length d.given)) d.terms
]

-- ---- a term goes out

take_is : (ts : List Term) (given : List Entry) (e : Entry) → is_sorted (entries ts) ≡ true → has_entry e (entries ts) ≡ true →
    dictionary (remove ts (count_before AtEntry e (entries ts))) given ≡ without_term e (dictionary ts given)
take_is ts given e sorted there = ap (λ us. dictionary us given) (sym (take_at e ts sorted there))

pub left_is : (d : Dictionary) (e : Entry) → has_entry e (entries d.terms) ≡ false → d ≡ without_term e d
left_is d e none = ap (λ us. dictionary us d.given) (sym (none_taken e d.terms none))

-- the keys before a term goes out are those after it, and its own where no other term has that
keys_taken : (ts : List Term) (keys : ℕ) (given : List Entry) (e : Entry) → IsSound ts keys given → has_entry e (entries ts) ≡ true →
    keys ≡ key_count (entries (remove ts (count_before AtEntry e (entries ts)))) + cond (brings_key e.key (count_before AtEntry e (entries ts)) (entries (remove ts (count_before AtEntry e (entries ts))))) 1 0
keys_taken ts keys given e s there =
    let n = count_before AtEntry e (entries ts) in
    let rest = entries (remove ts n) in
    let stands = at_place e n ts (found_at e (entries ts) s.sorted ∙ there) in
    let size = length-map ts (λ (t : Term). t.entry) in
    let back : insert rest n e ≡ entries ts =
    ap (λ es. insert es n e) (entries_remove ts n)
    ∙ ap (λ x. insert (remove (entries ts) n) n x) (sym stands.1)
    ∙ insert_removed (entries ts) n e (omega (arith, stands.0)) in
    let shorter = length-remove ts n stands.0 in
    let within : n ≤ length rest = omega (arith, stands.0, length-map (remove ts n) (λ (t : Term). t.entry)) in
    s.counted ∙ ap key_count (sym back) ∙ keys_with rest n e within (ap is_sorted back ∙ s.sorted)

sound_take : (ts : List Term) (keys : ℕ) (given : List Entry) (e : Entry) → IsSound ts keys given → has_entry e (entries ts) ≡ true →
    IsSound (remove ts (count_before AtEntry e (entries ts)))
    (keys - cond (brings_key e.key (count_before AtEntry e (entries ts)) (entries (remove ts (count_before AtEntry e (entries ts))))) 1 0) given
sound_take ts keys given e s there =
    let n = count_before AtEntry e (entries ts) in
    let take = take_at e ts s.sorted there in
    let stands = at_place e n ts (found_at e (entries ts) s.sorted ∙ there) in
    record {
      sorted = ap (λ us. is_sorted (entries us)) (sym take) ∙ ap is_sorted (entries_without e ts) ∙ sorted_without e (entries ts) s.sorted;
      named = ap (are_given given) (sym take) ∙ given_without e given ts s.named;
      counted = omega (arith, keys_taken ts keys given e s there);
      fewer = omega (arith, s.fewer, length-remove ts n stands.0);
      fits = s.fits;
    }

module _ (ts us : List Term) (keys number brought : ℕ) (given : List Entry) (e : Entry) (is_number : number ≡ count_before AtEntry e (entries ts)) (is_us : us ≡ remove ts number) where
  take_list : us ≡ remove ts (count_before AtEntry e (entries ts))
  take_list = is_us ∙ ap (λ n. remove ts n) is_number

  take_keys : brought ≡ cond (brings_key e.key number (entries us)) 1 0 →
      brought ≡ cond (brings_key e.key (count_before AtEntry e (entries ts)) (entries (remove ts (count_before AtEntry e (entries ts))))) 1 0
  take_keys is_brought = is_brought ∙ (λ i. cond (brings_key e.key (is_number i) (entries (take_list i))) 1 0)

  pub take_whole : is_sorted (entries ts) ≡ true → has_entry e (entries ts) ≡ true → dictionary us given ≡ without_term e (dictionary ts given)
  take_whole sorted there = ap (λ xs. dictionary xs given) take_list ∙ take_is ts given e sorted there

  pub take_bounded : IsSound ts keys given → has_entry e (entries ts) ≡ true → brought ≡ cond (brings_key e.key number (entries us)) 1 0 → brought ≤ keys
  take_bounded s there is_brought = omega (arith, keys_taken ts keys given e s there, take_keys is_brought)

  pub take_sound : IsSound ts keys given → has_entry e (entries ts) ≡ true → brought ≡ cond (brings_key e.key number (entries us)) 1 0 → IsSound us (keys - brought) given
  take_sound s there is_brought =
      let n = count_before AtEntry e (entries ts) in
      subst (λ (xs : List Term). IsSound xs (keys - brought) given) (sym take_list)
      (subst (λ (k : ℕ). IsSound (remove ts n) (keys - k) given) (sym (take_keys is_brought)) (sound_take ts keys given e s there))
