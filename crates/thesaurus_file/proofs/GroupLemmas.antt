-- The links of a phrase, as lines are added.
use Rattle.std.proofs.Common.{◌≡◌, ◌∙◌, sym, ap, refl, true, false, cond, List, [], ◌∷◌, ◌++◌, map, filter, Option, Some, None, is_some, append_assoc, append-nil}
use Rattle.std.specs.Prelude.{unwrap_or}
use Rattle.std.specs.List.{fold}
use Rattle.std.specs.declared.cmp.Ordering.TheVariants.{Less, Equal, Greater}
use Rattle.std.specs.Ordering.{match_ordering}
use Rattle.std.specs.Cmp.{eq_by_cmp_equiv}
use Rattle.std.specs.Map.{lookup}
use Rattle.std.specs.BTreeMap.{insert_entry}
use Rattle.std.specs.FinMap.Entries.{by_order, put, find, find-put}
use Rattle.std.proofs.lemmas.Map.{lookup-set_value}
use Rattle.thesaurus_file.specs.Links.{Links, link_added, links_from, with_link}
use Rattle.thesaurus_file.specs.Phrases.{Phrase, phrase_cmp, phrase_eq}
use Rattle.thesaurus_file.specs.declared.link.Link.{Link}
use Rattle.thesaurus_file.proofs.OrderLemmas.{phrase_total, same_from_eq}

found_by_lookup : (q : Phrase) (t : Links) → find phrase_cmp q t ≡ lookup (phrase_eq q) t
found_by_lookup q [] = refl
found_by_lookup q (e ∷ es) = ap (cond (phrase_eq q e.0) (Some e.1)) (found_by_lookup q es)

put_by_insert : (k : Phrase) (v : List Link) (t : Links) → put phrase_cmp k v t ≡ insert_entry phrase_cmp t k v
put_by_insert k v [] = refl
put_by_insert k v (e ∷ es) =
    elim (phrase_cmp k e.0) as (λ r. by_order r ((k, v) ∷ e ∷ es) ((e.0, v) ∷ es) (e ∷ put phrase_cmp k v es) ≡ match_ordering r ((k, v) ∷ e ∷ es) ((e.0, v) ∷ es) (e ∷ insert_entry phrase_cmp es k v))
    [ Less ↦ refl | Equal ↦ refl | Greater ↦ ap (λ l. e ∷ l) (put_by_insert k v es) ]

looked_up : (q k : Phrase) (v : List Link) (t : Links) → lookup (phrase_eq q) (insert_entry phrase_cmp t k v) ≡ cond (phrase_eq q k) (Some v) (lookup (phrase_eq q) t)
looked_up q k v t =
    ap (lookup (phrase_eq q)) (sym (put_by_insert k v t))
    ∙ sym (found_by_lookup q (put phrase_cmp k v t))
    ∙ find-put phrase_cmp phrase_total q k v t
    ∙ ap (cond (phrase_eq q k) (Some v)) (found_by_lookup q t)

-- one link more
one_link : (t : Links) (from : Phrase) (link : Link) (q : Phrase) (old : Option (List Link)) → lookup (phrase_eq from) t ≡ old
    → links_from (link_added t from link old) q ≡ cond (phrase_eq q from) (links_from t q ++ link ∷ []) (links_from t q)
one_link t from link q None none =
    ap (λ o. unwrap_or o []) (looked_up q from (link ∷ []) t)
    ∙ elim (phrase_eq q from) as (λ b. phrase_eq q from ≡ b → unwrap_or (cond b (Some (link ∷ [])) (lookup (phrase_eq q) t)) [] ≡ cond b (links_from t q ++ link ∷ []) (links_from t q)) [
      | true ↦ λ e. ap (λ o. unwrap_or o [] ++ link ∷ []) (sym (ap (λ p. lookup (phrase_eq p) t) (same_from_eq q from e) ∙ none))
      | false ↦ λ e. refl
    ] refl
one_link t from link q (Some links) some =
    ap (λ o. unwrap_or o [])
    (lookup-set_value (eq_by_cmp_equiv phrase_total) (phrase_eq from) (λ x y h. (eq_by_cmp_equiv phrase_total).congr from x y h) q (links ++ link ∷ []) t (ap is_some some)
    ∙ ap (λ b. cond b (Some (links ++ link ∷ [])) (lookup (phrase_eq q) t)) ((eq_by_cmp_equiv phrase_total).symm from q))
    ∙ elim (phrase_eq q from) as (λ b. phrase_eq q from ≡ b → unwrap_or (cond b (Some (links ++ link ∷ [])) (lookup (phrase_eq q) t)) [] ≡ cond b (links_from t q ++ link ∷ []) (links_from t q)) [
      | true ↦ λ e. ap (λ o. unwrap_or o [] ++ link ∷ []) (sym (ap (λ p. lookup (phrase_eq p) t) (same_from_eq q from e) ∙ some))
      | false ↦ λ e. refl
    ] refl

links_after : (lines : List (Phrase × Link)) (t : Links) (q : Phrase) → links_from (fold with_link t lines) q ≡ links_from t q ++ map (λ line. line.1) (filter (λ line. phrase_eq q line.0) lines)
links_after [] t q = sym (append-nil (links_from t q))
links_after (line ∷ lines) t q =
    links_after lines (with_link t line) q
    ∙ ap (λ l. l ++ map (λ line. line.1) (filter (λ line. phrase_eq q line.0) lines)) (one_link t line.0 line.1 q (lookup (phrase_eq line.0) t) refl)
    ∙ elim (phrase_eq q line.0) as (λ b. cond b (links_from t q ++ line.1 ∷ []) (links_from t q) ++ map (λ line. line.1) (filter (λ line. phrase_eq q line.0) lines)
    ≡ links_from t q ++ map (λ line. line.1) (cond b (line ∷ filter (λ line. phrase_eq q line.0) lines) (filter (λ line. phrase_eq q line.0) lines)))
    [ true ↦ append_assoc (links_from t q) (line.1 ∷ []) (map (λ line. line.1) (filter (λ line. phrase_eq q line.0) lines)) | false ↦ refl ]

pub links_of_lines : (lines : List (Phrase × Link)) (phrase : Phrase) → links_from (fold with_link [] lines) phrase ≡ map (λ line. line.1) (filter (λ line. phrase_eq phrase line.0) lines)
links_of_lines lines phrase = links_after lines [] phrase
