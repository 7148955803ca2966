-- Where the first of some links leads, and then where the others do.
use Rattle.std.proofs.Common.{◌≡◌, refl, ℕ, true, false, cond, List, [], ◌∷◌, map, filter, Option}
use Rattle.std.specs.List.{fold}
use Rattle.std.specs.BTreeSet.{insert_key}
use Rattle.thesaurus_file.specs.Links.{is_wanted}
use Rattle.thesaurus_file.specs.Phrases.{Phrase, phrase_cmp}
use Rattle.thesaurus_file.specs.steps.Walks.{is_unseen, unseen_ends}
use Rattle.thesaurus_file.specs.declared.link.Link.{Link}

pub ends_first : (relation : Option (List ℕ)) (seen next : List Phrase) (link : Link) (links : List Link)
    → fold (insert_key phrase_cmp) (fold (insert_key phrase_cmp) next (unseen_ends relation seen (link ∷ []))) (unseen_ends relation seen links)
    ≡ fold (insert_key phrase_cmp) next (unseen_ends relation seen (link ∷ links))
ends_first relation seen next link links =
    elim (is_wanted relation link) as (λ w. fold (insert_key phrase_cmp) (fold (insert_key phrase_cmp) next (filter (is_unseen seen) (map (λ l. l.to) (cond w (link ∷ []) [])))) (unseen_ends relation seen links)
    ≡ fold (insert_key phrase_cmp) next (filter (is_unseen seen) (map (λ l. l.to) (cond w (link ∷ filter (is_wanted relation) links) (filter (is_wanted relation) links))))) [
      | true ↦ elim (is_unseen seen link.to) as (λ u. fold (insert_key phrase_cmp) (fold (insert_key phrase_cmp) next (cond u (link.to ∷ []) [])) (unseen_ends relation seen links)
          ≡ fold (insert_key phrase_cmp) next (cond u (link.to ∷ unseen_ends relation seen links) (unseen_ends relation seen links)))
          [ true ↦ refl | false ↦ refl ]
      | false ↦ refl
    ]
