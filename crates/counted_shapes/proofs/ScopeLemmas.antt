-- A scope leaves a Match without excludes exactly where the Match is made in some sentence or paragraph.
use Rattle.std.proofs.Common.{◌≡◌, refl, ap, sym, ◌∙◌, ℕ, List, [], ◌∷◌, Bool, true, false, ◌&&◌, arith}
use Rattle.std.specs.Prelude.{◌↔◌, ◌==◌, filter, cond}
use Rattle.std.specs.List.{list_all}
use Rattle.std.proofs.lemmas.Bool.{and_parts}
use Rattle.std.proofs.lemmas.Bool.Decides.{nat_tests}
use Rattle.std.proofs.Math.Bool.{and-true, and_self, or-false}
use Rattle.ft_base.specs.Lists.{is_not_empty}
use Rattle.ft_base.specs.declared.filter.Filter.TheVariants as F
use Rattle.ft_base.specs.declared.hit.Hit.{Hit}
use Rattle.ft_base.specs.declared.hit.Match.{Match}
use Rattle.ft_base.specs.declared.span.Span.{Span}
use Rattle.ft_base.specs.declared.unit.TextUnit.{TextUnit}
use Rattle.ft_base.specs.declared.unit.TextUnit.TheVariants.{Sentences, Paragraphs}
use Rattle.all_matches.specs.Boolean.{is_clean, satisfied, survives}
use Rattle.all_matches.specs.Filters.{all_in_one, filtered_match}
use Rattle.all_matches.specs.Positions.{start_in, end_in, share_one}
use Rattle.counted_shapes.specs.Fields.{made_in, in_unit}
use Rattle.counted_shapes.proofs.HitLemmas.{has_include}
use Rattle.counted_shapes.proofs.WindowLemmas.{clean_filtered, all_alike, survives_alike}

-- two hits of which one lies in a sentence or paragraph share it where the other one does
shared_first : (n sa ea sb eb : ℕ) → ((sa == n) && (ea == n)) ≡ true → ((sa == ea) && (sb == eb) && (sa == sb)) ≡ ((sb == n) && (eb == n))
shared_first n sa ea sb eb h = grind (arith, nat_tests)

shared_second : (n sa ea sb eb : ℕ) → ((sb == n) && (eb == n)) ≡ true → ((sa == ea) && (sb == eb) && (sa == sb)) ≡ ((sa == n) && (ea == n))
shared_second n sa ea sb eb h = grind (arith, nat_tests)

with_itself : (s e : ℕ) → ((s == e) && (s == e) && (s == s)) ≡ true → ((s == s) && (e == s)) ≡ true
with_itself s e h = grind (arith, nat_tests)

itself_too : (n s e : ℕ) → (((s == e) && (s == e) && (s == s)) && ((s == n) && (e == n))) ≡ ((s == n) && (e == n))
itself_too n s e = grind (arith, nat_tests)

module _ (kind : TextUnit) where
  beside_first : (n : ℕ) (a b : Hit) → in_unit kind n a ≡ true → share_one kind a b ≡ in_unit kind n b
  beside_first n a b h = shared_first n (start_in kind a) (end_in kind a) (start_in kind b) (end_in kind b) h

  beside_second : (n : ℕ) (a b : Hit) → in_unit kind n b ≡ true → share_one kind a b ≡ in_unit kind n a
  beside_second n a b h = shared_second n (start_in kind a) (end_in kind a) (start_in kind b) (end_in kind b) h

  all_share : (n : ℕ) (hits others : List Hit) → list_all (in_unit kind n) others ≡ true → list_all (in_unit kind n) hits ≡ true
      → list_all (λ a. list_all (share_one kind a) others) hits ≡ true
  all_share n [] others all h = refl
  all_share n (a ∷ rest) others all h =
      let parts = and_parts (in_unit kind n a) (list_all (in_unit kind n) rest) h in
      λ i. (all_alike (share_one kind a) (in_unit kind n) others (λ b. beside_first n a b parts.0) ∙ all) i && all_share n rest others all parts.1 i

  all_in_unit : (first : Hit) (rest : List Hit) → all_in_one kind (first ∷ rest) ≡ true → list_all (in_unit kind (start_in kind first)) (first ∷ rest) ≡ true
  all_in_unit first rest h =
      let outer = and_parts (list_all (share_one kind first) (first ∷ rest)) (list_all (λ a. list_all (share_one kind a) (first ∷ rest)) rest) h in
      let inner = and_parts (share_one kind first first) (list_all (share_one kind first) rest) outer.0 in
      sym (all_alike (share_one kind first) (in_unit kind (start_in kind first)) (first ∷ rest)
      (λ b. beside_first (start_in kind first) first b (with_itself (start_in kind first) (end_in kind first) inner.0)))
      ∙ outer.0

  -- an exclude beside includes that all lie in one
  shares_each : (n : ℕ) (hit first : Hit) (rest : List Hit) → list_all (in_unit kind n) (first ∷ rest) ≡ true → list_all (share_one kind hit) (first ∷ rest) ≡ in_unit kind n hit
  shares_each n hit first [] h =
      let parts = and_parts (in_unit kind n first) true h in
      and-true (share_one kind hit first) ∙ beside_second n hit first parts.0
  shares_each n hit first (next ∷ rest) h =
      let parts = and_parts (in_unit kind n first) (list_all (in_unit kind n) (next ∷ rest)) h in
      (λ i. beside_second n hit first parts.0 i && shares_each n hit next rest parts.1 i) ∙ and_self (in_unit kind n hit)

  shares_all : (n : ℕ) (hit first : Hit) (rest : List Hit) → list_all (in_unit kind n) (first ∷ rest) ≡ true
      → list_all (share_one kind hit) (hit ∷ first ∷ rest) ≡ in_unit kind n hit
  shares_all n hit first rest h =
      ap (λ b. share_one kind hit hit && b) (shares_each n hit first rest h) ∙ itself_too n (start_in kind hit) (end_in kind hit)

  -- what a scope leaves of a Match
  abbrev kept_beside : List Hit → Hit → Bool
  kept_beside includes hit = list_all (share_one kind hit) (hit ∷ includes)

  abbrev left_of : Match → Match
  left_of m = record { includes = m.includes; excludes = filter (kept_beside m.includes) m.excludes }

  left_where : (b : Bool) (m : Match) → satisfied (cond b (left_of m ∷ []) []) ≡ (b && survives (kept_beside m.includes) m)
  left_where true m = or-false (is_clean (left_of m)) ∙ clean_filtered (kept_beside m.includes) m.includes m.excludes
  left_where false m = refl

  made_where : (m : Match) (first : Hit) (rest : List Hit) → m.includes ≡ first ∷ rest
      → ((all_in_one kind (first ∷ rest) && survives (kept_beside (first ∷ rest)) m) ≡ true) ↔ ((number : ℕ) × (made_in (in_unit kind number) m ≡ true))
  made_where m first rest is = (found, back)
    where
      found : (all_in_one kind (first ∷ rest) && survives (kept_beside (first ∷ rest)) m) ≡ true → (number : ℕ) × (made_in (in_unit kind number) m ≡ true)
      found h =
          let n = start_in kind first in
          let parts = and_parts (all_in_one kind (first ∷ rest)) (survives (kept_beside (first ∷ rest)) m) h in
          let inside = all_in_unit first rest parts.0 in (
            n,
            (λ i. (ap (list_all (in_unit kind n)) is ∙ inside) i
                && (sym (survives_alike (kept_beside (first ∷ rest)) (in_unit kind n) m (λ hit. shares_all n hit first rest inside)) ∙ parts.1) i),
          )

      back : (number : ℕ) × (made_in (in_unit kind number) m ≡ true) → (all_in_one kind (first ∷ rest) && survives (kept_beside (first ∷ rest)) m) ≡ true
      back made_there =
          let n = made_there.0 in
          let parts = and_parts (list_all (in_unit kind n) m.includes) (survives (in_unit kind n) m) made_there.1 in
          let inside = sym (ap (list_all (in_unit kind n)) is) ∙ parts.0 in
          λ i. all_share n (first ∷ rest) (first ∷ rest) inside inside i
          && (survives_alike (kept_beside (first ∷ rest)) (in_unit kind n) m (λ hit. shares_all n hit first rest inside) ∙ parts.1) i

  scope_made : (m : Match) → has_include m ≡ true
      → (satisfied (cond (all_in_one kind m.includes) (left_of m ∷ []) []) ≡ true) ↔ ((number : ℕ) × (made_in (in_unit kind number) m ≡ true))
  scope_made m h = by_includes m.includes refl h
    where
      by_includes : (hits : List Hit) → m.includes ≡ hits → is_not_empty hits ≡ true
          → (satisfied (cond (all_in_one kind m.includes) (left_of m ∷ []) []) ≡ true) ↔ ((number : ℕ) × (made_in (in_unit kind number) m ≡ true))
      by_includes [] is some = cc
      by_includes (first ∷ rest) is some =
          let whole = made_where m first rest is in
          let same = left_where (all_in_one kind m.includes) m ∙ ap (λ hits. all_in_one kind hits && survives (kept_beside hits) m) is in
          (λ left. whole.0 (sym same ∙ left), λ made_there. same ∙ whole.1 made_there)

pub sentence_made : (item : Span) (m : Match) → has_include m ≡ true
    → (satisfied (filtered_match F.SameSentence item m) ≡ true) ↔ ((number : ℕ) × (made_in (in_unit Sentences number) m ≡ true))
sentence_made item m h = scope_made Sentences m h

pub paragraph_made : (item : Span) (m : Match) → has_include m ≡ true
    → (satisfied (filtered_match F.SameParagraph item m) ≡ true) ↔ ((number : ℕ) × (made_in (in_unit Paragraphs number) m ≡ true))
paragraph_made item m h = scope_made Paragraphs m h
