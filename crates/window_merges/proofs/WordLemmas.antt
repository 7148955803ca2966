-- Words after moves: from a place on each has the hits that it had.
use Rattle.std.proofs.Common.{◌≡◌, refl, sym, ap, ◌∙◌, ℕ, ◌<◌, ◌≤◌, Bool, ◌&&◌, eqb, List, length, get_or, set, arith, inl, inr, length-set}
use Rattle.std.specs.Prelude.{nat_le, nat_lt, filter, flat_map}
use Rattle.std.specs.declared.vec.Vec.{Vec}
use Rattle.std.specs.declared.alloc.Global.{Global}
use Rattle.std.proofs.lemmas.Bool.{cases_eq, eqb-true}
use Rattle.std.proofs.lemmas.Map.Views.{any-filter_same}
use Rattle.std.proofs.lemmas.List.{get_or_read, get_or-set_other}
use Rattle.std.proofs.lemmas.Grind.{get_or-set_at}
use Rattle.ft_base.specs.Hits.{HitPlace}
use Rattle.ft_base.specs.declared.span.Span.{Span}
use Rattle.all_matches.proofs.ListTests.{list_any-flat_map}
use Rattle.place_merges.specs.Sources.{places_left}
use Rattle.place_merges.specs.steps.Searching.{SameFrom, has}
use Rattle.window_merges.specs.Rows.{places_in}
use Rattle.window_merges.specs.steps.Reaching.{SameWords, has_hit}

module _ {A : Type 0} (passes : A → ℕ → Bool) where
  pub same_words : (words : List A) (place : ℕ) → SameWords passes place words words
  same_words words place = record { long = refl; same = λ number other h. record { same = λ p le. refl } }

  pub same_later : (new old : List A) (place later : ℕ) → place ≤ later → SameWords passes place new old → SameWords passes later new old
  same_later new old place later h words = record {
    long = words.long;
    same = λ number other within. record { same = λ p le. (words.same number other within).same p (omega (arith, h, le)) };
  }

  pub same_after : (first second third : List A) (place : ℕ) → SameWords passes place second first → SameWords passes place third second → SameWords passes place third first
  same_after first second third place one two = record {
    long = two.long ∙ one.long;
    same = λ number other within. record {
      same = λ p le. (two.same number other (omega (arith, within, one.long))).same p le ∙ (one.same number other within).same p le;
    };
  }

  -- one word has moved
  pub same_set : (words : List A) (i place : ℕ) (x y : A) → i < length words → x ≡ get_or words i x → SameFrom place (passes y) (passes x) → SameWords passes place (set words i y) words
  same_set words i place x y h read same = record {
    long = length-set words i y;
    same = λ number other within. elim (cases_eq number i) [
      | inl e ↦
          let now : get_or (set words i y) number other ≡ y = get_or-set_at words i number y other e h in
          let was : get_or words number other ≡ x = ap (λ n. get_or words n other) e ∙ sym (get_or_read words i x h read other) in
          record { same = λ p le. ap (λ a. passes a p) now ∙ same.same p le ∙ ap (λ a. passes a p) (sym was) }
      | inr ne ↦ record { same = λ p le. ap (λ a. passes a p) (get_or-set_other words i number y other ne) }
    ];
  }

-- ---- the places of a word in a span

abbrev pub inside : Span → ℕ → Bool
inside span place = nat_le span.from place && nat_lt place span.to

pub of_filtered : (test : ℕ → Bool) (places : List ℕ) (place : ℕ) → has (filter test places) place ≡ (test place && has places place)
of_filtered test places place = any-filter_same (λ other. eqb other place) test (test place) (λ other e. ap test (eqb-true other place e)) places

pub known : {H : Type 0} (stand : H → HitPlace) (span : Span) (word : Vec H Global) (place : ℕ)
    → has (places_in stand span word.items) place ≡ (inside span place && has_hit stand word place)
known stand span word place =
    of_filtered (inside span) (flat_map (λ source. places_left (stand source)) word.items) place
    ∙ ap (λ b. inside span place && b) (list_any-flat_map (λ other. eqb other place) (λ source. places_left (stand source)) word.items)
