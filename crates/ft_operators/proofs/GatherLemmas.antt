-- The includes of a way, put one after the other.
use Rattle.std.proofs.Common.{◌≡◌, refl, ap, sym, ◌∙◌, subst, ℕ, ◌+◌, ◌≤◌, List, [], ◌∷◌, ◌++◌, Bool, true, false, length, drop, take, arith}
use Rattle.std.specs.Prelude.{Option, option_to_list, flat_map}
use Rattle.std.proofs.lemmas.List.{append_assoc, append-nil, length-append, take_at, drop_at}
use Rattle.ft_base.specs.Lists.{is_not_empty}
use Rattle.ft_base.specs.declared.filter.Filter.{Filter}
use Rattle.ft_base.specs.declared.filter.Filter.TheVariants as F
use Rattle.ft_base.specs.declared.hit.Hit.{Hit}
use Rattle.all_matches.specs.declared.window.Window.{Window}
use Rattle.all_matches.specs.Filters.{after}
use Rattle.all_matches.specs.Join.{join}
use Rattle.all_matches.specs.Ways.{Way, way_includes}
use Rattle.ft_operators.specs.declared.course.Course.{Course}
use Rattle.ft_operators.specs.Course.{filtered_on, stands_on, ways_on}
use Rattle.ft_operators.specs.Standing.{Standing, includes_now}
use Rattle.ft_operators.specs.steps.Forms.{choice_of, first_left, both_of, apart_of, negation_of, sieve_of, sieve_left, chosen_left, choices_at}
use Rattle.ft_operators.specs.steps.Walking.{Gathered, IsHeld, Replaced}
use Rattle.ft_operators.proofs.ApartLemmas.{apart_there, apart_includes}
use Rattle.ft_operators.proofs.BothLemmas.{pair_includes, pairs_sides}
use Rattle.ft_operators.proofs.SieveLemmas.{sieve_operand_there}

first_includes : (xs ys : List Way) → is_not_empty (first_left xs ys) ≡ true → (is_not_empty xs ≡ true) × (includes_now (first_left xs ys) ≡ includes_now xs)
first_includes [] ys there = cc
first_includes (x ∷ xs) ys there = (refl, refl)

pub gathered_left : (course : Course) (left right : Standing) (room new_room : ℕ) (old new : List Hit) → Gathered left room new_room old new → Gathered (choice_of course false left right) room new_room old new
gathered_left course left right room new_room old new g =
    let side = first_includes left.rest (ways_on course right.operator) in record {
      from = g.from;
      kept_room = g.kept_room;
      few = λ there. let few = subst (λ hits. length hits ≤ left.shape.room) (sym (side there).1) (g.few (side there).0) in omega (arith, few);
      hits = λ there fits. g.hits (side there).0 (omega (arith, fits)) ∙ ap (λ hits. old ++ hits) (sym (side there).1);
    }

pub gathered_right : (course : Course) (left right : Standing) (room new_room : ℕ) (old new : List Hit) → Gathered right room new_room old new → Gathered (choice_of course true left right) room new_room old new
gathered_right course left right room new_room old new g = record {
  from = g.from;
  kept_room = g.kept_room;
  few = λ there. let few = g.few there in omega (arith, few);
  hits = λ there fits. g.hits there (omega (arith, fits));
}

pub gathered_both : (course : Course) (left right : Standing) (room mid_room new_room : ℕ) (old mid new : List Hit)
    → Gathered left room mid_room old mid → Gathered right mid_room new_room mid new → Gathered (both_of course left right) room new_room old new
gathered_both course left right room mid_room new_room old mid new l r =
    let sides = pairs_sides course right.operator left.rest right.rest in
    let includes = pair_includes course right.operator left.rest right.rest in
    record {
      from = omega (arith, l.from, r.from);
      kept_room = omega (arith, l.kept_room, r.kept_room);
      few = λ there.
          let a = l.few (sides there).0 in
          let b = r.few (sides there).1 in
          subst (λ hits. length hits ≤ left.shape.room + right.shape.room) (sym (includes there))
          (omega (arith, a, b, length-append (includes_now left.rest) (includes_now right.rest)));
      hits = λ there fits.
          let a = l.few (sides there).0 in
          let first = l.hits (sides there).0 (omega (arith, fits)) in
          let long = ap length first ∙ length-append old (includes_now left.rest) in
          r.hits (sides there).1 (omega (arith, fits, a, long, l.kept_room))
          ∙ ap (λ hits. hits ++ includes_now right.rest) first
          ∙ append_assoc old (includes_now left.rest) (includes_now right.rest)
          ∙ ap (λ hits. old ++ hits) (sym (includes there));
    }

pub gathered_apart : (course : Course) (left right : Standing) (room new_room : ℕ) (old new : List Hit) → Gathered left room new_room old new → Gathered (apart_of course left right) room new_room old new
gathered_apart course left right room new_room old new g =
    let inner = apart_there (stands_on course right.operator) left.rest in
    let includes = apart_includes (stands_on course right.operator) left.rest in
    record {
      from = g.from;
      kept_room = g.kept_room;
      few = λ there. let few = subst (λ hits. length hits ≤ left.shape.room) (sym includes) (g.few (sym inner ∙ there)) in omega (arith, few);
      hits = λ there fits. g.hits (sym inner ∙ there) (omega (arith, fits)) ∙ ap (λ hits. old ++ hits) (sym includes);
    }

pub gathered_negated : (course : Course) (there : Bool) (operand : Standing) (room : ℕ) (old : List Hit) → Gathered (negation_of course there operand) room room old old
gathered_negated course true operand room old = record { from = omega arith; kept_room = omega arith; few = λ _. omega arith; hits = λ _ _. sym (append-nil old) }
gathered_negated course false operand room old = record { from = omega arith; kept_room = omega arith; few = λ there. cc; hits = λ there. cc }

pub sieve_includes : (kind : Filter) (course : Course) (lead : ℕ) (ways : List Way) → is_not_empty (sieve_left kind course lead ways) ≡ true → includes_now (sieve_left kind course lead ways) ≡ after kind (includes_now ways)
sieve_includes kind course lead [] there = cc
sieve_includes kind course lead (way ∷ more) there = of (drop lead (choices_at kind course way)) there
  where
    of : (cs : List (Option Window)) → is_not_empty (chosen_left kind way cs (flat_map (filtered_on kind course) more)) ≡ true
        → includes_now (chosen_left kind way cs (flat_map (filtered_on kind course) more)) ≡ after kind (way_includes way)
    of [] there = cc
    of (c ∷ cs) there = refl

joined_few : (hits : List Hit) → length (option_to_list (join hits)) ≤ length hits
joined_few [] = omega arith
joined_few (hit ∷ rest) = omega arith

-- a filter leaves no more includes than there are before it
pub after_few : (kind : Filter) (hits : List Hit) → length (after kind hits) ≤ length hits
after_few F.Ordered hits = omega arith
after_few (F.Window size kind) hits = joined_few hits
after_few (F.Distance range kind) hits = joined_few hits
after_few F.SameSentence hits = omega arith
after_few F.SameParagraph hits = omega arith
after_few F.DifferentSentence hits = omega arith
after_few F.DifferentParagraph hits = omega arith
after_few F.AtStart hits = omega arith
after_few F.AtEnd hits = omega arith
after_few F.EntireContent hits = omega arith

pub gathered_filtered : (course : Course) (kind : Filter) (lead : ℕ) (operand : Standing) (room mid_room new_room : ℕ) (old mid new : List Hit)
    → Gathered operand room mid_room old mid → Replaced (length old) (after kind (drop (length old) mid)) mid_room new_room mid new
    → Gathered (sieve_of course kind lead operand) room new_room old new
gathered_filtered course kind lead operand room mid_room new_room old mid new g r =
    let inner = sieve_operand_there kind course lead operand.rest in
    let includes = sieve_includes kind course lead operand.rest in
    record {
      from = r.from;
      kept_room = omega (arith, g.kept_room, r.kept_room);
      few = λ there.
          let few = g.few (inner there) in
          subst (λ hits. length hits ≤ operand.shape.room) (sym (includes there)) (omega (arith, few, after_few kind (includes_now operand.rest)));
      hits = λ there fits.
          let few = g.few (inner there) in
          let held = g.hits (inner there) (omega (arith, fits)) in
          let past = ap (drop (length old)) held ∙ drop_at old (includes_now operand.rest) (length old) refl in
          let prefix = ap (take (length old)) held ∙ take_at old (includes_now operand.rest) (length old) refl in
          let others = ap (λ hits. length (after kind hits)) past in
          r.hits (omega (arith, fits, few, others, g.kept_room, after_few kind (includes_now operand.rest)))
          ∙ (λ i. prefix i ++ after kind (past i))
          ∙ ap (λ hits. old ++ hits) (sym (includes there));
    }

-- what was put for the inside of a node was put for the node
pub gathered_inside : (inside node : Standing) (room new_room : ℕ) (old new : List Hit) → node ≡ inside → Gathered inside room new_room old new → Gathered node room new_room old new
gathered_inside inside node room new_room old new is g = subst (λ s. Gathered s room new_room old new) (sym is) g

-- what was put where nothing was held is held alone
pub gathered_alone : (there : Bool) (now : Standing) (room cleared_room new_room : ℕ) (cleared new : List Hit) → cleared ≡ [] → cleared_room ≡ room → Gathered now cleared_room new_room cleared new
    → IsHeld there now room new_room new
gathered_alone there now room cleared_room new_room cleared new none same g =
    let size = ap length none in record {
      kept_room = omega (arith, same, g.kept_room);
      hits = λ _ way fits. g.hits way (omega (arith, size, same, fits)) ∙ ap (λ hits. hits ++ includes_now now.rest) none;
    }
