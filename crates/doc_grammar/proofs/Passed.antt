-- The limits along a run of the machine: where one is passed, and that none was passed before.
use Rattle.std.proofs.Common.{◌≡◌, ℕ, suc, ◌≤◌, ◌<◌, Bool, true, false, ◌&&◌, ◌⊎◌, inl, inr, List, [], ◌∷◌, ◌++◌, length, Some, refl, sym, ◌∙◌, ap, subst, append_assoc, arith}
use Rattle.std.proofs.lemmas.List.{length-append}
use Rattle.std.specs.Prelude.{◌==◌}
use Rattle.std.proofs.Math.Bool.{and-false}
use Rattle.doc_grammar.specs.Grammar.{lines_from, with_line_ends}
use Rattle.doc_grammar.specs.Texts.{Kind}
use Rattle.doc_grammar.specs.steps.Machine as m
use Rattle.doc_grammar.specs.steps.Machine.{Outer, Place, Phase, State, run_on, step, step_at, start, is_content, takes_element}
use Rattle.doc_grammar.specs.Opened.{At, bottom}
use Rattle.doc_grammar.specs.steps.Reading.{outer_of, read, returned}
use Rattle.doc_grammar.specs.Limits.{text_here, element_here, place_count, depth, begins_text, begins_element, TextBegins, ElementBegins, Limit, Passes, too_deep, element_too_many, text_too_many, KeepsLimits}
use Rattle.doc_grammar.proofs.Walks.{st}
use Rattle.doc_grammar.proofs.WalksOfElements.{at_runs}
use Rattle.doc_grammar.proofs.Decided.{lines-return, lines-skipped, lines-kept, read-append}

-- the machine stands where the grammar says
pub at_read : (kind : Kind) (prefix : List ℕ) (p : Place) → At (with_line_ends prefix) p → bottom p.outer ≡ outer_of kind → read kind prefix ≡ Some (st p m.ready)
at_read kind prefix p a e = ap (λ o. run_on (Some (start o)) (with_line_ends prefix)) (sym e) ∙ (at_runs a).ends

-- equal texts have the same prefixes
pub same_prefix : (f g xs ys : List ℕ) → f ++ xs ≡ g ++ ys → length f ≡ length g → (f ≡ g) × (xs ≡ ys)
same_prefix [] [] xs ys e h = (refl, e)
same_prefix [] (y ∷ g) xs ys e h = absurd (omega arith)
same_prefix (x ∷ f) [] xs ys e h = absurd (omega arith)
same_prefix (x ∷ f) (y ∷ g) xs ys e h =
    let tail : f ++ xs ≡ g ++ ys = cc in
    let head : x ≡ y = cc in
    let rest = same_prefix f g xs ys tail (omega arith) in
    (ap (λ z. z ∷ f) head ∙ ap (λ zs. y ∷ zs) rest.0, rest.1)

no_lines : (f : List ℕ) → lines_from false f ≡ [] → f ≡ []
no_lines [] e = refl
no_lines (c ∷ f) e = go (c == 13) refl
  where
    go : (x : Bool) → (c == 13) ≡ x → c ∷ f ≡ []
    go true h = let z : 10 ∷ lines_from true f ≡ [] = sym (lines-return false c f h) ∙ e in cc
    go false h = let z : c ∷ lines_from false f ≡ [] = sym (lines-kept false c f h (and-false (c == 10))) ∙ e in cc

-- a text whose last character is a `<` once its line ends are normalized
abbrev pub Last : Bool → List ℕ → List ℕ → Type 0
Last b f w = (g : List ℕ) × (f ≡ g ++ 60 ∷ []) × (lines_from b g ≡ w)

last_kept : (b : Bool) (c : ℕ) (f w : List ℕ) → (c == 13) ≡ false → ((c == 10) && b) ≡ false → ((w : List ℕ) → lines_from false f ≡ w ++ 60 ∷ [] → Last false f w) → c ∷ lines_from false f ≡ w ++ 60 ∷ [] → Last b (c ∷ f) w
last_kept b c f [] h k more e =
    let head : c ≡ 60 = cc in
    let tail : lines_from false f ≡ [] = cc in
    ([], ap (λ z. z ∷ f) head ∙ ap (λ z. 60 ∷ z) (no_lines f tail), refl)
last_kept b c f (x ∷ w) h k more e =
    let head : c ≡ x = cc in
    let tail : lines_from false f ≡ w ++ 60 ∷ [] = cc in
    let m = more w tail in
    (c ∷ m.0, ap (λ z. c ∷ z) m.1, lines-kept b c m.0 h k ∙ ap (λ z. c ∷ z) m.2 ∙ ap (λ z. z ∷ w) head)

last_return : (b : Bool) (c : ℕ) (f w : List ℕ) → (c == 13) ≡ true → ((w : List ℕ) → lines_from true f ≡ w ++ 60 ∷ [] → Last true f w) → 10 ∷ lines_from true f ≡ w ++ 60 ∷ [] → Last b (c ∷ f) w
last_return b c f [] h more e = let head : ◌≡◌ {A = ℕ} 10 60 = cc in absurd (omega (arith, head))
last_return b c f (x ∷ w) h more e =
    let head : 10 ≡ x = cc in
    let tail : lines_from true f ≡ w ++ 60 ∷ [] = cc in
    let m = more w tail in
    (c ∷ m.0, ap (λ z. c ∷ z) m.1, lines-return b c m.0 h ∙ ap (λ z. 10 ∷ z) m.2 ∙ ap (λ z. z ∷ w) head)

last_skipped : (b : Bool) (c : ℕ) (f w : List ℕ) → (c == 13) ≡ false → ((c == 10) && b) ≡ true → Last false f w → Last b (c ∷ f) w
last_skipped b c f w h k m = (c ∷ m.0, ap (λ z. c ∷ z) m.1, lines-skipped b c m.0 h k ∙ m.2)

pub raw_last : (b : Bool) (f w : List ℕ) → lines_from b f ≡ w ++ 60 ∷ [] → Last b f w
raw_last b [] [] e = cc
raw_last b [] (x ∷ w) e = cc
raw_last b (c ∷ f) w e = go (c == 13) ((c == 10) && b) refl refl (raw_last true f) (raw_last false f)
  where
    go : (x y : Bool) → (c == 13) ≡ x → ((c == 10) && b) ≡ y → ((w : List ℕ) → lines_from true f ≡ w ++ 60 ∷ [] → Last true f w) → ((w : List ℕ) → lines_from false f ≡ w ++ 60 ∷ [] → Last false f w) → Last b (c ∷ f) w
    go true y h k i j = last_return b c f w h i (sym (lines-return b c f h) ∙ e)
    go false true h k i j = last_skipped b c f w h k (j w (sym (lines-skipped b c f h k) ∙ e))
    go false false h k i j = last_kept b c f w h k j (sym (lines-kept b c f h k) ∙ e)

-- no limit was passed before the prefix; an element is noticed a character later
pub record Clean (max_depth max_nodes : ℕ) (kind : Kind) (whole prefix : List ℕ) : Type 0 where
  pub texts : (other : List ℕ) (p : Place) → TextBegins kind whole other p → max_nodes ≤ place_count p → length prefix ≤ length other
  pub elements : (other : List ℕ) (p : Place) → ElementBegins kind whole other p → ((max_depth ≤ depth p.outer) ⊎ (max_nodes ≤ place_count p)) → length prefix ≤ suc (length other)

pub clean_start : (max_depth max_nodes : ℕ) (kind : Kind) (whole : List ℕ) → Clean max_depth max_nodes kind whole []
clean_start max_depth max_nodes kind whole = record { texts = λ other p x h. omega arith; elements = λ other p x h. omega arith }

-- the next character passes none
pub record Checked (max_depth max_nodes : ℕ) (s : State) (b : Bool) (c : ℕ) : Type 0 where
  pub text_fits : text_here s b c ≡ true → place_count s.place < max_nodes
  pub shallow : element_here s c ≡ true → depth s.place.outer < max_depth
  pub element_fits : element_here s c ≡ true → place_count s.place < max_nodes

-- where the machine stands after a `<` between two items
pub opened_read : (kind : Kind) (prefix : List ℕ) (p : Place) → read kind prefix ≡ Some (st p m.ready) → read kind (prefix ++ 60 ∷ []) ≡ Some (st p m.opened)
unfolding step_at m.from_ready
opened_read kind prefix p e = read-append kind prefix (60 ∷ []) ∙ ap (λ o. run_on o (lines_from (returned false prefix) (60 ∷ []))) e

-- a text that begins right after the prefix begins where the machine stands
pub text_same : {kind : Kind} {whole other : List ℕ} {p : Place} (prefix : List ℕ) (c : ℕ) (more : List ℕ) (s : State) → whole ≡ prefix ++ c ∷ more → read kind prefix ≡ Some s → TextBegins kind whole other p → length prefix ≡ length other
    → (text_here s (returned false prefix) c ≡ true) × (s.place ≡ p)
text_same {kind = kind} {other = other} {p = p} prefix c more s e r x h =
    let parts = same_prefix prefix other (c ∷ more) (x.c ∷ x.rest) (sym e ∙ x.spelled) h in
    let stands : Some s ≡ Some (st p m.ready) = sym r ∙ ap (read kind) parts.0 ∙ at_read kind other p x.is_at x.is_kind in
    let there : s ≡ st p m.ready = cc in
    let char : x.c ≡ c = let tails : c ∷ more ≡ x.c ∷ x.rest = parts.1 in cc in
    (subst (λ (t : State). text_here t (returned false prefix) c ≡ true) (sym there) (subst (λ (z : List ℕ). begins_text p (returned false z) c ≡ true) (sym parts.0) (subst (λ (d : ℕ). begins_text p (returned false other) d ≡ true) char x.begins)), ap (λ (t : State). t.place) there)

pub element_same : {kind : Kind} {whole other : List ℕ} {p : Place} (prefix : List ℕ) (c : ℕ) (more : List ℕ) (s : State) → whole ≡ prefix ++ c ∷ more → read kind prefix ≡ Some s → ElementBegins kind whole other p → length prefix ≡ suc (length other)
    → (element_here s c ≡ true) × (s.place ≡ p)
element_same {kind = kind} {other = other} {p = p} prefix c more s e r x h =
    let parts = same_prefix prefix (other ++ 60 ∷ []) (c ∷ more) (x.c ∷ x.rest) (sym e ∙ x.spelled ∙ sym (append_assoc other (60 ∷ []) (x.c ∷ x.rest))) (omega (arith, length-append other (60 ∷ []))) in
    let stands : Some s ≡ Some (st p m.opened) = sym r ∙ ap (read kind) parts.0 ∙ opened_read kind other p (at_read kind other p x.is_at x.is_kind) in
    let there : s ≡ st p m.opened = cc in
    let char : x.c ≡ c = let tails : c ∷ more ≡ x.c ∷ x.rest = parts.1 in cc in
    (subst (λ (t : State). element_here t c ≡ true) (sym there) (subst (λ (d : ℕ). begins_element p d ≡ true) char x.begins), ap (λ (t : State). t.place) there)

one_longer : (prefix : List ℕ) (c : ℕ) → length (prefix ++ c ∷ []) ≡ suc (length prefix)
one_longer prefix c = omega (arith, length-append prefix (c ∷ []))

at_or_after : (m n : ℕ) → m ≤ n → (m ≡ n → ⊥) → suc m ≤ n
at_or_after m n h k = omega (arith, k)

-- a character after a prefix up to which no limit is passed
module _ (max_depth max_nodes : ℕ) (kind : Kind) (whole prefix : List ℕ) (c : ℕ) (more : List ℕ) (s : State) (clean : Clean max_depth max_nodes kind whole prefix) (e : whole ≡ prefix ++ c ∷ more) (r : read kind prefix ≡ Some s) where
  -- where it passes none, none is passed
  pub clean_further : Checked max_depth max_nodes s (returned false prefix) c → Clean max_depth max_nodes kind whole (prefix ++ c ∷ [])
  clean_further checked = record {
    texts = λ other p x h. subst (λ (n : ℕ). n ≤ length other) (sym (one_longer prefix c)) (at_or_after (length prefix) (length other) (clean.texts other p x h) (λ l.
        let same = text_same prefix c more s e r x l in
        let fits : place_count s.place < max_nodes = checked.text_fits same.0 in
        let full : max_nodes ≤ place_count s.place = subst (λ (q : Place). max_nodes ≤ place_count q) (sym same.1) h in
        absurd (omega arith)));
    elements = λ other p x h. subst (λ (n : ℕ). n ≤ suc (length other)) (sym (one_longer prefix c)) (at_or_after (length prefix) (suc (length other)) (clean.elements other p x h) (λ l.
        element_stops p h (element_same prefix c more s e r x l)));
  }
    where
      element_stops : (p : Place) → ((max_depth ≤ depth p.outer) ⊎ (max_nodes ≤ place_count p)) → ((element_here s c ≡ true) × (s.place ≡ p)) → ⊥
      element_stops p (inl h) same =
          let fits : depth s.place.outer < max_depth = checked.shallow same.0 in
          let deep : max_depth ≤ depth s.place.outer = subst (λ (q : Place). max_depth ≤ depth q.outer) (sym same.1) h in
          absurd (omega arith)
      element_stops p (inr h) same =
          let fits : place_count s.place < max_nodes = checked.element_fits same.0 in
          let full : max_nodes ≤ place_count s.place = subst (λ (q : Place). max_nodes ≤ place_count q) (sym same.1) h in
          absurd (omega arith)

  -- where no element is noticed, limits are passed there or later
  pub clean_keeps : element_here s c ≡ false → KeepsLimits max_depth max_nodes kind whole prefix
  clean_keeps h other limit x = go x
    where
      later : (p : Place) → ElementBegins kind whole other p → ((max_depth ≤ depth p.outer) ⊎ (max_nodes ≤ place_count p)) → length prefix ≤ length other
      later p y k = let lower = at_or_after (length prefix) (suc (length other)) (clean.elements other p y k) (λ l. let same = element_same prefix c more s e r y l in let two : true ≡ false = sym same.0 ∙ h in cc) in omega arith

      go : {l : Limit} → Passes max_depth max_nodes kind whole other l → length prefix ≤ length other
      go (too_deep p y k) = later p y (inl k)
      go (element_too_many p y k) = later p y (inr k)
      go (text_too_many p y k) = clean.texts other p y k

-- at the end none was passed at all
pub clean_end : (max_depth max_nodes : ℕ) (kind : Kind) (whole : List ℕ) → Clean max_depth max_nodes kind whole whole → (other : List ℕ) (limit : Limit) → Passes max_depth max_nodes kind whole other limit → ⊥
clean_end max_depth max_nodes kind whole clean other limit (too_deep p x h) = absurd (omega (arith, clean.elements other p x (inl h), ap length x.spelled, length-append other (60 ∷ x.c ∷ x.rest)))
clean_end max_depth max_nodes kind whole clean other limit (element_too_many p x h) = absurd (omega (arith, clean.elements other p x (inr h), ap length x.spelled, length-append other (60 ∷ x.c ∷ x.rest)))
clean_end max_depth max_nodes kind whole clean other limit (text_too_many p x h) = absurd (omega (arith, clean.texts other p x h, ap length x.spelled, length-append other (x.c ∷ x.rest)))
