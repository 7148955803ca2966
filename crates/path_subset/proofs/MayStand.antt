-- Symbols that may stand may stand with one more symbol, and with those of a selection after it.
use Rattle.std.proofs.Common.{◌≡◌, false, List, [], ◌∷◌, ◌++◌, Option, Some, None, refl, sym, ◌∙◌, ap, subst, append_assoc, append-nil}
use Rattle.selection_grammar.specs.declared.symbol.Placed.{Placed}
use Rattle.path_grammar.specs.steps.Machine.{State, at_root, nothing, advance, run_on, read, open_count}
use Rattle.path_grammar.proofs.Begun.{read-append, read_begins}
use Rattle.path_grammar.specs.Form as form
use Rattle.path_subset.specs.Answer.{before_selection}
use Rattle.path_subset.specs.Limits.{exceeds, goes_on, Within, WithinFrom}
use Rattle.path_subset.specs.Refused as R
use Rattle.path_subset.specs.Refused.{WantSelection, MayStand}
use Rattle.path_subset.specs.Runs.{IsRun, EndsAmong}

-- where symbols with one more among them are parted: before that one, or after it
cut : (u : List Placed) (p : Placed) (v x y : List Placed) (C : Type 0) → u ++ p ∷ v ≡ x ++ y → ((c : List Placed) → u ≡ x ++ c → y ≡ c ++ p ∷ v → C) → ((c : List Placed) → x ≡ u ++ p ∷ c → v ≡ c ++ y → C) → C
cut u p v [] y C e before rest = before u refl (sym e)
cut [] p v (q ∷ x) y C e before rest =
    let head : p ≡ q = cc in
    let tail : v ≡ x ++ y = cc in
    rest x (ap (λ z. z ∷ x) (sym head)) tail
cut (d ∷ u) p v (q ∷ x) y C e before rest =
    let head : d ≡ q = cc in
    let tail : u ++ p ∷ v ≡ x ++ y = cc in
    cut u p v x y C tail (λ c h k. before c (ap (λ z. z ∷ u) head ∙ ap (λ z. q ∷ z) h) k) (λ c h k. rest c (ap (λ z. z ∷ x) (sym head) ∙ ap (λ z. d ∷ z) h) k)

-- no selection comes next
pub wants : (u : List Placed) (t : State) → read u ≡ Some t → before_selection t ≡ None → WantSelection u → ⊥
wants u t r e (R.after_text root frames joint insides steps k) =
    let two : ◌≡◌ {A = Option (Option (List form.Step))} (Some None) (Some (Some steps)) = ap Some (sym e) ∙ ap before (sym r ∙ k) in cc
  where
    before : Option State → Option (Option (List form.Step))
    before None = None
    before (Some s) = Some (before_selection s)

pub nothing_stands : (symbols : List Placed) → MayStand [] symbols
nothing_stands symbols = record {
  begins = read_begins [] (at_root nothing) refl;
  limits = none;
  selections = unread;
}
  where
    none : Within []
    none [] p rest t e r g = cc
    none (b ∷ before) p rest t e r g = cc

    unread : (prefix inner : List Placed) → [] ≡ prefix ++ inner → WantSelection prefix → EndsAmong inner symbols
    unread [] inner e want = absurd (wants [] (at_root nothing) refl refl want)
    unread (q ∷ prefix) inner e want = cc

module _ (done : List Placed) (p : Placed) (prefix rest : List Placed) (h : MayStand done (p ∷ prefix ++ rest)) (real there : State) (r : read done ≡ Some real) (a : advance real p ≡ Some there) where
  reads_on : (v : List Placed) → read (done ++ p ∷ v) ≡ run_on (Some there) v
  reads_on v = read-append done (p ∷ v) ∙ ap (λ o. run_on o (p ∷ v)) r ∙ ap (λ o. run_on o v) a

  module _ (l : exceeds (open_count real) p.symbol ≡ false) (w : WithinFrom there prefix) where
    limit_before : (before : List Placed) (q : Placed) (z : List Placed) (t : State) (c : List Placed) → done ≡ before ++ c → q ∷ z ≡ c ++ p ∷ prefix → read before ≡ Some t → goes_on t q ≡ false → exceeds (open_count t) q.symbol ≡ false
    limit_before before q z t [] i j k g =
        let head : q ≡ p = cc in
        let two : Some t ≡ Some real = sym k ∙ ap read (sym (i ∙ append-nil before)) ∙ r in
        let same : t ≡ real = cc in
        ap (λ (x : State). exceeds (open_count x) q.symbol) same ∙ ap (λ (x : Placed). exceeds (open_count real) x.symbol) head ∙ l
    limit_before before q z t (d ∷ c) i j k g =
        let head : q ≡ d = cc in
        h.limits before q c t (i ∙ ap (λ x. before ++ x ∷ c) (sym head)) k g

    within : Within (done ++ p ∷ prefix)
    within before q z t e k g = cut done p prefix before (q ∷ z) _ e
        (λ c i j. limit_before before q z t c i j k g)
        (λ c i j. w c q z t j (sym (ap read i ∙ reads_on c) ∙ k) g)

    longer : (c y : List Placed) → y ≡ c ++ p ∷ prefix → EndsAmong c (p ∷ prefix ++ rest) → EndsAmong y rest
    longer c y j e = record {
      run = e.run;
      after = e.after ++ p ∷ prefix;
      form = e.form;
      parts = j ∙ ap (λ z. z ++ p ∷ prefix) e.parts ∙ append_assoc e.run e.after (p ∷ prefix);
      is_run = subst (IsRun e.run) (sym (append_assoc e.after (p ∷ prefix) rest)) e.is_run;
      selects = e.selects;
    }

    pub stands_on : (last : State) → run_on (Some there) prefix ≡ Some last → ((c d : List Placed) → prefix ≡ c ++ d → WantSelection (done ++ p ∷ c) → EndsAmong d rest) → MayStand (done ++ p ∷ prefix) rest
    stands_on last runs one = record {
      begins = read_begins (done ++ p ∷ prefix) last (reads_on prefix ∙ runs);
      limits = within;
      selections = λ x y e want. cut done p prefix x y _ e (λ c i j. longer c y j (h.selections x c i want)) (λ c i j. one c y j (subst WantSelection i want));
    }
