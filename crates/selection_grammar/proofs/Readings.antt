-- How far symbols go along shapes that are put together, and what that tells of the shape itself.
use Rattle.std.proofs.Common.{◌≡◌, ℕ, ◌+◌, Bool, true, false, cond, List, [], ◌∷◌, ◌++◌, length, drop, Option, Some, None, Result, Ok, Err, refl, sym, ◌∙◌, ap, subst, arith, append_assoc}
use Rattle.std.proofs.lemmas.List.{append-nil, length-append}
use Rattle.std.proofs.Math.Seq.{drop-append_seam}
use Rattle.selection_grammar.specs.declared.symbol.Placed.{Placed}
use Rattle.selection_grammar.specs.Shapes as shapes
use Rattle.selection_grammar.specs.Shapes.{Shape, whole, nothing, word, number, text, mark, Mark, is_word, is_mark, number_of, text_of, number_leads, text_leads, or_else, and_then, step, run}
use Rattle.selection_grammar.proofs.Ended.{Ends}
use Rattle.selection_grammar.specs.steps.Reading.{reading, first_is, first_is_mark, first_number, first_text, first_place, by_number, by_text, further}

map_number : {A B : Type 0} (f : A → B) (there : ℕ → A) (otherwise : A) (o : Option ℕ) → by_number (λ n. f (there n)) (f otherwise) o ≡ f (by_number there otherwise o)
map_number f there otherwise None = refl
map_number f there otherwise (Some n) = refl

pub same_number : {A : Type 0} (there there' : ℕ → A) (y y' : A) (o : Option ℕ) → ((n : ℕ) → there n ≡ there' n) → y ≡ y' → by_number there y o ≡ by_number there' y' o
same_number there there' y y' None f e = e
same_number there there' y y' (Some n) f e = f n

map_text : {A B : Type 0} (f : A → B) (there : List ℕ → A) (otherwise : A) (o : Option (List ℕ)) → by_text (λ n. f (there n)) (f otherwise) o ≡ f (by_text there otherwise o)
map_text f there otherwise None = refl
map_text f there otherwise (Some n) = refl

pub same_text : {A : Type 0} (there there' : List ℕ → A) (y y' : A) (o : Option (List ℕ)) → ((n : List ℕ) → there n ≡ there' n) → y ≡ y' → by_text there y o ≡ by_text there' y' o
same_text there there' y y' None f e = e
same_text there there' y y' (Some n) f e = f n

pub map_cond : {A B : Type 0} (f : A → B) (b : Bool) (x y : A) → cond b (f x) (f y) ≡ f (cond b x y)
map_cond f true x y = refl
map_cond f false x y = refl

pub same_cond : {A : Type 0} (b : Bool) (x x' y y' : A) → x ≡ x' → y ≡ y' → cond b x y ≡ cond b x' y'
same_cond true x x' y y' e f = e
same_cond false x x' y y' e f = f

-- one shape after another
pub reading-and_then : {A B : Type 0} (t : Shape A) (k : A → Shape B) (w : List Placed) (i : ℕ) → reading (and_then t k) w i ≡ further (reading t w i) (λ a n. reading (k a) w n)
reading-and_then (whole a) k w i = refl
reading-and_then nothing k w i = refl
reading-and_then {A = A} {B = B} (word key to rest) k w i = same_cond (first_is key (drop i w)) _ _ _ _ (reading-and_then (to (first_place (drop i w))) k w (i + 1)) (reading-and_then rest k w i) ∙ map_cond (λ r. further r (λ a n. reading (k a) w n)) (first_is key (drop i w)) (reading (to (first_place (drop i w))) w (i + 1)) (reading rest w i)
reading-and_then (number to rest) k w i = same_number _ _ _ _ (first_number (drop i w)) (λ n. reading-and_then (to n) k w (i + 1)) (reading-and_then rest k w i) ∙ map_number (λ r. further r (λ a n. reading (k a) w n)) (λ n. reading (to n) w (i + 1)) (reading rest w i) (first_number (drop i w))
reading-and_then (text to rest) k w i = same_text _ _ _ _ (first_text (drop i w)) (λ s. reading-and_then (to (first_place (drop i w)) s) k w (i + 1)) (reading-and_then rest k w i) ∙ map_text (λ r. further r (λ a n. reading (k a) w n)) (λ s. reading (to (first_place (drop i w)) s) w (i + 1)) (reading rest w i) (first_text (drop i w))
reading-and_then (mark m to rest) k w i = same_cond (first_is_mark m (drop i w)) _ _ _ _ (reading-and_then to k w (i + 1)) (reading-and_then rest k w i) ∙ map_cond (λ r. further r (λ a n. reading (k a) w n)) (first_is_mark m (drop i w)) (reading to w (i + 1)) (reading rest w i)

pub same_further : {A B : Type 0} (r : Result (A × ℕ) ℕ) (f g : A → ℕ → Result (B × ℕ) ℕ) → ((a : A) (n : ℕ) → f a n ≡ g a n) → further r f ≡ further r g
same_further (Ok (a, n)) f g h = h a n
same_further (Err n) f g h = refl

-- symbols after others go along a shape up to a number, and to where they lead
pub record Along {A : Type 0} (t : Shape A) (u v : List Placed) (n : ℕ) (r : Shape A) : Type 0 where
  pub prefix : List Placed
  pub back : List Placed
  pub spelled : v ≡ prefix ++ back
  pub counted : n ≡ length (u ++ prefix)
  pub runs : run (Some t) prefix ≡ Some r

abbrev pub is_whole : {A : Type 0} → Shape A → Bool
is_whole (whole a) = true
is_whole nothing = false
is_whole (word key to rest) = false
is_whole (number to rest) = false
is_whole (text to rest) = false
is_whole (mark m to rest) = false

-- and the symbol of that number leads nowhere
pub record Stopped {A : Type 0} (t : Shape A) (u v : List Placed) (n : ℕ) : Type 0 where
  pub last : Shape A
  pub along : Along t u v n last
  pub stops : (p : Placed) (z : List Placed) → along.back ≡ p ∷ z → step last p ≡ None
  pub unfinished : is_whole last ≡ false

abbrev pub Outcome : {A : Type 0} → Shape A → List Placed → List Placed → Result (A × ℕ) ℕ → Type 0
Outcome t u v (Ok (a, n)) = Along t u v n (whole a)
Outcome t u v (Err n) = Stopped t u v n

along_cons : {A : Type 0} (t to r : Shape A) (u z : List Placed) (p : Placed) (n : ℕ) → step t p ≡ Some to → Along to (u ++ p ∷ []) z n r → Along t u (p ∷ z) n r
along_cons t to r u z p n e a = record { prefix = p ∷ a.prefix; back = a.back; spelled = ap (λ w. p ∷ w) a.spelled; counted = a.counted ∙ ap length (append_assoc u (p ∷ []) a.prefix); runs = ap (λ o. run o a.prefix) e ∙ a.runs }

outcome_cons : {A : Type 0} (t to : Shape A) (u z v : List Placed) (p : Placed) (r : Result (A × ℕ) ℕ) → v ≡ p ∷ z → step t p ≡ Some to → Outcome to (u ++ p ∷ []) z r → Outcome t u v r
unfolding along_cons
outcome_cons t to u z v p (Ok (a, n)) s e x = subst (λ w. Along t u w n (whole a)) (sym s) (along_cons t to (whole a) u z p n e x)
outcome_cons t to u z v p (Err n) s e x = subst (λ w. Stopped t u w n) (sym s) (record { last = x.last; along = along_cons t to x.last u z p n e x.along; stops = x.stops; unfinished = x.unfinished })

-- what goes along the rest of a choice goes along the choice
along_past : {A : Type 0} (t rest r : Shape A) (u v : List Placed) (n : ℕ) (f : List Placed) (b : List Placed) → ((p : Placed) (z : List Placed) → v ≡ p ∷ z → step t p ≡ step rest p) → (p : Placed) → v ≡ (p ∷ f) ++ b → n ≡ length (u ++ p ∷ f) → run (Some rest) (p ∷ f) ≡ Some r → Along t u v n r
along_past t rest r u v n f b same p s c e = record { prefix = p ∷ f; back = b; spelled = s; counted = c; runs = ap (λ o. run o f) (same p (f ++ b) s) ∙ e }

outcome_past : {A : Type 0} (t rest : Shape A) (u v : List Placed) (r : Result (A × ℕ) ℕ) → is_whole t ≡ false → ((p : Placed) (z : List Placed) → v ≡ p ∷ z → step t p ≡ step rest p) → Ends true rest → Outcome rest u v r → Outcome t u v r
unfolding along_past
outcome_past t rest u v (Ok (a, n)) open_end same ends x = go x.prefix x.back x.spelled x.counted x.runs
  where
    go : (f b : List Placed) → v ≡ f ++ b → n ≡ length (u ++ f) → run (Some rest) f ≡ Some (whole a) → Along t u v n (whole a)
    go [] b s c e = let is_end : rest ≡ whole a = cc in absurd (subst (Ends true) is_end ends)
    go (p ∷ f) b s c e = along_past t rest (whole a) u v n f b same p s c e
outcome_past {A = A} t rest u v (Err n) open_end same ends x = go x.last x.along.prefix x.along.back x.along.spelled x.along.counted x.along.runs x.stops x.unfinished
  where
    go : (l : Shape A) (f b : List Placed) → v ≡ f ++ b → n ≡ length (u ++ f) → run (Some rest) f ≡ Some l → ((p : Placed) (z : List Placed) → b ≡ p ∷ z → step l p ≡ None) → is_whole l ≡ false → Stopped t u v n
    go l [] b s c e stops unfinished = record {
      last = t;
      along = record { prefix = []; back = b; spelled = s; counted = c; runs = refl };
      stops = λ p z k. let same_last : rest ≡ l = cc in same p z (s ∙ k) ∙ ap (λ q. step q p) same_last ∙ stops p z k;
      unfinished = open_end;
    }
    go l (p ∷ f) b s c e stops unfinished = record { last = l; along = along_past t rest l u v n f b same p s c e; stops = stops; unfinished = unfinished }

shifted : {A : Type 0} (t : Shape A) (u z : List Placed) (p : Placed) → reading t ((u ++ p ∷ []) ++ z) (length (u ++ p ∷ [])) ≡ reading t (u ++ p ∷ z) (length u + 1)
shifted t u z p = ap (λ w. reading t w (length (u ++ p ∷ []))) (append_assoc u (p ∷ []) z) ∙ ap (reading t (u ++ p ∷ z)) (omega (arith, length-append u (p ∷ [])))

word_case : {B : Type 0} (key : List ℕ) (v : List Placed) (x : ℕ → B) (y r : B) (C : Type 0) → ((p : Placed) (z : List Placed) → v ≡ p ∷ z → is_word key p.symbol ≡ true → x p.from ≡ r → C) → (((p : Placed) (z : List Placed) → v ≡ p ∷ z → is_word key p.symbol ≡ false) → y ≡ r → C) → cond (first_is key v) (x (first_place v)) y ≡ r → C
word_case key [] x y r C there past e = past (λ p z k. cc) e
word_case key (q ∷ w) x y r C there past e = go (is_word key q.symbol) refl e
  where
    go : (b : Bool) → is_word key q.symbol ≡ b → cond b (x q.from) y ≡ r → C
    go true k h = there q w refl k h
    go false k h = past (λ p z s. let same : q ≡ p = cc in subst (λ (o : Placed). is_word key o.symbol ≡ false) same k) h

mark_case : {B : Type 0} (m : Mark) (v : List Placed) (x y r : B) (C : Type 0) → ((p : Placed) (z : List Placed) → v ≡ p ∷ z → is_mark m p.symbol ≡ true → x ≡ r → C) → (((p : Placed) (z : List Placed) → v ≡ p ∷ z → is_mark m p.symbol ≡ false) → y ≡ r → C) → cond (first_is_mark m v) x y ≡ r → C
mark_case m [] x y r C there past e = past (λ p z k. cc) e
mark_case m (q ∷ w) x y r C there past e = go (is_mark m q.symbol) refl e
  where
    go : (b : Bool) → is_mark m q.symbol ≡ b → cond b x y ≡ r → C
    go true k h = there q w refl k h
    go false k h = past (λ p z s. let same : q ≡ p = cc in subst (λ (o : Placed). is_mark m o.symbol ≡ false) same k) h

number_case : {B : Type 0} (v : List Placed) (x : ℕ → B) (y r : B) (C : Type 0) → ((p : Placed) (z : List Placed) (n : ℕ) → v ≡ p ∷ z → number_of p.symbol ≡ Some n → x n ≡ r → C) → (((p : Placed) (z : List Placed) → v ≡ p ∷ z → number_of p.symbol ≡ None) → y ≡ r → C) → by_number x y (first_number v) ≡ r → C
number_case [] x y r C there past e = past (λ p z k. cc) e
number_case (q ∷ w) x y r C there past e = go (number_of q.symbol) refl e
  where
    go : (o : Option ℕ) → number_of q.symbol ≡ o → by_number x y o ≡ r → C
    go (Some n) k h = there q w n refl k h
    go None k h = past (λ p z s. let same : q ≡ p = cc in subst (λ (o : Placed). number_of o.symbol ≡ None) same k) h

text_case : {B : Type 0} (v : List Placed) (x : ℕ → List ℕ → B) (y r : B) (C : Type 0) → ((p : Placed) (z : List Placed) (n : List ℕ) → v ≡ p ∷ z → text_of p.symbol ≡ Some n → x p.from n ≡ r → C) → (((p : Placed) (z : List Placed) → v ≡ p ∷ z → text_of p.symbol ≡ None) → y ≡ r → C) → by_text (x (first_place v)) y (first_text v) ≡ r → C
text_case [] x y r C there past e = past (λ p z k. cc) e
text_case (q ∷ w) x y r C there past e = go (text_of q.symbol) refl e
  where
    go : (o : Option (List ℕ)) → text_of q.symbol ≡ o → by_text (x q.from) y o ≡ r → C
    go (Some n) k h = there q w n refl k h
    go None k h = past (λ p z s. let same : q ≡ p = cc in subst (λ (o : Placed). text_of o.symbol ≡ None) same k) h

pub outcome : {A : Type 0} (b : Bool) (t : Shape A) → Ends b t → (u v : List Placed) (r : Result (A × ℕ) ℕ) → reading t (u ++ v) (length u) ≡ r → Outcome t u v r
outcome {A = A} b (whole a) h u v r e = subst (Outcome (whole a) u v) e (record { prefix = []; back = v; spelled = refl; counted = ap length (sym (append-nil u)); runs = refl })
outcome {A = A} b nothing h u v r e = subst (Outcome nothing u v) e (record { last = nothing; along = record { prefix = []; back = v; spelled = refl; counted = ap length (sym (append-nil u)); runs = refl }; stops = λ p z k. refl; unfinished = refl })
outcome {A = A} b (word key to rest) h u v r e = word_case key v (λ i. reading (to i) (u ++ v) (length u + 1)) (reading rest (u ++ v) (length u)) r (Outcome (word key to rest) u v r)
    (λ p z s k i. outcome_cons (word key to rest) (to p.from) u z v p r s (ap (λ c. cond c (Some (to p.from)) (step rest p)) k) (outcome false (to p.from) (h.0 p.from) (u ++ p ∷ []) z r (shifted (to p.from) u z p ∙ ap (λ w. reading (to p.from) (u ++ w) (length u + 1)) (sym s) ∙ i)))
    (λ k i. outcome_past (word key to rest) rest u v r refl (λ p z s. ap (λ c. cond c (Some (to p.from)) (step rest p)) (k p z s)) h.1 (outcome true rest h.1 u v r i))
    (ap (λ w. cond (first_is key w) (reading (to (first_place w)) (u ++ v) (length u + 1)) (reading rest (u ++ v) (length u))) (sym (drop-append_seam u v)) ∙ e)
outcome {A = A} b (mark m to rest) h u v r e = mark_case m v (reading to (u ++ v) (length u + 1)) (reading rest (u ++ v) (length u)) r (Outcome (mark m to rest) u v r)
    (λ p z s k i. outcome_cons (mark m to rest) to u z v p r s (ap (λ c. cond c (Some to) (step rest p)) k) (outcome false to h.0 (u ++ p ∷ []) z r (shifted to u z p ∙ ap (λ w. reading to (u ++ w) (length u + 1)) (sym s) ∙ i)))
    (λ k i. outcome_past (mark m to rest) rest u v r refl (λ p z s. ap (λ c. cond c (Some to) (step rest p)) (k p z s)) h.1 (outcome true rest h.1 u v r i))
    (ap (λ w. cond (first_is_mark m w) (reading to (u ++ v) (length u + 1)) (reading rest (u ++ v) (length u))) (sym (drop-append_seam u v)) ∙ e)
outcome {A = A} b (number to rest) h u v r e = number_case v (λ n. reading (to n) (u ++ v) (length u + 1)) (reading rest (u ++ v) (length u)) r (Outcome (number to rest) u v r)
    (λ p z n s k i. outcome_cons (number to rest) (to n) u z v p r s (ap (number_leads to (step rest p)) k) (outcome false (to n) (h.0 n) (u ++ p ∷ []) z r (shifted (to n) u z p ∙ ap (λ w. reading (to n) (u ++ w) (length u + 1)) (sym s) ∙ i)))
    (λ k i. outcome_past (number to rest) rest u v r refl (λ p z s. ap (number_leads to (step rest p)) (k p z s)) h.1 (outcome true rest h.1 u v r i))
    (ap (λ w. by_number (λ n. reading (to n) (u ++ v) (length u + 1)) (reading rest (u ++ v) (length u)) (first_number w)) (sym (drop-append_seam u v)) ∙ e)
outcome {A = A} b (text to rest) h u v r e = text_case v (λ i n. reading (to i n) (u ++ v) (length u + 1)) (reading rest (u ++ v) (length u)) r (Outcome (text to rest) u v r)
    (λ p z n s k i. outcome_cons (text to rest) (to p.from n) u z v p r s (ap (text_leads (to p.from) (step rest p)) k) (outcome false (to p.from n) (h.0 p.from n) (u ++ p ∷ []) z r (shifted (to p.from n) u z p ∙ ap (λ w. reading (to p.from n) (u ++ w) (length u + 1)) (sym s) ∙ i)))
    (λ k i. outcome_past (text to rest) rest u v r refl (λ p z s. ap (text_leads (to p.from) (step rest p)) (k p z s)) h.1 (outcome true rest h.1 u v r i))
    (ap (λ w. by_text (λ n. reading (to (first_place w) n) (u ++ v) (length u + 1)) (reading rest (u ++ v) (length u)) (first_text w)) (sym (drop-append_seam u v)) ∙ e)
