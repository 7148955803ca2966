-- Whatever the machine has read is spelled by the grammar: so an accepted text is a document, or a fragment.
use Rattle.std.proofs.Common.{◌≡◌, ℕ, List, [], ◌∷◌, ◌++◌, Option, Some, None, refl, sym, subst, append_assoc}
use Rattle.std.proofs.lemmas.List.{append-nil}
use Rattle.doc_grammar.specs.Grammar as g
use Rattle.doc_grammar.specs.Grammar.{text_node, Document, Fragment}
use Rattle.doc_grammar.specs.steps.Machine as m
use Rattle.doc_grammar.specs.steps.Machine.{Place, Phase, State, run_on, step, step_at, start}
use Rattle.doc_grammar.proofs.Spelled.{Part, Spelled, Next, stop, go}
use Rattle.doc_grammar.specs.Opened.{before, in_fragment}
use Rattle.doc_grammar.proofs.Steps.{Reading, only_step, ready_step, opened_step, comment_step, instruction_step, reference_step, end_name_step, end_spaced_step, literal}
use Rattle.doc_grammar.proofs.StepsOfTags.{start_name_step, spaced_step, attr_name_step, attr_named_step, equals_step, quoted_step, quoted_reference_step, valued_step, slashed_step}

step_spelled : (p : Place) (phase : Phase) (v u w : List ℕ) (c : ℕ) → Reading p v u w → Part p phase u → Next (w ++ c ∷ []) (step_at p phase c)
unfolding step_at
step_spelled p m.ready v u w c r part = ready_step r c part
step_spelled p m.opened v u w c r part = opened_step r c part
step_spelled p m.bang v u w c r part = only_step r 45 c m.bang_dash (literal (60 ∷ 33 ∷ []) part)
step_spelled p m.bang_dash v u w c r part = only_step r 45 c (m.comment 0) (λ h. ([], g.Remark.nothing, literal (60 ∷ 33 ∷ 45 ∷ []) part h))
step_spelled p (m.comment n) v u w c r part = comment_step r n c part
step_spelled p (m.instruction b) v u w c r part = instruction_step r b c part
step_spelled p (m.reference s) v u w c r part = reference_step r s c part
step_spelled p (m.end_name bytes) v u w c r part = end_name_step r bytes c part
step_spelled p m.end_spaced v u w c r part = end_spaced_step r c part
step_spelled p (m.start_name name) v u w c r part = start_name_step r name c part
step_spelled p (m.spaced name attrs) v u w c r part = spaced_step r name attrs c part
step_spelled p (m.attr_name name attrs attr) v u w c r part = attr_name_step r name attrs attr c part
step_spelled p (m.attr_named name attrs attr) v u w c r part = attr_named_step r name attrs attr c part
step_spelled p (m.equals name attrs attr) v u w c r part = equals_step r name attrs attr c part
step_spelled p (m.quoted name attrs attr quote value) v u w c r part = quoted_step r name attrs attr quote value c part
step_spelled p (m.quoted_reference name attrs attr quote value s) v u w c r part = quoted_reference_step r name attrs attr quote value s c part
step_spelled p (m.valued name attrs) v u w c r part = valued_step r name attrs c part
step_spelled p (m.slashed name attrs) v u w c r part = slashed_step r name attrs c part

next_spelled : {w : List ℕ} {s : State} → Spelled w s → (c : ℕ) → Next (w ++ c ∷ []) (step s c)
next_spelled {w = w} {s = s} x c = step_spelled s.place s.phase x.prefix x.part w c (record { is_at = x.is_at; spelled = x.spelled }) x.is_part

pub run_spelled : (w : List ℕ) (o : Option State) (cs : List ℕ) → Next w o → Next (w ++ cs) (run_on o cs)
run_spelled w None cs x = stop
run_spelled w (Some s) [] (go x) = go (subst (λ z. Spelled z s) (sym (append-nil w)) x)
run_spelled w (Some s) (c ∷ cs) (go x) = subst (λ z. Next z (run_on (step s c) cs)) (append_assoc w (c ∷ []) cs) (run_spelled (w ++ c ∷ []) (step s c) cs (next_spelled x c))

pub spelled_from : {w : List ℕ} {o : Option State} → Next w o → (s : State) → o ≡ Some s → Spelled w s
spelled_from stop s e = cc
spelled_from {w = w} (go {s = t} x) s e = subst (λ z. Spelled w z) (let d : t ≡ s = cc in d) x

pub document_spelled : (w : List ℕ) (s : State) → run_on (Some (start m.document)) w ≡ Some s → Spelled w s
document_spelled w s e = spelled_from (run_spelled [] (Some (start m.document)) w (go (record { prefix = []; part = []; is_at = before g.Misc.nothing; is_part = refl; spelled = refl }))) s e

pub fragment_spelled : (w : List ℕ) (s : State) → run_on (Some (start m.fragment)) w ≡ Some s → Spelled w s
fragment_spelled w s e = spelled_from (run_spelled [] (Some (start m.fragment)) w (go (record { prefix = []; part = []; is_at = in_fragment g.Content.nothing; is_part = refl; spelled = refl }))) s e
