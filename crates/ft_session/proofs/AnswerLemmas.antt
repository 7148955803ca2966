-- Replies that are written one after the other.
use Rattle.std.proofs.Common.{◌≡◌, ◌∙◌, sym, ap, refl, ℕ, ◌+◌, ◌<◌, List, [], ◌∷◌, ◌++◌, length, drop, get_or, append_assoc}
use Rattle.std.specs.Prelude.{Option, Some, None, Result, Ok, Err, OnErr}
use Rattle.std.proofs.lemmas.List.{append-nil, at_drop_more}
use Rattle.plan_runs.specs.Judgement.{Judgement}
use Rattle.reply_lines.specs.declared.command.Command.{Command}
use Rattle.session_state.specs.State.{State}
use Rattle.session_state.specs.Step.{replies, state_after, step}
use Rattle.ft_session.specs.Run.{TookPrefix, with_text}
use Rattle.ft_session.proofs.WrittenLemmas.{with_text_twice}

-- a sink that held `before` holds `now`; with the rest it would hold all
pub record WrittenSoFar (before now : Option (List ℕ)) (rest all : List ℕ) : Type 0 where
  pub done : List ℕ
  pub whole : done ++ rest ≡ all
  pub holds : now ≡ with_text before done

pub with_nothing : (before : Option (List ℕ)) → before ≡ with_text before []
with_nothing None = refl
with_nothing (Some bytes) = ap Some (sym (append-nil bytes))

-- one more text is written
pub written_more : (before now next : Option (List ℕ)) (text rest all : List ℕ) → WrittenSoFar before now (text ++ rest) all → next ≡ with_text now text → WrittenSoFar before next rest all
written_more before now next text rest all so_far wrote = record {
  done = so_far.done ++ text;
  whole = append_assoc so_far.done text rest ∙ so_far.whole;
  holds = wrote ∙ (ap (λ w. with_text w text) so_far.holds ∙ with_text_twice before so_far.done text);
}

-- a prefix of one more text is written
pub prefix_more : (before now next : Option (List ℕ)) (text rest all : List ℕ) → WrittenSoFar before now (text ++ rest) all → TookPrefix now next text → TookPrefix before next all
prefix_more before now next text rest all so_far took = record {
  prefix = so_far.done ++ took.prefix;
  rest = took.rest ++ rest;
  whole = append_assoc so_far.done took.prefix (took.rest ++ rest)
      ∙ (ap (λ t. so_far.done ++ t) (sym (append_assoc took.prefix took.rest rest) ∙ ap (λ t. t ++ rest) took.whole) ∙ so_far.whole);
  took = took.took ∙ (ap (λ w. with_text w took.prefix) so_far.holds ∙ with_text_twice before so_far.done took.prefix);
}

-- nothing or all of a text is written
pub prefix_nothing : (before : Option (List ℕ)) (text : List ℕ) → TookPrefix before before text
prefix_nothing before text = record { prefix = []; rest = text; whole = refl; took = with_nothing before }

pub nothing_taken : {T E : Type 0} (r : Result T E) (before : Option (List ℕ)) (text : List ℕ) → OnErr r (TookPrefix before before text)
nothing_taken (Ok x) before text = tt
nothing_taken (Err e) before text = prefix_nothing before text

pub prefix_all : (before after : Option (List ℕ)) (text : List ℕ) → after ≡ with_text before text → TookPrefix before after text
prefix_all before after text wrote = record { prefix = text; rest = []; whole = append-nil text; took = wrote }

pub written_start : (before : Option (List ℕ)) (text all : List ℕ) → text ≡ all → WrittenSoFar before before text all
written_start before text all same = record { done = []; whole = same; holds = with_nothing before }

-- the next command of those that are left
module _ (says : Judgement) (state next : State) (found : List Command) (at : ℕ) (command : Command) (within : at < length found) (is : command ≡ get_or found at command) (after : next ≡ (step says state command).0) where
  -- its reply, and those to what is left
  pub replies-next : replies says state (drop at found) ≡ (step says state command).1 ∷ replies says next (drop (at + 1) found)
  replies-next =
      at_drop_more (replies says state) found at command within
      ∙ (ap (λ (c : Command). replies says state (c ∷ drop (at + 1) found)) (sym is)
      ∙ ap (λ s. (step says state command).1 ∷ replies says s (drop (at + 1) found)) (sym after))

  -- the state that it leaves
  pub state_after-next : state_after says state (drop at found) ≡ state_after says next (drop (at + 1) found)
  state_after-next =
      at_drop_more (state_after says state) found at command within
      ∙ (ap (λ (c : Command). state_after says state (c ∷ drop (at + 1) found)) (sym is) ∙ ap (λ s. state_after says s (drop (at + 1) found)) (sym after))
