-- How far a session is read, carried out and answered.
use Rattle.std.proofs.Common.{◌≡◌, ◌∙◌, sym, ap, refl, ℕ, ◌+◌, ◌≤◌, Bool, false, ◌||◌, List, [], ◌∷◌, ◌++◌, length, take, drop, append_assoc, append-nil, length-append, length-take, subst, arith}
use Rattle.std.specs.Prelude.{Option, Some, None, IfSome, Result, Ok, Err, IfOk, OnOk, OnErr}
use Rattle.std.specs.List.{list_any}
use Rattle.std.proofs.lemmas.List.{drop_all, take-append-drop, length-take-le}
use Rattle.std.proofs.lemmas.List.Folds.{list_any-append}
use Rattle.ft_io.specs.Shelf.{Reads}
use Rattle.plan_runs.specs.Judgement.{Judgement}
use Rattle.reply_lines.specs.declared.command.Command.{Command}
use Rattle.reply_lines.specs.declared.reply.Reply.{Reply}
use Rattle.session_text.specs.Commands.{commands, whole}
use Rattle.session_text.specs.Reading.{Reading, new_reading, commands_left, whole_left}
use Rattle.reply_lines.specs.Replies.{is_refusal, reply_text}
use Rattle.session_state.specs.State.{State, opening}
use Rattle.session_state.specs.Step.{replies, state_after, step}
use Rattle.ft_session.specs.declared.answering.AnswerError.{AnswerError}
use Rattle.ft_session.specs.Output.{texts_of, replies_to, replies_to_whole, output, output_of_whole, has_refusal}
use Rattle.ft_session.specs.steps.Pieces.{Answered}
use Rattle.ft_session.specs.Run.{BeginsWith, TookPrefix, with_text}
use Rattle.ft_session.proofs.AnswerLemmas.{prefix_nothing, with_nothing}
use Rattle.ft_session.proofs.ReadLemmas.{known_prefix_grows}
use Rattle.ft_session.proofs.WrittenLemmas.{with_text_twice}

-- `fed` are the bytes taken, and `done` the replies written. What the reader has left is what the session has left.
pub record Progress (says : Judgement) (known before now : Option (List ℕ)) (taken : ℕ) (reader : Reading) (state : State) (refused : Bool) : Type 0 where
  pub fed : List ℕ
  pub done : List Reply
  pub long : length fed ≡ taken
  pub begins : BeginsWith known fed
  pub all : (more : List ℕ) → replies_to says (fed ++ more) ≡ done ++ replies says state (commands_left reader more)
  pub all_whole : (more : List ℕ) → replies_to_whole says (fed ++ more) ≡ done ++ replies says state (whole_left reader more)
  pub none_held : whole_left reader [] ≡ []
  pub holds : now ≡ with_text before (texts_of done)
  pub refuses : refused ≡ list_any is_refusal done

-- ---- replies one after the other

pub replies-append : (says : Judgement) (state : State) (a b : List Command) → replies says state (a ++ b) ≡ replies says state a ++ replies says (state_after says state a) b
replies-append says state [] b = refl
replies-append says state (c ∷ a) b = ap (λ rs. (step says state c).1 ∷ rs) (replies-append says (step says state c).0 a b)

pub texts_of-append : (a b : List Reply) → texts_of (a ++ b) ≡ texts_of a ++ texts_of b
texts_of-append [] b = refl
texts_of-append (r ∷ a) b = ap (λ t. reply_text r ++ t) (texts_of-append a b) ∙ sym (append_assoc (reply_text r) (texts_of a) (texts_of b))

-- ---- the progress of a session

begins_with-nothing : (known : Option (List ℕ)) → BeginsWith known []
begins_with-nothing None = tt
begins_with-nothing (Some bytes) = refl

replies_to-left : (says : Judgement) (session : List ℕ) → replies_to says session ≡ replies says opening (commands_left new_reading session)
unfolding replies_to
replies_to-left says session = refl

replies_to_whole-left : (says : Judgement) (session : List ℕ) → replies_to_whole says session ≡ replies says opening (whole_left new_reading session)
unfolding replies_to_whole
replies_to_whole-left says session = refl

-- before the first piece
pub progress_start : (says : Judgement) (known before : Option (List ℕ)) (reader : Reading) (state : State) → reader ≡ new_reading → state ≡ opening → Progress says known before before 0 reader state false
progress_start says known before reader state new opened = rw (new, opened) (record {
  fed = [];
  done = [];
  long = refl;
  begins = begins_with-nothing known;
  all = replies_to-left says;
  all_whole = replies_to_whole-left says;
  none_held = refl;
  holds = with_nothing before;
  refuses = refl;
})

-- ---- one piece more

module _ (says : Judgement) (known before now next : Option (List ℕ)) (taken count : ℕ) (reader after : Reading) (state left : State) (refused refuses : Bool) (piece buffer : List ℕ) where
  regroup : (fed more : List ℕ) (done : List Reply) (given : List Command) (rest : List Command) → replies says state (given ++ rest) ≡ replies says state given ++ replies says left rest
      → done ++ replies says state (given ++ rest) ≡ (done ++ replies says state given) ++ replies says left rest
  regroup fed more done given rest split = ap (λ rs. done ++ rs) split ∙ sym (append_assoc done (replies says state given) (replies says left rest))

  split_at : (given rest : List Command) → left ≡ state_after says state given → replies says state (given ++ rest) ≡ replies says state given ++ replies says left rest
  split_at given rest carried = replies-append says state given rest ∙ ap (λ s. replies says state given ++ replies says s rest) (sym carried)

  pub progress_more : Progress says known before now taken reader state refused → Answered says reader after state left piece refuses now next
      → IfSome known (λ bytes. Reads bytes taken count buffer) → count ≤ length buffer → piece ≡ take count buffer
      → Progress says known before next (taken + count) after left (refused || refuses)
  progress_more p a reads within is = record {
    fed = p.fed ++ piece;
    done = p.done ++ replies says state a.given;
    long = length-append p.fed piece ∙ (ap (λ n. n + length piece) p.long ∙ ap (λ n. taken + n) (ap length is ∙ length-take-le count buffer within));
    begins = known_prefix_grows known p.fed buffer (p.fed ++ piece) taken count (sym p.long) within reads (ap (λ b. p.fed ++ b) is) p.begins;
    all = λ more. ap (replies_to says) (append_assoc p.fed piece more) ∙ (p.all (piece ++ more) ∙ (ap (λ cs. p.done ++ replies says state cs) (a.commands more)
        ∙ regroup p.fed more p.done a.given (commands_left after more) (split_at a.given (commands_left after more) a.carried_out)));
    all_whole = λ more. ap (replies_to_whole says) (append_assoc p.fed piece more) ∙ (p.all_whole (piece ++ more) ∙ (ap (λ cs. p.done ++ replies says state cs) (a.whole more)
        ∙ regroup p.fed more p.done a.given (whole_left after more) (split_at a.given (whole_left after more) a.carried_out)));
    none_held = a.none_held;
    holds = a.written ∙ (ap (λ w. with_text w (texts_of (replies says state a.given))) p.holds
        ∙ (with_text_twice before (texts_of p.done) (texts_of (replies says state a.given)) ∙ ap (with_text before) (sym (texts_of-append p.done (replies says state a.given)))));
    refuses = ap (λ b. refused || b) a.refuses ∙ (ap (λ b. b || list_any is_refusal (replies says state a.given)) p.refuses ∙ sym (list_any-append is_refusal p.done (replies says state a.given)));
  }

-- ---- what is left of a known file

rest_any : (known : Option (List ℕ)) (P : List ℕ → Type 0) (taken : ℕ) → ((more : List ℕ) → P more) → IfSome known (λ session. P (drop taken session))
rest_any None P taken holds = tt
rest_any (Some session) P taken holds = holds (drop taken session)

-- a piece that was read, and more
pub rest_piece : (known : Option (List ℕ)) (P : List ℕ → Type 0) (taken count : ℕ) (buffer piece : List ℕ) → IfSome known (λ bytes. Reads bytes taken count buffer) → piece ≡ take count buffer
    → ((more : List ℕ) → P (piece ++ more)) → IfSome known (λ session. P (drop taken session))
rest_piece None P taken count buffer piece reads is holds = tt
rest_piece (Some session) P taken count buffer piece reads is holds =
    let left = drop taken session in
    subst P (ap (λ prefix. prefix ++ drop count left) (is ∙ reads.read) ∙ take-append-drop count left) (holds (drop count left))

-- ---- what an answered piece says

pub answered : (says : Judgement) (result : Result Bool AnswerError) (reader next : Reading) (state after : State) (piece : List ℕ) (before now : Option (List ℕ)) (given : List Command)
    → ((more : List ℕ) → commands_left reader (piece ++ more) ≡ given ++ commands_left next more) → ((more : List ℕ) → whole_left reader (piece ++ more) ≡ given ++ whole_left next more) → whole_left next [] ≡ []
    → OnOk result (after ≡ state_after says state given) → IfOk result (λ refused. refused ≡ list_any is_refusal (replies says state given)) → OnOk result (now ≡ with_text before (texts_of (replies says state given)))
    → IfOk result (λ refused. Answered says reader next state after piece refused before now)
answered says (Ok refused) reader next state after piece before now given commands whole none carried refuses wrote =
    record { given = given; commands = commands; whole = whole; none_held = none; carried_out = carried; refuses = refuses; written = wrote }
answered says (Err error) reader next state after piece before now given commands whole none carried refuses wrote = tt

pub answered_prefix : (says : Judgement) (result : Result Bool AnswerError) (reader next : Reading) (state : State) (piece : List ℕ) (before now : Option (List ℕ)) (given : List Command)
    → ((more : List ℕ) → commands_left reader (piece ++ more) ≡ given ++ commands_left next more) → OnErr result (TookPrefix before now (texts_of (replies says state given)))
    → OnErr result ((more : List ℕ) → TookPrefix before now (texts_of (replies says state (commands_left reader (piece ++ more)))))
answered_prefix says (Ok refused) reader next state piece before now given commands took = tt
answered_prefix says (Err error) reader next state piece before now given commands took = λ more.
    let left = replies says (state_after says state given) (commands_left next more) in
    record {
      prefix = took.prefix;
      rest = took.rest ++ texts_of left;
      whole = sym (append_assoc took.prefix took.rest (texts_of left)) ∙ (ap (λ t. t ++ texts_of left) took.whole
          ∙ (sym (texts_of-append (replies says state given) left)
          ∙ ap texts_of (sym (replies-append says state given (commands_left next more)) ∙ ap (replies says state) (sym (commands more)))));
      took = took.took;
    }

-- ---- where it stops

module _ (says : Judgement) (known before now : Option (List ℕ)) (taken : ℕ) (reader : Reading) (state : State) (refused : Bool) (p : Progress says known before now taken reader state refused) where
  -- what was taken is a prefix of a known file
  fed_is : (session : List ℕ) → known ≡ Some session → p.fed ≡ take taken session
  fed_is session tells = subst (λ (t : Option (List ℕ)). BeginsWith t p.fed) tells p.begins ∙ ap (λ n. take n session) p.long

  -- the replies written and those that are left are those to the session
  left_of : (session : List ℕ) → known ≡ Some session → replies_to says session ≡ p.done ++ replies says state (commands_left reader (drop taken session))
  left_of session tells = ap (replies_to says) (sym (take-append-drop taken session)) ∙ (ap (λ f. replies_to says (f ++ drop taken session)) (sym (fed_is session tells)) ∙ p.all (drop taken session))

  -- the replies to the commands that were whole are written
  pub progress_whole : IfSome known (λ session. now ≡ with_text before (output_of_whole says (take taken session)))
  progress_whole = by known refl
    where
      done_is : p.done ≡ replies_to_whole says p.fed
      done_is = sym (append-nil p.done) ∙ (ap (λ cs. p.done ++ replies says state cs) (sym p.none_held) ∙ (sym (p.all_whole []) ∙ ap (replies_to_whole says) (append-nil p.fed)))

      by : (t : Option (List ℕ)) → known ≡ t → IfSome t (λ session. now ≡ with_text before (output_of_whole says (take taken session)))
      by None tells = tt
      by (Some session) tells = p.holds ∙ (ap (λ rs. with_text before (texts_of rs)) done_is ∙ ap (λ f. with_text before (output_of_whole says f)) (fed_is session tells))

  -- a prefix of the replies to what is left was written after them
  pub progress_prefix : (next : Option (List ℕ)) → IfSome known (λ session. TookPrefix now next (texts_of (replies says state (commands_left reader (drop taken session))))) → IfSome known (λ session. TookPrefix before next (output says session))
  progress_prefix next = by known refl
    where
      by : (t : Option (List ℕ)) → known ≡ t → IfSome t (λ session. TookPrefix now next (texts_of (replies says state (commands_left reader (drop taken session))))) → IfSome t (λ session. TookPrefix before next (output says session))
      by None tells took = tt
      by (Some session) tells took = record {
        prefix = texts_of p.done ++ took.prefix;
        rest = took.rest;
        whole = append_assoc (texts_of p.done) took.prefix took.rest ∙ (ap (λ t. texts_of p.done ++ t) took.whole
            ∙ (sym (texts_of-append p.done (replies says state (commands_left reader (drop taken session)))) ∙ ap texts_of (sym (left_of session tells))));
        took = took.took ∙ (ap (λ w. with_text w took.prefix) p.holds ∙ with_text_twice before (texts_of p.done) took.prefix);
      }

  -- nothing more was written
  pub progress_stays : IfSome known (λ session. TookPrefix before now (output says session))
  progress_stays = progress_prefix now (rest_any known (λ more. TookPrefix now now (texts_of (replies says state (commands_left reader more)))) taken (λ more. prefix_nothing now (texts_of (replies says state (commands_left reader more)))))

  -- no more was taken than there is
  pub progress_within : IfSome known (λ session. taken ≤ length session)
  progress_within = by known refl
    where
      by : (t : Option (List ℕ)) → known ≡ t → IfSome t (λ session. taken ≤ length session)
      by None tells = tt
      by (Some session) tells =
          let long : length (take taken session) ≡ taken = sym (ap length (fed_is session tells)) ∙ p.long in
          omega (arith, long, length-take taken session)

  -- ---- the file ended

  module _ (count reached : ℕ) (buffer : List ℕ) (none : count ≡ 0) (reads : IfSome known (λ bytes. Reads bytes taken count buffer)) where
    pub progress_length : reached ≡ taken + count → IfSome known (λ session. reached ≡ length session)
    progress_length to = by known reads progress_within
      where
        by : (t : Option (List ℕ)) → IfSome t (λ bytes. Reads bytes taken count buffer) → IfSome t (λ session. taken ≤ length session) → IfSome t (λ session. reached ≡ length session)
        by None r within = tt
        by (Some session) r within = let past : length session ≤ taken = r.ends.0 none in omega arith

    pub progress_end : (P : List ℕ → Type 0) → P [] → IfSome known (λ session. P (drop taken session))
    progress_end P holds = by known reads
      where
        by : (t : Option (List ℕ)) → IfSome t (λ bytes. Reads bytes taken count buffer) → IfSome t (λ session. P (drop taken session))
        by None r = tt
        by (Some session) r = subst P (sym (drop_all taken session (r.ends.0 none))) holds

    -- the replies to all commands are written, and one of them is a refusal or none is
    pub progress_all : (next : Option (List ℕ)) → next ≡ with_text now (texts_of (replies says state (commands_left reader []))) → IfSome known (λ session. next ≡ with_text before (output says session))
    progress_all next wrote = by known refl (progress_end (λ more. next ≡ with_text now (texts_of (replies says state (commands_left reader more)))) wrote)
      where
        by : (t : Option (List ℕ)) → known ≡ t → IfSome t (λ session. next ≡ with_text now (texts_of (replies says state (commands_left reader (drop taken session))))) → IfSome t (λ session. next ≡ with_text before (output says session))
        by None tells w = tt
        by (Some session) tells w =
            let left = replies says state (commands_left reader (drop taken session)) in
            w ∙ (ap (λ h. with_text h (texts_of left)) p.holds ∙ (with_text_twice before (texts_of p.done) (texts_of left)
            ∙ ap (with_text before) (sym (texts_of-append p.done left) ∙ ap texts_of (sym (left_of session tells)))))

    pub progress_refuses : (refuses : Bool) → refuses ≡ list_any is_refusal (replies says state (commands_left reader [])) → IfSome known (λ session. (refused || refuses) ≡ has_refusal says session)
    progress_refuses refuses is = by known refl (progress_end (λ more. refuses ≡ list_any is_refusal (replies says state (commands_left reader more))) is)
      where
        by : (t : Option (List ℕ)) → known ≡ t → IfSome t (λ session. refuses ≡ list_any is_refusal (replies says state (commands_left reader (drop taken session)))) → IfSome t (λ session. (refused || refuses) ≡ has_refusal says session)
        by None tells r = tt
        by (Some session) tells r =
            let left = replies says state (commands_left reader (drop taken session)) in
            ap (λ b. refused || b) r ∙ (ap (λ b. b || list_any is_refusal left) p.refuses
            ∙ (sym (list_any-append is_refusal p.done left) ∙ ap (list_any is_refusal) (sym (left_of session tells))))
