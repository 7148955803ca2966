-- What each way out of the loop leaves.
use Rattle.std.proofs.Common.{◌≡◌, ◌∙◌, sym, ap, refl, subst, arith, rules, ◌+◌, ◌<◌, ◌≤◌, [], ℕ, length, take}
use Rattle.std.proofs.lemmas.List.{length-take-le}
use Rattle.std.specs.Prelude.{Option, IfSome, IsSome, string_bytes}
use Rattle.ft_base.specs.Limits.{max_session_bytes}
use Rattle.ft_io.specs.Shelf.{Files, Reads, bytes_of, known_bytes}
use Rattle.session_text.specs.Reading.{commands_left}
use Rattle.session_state.specs.Step.{replies}
use Rattle.ft_session.specs.Output.{output_of_whole, texts_of}
use Rattle.ft_session.specs.Run.{TookPrefix, with_text}
use Rattle.ft_session.proofs.AnswerLemmas.{prefix_all}
use Rattle.ft_session.proofs.FileLemmas.{all_answered, answer_stopped, long_stopped, memory_stopped, nothing_written, read_stopped}
use Rattle.ft_session.proofs.ProgressLemmas.{progress_all, progress_end, progress_prefix, progress_length, progress_more, progress_refuses, progress_start, progress_stays, progress_whole, progress_within, rest_piece}
use Rattle.ft_session.proofs.ReadLemmas.{take_prefix}
use Rattle.ft_session.proofs.StoppedLemmas.{unanswered_as}
use Rattle.ft_session.proofs.pieces.answer_pieces.Goals as goal

pub loop-taken-init : goal.loop-taken-init
loop-taken-init g c = record {
  below = omega arith;
  room = c.in_ok-piece.ensures;
  reached = c.requires.fresh;
  read_faults = refl;
  files = refl;
  write_faults = refl;
  bytes = ap (λ r. r.bytes) c.requires.reading;
  progress = progress_start g.J.Judge.says (known_bytes (g.S.Shelf.files c.args.shelf.now) (string_bytes c.args.name.now)) (g.K.Sink.written c.args.sink.now) c.args.answering.now.lines c.args.answering.now.session.state c.requires.reading c.requires.opening;
}

pub returns-in_err-piece : goal.returns-in_err-piece
returns-in_err-piece g c =
    let known = known_bytes (g.S.Shelf.files c.args.shelf.now) (string_bytes c.args.name.now) in
    let few = c.requires.fresh in
    memory_stopped g.J.Judge.says _ _ _ _ _ _ _ _ _ c.from_residual.result c.from_residual.ensures.1 (nothing_written g.J.Judge.says known (g.K.Sink.written c.args.sink.now)) (omega (arith, few))

pub returns-in_default : goal.returns-in_default
returns-in_default g c =
    let known = known_bytes (g.S.Shelf.files c.args.shelf.now) (string_bytes c.args.name.now) in
    let before = g.K.Sink.written c.args.sink.now in
    let now = g.K.Sink.written c.loop-taken.sink in
    let a = c.loop-taken.answering in
    let p = c.loop-taken.invariant.progress in
    let reached : g.S.Shelf.reached c.read_piece.new.shelf (string_bytes c.args.name.now) ≡ c.loop-taken.taken = search rules in
    let fault : g.S.Shelf.faults c.args.shelf.now (string_bytes c.args.name.now) < g.S.Shelf.faults c.read_piece.new.shelf (string_bytes c.args.name.now) = search rules in
    read_stopped g.J.Judge.says _ _ _ _ _ _ _ _ _ (progress_stays g.J.Judge.says known before now c.loop-taken.taken a.lines a.session.state c.loop-taken.refused p) (omega arith) fault
    (subst (λ (n : ℕ). IfSome known (λ session. now ≡ with_text before (output_of_whole g.J.Judge.says (take n session)))) (sym reached) (progress_whole g.J.Judge.says known before now c.loop-taken.taken a.lines a.session.state c.loop-taken.refused p))

pub returns : goal.returns
returns g c =
    let known = known_bytes (g.S.Shelf.files c.args.shelf.now) (string_bytes c.args.name.now) in
    let before = g.K.Sink.written c.args.sink.now in
    let now = g.K.Sink.written c.loop-taken.sink in
    let a = c.loop-taken.answering in
    let p = c.loop-taken.invariant.progress in
    let most : c.loop-taken.taken ≡ max_session_bytes + 1 = omega arith in
    long_stopped g.J.Judge.says _ _ _ _ _ _ _ _ _ (progress_stays g.J.Judge.says known before now c.loop-taken.taken a.lines a.session.state c.loop-taken.refused p) (c.loop-taken.invariant.reached ∙ most) c.loop-taken.invariant.write_faults
    (subst (λ (n : ℕ). IfSome known (λ session. now ≡ with_text before (output_of_whole g.J.Judge.says (take n session)))) (sym c.loop-taken.invariant.reached) (progress_whole g.J.Judge.says known before now c.loop-taken.taken a.lines a.session.state c.loop-taken.refused p))
    (subst (λ (n : ℕ). IfSome known (λ session. n ≤ length session)) most (progress_within g.J.Judge.says known before now c.loop-taken.taken a.lines a.session.state c.loop-taken.refused p))

pub returns-in_err-refused : goal.returns-in_err-refused
returns-in_err-refused g c =
    let known = known_bytes (g.S.Shelf.files c.args.shelf.now) (string_bytes c.args.name.now) in
    let before = g.K.Sink.written c.args.sink.now in
    let now = g.K.Sink.written c.loop-taken.sink in
    let next = g.K.Sink.written c.answer_end.new.sink in
    let a = c.loop-taken.answering in
    let p = c.loop-taken.invariant.progress in
    let reads = subst (λ (files : Option Files). IfSome (known_bytes files (string_bytes c.args.name.now)) (λ bytes. Reads bytes c.loop-taken.taken c.in-Ok.count c.read_piece.new.buffer)) c.loop-taken.invariant.files c.in-Ok.ensures.content in
    answer_stopped g.J.Judge.says _ _ _ _ _ _ _ _ _ c.from_residual-in_err-refused.result c.in_err-refused.field-0.0 c.from_residual-in_err-refused.ensures.1
    (progress_prefix g.J.Judge.says known before now c.loop-taken.taken a.lines a.session.state c.loop-taken.refused p next
    (progress_end g.J.Judge.says known before now c.loop-taken.taken a.lines a.session.state c.loop-taken.refused p c.in-Ok.count 0 c.read_piece.new.buffer c.if-count-eq0.true reads
    (λ more. TookPrefix now next (texts_of (replies g.J.Judge.says a.session.state (commands_left a.lines more)))) c.in_err-refused.ensures.prefix))
    (omega (arith, c.in-Ok.ensures.reached, c.in-Ok.ensures.below))
    (λ fault. subst (λ (n : ℕ). n < g.K.Sink.faults c.answer_end.new.sink) c.loop-taken.invariant.write_faults (c.in_err-refused.ensures.cause (unanswered_as c.in_err-refused.field-0.0 fault)))

pub returns-then-count-eq0 : goal.returns-then-count-eq0
returns-then-count-eq0 g c =
    let known = known_bytes (g.S.Shelf.files c.args.shelf.now) (string_bytes c.args.name.now) in
    let before = g.K.Sink.written c.args.sink.now in
    let now = g.K.Sink.written c.loop-taken.sink in
    let next = g.K.Sink.written c.answer_end.new.sink in
    let a = c.loop-taken.answering in
    let p = c.loop-taken.invariant.progress in
    let reads = subst (λ (files : Option Files). IfSome (known_bytes files (string_bytes c.args.name.now)) (λ bytes. Reads bytes c.loop-taken.taken c.in-Ok.count c.read_piece.new.buffer)) c.loop-taken.invariant.files c.in-Ok.ensures.content in
    all_answered g.J.Judge.says _ _ _ _ _ _ _ _ _ _
    (progress_prefix g.J.Judge.says known before now c.loop-taken.taken a.lines a.session.state c.loop-taken.refused p next
    (progress_end g.J.Judge.says known before now c.loop-taken.taken a.lines a.session.state c.loop-taken.refused p c.in-Ok.count 0 c.read_piece.new.buffer c.if-count-eq0.true reads
    (λ more. TookPrefix now next (texts_of (replies g.J.Judge.says a.session.state (commands_left a.lines more))))
    (prefix_all now next (texts_of (replies g.J.Judge.says a.session.state (commands_left a.lines []))) c.in_ok-refused.ensures.written)))
    (subst (λ (files : Option Files). IfSome files (λ known. IsSome (bytes_of known (string_bytes c.args.name.now)))) c.loop-taken.invariant.files c.in-Ok.ensures.present)
    (progress_length g.J.Judge.says known before now c.loop-taken.taken a.lines a.session.state c.loop-taken.refused p
    c.in-Ok.count (g.S.Shelf.reached c.read_piece.new.shelf (string_bytes c.args.name.now)) c.read_piece.new.buffer c.if-count-eq0.true reads c.in-Ok.ensures.reached)
    (progress_all g.J.Judge.says known before now c.loop-taken.taken a.lines a.session.state c.loop-taken.refused p c.in-Ok.count 0 c.read_piece.new.buffer c.if-count-eq0.true reads next c.in_ok-refused.ensures.written)
    (progress_refuses g.J.Judge.says known before now c.loop-taken.taken a.lines a.session.state c.loop-taken.refused p c.in-Ok.count 0 c.read_piece.new.buffer c.if-count-eq0.true reads c.in_ok-refused.field-0 c.in_ok-refused.ensures.refused)
    (omega (arith, c.in-Ok.ensures.reached, c.if-count-eq0.true))

pub returns-in_err-refused-2 : goal.returns-in_err-refused-2
returns-in_err-refused-2 g c =
    let known = known_bytes (g.S.Shelf.files c.args.shelf.now) (string_bytes c.args.name.now) in
    let before = g.K.Sink.written c.args.sink.now in
    let now = g.K.Sink.written c.loop-taken.sink in
    let next = g.K.Sink.written c.answer_piece.new.sink in
    let a = c.loop-taken.answering in
    let count = c.in-Ok.count in
    let within : count ≤ length c.read_piece.new.buffer = omega (arith, c.in-Ok.ensures.within, c.read_piece.auto.buffer) in
    let long : count ≤ c.loop-taken.piece.len = omega (arith, c.in-Ok.ensures.within, c.deref_mut.ensures.len) in
    let reads = subst (λ (files : Option Files). IfSome (known_bytes files (string_bytes c.args.name.now)) (λ bytes. Reads bytes c.loop-taken.taken c.in-Ok.count c.read_piece.new.buffer)) c.loop-taken.invariant.files c.in-Ok.ensures.content in
    answer_stopped g.J.Judge.says _ _ _ _ _ _ _ _ _ c.from_residual-in_err-refused-2.result c.in_err-refused-2.field-0.0 c.from_residual-in_err-refused-2.ensures.1
    (progress_prefix g.J.Judge.says known before now c.loop-taken.taken a.lines a.session.state c.loop-taken.refused c.loop-taken.invariant.progress next
    (rest_piece known (λ more. TookPrefix now next (texts_of (replies g.J.Judge.says a.session.state (commands_left a.lines more)))) c.loop-taken.taken c.in-Ok.count c.read_piece.new.buffer (take c.in-Ok.count c.deref.result.now)
    reads (ap (take count) c.deref.ensures.value ∙ take_prefix count c.loop-taken.piece.len c.read_piece.new.buffer _ within long) c.in_err-refused-2.ensures.prefix))
    (omega (arith, c.in-Ok.ensures.reached, c.in-Ok.ensures.below))
    (λ fault. subst (λ (n : ℕ). n < g.K.Sink.faults c.answer_piece.new.sink) c.loop-taken.invariant.write_faults (c.in_err-refused-2.ensures.cause (unanswered_as c.in_err-refused-2.field-0.0 fault)))

pub loop-taken-preserved : goal.loop-taken-preserved
loop-taken-preserved g c =
    let known = known_bytes (g.S.Shelf.files c.args.shelf.now) (string_bytes c.args.name.now) in
    let a = c.loop-taken.answering in
    let count = c.in-Ok.count in
    let buffer = c.read_piece.new.buffer in
    let piece = take count c.deref.result.now in
    let within : count ≤ length buffer = omega (arith, c.in-Ok.ensures.within, c.read_piece.auto.buffer) in
    let long : count ≤ c.loop-taken.piece.len = omega (arith, c.in-Ok.ensures.within, c.deref_mut.ensures.len) in
    let is : piece ≡ take count buffer = ap (take count) c.deref.ensures.value ∙ take_prefix count c.loop-taken.piece.len buffer _ within long in
    let reads = subst (λ (files : Option Files). IfSome (known_bytes files (string_bytes c.args.name.now)) (λ bytes. Reads bytes c.loop-taken.taken count buffer)) c.loop-taken.invariant.files c.in-Ok.ensures.content in
    record {
      below = c.in-Ok.ensures.below;
      room = c.loop-taken.invariant.room;
      reached = c.in-Ok.ensures.reached;
      read_faults = c.in-Ok.ensures.cause ∙ c.loop-taken.invariant.read_faults;
      files = c.read_piece.ensures.files ∙ c.loop-taken.invariant.files;
      write_faults = c.in_ok-refused-2.ensures.faults ∙ c.loop-taken.invariant.write_faults;
      bytes = c.answer_piece.ensures.bytes ∙ (ap (λ n. n + length piece) c.loop-taken.invariant.bytes ∙ ap (λ n. c.loop-taken.taken + n) (ap length is ∙ length-take-le count buffer within));
      progress = progress_more g.J.Judge.says known (g.K.Sink.written c.args.sink.now) (g.K.Sink.written c.loop-taken.sink) (g.K.Sink.written c.answer_piece.new.sink) c.loop-taken.taken count
          a.lines c.answer_piece.new.answering.lines a.session.state c.answer_piece.new.answering.session.state c.loop-taken.refused c.in_ok-refused-2.field-0 piece buffer
          c.loop-taken.invariant.progress c.in_ok-refused-2.ensures.answered reads within is;
    }
