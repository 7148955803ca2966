-- The line goes on at the end of the block, after a mark and a period.
use Rattle.std.proofs.Common.{◌≡◌, ◌∙◌, sym, ap, false, ◌-◌, ◌++◌, ◌∷◌, [], length, take, drop, refl, rules}
use Rattle.session_text.specs.PeriodBlocks.{closes_block, unquoted}
use Rattle.std.specs.Prelude.{Option, Some, None}
use Rattle.reply_lines.specs.declared.command.Command.{Command}
use Rattle.session_text.specs.steps.PeriodReading.{OpenLines, after_lines, open_lines}
use Rattle.session_text.proofs.HeldLemmas.{goes_on, kept_is}
use Rattle.session_text.proofs.unfinished.end_held_line.Goals as goal

pub returns : goal.returns
returns c =
    let block = c.pending.inside.block.items in
    let start = length block - c.pending.inside.held in
    let line = after_lines c.args.lines c.args.pending.rest in
    let is_line : c.skip_mark_at_start-line.result.now ≡ line = c.skip_mark_at_start-line.ensures ∙ ap (after_lines c.args.lines) c.rest.ensures in
    let open_still : closes_block line ≡ false = ap closes_block (sym is_line) ∙ sym c.closes-is_end.ensures ∙ c.if-is_end.false in
    let own_rest : c.args.pending.rest ≡ drop start block = sym (ap (λ (p : OpenLines). p.rest) c.pending.view_is) in
    let own_block : c.args.pending.opened.block ≡ take start block = sym (ap (λ (p : OpenLines). p.opened.block) c.pending.view_is) in
    let size : c.len-end.result ≡ length block = search (rules, c.len-end.ensures) in
    let from : c.saturating_sub-start.result ≡ start = c.saturating_sub-start.ensures ∙ ap (λ n. n - c.pending.inside.held) size in
    let kept : c.unquote-kept.result.now ≡ unquoted (after_lines c.args.lines (drop start block)) =
    c.unquote-kept.ensures ∙ ap unquoted (is_line ∙ ap (after_lines c.args.lines) own_rest) in
    let to : c.len-end.result - length c.unquote-kept.result.now ≡ length block - length (unquoted (after_lines c.args.lines (drop start block))) =
    (λ i. size i - length (kept i)) in
    let prefix : take c.saturating_sub-start.result block ≡ c.args.pending.opened.block = ap (λ n. take n block) from ∙ sym own_block in
    let end : drop (c.len-end.result - length c.unquote-kept.result.now) block ≡ unquoted line =
    ap (λ n. drop n block) to ∙ (kept_is c.args.lines start block ∙ ap (λ r. unquoted (after_lines c.args.lines r)) (sym own_rest)) in
    let removed : c.remove_bytes.new.block.items ≡ c.args.pending.opened.block ++ unquoted line = c.remove_bytes.ensures ∙ (λ i. prefix i ++ end i) in
    let viewed : OpenLines → Option Command × Option OpenLines = λ p. (None, Some (open_lines p.opened.line p.opened.number 0 (c.remove_bytes.new.block.items ++ 10 ∷ []))) in
    ap (λ (p : OpenLines). (λ (e : Option Command × Option OpenLines). e) (None, Some p)) c.in_ok-pending.ensures
    ∙ (ap viewed c.pending.view_is ∙ goes_on c.args.pending.opened line (unquoted line) c.remove_bytes.new.block.items open_still refl removed)
