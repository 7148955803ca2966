-- As the symbols from the place on are read.
use Rattle.std.proofs.Common.{List, length, Ok, sym, ◌∙◌, ap}
use Rattle.std.proofs.lemmas.List.{length-take-le}
use Rattle.selection_grammar.specs.declared.symbol.Placed.{Placed}
use Rattle.selection_grammar.specs.declared.symbol.Symbols.{Symbols}
use Rattle.ft_syntax.specs.View.{form}
use Rattle.ft_parser.specs.Prefix.{with_place, run_read, prefix_read, numbered_form}
use Rattle.ft_parser.proofs.Prefixes.{fault_kept}
use Rattle.ft_parser.proofs.prefix.read_prefix.Goals as goal

pub symbols_from-requires : goal.symbols_from-requires
symbols_from-requires c = c.requires

pub slice_bounds-place_after-end : goal.slice_bounds-place_after-end
slice_bounds-place_after-end c = sym (length-take-le c.in-Ok-read_run.count c.as_slice-placed.result.now c.in-Ok-read_run.ensures.within)

pub returns-in-Ok-read_run : goal.returns-in-Ok-read_run
unfolding prefix_read
returns-in-Ok-read_run c =
    ap (λ n. Ok (form c.in-Ok-read_run.selection, n)) c.place_after.ensures
    ∙ ap (with_place c.args.from c.as_slice-placed.result.now) c.in-Ok-read_run.ensures.value
    ∙ ap (λ (w : List Placed). with_place c.args.from w (run_read w c.in-Ok.found.bad (length c.args.text.now))) c.as_slice-placed.ensures
    ∙ ap (λ (s : Symbols). with_place c.args.from s.placed (run_read s.placed s.bad (length c.args.text.now))) c.in-Ok.ensures

pub returns-in-Ok : goal.returns-in-Ok
unfolding prefix_read
returns-in-Ok c =
    fault_kept numbered_form numbered_form (run_read c.as_slice-placed.result.now c.in-Ok.found.bad (length c.args.text.now)) (prefix_read c.args.from c.args.text.now) c.in-Err-read_run.fault
    (λ f h.
    ap (with_place c.args.from c.as_slice-placed.result.now) h
    ∙ ap (λ (w : List Placed). with_place c.args.from w (run_read w c.in-Ok.found.bad (length c.args.text.now))) c.as_slice-placed.ensures
    ∙ ap (λ (s : Symbols). with_place c.args.from s.placed (run_read s.placed s.bad (length c.args.text.now))) c.in-Ok.ensures) c.in-Err-read_run.ensures.value
