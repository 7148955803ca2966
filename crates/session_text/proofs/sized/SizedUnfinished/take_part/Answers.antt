-- What is left after a part, and the command that is whole with it.
use Rattle.std.proofs.Common.{◌+◌, ◌++◌, ap, length, take, arith, length-take, length-drop}
use Rattle.std.proofs.lemmas.List.{take_rest}
use Rattle.session_text.proofs.SizedGivenLemmas.{sized-added_blocks, sized-added_readable}
use Rattle.session_text.proofs.SizedPartLemmas.{block_part, ended_counted_part, ended_part, held_place_as, part_added, unended_all}
use Rattle.session_text.proofs.sized.SizedUnfinished.take_part.Goals as goal

pub returns-then-left-gt0-clause-commands : goal.returns-then-left-gt0-clause-commands
returns-then-left-gt0-clause-commands c = λ at_end more.
    block_part at_end c.args.self.now c.grow.new.self c.args.bytes.now _ more c.min-count.result c.args.found.now
    c.requires.place (omega (arith, c.if-left-gt0.true, c.left-left.ensures)) c.in_ok-grow.ensures (take_rest c.args.bytes.now c.min-count.result)

pub returns-then-end-bytes-clause-place : goal.returns-then-end-bytes-clause-place
returns-then-end-bytes-clause-place c =
    held_place_as _ c.args.self.now c.args.bytes.now c.extend_from_slice.new.self.items c.self.view_is c.in_ok-extend_from_slice.ensures.items c.requires.place
    (omega (arith, c.if-left-gt0.false, c.left-left.ensures)) (unended_all c.args.bytes.now (omega (arith, c.if-end-bytes.true, c.line_end-end.ensures.first)))

pub returns-clause-commands : goal.returns-clause-commands
returns-clause-commands c = λ at_end more.
    part_added at_end c.args.self.now c.end_rest.new.self c.args.bytes.now _ more c.line_end-end.result c.args.found.now _ c.in_ok-command.command
    c.requires.place (omega (arith, c.if-left-gt0.false, c.left-left.ensures)) c.line_end-end.ensures.first (omega (arith, c.if-end-bytes.false, c.line_end-end.ensures.within))
    c.in_ok-command.ensures.command c.in_ok-command.ensures.place (take_rest c.args.bytes.now (c.line_end-end.result + 1)) c.in_ok-add.ensures

pub returns-clause-readable : goal.returns-clause-readable
returns-clause-readable c = λ readable.
    let place = c.args.self.now in
    sized-added_readable place.number place.opened (place.rest ++ take c.line_end-end.result c.args.bytes.now) c.args.found.now c.add.new.found c.in_ok-command.command
    c.in_ok-command.ensures.command c.in_ok-add.ensures readable

pub returns-clause-blocks : goal.returns-clause-blocks
returns-clause-blocks c =
    let place = c.args.self.now in
    let bytes = c.args.bytes.now in
    let n = c.line_end-end.result in
    omega (
      arith,
      ap length (take_rest bytes (n + 1)),
      length-drop (n + 1) bytes,
      sized-added_blocks place.number place.opened (place.rest ++ take n bytes) c.args.found.now c.add.new.found c.in_ok-command.command c.end_rest.new.self
          c.in_ok-command.ensures.command c.in_ok-add.ensures c.in_ok-command.ensures.place,
    )

pub returns-clause-place : goal.returns-clause-place
returns-clause-place c =
    ended_part c.args.self.now c.end_rest.new.self c.args.bytes.now c.line_end-end.result c.requires.place c.line_end-end.ensures.first c.in_ok-command.ensures.place

pub returns-clause-counted : goal.returns-clause-counted
returns-clause-counted c =
    let place = c.args.self.now in
    let bytes = c.args.bytes.now in
    let n = c.line_end-end.result in
    omega (
      arith,
      c.if-end-bytes.false,
      c.line_end-end.ensures.within,
      ap length (take_rest bytes (n + 1)),
      length-drop (n + 1) bytes,
      length-take n bytes,
      ended_counted_part place c.end_rest.new.self bytes n c.in_ok-command.ensures.place,
    )
