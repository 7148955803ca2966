-- The open brackets and parentheses are as many where they are seen as where they are kept.
use Rattle.std.proofs.Common.{◌≡◌, List, reverse, length, ◌∙◌}
use Rattle.std.proofs.lemmas.List.{length-map, length-reverse}
use Rattle.path_subset.specs.steps.State.{frame_of, frames_of}
use Rattle.path_subset.specs.declared.state.Frame.{Frame}

pub frames_counted : (frames : List Frame) → length (frames_of frames) ≡ length frames
frames_counted frames = length-map (reverse frames) frame_of ∙ length-reverse frames
