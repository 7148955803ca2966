-- The references of a draft are below the number of its slots.
use Rattle.tree_edits.proofs.drafts.Draft.change.Goals as goal

pub change_from-requires-clause-below : goal.change_from-requires-clause-below
change_from-requires-clause-below c = c.args.self.now.fits.below
