use mathlib.Core.Path.{sym, ◌∙◌}
use Rattle.table.specs.Laws.{ranges}
use Rattle.damper.proofs.Drive.well_formed.Goals as goal

pub fits-requires-2 : goal.fits-requires-2
fits-requires-2 c = (ranges _ (sym c.all_in.ensures ∙ c.if-not-all_in.false)).rate_least
