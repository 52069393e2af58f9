use Rattle.damper.specs.WellFormed.{run_fits}
use borrow.Author.Tests.{ne_eqb}
use Rattle.motion.specs.Laws.{run_ticks_test}
use Rattle.damper.proofs.Run.fits.Goals as goal

pub returns : goal.returns
unfolding run_fits
returns c =
    let a = c.args in
    simp (ne_eqb _ _ c.if-self-eq-NO_RUN.false, run_ticks_test a.rate a.self.left c.requires)
