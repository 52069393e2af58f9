use Rattle.motion.specs.Motion.{to_position}
use Rattle.motion.specs.Product.{four_serve}
use mathlib.Core.Path.{refl}
use native.Mathlib.Omega.{arith}
use Rattle.motion.proofs.to_position.Goals as goal

-- With shift 10 four percents decide, by computation.
pub returns : goal.returns
unfolding to_position
returns c = four_serve _ _ 10 (omega arith) (refl, refl, refl, refl) c.args.percent c.requires
