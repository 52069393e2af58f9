-- A reading as a kind and a float, since an exported function takes no enum.
use Rattle.std.specs.Prelude.{ℕ, eqb, Float}
use Rattle.std.specs.Float.Ieee.{neg}
use Rattle.numbers.specs.Numbers.{pick}
use Rattle.flow.specs.declared.Reading.{Reading}
use Rattle.flow.specs.declared.Reading.TheVariants.{Flow, Share, Broken}
use Rattle.flow.specs.Flow.{whole}

-- 0 a flow, 1 a share, 2 broken; any other is a flow of -1, which 23 refuses
abbrev pub reading_of : ℕ → Float → Reading
reading_of kind x = pick (eqb kind 0) (Flow x) (pick (eqb kind 1) (Share x) (pick (eqb kind 2) Broken (Flow (neg (whole 1)))))
