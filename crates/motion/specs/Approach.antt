-- A damper that moves toward one target, tick after tick: a chain of positions in which the distance to the target falls by the Rate of each
-- tick, or is 0.
use Rattle.std.specs.Prelude.{◌≡◌, List, [], ◌∷◌, ℕ, ◌+◌, ◌-◌, ◌*◌, ◌<◌, ◌≤◌, min, length}
use Rattle.std.proofs.Common.{ap, ◌∙◌, arith, suc-mul, zero-mul, mul-le-mul_right}
use Rattle.numbers.specs.Numbers.{distance}
use Rattle.numbers.specs.Every.{Every, none, more}
use Rattle.motion.specs.Motion.{run_ticks, toward}
use Rattle.motion.specs.Laws.{run_ticks_ceiling, move_left}

-- the position after a move toward `t` by each of these Rates, from `p` on
unfoldable pub approached : ℕ → ℕ → List ℕ → ℕ
approached t p [] = p
approached t p (r ∷ rs) = approached t (toward p t r) rs

-- the Rates together
unfoldable pub total : List ℕ → ℕ
total [] = 0
total (r ∷ rs) = r + total rs

-- what is left of a way `b` after a move by `r` and further ones by `u` together
way_left : (a b r u : ℕ) → a + min r b ≡ b → a - u ≡ b - (r + u)
way_left a b r u e = omega (arith, e)

-- so much is left to the target
pub approach_left : (t p : ℕ) (rs : List ℕ) → distance (approached t p rs) t ≡ distance p t - total rs
unfolding approached total
approach_left t p [] = omega arith
approach_left t p (r ∷ rs) = approach_left t (toward p t r) rs ∙ way_left _ _ r (total rs) (move_left p t r)

-- where the Rates lead as far as the target is, the damper stands there
approach_arrives : (t p : ℕ) (rs : List ℕ) → distance p t ≤ total rs → approached t p rs ≡ t
approach_arrives t p rs h = omega (arith, approach_left t p rs)

-- and from the target on it stays, whatever the Rates
pub approach_stays : (t : ℕ) (rs : List ℕ) → approached t t rs ≡ t
approach_stays t rs = approach_arrives t t rs (omega arith)

-- one Rate throughout
total_same : (rate : ℕ) (rs : List ℕ) → Every (λ r. r ≡ rate) rs → total rs ≡ length rs * rate
unfolding total
total_same rate [] none = omega (arith, zero-mul rate)
total_same rate (r ∷ rs) (more e es) = omega (arith, e, total_same rate rs es, suc-mul (length rs) rate)

-- K ticks of one Rate lead from any position of a byte to any other
pub approach_in_k : (t p rate : ℕ) (rs : List ℕ) → p < 256 → t < 256 → 1 ≤ rate → Every (λ r. r ≡ rate) rs → run_ticks rate ≤ length rs
    → approached t p rs ≡ t
approach_in_k t p rate rs hp ht h es k =
    let whole : 255 ≤ run_ticks rate * rate = (run_ticks_ceiling rate h).0 in
    let enough : run_ticks rate * rate ≤ length rs * rate = mul-le-mul_right rate k in
    approach_arrives t p rs (omega (arith, total_same rate rs es))

-- fewer do not lead from one end to the other, whatever the Rate
pub approach_short : (rate : ℕ) (rs : List ℕ) → 1 ≤ rate → Every (λ r. r ≡ rate) rs → length rs < run_ticks rate → approached 255 0 rs ≡ 255 → ⊥
approach_short rate rs h es k e =
    let short : (run_ticks rate - 1) * rate < 255 = (run_ticks_ceiling rate h).1 in
    let fewer : length rs * rate ≤ (run_ticks rate - 1) * rate = mul-le-mul_right rate (omega arith) in
    absurd (omega (arith, approach_left 255 0 rs, total_same rate rs es, ap (λ (x : ℕ). distance x 255) e))
