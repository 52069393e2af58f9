-- Counts along a list, the latest first, in which a member is a tick, a report or a restart by a test of it and of what came before it.
use Rattle.std.specs.Prelude.{◌≡◌, Bool, false, ◌||◌, List, [], ◌∷◌, ◌++◌, ℕ, ◌+◌}
use Rattle.numbers.specs.Numbers.{pick}

-- a test of a member and of what came before it
abbrev pub Test : Type 0 → Type 0
Test A = A → List A → Bool

-- the ticks of `new`, which came after `old`
unfoldable pub ticks_in : {A : Type 0} → Test A → List A → List A → ℕ
ticks_in tick [] old = 0
ticks_in tick (m ∷ new) old = let n = ticks_in tick new old in pick (tick m (new ++ old)) (n + 1) n

-- no restart and no report in `new`, which came after `old`
pub data Quiet {A : Type 0} (report restart : Test A) (old : List A) : List A → Type 0 where
  none : Quiet report restart old []
  more : {m : A} {new : List A} → restart m (new ++ old) ≡ false → report m (new ++ old) ≡ false → Quiet report restart old new
      → Quiet report restart old (m ∷ new)

-- the ticks after the latest report or restart, or from the beginning on
unfoldable pub since : {A : Type 0} → Test A → Test A → Test A → List A → ℕ
since tick report restart [] = 0
since tick report restart (m ∷ t) = let n = since tick report restart t in pick (report m t || restart m t) 0 (pick (tick m t) (n + 1) n)
