-- A drive carried over a list of event records, one after the other.
use Rattle.std.specs.Prelude.{List, [], ◌∷◌, ◌++◌, map, ℕ, length, drop}
use Rattle.answer.specs.declared.Answer.{Answer}
use Rattle.damper.specs.declared.Drive.{Drive}
use Rattle.damper.specs.declared.Outcome.{Outcome}

-- what a drive does, right or wrong, with what it is given: the drive after it, and the answer
abbrev pub StepOn : Type 0 → Type 0
StepOn A = Drive → A → Outcome

-- given an event record
abbrev pub Step : Type 0
Step = StepOn (List ℕ)

-- "each later one to the drive that the one before left, refused or not": what a list of records gives, in its order
unfoldable pub outcomes : {A : Type 0} → StepOn A → Drive → List A → List Outcome
outcomes step d [] = []
outcomes step d (s ∷ ss) = let o = step d s in o ∷ outcomes step o.drive ss

-- the drive after them
unfoldable pub drive_after : Drive → List Outcome → Drive
drive_after d [] = d
drive_after d (o ∷ os) = drive_after o.drive os

-- a row of numbers after these outcomes: a number of each answer, in order, and then what the row held there
unfoldable pub answers_in : (Answer → ℕ) → List Outcome → List ℕ → List ℕ
answers_in number os row = map (λ o. number o.answer) os ++ drop (length os) row
