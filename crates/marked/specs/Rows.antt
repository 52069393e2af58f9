-- Document 01, 'Marked rows': m1 to m12 as one table, what the definitions give beside what the row says.
use Rattle.std.specs.Prelude.{◌≡◌, refl, Bool, true, false, List, [], ◌∷◌, ◌++◌, map, ℕ, drop, replicate}
use Rattle.event.specs.Event.{event, bytes_of}
use Rattle.motion.specs.Motion.{to_position, run_ticks}
use Rattle.rules.specs.Rank.{ruling_rank}
use Rattle.rules.specs.Report.{changed}
use Rattle.damper.specs.declared.Drive.{Drive}
use Rattle.damper.specs.declared.Outcome.{Outcome}
use Rattle.answer.specs.declared.Answer.{Answer}
use Rattle.answer.specs.declared.Answer.TheVariants.{No, Done, Par, At, Tick, Report}
use Rattle.damper.specs.Record.{fresh_drive}
use Rattle.damper.specs.Step.{step_of}
use Rattle.damper.specs.Carry.{outcomes, drive_after}
use Rattle.damper.specs.Closed.{computation}

-- what a row speaks of
pub data Seen : Type 0 where
  numbers : List ℕ → Seen
  tests : List Bool → Seen
  answers : List Answer → Seen

pub record Row : Type 0 where
  pub got : Seen
  pub want : Seen

abbrev pub row : Seen → Seen → Row
row g w = record { got = g; want = w }

-- the six bytes of an event
abbrev pub bytes : ℕ → ℕ → ℕ → ℕ → List ℕ
bytes k a b c = bytes_of (event k a b c)

abbrev pub tick : List ℕ
tick = bytes 1 0 0 0

-- the answers to a list of event records given to a fresh drive
abbrev pub from_fresh : List (List ℕ) → List Answer
from_fresh l = map (λ (o : Outcome). o.answer) (outcomes step_of fresh_drive l)

-- the ruling rank that a tick's answer names; 7, which is no rank, for any other answer
abbrev pub rank_in : Answer → ℕ
rank_in (No n) = 7
rank_in Done = 7
rank_in (Par v) = 7
rank_in (At p c s) = 7
rank_in (Tick p r m) = r
rank_in (Report p r m s) = r

-- position, run and ticks left
abbrev pub standing : Drive → List ℕ
standing d = d.position ∷ d.run.kind ∷ d.run.left ∷ []

abbrev pub table : List Row
table =
    -- m1 fresh, ten ticks: nine silent, the tenth reports position 0, status 32.
    row (answers (from_fresh (replicate 10 tick))) (answers (replicate 9 (Tick 0 0 0) ++ (Report 0 0 0 32 ∷ [])))
    -- m2 fresh, setpoint 128, tick: position 5.
    ∷ row (answers (from_fresh (bytes 2 128 0 0 ∷ tick ∷ []))) (answers (Done ∷ Tick 5 1 1 ∷ []))
    -- m3 percent 0, 1, 50, 100: 0, 3, 127, 255 (document 02, W-202).
    ∷ row (numbers (map to_position (0 ∷ 1 ∷ 50 ∷ 100 ∷ []))) (numbers (0 ∷ 3 ∷ 127 ∷ 255 ∷ []))
    -- m4 ActPosCOV 1: distance 2 is no change, 3 is.
    ∷ row (tests (changed 1 2 0 ∷ changed 1 3 0 ∷ [])) (tests (false ∷ true ∷ []))
    -- m5 setpoint, Timeout 1860: tick 1860 ruled by 1, tick 1861 by 0.
    ∷ row (numbers (map rank_in (drop 1861 (from_fresh (bytes 8 201 7 68 ∷ bytes 2 128 0 0 ∷ replicate 1861 tick))))) (numbers (1 ∷ 0 ∷ []))
    -- m6 Rate 5, 4, 255: K 51, 64, 1.
    ∷ row (numbers (map run_ticks (5 ∷ 4 ∷ 255 ∷ []))) (numbers (51 ∷ 64 ∷ 1 ∷ []))
    -- m7 active byte 43: rank 5.
    ∷ row (numbers (ruling_rank 43 ∷ [])) (numbers (5 ∷ []))
    -- m8 fresh, property 51, command 2 with 250 %: accepted; command 1 with 101 %: 8.
    ∷ row (answers (from_fresh (bytes 3 51 250 2 ∷ bytes 3 51 101 1 ∷ []))) (answers (Done ∷ No 8 ∷ []))
    -- m9 MinRepTime 3600 accepted; 0 and 3601: 10.
    ∷ row (answers (from_fresh (bytes 8 117 14 16 ∷ bytes 8 117 0 0 ∷ bytes 8 117 14 17 ∷ []))) (answers (Done ∷ No 10 ∷ No 10 ∷ []))
    -- m10 fresh, Low 1 accepted; High 0 next: 11.
    ∷ row (answers (from_fresh (bytes 8 204 0 1 ∷ bytes 8 205 0 0 ∷ []))) (answers (Done ∷ No 11 ∷ []))
    -- m11 forcing 2, calibration: 13.
    ∷ row (answers (from_fresh (bytes 4 2 0 0 ∷ bytes 6 0 0 0 ∷ []))) (answers (Done ∷ No 13 ∷ []))
    -- m12 StartSynchronization 2, restart, 51 ticks: position 255, no run.
    ∷ row (numbers (standing (drive_after fresh_drive (outcomes step_of fresh_drive (bytes 8 122 0 2 ∷ bytes 9 0 0 0 ∷ replicate 51 tick))))) (numbers (255 ∷ 0 ∷ 0 ∷ []))
    ∷ []

-- Each row holds.
pub marked : map (λ (r : Row). r.got) table ≡ map (λ (r : Row). r.want) table
unfolding computation
marked = refl
