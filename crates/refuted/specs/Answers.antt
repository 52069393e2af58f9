-- Demand 2 refuses these drives, each by an answer that is not that of the right drive. First 01's idlers; then those that only
-- demand 2 refuses: of an answer the claim takes the report and the number of the refusal, and looks at nothing else.
use Rattle.std.specs.Prelude.{◌≡◌, refl, Bool, true, not, ◌&&◌, List, [], ◌∷◌, ℕ, ◌/◌, ◌%◌, eqb}
use Rattle.std.proofs.Common.{sym, ap, ◌∙◌, eq-eqb}
use Rattle.std.proofs.lemmas.Bool.{false≢true, not-true}
use Rattle.numbers.specs.Laws.{and_intro}
use Rattle.answer.specs.declared.Answer.{Answer}
use Rattle.answer.specs.declared.Answer.TheVariants.{Report}
use Rattle.answer.specs.Answer.{word_of, code_of, answer_of}
use Rattle.damper.specs.declared.Drive.{Drive}
use Rattle.damper.specs.Record.{fresh_drive}
use Rattle.damper.specs.Step.{step_of}
use Rattle.damper.specs.Carry.{Step, outcomes, drive_after}
use Rattle.refuted.specs.Events.{tick, setpoint, read_position, read_rate, direction, rate}
use Rattle.refuted.specs.Closed.{computation, Each, each}
use Rattle.refuted.specs.Wrong as W

-- a wrong drive, the event records that a fresh drive gets before, and the one that is answered wrongly
pub record Row : Type 0 where
  pub step : Step
  pub before : List (List ℕ)
  pub bytes : List ℕ

abbrev pub row : Step → List (List ℕ) → List ℕ → Row
row f l s = record { step = f; before = l; bytes = s }

abbrev pub table : List Row
table =
    row W.refuses_all [] tick
    ∷ row W.never_moves (setpoint 255 ∷ []) tick
    ∷ row W.idles_later (setpoint 255 ∷ tick ∷ []) tick
    ∷ row W.answers_alike [] read_position
    -- not seen by the claim
    ∷ row W.reads_alike [] read_position
    ∷ row W.reads_percent_zero (rate 255 ∷ setpoint 255 ∷ tick ∷ []) read_position
    ∷ row W.reads_percent_down (setpoint 255 ∷ tick ∷ []) read_position
    ∷ row W.reads_status_zero [] read_position
    ∷ row W.reads_next_row [] read_rate
    ∷ row W.motor_not_exchanged (direction 1 ∷ setpoint 255 ∷ []) tick
    ∷ []

-- the drive that the records before leave
abbrev pub drive_of : List (List ℕ) → Drive
drive_of l = drive_after fresh_drive (outcomes step_of fresh_drive l)

abbrev pub Differs : Row → Type 0
Differs r = (r.step (drive_of r.before) r.bytes).answer ≡ (step_of (drive_of r.before) r.bytes).answer → ⊥

abbrev same : Answer → Answer → Bool
same a b = eqb (word_of a) (word_of b) && eqb (code_of a) (code_of b)

differs_by : (a b : Answer) → not (same a b) ≡ true → a ≡ b → ⊥
differs_by a b q e = false≢true (sym (not-true _ q) ∙ and_intro (eq-eqb _ _ (ap word_of e)) (eq-eqb _ _ (ap code_of e)))

-- Each answers its record otherwise than the right drive.
pub differs : Each Differs table
unfolding computation
differs =
    each Differs
    (λ r. not (same (r.step (drive_of r.before) r.bytes).answer (step_of (drive_of r.before) r.bytes).answer))
    (λ r. differs_by (r.step (drive_of r.before) r.bytes).answer (step_of (drive_of r.before) r.bytes).answer)
    table
    refl

-- Of a host: the values of a report counted from the lowest digit of base 256, so that position and status are exchanged.
abbrev from_the_lowest : ℕ → Answer
from_the_lowest n = Report (n % 256) (n / 256 % 256) (n / 65536 % 256) (n / 16777216 % 256)

-- Position 1, rank 2, motor 3 and status 4 are the number 01020304 (hexadecimal), whose lowest digit is the status.
pub digits_in_order : (code_of (Report 1 2 3 4) ≡ 0x01020304) × (answer_of 5 0x01020304 ≡ Report 1 2 3 4) × (from_the_lowest 0x01020304 ≡ Report 4 3 2 1)
digits_in_order = (refl, refl, refl)
