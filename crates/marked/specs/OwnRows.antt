-- Rows of our own beside the marked ones: a whole drive at work on a short list of event records, from fresh. What each sentence of the
-- papers says for every input is proved in the crate `sentences`; these are examples of it, in the papers' order.
use Rattle.std.specs.Prelude.{◌≡◌, refl, List, [], ◌∷◌, ◌++◌, ℕ, ◌/◌, ◌%◌, drop, replicate}
use Rattle.answer.specs.declared.Answer.{Answer}
use Rattle.answer.specs.declared.Answer.TheVariants.{No, Done, At, Tick, Report}
use Rattle.damper.specs.declared.Drive.{Drive}
use Rattle.damper.specs.Record.{fresh_drive}
use Rattle.damper.specs.Step.{step_of}
use Rattle.damper.specs.Carry.{outcomes, drive_after}
use Rattle.damper.specs.Closed.{computation}
use Rattle.marked.specs.Rows.{Seen, numbers, answers, bytes, tick, from_fresh}

-- the other events by name
abbrev pub setpoint : ℕ → List ℕ
setpoint v = bytes 2 v 0 0

abbrev pub lte : ℕ → ℕ → List ℕ
lte b c = bytes 3 51 b c

abbrev pub forcing : ℕ → List ℕ
forcing a = bytes 4 a 0 0

abbrev pub hand : ℕ → List ℕ
hand b = bytes 5 1 b 0

abbrev pub calibration : List ℕ
calibration = bytes 6 0 0 0

abbrev pub write : ℕ → ℕ → List ℕ
write n v = bytes 8 n (v / 256) (v % 256)

abbrev pub restart : List ℕ
restart = bytes 9 0 0 0

abbrev pub position : List ℕ
position = bytes 10 0 0 0

-- the answers from fresh once Rate is 255 and MinRepTime 1: each tick reaches its target, and one that brings a change reports it
abbrev pub quick : List (List ℕ) → List Answer
quick l = drop 2 (from_fresh (write 203 255 ∷ write 117 1 ∷ l))

-- every field of the drive that a list of records leaves, from fresh, in the record's order but for the parameters, which stand last
abbrev pub fields : Drive → List ℕ
fields d =
    d.position ∷ d.commands.fault ∷ d.commands.forcing ∷ d.commands.hand ∷ d.commands.handpos ∷ d.commands.tool
    ∷ d.commands.toolpos ∷ d.commands.stored ∷ d.commands.setpoint ∷ d.age ∷ d.run.kind ∷ d.run.left ∷ d.since
    ∷ d.last.reported ∷ d.last.position ∷ d.last.status ∷ d.wait ∷ d.travel
    ∷ d.params

abbrev pub left : List (List ℕ) → List ℕ
left l = fields (drive_after fresh_drive (outcomes step_of fresh_drive l))

-- a row: what the definitions give, what the documents say, and that they are the same
pub record Row : Type 0 where
  pub got : Seen
  pub want : Seen
  pub same : got ≡ want

abbrev pub row : (g w : Seen) → g ≡ w → Row
row g w e = record { got = g; want = w; same = e }

-- Each row holds, and is proved where it stands, so that an error names its row.
pub table : List Row
unfolding computation
table =
    -- "forcing 0 to 3, as kind 4 gave it", "all three kept as positions": 1 is kept as 1, values are kept past High, an age is 0 at first
    -- and rises with a tick; W-208: the tick's move is counted
    row (numbers (left (write 205 9 ∷ forcing 1 ∷ hand 255 ∷ lte 100 1 ∷ lte 50 0 ∷ tick ∷ [])))
    (numbers (5 ∷ 0 ∷ 1 ∷ 1 ∷ 255 ∷ 1 ∷ 255 ∷ 1 ∷ 127 ∷ 1 ∷ 0 ∷ 0 ∷ 1 ∷ 0 ∷ 0 ∷ 0 ∷ 0 ∷ 5
    ∷ 1 ∷ 0 ∷ 1 ∷ 10 ∷ 0 ∷ 0 ∷ 0 ∷ 1860 ∷ 900 ∷ 5 ∷ 0 ∷ 9 ∷ [])) refl
    -- "Restart keeps position and parameters, clears all else and sets since to 0"; W-208: it keeps the count too
    ∷ row (numbers (left (write 203 255 ∷ write 117 1 ∷ setpoint 200 ∷ lte 100 1 ∷ hand 9 ∷ tick ∷ tick ∷ forcing 1 ∷ restart ∷ [])))
    (numbers (9 ∷ (replicate 16 0 ++ (9 ∷ 1 ∷ 0 ∷ 1 ∷ 1 ∷ 0 ∷ 0 ∷ 0 ∷ 1860 ∷ 900 ∷ 255 ∷ 0 ∷ 255 ∷ [])))) refl
    -- "so raising Timeout can revive it"
    ∷ row (answers (quick (write 201 1 ∷ setpoint 200 ∷ tick ∷ tick ∷ write 201 3 ∷ tick ∷ [])))
    (answers (Done ∷ Done ∷ Report 200 1 1 0 ∷ Report 0 0 2 32 ∷ Done ∷ Report 200 1 1 0 ∷ [])) refl
    -- "A run loses one tick and ends at 0": its K-th tick is ruled by it, and the status after that tick shows no run
    ∷ row (answers (from_fresh (write 203 128 ∷ write 117 1 ∷ setpoint 0 ∷ calibration ∷ tick ∷ tick ∷ tick ∷ [])))
    (answers (Done ∷ Done ∷ Done ∷ Done ∷ Report 0 4 0 4 ∷ Report 0 4 0 0 ∷ Tick 0 1 0 ∷ [])) refl
    -- the printed session, in which 5 is 2 % (document 02, W-202)
    ∷ row (answers (from_fresh (setpoint 128 ∷ tick ∷ bytes 6 2 0 0 ∷ position ∷ [])))
    (answers (Done ∷ Tick 5 1 1 ∷ No 6 ∷ At 5 2 0 ∷ [])) refl
    -- 'Errors that builders of drives make':
    -- moving does not start the wait anew: MinRepTime 2, and a damper that hunts is reported at every second tick
    ∷ row (answers (from_fresh (write 203 100 ∷ write 117 2 ∷ setpoint 200 ∷ tick ∷ tick ∷ setpoint 0 ∷ tick ∷ tick ∷ [])))
    (answers (Done ∷ Done ∷ Done ∷ Tick 100 1 1 ∷ Report 200 1 1 0 ∷ Done ∷ Tick 100 1 2 ∷ Report 0 1 2 0 ∷ [])) refl
    -- ActPosCOV is measured from the last report, not from the tick before: at 20 %, which is 51, the damper creeps from 50 to 51
    ∷ row (answers (quick (write 116 20 ∷ setpoint 0 ∷ tick ∷ setpoint 50 ∷ tick ∷ setpoint 51 ∷ tick ∷ setpoint 0 ∷ tick ∷ [])))
    (answers (Done ∷ Done ∷ Report 0 1 0 0 ∷ Done ∷ Tick 50 1 1 ∷ Done ∷ Report 51 1 1 0 ∷ Done ∷ Report 0 1 2 0 ∷ [])) refl
    -- a refused setpoint does not refresh the age
    ∷ row (answers (quick (write 201 1 ∷ setpoint 200 ∷ tick ∷ bytes 2 200 1 0 ∷ tick ∷ [])))
    (answers (Done ∷ Done ∷ Report 200 1 1 0 ∷ No 5 ∷ Report 0 0 2 32 ∷ [])) refl
    -- a normal write is no release: the tool at 255 rules beside the bus at 51 until it is released
    ∷ row (answers (quick (lte 100 1 ∷ lte 20 0 ∷ tick ∷ lte 0 2 ∷ tick ∷ [])))
    (answers (Done ∷ Done ∷ Report 255 2 1 2 ∷ Done ∷ Report 51 1 2 0 ∷ [])) refl
    -- a read is no report: the status that it shows is reported at the tick after it
    ∷ row (answers (quick (setpoint 100 ∷ tick ∷ hand 100 ∷ position ∷ tick ∷ [])))
    (answers (Done ∷ Report 100 1 1 0 ∷ Done ∷ At 100 39 2 ∷ Report 100 3 0 2 ∷ [])) refl
    -- Document 02, W-202: 1 % by a normal write, by an override and as BackupValue; the damper goes to 3 and reads back 1 %
    ∷ row (answers (quick (lte 1 0 ∷ tick ∷ position ∷ []) ++ (quick (lte 1 1 ∷ tick ∷ position ∷ []) ++ quick (write 121 1 ∷ tick ∷ position ∷ []))))
    (answers (Done ∷ Report 3 1 1 0 ∷ At 3 1 0 ∷ Done ∷ Report 3 2 1 34 ∷ At 3 1 34 ∷ Done ∷ Report 3 0 1 32 ∷ At 3 1 32 ∷ [])) refl
    ∷ []
