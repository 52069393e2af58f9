-- Document 02, W-207, 'It gets there': who rules at a tick and with which target, the ticks of a list, and what is claimed of them.
use Rattle.std.specs.Prelude.{◌≡◌, Bool, ◌&&◌, List, [], ◌∷◌, ℕ, ◌≤◌, eqb, length}
use Rattle.numbers.specs.Numbers.{pick}
use Rattle.numbers.specs.Every.{Every}
use Rattle.table.specs.Table.{rate_number, rate}
use Rattle.event.specs.declared.Event.{Event}
use Rattle.event.specs.Event.{event_in}
use Rattle.motion.specs.Motion.{run_ticks}
use Rattle.rules.specs.Rank.{Source, target_of}
use Rattle.damper.specs.declared.Drive.{Drive}
use Rattle.damper.specs.declared.Outcome.{Outcome}
use Rattle.damper.specs.Tick.{aged, ruling_source}
use Rattle.damper.specs.Step.{refusal_of}
use Rattle.damper.specs.Carry.{StepOn, outcomes, drive_after}
use Rattle.history.specs.Readings.{is_tick, is_write}

-- the source that rules at a tick which finds the drive `d`, once its first step is done (document 02: commander)
abbrev pub tick_source : Drive → Source
tick_source d = ruling_source (aged d)

-- the target of that source then
unfoldable pub tick_target : Drive → ℕ
tick_target d = let a = aged d in target_of a.commands a.run.kind a.position a.params (tick_source d)

-- "one commander rules with one target": at a tick that finds the drive `d`, the source `c` with the target `t`
pub record Ruled (c : Source) (t : ℕ) (d : Drive) : Type 0 where
  pub source : tick_source d ≡ c
  pub target : tick_target d ≡ t

-- a test of what a drive is given, by the drive as it stands then
abbrev pub Test : Type 0 → Type 0
Test A = Drive → A → Bool

-- Of what a list gives a drive, one after the other: the drives that those find which pass a test.
unfoldable pub drives_found : {A : Type 0} → StepOn A → Test A → Drive → List A → List Drive
drives_found step test d [] = []
drives_found step test d (x ∷ l) = let rest = drives_found step test (step d x).drive l in pick (test d x) (d ∷ rest) rest

-- the drive after them all
abbrev pub after : {A : Type 0} → StepOn A → Drive → List A → Drive
after step d l = drive_after d (outcomes step d l)

-- "If one commander rules with one target for K ticks in a row, Rate unwritten": of the drive `d` over the list `l`, for the source `c` and
-- the target `t`, K being that of the Rate before the list
pub record RuledForK {A : Type 0} (step : StepOn A) (tick rate_write : Test A) (d : Drive) (c : Source) (t : ℕ) (l : List A) : Type 0 where
  pub ruled : Every (Ruled c t) (drives_found step tick d l)
  pub unwritten : drives_found step rate_write d l ≡ []
  pub enough : run_ticks (rate d.params) ≤ length (drives_found step tick d l)

-- "the drive stands at that target after the last of them and stays while that commander and target rule": then, over a list `l'` after that
abbrev pub Settles : {A : Type 0} → StepOn A → Test A → Test A → Drive → Type 0
Settles {A} step tick rate_write d =
    (c : Source) (t : ℕ) (l : List A)
    → RuledForK step tick rate_write d c t l
    → (let e = after step d l in
    (e.position ≡ t)
    × ((l' : List A) → Every (Ruled c t) (drives_found step tick e l') → Every (λ (o : Outcome). o.drive.position ≡ t) (outcomes step e l')))

-- of event records: one that is accepted and says something; an accepted tick; an accepted write of Rate
abbrev pub accepted : (Event → Bool) → Test (List ℕ)
accepted says d s = eqb (refusal_of d s) 0 && says (event_in s)

abbrev pub tick_accepted : Test (List ℕ)
tick_accepted = accepted is_tick

abbrev pub rate_written : Test (List ℕ)
rate_written = accepted (is_write rate_number)
