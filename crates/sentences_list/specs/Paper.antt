-- Document 01, 'Who commands', "Read off the list of events (accepted ones only, after the last restart): ..", sentence by sentence in a
-- second form, in which no definition stands that is compared. Of the product's words, `to_position` and `run_ticks` do stand here, and are
-- fixed on the page of the crate sentences (percent-to-position, k-ticks). A history is the accepted events, the latest first: in
-- `after ++ (e ∷ before)` the events of `after` came after `e`.
use Rattle.std.specs.Prelude.{◌≡◌, ◌↔◌, Bool, true, false, List, [], ◌∷◌, ◌++◌, map, ℕ, suc, ◌+◌, ◌-◌, ◌*◌, ◌/◌, ◌%◌, ◌^◌, ◌≤◌, ◌<◌, length, get_or}
use Rattle.event.specs.declared.Event.{Event}
use Rattle.motion.specs.Motion.{to_position, run_ticks}
use Rattle.rules.specs.declared.Commands.{Commands}
use Rattle.rules.specs.Rank as R
use Rattle.history.specs.Log.{Entry}
use Rattle.sentences.specs.Words.{◌is◌, choose, first_that_fits}
use Rattle.sentences.specs.Paper as P

-- each of a list is so; none of it is
pub data Each {A : Type 0} (p : A → Type 0) : List A → Type 0 where
  none : Each p []
  more : {x : A} {l : List A} → p x → Each p l → Each p (x ∷ l)

abbrev pub Without : {A : Type 0} → (A → Type 0) → List A → Type 0
Without p l = Each (λ x. p x → ⊥) l

-- `e` is the latest of `l` that is so; `after` came after it and `before` before it
pub record Latest {A : Type 0} (p : A → Type 0) (l after : List A) (e : A) (before : List A) : Type 0 where
  pub split : l ≡ after ++ (e ∷ before)
  pub so : p e
  pub none_after : Without p after

-- "as their latest event says, .. and off without one"
pub data LatestSays (p : Event → Type 0) (says : Event → ℕ) (off : ℕ) (l : List Event) (v : ℕ) : Type 0 where
  latest : {after : List Event} {e : Event} {before : List Event} → Latest p l after e before → says e ≡ v → LatestSays p says off l v
  without : Without p l → off ≡ v → LatestSays p says off l v

-- 'Eleven kinds of event': an event of kind `k`
abbrev pub OfKind : ℕ → Event → Type 0
OfKind k e = e.kind ≡ k

-- "after the last restart": `now` is what came after it, all where there is none
pub data AfterRestart (h now : List Event) : Type 0 where
  restarted : {r : Event} {before : List Event} → Latest (OfKind 9) h now r before → AfterRestart h now
  never : Without (OfKind 9) h → h ≡ now → AfterRestart h now

-- "the tool's being command 1 or 2"
pub data Tool (e : Event) : Type 0 where
  override : e.kind ≡ 3 → e.c ≡ 1 → Tool e
  release : e.kind ≡ 3 → e.c ≡ 2 → Tool e

-- "kind 2 or command 0"
pub data Setpoint (e : Event) : Type 0 where
  kind_2 : e.kind ≡ 2 → Setpoint e
  command_0 : e.kind ≡ 3 → e.c ≡ 0 → Setpoint e

-- what an event says. "4 forcing, a ..", "5 hand: a = 1 on, with value b; a = 0 off", "7 fault: a = 1 present, 0 gone."
abbrev pub a_of : Event → ℕ
a_of e = e.a

abbrev pub hand_value : Event → ℕ
hand_value e = choose (e.a is 1) e.b 0

-- "b = percent, c = command: 0 normal write, 1 override, 2 release"
abbrev pub tool_flag : Event → ℕ
tool_flag e = choose (e.c is 1) 1 0

abbrev pub tool_value : Event → ℕ
tool_value e = choose (e.c is 1) (to_position e.b) 0

-- "The setpoint is that of the latest kind 2 or command 0."
abbrev pub setpoint_value : Event → ℕ
setpoint_value e = choose (e.kind is 2) e.a (to_position e.b)

-- fault, forcing, hand, tool and setpoint of a history; "what is absent reads 0"
pub record CommandsRead (h : List Event) (c : Commands) : Type 0 where
  pub now : List Event
  pub after_restart : AfterRestart h now
  pub fault : LatestSays (OfKind 7) a_of 0 now c.fault
  pub forcing : LatestSays (OfKind 4) a_of 0 now c.forcing
  pub hand : LatestSays (OfKind 5) a_of 0 now c.hand
  pub handpos : LatestSays (OfKind 5) hand_value 0 now c.handpos
  pub tool : LatestSays Tool tool_flag 0 now c.tool
  pub toolpos : LatestSays Tool tool_value 0 now c.toolpos
  pub stored : LatestSays Setpoint (λ e. 1) 0 now c.stored
  pub setpoint : LatestSays Setpoint setpoint_value 0 now c.setpoint

-- "8 parameter write: a = a number of the table, value 256 × b + c."
abbrev pub Write : ℕ → Event → Type 0
Write n e = (e.kind ≡ 8) × (e.a ≡ n)

abbrev pub written_value : Event → ℕ
written_value e = 256 * e.b + e.c

-- "Parameters .. look at the whole list, past every restart: a parameter is its latest write, or the fresh value": by the table's lines
pub data Written (h : List Event) : List P.Line → List ℕ → Type 0 where
  done : Written h [] []
  line : {l : P.Line} {ls : List P.Line} {v : ℕ} {q : List ℕ} → LatestSays (Write l.number) written_value l.fresh h v → Written h ls q
      → Written h (l ∷ ls) (v ∷ q)

abbrev pub Parameters : List Event → List ℕ → Type 0
Parameters h q = Written h P.table q

-- "1 tick: one second passes.": the ticks among events
abbrev pub ticks : List Event → List Event
ticks [] = []
ticks (e ∷ l) = choose (e.kind is 1) (e ∷ ticks l) (ticks l)

-- "Bus is active if there is a setpoint and no more than Timeout ticks followed it, the present one counted": `present` is 1 at a tick that
-- comes after `h`, and 0 of `h` as it stands
pub record BusActive (present : ℕ) (h : List Event) : Type 0 where
  pub now : List Event
  pub after_restart : AfterRestart h now
  pub after : List Event
  pub setpoint : Event
  pub before : List Event
  pub latest : Latest Setpoint now after setpoint before
  pub q : List ℕ
  pub parameters : Parameters h q
  pub in_time : length (ticks after) + present ≤ P.Timeout q

pub data Bus (present : ℕ) (h : List Event) : Bool → Type 0 where
  active : BusActive present h → Bus present h true
  not_active : (BusActive present h → ⊥) → Bus present h false

-- where a run may start: at a calibration or a restart. A restart with StartSynchronization 0 starts none, and no start before it counts:
-- "after the last restart", "Restart .. clears all else".
pub data Start (e : Event) : Type 0 where
  calibration : e.kind ≡ 6 → Start e
  restart : e.kind ≡ 9 → Start e

-- "a restart with StartSynchronization 1 or 2 counts", "Calibration runs toward 0, a restart's run as StartSynchronization stood then": the
-- run (1 calibration, 2 sync close, 3 sync open) that an event starts, `q` being the parameters then
pub data Starts (q : List ℕ) (e : Event) : ℕ → Type 0 where
  calibration : e.kind ≡ 6 → Starts q e 1
  sync_close : e.kind ≡ 9 → P.StartSynchronization q ≡ 1 → Starts q e 2
  sync_open : e.kind ≡ 9 → P.StartSynchronization q ≡ 2 → Starts q e 3

-- "fault 1 or forcing 2 or 3"
pub data EndsRun (e : Event) : Type 0 where
  fault_1 : e.kind ≡ 7 → e.a ≡ 1 → EndsRun e
  forcing_2 : e.kind ≡ 4 → e.a ≡ 2 → EndsRun e
  forcing_3 : e.kind ≡ 4 → e.a ≡ 3 → EndsRun e

-- "A run is active if after its latest start .. no fault 1 or forcing 2 or 3 came and fewer than K ticks passed before the present event, K
-- taken from the Rate at that start." For the status of a tick "the present tick counts among those a run has passed": `present` is then 1.
pub record Running (present : ℕ) (h : List Event) (run : ℕ) : Type 0 where
  pub after : List Event
  pub start : Event
  pub before : List Event
  pub latest : Latest Start h after start before
  pub q : List ℕ
  pub parameters : Parameters before q
  pub starts : Starts q start run
  pub not_ended : Without EndsRun after
  pub in_time : length (ticks after) + present < run_ticks (P.Rate q)

pub data Run (present : ℕ) (h : List Event) : ℕ → Type 0 where
  active : {run : ℕ} → Running present h run → Run present h run
  none : ((run : ℕ) → Running present h run → ⊥) → Run present h 0

-- what a history gives, `passed` present ticks counted among those that a run has passed and `followed` among those after the setpoint
pub record Read (passed followed : ℕ) (h : List Event) (c : Commands) (run : ℕ) (bus : Bool) (q : List ℕ) : Type 0 where
  pub commands : CommandsRead h c
  pub running : Run passed h run
  pub bus_active_lem : Bus followed h bus
  pub parameters : Parameters h q

-- "Ranks: 6 fault, 5 forcing, 4 run, 3 hand, 2 tool, 1 bus, 0 backup."
pub data Ranked : R.Source → ℕ → Type 0 where
  fault : Ranked R.fault 6
  forcing : Ranked R.forcing 5
  run : Ranked R.run 4
  hand : Ranked R.hand 3
  tool : Ranked R.tool 2
  bus : Ranked R.bus 1
  backup : Ranked R.backup 0

-- the target of a tick that comes after `h`, the present position being `p`
pub data Target (h : List Event) (p t : ℕ) : Type 0 where
  target : {c : Commands} {run : ℕ} {bus : Bool} {q : List ℕ} → Read 0 1 h c run bus q
      → P.Target c run p q (first_that_fits (P.commanders c run bus)) t → Target h p t

-- "position starts at 0, a tick changes it by step 2 below with the target and Rate read here, and no other event does"
pub data Position : List Event → ℕ → Type 0 where
  start : Position [] 0
  tick : {e : Event} {h : List Event} {p t n : ℕ} {q : List ℕ} → e.kind ≡ 1 → Position h p → Target h p t → Parameters h q
      → P.Moved p t (P.Rate q) n → Position (e ∷ h) n
  other : {e : Event} {h : List Event} {p : ℕ} → (e.kind ≡ 1 → ⊥) → Position h p → Position (e ∷ h) p

-- document 02, W-208: "the sum of all its moves in the list of events": a tick adds the way from the position before it to the one after it
pub data Travel : List Event → ℕ → Type 0 where
  start : Travel [] 0
  rising : {e : Event} {h : List Event} {p q n : ℕ} → e.kind ≡ 1 → Travel h n → Position h p → Position (e ∷ h) q → p ≤ q
      → Travel (e ∷ h) (n + (q - p))
  falling : {e : Event} {h : List Event} {p q n : ℕ} → e.kind ≡ 1 → Travel h n → Position h p → Position (e ∷ h) q → q ≤ p
      → Travel (e ∷ h) (n + (p - q))
  other : {e : Event} {h : List Event} {n : ℕ} → (e.kind ≡ 1 → ⊥) → Travel h n → Travel (e ∷ h) n

-- the number whose bits are the status bits
abbrev pub Bits : Commands → ℕ → Bool → ℕ → Type 0
Bits c r b s = (i : ℕ) → (s / 2 ^ i % 2 ≡ 1) ↔ P.Shown c r b i

-- "So is the status that a tick leaves ..; for it the present tick counts among those a run has passed": of a tick that comes after `h`
pub data TickStatus (h : List Event) (s : ℕ) : Type 0 where
  left : {c : Commands} {run : ℕ} {bus : Bool} {q : List ℕ} → Read 1 1 h c run bus q → Bits c run bus s → TickStatus h s

-- "Refusals 2 to 13 are judged by what is read here and never by the drive record.": the number that fits the bytes `s`, 0 if none does
pub record Judged (h : List Event) (s : List ℕ) (n : ℕ) : Type 0 where
  pub now : List Event
  pub after_restart : AfterRestart h now
  pub fault : ℕ
  pub forcing : ℕ
  pub run : ℕ
  pub q : List ℕ
  pub fault_read : LatestSays (OfKind 7) a_of 0 now fault
  pub forcing_read : LatestSays (OfKind 4) a_of 0 now forcing
  pub run_read : Run 0 h run
  pub parameters : Parameters h q
  pub number : first_that_fits
      (P.of_the_reader s
      ++ P.of_the_drive q run fault forcing (get_or s 2 0) (get_or s 3 0) (256 * get_or s 4 0 + get_or s 5 0)) ≡ n

-- "accepted ones only": records, the latest first, and the history that they leave, each judged by what those before it give
pub data History : List (List ℕ) → List Event → Type 0 where
  start : History [] []
  accepted : {l : List (List ℕ)} {h : List Event} {s : List ℕ} → History l h → Judged h s 0 → History (s ∷ l) (P.event_in s ∷ h)
  refused : {l : List (List ℕ)} {h : List Event} {s : List ℕ} {n : ℕ} → History l h → Judged h s (suc n) → History (s ∷ l) h

abbrev pub Accepted : List Event → Type 0
Accepted h = (l : List (List ℕ)) × History l h

-- ── The reports, as the list alone decides them ──

-- an accepted event, and whether it reported
pub record Told : Type 0 where
  pub event : Event
  pub reported : Bool

abbrev pub told : Event → Bool → Told
told e r = record { event = e; reported = r }

abbrev pub events : List Told → List Event
events k = map (λ (m : Told). m.event) k

-- "A report goes out, and since becomes 0"; "Restart .. sets since to 0"
pub data SetsSince (m : Told) : Type 0 where
  report : m.reported ≡ true → SetsSince m
  restart : m.event.kind ≡ 9 → SetsSince m

-- "Since rises by one" at a tick: the ticks after the latest report or restart, or from the beginning on
pub data Since (k : List Told) (n : ℕ) : Type 0 where
  after_that : {after : List Told} {m : Told} {before : List Told} → Latest SetsSince k after m before
      → length (ticks (events after)) ≡ n → Since k n
  from_the_beginning : Without SetsSince k → length (ticks (events k)) ≡ n → Since k n

-- the last report, "no report since the last restart, or none at all" being none; "the last report when there is none" reads 0
pub data LastReport (k : List Told) : ℕ → ℕ → ℕ → Type 0 where
  report : {after : List Told} {m : Told} {before : List Told} {p s : ℕ} → Latest SetsSince k after m before → m.reported ≡ true
      → Position (m.event ∷ events before) p → TickStatus (events before) s → LastReport k 1 p s
  restart : {after : List Told} {m : Told} {before : List Told} → Latest SetsSince k after m before → m.reported ≡ false
      → LastReport k 0 0 0
  none : Without SetsSince k → LastReport k 0 0 0

-- step 4 at a tick that comes after `k` and leaves the position `p` and the status `s`, since having risen by one
pub record ReportDue (k : List Told) (p s : ℕ) : Type 0 where
  pub since : ℕ
  pub reported : ℕ
  pub last_position : ℕ
  pub last_status : ℕ
  pub q : List ℕ
  pub since_read : Since k since
  pub last_read : LastReport k reported last_position last_status
  pub parameters : Parameters (events k) q
  pub due : P.Due q (since + 1) p s reported last_position last_status

-- records, the latest first; their accepted events with whether each reported; the reports, each with the number of its record from 1
pub data Log : List (List ℕ) → List Told → List Entry → Type 0 where
  start : Log [] [] []
  refused : {l : List (List ℕ)} {k : List Told} {es : List Entry} {s : List ℕ} {n : ℕ} → Log l k es
      → Judged (events k) s (suc n)
      → Log (s ∷ l) k es
  other : {l : List (List ℕ)} {k : List Told} {es : List Entry} {s : List ℕ} → Log l k es
      → Judged (events k) s 0 → ((P.event_in s).kind ≡ 1 → ⊥)
      → Log (s ∷ l) (told (P.event_in s) false ∷ k) es
  silent : {l : List (List ℕ)} {k : List Told} {es : List Entry} {s : List ℕ} {p v : ℕ} → Log l k es
      → Judged (events k) s 0 → (P.event_in s).kind ≡ 1 → Position (P.event_in s ∷ events k) p → TickStatus (events k) v
      → (ReportDue k p v → ⊥)
      → Log (s ∷ l) (told (P.event_in s) false ∷ k) es
  sent : {l : List (List ℕ)} {k : List Told} {es : List Entry} {s : List ℕ} {p v : ℕ} → Log l k es
      → Judged (events k) s 0 → (P.event_in s).kind ≡ 1 → Position (P.event_in s ∷ events k) p → TickStatus (events k) v
      → ReportDue k p v
      → Log (s ∷ l) (told (P.event_in s) true ∷ k) (record { number = suc (length l); position = p; status = v } ∷ es)
