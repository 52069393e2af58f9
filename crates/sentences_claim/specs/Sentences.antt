-- Demand 3. Each sentence of it, of document 01's paragraph on it, each finding of the audit, and W-207 is here a theorem for every trace,
-- record or audit: on one side the product's definition, on the other the sentence as `Paper` says it a second time. What the product says
-- by splits of the trace stands there by places, by the clock or by a number, and what it says by recursion by splits.
--
-- How to read it: crates/sentences/specs/Sentences.antt.
--   `S.` demand 3 and the audit in their second form (Paper.antt); `P.` document 01 in its second form (crates/sentences/specs/Paper.antt);
--   `C.`, `R.` and `Log.` the product's definitions, of the claim, of what is read off a list of events and of the log; `F.` the fields
--   of a drive record
-- Histories and traces have the latest first: `m ∷ t` is the record m after the trace t, and `new ++ old` the trace `old` and what came
-- after it.
use Rattle.std.specs.Prelude.{◌≡◌, ◌↔◌, true, List, [], ◌∷◌, ◌++◌, map, ℕ, suc, ◌+◌, ◌*◌, ◌<◌, ◌≤◌, length, drop}
use Rattle.numbers.specs.Every.{Every}
use Rattle.event.specs.declared.Event.{Event}
use Rattle.rules.specs.Report.{silent, sent}
use Rattle.answer.specs.declared.Answer.{Answer}
use Rattle.damper.specs.declared.Drive.{Drive}
use Rattle.damper.specs.declared.Outcome.{Outcome}
use Rattle.damper.specs.WellFormed.{well_formed}
use Rattle.damper.specs.Tick.{status_of}
use Rattle.damper.specs.Carry.{Step, outcomes, drive_after}
use Rattle.damper.specs.Record.{fresh_drive, last}
use Rattle.damper.specs.Step.{step_of}
use Rattle.history.specs.Readings as R
use Rattle.history.specs.Log as Log
use Rattle.history.specs.Claim as C
use Rattle.audit.specs.declared.Audit.{Audit}
use Rattle.audit.specs.declared.Findings.{Findings}
use Rattle.audit.specs.Audit.{fresh_audit, said_in, met_by, audit_of}
use Rattle.recording.specs.Recording.{Heard, recording_of, trace_heard, Told, ToldFrom, findings_from, audit_after}
use Rattle.sentences.specs.Words.{first_that_fits}
use Rattle.sentences.specs.Fields as F
use Rattle.sentences.specs.Fields.{◌≔◌, ◌with◌, bare}
use Rattle.sentences.specs.Paper as P
use Rattle.sentences.specs.Forms as Forms
use Rattle.sentences_claim.specs.Paper as S
use Rattle.sentences_claim.specs.Tests as Tests
use Rattle.sentences_claim.specs.Counts as Counts
use Rattle.sentences_claim.specs.Holds as Holds
use Rattle.sentences_claim.specs.Traces as Traces
use Rattle.sentences_claim.specs.Audits as Audits
use Rattle.sentences_claim.specs.Recordings as Recordings
use Rattle.sentences_claim.specs.Arrives as Arrives

-- ── What a record of the list is ──

-- "accepted ones only"
pub accepted : (t : C.Trace) (h : List Event) → (C.accepted t ≡ h) ↔ S.Events t h
accepted t h = Tests.same_events t h

pub tick : (m : C.Moment) (t : C.Trace) → (C.accepted_as R.is_tick m t ≡ true) ↔ S.TickAt m t
tick m t = Tests.same_tick m t

pub restart : (m : C.Moment) (t : C.Trace) → (C.accepted_as R.is_restart m t ≡ true) ↔ S.RestartAt m t
restart m t = Tests.same_restart m t

-- "a spontaneous report is any answer of the tick's form with a status, .. and its position is the one in that answer"
pub reports : (m : C.Moment) → (C.reports m ≡ true) ↔ S.Reports m
reports m = Tests.reports m

pub reported : (a : Answer) (p s : ℕ) → (C.report_in a ≡ sent p s) ↔ S.Gives a p s
reported a p s = Tests.same_gives a p s

pub not_reported : (a : Answer) → (C.report_in a ≡ silent) ↔ (P.IsReport a → ⊥)
not_reported a = Tests.same_silent a

-- "position starts at 0"
pub position_after : (t : C.Trace) → C.position_after t ≡ S.position_after t
position_after t = Tests.same_before t

-- "A parameter is in force as read here at that tick."
pub in_force : (m : C.Moment) (t : C.Trace) (h : List Event) → S.Events (m ∷ t) h → C.in_force m t ≡ R.parameters h
in_force m t h e = Tests.same_in_force m t h e

-- ── Ticks ──

-- "Two are as many ticks apart as there are ticks after the first, up to and with the second, past restarts too."
pub ticks : (new old : C.Trace) → C.ticks_in new old + S.clock old ≡ S.clock (new ++ old)
ticks new old = Counts.ticks_clock new old

-- "they are without restart if none stands between the first and the last", and without report
pub quiet : (old new : C.Trace) → C.Quiet old new ↔ S.Without old new
quiet old new = (Counts.quiet_without old new, Counts.without_quiet old new)

-- the ticks after the latest report or restart, or from the beginning on
pub since : (t : C.Trace) (n : ℕ) → (C.since t ≡ n) ↔ S.Since t n
since t n = Counts.same_since t n

-- "the last one reported"; "no report since the last restart, or none at all"
pub last_report : (t : C.Trace) (p s : ℕ) → (C.last_report t ≡ sent p s) ↔ S.Last t 1 p s
last_report t p s = Counts.same_last t p s

pub no_last_report : (t : C.Trace) → (C.last_report t ≡ silent) ↔ S.Last t 0 0 0
no_last_report t = Counts.same_no_last t

-- every trace has the one or the other
pub some_last_report : (t : C.Trace) → (r : ℕ) × (p : ℕ) × (s : ℕ) × S.Last t r p s
some_last_report t = Counts.some_last t

-- ── The sentences of demand 3, at the record `m` after the trace `t` ──
module _ (m : C.Moment) (t : C.Trace) where
  -- "Two spontaneous reports are never fewer ticks apart than the MinRepTime in force at the later one."
  pub spacing : C.Spacing m t ↔ S.Spacing m t
  spacing = Holds.same_spacing m t

  -- "MinRepTime ticks in a row, as in force at the last of them, never pass without restart and without report when that last tick leaves a
  -- position that differs from the last one reported by ActPosCOV or more, or a status other than the last one reported."
  pub waiting : C.Waiting m t ↔ S.Waiting m t
  waiting = Holds.same_waiting m t

  -- "Each tick moves the damper by Rate or the distance, the smaller, toward the target of the highest commander which the list makes
  -- active then."
  pub move : C.Move m t ↔ S.Move m t
  move = Holds.same_moving m t

  -- "after every event that position is the one read here"
  pub position : C.Position m t ↔ S.Position m t
  position = Holds.same_position m t

  -- "Each report gives exactly the position and status that its tick leaves."
  pub content : C.Content m t ↔ S.Content m t
  content = Holds.same_content m t

  -- "No other event moves the damper or sends a spontaneous report."
  pub others : C.Others m t ↔ S.Others m t
  others = Holds.same_others m t

  -- "A report goes out .. if since is at least MinRepTime and one of these holds", and no other
  pub due : C.Due m t ↔ S.Due m t
  due = Holds.same_due m t

  -- the same test as a flag
  pub due_flag : (n r p s : ℕ) → S.Since t n → S.Last t r p s → (C.due_in m t ≡ true) ↔ S.DueAt m t n r p s
  due_flag n r p s a b = Holds.due_at_lem m t n r p s a b

  -- "Refusals 2 to 13 are judged by what is read here"
  pub refusal : C.Refusal m t ↔ S.Refusal m t
  refusal = Holds.same_refusal m t

  pub formed : C.Formed m t ↔ S.Formed m t
  formed = Holds.same_formed m t

  pub holds : C.Holds m t ↔ S.Holds m t
  holds = Holds.same_holds m t

  -- of a drive of a hall (document 02, W-204)
  pub only_due : C.OnlyDue m t ↔ S.OnlyDue m t
  only_due = Holds.same_only m t

  pub waiting_undue : C.WaitingUndue m t ↔ S.WaitingUndue m t
  waiting_undue = Holds.same_waiting_undue m t

  pub hall_holds : C.HallHolds m t ↔ S.HallHolds m t
  hall_holds = Holds.same_hall_holds m t

-- "Demand 3 is one claim about the whole list and not one for each event."
pub claim : (t : C.Trace) → C.Claim t ↔ S.Everywhere S.Holds t
claim t = Traces.same_claim t

pub hall_claim : (t : C.Trace) → C.HallClaim t ↔ S.Everywhere S.HallHolds t
hall_claim t = Traces.same_hall_claim t

-- the first sentence by two places of a trace: `j` records stand between the report at `i` and the earlier one
pub two_reports : (t : C.Trace) → C.Claim t → (i j : ℕ) (m x : C.Moment) (now old : C.Trace)
    → drop i t ≡ m ∷ now → drop (suc (i + j)) t ≡ x ∷ old → S.Reports x → S.Reports m
    → S.clock (x ∷ old) + P.MinRepTime (S.in_force m now) ≤ S.clock (m ∷ now)
two_reports t c i j m x now old e f r q = Traces.two_reports t ((claim t).0 c) i j m x now old e f r q

-- ── The list, the drive and the log ──

-- records and what they gave, one after the other
pub trace_on : (first : C.Trace) (l : List (List ℕ)) (os : List Outcome) (t : C.Trace) → length os ≡ length l
    → (C.trace_on first l os ≡ t) ↔ S.Traced first l os t
trace_on first l os t n = Traces.same_traced first l os t n

-- "The first event record goes to a fresh drive, each later one to the drive that the one before left, refused or not, and nobody else
-- writes it in between."
pub trace_of : (step : Step) (l : List (List ℕ)) (t : C.Trace) → (C.trace_of step l ≡ t) ↔ ((d : Drive) × S.Given step fresh_drive l d t)
trace_of step l t = Traces.given_trace step fresh_drive l t

-- the list of accepted events
pub history_of : (step : Step) (l : List (List ℕ)) (d : Drive) (t : C.Trace) (h : List Event) → S.Given step fresh_drive l d t
    → (R.history_of l ≡ h) ↔ S.Events t h
history_of step l d t h g = Traces.given_events step fresh_drive l d t h g

pub drive_after_lem : (step : Step) (l : List (List ℕ)) (d : Drive) (t : C.Trace) → S.Given step fresh_drive l d t
    → drive_after fresh_drive (outcomes step fresh_drive l) ≡ d
drive_after_lem step l d t g = Traces.given_drive step fresh_drive l d t g

-- the reports in order, each with the number of its record
pub log_of : (step : Step) (l : List (List ℕ)) (es : List Log.Entry) → (C.log_of step l ≡ es) ↔ S.Logged (C.trace_of step l) es
log_of step l es = Traces.same_log step l es

-- Demand 3 in this form, of the proved drive: "For every list of event records .. all of this holds."
pub demand_3 : (l : List (List ℕ)) (d : Drive) (t : C.Trace) → S.Given step_of fresh_drive l d t → S.Everywhere S.Holds t
demand_3 l d t g = Traces.all_hold l d t g

-- and its log, read off the list alone
pub log_in : (l : List (List ℕ)) (d : Drive) (t : C.Trace) → S.Given step_of fresh_drive l d t → S.Logged t (Log.log_in l)
log_in l d t g = Traces.log_holds l d t g

-- ── The audit: what is found at a record ──

-- what an answer says: its number, the position that it shows, whether it reports, and of which status
pub said_number : (p : ℕ) (y : Answer) (n : ℕ) → ((said_in p y).number ≡ n) ↔ S.Number y n
said_number p y n = Audits.same_said p y n

pub said_position : (p : ℕ) (y : Answer) (q : ℕ) → ((said_in p y).position ≡ q) ↔ S.Shows p y q
said_position p y q = Audits.same_shows p y q

pub said_reports : (p : ℕ) (y : Answer) → ((said_in p y).reports ≡ true) ↔ P.IsReport y
said_reports p y = Audits.same_reports p y

pub said_status : (p : ℕ) (y : Answer) (q s : ℕ) → S.Gives y q s → (said_in p y).status ≡ s
said_status p y q s g = (Audits.gives_said p g).1

pub said_no_status : (p : ℕ) (y : Answer) → (P.IsReport y → ⊥) → (said_in p y).status ≡ 0
said_no_status p y h = Audits.none_said p y h

-- every count of ticks has one after a record, and every tick from a position a target, so that what follows says something
pub some_count : (d : Drive) (s : List ℕ) (n : ℕ) → (k : ℕ) × S.Counted d s n k
some_count d s n = Audits.some_count d s n

pub some_target : (d : Drive) (p : ℕ) → P.WellFormed d → (t : ℕ) × P.Target d.commands d.run.kind p d.params (P.ruling d) t
some_target d p w = Audits.some_target d p ((Forms.same_formed d).1 w)

module _ (a : Audit) (s : List ℕ) (y : Answer) (w : P.WellFormed a.drive) where
  -- the step of document 01's drive
  abbrev o : Outcome
  o = step_of a.drive s

  abbrev f : Findings
  f = (audit_of a s y).findings

  abbrev after : Audit
  after = (audit_of a s y).audit

  formed_flag : well_formed a.drive ≡ true
  formed_flag = (Forms.same_formed a.drive).1 w

  -- what document 01's drive makes of the record: an accepted tick or restart, the refusal, a report, and the move of a tick from the
  -- position last shown
  pub met_tick : ((met_by a s).tick ≡ true) ↔ S.TickOf a.drive s
  met_tick = Audits.is_tick_lem a s y formed_flag

  pub met_restart : ((met_by a s).restart ≡ true) ↔ S.RestartOf a.drive s
  met_restart = Audits.is_restart a s y formed_flag

  pub met_drive : (met_by a s).drive ≡ o.drive
  met_drive = Audits.met_drive a s y formed_flag

  pub met_number : (met_by a s).number ≡ first_that_fits (P.turned_down a.drive s)
  met_number = Audits.met_number a s y formed_flag

  pub met_reports : ((met_by a s).reports ≡ true) ↔ P.IsReport o.answer
  met_reports = Audits.met_reports a s y formed_flag

  pub met_moved : (t : ℕ) → P.Target a.drive.commands a.drive.run.kind a.seen a.drive.params (P.ruling a.drive) t
      → P.Moved a.seen t (P.Rate a.drive.params) (met_by a s).moved
  met_moved t x = Audits.met_moved a s y formed_flag t x

  -- a report fewer than MinRepTime ticks after the latest one, the record counted
  pub spacing_found : (n : ℕ) → S.Counted a.drive s a.apart n
      → (f.spacing ≡ true) ↔ (P.IsReport y × (n < P.MinRepTime o.drive.params))
  spacing_found n c = Audits.spacing a s y formed_flag n c

  -- a tick without report, MinRepTime ticks or more after the latest report or restart, the tick counted, which leaves something new
  pub waiting_found : (f.waiting ≡ true)
      ↔ (S.TickOf a.drive s × (P.IsReport y → ⊥) × (P.MinRepTime o.drive.params ≤ P.one_more a.drive.since)
      × S.New o.drive.params o.drive.position (status_of o.drive)
      a.drive.last.reported a.drive.last.position a.drive.last.status)
  waiting_found = Audits.waiting a s y formed_flag

  -- a tick that shows another position than the move from the one last shown
  pub moving_found : (t p : ℕ) → P.Target a.drive.commands a.drive.run.kind a.seen a.drive.params (P.ruling a.drive) t
      → S.Shows a.seen y p → (f.moving ≡ true) ↔ (S.TickOf a.drive s × (P.Moved a.seen t (P.Rate a.drive.params) p → ⊥))
  moving_found t p x h = Audits.moving a s y formed_flag t p x h

  -- another position than the drive's
  pub position_found : (p : ℕ) → S.Shows a.seen y p → (f.position ≡ true) ↔ (p ≡ o.drive.position → ⊥)
  position_found p h = Audits.position a s y formed_flag p h

  -- a report of another position or status than the drive's
  pub content_found : (f.content ≡ true) ↔ (P.IsReport y × (S.Gives y o.drive.position (status_of o.drive) → ⊥))
  content_found = Audits.content a s y formed_flag

  -- no tick, and another position than the one last shown
  pub othermove_found : (p : ℕ) → S.Shows a.seen y p → (f.othermove ≡ true) ↔ ((S.TickOf a.drive s → ⊥) × (p ≡ a.seen → ⊥))
  othermove_found p h = Audits.othermove a s y formed_flag p h

  -- no tick, and a report
  pub otherreport_found : (f.otherreport ≡ true) ↔ ((S.TickOf a.drive s → ⊥) × P.IsReport y)
  otherreport_found = Audits.otherreport a s y formed_flag

  -- a tick that does not report though it is due, or reports though it is not
  pub due_found : (f.due ≡ true) ↔ (S.TickOf a.drive s × ((P.IsReport y ↔ S.TickDue a.drive) → ⊥))
  due_found = Audits.due_found a s y formed_flag

  -- another number than "the first that fits"
  pub refusal_found : (f.refusal ≡ true) ↔ (S.Number y (first_that_fits (P.turned_down a.drive s)) → ⊥)
  refusal_found = Audits.refusal a s y formed_flag

  -- another answer, of answers whose values fit their widths: two bytes of a parameter, one of any other
  pub answer_found : P.Fits y → P.Fits o.answer → (f.answer ≡ true) ↔ (y ≡ o.answer → ⊥)
  answer_found h k = Audits.answer a s y formed_flag h k

  -- ── The audit: what it keeps ──

  pub taken : (audit_of a s y).refusal ≡ 0
  taken = Audits.taken a s y formed_flag

  -- the drive, with since and the last report as they were heard
  pub drive_kept : after.drive
      ≡ o.drive with (F.since ≔ after.drive.since ∷ F.reported ≔ after.drive.last.reported
      ∷ F.last_position ≔ after.drive.last.position ∷ F.last_status ≔ after.drive.last.status ∷ [])
  drive_kept = Audits.kept a s y formed_flag

  -- the position that was last shown
  pub seen_kept : (p : ℕ) → S.Shows a.seen y p → after.seen ≡ p
  seen_kept p h = Audits.seen a s y formed_flag p h

  -- the ticks after the latest report, past restarts
  pub apart_report : P.IsReport y → after.apart ≡ 0
  apart_report r = Audits.apart_report a s y formed_flag r

  pub apart_else : (n : ℕ) → (P.IsReport y → ⊥) → S.Counted a.drive s a.apart n → after.apart ≡ n
  apart_else n r c = Audits.apart_else a s y formed_flag n r c

  -- the ticks after the latest report or restart
  pub since_report : P.IsReport y → after.drive.since ≡ 0
  since_report r = Audits.since_report a s y formed_flag r

  pub since_restart : S.RestartOf a.drive s → after.drive.since ≡ 0
  since_restart r = Audits.since_restart a s y formed_flag r

  pub since_else : (n : ℕ) → (P.IsReport y → ⊥) → (S.RestartOf a.drive s → ⊥) → S.Counted a.drive s a.drive.since n
      → after.drive.since ≡ n
  since_else n r z c = Audits.since_else a s y formed_flag n r z c

  -- the last report since the last restart
  pub last_restart : S.RestartOf a.drive s → after.drive.last ≡ last 0 0 0
  last_restart r = Audits.last_restart a s y formed_flag r

  pub last_heard : (p v : ℕ) → (S.RestartOf a.drive s → ⊥) → S.Gives y p v → after.drive.last ≡ last 1 p v
  last_heard p v z g = Audits.last_report a s y formed_flag p v z g

  pub last_else : (S.RestartOf a.drive s → ⊥) → (P.IsReport y → ⊥) → after.drive.last ≡ a.drive.last
  last_else z r = Audits.last_else a s y formed_flag z r

-- an audit whose drive is not well formed is refused by 1, unchanged, and nothing is found
pub audit_refused : (a : Audit) (s : List ℕ) (y : Answer) → (P.WellFormed a.drive → ⊥)
    → audit_of a s y ≡ record { audit = a; refusal = 1; findings = S.nothing_found }
audit_refused a s y n = Audits.refused a s y (Forms.not_formed a.drive n)

-- a fresh audit: a fresh drive at position 0, and no report heard that another could be too near to
pub audit_fresh : fresh_audit ≡ record { drive = bare 0 (map (λ (l : P.Line). l.fresh) P.table) 0; seen = 0; apart = 65535 }
audit_fresh = Audits.fresh

-- ── The audit of a recording ──

-- the audit and the trace, record by record
pub carried : (l : List Heard) (a : Audit) (t : C.Trace)
    → ((audit_after fresh_audit l ≡ a) × (trace_heard l ≡ t)) ↔ S.Recorded fresh_audit l a t
carried l a t = Recordings.carried l a t

pub no_findings : findings_from fresh_audit [] ≡ []
no_findings = Recordings.findings_none fresh_audit

pub findings : (l : List Heard) (x : Heard)
    → findings_from fresh_audit (l ++ (x ∷ []))
    ≡ findings_from fresh_audit l ++ ((audit_of (audit_after fresh_audit l) x.bytes x.answer).findings ∷ [])
findings l x = Recordings.findings_snoc l x fresh_audit

-- what is told of a list that a drive was given
pub recorded : (step : Step) (l : List (List ℕ)) (d : Drive) (t : C.Trace) → S.Given step fresh_drive l d t
    → recording_of l (outcomes step fresh_drive l) ≡ S.recording t
recorded step l d t g = Traces.same_recording step fresh_drive l d t g

-- the theorem of the audit, `audit_tells`, at one record and at each of a recording
pub told : (m : C.Moment) (t : C.Trace) (f : Findings) → Told m t f ↔ S.Finds m t f
told m t f = Recordings.same_told m t f

pub told_from : (l : List Heard) (fs : List Findings) → ToldFrom [] l fs ↔ S.FindsAll l fs
told_from l fs = Recordings.same_tells l fs

-- For every recording of any drive, each finding is true where its sentence fails, and only there.
pub finds : (l : List Heard) (a : Audit) (t : C.Trace) → S.Recorded fresh_audit l a t → (s : List ℕ) (y : Answer) (p : ℕ)
    → S.Shows (S.position_after t) y p → S.Finds (S.moment s y p) t (audit_of a s y).findings
finds l a t g s y p h = Recordings.finds g s y p h

-- ── Document 02, W-207, 'It gets there' ──

-- every list of event records, given to any drive, has the drives that its ticks find, and a drive that it leaves
pub ticks_found : (d : Drive) (l : List (List ℕ)) → (found : List Drive) × (e : Drive) × S.TicksFind step_of S.TickOf d l found e
ticks_found d l = Arrives.found_by l d

-- "If one commander rules with one target for K ticks in a row, Rate unwritten, the drive stands at that target after the last of them and
-- stays while that commander and target rule. Show it for every well-formed drive": n ticks are K or more just where 255 ≤ n × Rate
pub settles : (d : Drive) → P.WellFormed d → d.position < 256 → (r t : ℕ)
    → (l : List (List ℕ)) (found : List Drive) (e : Drive) → S.TicksFind step_of S.TickOf d l found e → S.Unwritten step_of S.RateWrite d l
    → Every (S.Rules r t) found → 255 ≤ length found * P.Rate d.params
    → (e.position ≡ t)
    × ((l' : List (List ℕ)) (found' : List Drive) (e' : Drive) → S.TicksFind step_of S.TickOf e l' found' e' → Every (S.Rules r t) found'
    → e'.position ≡ t)
settles d w b r t l found e g u xs n = Arrives.settles d ((Forms.same_formed d).1 w) b r t l found e g u xs n
