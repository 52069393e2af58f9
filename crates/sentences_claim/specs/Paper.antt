-- Demand 3, document 01's paragraph on it, what an audit finds, and W-207, sentence by sentence, in a second form. A trace is a list of
-- moments, the latest first; a sentence speaks of the record `m`, which came after the trace `t`. `accepted` are the events that `Events`
-- says; what is read off a list of accepted events keeps its name of the crate history: judgement, parameters, target, position and status.
use Rattle.std.specs.Prelude.{◌≡◌, ◌↔◌, Bool, true, false, List, [], ◌∷◌, ◌++◌, map, ℕ, ◌+◌, ◌≤◌, length, get_or, drop}
use Rattle.event.specs.declared.Event.{Event}
use Rattle.answer.specs.declared.Answer.{Answer}
use Rattle.answer.specs.declared.Answer.TheVariants.{No, Done, Par, At, Tick, Report}
use Rattle.damper.specs.declared.Drive.{Drive}
use Rattle.damper.specs.declared.Outcome.{Outcome}
use Rattle.damper.specs.Tick.{advance}
use Rattle.damper.specs.Carry.{StepOn, Step}
use Rattle.history.specs.Readings.{judgement, parameters, target_from, position_in, status_in}
use Rattle.history.specs.Log.{Entry}
use Rattle.history.specs.Claim.{Moment, Trace, accepted}
use Rattle.audit.specs.declared.Audit.{Audit}
use Rattle.audit.specs.declared.Findings.{Findings}
use Rattle.audit.specs.Audit.{fresh_audit, audit_of}
use Rattle.recording.specs.Recording.{Heard}
use Rattle.sentences.specs.Words.{◌is◌, choose, first_that_fits}
use Rattle.sentences.specs.Paper as P

-- ── What a record of the list is ──

-- "accepted ones only": `h` are the accepted events of the trace, each judged by those before it
pub data Events : Trace → List Event → Type 0 where
  start : Events [] []
  taken : (m : Moment) {t : Trace} {h : List Event} → Events t h → judgement h m.bytes ≡ 0 → Events (m ∷ t) (P.event_in m.bytes ∷ h)
  refused : (m : Moment) {t : Trace} {h : List Event} → Events t h → (judgement h m.bytes ≡ 0 → ⊥) → Events (m ∷ t) h

-- an accepted tick, an accepted restart
abbrev pub TickAt : Moment → Trace → Type 0
TickAt m t = (judgement (accepted t) m.bytes ≡ 0) × (get_or m.bytes 2 0 ≡ 1)

abbrev pub RestartAt : Moment → Trace → Type 0
RestartAt m t = (judgement (accepted t) m.bytes ≡ 0) × (get_or m.bytes 2 0 ≡ 9)

-- "a spontaneous report is any answer of the tick's form with a status, whichever event it answers, and its position is the one in that
-- answer": the answer reports the position `p` and the status `s`
pub data Gives : Answer → ℕ → ℕ → Type 0 where
  report : (p r m s : ℕ) → Gives (Report p r m s) p s

abbrev pub Reports : Moment → Type 0
Reports m = P.IsReport m.answer

-- the number of an answer: N of `no N`, 0 of any other
pub data Number : Answer → ℕ → Type 0 where
  no : (n : ℕ) → Number (No n) n
  other : (a : Answer) → ((n : ℕ) → a ≡ No n → ⊥) → Number a 0

-- ── Ticks ──

-- "Only accepted ticks count": how many there are among accepted events, and so from the beginning up to the end of a trace
abbrev pub tick_count : List Event → ℕ
tick_count [] = 0
tick_count (e ∷ h) = choose (e.kind is 1) 1 0 + tick_count h

abbrev pub clock : Trace → ℕ
clock t = tick_count (accepted t)

-- neither restart nor report among the records `new`, which came after the trace `old`
abbrev pub Without : Trace → Trace → Type 0
Without old new = (later : Trace) (x : Moment) (earlier : Trace) → new ≡ later ++ (x ∷ earlier)
    → (RestartAt x (earlier ++ old) → ⊥) × (Reports x → ⊥)

-- `n` ticks came after the latest report or restart, or from the beginning on
pub data Since (t : Trace) (n : ℕ) : Type 0 where
  beginning : Without [] t → clock t ≡ n → Since t n
  after_report : (new : Trace) (x : Moment) (old : Trace) → t ≡ new ++ (x ∷ old) → Reports x → Without (x ∷ old) new
      → clock t ≡ clock (x ∷ old) + n → Since t n
  after_restart : (new : Trace) (x : Moment) (old : Trace) → t ≡ new ++ (x ∷ old) → RestartAt x old → Without (x ∷ old) new
      → clock t ≡ clock (x ∷ old) + n → Since t n

-- the last report since the last restart: whether there is one, its position and its status
pub data Last (t : Trace) : ℕ → ℕ → ℕ → Type 0 where
  reported : {p s : ℕ} (new : Trace) (x : Moment) (old : Trace) → t ≡ new ++ (x ∷ old) → Gives x.answer p s → (RestartAt x old → ⊥)
      → Without (x ∷ old) new → Last t 1 p s
  none_since_restart : (new : Trace) (x : Moment) (old : Trace) → t ≡ new ++ (x ∷ old) → RestartAt x old → Without (x ∷ old) new
      → Last t 0 0 0
  none_at_all : Without [] t → Last t 0 0 0

-- "a position that differs from the last one reported by ActPosCOV or more, or a status other than the last one reported"; "no report since
-- the last restart, or none at all, counts as a difference"
pub data New (q : List ℕ) (position status reported last_position last_status : ℕ) : Type 0 where
  no_report : (reported ≡ 1 → ⊥) → New q position status reported last_position last_status
  position_differs : P.Differs (P.ActPosCOV q) position last_position → New q position status reported last_position last_status
  status_differs : (status ≡ last_status → ⊥) → New q position status reported last_position last_status

-- ── The sentences of demand 3 ──

-- "A parameter is in force as read here at that tick."
abbrev pub in_force : Moment → Trace → List ℕ
in_force m t = parameters (accepted (m ∷ t))

-- "Two spontaneous reports are never fewer ticks apart than the MinRepTime in force at the later one." "Two are as many ticks apart as
-- there are ticks after the first, up to and with the second, past restarts too." By places: `i` records stand between the two.
abbrev pub Spacing : Moment → Trace → Type 0
Spacing m t = (i : ℕ) (x : Moment) (old : Trace) → drop i t ≡ x ∷ old → Reports x → Reports m
    → clock (x ∷ old) + P.MinRepTime (in_force m t) ≤ clock (m ∷ t)

-- "MinRepTime ticks in a row, as in force at the last of them, never pass without restart and without report when that last tick leaves .."
-- By a number: after so many ticks since the latest report or restart, the tick counted, one that does not report leaves nothing new.
abbrev pub Waiting : Moment → Trace → Type 0
Waiting m t = TickAt m t → (Reports m → ⊥) → (n r p s : ℕ) → Since t n → Last t r p s → P.MinRepTime (in_force m t) ≤ n + 1
    → New (in_force m t) (position_in (accepted (m ∷ t))) (status_in (accepted (m ∷ t))) r p s → ⊥

-- "position starts at 0": the position after a trace
abbrev pub position_after : Trace → ℕ
position_after t = get_or (map (λ (m : Moment). m.position) t) 0 0

-- "Each tick moves the damper by Rate or the distance, the smaller, toward the target of the highest commander which the list makes
-- active then."
abbrev pub Move : Moment → Trace → Type 0
Move m t = TickAt m t
    → P.Moved (position_after t) (target_from (position_after t) (P.event_in m.bytes) (accepted t)) (P.Rate (in_force m t)) m.position

-- "after every event that position is the one read here"
abbrev pub Position : Moment → Trace → Type 0
Position m t = (h : List Event) → Events (m ∷ t) h → m.position ≡ position_in h

-- "Each report gives exactly the position and status that its tick leaves."
abbrev pub Content : Moment → Trace → Type 0
Content m t = (p s : ℕ) → Gives m.answer p s → (p ≡ position_in (accepted (m ∷ t))) × (s ≡ status_in (accepted (m ∷ t)))

-- "No other event moves the damper or sends a spontaneous report.": what moves it is a tick, and what reports is a tick
abbrev pub OtherMove : Moment → Trace → Type 0
OtherMove m t = (m.position ≡ position_after t → ⊥) → TickAt m t

abbrev pub OtherReport : Moment → Trace → Type 0
OtherReport m t = Reports m → TickAt m t

abbrev pub Others : Moment → Trace → Type 0
Others m t = OtherMove m t × OtherReport m t

-- step 4, of the `n` ticks since and of the last report: "if since is at least MinRepTime and one of these holds"
abbrev pub DueAt : Moment → Trace → ℕ → ℕ → ℕ → ℕ → Type 0
DueAt m t n r p s = P.Due (in_force m t) (n + 1) (position_in (accepted (m ∷ t))) (status_in (accepted (m ∷ t))) r p s

-- ours, and document 01's step 4: "A report goes out .. if ..", and no other does
abbrev pub Due : Moment → Trace → Type 0
Due m t = TickAt m t → (n r p s : ℕ) → Since t n → Last t r p s → Reports m ↔ DueAt m t n r p s

-- "The answer is the first that fits"; "Refusals 2 to 13 are judged by what is read here"
abbrev pub Refusal : Moment → Trace → Type 0
Refusal m t = Number m.answer (judgement (accepted t) m.bytes)

-- ours: no record is refused by 1
abbrev pub Formed : Moment → Trace → Type 0
Formed m t = m.answer ≡ No 1 → ⊥

pub record Holds (m : Moment) (t : Trace) : Type 0 where
  pub spacing : Spacing m t
  pub waiting : Waiting m t
  pub move : Move m t
  pub position : Position m t
  pub content : Content m t
  pub others : Others m t
  pub due : Due m t
  pub refusal : Refusal m t
  pub formed : Formed m t

-- "Demand 3 is one claim about the whole list": at each place of it
abbrev pub Everywhere : (Moment → Trace → Type 0) → Trace → Type 0
Everywhere S t = (i : ℕ) (m : Moment) (old : Trace) → drop i t ≡ m ∷ old → S m old

-- ── A drive of a hall, whose reports may be held back (document 02, W-204) ──

-- what is not due is not sent
abbrev pub OnlyDue : Moment → Trace → Type 0
OnlyDue m t = TickAt m t → Reports m → (n r p s : ℕ) → Since t n → Last t r p s → DueAt m t n r p s

-- where nothing is due, nothing is waited for
abbrev pub WaitingUndue : Moment → Trace → Type 0
WaitingUndue m t = (n r p s : ℕ) → Since t n → Last t r p s → (DueAt m t n r p s → ⊥) → Waiting m t

pub record HallHolds (m : Moment) (t : Trace) : Type 0 where
  pub spacing : Spacing m t
  pub waiting : WaitingUndue m t
  pub move : Move m t
  pub position : Position m t
  pub content : Content m t
  pub others : Others m t
  pub only : OnlyDue m t
  pub refusal : Refusal m t
  pub formed : Formed m t

-- ── The list, the drive and the log ──

-- a record, what the drive answered to it and where it stands then
abbrev pub moment : List ℕ → Answer → ℕ → Moment
moment s a p = record { bytes = s; answer = a; position = p }

-- "The first event record goes to a fresh drive, each later one to the drive that the one before left, refused or not, and nobody else
-- writes it in between.": the records given to the drive `first`, the drive that they left, and the trace
pub data Given (step : Step) (first : Drive) : List (List ℕ) → Drive → Trace → Type 0 where
  nothing : Given step first [] first []
  next : {l : List (List ℕ)} {d : Drive} {t : Trace} → Given step first l d t → (s : List ℕ)
      → Given step first (l ++ (s ∷ [])) (step d s).drive (moment s (step d s).answer (step d s).drive.position ∷ t)

-- the trace of records and of what each of them gave, after the trace `first`
pub data Traced (first : Trace) : List (List ℕ) → List Outcome → Trace → Type 0 where
  nothing : Traced first [] [] first
  next : {l : List (List ℕ)} {os : List Outcome} {t : Trace} → Traced first l os t → (s : List ℕ) (o : Outcome)
      → Traced first (l ++ (s ∷ [])) (os ++ (o ∷ [])) (moment s o.answer o.drive.position ∷ t)

-- the reports of a trace in order, each with the number of its record, from 1
pub data Logged : Trace → List Entry → Type 0 where
  nothing : Logged [] []
  report : (m : Moment) {t : Trace} {es : List Entry} {p s : ℕ} → Logged t es → Gives m.answer p s
      → Logged (m ∷ t) (es ++ (record { number = length t + 1; position = p; status = s } ∷ []))
  silent : (m : Moment) {t : Trace} {es : List Entry} → Logged t es → (Reports m → ⊥) → Logged (m ∷ t) es

-- ── The audit ──

-- the position that an answer shows; one that shows none leaves it where it was shown before
pub data Shows (before : ℕ) : Answer → ℕ → Type 0 where
  refused : (n : ℕ) → Shows before (No n) before
  ok : Shows before Done before
  parameter : (v : ℕ) → Shows before (Par v) before
  position : (p c s : ℕ) → Shows before (At p c s) p
  tick : (p r m : ℕ) → Shows before (Tick p r m) p
  report : (p r m s : ℕ) → Shows before (Report p r m s) p

-- the bytes are an accepted tick, or restart, of the drive
abbrev pub TickOf : Drive → List ℕ → Type 0
TickOf d s = (first_that_fits (P.turned_down d s) ≡ 0) × (get_or s 2 0 ≡ 1)

abbrev pub RestartOf : Drive → List ℕ → Type 0
RestartOf d s = (first_that_fits (P.turned_down d s) ≡ 0) × (get_or s 2 0 ≡ 9)

-- a count of ticks after a record: "Since rises by one" at a tick, and stays at any other
pub data Counted (d : Drive) (s : List ℕ) (n : ℕ) : ℕ → Type 0 where
  one_more : TickOf d s → Counted d s n (P.one_more n)
  as_before : (TickOf d s → ⊥) → Counted d s n n

-- whether a tick of the drive is due to report: step 4, of the record that steps 1 to 3 leave
abbrev pub TickDue : Drive → Type 0
TickDue d = P.DueIn (advance d).drive

abbrev pub nothing_found : Findings
nothing_found =
    record {
      spacing = false;
      waiting = false;
      moving = false;
      position = false;
      content = false;
      othermove = false;
      otherreport = false;
      due = false;
      refusal = false;
      answer = false;
    }

-- a record of a recording: its bytes, and the answer that it is said to have got
abbrev pub heard : List ℕ → Answer → Heard
heard s y = record { bytes = s; answer = y }

-- the recording of a trace: what is told of it, the first record first
abbrev pub recording : Trace → List Heard
recording [] = []
recording (m ∷ t) = recording t ++ (heard m.bytes m.answer ∷ [])

-- the audit `first` carried over a recording, and the trace of the recording, each position as the answers show it
pub data Recorded (first : Audit) : List Heard → Audit → Trace → Type 0 where
  nothing : Recorded first [] first []
  next : {l : List Heard} {a : Audit} {t : Trace} → Recorded first l a t → (s : List ℕ) (y : Answer) (p : ℕ) → Shows (position_after t) y p
      → Recorded first (l ++ (heard s y ∷ [])) (audit_of a s y).audit (moment s y p ∷ t)

-- a finding of a sentence: it is true where the sentence fails, and only there; it is false where the sentence holds, and only there
pub record Found (b : Bool) (Sentence : Type 0) : Type 0 where
  pub fails : (b ≡ true) ↔ (Sentence → ⊥)
  pub holds : (b ≡ false) ↔ Sentence

pub record Finds (m : Moment) (t : Trace) (f : Findings) : Type 0 where
  pub spacing : Found f.spacing (Spacing m t)
  pub waiting : Found f.waiting (Waiting m t)
  pub moving : Found f.moving (Move m t)
  pub position : Found f.position (Position m t)
  pub content : Found f.content (Content m t)
  pub othermove : Found f.othermove (OtherMove m t)
  pub otherreport : Found f.otherreport (OtherReport m t)
  pub due : Found f.due (Due m t)
  pub refusal : Found f.refusal (Refusal m t)

-- as many findings as records, and each about its own: `f` is found at the record `x`, which came after the records `front`
pub record FindsAll (l : List Heard) (fs : List Findings) : Type 0 where
  pub as_many : length fs ≡ length l
  pub each : (front : List Heard) (x : Heard) (rest : List Heard) (before : List Findings) (f : Findings) (behind : List Findings)
      → l ≡ front ++ (x ∷ rest) → fs ≡ before ++ (f ∷ behind) → length before ≡ length front
      → (a : Audit) (t : Trace) (p : ℕ) → Recorded fresh_audit front a t → Shows (position_after t) x.answer p
      → Finds (moment x.bytes x.answer p) t f

-- ── Document 02, W-207, 'It gets there' ──

-- "one commander rules with one target": at a tick that finds the drive `d`, the commander of rank `r` with the target `t`
pub record Rules (r t : ℕ) (d : Drive) : Type 0 where
  pub commander : P.ruling d ≡ r
  pub target : P.Target d.commands d.run.kind d.position d.params r t

-- what a drive is given, one after the other: the drives that the ticks among it find, and the drive that is left
pub data TicksFind {A : Type 0} (step : StepOn A) (Ticks : Drive → A → Type 0) : Drive → List A → List Drive → Drive → Type 0 where
  none : {d : Drive} → TicksFind step Ticks d [] [] d
  tick : {d e : Drive} {x : A} {l : List A} {found : List Drive} → Ticks d x → TicksFind step Ticks (step d x).drive l found e
      → TicksFind step Ticks d (x ∷ l) (d ∷ found) e
  other : {d e : Drive} {x : A} {l : List A} {found : List Drive} → (Ticks d x → ⊥) → TicksFind step Ticks (step d x).drive l found e
      → TicksFind step Ticks d (x ∷ l) found e

-- "Rate unwritten": none of it writes Rate
pub data Unwritten {A : Type 0} (step : StepOn A) (Write : Drive → A → Type 0) : Drive → List A → Type 0 where
  none : {d : Drive} → Unwritten step Write d []
  more : {d : Drive} {x : A} {l : List A} → (Write d x → ⊥) → Unwritten step Write (step d x).drive l → Unwritten step Write d (x ∷ l)

-- of event records: an accepted write of Rate
abbrev pub RateWrite : Drive → List ℕ → Type 0
RateWrite d s = (first_that_fits (P.turned_down d s) ≡ 0) × (get_or s 2 0 ≡ 8) × (get_or s 3 0 ≡ 203)
