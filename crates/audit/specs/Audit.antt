-- What the audit keeps, and what it finds at an event record. What the findings say of demand 3's sentences and, `answer`, of demand 2 is
-- proved in the crate recording.
use Rattle.std.specs.Prelude.{Bool, true, false, not, ◌&&◌, ◌||◌, List, ℕ, ltb, leb, eqb}
use Rattle.numbers.specs.Numbers.{pick, next}
use Rattle.table.specs.Table.{min_rep_time}
use Rattle.event.specs.Kinds as Kind
use Rattle.event.specs.Event.{kind_in}
use Rattle.answer.specs.declared.Answer.{Answer}
use Rattle.answer.specs.declared.Answer.TheVariants.{No, Done, Par, At, Tick, Report}
use Rattle.answer.specs.Answer.{word_of, code_of}
use Rattle.damper.specs.declared.Drive.{Drive}
use Rattle.damper.specs.declared.Outcome.{Outcome}
use Rattle.damper.specs.Record.{last, fresh_drive, with_position, with_heard}
use Rattle.damper.specs.WellFormed.{well_formed}
use Rattle.damper.specs.Tick.{advance, status_of, differs_from}
use Rattle.damper.specs.Step.{step_of}
use Rattle.audit.specs.declared.Audit.{Audit}
use Rattle.audit.specs.declared.Findings.{Findings}
use Rattle.audit.specs.declared.Audited.{Audited}
use Rattle.audit.specs.declared.Said.{Said}
use Rattle.audit.specs.declared.Met.{Met}

-- the drive by the list and the reports heard so far, the position last shown, the ticks since the latest report
abbrev pub audit : Drive → ℕ → ℕ → Audit
audit d p n = record { drive = d; seen = p; apart = n }

-- of a drive that is fresh: no report was heard yet, so none is too near
abbrev pub fresh_audit : Audit
fresh_audit = audit fresh_drive 0 65535

-- the number of a refusal, the position shown, whether it is a report, and of which status
abbrev pub said : ℕ → ℕ → Bool → ℕ → Said
said n p r s = record { number = n; position = p; reports = r; status = s }

-- what an answer says, `p` being the position that was shown before: an answer without a position leaves the damper there
abbrev pub said_in : ℕ → Answer → Said
said_in p (No n) = said n p false 0
said_in p Done = said 0 p false 0
said_in p (Par v) = said 0 p false 0
said_in p (At q c s) = said 0 q false 0
said_in p (Tick q r m) = said 0 q false 0
said_in p (Report q r m s) = said 0 q true s

-- what document 01's drive makes of a record: a tick or a restart where it is accepted, and the move of a tick from the position last
-- shown
abbrev pub met_with : Outcome → Said → ℕ → ℕ → Met
met_with o x kind moved =
    record {
      drive = o.drive;
      number = x.number;
      reports = x.reports;
      word = word_of o.answer;
      code = code_of o.answer;
      tick = eqb x.number 0 && eqb kind Kind.tick;
      restart = eqb x.number 0 && eqb kind Kind.restart;
      moved = moved;
    }

unfoldable pub met_by : Audit → List ℕ → Met
met_by a s =
    let o = step_of a.drive s in
    met_with o (said_in 0 o.answer) (kind_in s) (advance (with_position a.drive a.seen)).drive.position

-- "Since rises by one" at a tick, and so do the ticks since the latest report
abbrev pub counted : Met → ℕ → ℕ
counted m n = pick m.tick (next n) n

-- which sentences fail
unfoldable pub findings_of : Audit → Met → Said → ℕ → ℕ → Findings
findings_of a m x word code =
    let d = m.drive in
    let time = min_rep_time d.params in
    record {
      spacing = x.reports && ltb (counted m a.apart) time;
      waiting = ((m.tick && not x.reports) && leb time (counted m a.drive.since)) && differs_from d (status_of d) a.drive.last;
      moving = m.tick && not (eqb x.position m.moved);
      position = not (eqb x.position d.position);
      content = x.reports && not (eqb x.position d.position && eqb x.status (status_of d));
      othermove = not m.tick && not (eqb x.position a.seen);
      otherreport = not m.tick && x.reports;
      due = m.tick && ((m.reports && not x.reports) || (not m.reports && x.reports));
      refusal = not (eqb x.number m.number);
      answer = not (eqb word m.word && eqb code m.code);
    }

abbrev pub nothing : Findings
nothing =
    record {
      spacing = false;
      waiting = false;
      moving = false;
      position = false;
      content = false;
      othermove = false;
      otherreport = false;
      due = false;
      refusal = false;
      answer = false;
    }

-- the audit after a record: of the list what document 01's drive made of it, of the reports what was heard. A restart leaves none.
unfoldable pub followed : Audit → Met → Said → Audit
followed a m x =
    audit
    (with_heard m.drive (pick (x.reports || m.restart) 0 (counted m a.drive.since))
    (pick m.restart (last 0 0 0) (pick x.reports (last 1 x.position x.status) a.drive.last)))
    x.position
    (pick x.reports 0 (counted m a.apart))

-- one event record and the answer that it got; an audit whose drive is not well formed is refused by 1, unchanged
unfoldable pub audit_of : Audit → List ℕ → Answer → Audited
audit_of a s y =
    let m = met_by a s in
    let x = said_in a.seen y in
    pick (well_formed a.drive)
    (record { audit = followed a m x; refusal = 0; findings = findings_of a m x (word_of y) (code_of y) })
    (record { audit = a; refusal = 1; findings = nothing })
