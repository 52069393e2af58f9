-- The log that a host keeps of one drive of its hall, read off the numbers that its hall ticks give.
use Rattle.std.specs.Prelude.{◌≡◌, refl, Bool, true, false, List, [], ◌∷◌, ◌++◌, map, ℕ, ◌+◌, ◌*◌, ◌-◌, ◌/◌, ◌%◌, ◌<◌, eqb, length, get_or}
use Rattle.std.proofs.Common.{sym, ap, ◌∙◌, arith, le-leb, eqb-true}
use Rattle.numbers.specs.Numbers.{pick}
use Rattle.numbers.specs.Laws.{cases}
use Rattle.rules.specs.Report.{Sent, silent, sent}
use Rattle.rules.specs.ReportLaws.{status_byte}
use Rattle.damper.specs.declared.Drive.{Drive}
use Rattle.damper.specs.declared.Outcome.{Outcome}
use Rattle.damper.specs.Record.{fresh_drive}
use Rattle.damper.specs.WellFormed.{well_formed}
use Rattle.damper.specs.Step.{tick_with, step_of}
use Rattle.damper.specs.Carry.{outcomes, answers_in}
use Rattle.damper.specs.CarryLaws.{outcomes_append}
use Rattle.choice.specs.Sent.{is_report_number}
use Rattle.hall.specs.Hall.{Call, give, tick, is_tick, call_refusal, at}
use Rattle.hall.specs.Quota.{hall_ticked, sends}
use Rattle.hall.specs.Turns.{bytes, hall_tick, turn, turns_of, row_after, tick_number, answers_after, turns_in, shared_out, share, hall_step}
use Rattle.hall.specs.Laws.{row_length}
use Rattle.hall.specs.TickLaws.{tick_shared, number_at}
use Rattle.history.specs.Log.{Entry}
use Rattle.history.specs.Claim.{report_in, entries_of, reports_from}
use Rattle.shares.specs.Shares.{shared_append, turns_drive, share_answers}
use Rattle.shares.specs.SharedLog.{shared_log}
use Rattle.shares.specs.Theorem.{no_tick, quiet, share_log}

-- what the number of a drive at a hall tick says: "65,536 + 256 × position + status for a report"
abbrev pub read_off : ℕ → Sent
read_off n = pick (is_report_number n) (sent ((n - 65536) / 256) ((n - 65536) % 256)) silent

-- what a call says of the drive at place `i`, by the number that refuses it, 0 if none does, and its answer row after it
abbrev heard : ℕ → Call → ℕ → List ℕ → Sent
heard i (give list s room) n answers = silent
heard i (tick quota room) n answers = pick (eqb n 0) (read_off (get_or answers i 0)) silent

-- a report comes before the later ones, silence is not noted
abbrev noted : Sent → List Sent → List Sent
noted silent log = log
noted (sent p s) log = sent p s ∷ log

-- a call and the row lent for its answers, of the length that the call names last (which nothing here needs)
pub record Lent : Type 0 where
  pub call : Call
  pub row : List ℕ

abbrev pub calls_of : List Lent → List Call
calls_of ls = map (λ (l : Lent). l.call) ls

-- the host's log of the drive at place `i`, over calls of which each is made on the row of drives that the one before left
unfoldable pub host_log : List Drive → ℕ → List Lent → List Sent
host_log row i [] = []
host_log row i (l ∷ ls) =
    let answers = answers_after hall_step row l.call l.row in
    noted (heard i l.call (call_refusal (length row) l.call) answers) (host_log (row_after hall_step row (turns_of row l.call)) i ls)

-- what the entries of a log say
abbrev pub sent_in : List Entry → List Sent
sent_in es = map (λ (e : Entry). sent e.position e.status) es

-- A number says what the answer does, for every record.

report_read : (p s : ℕ) → s < 256 → read_off (65536 + 256 * p + s) ≡ sent p s
report_read p s h =
    let position : (65536 + 256 * p + s - 65536) / 256 ≡ p = omega arith in
    let byte : (65536 + 256 * p + s - 65536) % 256 ≡ s = omega arith in
    rw (le-leb 65536 (65536 + 256 * p + s) (omega arith), position, byte)

pub number_read : (now : Bool) (d : Drive) → read_off (tick_number (hall_ticked now d).answer) ≡ report_in (hall_ticked now d).answer
unfolding hall_ticked tick_with
number_read true d = cases (well_formed d) (λ w. rw w (report_read _ _ (status_byte _ _ _))) (λ w. rw w)
number_read false d = cases (well_formed d) (λ w. rw w) (λ w. rw w)

-- what outcomes say, one after the other, is what the entries of their reports say
said : List Outcome → List Sent
said [] = []
said (o ∷ os) = noted (report_in o.answer) (said os)

said_entry : (n : ℕ) (x : Sent) (es : List Entry) → sent_in (entries_of n x es) ≡ noted x (sent_in es)
said_entry n silent es = refl
said_entry n (sent p s) es = refl

said_reports : (n : ℕ) (os : List Outcome) → said os ≡ sent_in (reports_from n os)
unfolding said reports_from
said_reports n [] = refl
said_reports n (o ∷ os) = rw (said_reports (n + 1) os) (sym (said_entry (n + 1) (report_in o.answer) _))

-- What a call says of a drive is what its turns of the call say.

-- the turns of an accepted event call say nothing: it gives no tick
unsaid : (i : ℕ) (s : List ℕ) → is_tick s ≡ false → (d : Drive) (list : List ℕ) (later : List Outcome)
    → said (outcomes hall_step d (shared_out i (map (turn (bytes s)) list)) ++ later) ≡ said later
unfolding said outcomes shared_out
unsaid i s t d [] later = refl
unsaid i s t d (j ∷ list) later =
    cases (eqb j i) (λ q. rw (q, quiet d s t) (unsaid i s t (step_of d s).drive list later)) (λ q. rw q (unsaid i s t d list later))

heard_said : (row : List Drive) (i : ℕ) → i < length row → (c : Call) (answers : List ℕ) (later : List Outcome)
    → noted (heard i c (call_refusal (length row) c) (answers_after hall_step row c answers)) (said later)
    ≡ said (outcomes hall_step (at row i) (shared_out i (turns_of row c)) ++ later)
unfolding said outcomes shared_out turns_of answers_after answers_in
heard_said row i h (give list s room) answers later =
    cases (eqb (call_refusal (length row) (give list s room)) 0)
    (λ q. rw q (sym (unsaid i s (no_tick (length row) list s room (eqb-true _ 0 q)) (at row i) list later)))
    (λ q. rw q)
heard_said row i h (tick quota room) answers later =
    cases (eqb (call_refusal (length row) (tick quota room)) 0)
    (λ q.
    let n = length row in
    let go = sends quota row in
    let given = tick_shared (λ x. hall_tick (go x)) n i h in
    rw (q, number_at (λ x. hall_tick (go x)) hall_step tick_number _ n row i h, number_read (go i) (at row i), given))
    (λ q. rw q)

-- The log of a drive's place says what its share does, whatever drive stood there.
host_said : (row : List Drive) (ls : List Lent) (i : ℕ) → i < length row
    → host_log row i ls ≡ said (outcomes hall_step (at row i) (share row i (calls_of ls)))
unfolding host_log said outcomes shared_out turns_in
host_said row [] i h = refl
host_said row (l ∷ ls) i h =
    let ts = turns_of row l.call in
    rw (host_said (row_after hall_step row ts) ls i (rw (row_length hall_step row ts) h), turns_drive row ts i h, shared_append, outcomes_append)
    (heard_said row i h l.call l.row _)

-- The reports that a host reads off its rows of numbers are, in order, those of the hall ticks that send, as the drive's share decides them:
-- whatever the other drives were, whatever the lent rows held and whatever was called in between.
pub host_log_lem : (row : List Drive) (ls : List Lent) (i : ℕ) → i < length row → at row i ≡ fresh_drive
    → host_log row i ls ≡ sent_in (shared_log (share row i (calls_of ls)))
host_log_lem row ls i h fresh =
    host_said row ls i h
    ∙ rw (← (share_answers row (calls_of ls) i h)) (said_reports 0 _)
    ∙ ap sent_in (share_log row (calls_of ls) i h fresh)
