-- Halls. Each sentence of document 02's W-201, W-203, W-204, W-205, W-210 and, of a drive in a hall, W-207 and W-208, as they stand
-- together, that a definition of the product states is here a theorem for every input: on one side the definition that the contracts name,
-- on the other the sentence as `Paper` says it a second time. A drive's step, its advance and its status have their page in the crate
-- sentences.
--
-- How to read it: crates/sentences/specs/Sentences.antt.
--   `P.` document 02 in its second form (Paper.antt); `P1.` document 01 in its second form (crates/sentences/specs/Paper.antt); `S.`
--   demand 3 in its second form (crates/sentences_claim/specs/Paper.antt); `L.` what is read off a list of events in its second form
--   (crates/sentences_list/specs/Paper.antt); `F.` the fields of a drive record; `Quota.` the product's
--   definitions
-- A list of calls has the first call first; a trace has the latest record first, and `m ∷ t` is the record m after the trace t.
use Rattle.std.specs.Prelude.{◌≡◌, refl, ◌↔◌, Bool, true, false, not, ◌&&◌, ◌||◌, List, [], ◌∷◌, ◌++◌, map, reverse, ℕ, suc, ◌+◌, ◌-◌, ◌*◌, ◌/◌, ◌≤◌, ◌<◌, length, get_or, take, drop}
use Rattle.numbers.specs.Every.{Every}
use Rattle.event.specs.declared.Event.{Event}
use Rattle.answer.specs.Answer.{number_of}
use Rattle.answer.specs.declared.Answer.TheVariants.{No, Tick, Report}
use Rattle.damper.specs.declared.Drive.{Drive}
use Rattle.damper.specs.Record.{fresh_drive}
use Rattle.damper.specs.Tick.{advance, status_of}
use Rattle.damper.specs.Step.{refusal_of, step_of}
use Rattle.damper.specs.Carry.{answers_in}
use Rattle.history.specs.Claim.{Moment, Trace}
use Rattle.choice.specs.Sent.{report_at}
use Rattle.hall.specs.Hall.{bad_row, bad_number, is_tick, named_in, names_twice, Call, give, tick, call_refusal}
use Rattle.hall.specs.Quota.{due_now, hall_ticked}
use Rattle.hall.specs.Turns.{bytes, hall_tick, hall_step, turn, bytes_in, turns_of, turned, row_after, answers_after, hall_after, share, events_for}
use Rattle.hall.specs.Quota as Quota
use Rattle.shares.specs.Once.{share_events}
use Rattle.shares.specs.Bound.{ticks_given, due_at_each, sent_at_one, restarted, quotas_in}
use Rattle.shares.specs.Theorem.{share_trace}
use Rattle.shift.specs.Shift.{drive_line, page_refusal, page_after}
use Rattle.shift.specs.Laws.{line_length, page_length}
use Rattle.hall_bill.specs.HallBill.{bill_refusal, shares_after}
use Rattle.hall_bill.specs.Laws.{after_length, unmoved_pays_none}
use Rattle.sentences.specs.Words.{◌is◌, ◌exceeds◌, some_of, choose, first_that_fits}
use Rattle.sentences.specs.Fields as F
use Rattle.sentences.specs.Fields.{◌≔◌, ◌with◌}
use Rattle.sentences.specs.Paper as P1
use Rattle.sentences.specs.Forms.{same_formed}
use Rattle.sentences_list.specs.Paper as L
use Rattle.sentences_claim.specs.Paper as S
use Rattle.sentences_hall.specs.Paper as P
use Rattle.sentences_hall.specs.Refused as Refused
use Rattle.sentences_hall.specs.Senders as Senders
use Rattle.sentences_hall.specs.Turns as Turns
use Rattle.sentences_hall.specs.Shared as Shared
use Rattle.sentences_hall.specs.Page as Page
use Rattle.sentences_hall.specs.Promised as Promised
use Rattle.sentences_hall.specs.Bills as Bills

-- ── When a call is refused itself ──

-- "14 when the row holds no drive or over 64. 15 when .. 16 when .."; W-204: "18 when .., after 16"; W-205: "19 when .., checked after
-- 16": the first that fits, and "a call that isn't refused itself answers 0"
pub answers_with : (n : ℕ) (c : Call) → call_refusal n c ≡ first_that_fits (P.of_the_call n c)
answers_with n c = Refused.same_call n c

-- "a list names a drive twice": one number stands at two places of it
pub named_twice : (list : List ℕ) → (some_of list (λ x. P.how_often x list exceeds 1) ≡ true) ↔ P.NamedTwice list
named_twice list = Refused.often_twice list

-- the same condition by condition
pub bad_row_lem : (n : ℕ) → bad_row n ≡ (n is 0 || n exceeds 64)
bad_row_lem n = Refused.same_row n

pub bad_number_lem : (n : ℕ) (list : List ℕ) → bad_number n list ≡ some_of list (λ i. not (n exceeds i))
bad_number_lem n list = Refused.same_number n list

pub is_tick_lem : (s : List ℕ) → is_tick s ≡ P.accepted_tick s
is_tick_lem s = Refused.same_tick s

pub names_twice_lem : (list : List ℕ) → (names_twice list ≡ true) ↔ P.NamedTwice list
names_twice_lem list = Refused.twice_named list

pub names : (i : ℕ) (list : List ℕ) → (named_in i list ≡ true) ↔ P.Listed i list
names i list = Turns.same_named i list

-- "nothing is touched"
pub refused : (row : List Drive) (c : Call) (answers : List ℕ) (k : ℕ) → P.answer_to (length row) c ≡ suc k
    → (row_after hall_step row (turns_of row c) ≡ row) × (answers_after hall_step row c answers ≡ answers)
refused row c answers k e = (Turns.refused_row row c k e, Turns.refused_answers row c k e answers)

-- W-205: "its answers for lists without repeats are unaffected": the number is W-201's, 14 to 16; where it is 0 the event is given to the
-- drives of the list, "in list order", and else "nothing is touched"
pub unaffected : (row : List Drive) (list s answers : List ℕ) → (P.NamedTwice list → ⊥)
    → (let c = give list s (length answers) in
    let number = first_that_fits (P.up_to16 (length row) list s (length answers)) in
    let after = row_after hall_step row (turns_of row c) in
    let filled = answers_after hall_step row c answers in
    let in_order = map (turn (bytes s)) list in
    (call_refusal (length row) c ≡ number)
    × (number ≡ 0 → (after ≡ row_after hall_step row in_order) × (filled ≡ answers_in number_of (turned hall_step row in_order) answers))
    × ((k : ℕ) → number ≡ suc k → (after ≡ row) × (filled ≡ answers)))
unaffected row list s answers h = (
  Promised.number_to_16 row list s answers h,
  Promised.given_in_order row list s answers h,
  Promised.nothing_touched row list s answers h,
)

-- ── "One call gives the bytes of an event other than a tick to a list of drives, in list order" ──
module _ (row : List Drive) (list s answers : List ℕ) where
  abbrev given : List Drive
  given = row_after hall_step row (turns_of row (give list s (length answers)))

  abbrev answered : List ℕ
  answered = answers_after hall_step row (give list s (length answers)) answers

  -- both rows keep their length
  pub event_lengths : (length given ≡ length row) × (length answered ≡ length answers)
  event_lengths = (Turns.event_length row list s answers, Turns.answers_length row list s answers)

  module _ (ok : P.answer_to (length row) (give list s (length answers)) ≡ 0) where
    -- a drive that the list names takes the event
    pub named : (i : ℕ) → i < length row → P.Listed i list → P.drive given i ≡ (step_of (P.drive row i) s).drive
    named i h l = Turns.named_drive row list s answers ok i h l

    -- "A drive not named keeps every field."
    pub not_named : (i : ℕ) → i < length row → (P.Listed i list → ⊥) → P.drive given i ≡ P.drive row i
    not_named i h n = Turns.unnamed_drive row list s answers ok i h n

    -- "one answer number (0 or the refusal) per entry in a lent row"
    pub entry_answer : (k : ℕ) → k < length list → get_or answered k 0 ≡ refusal_of (P.drive row (get_or list k 0)) s
    entry_answer k h = Turns.entry_answer row list s answers ok k h

    -- "Further places of the row keep their content."
    pub further_answers : (k : ℕ) → length list ≤ k → get_or answered k 0 ≡ get_or answers k 0
    further_answers k h = Turns.further_answer row list s answers ok k h

-- W-204: "Restart clears the wait; otherwise only hall ticks change it."
pub wait_of_event : (d : Drive) (s : List ℕ)
    → (step_of d s).drive.wait ≡ choose (refusal_of d s is 0 && get_or s 2 0 is 9) 0 d.wait
wait_of_event d s = Turns.wait_of_event d s

-- "fresh .. it is 0"
pub wait_of_fresh : fresh_drive.wait ≡ 0
wait_of_fresh = refl

-- ── "One call ticks them all and fills one number per drive in such a row" ──
module _ (row : List Drive) (quota : ℕ) (numbers : List ℕ) (ok : P.answer_to (length row) (tick quota (length numbers)) ≡ 0) where
  abbrev ticked : List Drive
  ticked = row_after hall_step row (turns_of row (tick quota (length numbers)))

  abbrev filled : List ℕ
  filled = answers_after hall_step row (tick quota (length numbers)) numbers

  -- both rows keep their length, and "Further places of the row keep their content."
  pub tick_lengths : (length ticked ≡ length row) × (length filled ≡ length numbers)
  tick_lengths = (Turns.ticked_length row quota numbers, Turns.filled_length row quota numbers ok)

  pub further_numbers : (i : ℕ) → length row ≤ i → get_or filled i 0 ≡ get_or numbers i 0
  further_numbers i h = Turns.further_number row quota numbers ok i h

  -- W-210, of the numbers that the host reads: "exactly the smaller of the quota and the number due" are reports, where `is_due` tells who is
  -- due
  pub reports_sent : (is_due : ℕ → Bool) → ((i : ℕ) → i < length row → (is_due i ≡ true) ↔ P.Due (P.drive row i))
      → (let many = P.how_many (length row) is_due in P.how_many (length row) (report_at filled) ≡ choose (many exceeds quota) quota many)
  reports_sent is_due tells = Turns.reports_sent row quota numbers ok is_due tells

  -- of those that it sends, and of the others
  module _ (goes : ℕ → Bool) (whom : P.Sends quota row goes) (i : ℕ) (h : i < length row) where
    abbrev d : Drive
    d = P.drive row i

    -- the record that steps 1 to 3 of the tick leave
    abbrev n : Drive
    n = (advance d).drive

    -- "1 for a drive not well formed, which stays unticked"; "a drive not well formed keeps it"
    pub unticked : (P1.WellFormed d → ⊥) → (P.drive ticked i ≡ d) × (get_or filled i 0 ≡ 1)
    unticked f = Turns.unformed_ticked row quota numbers ok goes whom i h f

    -- "65,536 + 256 × position + status for a report"; "sent .. it is 0"
    pub sent : goes i ≡ true
        → (P.drive ticked i
        ≡ n with (F.since ≔ 0 ∷ F.reported ≔ 1 ∷ F.last_position ≔ n.position ∷ F.last_status ≔ status_of n ∷ F.wait ≔ 0 ∷ []))
        × (get_or filled i 0 ≡ 65536 + 256 * n.position + status_of n)
    sent s = Turns.sent_ticked row quota numbers ok goes whom i h (whom.due i h s).formed s

    -- "0 silent"; "how many hall ticks in a row it was due and not sent, stopping at 65,535"
    pub held : P.Due d → goes i ≡ false → (P.drive ticked i ≡ n with (F.wait ≔ P1.one_more d.wait ∷ [])) × (get_or filled i 0 ≡ 0)
    held f s = Turns.held_ticked row quota numbers ok goes whom i h f s

    -- "not due it is 0"
    pub not_due : P1.WellFormed d → (P.Due d → ⊥) → (P.drive ticked i ≡ n with (F.wait ≔ 0 ∷ [])) × (get_or filled i 0 ≡ 0)
    not_due f u = Turns.undue_ticked row quota numbers ok goes whom i h f u

    -- who is sent is read off the numbers: those of 65,536 and above
    pub sent_told : report_at filled i ≡ goes i
    sent_told = Turns.told_sent row quota numbers ok goes whom i h

-- what the drive itself answers to a hall tick: the tick's form, with a status where it is sent
pub sent_answer : (d : Drive) → P1.WellFormed d
    → (hall_ticked true d).answer ≡ Report (advance d).drive.position (advance d).rank (advance d).motor (status_of (advance d).drive)
sent_answer d f = Promised.sent_answer d f

pub silent_answer : (d : Drive) → P1.WellFormed d
    → (hall_ticked false d).answer ≡ Tick (advance d).drive.position (advance d).rank (advance d).motor
silent_answer d f = Promised.silent_answer d f

pub unformed_answer : (d : Drive) (sent : Bool) → (P1.WellFormed d → ⊥) → (hall_ticked sent d).answer ≡ No 1
unformed_answer d sent f = Promised.unformed_answer d sent f

-- a report's number
pub report_number : (numbers : List ℕ) (i : ℕ) → (report_at numbers i ≡ true) ↔ (65536 ≤ get_or numbers i 0)
report_number numbers i = Turns.report_number numbers i

-- ── W-204 and W-210: who is sent ──

-- "A well-formed drive is due when the fourth step of a tick would report."
pub due : (d : Drive) → (due_now d ≡ true) ↔ P.Due d
due d = Senders.same_due_now d

pub due_reports : (d : Drive) → (due_now d ≡ true) ↔ P1.IsReport (step_of d (0x5a ∷ 0xc3 ∷ 1 ∷ 0 ∷ 0 ∷ 0 ∷ [])).answer
due_reports d = Senders.due_reports d

-- "A hall tick must send exactly the smaller of the quota and the number due, longest wait first, lower number among equals.": the drives
-- that the definition sends are those of the sentence, and no others
pub sends : (quota : ℕ) (row : List Drive) (goes : ℕ → Bool)
    → ((i : ℕ) → i < length row → Quota.sends quota row i ≡ goes i) ↔ P.Sends quota row goes
sends quota row goes = Senders.same_sends quota row goes

-- W-204: "If any is due, the one that waited longest goes, lower number first among equals"
pub longest_goes : (quota : ℕ) (row : List Drive) → 1 ≤ quota → (i : ℕ) → P.Longest row i → Quota.sends quota row i ≡ true
longest_goes quota row one i r = Senders.longest_goes quota row one i r

-- ── "its own share of the hall's calls" ──

-- each call is on the row that the one before left
pub no_calls_after : (row : List Drive) → hall_after row [] ≡ row
no_calls_after row = Shared.none_after row

pub calls_after : (row : List Drive) (c : Call) (cs : List Call)
    → hall_after row (c ∷ cs) ≡ hall_after (row_after hall_step row (turns_of row c)) cs
calls_after row c cs = Shared.more_after row c cs

pub share_of_none : (row : List Drive) (i : ℕ) → share row i [] ≡ []
share_of_none row i = Shared.no_calls row i

module _ (row : List Drive) (i : ℕ) (cs : List Call) where
  -- the row after one call
  abbrev after : Call → List Drive
  after c = row_after hall_step row (turns_of row c)

  -- "a hall call refused itself belongs to no share"
  pub share_refused : (c : Call) (k : ℕ) → P.answer_to (length row) c ≡ suc k → share row i (c ∷ cs) ≡ share row i cs
  share_refused c k e = Shared.refused_share row i cs c k e

  -- the bytes, where it is listed
  pub share_named : (list s : List ℕ) (room : ℕ) → P.answer_to (length row) (give list s room) ≡ 0 → P.Listed i list
      → share row i (give list s room ∷ cs) ≡ bytes s ∷ share (after (give list s room)) i cs
  share_named list s room ok l = Shared.named_share row i cs list s room ok l

  pub share_not_named : (list s : List ℕ) (room : ℕ) → P.answer_to (length row) (give list s room) ≡ 0 → (P.Listed i list → ⊥)
      → share row i (give list s room ∷ cs) ≡ share (after (give list s room)) i cs
  share_not_named list s room ok l = Shared.unnamed_share row i cs list s room ok l

  -- a hall tick, sent or not by the row before it (see `sends`)
  pub share_tick : (quota room : ℕ) → P.answer_to (length row) (tick quota room) ≡ 0 → i < length row
      → share row i (tick quota room ∷ cs) ≡ hall_tick (Quota.sends quota row i) ∷ share (after (tick quota room)) i cs
  share_tick quota room ok h = Shared.tick_share row i cs quota room ok h

-- as an event record a hall tick is a tick
pub bytes_of_event : (s : List ℕ) → bytes_in (bytes s) ≡ s
bytes_of_event s = refl

pub bytes_of_tick : (sent : Bool) → bytes_in (hall_tick sent) ≡ 0x5a ∷ 0xc3 ∷ 1 ∷ 0 ∷ 0 ∷ 0 ∷ []
bytes_of_tick sent = refl

-- its event records are decided by the calls and the number of drives alone
pub records_of_share : (row : List Drive) (i : ℕ) → i < length row → (cs : List Call) → map bytes_in (share row i cs) ≡ events_for (length row) i cs
records_of_share row i h cs = share_events row i h cs

pub records_of_none : (n i : ℕ) → events_for n i [] ≡ []
records_of_none n i = Shared.no_records n i

module _ (n i : ℕ) (cs : List Call) where
  pub records_refused : (c : Call) (k : ℕ) → P.answer_to n c ≡ suc k → events_for n i (c ∷ cs) ≡ events_for n i cs
  records_refused c k e = Shared.refused_records n i cs c k e

  pub records_named : (list s : List ℕ) (room : ℕ) → P.answer_to n (give list s room) ≡ 0 → P.Listed i list
      → events_for n i (give list s room ∷ cs) ≡ s ∷ events_for n i cs
  records_named list s room ok l = Shared.named_records n i cs list s room ok l

  pub records_not_named : (list s : List ℕ) (room : ℕ) → P.answer_to n (give list s room) ≡ 0 → (P.Listed i list → ⊥)
      → events_for n i (give list s room ∷ cs) ≡ events_for n i cs
  records_not_named list s room ok l = Shared.unnamed_records n i cs list s room ok l

  pub records_tick : (quota room : ℕ) → P.answer_to n (tick quota room) ≡ 0
      → events_for n i (tick quota room ∷ cs) ≡ (0x5a ∷ 0xc3 ∷ 1 ∷ 0 ∷ 0 ∷ 0 ∷ []) ∷ events_for n i cs
  records_tick quota room ok = Shared.tick_records n i cs quota room ok

-- ── What is promised of it ──

-- the trace of the drive at `i`: its share as event records, and what it made of each
pub share_trace_lem : (row : List Drive) (i : ℕ) → i < length row → (cs : List Call) (t : Trace)
    → (share_trace row i cs ≡ t) ↔ P.ShareTrace row i cs t
share_trace_lem row i h cs t = Promised.same_trace row i h cs t

-- "What was promised of one drive's list of events now holds, for each drive that was fresh at first, of its own share of the hall's
-- calls": every sentence of demand 3 at each place of the trace, and with it W-204's "Spacing stays"; of waiting, what W-204 leaves of it
pub promised : (row : List Drive) (cs : List Call) (i : ℕ) → i < length row → P.drive row i ≡ fresh_drive
    → (t : Trace) → P.ShareTrace row i cs t → S.Everywhere S.HallHolds t
promised row cs i h fresh t g = Promised.promised row cs i h fresh t g

-- "which replaces the waiting limb for halls": in a row of records of its share in which each tick breaks that limb and none is a restart,
-- the quotas of the hall ticks are together less than the number of drives, and so are the ticks
module _ (row : List Drive) (before after : List Call) (i : ℕ) (h : i < length row) (fresh : P.drive row i ≡ fresh_drive) (old new : Trace)
    (g : P.ShareTrace row i before old) (k : P.ShareTrace row i (before ++ after) (new ++ old)) (f : P.BrokenThroughout old new) where
  pub quotas_bound : P.quotas (length row) after < length row
  quotas_bound = Promised.quotas_bound row before after i h fresh old new g k f

  pub waiting_bound : S.clock (new ++ old) < S.clock old + length row
  waiting_bound = Promised.waiting_bound row before after i h fresh old new g k f

-- what a share gives a drive has the drives that its ticks find, and leaves the drive of the hall after the calls
pub ticks_found : (row : List Drive) (cs : List Call) (i : ℕ) → i < length row → (let d = P.drive row i in
    (found : List Drive) × S.TicksFind hall_step P.TickGiven d (share row i cs) found (P.drive (hall_after row cs) i))
ticks_found row cs i h = Promised.some_found row cs i h

-- W-207, of a drive in a hall: "If one commander rules with one target for K ticks in a row, Rate unwritten, the drive stands at that
-- target after the last of them and stays while that commander and target rule", of its own share of the calls `cs`, and of `cs'` after
-- them; `found` are the drives that its ticks find, and n ticks are K or more just where 255 ≤ n × Rate
pub settles : (row : List Drive) (cs : List Call) (i : ℕ) → i < length row → P1.WellFormed (P.drive row i) → (P.drive row i).position < 256
    → (r t : ℕ) (found : List Drive) → (let d = P.drive row i in let row' = hall_after row cs in
    S.TicksFind hall_step P.TickGiven d (share row i cs) found (P.drive row' i) → S.Unwritten hall_step P.RateGiven d (share row i cs)
    → Every (S.Rules r t) found → 255 ≤ length found * P1.Rate d.params
    → ((P.drive row' i).position ≡ t)
    × ((cs' : List Call) (found' : List Drive) → (let row'' = hall_after row' cs' in
    S.TicksFind hall_step P.TickGiven (P.drive row' i) (share row' i cs') found' (P.drive row'' i) → Every (S.Rules r t) found'
    → (P.drive row'' i).position ≡ t)))
settles row cs i h w b r t found g u xs n = Promised.settles row cs i h ((same_formed (P.drive row i)).1 w) b r t found g u xs n

-- W-208: "The count equals the sum of all its moves in the list of events, up to that cap": of the events of its own share, `h` those that
-- are accepted and `n` the sum of their moves
pub share_travel : (row : List Drive) (cs : List Call) (i : ℕ) → i < length row → P.drive row i ≡ fresh_drive
    → (h : List Event) (n : ℕ) → L.History (reverse (events_for (length row) i cs)) h → L.Travel h n
    → (P.drive (hall_after row cs) i).travel ≡ choose (n exceeds 4294967295) 4294967295 n
share_travel row cs i b fresh h n w x = Promised.travelled row cs i b fresh h n w x

-- "due at each", "restarted" and "sent at one of them", as the definitions count them over a share
module _ (row : List Drive) (i : ℕ) (h : i < length row) (cs : List Call) where
  pub due_at_each_lem : (due_at_each (P.drive row i) (share row i cs) ≡ true) ↔ P.DueAtEach row i cs
  due_at_each_lem = Promised.same_due_each cs row i h

  pub restarted_by : (restarted (P.drive row i) (share row i cs) ≡ true) ↔ P.Restarted row i cs
  restarted_by = Promised.same_restarted cs row i h

  pub sent_at_one_lem : (sent_at_one (share row i cs) ≡ true) ↔ P.SentAtOne row i cs
  sent_at_one_lem = Promised.same_sent cs row i h

  -- and the hall ticks and their quotas
  pub hall_ticks : ticks_given (share row i cs) ≡ P.hall_ticks (length row) cs
  hall_ticks = Promised.ticks_counted cs row i h

pub hall_quotas : (n : ℕ) (cs : List Call) → quotas_in n cs ≡ P.quotas n cs
hall_quotas n cs = Promised.same_quotas n cs

-- "divided by the quota, rounded up"
pub rounded_up : (n q m : ℕ) → 1 ≤ q → (m ≡ (n + q - 1) / q) ↔ P.RoundedUp n q m
rounded_up n q m p = Promised.same_rounded n q p m

-- Of every row and list of calls on it, whatever the waits are, and refused calls and events between the ticks: a drive due at each hall
-- tick and not restarted between them is sent at one of them
module _ (row : List Drive) (cs : List Call) (i : ℕ) (h : i < length row) (f : P.DueAtEach row i cs) (r : P.Restarted row i cs → ⊥) where
  -- if their quotas add up to the number of drives or more
  pub sent_in_quotas : length row ≤ P.quotas (length row) cs → P.SentAtOne row i cs
  sent_in_quotas l = Promised.sent_in_quotas row cs i h f r l

  -- W-210: "With one quota throughout, a drive that stays due and isn't restarted is then sent within as many hall ticks as the number of
  -- drives divided by the quota, rounded up."
  pub sent_within : (q m : ℕ) → P.OneQuota q row cs → P.RoundedUp (length row) q m → m ≤ P.hall_ticks (length row) cs → P.SentAtOne row i cs
  sent_within q m one up l = Promised.sent_within row cs i h f r q m one up l

  -- W-204: "A drive due at each of as many hall ticks in a row as the row has drives, and not restarted between them, is sent at one of
  -- them"
  pub sent_in_time : length row ≤ P.hall_ticks (length row) cs → P.SentAtOne row i cs
  sent_in_time l = Promised.sent_in_time row cs i h f r l

-- "a last tick that breaks that limb always finds its drive due": the last call is a hall tick, `m` its moment and `t` the trace before it
pub finds_due : (row : List Drive) (cs : List Call) (i quota room : ℕ) → i < length row → P.drive row i ≡ fresh_drive
    → P.answer_to (length row) (tick quota room) ≡ 0
    → (m : Moment) (t : Trace) → P.ShareTrace row i cs t → P.ShareTrace row i (cs ++ (tick quota room ∷ [])) (m ∷ t)
    → (S.Waiting m t → ⊥) → P.Due (P.drive (hall_after row cs) i)
finds_due row cs i quota room h fresh ok m t g k b = Promised.finds_due row cs i quota room h fresh ok m t g k b

-- ── W-203: the shift page ──

-- "17 when the lent page is shorter than 29 bytes per drive, checked after 14"
pub page_answers_with : (drives room : ℕ) → page_refusal drives room ≡ first_that_fits (P.of_the_page drives room)
page_answers_with drives room = Refused.same_page drives room

-- "exactly 28 columns and a line feed"
pub line_bytes : (number : ℕ) (d : Drive) → length (drive_line number d) ≡ 29
line_bytes number d = line_length number d

-- "number 2, position 3, percent 3, all to the right; ruling commander 8, to the left ..; status as 8 binary digits ..; one blank between
-- fields": the 29 bytes one by one
pub line : (number : ℕ) (d : Drive) → number < 100 → d.position < 256 → P1.WellFormed d → drive_line number d ≡ P.line_of number d
line number d h p f = Page.formed_line number d h p f

-- "highest bit first": column 20 + k shows bit 7 - k, by the reasons that document 01 gives for it
pub status_columns : (d : Drive) (number : ℕ) → number < 100 → d.position < 256 → P1.WellFormed d → (k : ℕ) → k < 8
    → (let Shown = P1.Shown d.commands d.run.kind (P1.bus_active d.commands d.age d.params) (7 - k) in
    let column = get_or (drive_line number d) (20 + k) 0 in
    (Shown → column ≡ 49) × ((Shown → ⊥) → column ≡ 48))
status_columns d number h p f k l = Page.status_columns d number h p f k l

-- "A record that isn't well formed shows its number and minus signs filling the other fields."
pub line_without : (number : ℕ) (d : Drive) → number < 100 → (P1.WellFormed d → ⊥) → drive_line number d ≡ P.line_without number
line_without number d h f = Page.unformed_line number d h f

module _ (row : List Drive) (page : List ℕ) where
  pub page_bytes : length (page_after row page) ≡ length page
  page_bytes = page_length row page

  -- "nothing written"
  pub page_refused : (k : ℕ) → first_that_fits (P.of_the_page (length row) (length page)) ≡ suc k → page_after row page ≡ page
  page_refused k e = Page.refused_page row page k e

  module _ (ok : first_that_fits (P.of_the_page (length row) (length page)) ≡ 0) where
    -- "a line for each drive"
    pub page_line : (i : ℕ) → i < length row → (P.drive row i).position < 256 → P1.WellFormed (P.drive row i)
        → take 29 (drop (29 * i) (page_after row page)) ≡ P.line_of i (P.drive row i)
    page_line i h p f = Page.page_formed row page ok i h p f

    pub page_line_without : (i : ℕ) → i < length row → (P1.WellFormed (P.drive row i) → ⊥)
        → take 29 (drop (29 * i) (page_after row page)) ≡ P.line_without i
    page_line_without i h f = Page.page_unformed row page ok i h f

    -- "Bytes after the last line keep their content."
    pub page_behind : drop (29 * length row) (page_after row page) ≡ drop (29 * length row) page
    page_behind = Page.page_behind row page ok

-- ── W-208: sharing the actuator bill ──

-- "20 when the bill exceeds 1,000,000,000 cents or the share row's length isn't the number of drives, after 14. 21 when no drive has moved"
pub bill_refusal_lem : (row : List Drive) (bill places : ℕ) → bill_refusal row bill places ≡ first_that_fits (P.of_the_bill row bill places)
bill_refusal_lem row bill places = Bills.same_refusal row bill places

module _ (row : List Drive) (bill : ℕ) (shares : List ℕ) where
  pub bill_places : length (shares_after row bill shares) ≡ length shares
  bill_places = after_length row bill shares

  -- "both leave the row untouched"
  pub bill_refused : (k : ℕ) → first_that_fits (P.of_the_bill row bill (length shares)) ≡ suc k → shares_after row bill shares ≡ shares
  bill_refused k e = Bills.refused_bill row bill shares k e

  module _ (ok : first_that_fits (P.of_the_bill row bill (length shares)) ≡ 0) where
    -- "each gets the rounded-down share by travel, and left-over cents go one each to the largest remainders, lower number first", and no
    -- other row of shares is so
    pub bill_shared : P.Shared bill (P.counts row) (shares_after row bill shares)
    bill_shared = Bills.shared row bill shares ok

    pub bill_only : (us : List ℕ) → P.Shared bill (P.counts row) us → us ≡ shares_after row bill shares
    bill_only us s = Bills.only row bill shares ok us s

    -- "The shares add up to the bill, always."
    pub bill_adds_up : P.sum (shares_after row bill shares) ≡ bill
    bill_adds_up = Bills.adds_up row bill shares ok

    -- "by travel": who has not moved pays nothing, and each pays less than a cent more or less than by travel
    pub bill_unmoved : (i : ℕ) → i < length row → (P.drive row i).travel ≡ 0 → get_or (shares_after row bill shares) i 0 ≡ 0
    bill_unmoved i h z = unmoved_pays_none row bill shares (Bills.accepted_by row bill shares ok) i h z

    pub bill_near : (i : ℕ) → i < length row
        → (let T = P.sum (P.counts row) in
        let paid = get_or (shares_after row bill shares) i 0 * T in
        let by_travel = bill * (P.drive row i).travel in
        (paid < by_travel + T) × (by_travel < paid + T))
    bill_near i h = Bills.near row bill shares ok i h

-- it "looks only at counts"
pub bill_counts_only : (row other : List Drive) → P.counts row ≡ P.counts other → (bill : ℕ) (shares : List ℕ)
    → (bill_refusal row bill (length shares) ≡ bill_refusal other bill (length shares))
    × (shares_after row bill shares ≡ shares_after other bill shares)
bill_counts_only row other same bill shares = Bills.counts_alone row other same bill shares
