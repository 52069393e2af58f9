-- The shift page of a hall after any list of its calls: of each drive that was fresh at first, the line that the event records of its own
-- share decide, whatever the other drives were.
use Rattle.std.specs.Prelude.{◌≡◌, refl, List, [], map, ℕ, ◌*◌, ◌<◌, length, take, drop}
use Rattle.std.proofs.Common.{ap, ◌∙◌}
use Rattle.std.proofs.lemmas.List.{length-map}
use Rattle.event.specs.declared.Event.{Event}
use Rattle.damper.specs.declared.Drive.{Drive}
use Rattle.damper.specs.Record.{fresh_drive}
use Rattle.damper.specs.CarryLaws.{outcomes_length}
use Rattle.hall.specs.Hall.{Call, at}
use Rattle.hall.specs.Turns.{hall_step, bytes_in, hall_after, share, events_for}
use Rattle.shift.specs.Shift.{fields, line_with, drive_line, page_refusal, page_after}
use Rattle.shift.specs.Laws.{page_line}
use Rattle.history.specs.Readings.{position_in, status_in, ruling_source_in, history_of}
use Rattle.history.specs.Claim.{Trace, accepted}
use Rattle.history.specs.Facts.{Good}
use Rattle.history.specs.Standing.{good_status, good_ruling, accepted_read}
use Rattle.shares.specs.Shares.{share_answers, hall_length}
use Rattle.shares.specs.Once.{share_events}
use Rattle.shares.specs.Theorem.{share_trace, share_good}

-- the line of a drive by its number, read off its history
abbrev pub line_in : ℕ → List Event → List ℕ
line_in number h = line_with number (fields (position_in h) (ruling_source_in h) (status_in h))

good_line : (number : ℕ) (d : Drive) (t : Trace) → Good d t → drive_line number d ≡ line_in number (accepted t)
unfolding drive_line
good_line number d t g = rw (g.wf, g.position, good_ruling d t g, good_status d t g) refl

-- the accepted events of a drive's trace are those of its share, which the calls decide
pub share_accepted : (row : List Drive) (cs : List Call) (i : ℕ) → i < length row
    → accepted (share_trace row i cs) ≡ history_of (events_for (length row) i cs)
unfolding accepted
share_accepted row cs i h =
    let gs = share row i cs in
    accepted_read (map bytes_in gs) _ []
    (ap length (share_answers row cs i h) ∙ outcomes_length hall_step (at row i) gs ∙ rw (length-map gs bytes_in))
    ∙ ap history_of (share_events row i h cs)

-- The line of the drive at place `i`.
pub share_line : (row : List Drive) (cs : List Call) (i : ℕ) → i < length row → at row i ≡ fresh_drive
    → drive_line i (at (hall_after row cs) i) ≡ line_in i (history_of (events_for (length row) i cs))
share_line row cs i h fresh =
    good_line i _ (share_trace row i cs) (share_good row cs i h fresh) ∙ ap (line_in i) (share_accepted row cs i h)

-- On every page that has room it stands from byte 29 × i on.
pub share_page : (row : List Drive) (cs : List Call) (page : List ℕ) (i : ℕ) → i < length row → at row i ≡ fresh_drive
    → page_refusal (length row) (length page) ≡ 0
    → take 29 (drop (29 * i) (page_after (hall_after row cs) page)) ≡ line_in i (history_of (events_for (length row) i cs))
share_page row cs page i h fresh taken =
    let same : length (hall_after row cs) ≡ length row = hall_length row cs in
    page_line (hall_after row cs) page (rw same taken) i (rw same h) ∙ share_line row cs i h fresh
