-- Document 02, W-208: the bill of a hall and the lists of events.
use Rattle.std.specs.Prelude.{◌≡◌, List, ℕ, ◌<◌, min, length}
use Rattle.std.proofs.Common.{ap, ◌∙◌}
use Rattle.numbers.specs.Places.{tabulate}
use Rattle.numbers.specs.PlaceLaws.{tab_by}
use Rattle.damper.specs.declared.Drive.{Drive}
use Rattle.damper.specs.Record.{fresh_drive}
use Rattle.hall.specs.Hall.{Call, at}
use Rattle.hall.specs.Turns.{hall_after, events_for}
use Rattle.bill.specs.Bill.{shares}
use Rattle.hall_bill.specs.HallBill.{travels, bill_refusal, shares_after}
use Rattle.hall_bill.specs.Laws.{at_travel, travels_length, accepted_shares}
use Rattle.history.specs.Readings.{travel_in, history_of}
use Rattle.shares.specs.Shares.{hall_length}
use Rattle.shares.specs.Travelled.{share_travel}

-- the counts that a list of calls on a hall of `n` drives decides, each by the moves of a drive's own share
abbrev pub counts_in : ℕ → List Call → List ℕ
counts_in n cs = tabulate n (λ i. min (travel_in (history_of (events_for n i cs))) 4294967295)

-- Of a hall of drives that were fresh at first, after every list of calls: the bill is shared by the counts that the calls decide.
pub share_bill : (row : List Drive) (cs : List Call) → ((i : ℕ) → i < length row → at row i ≡ fresh_drive)
    → (bill : ℕ) (ws : List ℕ) → (let row' = hall_after row cs in
    bill_refusal row' bill (length ws) ≡ 0 → shares_after row' bill ws ≡ shares bill (counts_in (length row) cs))
share_bill row cs fresh bill ws ok =
    let row' = hall_after row cs in
    let size = hall_length row cs in
    accepted_shares row' bill ws ok
    ∙ ap (shares bill)
    (tab_by 0 (travels row') (length row) _ (travels_length row' ∙ size)
    (λ i l. at_travel row' i (rw size l) ∙ share_travel row cs i l (fresh i l)))
