-- W-205: no call gives a drive anything twice. For every row of drives and every list of calls: a call that is carried out gives each drive
-- that it is for one thing, on the record that stood there when the call began, and the others nothing; one that is refused gives nothing.
-- So the event records of a share are decided by the calls and the number of drives. And lists of calls without repeats do what W-201's
-- definition has them do.
use Rattle.std.specs.Prelude.{◌≡◌, refl, Bool, true, ◌&&◌, List, [], ◌∷◌, ◌++◌, map, ℕ, ◌<◌, length}
use Rattle.std.proofs.Common.{sym, ap, ◌∙◌, append-nil, eqb-true}
use Rattle.numbers.specs.Numbers.{pick}
use Rattle.numbers.specs.Laws.{cases}
use Rattle.damper.specs.declared.Drive.{Drive}
use Rattle.damper.specs.declared.Outcome.{Outcome}
use Rattle.damper.specs.Carry.{outcomes, drive_after}
use Rattle.damper.specs.CarryLaws.{outcomes_append, drive_last}
use Rattle.hall.specs.Hall.{Call, give, tick, carried_out, at}
use Rattle.hall.specs.Quota.{sends}
use Rattle.hall.specs.Turns.{Given, bytes, hall_tick, hall_step, bytes_in, turns_of, turned, row_after, turns_in, hall_after, hall_turned, shared_out, share, own, is_for, record_in, events_for}
use Rattle.hall.specs.Laws.{row_length}
use Rattle.hall.specs.OnceLaws.{once_shared}
use Rattle.hall.specs.TickLaws.{tick_shared}
use Rattle.hall.specs.EventLaws.{given_once, turns_in_to16, all_once, turns_unaffected}
use Rattle.shares.specs.Shares.{shared_append, share_append, hall_length, hall_row, hall_turned_lem, share_drive, share_answers}

-- whether a call on a row gives the drive at place `i` anything, and what
abbrev pub reaches : List Drive → ℕ → Call → Bool
reaches row i c = carried_out (length row) c && is_for i c

abbrev pub gives : List Drive → ℕ → Call → Given
gives row i (give list s room) = bytes s
gives row i (tick quota room) = hall_tick (sends quota row i)

-- as an event record
gives_record : (row : List Drive) (i : ℕ) (c : Call) → bytes_in (gives row i c) ≡ record_in c
gives_record row i (give list s room) = refl
gives_record row i (tick quota room) = refl

-- the turns of one call
pub turn_shared : (row : List Drive) (i : ℕ) → i < length row → (c : Call)
    → shared_out i (turns_of row c) ≡ pick (reaches row i c) (gives row i c ∷ []) []
unfolding turns_of shared_out
turn_shared row i h (give list s room) =
    let n = length row in
    cases (carried_out n (give list s room)) (λ q. rw q (once_shared (λ x. bytes s) i list (given_once n list s room (eqb-true _ 0 q)))) (λ q. rw q)
turn_shared row i h (tick quota room) =
    let n = length row in
    cases (carried_out n (tick quota room)) (λ q. rw (q, tick_shared (λ x. hall_tick (sends quota row x)) n i h)) (λ q. rw q)

-- A drive's share has one thing of each call that reaches it, and nothing else.
pub share_once : (row : List Drive) (i : ℕ) → i < length row → (c : Call) (cs : List Call)
    → share row i (c ∷ cs) ≡ pick (reaches row i c) (gives row i c ∷ []) [] ++ share (row_after hall_step row (turns_of row c)) i cs
unfolding turns_in
share_once row i h c cs =
    shared_append i (turns_of row c) _ ∙ ap (λ (gs : List Given). gs ++ share (row_after hall_step row (turns_of row c)) i cs) (turn_shared row i h c)

-- As event records it is decided by the calls and the number of drives.
pub share_events : (row : List Drive) (i : ℕ) → i < length row → (cs : List Call) → map bytes_in (share row i cs) ≡ events_for (length row) i cs
unfolding turns_in shared_out events_for
share_events row i h [] = refl
share_events row i h (c ∷ cs) =
    let row' = row_after hall_step row (turns_of row c) in
    let size : length row' ≡ length row = row_length hall_step row (turns_of row c) in
    let rest : map bytes_in (share row' i cs) ≡ events_for (length row) i cs = share_events row' i (rw size h) cs ∙ rw size in
    ap (map bytes_in) (share_once row i h c cs)
    ∙ cases (reaches row i c)
    (λ q. rw (q, rest, gives_record row i c))
    (λ q. rw (q, rest))

-- what one call more gives the drive
last_shared : (row : List Drive) (i : ℕ) → i < length row → (cs : List Call) (c : Call) → let row' = hall_after row cs in
    share row i (cs ++ (c ∷ [])) ≡ share row i cs ++ pick (reaches row' i c) (gives row' i c ∷ []) []
unfolding turns_in shared_out
last_shared row i h cs c =
    let row' = hall_after row cs in
    share_append row i cs (c ∷ [])
    ∙ ap (λ (gs : List Given). share row i cs ++ gs) (share_once row' i (rw (hall_length row cs) h) c [] ∙ append-nil _)

-- a drive that is given one thing more, or none
module _ (d : Drive) (gs : List Given) (given : Bool) (g : Given) where
  abbrev before : Drive
  before = drive_after d (outcomes hall_step d gs)

  more_outcomes : outcomes hall_step d (gs ++ pick given (g ∷ []) []) ≡ outcomes hall_step d gs ++ pick given (hall_step before g ∷ []) []
  unfolding outcomes
  more_outcomes = outcomes_append hall_step d gs (pick given (g ∷ []) []) ∙ cases given (λ q. rw q) (λ q. rw q)

  more_drive : drive_after d (outcomes hall_step d (gs ++ pick given (g ∷ []) [])) ≡ pick given (hall_step before g).drive before
  more_drive =
      ap (drive_after d) more_outcomes
      ∙ cases given (λ q. rw q (drive_last d (outcomes hall_step d gs) (hall_step before g))) (λ q. rw (q, append-nil))

-- Behind any calls, a call leaves at a place that it reaches the step of the record that stood there when it began, and its answer is that
-- of this step; a place that it does not reach has the record that it had, and no answer.
module _ (row : List Drive) (cs : List Call) (c : Call) (i : ℕ) (h : i < length row) where
  abbrev found : List Drive
  found = hall_after row cs

  abbrev stood : Drive
  stood = at found i

  abbrev reached : Bool
  reached = reaches found i c

  abbrev given : Given
  given = gives found i c

  pub call_drive : at (hall_after row (cs ++ (c ∷ []))) i ≡ pick reached (hall_step stood given).drive stood
  call_drive =
      share_drive row (cs ++ (c ∷ [])) i h
      ∙ ap (λ (gs : List Given). drive_after (at row i) (outcomes hall_step (at row i) gs)) (last_shared row i h cs c)
      ∙ more_drive (at row i) (share row i cs) reached given
      ∙ ap (λ (d : Drive). pick reached (hall_step d given).drive d) (sym (share_drive row cs i h))

  pub call_answer : own row i (cs ++ (c ∷ [])) ≡ own row i cs ++ pick reached (hall_step stood given ∷ []) []
  call_answer =
      share_answers row (cs ++ (c ∷ [])) i h
      ∙ ap (outcomes hall_step (at row i)) (last_shared row i h cs c)
      ∙ more_outcomes (at row i) (share row i cs) reached given
      ∙ ap (λ (os : List Outcome). os ++ pick reached (hall_step (drive_after (at row i) (outcomes hall_step (at row i) (share row i cs))) given ∷ []) [])
      (sym (share_answers row cs i h))
      ∙ ap (λ (d : Drive). own row i cs ++ pick reached (hall_step d given ∷ []) []) (sym (share_drive row cs i h))

-- "its answers for lists without repeats are unaffected": the row after such calls, what their turns gave and each share are W-201's.
pub calls_unaffected : (row : List Drive) (cs : List Call) → all_once cs ≡ true
    → (let ts = turns_in_to16 row cs in
    (hall_after row cs ≡ row_after hall_step row ts)
    × (hall_turned row cs ≡ turned hall_step row ts)
    × ((i : ℕ) → share row i cs ≡ shared_out i ts))
calls_unaffected row cs e =
    let same = turns_unaffected row cs e in
    (hall_row row cs ∙ ap (row_after hall_step row) same, hall_turned_lem row cs ∙ ap (turned hall_step row) same, λ i. ap (shared_out i) same)
