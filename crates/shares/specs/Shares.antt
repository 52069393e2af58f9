-- For every row of drives and every list of calls: a place ends with the drive, and its turns got the answers, that the list of its share
-- gives to the drive that stood there. Before that, the share of two lists.
use Rattle.std.specs.Prelude.{◌≡◌, refl, List, [], ◌∷◌, ◌++◌, ℕ, ◌<◌, eqb, length}
use Rattle.std.proofs.Common.{sym, ◌∙◌, append_assoc, lt-length-set, eqb-true, ne_eqb}
use Rattle.std.proofs.lemmas.Bool.{eqb-false}
use Rattle.numbers.specs.Laws.{cases}
use Rattle.damper.specs.declared.Drive.{Drive}
use Rattle.damper.specs.Carry.{outcomes, drive_after, answers_in}
use Rattle.hall.specs.Hall.{Call, call_refusal, at}
use Rattle.hall.specs.Turns.{hall_step, Turn, turns_of, row_with, turned, row_after, answers_after, turns_in, hall_after, hall_turned, shared_out, own_of, share, own}
use Rattle.hall.specs.Laws.{row_append, turned_append, row_length}
use Rattle.hall.specs.OnceLaws.{here, elsewhere}

-- the share of turns in two parts
pub shared_append : (i : ℕ) (ts us : List Turn) → shared_out i (ts ++ us) ≡ shared_out i ts ++ shared_out i us
unfolding shared_out
shared_append i [] us = refl
shared_append i (t ∷ ts) us = rw (shared_append i ts us) (cases (eqb t.place i) (λ q. rw q) (λ q. rw q))

-- a row keeps its length, and of a list of calls in two parts the second is on the row that the first left
pub hall_length : (row : List Drive) (cs : List Call) → length (hall_after row cs) ≡ length row
unfolding hall_after
hall_length row [] = refl
hall_length row (c ∷ cs) = let ts = turns_of row c in hall_length (row_after hall_step row ts) cs ∙ row_length hall_step row ts

turns_append : (row : List Drive) (cs ds : List Call) → turns_in row (cs ++ ds) ≡ turns_in row cs ++ turns_in (hall_after row cs) ds
unfolding turns_in hall_after
turns_append row [] ds = refl
turns_append row (c ∷ cs) ds =
    let ts = turns_of row c in
    let row' = row_after hall_step row ts in
    rw (turns_append row' cs ds) (sym (append_assoc ts (turns_in row' cs) (turns_in (hall_after row' cs) ds)))

pub share_append : (row : List Drive) (i : ℕ) (cs ds : List Call) → share row i (cs ++ ds) ≡ share row i cs ++ share (hall_after row cs) i ds
share_append row i cs ds = rw (turns_append row cs ds) (shared_append i (turns_in row cs) (turns_in (hall_after row cs) ds))

-- a call that is refused itself has no turns
pub refused_turns : (row : List Drive) (c : Call) → (call_refusal (length row) c ≡ 0 → ⊥) → turns_of row c ≡ []
unfolding turns_of
refused_turns row c r = rw (ne_eqb (call_refusal (length row) c) 0 r)

module _ (row : List Drive) (c : Call) (r : call_refusal (length row) c ≡ 0 → ⊥) where
  -- "a hall call refused itself belongs to no share"
  pub refused_share : (cs : List Call) (i : ℕ) → share row i (c ∷ cs) ≡ share row i cs
  unfolding turns_in row_after
  refused_share cs i = rw (refused_turns row c r)

  -- and there "nothing is touched": neither the drives nor the answer row
  pub refused_row : (cs : List Call) → hall_after row (c ∷ cs) ≡ hall_after row cs
  unfolding hall_after row_after
  refused_row cs = rw (refused_turns row c r)

  pub refused_answers : (answers : List ℕ) → answers_after hall_step row c answers ≡ answers
  unfolding answers_after turned answers_in
  refused_answers answers = rw (refused_turns row c r)

-- a list of calls does what the turns of them all do
pub hall_row : (row : List Drive) (cs : List Call) → hall_after row cs ≡ row_after hall_step row (turns_in row cs)
unfolding hall_after row_after turns_in
hall_row row [] = refl
hall_row row (c ∷ cs) =
    let ts = turns_of row c in
    let row' = row_after hall_step row ts in
    hall_row row' cs ∙ sym (row_append hall_step row ts (turns_in row' cs))

pub hall_turned_lem : (row : List Drive) (cs : List Call) → hall_turned row cs ≡ turned hall_step row (turns_in row cs)
unfolding hall_turned turned turns_in
hall_turned_lem row [] = refl
hall_turned_lem row (c ∷ cs) =
    let ts = turns_of row c in
    let row' = row_after hall_step row ts in
    rw (turned_append hall_step row ts (turns_in row' cs), hall_turned_lem row' cs)

pub turns_drive : (row : List Drive) (ts : List Turn) (i : ℕ) → i < length row
    → at (row_after hall_step row ts) i ≡ drive_after (at row i) (outcomes hall_step (at row i) (shared_out i ts))
unfolding row_after shared_out outcomes drive_after
turns_drive row [] i h = refl
turns_drive row (t ∷ ts) i h =
    turns_drive (row_with hall_step row t) ts i (lt-length-set row t.place _ h)
    ∙ cases (eqb t.place i)
    (λ q. rw (q, here hall_step row t i h (eqb-true _ i q)))
    (λ q. rw (q, elsewhere hall_step row t i (eqb-false _ i q)))

turns_answers : (row : List Drive) (ts : List Turn) (i : ℕ) → i < length row
    → own_of i ts (turned hall_step row ts) ≡ outcomes hall_step (at row i) (shared_out i ts)
unfolding turned shared_out own_of outcomes
turns_answers row [] i h = refl
turns_answers row (t ∷ ts) i h =
    let rest = turns_answers (row_with hall_step row t) ts i (lt-length-set row t.place _ h) in
    cases (eqb t.place i)
    (λ q. rw (q, rest, here hall_step row t i h (eqb-true _ i q), eqb-true _ i q))
    (λ q. rw (q, rest, elsewhere hall_step row t i (eqb-false _ i q)))

-- The drive at a place is the one that its share leaves from the drive that stood there.
pub share_drive : (row : List Drive) (cs : List Call) (i : ℕ) → i < length row
    → at (hall_after row cs) i ≡ drive_after (at row i) (outcomes hall_step (at row i) (share row i cs))
share_drive row cs i h = rw (hall_row row cs) (turns_drive row (turns_in row cs) i h)

-- What its turns gave is what its share gives from that drive.
pub share_answers : (row : List Drive) (cs : List Call) (i : ℕ) → i < length row
    → own row i cs ≡ outcomes hall_step (at row i) (share row i cs)
share_answers row cs i h = rw (hall_turned_lem row cs) (turns_answers row (turns_in row cs) i h)

-- "A drive not named keeps every field."
pub unnamed_kept : (row : List Drive) (cs : List Call) (i : ℕ) → i < length row → share row i cs ≡ [] → at (hall_after row cs) i ≡ at row i
unfolding outcomes drive_after
unnamed_kept row cs i h e = share_drive row cs i h ∙ rw e
