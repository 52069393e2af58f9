-- However the input is cut into pieces, the lines are those of the whole input.
use Rattle.std.specs.Prelude.{◌≡◌, Bool, true, false, List, [], ◌∷◌, ◌++◌, ℕ, zero, suc, ◌+◌, ◌*◌, ◌-◌, ◌/◌, ◌%◌, ◌≤◌, length, take, drop}
use Rattle.std.proofs.Common.{sym, ap, ◌∙◌, append_assoc, append-nil, arith, zero-add, suc-add, length-take, length-drop, take-append-drop, take_all, take-take, length-take-le}
use Rattle.std.proofs.Math.Seq.{take-nil}
use Rattle.numbers.specs.Numbers.{pick}
use Rattle.event.specs.Records.{records_of}
use Rattle.event.specs.RecordLaws.{records_fit}
use Rattle.damper.specs.declared.Drive.{Drive}
use Rattle.damper.specs.Record.{fresh_drive}
use Rattle.damper.specs.Step.{step_of}
use Rattle.damper.specs.Carry.{outcomes, drive_after}
use Rattle.printer.specs.Page.{count_after, lines_after, answered}
use Rattle.printer.specs.Pieces.{pieces}
use Rattle.printer.specs.Session.{whole, given, kept, printed, session}

-- a part that ends before the end
drop_take : (m n : ℕ) (l : List ℕ) → drop n (take (n + m) l) ≡ take m (drop n l)
drop_take m zero l = ap (λ (k : ℕ). take k l) (zero-add m)
drop_take m (suc n) [] = ap (drop (suc n)) (take-nil (suc n + m)) ∙ sym (take-nil m)
drop_take m (suc n) (x ∷ l) = ap (λ (k : ℕ). drop (suc n) (take k (x ∷ l))) (suc-add n m) ∙ drop_take m n l

-- pieces in one
abbrev pub joined : List (List ℕ) → List ℕ
joined [] = []
joined (p ∷ ps) = p ++ joined ps

-- whole records are a multiple of six bytes
whole_records : (b : List ℕ) → length (take (whole false (length b)) b) ≡ 6 * (length b / 6)
whole_records b = simp length-take (omega arith)

-- the bytes at hand, and those that come later: whole records first
regroup : (k p r : List ℕ) → k ++ (p ++ r) ≡ take (whole false (length (k ++ p))) (k ++ p) ++ (kept false (k ++ p) ++ r)
regroup k p r =
    sym (append_assoc k p r)
    ∙ ap (λ (l : List ℕ). l ++ r) (sym (take-append-drop (whole false (length (k ++ p))) (k ++ p)))
    ∙ append_assoc (take (whole false (length (k ++ p))) (k ++ p)) (kept false (k ++ p)) r

printed_all : (ps : List (List ℕ)) (d : Drive) (n : ℕ) (k : List ℕ)
    → printed d n k ps ≡ lines_after n (outcomes step_of d (records_of (k ++ joined ps)))
unfolding printed
printed_all [] d n k =
    rw (take_all (whole true (length k)) k (omega arith), append-nil)
printed_all (p ∷ ps) d n k =
    let os = given false d (k ++ p) in
    let w = take (whole false (length (k ++ p))) (k ++ p) in
    rw (printed_all ps (drive_after d os) (count_after n os) (kept false (k ++ p)), regroup k p (joined ps))
    (sym (pieces step_of (length (k ++ p) / 6) d n w (kept false (k ++ p) ++ joined ps) (whole_records (k ++ p))))

-- For every input and every cut of it, the program's lines are those of the input's records given to a drive that was fresh.
pub session_lines : (ps : List (List ℕ)) → session ps ≡ lines_after 0 (outcomes step_of fresh_drive (records_of (joined ps)))
session_lines ps = printed_all ps fresh_drive 0 []

-- What the code has at hand in one turn: `part` of the first `have` bytes of the input wait, and the lines have room.
module _ (input out : List ℕ) (have : ℕ) (ended : Bool) (part : ℕ) (h : have ≤ length input) (waits : part ≡ pick ended 0 (have % 6)) (p : part ≤ have) where
  at_hand : length (take have input) ≡ have
  at_hand = length-take-le have input h

  pub turn_whole : take (whole ended (length (take have input))) (take have input) ≡ take (have - part) input
  turn_whole = rw (at_hand, ← waits) (take-take (have - part) have input (omega arith))

  pub turn_kept : kept ended (take have input) ≡ take part (drop (have - part) input)
  turn_kept =
      rw (at_hand, ← waits)
      (let both : have - part + part ≡ have = omega arith in
      sym (ap (λ (n : ℕ). drop (have - part) (take n input)) both) ∙ drop_take part (have - part) input)

  pub turn_count : length (kept ended (take have input)) ≡ part
  turn_count = rw turn_kept (length-take-le part (drop (have - part) input) (simp length-drop (omega arith)))

  pub turn_answered : have ≤ 6 * (length out / 64) → answered (take (have - part) input) out ≡ records_of (take (whole ended (length (take have input))) (take have input))
  turn_answered r =
      rw turn_whole
      (take_all (length out / 64) (records_of (take (have - part) input)) (records_fit _ _ (simp length-take (omega arith))))
