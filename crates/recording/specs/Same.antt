-- The finding `answer` decides demand 2 for a recording: one in which it is nowhere found is the proved drive's own.
use Rattle.std.specs.Prelude.{◌≡◌, refl, Bool, true, false, List, [], ◌∷◌, ℕ, ◌<◌, ◌≤◌, ltb, eqb}
use Rattle.std.proofs.Common.{sym, ap, ◌∙◌, arith, eqb-true}
use Rattle.numbers.specs.Laws.{and_left, and_right, not_false, pick_elim}
use Rattle.numbers.specs.Every.{Every, none, more}
use Rattle.event.specs.Event.{event_in}
use Rattle.motion.specs.Motion.{to_percent, motor}
use Rattle.rules.specs.RankLaws.{ruling_below}
use Rattle.rules.specs.ReportLaws.{status_byte}
use Rattle.answer.specs.declared.Answer.{Answer}
use Rattle.answer.specs.declared.Answer.TheVariants.{No, Done, Par, At, Tick, Report}
use Rattle.answer.specs.Answer.{word_of, code_of, answer_of}
use Rattle.answer.specs.Laws.{Fits, answer_again}
use Rattle.damper.specs.declared.Drive.{Drive}
use Rattle.damper.specs.declared.Outcome.{Outcome}
use Rattle.damper.specs.Record.{fresh_drive}
use Rattle.damper.specs.WellFormed.{well_formed}
use Rattle.damper.specs.Tick.{aged, bus_on, advance}
use Rattle.damper.specs.Step.{tick_with, ticked, applied, refusal_of, step_of}
use Rattle.damper.specs.Carry.{outcomes}
use Rattle.history.specs.Claim as C
use Rattle.history.specs.Facts.{Good}
use Rattle.history.specs.Theorem.{facts, fresh_good}
use Rattle.audit.specs.declared.Audit.{Audit}
use Rattle.audit.specs.Audit.{fresh_audit, met_by, findings_of, audit_of}
use Rattle.recording.specs.Recording.{Heard, records_in, recording_of, heard_as, findings_from}
use Rattle.recording.specs.Follows.{Follows, fresh_follows}
use Rattle.recording.specs.Theorem.{follows_next}
use Rattle.recording.specs.Own.{same_drive, wait_kept, travel_kept, own_heard}

-- Each value of an answer behind its first is a byte; of a percent it is enough that it is at most its position. No bound of a position, of
-- a parameter or of a refusal's number is asked: an answer with the same numbers gives it.
abbrev Behind : Answer → Type 0
Behind (No n) = Unit {0}
Behind Done = Unit {0}
Behind (Par v) = Unit {0}
Behind (At p c s) = (c ≤ p) × (s < 256)
Behind (Tick p r m) = (r < 256) × (m < 256)
Behind (Report p r m s) = (r < 256) × (m < 256) × (s < 256)

-- such an answer fits where the answer with its two numbers has them too
fits_behind : (y : Answer) → Behind y → code_of (answer_of (word_of y) (code_of y)) ≡ code_of y → Fits y
fits_behind (No n) b e = omega arith
fits_behind Done b e = tt
fits_behind (Par v) b e = omega arith
fits_behind (At p c s) b e = omega arith
fits_behind (Tick p r m) b e = omega arith
fits_behind (Report p r m s) b e = omega arith

-- so it is any answer that fits and has its two numbers
same_numbers : (x y : Answer) → Fits x → Behind y → word_of x ≡ word_of y → code_of x ≡ code_of y → x ≡ y
same_numbers x y h b w c =
    let e : x ≡ answer_of (word_of y) (code_of y) = sym (answer_again x h) ∙ rw (w, c) in
    e ∙ answer_again y (fits_behind y b (ap code_of (sym e) ∙ c))

-- The answers of the drive are such.

-- the motor is 0, 1 or 2
motor_byte : (o p q : ℕ) → motor o p q < 256
unfolding motor
motor_byte o p q =
    pick_elim Byte (eqb p q)
    (λ e. omega arith)
    (λ e. pick_elim Byte (ltb p q)
    (λ f. pick_elim Byte (eqb o 1) (λ g. omega arith) (λ g. omega arith))
    (λ f. pick_elim Byte (eqb o 1) (λ g. omega arith) (λ g. omega arith)))
  where
    Byte : ℕ → Type 0
    Byte n = n < 256

-- a ruling rank is below 7
rank_byte : (d : Drive) → (advance d).rank < 256
unfolding advance
rank_byte d = let a = aged d in omega (arith, ruling_below a.commands a.run.kind (bus_on a))

-- a percent is at most its position
percent_below : (p : ℕ) → to_percent p ≤ p
unfolding to_percent
percent_below p = omega arith

-- of an outcome
abbrev Answers : Outcome → Type 0
Answers o = Behind o.answer

-- of a tick, due or not
tick_behind : (b : Bool) (d : Drive) → Answers (tick_with b (advance d))
unfolding tick_with advance
tick_behind true d = (rank_byte d, motor_byte _ _ _, status_byte _ _ _)
tick_behind false d = (rank_byte d, motor_byte _ _ _)

-- of every record
step_behind : (d : Drive) (s : List ℕ) → Answers (step_of d s)
unfolding step_of applied ticked
step_behind d s =
    let k = (event_in s).kind in
    pick_elim Answers (eqb (refusal_of d s) 0)
    (λ e. pick_elim Answers (eqb k 1)
    (λ f. tick_behind _ d)
    (λ f. pick_elim Answers (eqb k 10)
    (λ g. (percent_below d.position, status_byte _ _ _))
    (λ g. pick_elim Answers (eqb k 11) (λ h. tt) (λ h. tt))))
    (λ e. tt)

-- where `answer` is not found, the answer is that of document 01's drive
answer_same : (a : Audit) (x : Heard) → well_formed a.drive ≡ true → Fits x.answer
    → (audit_of a x.bytes x.answer).findings.answer ≡ false → x.answer ≡ (step_of a.drive x.bytes).answer
unfolding audit_of findings_of met_by
answer_same a x w h e =
    let y = (step_of a.drive x.bytes).answer in
    let q = not_false _ (rw w at e) in
    let v = eqb-true _ _ (and_left (eqb (word_of x.answer) (word_of y)) _ q) in
    let c = eqb-true _ _ (and_right (eqb (word_of x.answer) (word_of y)) _ q) in
    same_numbers x.answer y h (step_behind a.drive x.bytes) v c

-- an audit and a drive of the same trace, carried over a recording in which `answer` is not found
same_from : (l : List Heard) (a : Audit) (d : Drive) (t : C.Trace) → Follows a t → Good d t → a.drive.wait ≡ d.wait
    → a.drive.travel ≡ d.travel → Every (λ x. Fits x.answer) l → Every (λ f. f.answer ≡ false) (findings_from a l)
    → l ≡ recording_of (records_in l) (outcomes step_of d (records_in l))
unfolding outcomes recording_of findings_from
same_from [] a d t f g w v none none = refl
same_from (x ∷ l) a d t f g w v (more h hs) (more n ns) =
    let s = x.bytes in
    let o = step_of d s in
    let e = same_drive a d t f g w v in
    let y : x.answer ≡ o.answer = rw (← e) (answer_same a x f.wf h n) in
    let own : record { bytes = s; answer = o.answer } ≡ x = λ i. record { bytes = s; answer = sym y i } in
    let k : Good o.drive (heard_as t x ∷ t) = rw (own_heard d t s g ∙ ap (heard_as t) own) at (facts d t s g).good in
    let rest = same_from l _ o.drive (heard_as t x ∷ t) (follows_next a t f x) k (wait_kept a s x.answer f.wf ∙ rw e)
    (travel_kept a s x.answer f.wf ∙ rw e) hs ns in
    λ i. sym own i ∷ rest i

-- For every recording whose answers fit (`At 1 0 s` and `At 0 256 s` have one number): where `answer` is nowhere found, it is the proved
-- drive's own recording of its event records, fresh at first, whatever bytes these hold.
pub audit_same : (l : List Heard) → Every (λ x. Fits x.answer) l → Every (λ f. f.answer ≡ false) (findings_from fresh_audit l)
    → l ≡ recording_of (records_in l) (outcomes step_of fresh_drive (records_in l))
audit_same l = same_from l fresh_audit fresh_drive [] fresh_follows fresh_good refl refl
