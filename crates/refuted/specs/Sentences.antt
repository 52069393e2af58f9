-- The sentences of the claim, wordings of five of them, and for each a test that is set only where it does not hold.
use Rattle.std.specs.Prelude.{◌≡◌, refl, Bool, true, false, not, ◌&&◌, ◌||◌, List, [], ◌∷◌, ◌++◌, ℕ, ◌+◌, ◌≤◌, min, leb, eqb, take, drop}
use Rattle.std.proofs.Common.{sym, subst, ◌∙◌, take-append-drop, eqb-true, eq-eqb, ne_eqb, le-leb}
use Rattle.std.specs.Bool.{beq}
use Rattle.std.proofs.lemmas.Bool.{false≢true, not-true}
use Rattle.numbers.specs.Numbers.{distance}
use Rattle.numbers.specs.Laws.{and_left, and_right, and_intro}
use Rattle.numbers.specs.Counts.{none, more}
use Rattle.table.specs.Table.{min_rep_time, act_pos_cov, rate}
use Rattle.event.specs.declared.Event.{Event}
use Rattle.event.specs.Event.{event_in}
use Rattle.rules.specs.Report.{changed, Sent, silent, sent, report_due}
use Rattle.answer.specs.Answer.{number_of}
use Rattle.history.specs.Readings.{is_tick, is_restart, parameters, target_from, position_in, status_in, judgement}
use Rattle.history.specs.Claim as C
use Rattle.history.specs.Claim.{Moment, Trace, Quiet, Holds, Claim}

-- the sentences by name, at the latest record of a trace; for `spacing` the number of records between the two reports, for
-- `waiting` that of the row
pub data Sentence : Type 0 where
  spacing : ℕ → Sentence
  waiting : ℕ → Sentence
  move : Sentence
  position : Sentence
  content : Sentence
  others : Sentence
  due : Sentence
  refusal : Sentence
  formed : Sentence

abbrev pub SentenceOf : Sentence → Moment → Trace → Type 0
SentenceOf (spacing n) m t = C.Spacing m t
SentenceOf (waiting n) m t = C.Waiting m t
SentenceOf move m t = C.Move m t
SentenceOf position m t = C.Position m t
SentenceOf content m t = C.Content m t
SentenceOf others m t = C.Others m t
SentenceOf due m t = C.Due m t
SentenceOf refusal m t = C.Refusal m t
SentenceOf formed m t = C.Formed m t

-- Five sentences with operands left open: a wording is such a sentence with its operands. `now` is the trace with the tick, `old` the
-- one before the row
pub data Wording : Type 0 where
  -- how many ticks two reports are apart, by MinRepTime; the number of records between them
  spaced : (ℕ → ℕ) → ℕ → Wording
  -- the ticks in the row after `old`; how many make a wait, by `now` and `old`; whether two positions differ, by `now`; the number of
  -- records of the row
  waits : (Trace → Trace → ℕ) → (Trace → Trace → ℕ) → (Trace → ℕ → ℕ → Bool) → ℕ → Wording
  -- how far a tick moves at most, by Rate; the target, as `target_from` has it
  moves : (ℕ → ℕ) → (ℕ → Event → List Event → ℕ) → Wording
  -- position and status of a report, by the histories with and without its tick
  gives : (List Event → List Event → ℕ) → (List Event → List Event → ℕ) → Wording
  -- the ticks that count for a report, as `since` has them
  times : (Trace → ℕ) → Wording

abbrev pub WordingOf : Wording → Moment → Trace → Type 0
WordingOf (spaced apart n) m t = (between : Trace) (x : Moment) (old : Trace) → t ≡ between ++ (x ∷ old) → C.reports x ≡ true → C.reports m ≡ true
    → apart (min_rep_time (C.in_force m t)) ≤ C.ticks_in (m ∷ between) (x ∷ old)
WordingOf (waits count wait differ n) m t = (row old : Trace) → m ∷ t ≡ row ++ old → C.accepted_as is_tick m t ≡ true
    → count row old ≡ wait (m ∷ t) old → Quiet old row
    → (p : ℕ) × (C.last_report (m ∷ t) ≡ sent p (status_in (C.accepted (m ∷ t)))) × (differ (m ∷ t) (position_in (C.accepted (m ∷ t))) p ≡ false)
WordingOf (moves far target) m t = C.accepted_as is_tick m t ≡ true
    → (let before = C.position_after t in
    let goal = target before (event_in m.bytes) (C.accepted t) in
    let step = min (far (rate (C.in_force m t))) (distance before goal) in
    (distance before m.position ≡ step) × (distance m.position goal + step ≡ distance before goal))
WordingOf (gives place status) m t = C.reports m ≡ true
    → C.report_in m.answer ≡ sent (place (C.accepted (m ∷ t)) (C.accepted t)) (status (C.accepted (m ∷ t)) (C.accepted t))
WordingOf (times count) m t = C.accepted_as is_tick m t ≡ true
    → C.reports m ≡ report_due (C.in_force m t) (count t + 1) (position_in (C.accepted (m ∷ t))) (status_in (C.accepted (m ∷ t))) (C.last_report t)

-- the parameters in force after a trace
abbrev pub after : Trace → List ℕ
after t = parameters (C.accepted t)

-- the claim's own operands, and its wordings
abbrev pub wait_of : Trace → Trace → ℕ
wait_of now old = min_rep_time (after now)

abbrev pub differs_by : Trace → ℕ → ℕ → Bool
differs_by now a b = changed (act_pos_cov (after now)) a b

abbrev pub spacing_own : ℕ → Wording
spacing_own n = spaced (λ k. k) n

abbrev pub waiting_own : ℕ → Wording
waiting_own n = waits C.ticks_in wait_of differs_by n

abbrev pub move_own : Wording
move_own = moves (λ k. k) target_from

abbrev pub content_own : Wording
content_own = gives (λ now before. position_in now) (λ now before. status_in now)

abbrev pub due_own : Wording
due_own = times C.since

-- These wordings are the claim's sentences.
pub own : (n : ℕ) (m : Moment) (t : Trace) → (WordingOf (spacing_own n) m t ≡ C.Spacing m t) × (WordingOf (waiting_own n) m t ≡ C.Waiting m t)
    × (WordingOf move_own m t ≡ C.Move m t) × (WordingOf content_own m t ≡ C.Content m t) × (WordingOf due_own m t ≡ C.Due m t)
own n m t = (refl, refl, refl, refl, refl)

-- no accepted restart and no report among the records of `new`, which came after the trace `old`
abbrev pub quiet : Trace → Trace → Bool
quiet old [] = true
quiet old (m ∷ new) = (not (C.accepted_as is_restart m (new ++ old)) && not (C.reports m)) && quiet old new

-- a report of position `p` and status `s`
abbrev pub says : ℕ → ℕ → Sent → Bool
says p s silent = false
says p s (sent q r) = eqb q p && eqb r s

-- what the sentence supposes holds, and what it says does not
abbrev pub fails : Bool → Bool → Bool
fails supposed said = supposed && not said

-- there is no last report, or the status or the position differs from it
abbrev pub news : (ℕ → Bool) → ℕ → Sent → Bool
news differ status silent = true
news differ status (sent p s) = differ p || not (eqb status s)

-- `m` and the first of the last trace, `x`, are reports, fewer ticks apart than they are to be
abbrev pub too_close : (ℕ → ℕ) → Moment → Trace → Trace → Bool
too_close apart m between [] = false
too_close apart m between (x ∷ old) =
    fails (C.reports x && C.reports m)
    (leb (apart (min_rep_time (C.in_force m (between ++ (x ∷ old))))) (C.ticks_in (m ∷ between) (x ∷ old)))

-- `m` is the last of the ticks of a wait, `row`, without restart and without report, after which there is something to report
abbrev pub too_late : (Trace → Trace → ℕ) → (Trace → Trace → ℕ) → (Trace → ℕ → ℕ → Bool) → Moment → Trace → Trace → Trace → Bool
too_late count wait differ m t row old =
    let h = C.accepted (m ∷ t) in
    fails (C.accepted_as is_tick m t && (eqb (count row old) (wait (m ∷ t) old) && quiet old row))
    (not (news (differ (m ∷ t) (position_in h)) (status_in h) (C.last_report (m ∷ t))))

-- the test of each wording, and of each sentence
abbrev pub wrong : Wording → Moment → Trace → Bool
wrong (spaced apart n) m t = too_close apart m (take n t) (drop n t)
wrong (waits count wait differ n) m t = too_late count wait differ m t (take n (m ∷ t)) (drop n (m ∷ t))
wrong (moves far target) m t =
    let before = C.position_after t in
    let goal = target before (event_in m.bytes) (C.accepted t) in
    let step = min (far (rate (C.in_force m t))) (distance before goal) in
    fails (C.accepted_as is_tick m t)
    (eqb (distance before m.position) step && eqb (distance m.position goal + step) (distance before goal))
wrong (gives place status) m t =
    fails (C.reports m)
    (says (place (C.accepted (m ∷ t)) (C.accepted t)) (status (C.accepted (m ∷ t)) (C.accepted t)) (C.report_in m.answer))
wrong (times count) m t =
    let h = C.accepted (m ∷ t) in
    fails (C.accepted_as is_tick m t)
    (beq (C.reports m) (report_due (C.in_force m t) (count t + 1) (position_in h) (status_in h) (C.last_report t)))

abbrev pub broken : Sentence → Moment → Trace → Bool
broken (spacing n) m t = wrong (spacing_own n) m t
broken (waiting n) m t = wrong (waiting_own n) m t
broken move m t = wrong move_own m t
broken position m t = fails true (eqb m.position (position_in (C.accepted (m ∷ t))))
broken content m t = wrong content_own m t
broken others m t = fails (not (C.accepted_as is_tick m t)) (eqb m.position (C.position_after t) && not (C.reports m))
broken due m t = wrong due_own m t
broken refusal m t = fails true (eqb (number_of m.answer) (judgement (C.accepted t) m.bytes))
broken formed m t = fails true (not (eqb (number_of m.answer) 1))

-- The laws: where a wording or a sentence holds, its test is not set.

holds : (supposed said : Bool) → (supposed ≡ true → said ≡ true) → fails supposed said ≡ false
holds true said h = rw (h refl) refl
holds false said h = refl

not_intro : {b : Bool} → b ≡ false → not b ≡ true
not_intro {b} p = rw p refl

quiet_law : (old new : Trace) → quiet old new ≡ true → Quiet old new
quiet_law old [] q = none
quiet_law old (m ∷ new) q =
    let stays = not (C.accepted_as is_restart m (new ++ old)) in
    let mute = not (C.reports m) in
    let a = and_left (stays && mute) _ q in
    more (not-true _ (and_left stays _ a)) (not-true _ (and_right stays _ a)) (quiet_law old new (and_right (stays && mute) _ q))

says_law : (p s : ℕ) (x : Sent) → x ≡ sent p s → says p s x ≡ true
says_law p s x e = rw e (and_intro (eq-eqb p p refl) (eq-eqb s s refl))

beq_law : (a b : Bool) → a ≡ b → beq a b ≡ true
beq_law true b e = rw (sym e) refl
beq_law false b e = rw (sym e) refl

news_law : (differ : ℕ → Bool) (s q : ℕ) (x : Sent) → x ≡ sent q s → differ q ≡ false → news differ s x ≡ false
news_law differ s q x e h = rw (e, h, eq-eqb s s refl) refl

spaced_law : (apart : ℕ → ℕ) (n : ℕ) (m : Moment) (between rest : Trace) → WordingOf (spaced apart n) m (between ++ rest)
    → too_close apart m between rest ≡ false
spaced_law apart n m between [] h = refl
spaced_law apart n m between (x ∷ old) h =
    holds (C.reports x && C.reports m) _
    (λ q. le-leb _ _ (h between x old refl (and_left (C.reports x) _ q) (and_right (C.reports x) _ q)))

pub wording_law : (w : Wording) (m : Moment) (t : Trace) → WordingOf w m t → wrong w m t ≡ false
wording_law (spaced apart n) m t h =
    spaced_law apart n m (take n t) (drop n t)
    (subst (λ (x : Trace). WordingOf (spaced apart n) m x) (sym (take-append-drop n t)) h)
wording_law (waits count wait differ n) m t h =
    let row = take n (m ∷ t) in
    let old = drop n (m ∷ t) in
    let ticks = C.accepted_as is_tick m t in
    let enough = eqb (count row old) (wait (m ∷ t) old) in
    holds (ticks && (enough && quiet old row)) _
    (λ q.
    let r = and_right ticks _ q in
    let e = sym (take-append-drop n (m ∷ t)) in
    let w = h row old e (and_left ticks _ q) (eqb-true _ _ (and_left enough _ r)) (quiet_law old row (and_right enough _ r)) in
    not_intro (news_law (differ (m ∷ t) (position_in (C.accepted (m ∷ t)))) _ w.0 _ w.1 w.2))
wording_law (moves far target) m t h =
    holds (C.accepted_as is_tick m t) _ (λ q. let w = h q in and_intro (eq-eqb _ _ w.0) (eq-eqb _ _ w.1))
wording_law (gives place status) m t h = holds (C.reports m) _ (λ q. says_law _ _ _ (h q))
wording_law (times count) m t h = holds (C.accepted_as is_tick m t) _ (λ q. beq_law _ _ (h q))

pub law : (s : Sentence) (m : Moment) (t : Trace) → SentenceOf s m t → broken s m t ≡ false
law (spacing n) m t h = wording_law (spacing_own n) m t h
law (waiting n) m t h = wording_law (waiting_own n) m t h
law move m t h = wording_law move_own m t h
law position m t h = holds true _ (λ q. eq-eqb _ _ h)
law content m t h = wording_law content_own m t h
law others m t h =
    holds (not (C.accepted_as is_tick m t)) _ (λ q. let w = h (not-true _ q) in and_intro (eq-eqb _ _ w.0) (not_intro w.1))
law due m t h = wording_law due_own m t h
law refusal m t h = holds true _ (λ q. eq-eqb _ _ h)
law formed m t h = holds true _ (λ q. not_intro (ne_eqb _ _ h))

-- what is said at the latest record of a trace, its test there, and the laws
abbrev pub At : (Moment → Trace → Type 0) → Trace → Type 0
At P [] = Unit {0}
At P (m ∷ t) = P m t

abbrev pub test_at : (Moment → Trace → Bool) → Trace → Bool
test_at test [] = false
test_at test (m ∷ t) = test m t

pub at_law : (P : Moment → Trace → Type 0) (test : Moment → Trace → Bool) → ((m : Moment) (t : Trace) → P m t → test m t ≡ false) → (t : Trace)
    → test_at test t ≡ true → At P t → ⊥
at_law P test l [] q h = false≢true q
at_law P test l (m ∷ t) q h = false≢true (sym (l m t h) ∙ q)

abbrev pub Latest : Sentence → Trace → Type 0
Latest s t = At (SentenceOf s) t

abbrev pub broken_in : Sentence → Trace → Bool
broken_in s t = test_at (broken s) t

pub latest_law : (s : Sentence) (t : Trace) → broken_in s t ≡ true → Latest s t → ⊥
latest_law s t = at_law (SentenceOf s) (broken s) (law s) t

sentence : (s : Sentence) (m : Moment) (t : Trace) → Holds m t → SentenceOf s m t
sentence (spacing n) m t h = h.spacing
sentence (waiting n) m t h = h.waiting
sentence move m t h = h.move
sentence position m t h = h.position
sentence content m t h = h.content
sentence others m t h = h.others
sentence due m t h = h.due
sentence refusal m t h = h.refusal
sentence formed m t h = h.formed

pub latest : (s : Sentence) (t : Trace) → Claim t → Latest s t
latest s [] c = tt
latest s (m ∷ t) c = sentence s m t c.0
