-- Document 02, W-201, W-203, W-204, W-205, W-210, W-207 in a hall and the bill of W-208, sentence by sentence, in a second form. `P1` is
-- document 01 in its second form, `S` demand 3 (crates/sentences_claim). From the product come its calls and a few words that have theorems
-- of their own: on this page `hall_after` (calls-after) and `hall_ticked` (sent, held, not-due, sent-answer, silent-answer, unformed-answer),
-- on that of the crate sentences `fresh_drive`, `step_of`, `advance`, `status_of`, `to_percent` and `text`.
use Rattle.std.specs.Prelude.{◌≡◌, ◌↔◌, Bool, true, false, not, ◌&&◌, ◌||◌, List, [], ◌∷◌, ◌++◌, ℕ, zero, suc, ◌+◌, ◌-◌, ◌*◌, ◌/◌, ◌%◌, ◌^◌, ◌≤◌, ◌<◌, length, get_or}
use Rattle.motion.specs.Motion.{to_percent}
use Rattle.damper.specs.declared.Drive.{Drive}
use Rattle.damper.specs.declared.Outcome.{Outcome}
use Rattle.damper.specs.Record.{fresh_drive}
use Rattle.damper.specs.Tick.{advance, status_of}
use Rattle.damper.specs.Step.{step_of}
use Rattle.history.specs.Claim.{Moment, Trace}
use Rattle.line.specs.Text.{text}
use Rattle.hall.specs.Hall.{Call, give, tick}
use Rattle.hall.specs.Quota.{hall_ticked}
use Rattle.hall.specs.Turns.{Given, bytes, hall_tick, hall_after}
use Rattle.sentences.specs.Words.{◌is◌, ◌is_not◌, ◌exceeds◌, between, some_of, Condition, choose, first_that_fits}
use Rattle.sentences.specs.Paper as P1
use Rattle.sentences_claim.specs.Paper as S

-- ── W-201: a hall of drives; W-205: twice on one list ──

-- "Drives are numbered from 0"
abbrev pub drive : List Drive → ℕ → Drive
drive row i = get_or row i fresh_drive

-- a list names the drive with this number: it stands at a place of it
pub record Listed (i : ℕ) (list : List ℕ) : Type 0 where
  pub place : ℕ
  pub within : place < length list
  pub stands : get_or list place 0 ≡ i

-- "a list names a drive twice": a number stands at two places of it
pub record NamedTwice (list : List ℕ) : Type 0 where
  pub number : ℕ
  pub before : List ℕ
  pub amid : List ℕ
  pub after : List ℕ
  pub parts : list ≡ before ++ number ∷ amid ++ number ∷ after

-- how often it stands there
abbrev pub how_often : ℕ → List ℕ → ℕ
how_often x [] = 0
how_often x (y ∷ list) = choose (y is x) 1 0 + how_often x list

-- "a tick that the reader accepts": none of 2 to 8 fits, and the kind is 1
abbrev pub accepted_tick : List ℕ → Bool
accepted_tick s = first_that_fits (P1.of_the_reader s) is 0 && get_or s 2 0 is 1

-- "14 when the row holds no drive or over 64."
abbrev pub of_the_row : ℕ → Condition
of_the_row n = (14, n is 0 || n exceeds 64)

-- the refusals of an event call on `n` drives by W-201, with `room` places in the row that is lent for its answers
abbrev pub up_to16 : ℕ → List ℕ → List ℕ → ℕ → List Condition
up_to16 n list s room =
    of_the_row n
    -- "15 when a listed drive number is not below the row's length."
    ∷ (15, some_of list (λ i. not (n exceeds i)))
    -- "16 when the bytes are a tick that the reader accepts, the list has over 64 entries, or the answer row is shorter than the list"
    ∷ (16, accepted_tick s || (length list exceeds 64 || length list exceeds room))
    ∷ []

-- the refusals of a call, "in this order"
abbrev pub of_the_call : ℕ → Call → List Condition
-- "19 when a list names a drive twice, checked after 16"
of_the_call n (give list s room) = up_to16 n list s room ++ ((19, some_of list (λ x. how_often x list exceeds 1)) ∷ [])
of_the_call n (tick quota room) =
    of_the_row n
    -- "(for the hall tick, than the row of drives)"
    ∷ (16, n exceeds room)
    -- "18 when the quota is outside 1 to 64, after 16"
    ∷ (18, not (between 1 64 quota))
    ∷ []

-- the number that a call answers with; "a call that isn't refused itself answers 0"
abbrev pub answer_to : ℕ → Call → ℕ
answer_to n c = first_that_fits (of_the_call n c)

-- ── W-204: quiet line; W-210: use the whole quota ──

-- "A well-formed drive is due when the fourth step of a tick would report.", by the record that steps 1 to 3 leave
pub record Due (d : Drive) : Type 0 where
  pub formed : P1.WellFormed d
  pub reports : P1.DueIn (advance d).drive

-- of the due drives "the one that waited longest .., lower number first among equals"
pub record Longest (row : List Drive) (i : ℕ) : Type 0 where
  pub there : i < length row
  pub due : Due (drive row i)
  pub longest : (j : ℕ) → j < length row → Due (drive row j) → (drive row j).wait ≤ (drive row i).wait
  pub lower : (j : ℕ) → j < length row → Due (drive row j) → (drive row j).wait ≡ (drive row i).wait → i ≤ j

-- how many of the drives 0 to n - 1 pass a test
abbrev pub how_many : ℕ → (ℕ → Bool) → ℕ
how_many zero p = 0
how_many (suc n) p = choose (p 0) 1 0 + how_many n (λ i. p (suc i))

-- "A hall tick must send exactly the smaller of the quota and the number due, longest wait first, lower number among equals.": of the row
-- before the tick, it sends those that `goes` tells
pub record Sends (quota : ℕ) (row : List Drive) (goes : ℕ → Bool) : Type 0 where
  pub due : (i : ℕ) → i < length row → goes i ≡ true → Due (drive row i)
  -- "exactly the smaller of the quota and the number due", where `is_due` tells who is due
  pub many : (is_due : ℕ → Bool) → ((i : ℕ) → i < length row → (is_due i ≡ true) ↔ Due (drive row i))
      → (let many = how_many (length row) is_due in how_many (length row) goes ≡ choose (many exceeds quota) quota many)
  -- "longest wait first, lower number among equals": who goes, `i`, against who is due and does not, `j`
  pub longest : (i j : ℕ) → i < length row → j < length row → goes i ≡ true → Due (drive row j) → goes j ≡ false
      → (drive row j).wait ≤ (drive row i).wait
  pub lower : (i j : ℕ) → i < length row → j < length row → goes i ≡ true → Due (drive row j) → goes j ≡ false
      → (drive row j).wait ≡ (drive row i).wait → i < j

-- ── W-201: "its own share of the hall's calls"; W-204: what is promised of it ──

-- `So` holds at each hall tick of a list of calls on `row` that is carried out, of its quota and the row that it finds: `before` are the
-- calls before it
abbrev pub AtEachTick : (ℕ → List Drive → Type 0) → List Drive → List Call → Type 0
AtEachTick So row cs = (before : List Call) (quota room : ℕ) (after : List Call)
    → cs ≡ before ++ (tick quota room ∷ after) → answer_to (length row) (tick quota room) ≡ 0
    → So quota (hall_after row before)

-- "A drive due at each of" them; W-210: "a drive that stays due"
abbrev pub DueAtEach : List Drive → ℕ → List Call → Type 0
DueAtEach row i cs = AtEachTick (λ quota now. Due (drive now i)) row cs

-- W-210: "With one quota throughout"
abbrev pub OneQuota : ℕ → List Drive → List Call → Type 0
OneQuota q row cs = AtEachTick (λ quota now. quota ≡ q) row cs

-- how many hall ticks of a list of calls on `n` drives are carried out, and their quotas together
abbrev pub hall_ticks : ℕ → List Call → ℕ
hall_ticks n [] = 0
hall_ticks n (give list s room ∷ cs) = hall_ticks n cs
hall_ticks n (tick quota room ∷ cs) = choose (answer_to n (tick quota room) is 0) 1 0 + hall_ticks n cs

abbrev pub quotas : ℕ → List Call → ℕ
quotas n [] = 0
quotas n (give list s room ∷ cs) = quotas n cs
quotas n (tick quota room ∷ cs) = choose (answer_to n (tick quota room) is 0) quota 0 + quotas n cs

-- W-210: `m` is "the number of drives divided by the quota, rounded up": the least whose product with the quota reaches the number of drives
pub record RoundedUp (n q m : ℕ) : Type 0 where
  pub reaches : n ≤ m * q
  pub least : (k : ℕ) → n ≤ k * q → m ≤ k

-- the drive at `i` is "restarted": one of the calls gives it a restart, and it accepts it
pub record Restarted (row : List Drive) (i : ℕ) (cs : List Call) : Type 0 where
  pub before : List Call
  pub list : List ℕ
  pub given : List ℕ
  pub room : ℕ
  pub after : List Call
  pub parts : cs ≡ before ++ (give list given room ∷ after)
  pub carried : answer_to (length row) (give list given room) ≡ 0
  pub named : Listed i list
  pub restart : S.RestartOf (drive (hall_after row before) i) given

-- it "is sent at one of them"
pub record SentAtOne (row : List Drive) (i : ℕ) (cs : List Call) : Type 0 where
  pub before : List Call
  pub quota : ℕ
  pub room : ℕ
  pub after : List Call
  pub parts : cs ≡ before ++ (tick quota room ∷ after)
  pub carried : answer_to (length row) (tick quota room) ≡ 0
  pub goes : ℕ → Bool
  pub whom : Sends quota (hall_after row before) goes
  pub sent : goes i ≡ true

-- a moment of a trace: what a drive was given, and what it made of it
abbrev pub moment : List ℕ → Outcome → Moment
moment s o = S.moment s o.answer o.drive.position

-- the trace of the drive at `i` over "its own share of the hall's calls", call by call, each on the row that those before it left: the
-- event where it is listed, each hall tick as a tick; "a hall call refused itself belongs to no share"
pub data ShareTrace (row : List Drive) (i : ℕ) : List Call → Trace → Type 0 where
  nothing : ShareTrace row i [] []
  refused : {cs : List Call} {t : Trace} → ShareTrace row i cs t → (c : Call) (k : ℕ) → answer_to (length row) c ≡ suc k
      → ShareTrace row i (cs ++ (c ∷ [])) t
  not_named : {cs : List Call} {t : Trace} → ShareTrace row i cs t → (list s : List ℕ) (room : ℕ)
      → answer_to (length row) (give list s room) ≡ 0 → (Listed i list → ⊥) → ShareTrace row i (cs ++ (give list s room ∷ [])) t
  named : {cs : List Call} {t : Trace} → ShareTrace row i cs t → (list s : List ℕ) (room : ℕ)
      → answer_to (length row) (give list s room) ≡ 0 → Listed i list
      → ShareTrace row i (cs ++ (give list s room ∷ [])) (moment s (step_of (drive (hall_after row cs) i) s) ∷ t)
  ticked : {cs : List Call} {t : Trace} → ShareTrace row i cs t → (quota room : ℕ) → answer_to (length row) (tick quota room) ≡ 0
      → (goes : ℕ → Bool) → Sends quota (hall_after row cs) goes
      → ShareTrace row i (cs ++ (tick quota room ∷ []))
      (moment (0x5a ∷ 0xc3 ∷ 1 ∷ 0 ∷ 0 ∷ 0 ∷ []) (hall_ticked (goes i) (drive (hall_after row cs) i)) ∷ t)

-- "which replaces the waiting limb for halls": of the records of `new`, which came after the trace `old`, each tick breaks that limb and none
-- is a restart; `m` is any of them, and `earlier` what is of `new` before it
abbrev pub BrokenThroughout : Trace → Trace → Type 0
BrokenThroughout old new =
    (later : Trace) (m : Moment) (earlier : Trace) → new ≡ later ++ (m ∷ earlier)
    → (S.TickAt m (earlier ++ old) → S.Waiting m (earlier ++ old) → ⊥) × (S.RestartAt m (earlier ++ old) → ⊥)

-- ── W-203: shift page ──

-- "17 when the lent page is shorter than 29 bytes per drive, checked after 14"
abbrev pub of_the_page : ℕ → ℕ → List Condition
of_the_page drives room = of_the_row drives ∷ (17, 29 * drives exceeds room) ∷ []

-- a column of a number that is printed "to the right": its digit of weight `w`, or a blank where it has none
abbrev pub digit : ℕ → ℕ → ℕ
digit w v = choose (w exceeds v) 32 (48 + v / w % 10)

-- the last column of it
abbrev pub ones : ℕ → ℕ
ones v = 48 + v % 10

-- "ruling commander": the highest rank (document 01: ruling) that is active, of the record as it is
abbrev pub ruling_now : Drive → ℕ
ruling_now d = first_that_fits (P1.commanders d.commands d.run.kind (P1.bus_active d.commands d.age d.params))

-- "(fault, forced, run, hand, tool, bus, backup)", from rank 0 on
abbrev pub names : List (List ℕ)
names = text "backup" ∷ text "bus" ∷ text "tool" ∷ text "hand" ∷ text "run" ∷ text "forced" ∷ text "fault" ∷ []

-- a column of a name that is printed "to the left": its letter, or a blank behind the last
abbrev pub letter : ℕ → ℕ → ℕ
letter rank k = get_or (get_or names rank []) k 32

-- a column of the status: its binary digit at a bit
abbrev pub binary : ℕ → ℕ → ℕ
binary status bit = 48 + status / 2 ^ bit % 2

-- "exactly 28 columns and a line feed: number 2, position 3, percent 3, all to the right; ruling commander 8, to the left ..; status as 8
-- binary digits, highest bit first; one blank between fields": the columns from 0 to 28 of a well-formed drive
abbrev pub line_of : ℕ → Drive → List ℕ
line_of number d =
    let p = d.position in
    let c = to_percent p in
    let r = ruling_now d in
    let s = status_of d in
    digit 10 number ∷ ones number ∷ 32
    ∷ digit 100 p ∷ digit 10 p ∷ ones p ∷ 32
    ∷ digit 100 c ∷ digit 10 c ∷ ones c ∷ 32
    ∷ letter r 0 ∷ letter r 1 ∷ letter r 2 ∷ letter r 3 ∷ letter r 4 ∷ letter r 5 ∷ letter r 6 ∷ letter r 7 ∷ 32
    ∷ binary s 7 ∷ binary s 6 ∷ binary s 5 ∷ binary s 4 ∷ binary s 3 ∷ binary s 2 ∷ binary s 1 ∷ binary s 0 ∷ 10
    ∷ []

-- "A record that isn't well formed shows its number and minus signs filling the other fields."
abbrev pub line_without : ℕ → List ℕ
line_without number = digit 10 number ∷ ones number ∷ text " --- --- -------- --------\n"

-- ── W-207: it gets there ──

-- of what a drive of a hall is given: a tick, which "stays unticked" where the record is not well formed, and a write of Rate
abbrev pub TickGiven : Drive → Given → Type 0
TickGiven d (bytes s) = S.TickOf d s
TickGiven d (hall_tick sent) = P1.WellFormed d

abbrev pub RateGiven : Drive → Given → Type 0
RateGiven d (bytes s) = S.RateWrite d s
RateGiven d (hall_tick sent) = ⊥

-- ── W-208: sharing the actuator bill ──

-- the counts of the drives, and the sum of a list
abbrev pub counts : List Drive → List ℕ
counts [] = []
counts (d ∷ row) = d.travel ∷ counts row

abbrev pub sum : List ℕ → ℕ
sum [] = 0
sum (x ∷ xs) = x + sum xs

-- the refusals of a bill, with `places` in the row that is lent for the shares
abbrev pub of_the_bill : List Drive → ℕ → ℕ → List Condition
of_the_bill row bill places =
    of_the_row (length row)
    -- "20 when the bill exceeds 1,000,000,000 cents or the share row's length isn't the number of drives, after 14."
    ∷ (20, bill exceeds 1000000000 || places is_not length row)
    -- "21 when no drive has moved"
    ∷ (21, not (some_of row (λ d. d.travel exceeds 0)))
    ∷ []

-- what the rounded-down share of the drive `i` leaves of its share by travel: both times the sum of the counts, so that they are whole
abbrev pub remainder : ℕ → List ℕ → List ℕ → ℕ → ℕ
remainder bill counts parts i = bill * get_or counts i 0 - get_or parts i 0 * sum counts

-- "A call shares a bill in whole cents over the hall": a share for each drive
pub record Shared (bill : ℕ) (counts shares : List ℕ) : Type 0 where
  -- the rounded-down shares, and who gets one cent more
  pub parts : List ℕ
  pub gets : ℕ → Bool
  pub for_each : (length parts ≡ length counts) × (length shares ≡ length counts)
  pub one_each : (i : ℕ) → i < length counts → get_or shares i 0 ≡ get_or parts i 0 + choose (gets i) 1 0
  -- "each gets the rounded-down share by travel": no more than bill × count / sum, and one cent more would be
  pub no_more : (i : ℕ) → i < length counts → get_or parts i 0 * sum counts ≤ bill * get_or counts i 0
  pub no_less : (i : ℕ) → i < length counts → bill * get_or counts i 0 < (get_or parts i 0 + 1) * sum counts
  -- "and left-over cents go one each"
  pub left_over_lem : sum parts + how_many (length counts) gets ≡ bill
  -- "to the largest remainders, lower number first": who gets one, `i`, against who gets none, `j`
  pub largest : (i j : ℕ) → i < length counts → j < length counts → gets i ≡ true → gets j ≡ false
      → remainder bill counts parts j ≤ remainder bill counts parts i
  pub lower : (i j : ℕ) → i < length counts → j < length counts → gets i ≡ true → gets j ≡ false
      → remainder bill counts parts j ≡ remainder bill counts parts i → i < j
