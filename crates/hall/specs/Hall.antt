-- Document 02, W-201: 1 to 64 drive records in one row, the calls on them, and when a call is refused itself; W-205: a list that names a
-- drive twice is refused. What a hall tick does to a drive, and whom it sends, is in Quota.antt; what calls give the drives, in Turns.antt.
use Rattle.std.specs.Prelude.{Bool, false, ◌||◌, List, [], ◌∷◌, ℕ, ltb, leb, eqb, length, get_or}
use Rattle.numbers.specs.Numbers.{pick}
use Rattle.event.specs.Kinds as Kind
use Rattle.event.specs.Event.{kind_in}
use Rattle.damper.specs.declared.Drive.{Drive}
use Rattle.damper.specs.Record.{fresh_drive}

-- A hall call, and last the length of the row that is lent for its answers.
pub data Call : Type 0 where
  -- "One call gives the bytes of an event other than a tick to a list of drives": the list, the bytes
  give : List ℕ → List ℕ → ℕ → Call
  -- "One call ticks them all"; W-204: "The hall tick gets a quota"
  tick : ℕ → ℕ → Call

-- 14: "when the row holds no drive or over 64"
abbrev pub bad_row : ℕ → Bool
bad_row n = ltb n 1 || ltb 64 n

-- 15: "when a listed drive number is not below the row's length"
unfoldable pub bad_number : ℕ → List ℕ → Bool
bad_number n [] = false
bad_number n (i ∷ list) = leb n i || bad_number n list

-- 16: "when the bytes are a tick that the reader accepts, the list has over 64 entries, or the answer row is shorter than the list"
abbrev pub is_tick : List ℕ → Bool
is_tick s = eqb (kind_in s) Kind.tick

abbrev pub bad_event : List ℕ → List ℕ → ℕ → Bool
bad_event list s room = (is_tick s || ltb 64 (length list)) || ltb room (length list)

-- whether a list names the drive with this number
unfoldable pub named_in : ℕ → List ℕ → Bool
named_in i [] = false
named_in i (j ∷ list) = eqb j i || named_in i list

-- W-205, 19: "when a list names a drive twice": one number stands at two places of it, an entry and one behind it
unfoldable pub names_twice : List ℕ → Bool
names_twice [] = false
names_twice (i ∷ list) = named_in i list || names_twice list

-- W-204, 18: "when the quota is outside 1 to 64"
abbrev pub bad_quota : ℕ → Bool
bad_quota quota = ltb quota 1 || ltb 64 quota

-- of the hall tick: "(for the hall tick, than the row of drives)"; 18 "after 16"
abbrev pub tick_refusal : ℕ → ℕ → ℕ → ℕ
tick_refusal n quota room = pick (bad_row n) 14 (pick (ltb room n) 16 (pick (bad_quota quota) 18 0))

-- of the event call: "14 to 16 come before 1 to 13, in this order", and where none of them fits, the number `more`
abbrev pub event_refusal : ℕ → List ℕ → List ℕ → ℕ → ℕ → ℕ
event_refusal n list s room more = pick (bad_row n) 14 (pick (bad_number n list) 15 (pick (bad_event list s room) 16 more))

-- by W-201 alone
abbrev pub refusal_to16 : ℕ → List ℕ → List ℕ → ℕ → ℕ
refusal_to16 n list s room = event_refusal n list s room 0

-- the first number that fits a call on `n` drives, 0 if none does; 19 is "checked after 16"
unfoldable pub call_refusal : ℕ → Call → ℕ
call_refusal n (give list s room) = event_refusal n list s room (pick (names_twice list) 19 0)
call_refusal n (tick quota room) = tick_refusal n quota room

-- whether a call on `n` drives is carried out
abbrev pub carried_out : ℕ → Call → Bool
carried_out n c = eqb (call_refusal n c) 0

-- the drive at a place of the row (no call reaches a place beyond the row)
abbrev pub at : List Drive → ℕ → Drive
at row i = get_or row i fresh_drive
