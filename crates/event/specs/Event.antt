-- Document 01, 'Eleven kinds of event' and 'When an event is turned down' (2 to 8): the event record's six bytes.
use Rattle.std.specs.Prelude.{Bool, true, false, not, ◌&&◌, ◌||◌, List, [], ◌∷◌, ◌++◌, ℕ, ◌+◌, ◌*◌, leb, ltb, eqb, get_or, length, drop, Result, Ok, Err}
use Rattle.numbers.specs.Numbers.{pick}
use Rattle.table.specs.Table.{known}
use Rattle.event.specs.declared.Event.{Event}
use Rattle.answer.specs.declared.refusal.Refusal.{Refusal}
use Rattle.answer.specs.Refusal.{number}
use Rattle.event.specs.Kinds as Kind

-- kind, then the data bytes a, b, c
abbrev pub event : ℕ → ℕ → ℕ → ℕ → Event
event k a b c = record { kind = k; a = a; b = b; c = c }

-- "A record has six bytes: the mark 5A C3 .., the kind, then data bytes a, b, c."
abbrev pub bytes_of : Event → List ℕ
bytes_of e = 0x5a ∷ 0xc3 ∷ e.kind ∷ e.a ∷ e.b ∷ e.c ∷ []

-- kind and data bytes of a record
abbrev pub event_in : List ℕ → Event
event_in s = event (get_or s 2 0) (get_or s 3 0) (get_or s 4 0) (get_or s 5 0)

-- 3: "The first two are not 5A C3."
abbrev pub bad_mark : List ℕ → Bool
bad_mark s = not (eqb (get_or s 0 0) 0x5a) || not (eqb (get_or s 1 0) 0xc3)

-- 4: "The kind is not 1 to 11."
abbrev pub bad_kind : ℕ → Bool
bad_kind k = ltb k Kind.tick || ltb Kind.read_parameter k

-- what document 01 says of one kind: whether it uses a, b and c, and which values of a it admits
pub record Form : Type 0 where
  pub kind : ℕ
  pub a : Bool
  pub b : Bool
  pub c : Bool
  pub admits : ℕ → Bool

abbrev pub form : ℕ → Bool → Bool → Bool → (ℕ → Bool) → Form
form k a b c p = record { kind = k; a = a; b = b; c = c; admits = p }

abbrev pub used : Bool
used = true

abbrev pub unused : Bool
unused = false

-- the values of a that a kind names: any byte, those up to `n`, those from `l` to `n`
abbrev pub anything : ℕ → Bool
anything a = true

abbrev pub up_to : ℕ → ℕ → Bool
up_to n a = leb a n

abbrev pub from_to : ℕ → ℕ → ℕ → Bool
from_to l n a = leb l a && leb a n

-- the eleven kinds, in document 01's order
abbrev pub forms : List Form
forms =
    -- "1 tick: one second passes."
    form Kind.tick unused unused unused anything
    -- "2 setpoint, a = 0 to 255."
    ∷ form Kind.setpoint used unused unused anything
    -- "3 LTE setpoint: a = property 51 to 54, b = percent, c = command"
    ∷ form Kind.lte_setpoint used used used (from_to 51 54)
    -- "4 forcing, a as KNX DPT 2.001: 0 and 1 none, 2 forced to 0, 3 forced to 255."
    ∷ form Kind.forcing used unused unused (up_to 3)
    -- "5 hand: a = 1 on, with value b; a = 0 off, b not looked at."
    ∷ form Kind.hand used used unused (up_to 1)
    -- "6 calibration: a = 0 or 1, both start it"
    ∷ form Kind.calibration used unused unused (up_to 1)
    -- "7 fault: a = 1 present, 0 gone."
    ∷ form Kind.fault used unused unused (up_to 1)
    -- "8 parameter write: a = a number of the table, value 256 × b + c."
    ∷ form Kind.write used used used known
    -- "9 restart after power loss."
    ∷ form Kind.restart unused unused unused anything
    -- "10 read position."
    ∷ form Kind.read_position unused unused unused anything
    -- "11 read parameter a, again a number of the table."
    ∷ form Kind.read_parameter used unused unused known
    ∷ []

-- the form of a kind; of a number that is none, one that refuses nothing, since 4 comes first
abbrev pub form_from : List Form → ℕ → Form
form_from [] k = form k used used used anything
form_from (f ∷ fs) k = pick (eqb f.kind k) f (form_from fs k)

unfoldable pub form_of : ℕ → Form
form_of k = form_from forms k

-- 5: "An unused byte is not 0."
abbrev pub unused_set : Event → Bool
unused_set e =
    ((not (form_of e.kind).a && not (eqb e.a 0)) || (not (form_of e.kind).b && not (eqb e.b 0)))
    || (not (form_of e.kind).c && not (eqb e.c 0))

-- 6: "In kind 3, 4, 5, 6, 7, 8 or 11, a is outside the values named above."
abbrev pub bad_a : ℕ → ℕ → Bool
bad_a k a = not ((form_of k).admits a)

-- 7: "In kind 3, c exceeds 2."
abbrev pub bad_command : ℕ → ℕ → Bool
bad_command k c = eqb k Kind.lte_setpoint && ltb Kind.release c

-- 8: "In kind 3 with c 0 or 1, b exceeds 100."
abbrev pub bad_percent : ℕ → ℕ → ℕ → Bool
bad_percent k b c = (eqb k Kind.lte_setpoint && leb c Kind.override) && ltb 100 b

-- the first of 4 to 8 that fits kind and data bytes, 0 if none does
unfoldable pub data_refusal : Event → ℕ
data_refusal e =
    pick (bad_kind e.kind) 4
    (pick (unused_set e) 5
    (pick (bad_a e.kind e.a) 6
    (pick (bad_command e.kind e.c) 7
    (pick (bad_percent e.kind e.b e.c) 8 0))))

-- the first of 2 to 8 that fits the bytes handed in, 0 if none does; 2: "The bytes handed in are not exactly six"
unfoldable pub record_refusal : List ℕ → ℕ
record_refusal s = pick (not (eqb (length s) 6)) 2 (pick (bad_mark s) 3 (data_refusal (event_in s)))

-- what the reader finds: an event, or the number of the refusal
pub data Decoded : Type 0 where
  Accepted : Event → Decoded
  Refused : ℕ → Decoded

abbrev pub decoded : Result Event Refusal → Decoded
decoded (Ok e) = Accepted e
decoded (Err r) = Refused (number r)

-- "The reader takes bytes, checks 2 to 8 and gives kind, a, b, c."
unfoldable pub read_of : List ℕ → Decoded
read_of s = pick (eqb (record_refusal s) 0) (Accepted (event_in s)) (Refused (record_refusal s))

-- the kind of a record that the reader accepts, 0 of any other bytes
abbrev pub kind_in : List ℕ → ℕ
kind_in s = pick (eqb (record_refusal s) 0) (event_in s).kind 0

-- "The writer takes those four, a byte each, checks 2 and 4 to 8 .. and answers 0"; 2 "for the writer: the lent buffer has fewer than six"
unfoldable pub write_refusal : List ℕ → Event → ℕ
write_refusal s e = pick (ltb (length s) 6) 2 (data_refusal e)

-- "fills the first six bytes with 5A C3 and the four in order, no others .. refused, it writes none"
unfoldable pub written_to : List ℕ → Event → List ℕ
written_to s e = pick (eqb (write_refusal s e) 0) (bytes_of e ++ drop 6 s) s

-- kind 8: "value 256 × b + c"
abbrev pub value_of : Event → ℕ
value_of e = 256 * e.b + e.c
