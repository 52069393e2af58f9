-- Wrong refusals of the three hall calls, each with a call that it refuses otherwise than document 02.
use Rattle.std.specs.Prelude.{◌≡◌, refl, Bool, false, ◌||◌, List, [], ◌∷◌, ◌++◌, ℕ, ◌-◌, ◌*◌, ◌%◌, ltb, leb, eqb, length, get_or, take, replicate}
use Rattle.numbers.specs.Numbers.{pick}
use Rattle.numbers.specs.Every.{Every}
use Rattle.numbers.specs.Places.{places_from}
use Rattle.event.specs.Event.{event, bytes_of}
use Rattle.event.specs.Kinds as Kind
use Rattle.hall.specs.Hall.{give, tick, bad_row, bad_number, is_tick, bad_event, named_in, names_twice, bad_quota, call_refusal}
use Rattle.hall.specs.Turns.{tick_bytes}
use Rattle.shift.specs.Shift.{page_refusal}
use Rattle.refuted_hall.specs.Closed.{computation, Case, Refuted, all_refuted}

-- What the event call, the hall tick and the page call are asked: `room` is the length of the row lent for the answers.
pub record EventCall : Type 0 where
  pub drives : ℕ
  pub list : List ℕ
  pub bytes : List ℕ
  pub room : ℕ

pub record TickCall : Type 0 where
  pub drives : ℕ
  pub quota : ℕ
  pub room : ℕ

pub record PageCall : Type 0 where
  pub drives : ℕ
  pub bytes : ℕ

-- a number, and whether it fits what is asked
pub record Reason (A : Type 0) : Type 0 where
  pub number : ℕ
  pub fits : A → Bool

abbrev reason : {A : Type 0} → ℕ → (A → Bool) → Reason A
reason n f = record { number = n; fits = f }

-- the first that fits, 0 if none does
abbrev pub first_of : {A : Type 0} → List (Reason A) → A → ℕ
first_of [] c = 0
first_of (r ∷ rs) c = pick (r.fits c) r.number (first_of rs c)

-- The reasons of document 02.

abbrev row14 : Reason EventCall
row14 = reason 14 (λ c. bad_row c.drives)

abbrev number15 : Reason EventCall
number15 = reason 15 (λ c. bad_number c.drives c.list)

abbrev given16 : Reason EventCall
given16 = reason 16 (λ c. bad_event c.list c.bytes c.room)

abbrev twice19 : Reason EventCall
twice19 = reason 19 (λ c. names_twice c.list)

abbrev tick_row14 : Reason TickCall
tick_row14 = reason 14 (λ c. bad_row c.drives)

abbrev room16 : Reason TickCall
room16 = reason 16 (λ c. ltb c.room c.drives)

abbrev quota18 : Reason TickCall
quota18 = reason 18 (λ c. bad_quota c.quota)

abbrev page_row14 : Reason PageCall
page_row14 = reason 14 (λ c. bad_row c.drives)

abbrev page17 : Reason PageCall
page17 = reason 17 (λ c. ltb c.bytes (29 * c.drives))

-- In their order they are the product's refusals, of every call.
pub own : ((c : EventCall)
    → call_refusal c.drives (give c.list c.bytes c.room) ≡ first_of (row14 ∷ number15 ∷ given16 ∷ twice19 ∷ []) c)
    × ((c : TickCall) → call_refusal c.drives (tick c.quota c.room) ≡ first_of (tick_row14 ∷ room16 ∷ quota18 ∷ []) c)
    × ((c : PageCall) → page_refusal c.drives c.bytes ≡ first_of (page_row14 ∷ page17 ∷ []) c)
unfolding call_refusal page_refusal
own = (λ c. refl, λ c. refl, λ c. refl)

-- Wrong reasons.

-- a row of 64 drives is too long
abbrev row64 : Reason EventCall
row64 = reason 14 (λ c. ltb c.drives 1 || leb 64 c.drives)

abbrev tick_row64 : Reason TickCall
tick_row64 = reason 14 (λ c. ltb c.drives 1 || leb 64 c.drives)

-- whether some number of a list passes
abbrev some : (ℕ → Bool) → List ℕ → Bool
some test [] = false
some test (i ∷ list) = test i || some test list

-- the row's length is a drive's number
abbrev number_up_to_the_length : Reason EventCall
number_up_to_the_length = reason 15 (λ c. some (ltb c.drives) c.list)

-- a number is judged by its lowest byte
abbrev number_of_a_byte : Reason EventCall
number_of_a_byte = reason 15 (λ c. some (λ i. leb c.drives (i % 256)) c.list)

-- only the first 64 entries are looked at
abbrev numbers_to_the64th : Reason EventCall
numbers_to_the64th = reason 15 (λ c. bad_number c.drives (take 64 c.list))

-- a tick is told by its kind byte, accepted or not
abbrev tick_by_its_kind : Reason EventCall
tick_by_its_kind =
    reason 16 (λ c. (eqb (get_or c.bytes 2 0) Kind.tick || ltb 64 (length c.list)) || ltb c.room (length c.list))

-- a list of 64 entries is too long
abbrev entries64 : Reason EventCall
entries64 = reason 16 (λ c. (is_tick c.bytes || leb 64 (length c.list)) || ltb c.room (length c.list))

-- an answer row as long as the list is too short, and a row of numbers as long as that of the drives
abbrev room_to_spare : Reason EventCall
room_to_spare = reason 16 (λ c. (is_tick c.bytes || ltb 64 (length c.list)) || leb c.room (length c.list))

abbrev tick_room_to_spare : Reason TickCall
tick_room_to_spare = reason 16 (λ c. leb c.room c.drives)

-- a repeat is refused by 16
abbrev twice16 : Reason EventCall
twice16 = reason 16 (λ c. names_twice c.list)

-- only neighbours are compared
abbrev neighbours : List ℕ → Bool
neighbours [] = false
neighbours (i ∷ []) = false
neighbours (i ∷ (j ∷ list)) = eqb i j || neighbours (j ∷ list)

-- only the first entry is looked for again
abbrev first_again : List ℕ → Bool
first_again [] = false
first_again (i ∷ list) = named_in i list

-- the last entry is not looked at
abbrev before_the_last : List ℕ → Bool
before_the_last list = names_twice (take (length list - 1) list)

-- a smaller number behind a larger one passes for a repeat, as in a search of a sorted list
abbrev unsorted : List ℕ → Bool
unsorted [] = false
unsorted (i ∷ list) = some (λ j. leb j i) list || unsorted list

abbrev twice_by : (List ℕ → Bool) → Reason EventCall
twice_by test = reason 19 (λ c. test c.list)

-- a quota of 64 is too large; a quota is judged by its lowest byte
abbrev quota64 : Reason TickCall
quota64 = reason 18 (λ c. ltb c.quota 1 || leb 64 c.quota)

abbrev quota_of_a_byte : Reason TickCall
quota_of_a_byte = reason 18 (λ c. bad_quota (c.quota % 256))

-- a page of exactly 29 bytes per drive is too short; the line feeds need no room; the row's length is asked in place of the page's
abbrev page_to_spare : Reason PageCall
page_to_spare = reason 17 (λ c. leb c.bytes (29 * c.drives))

abbrev page28 : Reason PageCall
page28 = reason 17 (λ c. ltb c.bytes (28 * c.drives))

abbrev page_by_the_row : Reason PageCall
page_by_the_row = reason 17 (λ c. ltb c.drives (29 * c.drives))

-- The calls: the wrong reasons in their order, what is asked, and the number by document 02.

abbrev event_by : List (Reason EventCall) → ℕ → List ℕ → List ℕ → ℕ → ℕ → Case
event_by rs n list s room number = record {
  given = call_refusal n (give list s room) ∷ [];
  wrong = first_of rs record { drives = n; list = list; bytes = s; room = room } ∷ [];
  paper = number ∷ [];
}

abbrev tick_by : List (Reason TickCall) → ℕ → ℕ → ℕ → ℕ → Case
tick_by rs n quota room number = record {
  given = call_refusal n (tick quota room) ∷ [];
  wrong = first_of rs record { drives = n; quota = quota; room = room } ∷ [];
  paper = number ∷ [];
}

abbrev page_by : List (Reason PageCall) → ℕ → ℕ → ℕ → Case
page_by rs n bytes number = record {
  given = page_refusal n bytes ∷ [];
  wrong = first_of rs record { drives = n; bytes = bytes } ∷ [];
  paper = number ∷ [];
}

abbrev setpoint : List ℕ
setpoint = bytes_of (event Kind.setpoint 128 0 0)

-- a tick with an unused byte that is not 0, which each well-formed drive refuses by 5
abbrev damaged : List ℕ
damaged = bytes_of (event Kind.tick 0 0 1)

abbrev pub table : List Case
table =
    -- "14 when the row holds no drive or over 64": 64 drives
    event_by (row64 ∷ number15 ∷ given16 ∷ twice19 ∷ []) 64 (63 ∷ []) setpoint 1 0
    ∷ tick_by (tick_row64 ∷ room16 ∷ quota18 ∷ []) 64 8 64 0
    -- "15 when a listed drive number is not below the row's length": 8 of 8 drives; 263, whose lowest byte is 7; a 65th entry
    ∷ event_by (row14 ∷ number_up_to_the_length ∷ given16 ∷ twice19 ∷ []) 8 (8 ∷ []) setpoint 1 15
    ∷ event_by (row14 ∷ number_of_a_byte ∷ given16 ∷ twice19 ∷ []) 8 (263 ∷ []) setpoint 1 15
    ∷ event_by (row14 ∷ numbers_to_the64th ∷ given16 ∷ twice19 ∷ []) 1 (replicate 64 0 ++ (1 ∷ [])) setpoint 65 15
    -- "16 when the bytes are a tick that the reader accepts, the list has over 64 entries, or the answer row is shorter than the list (for
    -- the hall tick, than the row of drives)": a damaged tick; 64 entries; rows that are just long enough
    ∷ event_by (row14 ∷ number15 ∷ tick_by_its_kind ∷ twice19 ∷ []) 1 (0 ∷ []) damaged 1 0
    ∷ event_by (row14 ∷ number15 ∷ entries64 ∷ twice19 ∷ []) 64 (places_from 0 64) setpoint 64 0
    ∷ event_by (row14 ∷ number15 ∷ room_to_spare ∷ twice19 ∷ []) 2 (1 ∷ 0 ∷ []) setpoint 2 0
    ∷ tick_by (tick_row14 ∷ tick_room_to_spare ∷ quota18 ∷ []) 2 8 2 0
    -- and a row of numbers that is a place short, not asked for
    ∷ tick_by (tick_row14 ∷ quota18 ∷ []) 2 8 1 16
    -- "19 when a list names a drive twice": by the first and the last entry, behind the first one, not at all
    ∷ event_by (row14 ∷ number15 ∷ given16 ∷ []) 8 (7 ∷ 3 ∷ 5 ∷ 7 ∷ []) setpoint 4 19
    ∷ event_by (row14 ∷ number15 ∷ given16 ∷ twice16 ∷ []) 8 (7 ∷ 3 ∷ 5 ∷ 7 ∷ []) setpoint 4 19
    ∷ event_by (row14 ∷ number15 ∷ given16 ∷ twice_by neighbours ∷ []) 8 (7 ∷ 3 ∷ 5 ∷ 7 ∷ []) setpoint 4 19
    ∷ event_by (row14 ∷ number15 ∷ given16 ∷ twice_by before_the_last ∷ []) 8 (7 ∷ 3 ∷ 5 ∷ 7 ∷ []) setpoint 4 19
    ∷ event_by (row14 ∷ number15 ∷ given16 ∷ twice_by first_again ∷ []) 8 (3 ∷ 7 ∷ 5 ∷ 7 ∷ []) setpoint 4 19
    ∷ event_by (row14 ∷ number15 ∷ given16 ∷ twice_by unsorted ∷ []) 8 (7 ∷ 3 ∷ 5 ∷ []) setpoint 3 0
    -- "18 when the quota is outside 1 to 64": 64, and 257, whose lowest byte is 1
    ∷ tick_by (tick_row14 ∷ room16 ∷ quota64 ∷ []) 2 64 2 0
    ∷ tick_by (tick_row14 ∷ room16 ∷ quota_of_a_byte ∷ []) 2 257 2 18
    -- "17 when the lent page is shorter than 29 bytes per drive": just enough for two, one byte short for each of two, enough for one
    ∷ page_by (page_row14 ∷ page_to_spare ∷ []) 2 58 0
    ∷ page_by (page_row14 ∷ page28 ∷ []) 2 56 17
    ∷ page_by (page_row14 ∷ page_by_the_row ∷ []) 1 29 0
    -- "in this order", "after 16", "checked after 16", "checked after 14": two reasons that fit, asked in another order
    ∷ event_by (number15 ∷ row14 ∷ given16 ∷ twice19 ∷ []) 0 (0 ∷ []) setpoint 1 14
    ∷ event_by (row14 ∷ given16 ∷ number15 ∷ twice19 ∷ []) 1 (1 ∷ []) tick_bytes 1 15
    ∷ event_by (row14 ∷ number15 ∷ twice19 ∷ given16 ∷ []) 1 (0 ∷ 0 ∷ []) tick_bytes 2 16
    ∷ tick_by (tick_row14 ∷ quota18 ∷ room16 ∷ []) 2 0 1 16
    ∷ page_by (page17 ∷ page_row14 ∷ []) 65 0 14
    ∷ []

pub refuted : Every Refuted table
unfolding computation
refuted = all_refuted table refl
