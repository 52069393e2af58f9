-- Document 01, 'Who commands': the sources of a target, their ranks, the active byte, the ruling rank and the targets.
use Rattle.std.specs.Prelude.{Bool, true, not, ◌&&◌, ◌||◌, List, [], ◌∷◌, map, ℕ, ◌+◌, ◌-◌, ◌*◌, leb, eqb, get_or}
use Rattle.std.specs.Int.Count.{count_leading_zeros}
use Rattle.numbers.specs.Numbers.{pick, on, bit}
use Rattle.table.specs.Table.{backup_mode, backup_value, low, high}
use Rattle.motion.specs.Motion.{to_position, within}
use Rattle.rules.specs.declared.Commands.{Commands}

-- who can command the damper (document 01: commander), by the names that 01 gives them
pub data Source : Type 0 where
  backup : Source
  bus : Source
  tool : Source
  hand : Source
  run : Source
  forcing : Source
  fault : Source

-- "Ranks: 6 fault, 5 forcing, 4 run, 3 hand, 2 tool, 1 bus, 0 backup." The one order, from rank 0 on (document 01: rank).
abbrev pub ranking : List Source
ranking = backup ∷ bus ∷ tool ∷ hand ∷ run ∷ forcing ∷ fault ∷ []

-- the source at a rank
abbrev pub source_at : ℕ → Source
source_at rank = get_or ranking rank backup

-- a run (document 01: run) as a number: 0 none, 1 calibration, 2 sync close, 3 sync open
abbrev pub running : ℕ → Bool
running r = not (eqb r 0)

abbrev pub calibrating : ℕ → Bool
calibrating r = eqb r 1

abbrev pub syncing : ℕ → Bool
syncing r = eqb r 2 || eqb r 3

-- the run that StartSynchronization 1 or 2 starts at a restart: sync close toward 0, sync open toward 255
abbrev pub start_run : ℕ → ℕ
start_run s = pick (eqb s 1) 2 (pick (eqb s 2) 3 0)

-- "forcing at 2 or 3" (document 01: forcing)
abbrev pub forced : ℕ → Bool
forced g = eqb g 2 || eqb g 3

-- "Bus is active when a setpoint exists and its age is at most Timeout"
abbrev pub bus_active : Commands → ℕ → ℕ → Bool
bus_active c age timeout = on c.stored && leb age timeout

-- what forbids a run: a fault flag that is set, or forcing of 2 or 3
abbrev pub forbids : ℕ → ℕ → Bool
forbids f g = on f || forced g

abbrev pub forbids_run : Commands → Bool
forbids_run c = forbids c.fault c.forcing

-- whether a source is active, by the commands, the run and whether the bus is; "Backup is always active"
abbrev pub active_of : Commands → ℕ → Bool → Source → Bool
active_of c r b backup = true
active_of c r b bus = b
active_of c r b tool = on c.tool
active_of c r b hand = on c.hand
active_of c r b run = running r
active_of c r b forcing = forced c.forcing
active_of c r b fault = on c.fault

-- flags as a number, the first at weight `w`, each next one at twice the weight
abbrev pub number_from : ℕ → List Bool → ℕ
number_from w [] = 0
number_from w (x ∷ xs) = bit x w + number_from (2 * w) xs

-- "The active ones form one byte, rank r at bit r"
unfoldable pub active_byte : Commands → ℕ → Bool → ℕ
active_byte c r b = number_from 1 (map (active_of c r b) ranking)

-- "the ruling rank is its highest set bit" (document 01: ruling), written as 7 less the leading zeros of the byte; that it is the
-- highest set bit is the law `rank_highest`
unfoldable pub ruling_rank : ℕ → ℕ
ruling_rank active = 7 - count_leading_zeros 8 active

-- "forcing and run, 0 or 255": forced to 0 at 2, to 255 at 3; calibration and sync close toward 0, sync open toward 255
abbrev pub forced_target : ℕ → ℕ
forced_target g = pick (eqb g 2) 0 255

abbrev pub run_target : ℕ → ℕ
run_target r = pick (eqb r 3) 255 0

-- a value "brought into Low to High" of the parameters
abbrev pub limited : List ℕ → ℕ → ℕ
limited q v = within (low q) (high q) v

-- "backup with BackupMode 0, BackupValue as a position, likewise; with BackupMode 1, the last bus setpoint, likewise, or the
-- present position if there is none"
unfoldable pub backup_target : Commands → ℕ → List ℕ → ℕ
backup_target c p q =
    pick (eqb (backup_mode q) 0) (limited q (to_position (backup_value q)))
    (pick (on c.stored) (limited q c.setpoint) p)

-- the target of a source, by the commands, the run, the present position `p` and the parameters `q`: "fault, the present position;
-- .. hand, tool and bus, their value brought into Low to High"
abbrev pub target_of : Commands → ℕ → ℕ → List ℕ → Source → ℕ
target_of c r p q backup = backup_target c p q
target_of c r p q bus = limited q c.setpoint
target_of c r p q tool = limited q c.toolpos
target_of c r p q hand = limited q c.handpos
target_of c r p q run = run_target r
target_of c r p q forcing = forced_target c.forcing
target_of c r p q fault = p

-- the target at each rank
unfoldable pub targets : Commands → ℕ → ℕ → List ℕ → List ℕ
targets c r p q = map (target_of c r p q) ranking
