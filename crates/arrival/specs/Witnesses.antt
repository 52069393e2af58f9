-- 'It gets there' is not empty: closed lists that meet its conditions, one at least for each source, with the positions on the way.
use Rattle.std.specs.Prelude.{◌≡◌, refl, true, ℕ, ◌<◌, ltb, leb, length, drop, replicate, set}
use mathlib.Core.List.{List, [], ◌∷◌, map, head-eq_of_cons-eq, tail-eq_of_cons-eq}
use Rattle.std.proofs.Common.{ltb-true, leb-true}
use Rattle.numbers.specs.Every.{Every, none, more}
use Rattle.table.specs.Table.{fresh_values, rate}
use Rattle.event.specs.Event.{event, bytes_of}
use Rattle.event.specs.Kinds as Kind
use Rattle.motion.specs.Motion.{run_ticks}
use Rattle.rules.specs.Commands.{commands, no_commands}
use Rattle.rules.specs.Rank.{Source, backup, bus, tool, hand, run, forcing, fault}
use Rattle.damper.specs.declared.Drive.{Drive}
use Rattle.damper.specs.declared.Outcome.{Outcome}
use Rattle.damper.specs.Closed as Closed
use Rattle.damper.specs.Record.{drive, last, no_run}
use Rattle.damper.specs.WellFormed.{well_formed}
use Rattle.damper.specs.Step.{step_of}
use Rattle.damper.specs.Carry.{outcomes}
use Rattle.arrival.specs.Arrival.{tick_source, tick_target, Ruled, drives_found, after, RuledForK, tick_accepted, rate_written}

-- `unfolding computation` opens the drive and what the sentence speaks of
unfoldable pub computation : Unit {0}
unfolding Closed.computation tick_target drives_found
computation = tt

-- the drives that the accepted ticks of a list find, and those that its accepted writes of Rate find
abbrev pub ticks_found : Drive → List (List ℕ) → List Drive
ticks_found d l = drives_found step_of tick_accepted d l

abbrev pub writes_found : Drive → List (List ℕ) → List Drive
writes_found d l = drives_found step_of rate_written d l

-- a drive at a position, with these parameters, to which nothing has happened
abbrev pub standing : ℕ → List ℕ → Drive
standing p q = drive p q no_commands 0 no_run 0 (last 0 0 0) 0 0

-- the fresh parameters with another Rate: 100 has K 3
abbrev pub rated : ℕ → List ℕ
rated r = set fresh_values 9 r

abbrev pub tick_bytes : List ℕ
tick_bytes = bytes_of (event Kind.tick 0 0 0)

-- a parameter and a value below 256
abbrev pub write : ℕ → ℕ → List ℕ
write number value = bytes_of (event Kind.write number 0 value)

abbrev pub setpoint : ℕ → List ℕ
setpoint v = bytes_of (event Kind.setpoint v 0 0)

-- a tick with a data byte that is not 0, which is refused
abbrev pub damaged : List ℕ
damaged = bytes_of (event Kind.tick 1 0 0)

abbrev restart : List ℕ
restart = bytes_of (event Kind.restart 0 0 0)

abbrev calibrate : List ℕ
calibrate = bytes_of (event Kind.calibration 0 0 0)

abbrev pub hand_on : ℕ → List ℕ
hand_on v = bytes_of (event Kind.hand 1 v 0)

-- a percent with a command to the property of DamperMode 1
abbrev pub percent : ℕ → ℕ → List ℕ
percent p command = bytes_of (event Kind.lte_setpoint 51 p command)

-- ticks of which each finds the source `c` and the target `t`
pub each_ruled : (c : Source) (t : ℕ) (ds : List Drive) → map tick_source ds ≡ replicate (length ds) c → map tick_target ds ≡ replicate (length ds) t
    → Every (Ruled c t) ds
each_ruled c t [] p q = none
each_ruled c t (d ∷ ds) p q =
    more record { source = head-eq_of_cons-eq p; target = head-eq_of_cons-eq q }
    (each_ruled c t ds (tail-eq_of_cons-eq p) (tail-eq_of_cons-eq q))

pub ruled_targets : {c : Source} {t : ℕ} {ds : List Drive} → Every (Ruled c t) ds → map tick_target ds ≡ replicate (length ds) t
ruled_targets none = refl
ruled_targets (more r rs) = λ i. r.target i ∷ ruled_targets rs i

-- a drive and a list that meet the conditions with the source `c` and the target `t`
pub record Stretch (c : Source) (t : ℕ) : Type 0 where
  pub start : Drive
  pub records : List (List ℕ)
  pub formed : well_formed start ≡ true
  pub byte : start.position < 256
  pub rules : RuledForK step_of tick_accepted rate_written start c t records

-- all of which computes on closed ones
abbrev pub stretch : (c : Source) (t : ℕ) (d : Drive) (l : List (List ℕ)) → well_formed d ≡ true → ltb d.position 256 ≡ true
    → map tick_source (ticks_found d l) ≡ replicate (length (ticks_found d l)) c → map tick_target (ticks_found d l) ≡ replicate (length (ticks_found d l)) t
    → writes_found d l ≡ [] → leb (run_ticks (rate d.params)) (length (ticks_found d l)) ≡ true → Stretch c t
stretch c t d l w b p q e k =
    record {
      start = d;
      records = l;
      formed = w;
      byte = ltb-true _ _ b;
      rules = record { ruled = each_ruled c t (ticks_found d l) p q; unwritten = e; enough = leb-true _ _ k };
    }

-- the positions after each record
abbrev positions : {c : Source} {t : ℕ} → Stretch c t → List ℕ
positions s = map (λ (o : Outcome). o.drive.position) (outcomes step_of s.start s.records)

-- Backup by BackupValue, 50 %: a restart and a damaged tick stand between the ticks.
unfoldable pub by_backup : Stretch backup 127
unfolding computation
by_backup =
    stretch backup 127 (standing 0 (set (rated 100) 5 50))
    (tick_bytes ∷ restart ∷ tick_bytes ∷ damaged ∷ tick_bytes ∷ []) refl refl refl refl refl refl

pub by_backup_way : positions by_backup ≡ 100 ∷ 100 ∷ 127 ∷ 127 ∷ 127 ∷ []
unfolding computation by_backup
by_backup_way = refl

-- Backup by BackupMode 1, without a setpoint: the target is the present position.
unfoldable pub by_backup_kept : Stretch backup 40
unfolding computation
by_backup_kept =
    stretch backup 40 (standing 40 (set (rated 100) 4 1))
    (tick_bytes ∷ tick_bytes ∷ tick_bytes ∷ []) refl refl refl refl refl refl

pub by_backup_kept_way : positions by_backup_kept ≡ 40 ∷ 40 ∷ 40 ∷ []
unfolding computation by_backup_kept
by_backup_kept_way = refl

-- Backup by BackupMode 1 with a setpoint, 200, whose age has reached Timeout.
unfoldable pub by_backup_last : Stretch backup 200
unfolding computation
by_backup_last =
    stretch backup 200 (drive 0 (set (rated 100) 4 1) (commands 0 0 0 0 0 0 1 200) 1860 no_run 0 (last 0 0 0) 0 0)
    (tick_bytes ∷ tick_bytes ∷ tick_bytes ∷ []) refl refl refl refl refl refl

pub by_backup_last_way : positions by_backup_last ≡ 100 ∷ 200 ∷ 200 ∷ []
unfolding computation by_backup_last
by_backup_last_way = refl

-- A bus setpoint with a Timeout of 1, sent again before each tick: its age is 1 there.
unfoldable pub by_bus : Stretch bus 255
unfolding computation
by_bus =
    stretch bus 255 (standing 0 (set (rated 100) 7 1))
    (setpoint 255 ∷ tick_bytes ∷ setpoint 255 ∷ tick_bytes ∷ setpoint 255 ∷ tick_bytes ∷ []) refl refl refl refl refl refl

pub by_bus_way : positions by_bus ≡ 0 ∷ 100 ∷ 100 ∷ 200 ∷ 200 ∷ 255 ∷ []
unfolding computation by_bus
by_bus_way = refl

-- A Rate of 5, whose K is 51, from one end to the other: 50 ticks reach 250.
unfoldable pub by_bus_slowly : Stretch bus 255
unfolding computation
by_bus_slowly =
    stretch bus 255 (standing 0 (rated 5))
    (setpoint 255 ∷ replicate 51 tick_bytes) refl refl refl refl refl refl

pub by_bus_slowly_way : (drop 50 (positions by_bus_slowly) ≡ 250 ∷ 255 ∷ [])
unfolding computation by_bus_slowly
by_bus_slowly_way = refl

-- A Rate of 255, whose K is 1, and RepPer written before the tick.
unfoldable pub by_bus_at_once : Stretch bus 255
unfolding computation
by_bus_at_once =
    stretch bus 255 (standing 0 (rated 255))
    (setpoint 255 ∷ write 202 1 ∷ tick_bytes ∷ []) refl refl refl refl refl refl

pub by_bus_at_once_way : positions by_bus_at_once ≡ 0 ∷ 0 ∷ 255 ∷ []
unfolding computation by_bus_at_once
by_bus_at_once_way = refl

-- An override of 1 %, which a normal write of 90 % does not end.
unfoldable pub by_tool : Stretch tool 3
unfolding computation
by_tool =
    stretch tool 3 (standing 255 (rated 100))
    (percent 1 Kind.override ∷ tick_bytes ∷ percent 90 Kind.normal ∷ tick_bytes ∷ percent 1 Kind.override ∷ tick_bytes ∷ []) refl refl refl refl refl refl

pub by_tool_way : positions by_tool ≡ 255 ∷ 155 ∷ 155 ∷ 55 ∷ 55 ∷ 3 ∷ []
unfolding computation by_tool
by_tool_way = refl

-- The hand at 250 and then at 200, both brought to High, which is 180 and less than K ticks away.
unfoldable pub by_hand : Stretch hand 180
unfolding computation
by_hand =
    stretch hand 180 (standing 255 (set (rated 100) 11 180))
    (hand_on 250 ∷ tick_bytes ∷ hand_on 200 ∷ tick_bytes ∷ tick_bytes ∷ []) refl refl refl refl refl refl

pub by_hand_way : positions by_hand ≡ 255 ∷ 180 ∷ 180 ∷ 180 ∷ 180 ∷ []
unfolding computation by_hand
by_hand_way = refl

-- A calibration that is begun anew after two of its three ticks, and a setpoint that it outranks.
unfoldable pub by_run : Stretch run 0
unfolding computation
by_run =
    stretch run 0 (standing 255 (rated 100))
    (calibrate ∷ tick_bytes ∷ setpoint 255 ∷ tick_bytes ∷ calibrate ∷ tick_bytes ∷ tick_bytes ∷ tick_bytes ∷ []) refl refl refl refl refl refl

pub by_run_way : positions by_run ≡ 255 ∷ 155 ∷ 155 ∷ 55 ∷ 55 ∷ 0 ∷ 0 ∷ 0 ∷ []
unfolding computation by_run
by_run_way = refl

-- A run that a restart starts, and another restart anew.
unfoldable pub by_sync : Stretch run 255
unfolding computation
by_sync =
    stretch run 255 (standing 0 (set (rated 100) 6 2))
    (restart ∷ tick_bytes ∷ tick_bytes ∷ restart ∷ tick_bytes ∷ []) refl refl refl refl refl refl

pub by_sync_way : positions by_sync ≡ 0 ∷ 100 ∷ 200 ∷ 200 ∷ 255 ∷ []
unfolding computation by_sync
by_sync_way = refl

-- Forcing of 3, with the hand below it.
unfoldable pub by_forcing : Stretch forcing 255
unfolding computation
by_forcing =
    stretch forcing 255 (standing 0 (rated 100))
    (bytes_of (event Kind.forcing 3 0 0) ∷ tick_bytes ∷ hand_on 0 ∷ tick_bytes ∷ tick_bytes ∷ []) refl refl refl refl refl refl

pub by_forcing_way : positions by_forcing ≡ 0 ∷ 100 ∷ 100 ∷ 200 ∷ 255 ∷ []
unfolding computation by_forcing
by_forcing_way = refl

-- A fault: the target is the present position, whatever else commands.
unfoldable pub by_fault : Stretch fault 77
unfolding computation
by_fault =
    stretch fault 77 (standing 77 (rated 100))
    (bytes_of (event Kind.fault 1 0 0) ∷ tick_bytes ∷ setpoint 255 ∷ tick_bytes ∷ tick_bytes ∷ []) refl refl refl refl refl refl

pub by_fault_way : positions by_fault ≡ 77 ∷ 77 ∷ 77 ∷ 77 ∷ 77 ∷ []
unfolding computation by_fault
by_fault_way = refl

-- So every source has one.
pub witness : (c : Source) → (t : ℕ) × Stretch c t
witness backup = (127, by_backup)
witness bus = (255, by_bus)
witness tool = (3, by_tool)
witness hand = (180, by_hand)
witness run = (0, by_run)
witness forcing = (255, by_forcing)
witness fault = (77, by_fault)

-- From the end of `by_hand` the drive stays: Rate is written twice, the hand given anew and a write refused, over five ticks.
abbrev afterwards : List (List ℕ)
afterwards = write 203 1 ∷ tick_bytes ∷ hand_on 181 ∷ tick_bytes ∷ write 203 0 ∷ tick_bytes ∷ write 203 255 ∷ tick_bytes ∷ tick_bytes ∷ []

abbrev arrived_drive : Drive
arrived_drive = after step_of by_hand.start by_hand.records

pub hand_stays : (length (writes_found arrived_drive afterwards) ≡ 2)
    × Every (Ruled hand 180) (ticks_found arrived_drive afterwards)
    × (map (λ (o : Outcome). o.drive.position) (outcomes step_of arrived_drive afterwards) ≡ replicate 9 180)
unfolding computation by_hand
hand_stays = (refl, each_ruled hand 180 _ refl refl, refl)
