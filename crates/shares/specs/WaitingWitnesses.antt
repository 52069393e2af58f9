-- Waiting in a hall by computation, on three fresh drives: place 2 breaks the old sentence about waiting at two hall ticks in a row, so that
-- fewer than three is all there is to say, and at three with a restart between them; its wait, read off its trace, after each call; and the
-- shares and a log, decided by the calls.
use Rattle.std.specs.Prelude.{◌≡◌, refl, Bool, true, false, not, ◌&&◌, List, [], ◌∷◌, ◌++◌, map, ℕ, ◌+◌, ◌<◌, length, replicate, take}
use Rattle.std.proofs.Common.{ap, arith}
use Rattle.std.proofs.lemmas.Bool.{false≢true}
use Rattle.numbers.specs.Numbers.{pick}
use Rattle.numbers.specs.Counts as Counts
use Rattle.event.specs.Event.{event, bytes_of}
use Rattle.event.specs.Kinds as Kind
use Rattle.rules.specs.Report.{Sent, silent, sent, report_due}
use Rattle.answer.specs.declared.Answer.TheVariants.{Done, Tick}
use Rattle.damper.specs.declared.Drive.{Drive}
use Rattle.damper.specs.Record.{fresh_drive}
use Rattle.hall.specs.Hall.{Call, give, tick, at}
use Rattle.hall.specs.Turns.{Given, bytes, hall_tick, tick_bytes, share}
use Rattle.history.specs.Readings.{is_tick, is_restart}
use Rattle.history.specs.Closed.{readings}
use Rattle.history.specs.Claim.{Moment, Trace, accepted, accepted_as, reports, due_in, last_report, ticks_in, Waiting, trace_on}
use Rattle.shares.specs.Bound.{quotas_in}
use Rattle.shares.specs.BoundWitnesses as Bound
use Rattle.shares.specs.BoundWitnesses.{ticking, giving}
use Rattle.shares.specs.Theorem.{share_trace}
use Rattle.shares.specs.Waiting.{Broken, none, at_tick}
use Rattle.shares.specs.Waited.{wait_of}
use Rattle.shares.specs.SharedLog.{shared_log_from, shared_log}
use Rattle.shares.specs.HostLog.{Lent, host_log, sent_in}
use Rattle.shares.specs.HallList.{share_from, share_in}

-- `unfolding computation` opens drive, hall and trace
unfoldable computation : Unit {0}
unfolding Bound.computation readings accepted last_report trace_on Counts.ticks_in Counts.since report_due wait_of
computation = tt

abbrev three : List Drive
three = fresh_drive ∷ fresh_drive ∷ fresh_drive ∷ []

-- a MinRepTime, as two bytes, for the drives of a list
abbrev apart : List ℕ → ℕ → ℕ → Call
apart list high low = give list (bytes_of (event Kind.write 117 high low)) 3

-- 1 for them all
abbrev before : List Call
before = apart (0 ∷ 1 ∷ 2 ∷ []) 0 1 ∷ []

-- two hall ticks of quota 1, which send the drives at places 0 and 1
abbrev after : List Call
after = ticking (1 ∷ 1 ∷ [])

abbrev old : Trace
old = share_trace three 2 before

-- place 2 at either of them: silent, and due, since it never reported
abbrev held : Moment
held = record { bytes = tick_bytes; answer = Tick 0 0 0; position = 0 }

abbrev is_sent : Sent → Bool
is_sent silent = false
is_sent (sent p s) = true

-- At both hall ticks MinRepTime ticks, here one, have passed without restart and without report, and there is no last report.
pub breaks_twice : (share_trace three 2 (before ++ after) ≡ (held ∷ held ∷ []) ++ old)
    × Broken old (held ∷ held ∷ [])
    × (ticks_in (held ∷ held ∷ []) old ≡ 2)
    × (quotas_in 3 after ≡ 2)
unfolding computation
breaks_twice = (
  refl,
  at_tick refl
      (λ w. false≢true (ap is_sent (w (held ∷ []) (held ∷ old) refl refl refl (Counts.more refl refl Counts.none)).1))
      (at_tick refl (λ w. false≢true (ap is_sent (w (held ∷ []) old refl refl refl (Counts.more refl refl Counts.none)).1)) none),
  refl,
  refl,
)

-- That the old sentence is not broken at one hall tick fewer than the row has drives is false.
pub one_fewer_refuted : ((row : List Drive) (before after : List Call) (i : ℕ) → i < length row → at row i ≡ fresh_drive
    → (new : Trace) → share_trace row i (before ++ after) ≡ new ++ share_trace row i before → Broken (share_trace row i before) new
    → ticks_in new (share_trace row i before) + 1 < length row)
    → ⊥
unfolding computation
one_fewer_refuted b =
    let w = breaks_twice in
    let l = b three before after 2 (omega arith) refl (held ∷ held ∷ []) w.0 w.1 in
    omega (arith, l, w.2)

-- then a restart of place 2, hand on at place 0, which changes its status, and a third hall tick, which sends place 0 again: both have a
-- wait of 0 by then, and the lower number goes first
abbrev past : List Call
past = after ++ (giving Kind.restart 0 ∷ give (0 ∷ []) (bytes_of (event Kind.hand 1 0 0)) 1 ∷ ticking (1 ∷ []))

-- place 2 at its restart
abbrev again : Moment
again = record { bytes = bytes_of (event Kind.restart 0 0 0); answer = Done; position = 0 }

-- "not restarted between them" cannot be left out: with a restart accepted between the second and the third of three hall ticks, the
-- sentence is broken at each of the three, although there are three drives.
pub breaks_past_restart : (share_trace three 2 (before ++ past) ≡ (held ∷ again ∷ held ∷ held ∷ []) ++ old)
    × (ticks_in (held ∷ again ∷ held ∷ held ∷ []) old ≡ 3)
    × (accepted_as is_restart again (held ∷ held ∷ old) ≡ true)
    × (Waiting held old → ⊥)
    × (Waiting held (held ∷ old) → ⊥)
    × (Waiting held (again ∷ held ∷ held ∷ old) → ⊥)
unfolding computation
breaks_past_restart = (
  refl,
  refl,
  refl,
  λ w. false≢true (ap is_sent (w (held ∷ []) old refl refl refl (Counts.more refl refl Counts.none)).1),
  λ w. false≢true (ap is_sent (w (held ∷ []) (held ∷ old) refl refl refl (Counts.more refl refl Counts.none)).1),
  λ w. false≢true (ap is_sent (w (held ∷ []) (again ∷ held ∷ held ∷ old) refl refl refl (Counts.more refl refl Counts.none)).1),
)

-- The wait of place 2 after each of these calls: never reported and so due, it is held twice and then sent.
abbrev calls : List Call
calls = before ++ (after ++ ticking (1 ∷ []))

pub held_twice : map (λ k. wait_of (share_trace three 2 (take k calls))) (1 ∷ 2 ∷ 3 ∷ 4 ∷ []) ≡ 0 ∷ 1 ∷ 2 ∷ 0 ∷ []
unfolding computation
held_twice = refl

-- The shares of the three are decided by the calls, which tell who is due and how long each waited.
abbrev taking : List Bool → List Given
taking sending = bytes (bytes_of (event Kind.write 117 0 1)) ∷ map hall_tick sending

pub decided : (share_in 3 0 calls ≡ taking (true ∷ false ∷ false ∷ []))
    × (share_in 3 1 calls ≡ taking (false ∷ true ∷ false ∷ []))
    × (share_in 3 2 calls ≡ taking (false ∷ false ∷ true ∷ []))
    × (map (λ i. share three i calls) (0 ∷ 1 ∷ 2 ∷ []) ≡ map (λ i. share_in 3 i calls) (0 ∷ 1 ∷ 2 ∷ []))
unfolding computation share_from
decided = (refl, refl, refl, refl)

-- and so is the log that a host keeps of place 2, whose rows held a report before
abbrev lent : List Lent
lent = map (λ c. record { call = c; row = replicate 3 65537 }) calls

pub log_decided : (host_log three 2 lent ≡ sent 0 32 ∷ []) × (sent_in (shared_log (share_in 3 2 calls)) ≡ sent 0 32 ∷ [])
unfolding computation share_from host_log shared_log_from
log_decided = (refl, refl)

-- Held once and restarted, it begins anew; held once more, it gets a MinRepTime of 3600, so that it is not due at the next hall tick, which
-- sends none of the three.
abbrev anew : List Call
anew = before ++ (tick 1 3 ∷ giving Kind.restart 0 ∷ tick 1 3 ∷ apart (2 ∷ []) 14 16 ∷ tick 1 3 ∷ [])

pub held_anew : map (λ k. wait_of (share_trace three 2 (take k anew))) (1 ∷ 2 ∷ 3 ∷ 4 ∷ 5 ∷ 6 ∷ []) ≡ 0 ∷ 1 ∷ 0 ∷ 1 ∷ 1 ∷ 0 ∷ []
unfolding computation
held_anew = refl

-- Over all hall ticks at which it was due and not sent, and not those in a row, the wait of place 2 would be 2 after it is sent, and 1
-- after it is not due.
abbrev wait_over_all : Trace → ℕ
wait_over_all [] = 0
wait_over_all (m ∷ t) =
    let n = wait_over_all t in
    pick (accepted_as is_restart m t) 0 (pick (accepted_as is_tick m t && (due_in m t && not (reports m))) (n + 1) n)

pub over_all_refuted : (map wait_of (share_trace three 2 calls ∷ share_trace three 2 anew ∷ []) ≡ 0 ∷ 0 ∷ [])
    × (map wait_over_all (share_trace three 2 calls ∷ share_trace three 2 anew ∷ []) ≡ 2 ∷ 1 ∷ [])
unfolding computation
over_all_refuted = (refl, refl)
