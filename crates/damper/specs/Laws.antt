-- What well-formedness gives, and what an event has passed that none of 1 to 13 fits.
use Rattle.std.specs.Prelude.{◌≡◌, refl, Bool, true, false, List, ℕ, length, get_or}
use Rattle.std.proofs.Math.Bool.{and-eq-true_iff}
use Rattle.std.proofs.Common.{arith, ltb-true}
use Rattle.numbers.specs.Numbers.{pick}
use Rattle.table.specs.Table.{rows, row_at, in_range, all_in, place_of, known}
use Rattle.event.specs.Event.{event_in, data_refusal}
use Rattle.event.specs.Laws.{record_passed}
use Rattle.rules.specs.CommandsLaws.{Flags, flags}
use Rattle.rules.specs.RefusalLaws.{refusal_passed}
use Rattle.table.specs.Laws.{Ranges, ranges, range_at}
use Rattle.damper.specs.declared.Drive.{Drive}
use Rattle.damper.specs.WellFormed.{well_formed}
use Rattle.damper.specs.Step.{judged_by, refusal_of}

pub wf_in : (d : Drive) → well_formed d ≡ true → all_in rows d.params ≡ true
unfolding well_formed
wf_in d h = (simp and-eq-true_iff at h).0

pub wf_ranges : (d : Drive) → well_formed d ≡ true → Ranges d.params
wf_ranges d h = ranges _ (wf_in d h)

pub wf_flags : (d : Drive) → well_formed d ≡ true → Flags d.commands
unfolding well_formed
wf_flags d h = flags _ d.age (simp and-eq-true_iff at h).1.1.0

-- the range rule at a read: the value that a read of a parameter answers with is in its row's range
pub read_range : (d : Drive) (n : ℕ) → well_formed d ≡ true → known n ≡ true → in_range (row_at rows (place_of n)) (get_or d.params (place_of n) 0) ≡ true
read_range d n w k = range_at rows d.params (place_of n) (wf_in d w) (ltb-true _ _ k)

pub refusal_none : (d : Drive) (s : List ℕ) → refusal_of d s ≡ 0
    → (well_formed d ≡ true) × (length s ≡ 6) × (data_refusal (event_in s) ≡ 0)
unfolding refusal_of
refusal_none d s h = go (well_formed d) refl h
  where
    go : (b : Bool) → well_formed d ≡ b → pick b (judged_by d s) 1 ≡ 0
        → (well_formed d ≡ true) × (length s ≡ 6) × (data_refusal (event_in s) ≡ 0)
    go true w q = let t = record_passed s (refusal_passed s _ _ _ _ _ q).0 in (w, t.0, t.1)
    go false w q = absurd (omega arith)
