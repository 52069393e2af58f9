-- Laws of a drive that is carried over a list of event records, and of a loop that carries it over a slice of them.
use Rattle.std.specs.Prelude.{◌≡◌, refl, ℕ, ◌+◌, ◌-◌, ◌<◌, ◌≤◌, min, length, take, drop, set}
use Rattle.std.proofs.Math.Path.{sym}
use Rattle.std.proofs.Common.{◌∙◌, inl, inr, add-one, drop-cons, drop-drop, drop_at}
use mathlib.Core.List.{List, [], ◌∷◌, ◌++◌, append-nil, map, map-append}
use native.Mathlib.Omega.{arith}
use Rattle.std.proofs.Math.Nat.{sub-zero, add-sub_cancel_left}
use Rattle.std.proofs.Math.ListN.{length-append, length-drop}
use Rattle.std.proofs.lemmas.Bool.{cases_lt}
use Rattle.std.proofs.lemmas.List.{length-map, set_at}
use Rattle.std.proofs.Math.Seq.{append_snoc, take-append_seam}
use Rattle.answer.specs.declared.Answer.{Answer}
use Rattle.event.specs.Records.{records_of}
use Rattle.event.specs.RecordLaws.{left_none, left_more}
use Rattle.damper.specs.declared.Drive.{Drive}
use Rattle.damper.specs.declared.Outcome.{Outcome}
use Rattle.damper.specs.Carry.{Step, StepOn, outcomes, drive_after, answers_in}

-- each record has one outcome
pub outcomes_length : {A : Type 0} (step : StepOn A) (d : Drive) (l : List A) → length (outcomes step d l) ≡ length l
unfolding outcomes
outcomes_length step d [] = refl
outcomes_length step d (s ∷ l) = rw (outcomes_length step (step d s).drive l)

-- a list in two parts: the second goes to the drive that the first left
pub outcomes_append : {A : Type 0} (step : StepOn A) (d : Drive) (l m : List A)
    → outcomes step d (l ++ m) ≡ outcomes step d l ++ outcomes step (drive_after d (outcomes step d l)) m
unfolding outcomes drive_after
outcomes_append step d [] m = refl
outcomes_append step d (s ∷ l) m = rw (outcomes_append step (step d s).drive l m)

-- the drive that the last of the outcomes left
pub drive_last : (d : Drive) (os : List Outcome) (o : Outcome) → drive_after d (os ++ (o ∷ [])) ≡ o.drive
unfolding drive_after
drive_last d [] o = refl
drive_last d (x ∷ os) o = drive_last x.drive os o

-- Amid a loop that gives the first `room` records of the bytes `s` to the drive `d₀`: `i` of them have given the outcomes `os` and
-- left the drive `d`, the next begins at `at`, and what is asked are these outcomes and those of the records left.
pub record Carried (step : Step) (d₀ : Drive) (room : ℕ) (s : List ℕ) (os : List Outcome) (d : Drive) (i at : ℕ) : Type 0 where
  pub drive : d ≡ drive_after d₀ os
  pub count : i ≡ length os
  pub place : at ≤ length s
  pub left : outcomes step d₀ (take room (records_of s)) ≡ os ++ outcomes step d (take (room - i) (records_of (drop at s)))

pub start : {step : Step} {d₀ : Drive} {room : ℕ} {s : List ℕ} → Carried step d₀ room s [] d₀ 0 0
unfolding drive_after
start = record { drive = refl; count = refl; place = omega arith; left = rw sub-zero }

module _ {step : Step} {d₀ : Drive} {room : ℕ} {s : List ℕ} {os : List Outcome} {d : Drive} {i at : ℕ} (c : Carried step d₀ room s os d i at) where
  -- one turn, as the code has it: the next `n` bytes are given to the step, whose outcome is `o`
  pub turn : {n : ℕ} {o : Outcome} → i < room → at < length s → n ≡ min (length s - at) 6 → o ≡ step d (take (at + n - at) (drop at s))
      → Carried step d₀ room s (os ++ (o ∷ [])) o.drive (i + 1) (at + n)
  unfolding outcomes
  turn {n} {o} h k size gives = record {
    drive = sym (drive_last d₀ os o);
    count = simp length-append (omega arith);
    place = omega arith;
    left = c.left ∙ rw (left_more room i s at n h k size, append_snoc, gives, add-sub_cancel_left at n);
  }

  -- the same, where the bytes are cut into chunks of six: `x` is the next, and `rest` what is left with it, `rest'` without it
  pub chunk : {x rest rest' : List ℕ} {o : Outcome} → i < room → rest ≡ drop at s → rest ≡ x ++ rest' → length x ≡ min 6 (length rest) → 0 < length rest
      → o ≡ step d x → Carried step d₀ room s (os ++ (o ∷ [])) o.drive (i + 1) (at + length x) × (rest' ≡ drop (at + length x) s)
  chunk {x} {rest} {rest'} {o} h here parts size some gives =
      let parted : drop at s ≡ x ++ rest' = sym here ∙ parts in
      let left : length rest ≡ length s - at = rw here (length-drop at s) in
      let record_is : take (at + length x - at) (drop at s) ≡ x = rw (add-sub_cancel_left at (length x), parted) (take-append_seam x rest') in
      (turn h (omega arith) (omega arith) (gives ∙ rw record_is), rw (← drop-drop (length x) at s, parted) (sym (drop_at x rest' (length x) refl)))

  -- no room is left, or no bytes are: the outcomes are those that are asked
  pub full : room ≤ i → outcomes step d₀ (take room (records_of s)) ≡ os
  unfolding outcomes
  full h = let none : room - i ≡ 0 = omega arith in (rw none at c.left) ∙ append-nil os

  pub ended : length s ≤ at → outcomes step d₀ (take room (records_of s)) ≡ os
  unfolding outcomes
  ended h = (rw (left_none (room - i) s at h) at c.left) ∙ append-nil os

  -- and so, over chunks, are they where none is taken that is left: `left` of them may still be taken
  pub taken : {left : ℕ} {rest : List ℕ} → left + i ≡ room → rest ≡ drop at s → (0 < left → length rest ≡ 0)
      → outcomes step d₀ (take room (records_of s)) ≡ os
  taken {left} {rest} all here none =
      elim (cases_lt 0 left) [
        | inl some ↦ ended (omega (arith, none some, rw here at (none some), length-drop at s))
        | inr full_now ↦ full (omega arith)
      ]

-- the number `w` of the next outcome `o` is stored at the first place of a row that has none
pub answers_more : (number : Answer → ℕ) (os : List Outcome) (row₀ : List ℕ) (o : Outcome) {row : List ℕ} {i w : ℕ} → i < length row₀
    → i ≡ length os → w ≡ number o.answer → row ≡ answers_in number os row₀ → set row i w ≡ answers_in number (os ++ (o ∷ [])) row₀
unfolding answers_in
answers_more number os row₀ o {row} {i} h k ew e =
    rw (e, ew, length-append, ← k, add-one, drop-cons row₀ i 0, set_at (map _ os) _ _ _ i (length-map os _ ∙ sym k), map-append, append_snoc)
