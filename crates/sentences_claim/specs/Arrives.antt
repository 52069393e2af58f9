-- Proofs: W-207 a second time.
use Rattle.std.specs.Prelude.{◌≡◌, ◌↔◌, Bool, true, false, ◌&&◌, ℕ, ◌-◌, ◌*◌, ◌≤◌, ◌<◌, eqb, length}
use Rattle.std.proofs.Math.Path.{refl, sym, ap}
use Rattle.std.proofs.Common.{◌∙◌, arith, lt_of_mul-lt-mul_right, eqb-true, eq-eqb}
use Rattle.std.proofs.lemmas.Bool.{false≢true}
use mathlib.Core.List.{List, [], ◌∷◌}
use Rattle.std.proofs.Math.ListN.{get_or}
use Rattle.numbers.specs.Laws.{cases, and_left, and_right, and_intro}
use Rattle.numbers.specs.Every.{Every, none, more}
use Rattle.table.specs.Table.{rate}
use Rattle.motion.specs.Motion.{run_ticks}
use Rattle.motion.specs.Laws.{run_ticks_ceiling}
use Rattle.rules.specs.Rank.{targets, source_at}
use Rattle.rules.specs.TargetLaws.{ruling_target}
use Rattle.damper.specs.declared.Drive.{Drive}
use Rattle.damper.specs.declared.Outcome.{Outcome}
use Rattle.damper.specs.WellFormed.{well_formed}
use Rattle.damper.specs.Tick.{aged, ruling, bus_on}
use Rattle.damper.specs.Step.{refusal_of, step_of}
use Rattle.damper.specs.Carry.{StepOn, outcomes, drive_after}
use Rattle.damper.specs.Laws.{wf_ranges}
use Rattle.invariant.specs.Kept.{wf_step}
use Rattle.arrival.specs.Arrival as A
use Rattle.arrival.specs.Theorem.{drive_settles}
use Rattle.sentences.specs.Words.{first_that_fits}
use Rattle.sentences.specs.Paper as P
use Rattle.sentences.specs.Refusals.{same_refusals}
use Rattle.sentences.specs.Rules.{same_target}
use Rattle.sentences.specs.Ticks.{same_rank}
use Rattle.sentences.specs.Forms.{same_formed}
use Rattle.sentences_claim.specs.Paper as S

-- who rules, with which target
module _ (d : Drive) (w : well_formed d ≡ true) (r t : ℕ) (x : S.Rules r t d) where
  rank_is : ruling (aged d) ≡ r
  rank_is = same_rank d ∙ x.commander

  rules_by : A.Ruled (source_at r) t d
  unfolding A.tick_target aged
  rules_by =
      record {
        source = ap source_at rank_is;
        target =
            sym (ruling_target d.commands d.run.kind d.position d.params (bus_on (aged d)))
            ∙ ap (λ (k : ℕ). get_or (targets d.commands d.run.kind d.position d.params) k 0) rank_is
            ∙ same_target d.commands d.run.kind d.position d.params ((same_formed d).0 w).low_high r t x.target;
      }

-- an accepted event of a kind
said : (d : Drive) (s : List ℕ) (b : Bool) → eqb (refusal_of d s) 0 && b ≡ true → (first_that_fits (P.turned_down d s) ≡ 0) × (b ≡ true)
said d s b q = (sym (same_refusals d s) ∙ eqb-true _ 0 (and_left (eqb (refusal_of d s) 0) b q), and_right (eqb (refusal_of d s) 0) b q)

pub same_tick : (d : Drive) (s : List ℕ) → (A.tick_accepted d s ≡ true) ↔ S.TickOf d s
same_tick d s = (
  λ q. let x = said d s (eqb (get_or s 2 0) 1) q in (x.0, eqb-true _ 1 x.1),
  λ k. and_intro (eq-eqb _ 0 (same_refusals d s ∙ k.0)) (eq-eqb _ 1 k.1),
)

pub same_write : (d : Drive) (s : List ℕ) → (A.rate_written d s ≡ true) ↔ S.RateWrite d s
same_write d s = (
  λ q.
      let x = said d s (eqb (get_or s 2 0) 8 && eqb (get_or s 3 0) 203) q in
      (x.0, eqb-true _ 8 (and_left (eqb (get_or s 2 0) 8) _ x.1), eqb-true _ 203 (and_right (eqb (get_or s 2 0) 8) _ x.1)),
  λ k. and_intro (eq-eqb _ 0 (same_refusals d s ∙ k.0)) (and_intro (eq-eqb _ 8 k.1) (eq-eqb _ 203 k.2)),
)

-- where it does not hold, the test is false
untrue : (b : Bool) {Q : Type 0} → (b ≡ true → Q) → (Q → ⊥) → b ≡ false
untrue true f n = absurd (n (f refl))
untrue false f n = refl

-- K ticks of Rate lead from one end to the other
enough : (v n : ℕ) → 1 ≤ v → 255 ≤ n * v → run_ticks v ≤ n
enough v n p h =
    let l : (run_ticks v - 1) * v < n * v = omega (arith, (run_ticks_ceiling v p).1) in
    let m : run_ticks v - 1 < n = lt_of_mul-lt-mul_right v l in
    omega arith

-- of whatever a drive is given
module _ {B : Type 0} (step : StepOn B) (ticks writes : A.Test B) (Ticks Writes : Drive → B → Type 0)
    (so_ticks : (d : Drive) (x : B) → (ticks d x ≡ true) ↔ Ticks d x) (so_writes : (d : Drive) (x : B) → (writes d x ≡ true) ↔ Writes d x)
    (kept : (d : Drive) (x : B) → well_formed d ≡ true → well_formed (step d x).drive ≡ true) where
  pub some_found : (l : List B) (d : Drive) → (found : List Drive) × (e : Drive) × S.TicksFind step Ticks d l found e
  some_found [] d = ([], d, S.none)
  some_found (x ∷ l) d =
      let rest = some_found l (step d x).drive in
      cases (ticks d x)
      (λ q. (d ∷ rest.0, rest.1, S.tick ((so_ticks d x).0 q) rest.2))
      (λ q. (rest.0, rest.1, S.other (λ k. false≢true (sym q ∙ (so_ticks d x).1 k)) rest.2))

  -- the drives that the ticks find, and the drive that is left
  pub same_found : {d e : Drive} {l : List B} {found : List Drive} → S.TicksFind step Ticks d l found e
      → (A.drives_found step ticks d l ≡ found) × (A.after step d l ≡ e)
  unfolding A.drives_found outcomes drive_after
  same_found S.none = (refl, refl)
  same_found (S.tick {d = d} {x = x} k g) =
      let rest = same_found g in
      (rw ((so_ticks d x).1 k) (ap (λ (ds : List Drive). d ∷ ds) rest.0), rest.1)
  same_found (S.other {d = d} {x = x} k g) =
      let rest = same_found g in
      (rw (untrue (ticks d x) (so_ticks d x).0 k) rest.0, rest.1)

  -- Rate unwritten
  pub same_unwritten : {d : Drive} {l : List B} → S.Unwritten step Writes d l → A.drives_found step writes d l ≡ []
  unfolding A.drives_found
  same_unwritten S.none = refl
  same_unwritten (S.more {d = d} {x = x} n g) = rw (untrue (writes d x) (so_writes d x).0 n) (same_unwritten g)

  -- each that is found is well formed, and so is what is left
  pub each_ruled : {d e : Drive} {l : List B} {found : List Drive} (r t : ℕ) → well_formed d ≡ true → S.TicksFind step Ticks d l found e
      → Every (S.Rules r t) found → Every (A.Ruled (source_at r) t) found
  each_ruled r t w S.none none = none
  each_ruled r t w (S.tick {d = d} {x = x} k g) (more y ys) = more (rules_by d w r t y) (each_ruled r t (kept d x w) g ys)
  each_ruled r t w (S.other {d = d} {x = x} k g) ys = each_ruled r t (kept d x w) g ys

  pub formed_after : {d e : Drive} {l : List B} {found : List Drive} → well_formed d ≡ true → S.TicksFind step Ticks d l found e
      → well_formed e ≡ true
  formed_after w S.none = w
  formed_after w (S.tick {d = d} {x = x} k g) = formed_after (kept d x w) g
  formed_after w (S.other {d = d} {x = x} k g) = formed_after (kept d x w) g

  -- the last of what came of a list is the drive that it leaves, or the one before the list
  at_last : (t : ℕ) (l : List B) (d : Drive) → d.position ≡ t → Every (λ (o : Outcome). o.drive.position ≡ t) (outcomes step d l)
      → (A.after step d l).position ≡ t
  unfolding outcomes drive_after
  at_last t [] d h none = h
  at_last t (x ∷ l) d h (more y ys) = at_last t l (step d x).drive y ys

  -- what settles, by the definitions, does by the request's words
  pub settles_by : (d : Drive) → A.Settles step ticks writes d → well_formed d ≡ true → (r t : ℕ)
      → (l : List B) (found : List Drive) (e : Drive) → S.TicksFind step Ticks d l found e → S.Unwritten step Writes d l
      → Every (S.Rules r t) found → 255 ≤ length found * rate d.params
      → (e.position ≡ t)
      × ((l' : List B) (found' : List Drive) (e' : Drive) → S.TicksFind step Ticks e l' found' e' → Every (S.Rules r t) found'
      → e'.position ≡ t)
  settles_by d settled w r t l found e g u xs n =
      let f = same_found g in
      let stands =
      settled (source_at r) t l
      (record {
        ruled = rw f.0 (each_ruled r t w g xs);
        unwritten = same_unwritten u;
        enough = rw f.0 (enough (rate d.params) (length found) (wf_ranges d w).rate_least n);
      }) in
      let here : e.position ≡ t = rw f.1 at stands.0 in (
        here,
        λ l' found' e' g' xs'.
            let f' = same_found g' in
            let ruled' = each_ruled r t (formed_after w g) g' xs' in
            rw (← f'.1) (at_last t l' e here ((rw f.1 at stands.1) l' (rw f'.0 ruled'))),
      )

-- of event records
abbrev Find : Drive → List (List ℕ) → List Drive → Drive → Type 0
Find = S.TicksFind step_of S.TickOf

pub settles : (d : Drive) → well_formed d ≡ true → d.position < 256 → (r t : ℕ)
    → (l : List (List ℕ)) (found : List Drive) (e : Drive) → Find d l found e → S.Unwritten step_of S.RateWrite d l
    → Every (S.Rules r t) found → 255 ≤ length found * rate d.params
    → (e.position ≡ t)
    × ((l' : List (List ℕ)) (found' : List Drive) (e' : Drive) → Find e l' found' e' → Every (S.Rules r t) found' → e'.position ≡ t)
settles d w b =
    settles_by step_of A.tick_accepted A.rate_written S.TickOf S.RateWrite same_tick same_write wf_step d (drive_settles d w b) w

pub found_by : (l : List (List ℕ)) (d : Drive) → (found : List Drive) × (e : Drive) × Find d l found e
found_by = some_found step_of A.tick_accepted A.rate_written S.TickOf S.RateWrite same_tick same_write wf_step
