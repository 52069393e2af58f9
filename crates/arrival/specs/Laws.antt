-- For every step that keeps a drive well formed, whose accepted ticks move it toward the target that rules, by Rate or the distance, and
-- where nothing else moves it and a write of Rate alone changes Rate: the positions of a drive are a chain (motion/specs/Approach.antt), it
-- arrives and it stays.
use Rattle.std.specs.Prelude.{◌≡◌, true, false}
use Rattle.std.proofs.Math.Path.{refl, ap}
use Rattle.std.proofs.Common.{◌∙◌, arith}
use mathlib.Core.List.{List, [], ◌∷◌, ◌++◌, map}
use Prim.Native.Nat.{ℕ, ◌<◌, ◌≤◌}
use Rattle.std.proofs.Math.ListN.{length}
use Rattle.std.proofs.lemmas.List.{length-map}
use Rattle.numbers.specs.Numbers.{pick}
use Rattle.numbers.specs.Laws.{cases}
use Rattle.numbers.specs.Every.{Every, none, more, every_first, every_behind, every_by}
use Rattle.table.specs.Table.{rate}
use Rattle.motion.specs.Motion.{run_ticks, toward}
use Rattle.motion.specs.Laws.{run_ticks_pos}
use Rattle.motion.specs.Approach.{approached, approach_stays, approach_in_k}
use Rattle.rules.specs.Rank.{Source}
use Rattle.rules.specs.TargetLaws.{ruling_target, target_byte}
use Rattle.damper.specs.declared.Drive.{Drive}
use Rattle.damper.specs.declared.Outcome.{Outcome}
use Rattle.damper.specs.WellFormed.{well_formed}
use Rattle.damper.specs.Laws.{wf_ranges}
use Rattle.damper.specs.Tick.{aged, bus_on, target_at, advance}
use Rattle.damper.specs.Carry.{StepOn, outcomes, drive_after}
use Rattle.invariant.specs.Effects.{advance_position}
use Rattle.arrival.specs.Arrival.{tick_source, tick_target, Ruled, Test, drives_found, after, Settles}

-- of a well-formed drive at a position of a byte, the target of a tick is such a position too
tick_target_byte : (d : Drive) → well_formed d ≡ true → d.position < 256 → tick_target d < 256
unfolding tick_target aged
tick_target_byte d w h =
    let q = wf_ranges d w in
    target_byte d.commands d.run.kind d.position d.params h q.low q.high (tick_source d)

-- it is the target at the ruling rank, which the tick moves toward
pub advance_toward : (d : Drive) → (advance d).drive.position ≡ toward d.position (tick_target d) (rate d.params)
unfolding target_at tick_target
advance_toward d =
    let a = aged d in
    advance_position d
    ∙ ap (λ (t : ℕ). toward d.position t (rate d.params)) (ruling_target a.commands a.run.kind a.position a.params (bus_on a))

-- what a list in two parts finds: the second is given to the drive that the first leaves
pub found_append : {A : Type 0} (step : StepOn A) (test : Test A) (d : Drive) (l k : List A)
    → drives_found step test d (l ++ k) ≡ drives_found step test d l ++ drives_found step test (after step d l) k
unfolding drives_found outcomes drive_after
found_append step test d [] k = refl
found_append step test d (x ∷ l) k = rw (found_append step test (step d x).drive l k) (cases (test d x) (λ q. rw q) (λ q. rw q))

-- what is asked of a step
pub record Moves {A : Type 0} (step : StepOn A) (tick rate_write : Test A) : Type 0 where
  pub formed : (d : Drive) (x : A) → well_formed d ≡ true → well_formed (step d x).drive ≡ true
  pub position : (d : Drive) (x : A) → well_formed d ≡ true
      → (step d x).drive.position ≡ pick (tick d x) (toward d.position (tick_target d) (rate d.params)) d.position
  pub kept : (d : Drive) (x : A) → well_formed d ≡ true → rate_write d x ≡ false → rate (step d x).drive.params ≡ rate d.params

-- a tick that finds the drive `d` is toward `t`
abbrev pub Toward : ℕ → Drive → Type 0
Toward t d = tick_target d ≡ t

pub ruled_toward : {c : Source} {t : ℕ} {ds : List Drive} → Every (Ruled c t) ds → Every (Toward t) ds
ruled_toward rs = every_by (λ d r. r.target) rs

module _ {A : Type 0} {step : StepOn A} {tick rate_write : Test A} (m : Moves step tick rate_write) where
  -- it stays well formed
  pub formed : (d : Drive) (l : List A) → well_formed d ≡ true → well_formed (after step d l) ≡ true
  unfolding outcomes drive_after
  formed d [] w = w
  formed d (x ∷ l) w = formed (step d x).drive l (m.formed d x w)

  abbrev rate_of : Drive → ℕ
  rate_of x = rate x.params

  module _ (t : ℕ) where
    -- where each tick finds the target `t`, the positions are a chain toward it, by the Rate that each tick finds
    pub chain : (d : Drive) (l : List A) → well_formed d ≡ true → Every (Toward t) (drives_found step tick d l)
        → (after step d l).position ≡ approached t d.position (map rate_of (drives_found step tick d l))
    unfolding drives_found outcomes drive_after approached
    chain d [] w ts = refl
    chain d (x ∷ l) w ts =
        let n = (step d x).drive in
        let on = chain n l (m.formed d x w) in
        let from : ℕ → ℕ = λ p. approached t p (map rate_of (drives_found step tick n l)) in
        cases (tick d x)
        (λ q.
        let us : Every (Toward t) (d ∷ drives_found step tick n l) = rw q at ts in
        rw q (on (every_behind us) ∙ ap from (m.position d x w ∙ rw (q, every_first us))))
        (λ q. rw q (on (rw q at ts) ∙ ap from (m.position d x w ∙ rw q)))

    -- the ticks are toward a position of a byte, since the first of them finds the drive where it stood at first
    target_byte_of : (d : Drive) (l : List A) → well_formed d ≡ true → d.position < 256 → Every (Toward t) (drives_found step tick d l)
        → 1 ≤ length (drives_found step tick d l) → t < 256
    unfolding drives_found
    target_byte_of d [] w h ts k = absurd (omega arith)
    target_byte_of d (x ∷ l) w h ts k =
        let n = (step d x).drive in
        cases (tick d x)
        (λ q.
        let us : Every (Toward t) (d ∷ drives_found step tick n l) = rw q at ts in
        rw (← every_first us) (tick_target_byte d w h))
        (λ q.
        let here : n.position ≡ d.position = m.position d x w ∙ rw q in
        target_byte_of n l (m.formed d x w) (rw here h) (rw q at ts) (rw q at k))

  -- where nothing passes a test, the first does not, and nothing behind it does
  none_found : (test : Test A) (d : Drive) (x : A) (l : List A) → drives_found step test d (x ∷ l) ≡ []
      → (test d x ≡ false) × (drives_found step test (step d x).drive l ≡ [])
  unfolding drives_found
  none_found test d x l e =
      cases (test d x)
      (λ q. let k : length (d ∷ drives_found step test (step d x).drive l) ≡ 0 = ap length (rw q at e) in absurd (omega arith))
      (λ q. (q, rw q at e))

  -- without a write of Rate, each tick finds the Rate of before
  rates : (d : Drive) (l : List A) → well_formed d ≡ true → drives_found step rate_write d l ≡ []
      → Every (λ r. r ≡ rate_of d) (map rate_of (drives_found step tick d l))
  unfolding drives_found
  rates d [] w e = none
  rates d (x ∷ l) w e =
      let n = (step d x).drive in
      let f = none_found rate_write d x l e in
      let same = m.kept d x w f.0 in
      let on = every_by (λ r h. h ∙ same) (rates n l (m.formed d x w) f.1) in
      cases (tick d x) (λ q. rw q (more refl on)) (λ q. rw q on)

  -- If each tick finds the target `t`, whichever source rules, the drive arrives there,
  pub arrives : (t : ℕ) (d : Drive) (l : List A) → well_formed d ≡ true → d.position < 256 → Every (Toward t) (drives_found step tick d l)
      → drives_found step rate_write d l ≡ [] → run_ticks (rate d.params) ≤ length (drives_found step tick d l) → (after step d l).position ≡ t
  arrives t d l w h ts e k =
      let r = (wf_ranges d w).rate_least in
      let some : 1 ≤ length (drives_found step tick d l) = omega (arith, k, run_ticks_pos (rate d.params) r) in
      chain t d l w ts
      ∙ approach_in_k t d.position (rate d.params) _ h (target_byte_of t d l w h ts some) r (rates d l w e)
      (rw (length-map (drives_found step tick d l) rate_of) k)

  -- and stays as long as each tick finds that target, whatever Rate becomes: after them all, and after each.
  pub stands : (t : ℕ) (d : Drive) (l : List A) → well_formed d ≡ true → d.position ≡ t → Every (Toward t) (drives_found step tick d l)
      → (after step d l).position ≡ t
  stands t d l w h ts =
      let rs = map rate_of (drives_found step tick d l) in
      chain t d l w ts ∙ ap (λ (p : ℕ). approached t p rs) h ∙ approach_stays t rs

  pub stays : (t : ℕ) (d : Drive) (l : List A) → well_formed d ≡ true → d.position ≡ t → Every (Toward t) (drives_found step tick d l)
      → Every (λ (o : Outcome). o.drive.position ≡ t) (outcomes step d l)
  unfolding drives_found outcomes approached
  stays t d [] w h ts = none
  stays t d (x ∷ l) w h ts =
      let n = (step d x).drive in
      let on = stays t n l (m.formed d x w) in
      cases (tick d x)
      (λ q.
      let us : Every (Toward t) (d ∷ drives_found step tick n l) = rw q at ts in
      let there : n.position ≡ t = m.position d x w ∙ rw (q, every_first us, h) (approach_stays t (rate_of d ∷ [])) in
      more there (on there (every_behind us)))
      (λ q. let there : n.position ≡ t = m.position d x w ∙ rw q h in more there (on there (rw q at ts)))

  -- The request's sentence, of one source.
  pub settles : (d : Drive) → well_formed d ≡ true → d.position < 256 → Settles step tick rate_write d
  settles d w h c t l r =
      let there = arrives t d l w h (ruled_toward r.ruled) r.unwritten r.enough in
      (there, λ l' us. stays t (after step d l) l' (formed d l w) there (ruled_toward {c = c} {t = t} us))
