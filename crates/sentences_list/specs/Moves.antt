-- Proofs: who commands at a tick, the target, the position and the status.
use Rattle.std.specs.Prelude.{◌≡◌, refl, ◌↔◌, Bool, true, false, ◌||◌, List, [], ◌∷◌, ℕ, zero, suc, ◌+◌, ◌-◌, ◌/◌, ◌%◌, ◌^◌, ◌≤◌, min, leb, ltb, eqb}
use Rattle.std.proofs.Common.{sym, ap, subst, ◌∙◌, arith, div-one, eqb-true, ne_eqb, leb-true, leb-false, ltb-true, ltb-false}
use Rattle.std.proofs.Math.Nat.{div-div-eq-div-mul, pow-succ'}
use Rattle.std.proofs.Math.ListN.{get_or}
use Rattle.std.proofs.lemmas.Bool.{eqb-false, not-true}
use Rattle.numbers.specs.Numbers.{pick, distance}
use Rattle.numbers.specs.Laws.{cases}
use Rattle.table.specs.Table.{low, high, backup_mode, rate}
use Rattle.event.specs.declared.Event.{Event}
use Rattle.motion.specs.Motion.{to_position, toward}
use Rattle.rules.specs.declared.Commands.{Commands}
use Rattle.rules.specs.Rank as Rank
use Rattle.rules.specs.Report.{status}
use Rattle.history.specs.Readings as R
use Rattle.sentences.specs.Words.{◌is◌, ◌is_not◌, ◌exceeds◌, choose, first_that_fits}
use Rattle.sentences.specs.Paper as P
use Rattle.sentences.specs.Rules.{same_ruling, same_target}
use Rattle.sentences.specs.Shows.{one, status_bits}
use Rattle.sentences.specs.Ticks.{same_move}
use Rattle.sentences.specs.Exists.{some_brought, some_move}
use Rattle.sentences_list.specs.Paper as L
use Rattle.sentences_list.specs.Values.{commands_are, has_commands, parameters_are, has_parameters}
use Rattle.sentences_list.specs.Runs.{bus_at, bus_stands, bus_at_tick, bus_read, said_tick}
use Rattle.sentences_list.specs.Runs.{run_at, run_stands, run_at_tick, run_is, run_at_most, has_run}

-- what holds of the histories that records leave
pub record Fit (h : List Event) : Type 0 where
  pub tools : L.Each (λ e. R.is_tool e ≡ true → L.Tool e) (R.current h)
  pub low_high : low (R.parameters h) ≤ high (R.parameters h)
  pub mode : backup_mode (R.parameters h) ≤ 1

pub data Fits : List Event → Type 0 where
  none : Fit [] → Fits []
  more : {e : Event} {h : List Event} → Fit (e ∷ h) → Fits h → Fits (e ∷ h)

pub fit : {h : List Event} → Fits h → Fit h
fit (none f) = f
fit (more f g) = f

-- ── what is read at a tick, or of a history as it stands ──
module _ (m n : ℕ) (h : List Event) (f : Fit h) where
  pub has_read : L.Read m n h (R.commands_in h) (run_at m h) (bus_at n h) (R.parameters h)
  has_read =
      record {
        commands = has_commands h f.tools;
        running = has_run m h;
        bus_active_lem = (bus_read n h (bus_at n h)).0 refl;
        parameters = has_parameters h;
      }

  module _ {c : Commands} {run : ℕ} {bus : Bool} {q : List ℕ} (w : L.Read m n h c run bus q) where
    pub read_commands : R.commands_in h ≡ c
    read_commands = commands_are h c w.commands f.tools

    pub read_run : run_at m h ≡ run
    read_run = run_is m h run w.running

    pub read_bus : bus_at n h ≡ bus
    read_bus = (bus_read n h bus).1 w.bus_active_lem

    pub read_parameters : R.parameters h ≡ q
    read_parameters = parameters_are h w.parameters

-- ── the ruling rank ──
choose_elim : {A : Type 0} (Q : A → Type 0) (b : Bool) {x y : A} → (b ≡ true → Q x) → (b ≡ false → Q y) → Q (choose b x y)
choose_elim Q true f g = f refl
choose_elim Q false f g = g refl

rank_path : {c c' : Commands} {r r' : ℕ} {b b' : Bool} → c ≡ c' → r ≡ r' → b ≡ b'
    → Rank.ruling_rank (Rank.active_byte c r b) ≡ first_that_fits (P.commanders c' r' b')
rank_path {c' = c'} {r' = r'} {b' = b'} x y z = (λ i. Rank.ruling_rank (Rank.active_byte (x i) (y i) (z i))) ∙ same_ruling c' r' b'

module _ (t : Event) (h : List Event) (k : t.kind ≡ 1) (f : Fit h) {c : Commands} {run : ℕ} {bus : Bool} {q : List ℕ}
    (w : L.Read 0 1 h c run bus q) where
  pub rank_is : R.rank_at t h ≡ first_that_fits (P.commanders c run bus)
  unfolding R.rank_at
  rank_is = rank_path (read_commands 0 1 h f w) (run_stands h ∙ read_run 0 1 h f w) (bus_at_tick t h k ∙ read_bus 0 1 h f w)

  pub target_from : (p x : ℕ) → P.Target c run p q (first_that_fits (P.commanders c run bus)) x → R.target_from p t h ≡ x
  unfolding R.target_from
  target_from p x y =
      let a = read_commands 0 1 h f w in
      let b = run_stands h ∙ read_run 0 1 h f w in
      let d = read_parameters 0 1 h f w in
      let e = rank_is in
      (λ i. get_or (Rank.targets (a i) (b i) p (d i)) (e i) 0)
      ∙ same_target c run p q (rw d at f.low_high) (first_that_fits (P.commanders c run bus)) x y

source_is : (s : Rank.Source) (n : ℕ) → L.Ranked s n → Rank.source_at n ≡ s
source_is s n L.fault = refl
source_is s n L.forcing = refl
source_is s n L.run = refl
source_is s n L.hand = refl
source_is s n L.tool = refl
source_is s n L.bus = refl
source_is s n L.backup = refl

source_has : (n : ℕ) → n ≤ 6 → L.Ranked (Rank.source_at n) n
source_has zero l = L.backup
source_has (suc zero) l = L.bus
source_has (suc (suc zero)) l = L.tool
source_has (suc (suc (suc zero))) l = L.hand
source_has (suc (suc (suc (suc zero)))) l = L.run
source_has (suc (suc (suc (suc (suc zero))))) l = L.forcing
source_has (suc (suc (suc (suc (suc (suc zero)))))) l = L.fault
source_has (suc (suc (suc (suc (suc (suc (suc n))))))) l = absurd (omega arith)

rank_most : (c : Commands) (run : ℕ) (bus : Bool) → first_that_fits (P.commanders c run bus) ≤ 6
rank_most c run bus =
    let Q : ℕ → Type 0 = λ n. n ≤ 6 in
    choose_elim Q (c.fault is 1) (λ e. omega arith)
    (λ e. choose_elim Q (c.forcing is 2 || c.forcing is 3) (λ e. omega arith)
    (λ e. choose_elim Q (run is_not 0) (λ e. omega arith)
    (λ e. choose_elim Q (c.hand is 1) (λ e. omega arith)
    (λ e. choose_elim Q (c.tool is 1) (λ e. omega arith)
    (λ e. choose_elim Q bus (λ e. omega arith)
    (λ e. omega arith))))))

pub ruling_read : (h : List Event) → Fit h → {c : Commands} {run : ℕ} {bus : Bool} {q : List ℕ} → L.Read 0 0 h c run bus q
    → (s : Rank.Source) → (R.ruling_source_in h ≡ s) ↔ L.Ranked s (first_that_fits (P.commanders c run bus))
unfolding R.ruling_source_in
ruling_read h f {c} {run} {bus} w s =
    let n = first_that_fits (P.commanders c run bus) in
    let r = rank_path (read_commands 0 0 h f w) (run_stands h ∙ read_run 0 0 h f w) (bus_stands h ∙ read_bus 0 0 h f w) in
    let e : R.ruling_source_in h ≡ Rank.source_at (first_that_fits (P.commanders c run bus)) = ap Rank.source_at r in
    (λ x. subst (λ (y : Rank.Source). L.Ranked y n) (sym e ∙ x) (source_has n (rank_most c run bus)), λ x. e ∙ source_is s n x)

-- ── the target: there is one ──
module _ (c : Commands) (run : ℕ) (bus : Bool) (p : ℕ) (q : List ℕ) (most : run ≤ 3) (mode : P.BackupMode q ≤ 1)
    (stored : c.stored ≤ 1) where
  abbrev Aim : ℕ → Type 0
  Aim rank = (t : ℕ) × P.Target c run p q rank t

  brought_in : (v : ℕ) → (t : ℕ) × P.Brought (P.Low q) (P.High q) v t
  brought_in v = some_brought (P.Low q) (P.High q) v

  backup_aim : Aim 0
  backup_aim =
      cases (eqb (P.BackupMode q) 0)
      (λ e. let x = brought_in (to_position (P.BackupValue q)) in (x.0, P.backup_value (eqb-true _ _ e) x.1))
      (λ e. let n = eqb-false (P.BackupMode q) 0 e in
      cases (eqb c.stored 0)
      (λ g. (p, P.no_setpoint (omega arith) (eqb-true _ _ g)))
      (λ g. let k = eqb-false c.stored 0 g in
      let x = brought_in c.setpoint in (x.0, P.last_setpoint (omega arith) (omega arith) x.1)))

  run_aim : (run ≡ 0 → ⊥) → Aim 4
  run_aim n =
      cases (eqb run 1) (λ e. (0, P.calibration (eqb-true _ _ e)))
      (λ e. let n1 = eqb-false run 1 e in
      cases (eqb run 2) (λ e. (0, P.sync_close (eqb-true _ _ e)))
      (λ e. let n2 = eqb-false run 2 e in
      cases (eqb run 0) (λ e. absurd (n (eqb-true _ _ e)))
      (λ e. let n0 = eqb-false run 0 e in (255, P.sync_open (omega arith)))))

  pub some_target : Aim (first_that_fits (P.commanders c run bus))
  some_target =
      choose_elim Aim (c.fault is 1) (λ e. (p, P.fault))
      (λ e. choose_elim Aim (c.forcing is 2 || c.forcing is 3)
      (λ e.
      one (c.forcing is 2) (c.forcing is 3) e (λ g. (0, P.forced_to_0 (eqb-true _ _ g))) (λ g. (255, P.forced_to_255 (eqb-true _ _ g))))
      (λ e. choose_elim Aim (run is_not 0)
      (λ e. run_aim (eqb-false _ _ (not-true (eqb run 0) e)))
      (λ e. choose_elim Aim (c.hand is 1) (λ e. let x = brought_in c.handpos in (x.0, P.hand x.1))
      (λ e. choose_elim Aim (c.tool is 1) (λ e. let x = brought_in c.toolpos in (x.0, P.tool x.1))
      (λ e. choose_elim Aim bus (λ e. let x = brought_in c.setpoint in (x.0, P.bus x.1))
      (λ e. backup_aim))))))

-- a setpoint is there or not
stored_most : (h : List Event) → R.setpoint_in h ≤ 1
unfolding R.setpoint_in
stored_most h = go (R.latest R.is_setpoint (R.current h))
  where
    go : (x : R.Found) → R.value_in 0 (λ e. 1) x ≤ 1
    go R.nothing = omega arith
    go (R.found a e b) = omega arith

pub has_target : (h : List Event) → Fit h → (p : ℕ) → (t : ℕ) × L.Target h p t
has_target h f p =
    let most = run_at_most 0 h (run_at 0 h) (has_run 0 h) in
    let x = some_target (R.commands_in h) (run_at 0 h) (bus_at 1 h) p (R.parameters h) most f.mode (stored_most h) in
    (x.0, L.target (has_read 0 1 h f) x.1)

pub target_is : (t : Event) (h : List Event) → t.kind ≡ 1 → Fit h → (p x : ℕ) → L.Target h p x → R.target_from p t h ≡ x
target_is t h k f p x (L.target w y) = target_from t h k f w p x y

pub target_read : (t : Event) (h : List Event) → t.kind ≡ 1 → Fit h → (p x : ℕ) → (R.target_from p t h ≡ x) ↔ L.Target h p x
target_read t h k f p x =
    let y = has_target h f p in
    (λ e. subst (L.Target h p) (sym (target_is t h k f p y.0 y.1) ∙ e) y.1, target_is t h k f p x)

-- ── the position ──
position_tick : (e : Event) (h : List Event) → e.kind ≡ 1
    → R.position_in (e ∷ h) ≡ toward (R.position_in h) (R.target_from (R.position_in h) e h) (rate (R.parameters h))
unfolding R.position_in
position_tick e h k = rw k

position_other : (e : Event) (h : List Event) → (e.kind ≡ 1 → ⊥) → R.position_in (e ∷ h) ≡ R.position_in h
unfolding R.position_in
position_other e h k = rw (ne_eqb e.kind 1 k)

position_start : R.position_in [] ≡ 0
unfolding R.position_in
position_start = refl

pub position_is : {h : List Event} {p : ℕ} → Fits h → L.Position h p → R.position_in h ≡ p
position_is f L.start = position_start
position_is (more f g) (L.tick {e = e} {h = h} {p = p} {t = t} {n = n} {q = q} k x y w z) =
    position_tick e h k
    ∙ rw (position_is g x, target_is e h k (fit g) p t y, parameters_are h w) (same_move p t (P.Rate q) n z)
position_is (more f g) (L.other {e = e} {h = h} k x) = position_other e h k ∙ position_is g x

has_position : (h : List Event) → Fits h → (p : ℕ) × L.Position h p
has_position [] f = (0, L.start)
has_position (e ∷ h) (more f g) =
    let x = has_position h g in
    cases (eqb e.kind 1)
    (λ k.
    let y = has_target h (fit g) x.0 in
    let z = some_move x.0 y.0 (P.Rate (R.parameters h)) in
    (z.0, L.tick (eqb-true _ _ k) x.1 y.1 (has_parameters h) z.1))
    (λ k. (x.0, L.other (eqb-false _ _ k) x.1))

pub position_read : (h : List Event) → Fits h → (p : ℕ) → (R.position_in h ≡ p) ↔ L.Position h p
position_read h f p =
    let x = has_position h f in
    (λ e. subst (L.Position h) (sym (position_is f x.1) ∙ e) x.1, position_is f)

-- ── the travel ──
travel_more : (e : Event) (h : List Event) → R.travel_in (e ∷ h) ≡ R.travel_in h + distance (R.position_in h) (R.position_in (e ∷ h))
unfolding R.travel_in
travel_more e h = refl

travel_start : R.travel_in [] ≡ 0
unfolding R.travel_in
travel_start = refl

pub travel_is : {h : List Event} {n : ℕ} → Fits h → L.Travel h n → R.travel_in h ≡ n
travel_is f L.start = travel_start
travel_is (more f g) (L.rising {e = e} {h = h} {p = p} {q = q} {n = n} k x y z l) =
    travel_more e h ∙ rw (travel_is g x, position_is g y, position_is (more f g) z) (omega arith)
travel_is (more f g) (L.falling {e = e} {h = h} {p = p} {q = q} {n = n} k x y z l) =
    travel_more e h ∙ rw (travel_is g x, position_is g y, position_is (more f g) z) (omega arith)
travel_is (more f g) (L.other {e = e} {h = h} {n = n} k x) =
    travel_more e h ∙ rw (position_other e h k, travel_is g x) (omega arith)

has_travel : (h : List Event) → Fits h → (n : ℕ) × L.Travel h n
has_travel [] f = (0, L.start)
has_travel (e ∷ h) (more f g) =
    let x = has_travel h g in
    let y = has_position h g in
    let z = has_position (e ∷ h) (more f g) in
    cases (eqb e.kind 1)
    (λ k.
    cases (leb y.0 z.0)
    (λ l. (x.0 + (z.0 - y.0), L.rising (eqb-true _ _ k) x.1 y.1 z.1 (leb-true y.0 z.0 l)))
    (λ l. let b = leb-false y.0 z.0 l in
    (x.0 + (y.0 - z.0), L.falling (eqb-true _ _ k) x.1 y.1 z.1 (omega arith))))
    (λ k. (x.0, L.other (eqb-false _ _ k) x.1))

pub travel_read : (h : List Event) → Fits h → (n : ℕ) → (R.travel_in h ≡ n) ↔ L.Travel h n
travel_read h f n =
    let x = has_travel h f in
    (λ e. subst (L.Travel h) (sym (travel_is f x.1) ∙ e) x.1, travel_is f)

pub capped : (n : ℕ) → min n 4294967295 ≡ choose (n exceeds 4294967295) 4294967295 n
capped n =
    cases (ltb 4294967295 n)
    (λ e. let h = ltb-true 4294967295 n e in rw e (omega arith))
    (λ e. let h = ltb-false 4294967295 n e in rw e (omega arith))

-- ── the status ──
status_path : {c c' : Commands} {r r' : ℕ} {b b' : Bool} → c ≡ c' → r ≡ r' → b ≡ b' → status c r b ≡ status c' r' b'
status_path x y z = λ i. status (x i) (y i) (z i)

commands_tick : (t : Event) (h : List Event) → t.kind ≡ 1 → R.commands_in (t ∷ h) ≡ R.commands_in h
unfolding R.fault_in R.forcing_in R.hand_in R.hand_value R.tool_in R.tool_value R.setpoint_in R.setpoint_value
commands_tick t h k =
    λ i. record {
      fault = said_tick t k 0 (λ (x : Event). x.a) R.is_fault h (rw k) i;
      forcing = said_tick t k 0 (λ (x : Event). x.a) R.is_forcing h (rw k) i;
      hand = said_tick t k 0 (λ (x : Event). x.a) R.is_hand h (rw k) i;
      handpos = said_tick t k 0 (λ (x : Event). pick (eqb x.a 1) x.b 0) R.is_hand h (rw k) i;
      tool = said_tick t k 0 (λ (x : Event). pick (eqb x.c 1) 1 0) R.is_tool h (rw k) i;
      toolpos = said_tick t k 0 (λ (x : Event). pick (eqb x.c 1) (to_position x.b) 0) R.is_tool h (rw k) i;
      stored = said_tick t k 0 (λ (x : Event). 1) R.is_setpoint h (rw k) i;
      setpoint = said_tick t k 0 (λ (x : Event). pick (eqb x.kind 2) x.a (to_position x.b)) R.is_setpoint h (rw k) i;
    }

pub status_stands : (h : List Event) → Fit h → {c : Commands} {run : ℕ} {bus : Bool} {q : List ℕ} → L.Read 0 0 h c run bus q
    → R.status_in h ≡ status c run bus
unfolding R.status_in
status_stands h f w = status_path (read_commands 0 0 h f w) (run_stands h ∙ read_run 0 0 h f w) (bus_stands h ∙ read_bus 0 0 h f w)

pub status_bit : (h : List Event) → Fit h → {c : Commands} {run : ℕ} {bus : Bool} {q : List ℕ} → L.Read 0 0 h c run bus q → (i : ℕ)
    → (R.status_in h / 2 ^ i % 2 ≡ 1) ↔ P.Shown c run bus i
status_bit h f {c} {run} {bus} w i = rw (status_stands h f w) (status_bits c run bus i)

pub status_at_tick : (t : Event) (h : List Event) → t.kind ≡ 1 → Fit h → {c : Commands} {run : ℕ} {bus : Bool} {q : List ℕ}
    → L.Read 1 1 h c run bus q → R.status_in (t ∷ h) ≡ status c run bus
unfolding R.status_in
status_at_tick t h k f w =
    status_path (commands_tick t h k ∙ read_commands 1 1 h f w) (run_at_tick t h k ∙ read_run 1 1 h f w)
    (bus_at_tick t h k ∙ read_bus 1 1 h f w)

-- numbers with the same bits are the same
half_bit : (x i : ℕ) → x / 2 ^ suc i % 2 ≡ x / 2 / 2 ^ i % 2
half_bit x i = ap (λ (n : ℕ). x / n % 2) (pow-succ' 2 i) ∙ ap (λ (n : ℕ). n % 2) (sym (div-div-eq-div-mul x 2 (2 ^ i)))

lowest_bit : (x : ℕ) → x / 2 ^ 0 % 2 ≡ x % 2
lowest_bit x = ap (λ (n : ℕ). n % 2) (div-one x)

same_bits : (n x y : ℕ) → x ≤ n → y ≤ n → ((i : ℕ) → (x / 2 ^ i % 2 ≡ 1) ↔ (y / 2 ^ i % 2 ≡ 1)) → x ≡ y
same_bits zero x y a b h = omega arith
same_bits (suc n) x y a b h =
    let u = lowest_bit x in
    let v = lowest_bit y in
    let there : x % 2 ≡ 1 → y % 2 ≡ 1 = λ e. sym v ∙ (h 0).0 (u ∙ e) in
    let back : y % 2 ≡ 1 → x % 2 ≡ 1 = λ e. sym u ∙ (h 0).1 (v ∙ e) in
    let rest = same_bits n (x / 2) (y / 2) (omega arith) (omega arith)
    (λ i. (λ e. sym (half_bit y i) ∙ (h (suc i)).0 (half_bit x i ∙ e), λ e. sym (half_bit x i) ∙ (h (suc i)).1 (half_bit y i ∙ e))) in
    cases (eqb (x % 2) 1)
    (λ e. let p = eqb-true (x % 2) 1 e in let q = there p in omega arith)
    (λ e. let p = eqb-false (x % 2) 1 e in
    cases (eqb (y % 2) 1) (λ g. absurd (p (back (eqb-true _ _ g)))) (λ g. let q = eqb-false (y % 2) 1 g in omega arith))

pub bits_are : (c : Commands) (run : ℕ) (bus : Bool) (s : ℕ) → L.Bits c run bus s → status c run bus ≡ s
bits_are c run bus s b =
    same_bits (status c run bus + s) (status c run bus) s (omega arith) (omega arith)
    (λ i. (λ e. (b i).1 ((status_bits c run bus i).0 e), λ e. (status_bits c run bus i).1 ((b i).0 e)))

pub tick_status_is : (t : Event) (h : List Event) → t.kind ≡ 1 → Fit h → (s : ℕ) → L.TickStatus h s → R.status_in (t ∷ h) ≡ s
tick_status_is t h k f s (L.left {c = c} {run = run} {bus = bus} w b) = status_at_tick t h k f w ∙ bits_are c run bus s b

pub has_tick_status : (t : Event) (h : List Event) → t.kind ≡ 1 → Fit h → L.TickStatus h (R.status_in (t ∷ h))
has_tick_status t h k f =
    let w = has_read 1 1 h f in
    L.left w (rw (status_at_tick t h k f w) (status_bits (R.commands_in h) (run_at 1 h) (bus_at 1 h)))
