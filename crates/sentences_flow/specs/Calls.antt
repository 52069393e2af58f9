-- Proofs: the flow record, one call, and what a host hands over and is handed.
use Rattle.std.specs.Prelude.{◌≡◌, refl, ◌↔◌, Bool, true, false, not, ℕ, ◌≤◌, leb, pos, Float, Option, Some, Result, Ok, Err}
use Rattle.std.proofs.Common.{sym, ap, ◌∙◌, subst, add-one, arith, leb-true, leb-false, le-leb, ne_eqb}
use Rattle.std.proofs.lemmas.Bool.{false≢true, eqb-false}
use Rattle.std.proofs.Math.Bool.{or-true}
use Rattle.std.specs.Float.{fin, binary32}
use Rattle.std.specs.Float.Ieee.{mul, le, neg}
use Rattle.numbers.specs.Numbers.{on, is_flag, next}
use Rattle.numbers.specs.Laws.{cases, and_left, and_right, and_intro}
use Rattle.numbers.specs.Says.{Says, unset}
use Rattle.flow.specs.declared.Reading.{Reading}
use Rattle.flow.specs.declared.Reading.TheVariants.{Flow, Share, Broken}
use Rattle.flow.specs.declared.FlowRefusal.{FlowRefusal}
use Rattle.flow.specs.declared.FlowRefusal.TheVariants as By
use Rattle.flow.specs.declared.FlowRecord.{FlowRecord}
use Rattle.flow.specs.Answer.{FlowAnswer, No, Silent, Report, FlowOutcome}
use Rattle.flow.specs.Flow.{whole, is_setting, is_flow, is_share, measured, percent_of, apart, fresh_record, settings_fit, well_formed}
use Rattle.flow.specs.Flow.{ticked, due_by, due_at, told, hear_of, outcome, heard_with, heard}
use Rattle.flow.specs.FloatLaws.{zero_is}
use Rattle.flow.specs.Laws.{settings, parts, nominal_set, measured_flow, hear_kept}
use Rattle.flow.specs.Laws.{reading_refused, record_refused, refused_by_23}
use Rattle.flow.specs.declared.FlowHeard.{FlowHeard}
use Rattle.host_flow.specs.Host.{reading_of}
use Rattle.sentences_flow.specs.Paper as S
use Rattle.sentences_flow.specs.Floats.{one_is, same_setting, same_flow, same_share, same_product, same_percent, same_differs}

-- ── 22 ──

pub same_fresh : (nominal cov : Float) (time : ℕ) → fresh_record nominal cov time ≡ S.fresh nominal cov time
same_fresh nominal cov time = rw zero_is

-- what 22 takes, part by part
fits : (r : FlowRecord) → is_setting r.nominal ≡ true → is_setting r.cov ≡ true → leb 1 r.time ≡ true → leb r.time 3600 ≡ true
    → is_flow r.last ≡ true → is_flag r.sent ≡ true → well_formed r ≡ true
unfolding well_formed settings_fit
fits r n c a b l s = and_intro (and_intro (and_intro (and_intro (and_intro n c) a) b) l) s

out_of : {X : Type 0} (b : Bool) → Says b X → b ≡ false → X → ⊥
out_of b e f = (unset b e).0 f

pub same_22 : (r : FlowRecord) → (well_formed r ≡ false) ↔ S.By22 r
same_22 r = (refuses, refused)
  where
    refuses : well_formed r ≡ false → S.By22 r
    refuses w =
        cases (is_setting r.nominal)
        (λ n.
        cases (is_setting r.cov)
        (λ c.
        cases (leb 1 r.time)
        (λ a.
        cases (leb r.time 3600)
        (λ b.
        cases (is_flow r.last)
        (λ l. cases (is_flag r.sent) (λ s. absurd (false≢true (sym w ∙ fits r n c a b l s))) (λ s. S.flag_out (leb-false r.sent 1 s)))
        (λ l. S.last_out (out_of (is_flow r.last) (same_flow r.last) l)))
        (λ b. S.time_above (leb-false r.time 3600 b)))
        (λ a. S.time_below (leb-false 1 r.time a)))
        (λ c. S.cov_out (out_of (is_setting r.cov) (same_setting r.cov) c)))
        (λ n. S.nominal_out (out_of (is_setting r.nominal) (same_setting r.nominal) n))

    taken : well_formed r ≡ true → S.By22 r → ⊥
    taken w by =
        let p = parts r w in
        let q = settings r.nominal r.cov r.time p.settings in
        go ((same_setting r.nominal).0 q.nominal) ((same_setting r.cov).0 q.cov) q.time_least q.time_most
        ((same_flow r.last).0 p.last)
        (leb-true r.sent 1 p.sent)
        by
      where
        go : S.Between 1 1000000 r.nominal → S.Between 1 1000000 r.cov → 1 ≤ r.time → r.time ≤ 3600 → S.Between 0 1000000 r.last
            → r.sent ≤ 1 → S.By22 r → ⊥
        go n c a b l s (S.nominal_out h) = h n
        go n c a b l s (S.cov_out h) = h c
        go n c a b l s (S.time_below h) = omega arith
        go n c a b l s (S.time_above h) = omega arith
        go n c a b l s (S.last_out h) = h l
        go n c a b l s (S.flag_out h) = omega arith

    refused : S.By22 r → well_formed r ≡ false
    refused by = cases (well_formed r) (λ w. absurd (taken w by)) (λ w. w)

-- and what it does not refuse
pub formed : (r : FlowRecord) → (S.By22 r → ⊥) → well_formed r ≡ true
formed r n = cases (well_formed r) (λ w. w) (λ w. absurd (n ((same_22 r).0 w)))

pub refused_22 : (r : FlowRecord) (got : Reading) → S.By22 r → hear_of r got ≡ outcome r (No 22)
refused_22 r got b = record_refused r got ((same_22 r).1 b)

-- ── 23 ──

pub same_23 : (n : Float) (got : Reading) → (measured n got ≡ Err By.Reading) ↔ S.By23 got
same_23 n got = (refuses got, refused)
  where
    refuses : (got : Reading) → measured n got ≡ Err By.Reading → S.By23 got
    refuses (Flow x) e = cases (is_flow x) (λ q. let e· = rw q at e in cc) (λ q. S.flow_out x (out_of (is_flow x) (same_flow x) q))
    refuses (Share x) e =
        cases (is_share x) (λ q. let e· = rw q at e in cc) (λ q. S.share_out x (out_of (is_share x) (same_share x) q))
    refuses Broken e = cc

    refused : {got : Reading} → S.By23 got → measured n got ≡ Err By.Reading
    refused (S.flow_out x h) = rw ((unset (is_flow x) (same_flow x)).1 h)
    refused (S.share_out x h) = rw ((unset (is_share x) (same_share x)).1 h)

-- and nothing else refuses a reading
pub same_refused : (n : Float) (got : Reading) (refusal : FlowRefusal)
    → (measured n got ≡ Err refusal) ↔ (S.By23 got × (refusal ≡ By.Reading))
same_refused n got refusal = (there, λ p. (same_23 n got).1 p.0 ∙ ap err (sym p.1))
  where
    err : FlowRefusal → Result (Option Float) FlowRefusal
    err r = Err r

    there : measured n got ≡ Err refusal → S.By23 got × (refusal ≡ By.Reading)
    there e = let r = refused_by_23 n got refusal e in ((same_23 n got).0 (e ∙ ap err r), r)

pub refused_23 : (r : FlowRecord) (got : Reading) → (S.By22 r → ⊥) → S.By23 got → hear_of r got ≡ outcome r (No 23)
refused_23 r got n b = reading_refused r got (formed r n) ((same_23 r.nominal got).1 b)

-- a reading that 23 takes
flow_in : (x : Float) → (S.By23 (Flow x) → ⊥) → is_flow x ≡ true
flow_in x n = cases (is_flow x) (λ q. q) (λ q. absurd (n (S.flow_out x (out_of (is_flow x) (same_flow x) q))))

share_in : (x : Float) → (S.By23 (Share x) → ⊥) → is_share x ≡ true
share_in x n = cases (is_share x) (λ q. q) (λ q. absurd (n (S.share_out x (out_of (is_share x) (same_share x) q))))

pub same_measured : (n : Float) (got : Reading) (x : Float) → S.Between 1 1000000 n
    → (measured n got ≡ Ok (Some x)) ↔ ((S.By23 got → ⊥) × S.FlowOf n got x)
same_measured n got x i = (λ e. (not_refused got e, flow_of got e), λ p. measures p.1 p.0)
  where
    not_refused : (got : Reading) → measured n got ≡ Ok (Some x) → S.By23 got → ⊥
    not_refused got e b = let z = sym ((same_23 n got).1 b) ∙ e in cc

    flow_of : (got : Reading) → measured n got ≡ Ok (Some x) → S.FlowOf n got x
    flow_of (Flow y) e =
        cases (is_flow y)
        (λ q. let e· = rw q at e in let same : y ≡ x = cc in subst (λ (z : Float). S.FlowOf n (Flow y) z) same (S.a_flow y))
        (λ q. let e· = rw q at e in cc)
    flow_of (Share y) e =
        cases (is_share y)
        (λ q.
        let e· = rw q at e in
        let same : mul binary32 n y ≡ x = cc in
        subst (λ (z : Float). S.FlowOf n (Share y) z) (sym (same_product n y i ((same_share y).0 q)) ∙ same) (S.a_share y))
        (λ q. let e· = rw q at e in cc)
    flow_of Broken e = cc

    measures : {got : Reading} {x : Float} → S.FlowOf n got x → (S.By23 got → ⊥) → measured n got ≡ Ok (Some x)
    measures (S.a_flow y) b = rw (flow_in y b)
    measures (S.a_share y) b = let q = share_in y b in rw q (ap (λ (y : Float). Ok (Some y)) (same_product n y i ((same_share y).0 q)))

-- ── An accepted call ──

-- due, once since has risen
pub same_due : (r : FlowRecord) (x : Float) → well_formed r ≡ true → is_flow x ≡ true → Says (due_at (ticked r) x) (S.Due r x)
unfolding due_by
same_due r x w f = (due, is_due_lem)
  where
    far : (le r.cov (apart x r.last) ≡ true) ↔ S.Differs r.cov x r.last
    far =
        let p = parts r w in
        let q = settings r.nominal r.cov r.time p.settings in
        same_differs r.cov x r.last ((same_setting r.cov).0 q.cov) ((same_flow x).0 f) ((same_flow r.last).0 p.last)

    due : due_at (ticked r) x ≡ true → S.Due r x
    due e =
        let t = leb-true r.time (next r.since) (and_left (leb r.time (next r.since)) _ e) in
        let o = and_right (leb r.time (next r.since)) _ e in
        let s = leb-true r.sent 1 (parts r w).sent in
        cases (on r.sent)
        (λ q. S.far_enough (omega arith) (far.0 (rw q at o)))
        (λ q. let n = eqb-false r.sent 1 q in S.first_one (omega arith) (omega arith))

    is_due_lem : S.Due r x → due_at (ticked r) x ≡ true
    is_due_lem (S.first_one t z) = and_intro (le-leb r.time (next r.since) (omega arith)) (rw z)
    is_due_lem (S.far_enough t d) = and_intro (le-leb r.time (next r.since) (omega arith)) (rw (far.1 d) (or-true (not (on r.sent))))

-- the record with since risen
ticked_is : (r : FlowRecord) → ticked r ≡ S.after r r.last (S.risen r) r.sent
ticked_is r = rw add-one

-- a call with a flow, and one that is broken
hear_at : (r : FlowRecord) (got : Reading) (x : Float) → well_formed r ≡ true → measured r.nominal got ≡ Ok (Some x)
    → hear_of r got ≡ told (ticked r) x
unfolding hear_of
hear_at r got x w m = rw (w, m)

hear_broken : (r : FlowRecord) → well_formed r ≡ true → hear_of r Broken ≡ outcome (S.after r r.last (S.risen r) r.sent) Silent
unfolding hear_of
hear_broken r w = rw w (ap (λ (q : FlowRecord). outcome q Silent) (ticked_is r))

-- a flow that is due, and one that is not
told_due : (r : FlowRecord) (x : Float) (p : ℕ) → due_at (ticked r) x ≡ true → percent_of r.nominal x ≡ p
    → told (ticked r) x ≡ outcome (S.after r x 0 1) (Report x p)
told_due r x p d e = rw (d, e)

told_silent : (r : FlowRecord) (x : Float) → due_at (ticked r) x ≡ false
    → told (ticked r) x ≡ outcome (S.after r r.last (S.risen r) r.sent) Silent
told_silent r x d = rw d (ap (λ (q : FlowRecord). outcome q Silent) (ticked_is r))

-- what is heard is what the paper says, and nothing else is
pub same_hears : (r : FlowRecord) (got : Reading) (o : FlowOutcome) → (S.By22 r → ⊥) → (S.By23 got → ⊥)
    → (hear_of r got ≡ o) ↔ S.Hears r got o
same_hears r got o a b = (λ e. subst (S.Hears r got) e (hearing got b), λ h. heard_so h b)
  where
    w : well_formed r ≡ true
    w = formed r a

    n : S.Between 1 1000000 r.nominal
    n = (same_setting r.nominal).0 (nominal_set r w)

    flow : (got : Reading) (x : Float) → measured r.nominal got ≡ Ok (Some x) → is_flow x ≡ true
    flow got x e = measured_flow r.nominal got x (nominal_set r w) e

    with_flow : (got : Reading) (x : Float) → (S.By23 got → ⊥) → S.FlowOf r.nominal got x → S.Hears r got (hear_of r got)
    with_flow got x b f =
        let m = (same_measured r.nominal got x n).1 (b, f) in
        let i = (same_flow x).0 (flow got x m) in
        let h = hear_at r got x w m in
        let d = same_due r x w (flow got x m) in
        cases (due_at (ticked r) x)
        (λ q. rw (h ∙ told_due r x _ q refl) (S.sends f (d.0 q) ((same_percent r.nominal x n i _).0 refl)))
        (λ q. rw (h ∙ told_silent r x q) (S.keeps_silent f ((unset (due_at (ticked r) x) d).0 q)))

    hearing : (got : Reading) → (S.By23 got → ⊥) → S.Hears r got (hear_of r got)
    hearing (Flow x) b = with_flow (Flow x) x b (S.a_flow x)
    hearing (Share x) b = with_flow (Share x) (S.product r.nominal x) b (S.a_share x)
    hearing Broken b = rw (hear_broken r w) S.hears_broken

    heard_so : {got : Reading} {o : FlowOutcome} → S.Hears r got o → (S.By23 got → ⊥) → hear_of r got ≡ o
    heard_so (S.sends {got} {x} {p} f d c) b =
        let m = (same_measured r.nominal got x n).1 (b, f) in
        let i = flow got x m in
        hear_at r got x w m ∙ told_due r x p ((same_due r x w i).1 d) ((same_percent r.nominal x n ((same_flow x).0 i) p).1 c)
    heard_so (S.keeps_silent {got} {x} f d) b =
        let m = (same_measured r.nominal got x n).1 (b, f) in
        hear_at r got x w m ∙ told_silent r x ((unset (due_at (ticked r) x) (same_due r x w (flow got x m))).1 d)
    heard_so S.hears_broken b = hear_broken r w

pub stays : (r : FlowRecord) (got : Reading) → (S.By22 r → ⊥) → S.By22 (hear_of r got).state → ⊥
stays r got n b = false≢true (sym ((same_22 (hear_of r got).state).1 b) ∙ hear_kept r got (formed r n))

-- ── What a host hands over and is handed ──

pub same_reading : (kind : ℕ) (value : Float) (got : Reading) → S.ReadingOf kind value got → reading_of kind value ≡ got
same_reading kind value got (S.kind_0 x) = refl
same_reading kind value got (S.kind_1 x) = refl
same_reading kind value got (S.kind_2 x) = refl

-- another kind stands for a flow of -1
minus_one : S.Between 0 1000000 (neg (whole 1)) → ⊥
unfolding neg
minus_one i = go (subst (λ (z : Float). S.Between 0 1000000 (neg z)) one_is i)
  where
    go : S.Between 0 1000000 (neg (fin false 1 (pos 0))) → ⊥
    go i = let z = i.sign refl in omega arith

pub no_reading : (kind : ℕ) (value : Float) → 3 ≤ kind → S.By23 (reading_of kind value)
no_reading kind value h =
    rw (ne_eqb kind 0 (λ e. omega arith), ne_eqb kind 1 (λ e. omega arith), ne_eqb kind 2 (λ e. omega arith))
    (S.flow_out (neg (whole 1)) minus_one)

pub same_handed : (o : FlowOutcome) (h : FlowHeard) → (heard o ≡ h) ↔ S.HandedOver o h
same_handed o h = (
  λ e. subst (S.HandedOver o) e (record { state = state o.state o.answer; answer = hands o.state o.answer }),
  λ k. back o.answer k.state k.answer,
)
  where
    state : (r : FlowRecord) (a : FlowAnswer) → (heard_with r a).state ≡ r
    state r (No n) = refl
    state r Silent = refl
    state r (Report x p) = refl

    hands : (r : FlowRecord) (a : FlowAnswer)
        → S.Handed a (heard_with r a).flow (heard_with r a).refusal (heard_with r a).reported (heard_with r a).percent
    hands r (No n) = rw zero_is (S.hand_refusal n)
    hands r Silent = rw zero_is S.hand_silence
    hands r (Report x p) = S.hand_report x p

    back : {f : Float} {n k p : ℕ} {q : FlowRecord} (a : FlowAnswer) → q ≡ o.state → S.Handed a f n k p
        → heard_with o.state a ≡ record { state = q; flow = f; refusal = n; reported = k; percent = p }
    back a e (S.hand_refusal n) = rw (e, zero_is)
    back a e S.hand_silence = rw (e, zero_is)
    back a e (S.hand_report x p) = rw e
