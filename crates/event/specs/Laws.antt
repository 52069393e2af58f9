-- Laws of the event record: the eleven kinds by cases, and that reading a written event gives that event.
use Rattle.std.specs.Prelude.{◌≡◌, refl, true, false, not, List, ℕ, zero, suc, ◌<◌, ◌≤◌, ◌⊎◌, ◌&&◌, leb, ltb, eqb, Bool, length, take, drop, Result, Ok, Err}
use Rattle.std.specs.Result.{result_ok}
use Rattle.std.proofs.Common.{inl, inr, sym, subst, ◌∙◌, arith, lt-ltb, ltb-false, le-leb, leb-true, eqb-true, take_at}
use Rattle.std.proofs.Math.Bool.{or-true}
use Rattle.std.proofs.lemmas.Bool.{false≢true}
use Rattle.numbers.specs.Laws.{passed, not_false, and_left, and_right}
use Rattle.table.specs.Table.{known}
use Rattle.event.specs.declared.Event.{Event}
use Rattle.event.specs.Event.{Accepted, Refused}
use Rattle.numbers.specs.Numbers.{pick}
use Rattle.event.specs.declared.kind.Kind.{Kind}
use Rattle.answer.specs.declared.refusal.Refusal.{Refusal}
use Rattle.event.specs.Kinds.{IsKind, kind_found}
use Rattle.event.specs.Event as E

-- what holds of each of the eleven kinds holds of every kind that is not refused by 4
pub by_kind : (P : ℕ → Type 0) → P 1 → P 2 → P 3 → P 4 → P 5 → P 6 → P 7 → P 8 → P 9 → P 10 → P 11 → (k : ℕ) → E.bad_kind k ≡ false → P k
by_kind P p1 p2 p3 p4 p5 p6 p7 p8 p9 p10 p11 zero h = absurd (false≢true (sym h))
by_kind P p1 p2 p3 p4 p5 p6 p7 p8 p9 p10 p11 (suc zero) h = p1
by_kind P p1 p2 p3 p4 p5 p6 p7 p8 p9 p10 p11 (suc (suc zero)) h = p2
by_kind P p1 p2 p3 p4 p5 p6 p7 p8 p9 p10 p11 (suc (suc (suc zero))) h = p3
by_kind P p1 p2 p3 p4 p5 p6 p7 p8 p9 p10 p11 (suc (suc (suc (suc zero)))) h = p4
by_kind P p1 p2 p3 p4 p5 p6 p7 p8 p9 p10 p11 (suc (suc (suc (suc (suc zero))))) h = p5
by_kind P p1 p2 p3 p4 p5 p6 p7 p8 p9 p10 p11 (suc (suc (suc (suc (suc (suc zero)))))) h = p6
by_kind P p1 p2 p3 p4 p5 p6 p7 p8 p9 p10 p11 (suc (suc (suc (suc (suc (suc (suc zero))))))) h = p7
by_kind P p1 p2 p3 p4 p5 p6 p7 p8 p9 p10 p11 (suc (suc (suc (suc (suc (suc (suc (suc zero)))))))) h = p8
by_kind P p1 p2 p3 p4 p5 p6 p7 p8 p9 p10 p11 (suc (suc (suc (suc (suc (suc (suc (suc (suc zero))))))))) h = p9
by_kind P p1 p2 p3 p4 p5 p6 p7 p8 p9 p10 p11 (suc (suc (suc (suc (suc (suc (suc (suc (suc (suc zero)))))))))) h = p10
by_kind P p1 p2 p3 p4 p5 p6 p7 p8 p9 p10 p11 (suc (suc (suc (suc (suc (suc (suc (suc (suc (suc (suc zero))))))))))) h = p11
by_kind P p1 p2 p3 p4 p5 p6 p7 p8 p9 p10 p11 (suc (suc (suc (suc (suc (suc (suc (suc (suc (suc (suc (suc n)))))))))))) h = absurd (false≢true (sym h ∙ rw (lt-ltb 11 (suc (suc (suc (suc (suc (suc (suc (suc (suc (suc (suc (suc n)))))))))))) (omega arith)) (or-true (ltb (suc (suc (suc (suc (suc (suc (suc (suc (suc (suc (suc (suc n)))))))))))) 1))))

-- what kind and data bytes have passed that none of 4 to 8 fits
pub record Admitted (e : Event) : Type 0 where
  pub kind : E.bad_kind e.kind ≡ false
  pub a : E.bad_a e.kind e.a ≡ false
  pub percent : E.bad_percent e.kind e.b e.c ≡ false

pub admitted : (e : Event) → E.data_refusal e ≡ 0 → Admitted e
unfolding E.data_refusal
admitted e h =
    let k = passed (E.bad_kind e.kind) 4 _ h (omega arith) in
    let u = passed (E.unused_set e) 5 _ k.1 (omega arith) in
    let a = passed (E.bad_a e.kind e.a) 6 _ u.1 (omega arith) in
    let c = passed (E.bad_command e.kind e.c) 7 _ a.1 (omega arith) in
    record { kind = k.0; a = a.0; percent = (passed (E.bad_percent e.kind e.b e.c) 8 _ c.1 (omega arith)).0 }

-- so a write and a read of a parameter name a number of the table, and a percent that is used is at most 100
pub known_write : (e : Event) → E.data_refusal e ≡ 0 → e.kind ≡ 8 → known e.a ≡ true
unfolding E.form_of
known_write e h k = not_false (known e.a) (subst (λ (n : ℕ). E.bad_a n e.a ≡ false) k (admitted e h).a)

pub known_read : (e : Event) → E.data_refusal e ≡ 0 → e.kind ≡ 11 → known e.a ≡ true
unfolding E.form_of
known_read e h k = not_false (known e.a) (subst (λ (n : ℕ). E.bad_a n e.a ≡ false) k (admitted e h).a)

pub percent_most : (e : Event) → E.data_refusal e ≡ 0 → e.kind ≡ 3 → e.c ≤ 1 → e.b ≤ 100
percent_most e h k c =
    ltb-false 100 e.b
    (rw (le-leb e.c 1 c) at (subst (λ (n : ℕ). E.bad_percent n e.b e.c ≡ false) k (admitted e h).percent))

-- bytes that none of 2 to 8 fits are six and hold such an event
pub record_passed : (s : List ℕ) → E.record_refusal s ≡ 0 → (length s ≡ 6) × (E.data_refusal (E.event_in s) ≡ 0)
unfolding E.record_refusal
record_passed s h =
    let l = passed (not (eqb (length s) 6)) 2 _ h (omega arith) in
    (eqb-true _ _ (not_false _ l.0), (passed (E.bad_mark s) 3 _ l.1 (omega arith)).1)

read_bytes : (e : Event) → E.data_refusal e ≡ 0 → E.read_of (E.bytes_of e) ≡ Accepted e
unfolding E.read_of E.record_refusal
read_bytes e h = rw h

-- For every kind, a, b, c that the writer takes and every buffer, the reader gives the event back from the six bytes written.
pub read_written : (s : List ℕ) (e : Event) → E.write_refusal s e ≡ 0 → E.read_of (take 6 (E.written_to s e)) ≡ Accepted e
unfolding E.written_to E.write_refusal
read_written s e h =
    let t = passed (ltb (length s) 6) 2 (E.data_refusal e) h (omega arith) in
    rw h (rw (take_at (E.bytes_of e) (drop 6 s)) (read_bytes e t.1))

-- what the reader's answer says of the bytes
pub read_ok : (s : List ℕ) (e : Event) → Accepted e ≡ E.read_of s → (E.record_refusal s ≡ 0) × (e ≡ E.event_in s)
unfolding E.read_of
read_ok s e h = go (eqb (E.record_refusal s) 0) refl h
  where
    go : (b : Bool) → eqb (E.record_refusal s) 0 ≡ b → Accepted e ≡ pick b (Accepted (E.event_in s)) (Refused (E.record_refusal s))
        → (E.record_refusal s ≡ 0) × (e ≡ E.event_in s)
    go true q h = (eqb-true _ _ q, cc)
    go false q h = cc

-- an event that passed has one of the eleven kinds, so that its kind is found
pub kind_passed : (e : Event) → E.data_refusal e ≡ 0 → (e.kind < 1) ⊎ (11 < e.kind) → ⊥
kind_passed e h =
    by_kind (λ k. (k < 1) ⊎ (11 < k) → ⊥) (no 1 refl) (no 2 refl) (no 3 refl) (no 4 refl) (no 5 refl) (no 6 refl) (no 7 refl) (no 8 refl)
    (no 9 refl) (no 10 refl) (no 11 refl) e.kind (admitted e h).kind
  where
    no : (k : ℕ) → leb 1 k && leb k 11 ≡ true → (k < 1) ⊎ (11 < k) → ⊥
    no k h (inl l) = omega (arith, leb-true 1 k (and_left (leb 1 k) _ h))
    no k h (inr l) = omega (arith, leb-true k 11 (and_right (leb 1 k) _ h))

pub kind_is : (e : Event) (r : Result Kind Refusal) → E.data_refusal e ≡ 0 → IsKind e.kind r → kind_found (result_ok r) ≡ e.kind
kind_is e (Ok k) h i = i
kind_is e (Err f) h i = absurd (kind_passed e h i.1)
