-- The two loops of a hall tick: in the first each drive is advanced and its report held, and where it is due a key stands for it; in the
-- second those go that the choice keeps, and their reports' numbers take the place of the keys. At the end it is the hall tick of document
-- 02.
use Rattle.std.specs.Prelude.{◌≡◌, Bool, true, not, ◌&&◌, List, [], map, ℕ, ◌+◌, ◌*◌, ◌<◌, ◌≤◌, eqb, get_or, set, take, drop, ◌++◌}
use Rattle.std.proofs.Math.Path.{refl, sym, ap}
use Rattle.std.proofs.Common.{◌∙◌, ext_get_or, length-take, length-take-le, drop_of_length-le, append-nil}
use Rattle.std.proofs.Math.Bool.{false, and-false, and-true}
use native.Mathlib.Omega.{arith}
use Rattle.std.proofs.Math.Dec.{ltb}
use Rattle.std.proofs.Math.ListN.{length}
use borrow.Author.Tests.{lt-ltb, le-ltb, ltb-true, ltb-false, le-leb, eqb-true}
use Rattle.numbers.specs.Numbers.{pick, next}
use Rattle.numbers.specs.Laws.{cases, and_left, and_right, passed}
use Rattle.numbers.specs.Places.{tabulate}
use Rattle.numbers.specs.PlaceLaws.{tab_length, tab_at, tab_by, tab_same, tab_set, count_same}
use Rattle.order.specs.Order.{larger_first, rank}
use Rattle.order.specs.Keys.{key_of, key_once, first_keyed}
use Rattle.answer.specs.declared.Answer.{Answer}
use Rattle.damper.specs.declared.Drive.{Drive}
use Rattle.damper.specs.declared.Outcome.{Outcome}
use Rattle.damper.specs.Record.{fresh_drive, with_wait}
use Rattle.damper.specs.WellFormed.{well_formed}
use Rattle.damper.specs.Tick.{advance, due, reported, status_of}
use Rattle.damper.specs.Step.{tick_with}
use Rattle.damper.specs.Carry.{answers_in}
use Rattle.choice.specs.Sent.{is_report_number, report_at}
use Rattle.choice.specs.Choice.{key_if, number_in, Distinct, goes, kept, Next}
use Rattle.hall.specs.Hall.{Call, tick, bad_row, bad_quota, tick_refusal, call_refusal, at}
use Rattle.hall.specs.Quota.{due_now, wait_after, hall_ticked, wait_at, due_at, sends}
use Rattle.hall.specs.Turns.{Turn, turn, hall_tick, tick_number, turns_of, turned, row_after, answers_after, hall_step}
use Rattle.hall.specs.Laws.{ticked_fits, turned_length}
use Rattle.hall.specs.TickLaws.{tick_row, tick_numbers}
use Rattle.hall.specs.NumberLaws.{formed_number, unformed_number}

-- a drive whose report is held, and what stands for it
abbrev held_drive : Drive → Drive
held_drive d = (hall_ticked false d).drive

unfoldable pub held_number : Drive → ℕ → ℕ
held_number d i = pick (well_formed d) (key_if (due (advance d).drive) d.wait i) 1

-- the number of its report, if that goes
abbrev report_number : Drive → ℕ
report_number d = 65536 + 256 * (advance d).drive.position + status_of (advance d).drive

-- of a well-formed drive
hall_formed : (sent : Bool) (d : Drive) → well_formed d ≡ true
    → (hall_ticked sent d).drive ≡ with_wait (tick_with sent (advance d)).drive (wait_after (due (advance d).drive) sent d.wait)
unfolding hall_ticked
hall_formed sent d w = rw w

-- what a turn of the first loop gives, for a drive that is well formed, and for one that is not
pub held_formed : (d : Drive) (i : ℕ) → well_formed d ≡ true
    → (let a = (advance d).drive in
    (held_drive d ≡ with_wait a (pick (due a) (next d.wait) 0)) × (held_number d i ≡ key_if (due a) d.wait i))
unfolding tick_with held_number
held_formed d i w =
    let a = (advance d).drive in
    (hall_formed false d w ∙ ap (λ (b : Bool). with_wait a (pick b (next d.wait) 0)) (and-true (due a)), rw w)

pub held_unformed : (d : Drive) (i : ℕ) → well_formed d ≡ false → (held_drive d ≡ d) × (held_number d i ≡ 1)
unfolding held_number
held_unformed d i w = ((unformed_number false d w).1, rw w)

-- a report that was held goes
sent_after_held : (d : Drive) → due_now d ≡ true → with_wait (reported (held_drive d)) 0 ≡ (hall_ticked true d).drive
unfolding due_now tick_with
sent_after_held d e =
    let w = and_left (well_formed d) _ e in
    ap (λ (x : Drive). with_wait (reported x) 0) (hall_formed false d w)
    ∙ ap (λ (b : Bool). with_wait (reported (advance d).drive) (pick b (next d.wait) 0)) (sym (and-false (due (advance d).drive)))
    ∙ sym (hall_formed true d w)

-- its number, of the drive as it was held
number_after_held : (d : Drive) → due_now d ≡ true → 65536 + 256 * (held_drive d).position + status_of (held_drive d) ≡ report_number d
unfolding due_now tick_with
number_after_held d e = ap (λ (x : Drive). 65536 + 256 * x.position + status_of x) (hall_formed false d (and_left (well_formed d) _ e))

-- what stands for a drive is a report by size just where one is due, and then its key
held_due : (d : Drive) (i : ℕ) → is_report_number (held_number d i) ≡ due_now d
unfolding due_now held_number
held_due d i =
    cases (well_formed d)
    (λ w.
    rw w
    (cases (due (advance d).drive)
    (λ q. rw q (le-leb 65536 (65536 + key_of d.wait i) (omega arith)))
    (λ q. rw q)))
    (λ w. rw w)

held_key : (d : Drive) (i : ℕ) → due_now d ≡ true → held_number d i ≡ 65536 + key_of d.wait i
unfolding due_now held_number
held_key d i e = rw (and_left (well_formed d) _ e, and_right (well_formed d) _ e)

-- the number of a hall tick: that of the report where it is sent; where it is not, 0 if it is due, and otherwise what stands for it
abbrev number_if : Drive → Bool → ℕ
number_if d sent = tick_number (hall_ticked sent d).answer

number_sent : (d : Drive) → due_now d ≡ true → number_if d true ≡ report_number d
unfolding due_now
number_sent d e = formed_number true d (and_left (well_formed d) _ e)

number_held : (d : Drive) → due_now d ≡ true → number_if d false ≡ 0
unfolding due_now
number_held d e = formed_number false d (and_left (well_formed d) _ e)

number_kept : (d : Drive) (i : ℕ) → due_now d ≡ false → number_if d false ≡ held_number d i
unfolding due_now held_number
number_kept d i e =
    cases (well_formed d)
    (λ w. let u : due (advance d).drive ≡ false = rw w at e in rw (w, u) (formed_number false d w))
    (λ w. rw w (unformed_number false d w).0)

-- a number that is kept or set to 0 is a report where it was one and goes
kept_report : (x : ℕ) (g : Bool) → is_report_number (pick (is_report_number x && not (is_report_number x && g)) 0 x) ≡ is_report_number x && g
kept_report x true = cases (is_report_number x) (λ e. rw e e) (λ e. rw e e)
kept_report x false = cases (is_report_number x) (λ e. rw e) (λ e. rw e e)

-- the places of the row of numbers that stand for drives
abbrev pub front : List Drive → List ℕ → List ℕ
front ys ws = take (length ys) ws

-- what is known of a call: it ticks `n` drives, all of the row or, refused, none
pub record Ticks (ys : List Drive) (ws : List ℕ) (n : ℕ) : Type 0 where
  pub few : n ≤ 64
  pub room : n ≤ length ws
  pub within : n ≤ length ys
  pub all : 0 < n → length ys ≡ n

module _ (ys : List Drive) (ws : List ℕ) (quota n : ℕ) where
  abbrev drive : ℕ → Drive
  drive i = at ys i

  -- after `k` turns of the first loop: the drives, and what stands for them
  unfoldable pub held_by : ℕ → List Drive
  held_by k = tabulate (length ys) (λ i. pick (ltb i k) (held_drive (drive i)) (drive i))

  unfoldable pub due_by : ℕ → List ℕ
  due_by k = tabulate (length ws) (λ i. pick (ltb i k) (held_number (drive i) i) (get_or ws i 0))

  -- the numbers after the choice, and whose report goes by these
  unfoldable pub chosen : List ℕ
  chosen = kept (due_by n) n quota

  abbrev pub picked : ℕ → Bool
  picked i = report_at chosen i

  -- the drives and the numbers in the second loop, up to place `k`
  unfoldable pub sent_up_to : ℕ → List Drive
  sent_up_to k = tabulate (length ys) (λ i. pick (ltb i n) (hall_ticked (picked i && ltb i k) (drive i)).drive (drive i))

  unfoldable pub said_up_to : ℕ → List ℕ
  said_up_to k = tabulate (length ws) (λ i. pick (ltb i n && (picked i && ltb i k)) (report_number (drive i)) (get_or chosen i 0))

  pub chosen_kept : kept (due_by n) n quota ≡ chosen
  unfolding chosen
  chosen_kept = refl

  pub held_length : (k : ℕ) → length (held_by k) ≡ length ys
  unfolding held_by
  held_length k = tab_length (length ys) _

  pub due_length : (k : ℕ) → length (due_by k) ≡ length ws
  unfolding due_by
  due_length k = tab_length (length ws) _

  chosen_length : length chosen ≡ length ws
  unfolding chosen kept
  chosen_length = tab_length (length (due_by n)) _ ∙ due_length n

  pub sent_length : (k : ℕ) → length (sent_up_to k) ≡ length ys
  unfolding sent_up_to
  sent_length k = tab_length (length ys) _

  pub said_length : (k : ℕ) → length (said_up_to k) ≡ length ws
  unfolding said_up_to
  said_length k = tab_length (length ws) _

  -- the first loop
  pub held_start : ys ≡ held_by 0
  unfolding held_by
  held_start = tab_by fresh_drive ys (length ys) _ refl (λ i l. rw (le-ltb i 0 (omega arith)))

  pub due_start : ws ≡ due_by 0
  unfolding due_by
  due_start = tab_by 0 ws (length ws) _ refl (λ i l. rw (le-ltb i 0 (omega arith)))

  pub held_old : (k : ℕ) → k < length ys → at (held_by k) k ≡ drive k
  unfolding held_by
  held_old k l = tab_at (length ys) _ fresh_drive k l ∙ rw (le-ltb k k (omega arith))

  -- a place other than `k` is before `k + 1` just where it is before `k`
  side : (i k : ℕ) → (i ≡ k → ⊥) → ltb i k ≡ ltb i (k + 1)
  side i k n =
      cases (ltb i k)
      (λ q. let b = ltb-true i k q in rw (q, lt-ltb i (k + 1) (omega arith)))
      (λ q. let b = ltb-false i k q in rw (q, le-ltb i (k + 1) (omega arith)))

  pub held_turn : (k : ℕ) (d : Drive) → k < length ys → d ≡ held_drive (drive k) → set (held_by k) k d ≡ held_by (k + 1)
  unfolding held_by
  held_turn k d l e = tab_set fresh_drive (length ys) _ _ k d l (e ∙ rw (lt-ltb k (k + 1) (omega arith))) (λ i h m. rw (side i k m))

  pub due_turn : (k x : ℕ) → k < length ws → x ≡ held_number (drive k) k → set (due_by k) k x ≡ due_by (k + 1)
  unfolding due_by
  due_turn k x l e = tab_set 0 (length ws) _ _ k x l (e ∙ rw (lt-ltb k (k + 1) (omega arith))) (λ i h m. rw (side i k m))

  -- the second loop: between `k` and `r` none goes
  none_between : (k r i : ℕ) → Next chosen k n r → picked i && ltb i k ≡ picked i && ltb i r
  none_between k r i next =
      let least = next.least in
      cases (ltb i k)
      (λ q. let b = ltb-true i k q in rw (q, lt-ltb i r (omega arith)))
      (λ q.
      let b = ltb-false i k q in
      cases (ltb i r)
      (λ t. rw (next.none i b (ltb-true i r t)))
      (λ t. rw (q, t)))

  sent_between : (k r : ℕ) → Next chosen k n r → sent_up_to k ≡ sent_up_to r
  unfolding sent_up_to
  sent_between k r next =
      tab_same fresh_drive (length ys) _ _
      (λ i l. ap (λ (b : Bool). pick (ltb i n) (hall_ticked b (drive i)).drive (drive i)) (none_between k r i next))

  pub said_between : (k r : ℕ) → Next chosen k n r → said_up_to k ≡ said_up_to r
  unfolding said_up_to
  said_between k r next =
      tab_same 0 (length ws) _ _ (λ i l. ap (λ (b : Bool). pick (ltb i n && b) (report_number (drive i)) (get_or chosen i 0)) (none_between k r i next))

  sent_none : held_by n ≡ sent_up_to 0
  unfolding held_by sent_up_to
  sent_none = tab_same fresh_drive (length ys) _ _ (λ i l. rw (le-ltb i 0 (omega arith), and-false (picked i)))

  said_none : chosen ≡ said_up_to 0
  unfolding said_up_to
  said_none = tab_by 0 chosen (length ws) _ chosen_length (λ i l. rw (le-ltb i 0 (omega arith), and-false (picked i), and-false (ltb i n)))

  pub sent_start : (r : ℕ) → Next chosen 0 n r → held_by n ≡ sent_up_to r
  sent_start r next = sent_none ∙ sent_between 0 r next

  pub said_start : (r : ℕ) → Next chosen 0 n r → chosen ≡ said_up_to r
  said_start r next = said_none ∙ said_between 0 r next

  -- from `k` on the numbers are as the choice left them
  said_behind : (k i : ℕ) → k ≤ i → i < length ws → get_or (said_up_to k) i 0 ≡ get_or chosen i 0
  unfolding said_up_to
  said_behind k i l b = tab_at (length ws) _ 0 i b ∙ rw (le-ltb i k l, and-false (picked i), and-false (ltb i n))

  module _ (t : Ticks ys ws n) where
    pub next_chosen : (k r : ℕ) → Next (said_up_to k) k n r → Next chosen k n r
    next_chosen k r next =
        let most = next.most in
        let least = next.least in
        let room = t.room in
        record {
          least = least;
          most = most;
          none = λ i a b. sym (ap is_report_number (said_behind k i a (omega arith))) ∙ next.none i a b;
          found = λ l. sym (ap is_report_number (said_behind k r least (omega arith))) ∙ next.found l;
        }

    pub sent_old : (k : ℕ) → k < n → at (sent_up_to k) k ≡ held_drive (drive k)
    unfolding sent_up_to
    sent_old k l =
        tab_at (length ys) _ fresh_drive k (omega (arith, t.within)) ∙ rw (lt-ltb k n l, le-ltb k k (omega arith), and-false (picked k))

    -- what stands for a drive, and whether it goes
    abbrev is_due : ℕ → Bool
    is_due i = report_at (due_by n) i

    due_at_lem : (i : ℕ) → i < n → get_or (due_by n) i 0 ≡ held_number (drive i) i
    unfolding due_by
    due_at_lem i l = tab_at (length ws) _ 0 i (omega (arith, t.room)) ∙ rw (lt-ltb i n l)

    is_due_lem : (i : ℕ) → i < n → is_due i ≡ due_at ys i
    is_due_lem i l = ap is_report_number (due_at_lem i l) ∙ held_due (drive i) i

    keyed : (i : ℕ) → i < n → is_due i ≡ true → number_in (due_by n) i ≡ 65536 + key_of (wait_at ys i) i
    keyed i l e = due_at_lem i l ∙ held_key (drive i) i (sym (is_due_lem i l) ∙ e)

    pub distinct : Distinct (due_by n) n
    distinct =
        record {
          few = t.few;
          room = omega (arith, t.room, due_length n);
          once = λ i j k l s e.
              key_once (wait_at ys) (number_in (due_by n)) 65536 is_due n t.few keyed i j k l s (ap is_report_number (sym e) ∙ s) e;
        }

    chosen_at : (i : ℕ) → i < n → get_or chosen i 0 ≡ pick (is_due i && not (goes (due_by n) n quota i)) 0 (get_or (due_by n) i 0)
    unfolding chosen kept
    chosen_at i l = tab_at (length (due_by n)) _ 0 i (omega (arith, due_length n, t.room)) ∙ rw (lt-ltb i n l)

    chosen_behind : (i : ℕ) → n ≤ i → i < length ws → get_or chosen i 0 ≡ get_or ws i 0
    unfolding chosen kept due_by
    chosen_behind i l b =
        tab_at (length (due_by n)) _ 0 i (omega (arith, due_length n)) ∙ rw (le-ltb i n l) (tab_at (length ws) _ 0 i b ∙ rw (le-ltb i n l))

    picked_goes : (i : ℕ) → i < n → picked i ≡ goes (due_by n) n quota i
    picked_goes i l = ap is_report_number (chosen_at i l) ∙ kept_report (get_or (due_by n) i 0) _

    -- those go that document 02 says
    picked_sends : (i : ℕ) → i < n → picked i ≡ sends quota ys i
    unfolding sends
    picked_sends i l =
        let behind = larger_first (wait_at ys) in
        picked_goes i l
        ∙ first_keyed (wait_at ys) (number_in (due_by n)) 65536 is_due n t.few keyed quota i l
        ∙ ap (λ (b : Bool). b && ltb (rank behind is_due n i) quota) (is_due_lem i l)
        ∙ ap (λ (r : ℕ). due_at ys i && ltb r quota) (count_same _ _ n (λ j k. ap (λ (b : Bool). b && behind i j) (is_due_lem j k)))
        ∙ rw (t.all (omega arith))

    picked_due : (i : ℕ) → i < n → picked i ≡ true → due_at ys i ≡ true
    picked_due i l e = sym (is_due_lem i l) ∙ and_left (is_due i) _ (sym (picked_goes i l) ∙ e)

    sent_here : (k : ℕ) (d : Drive) → k < n → picked k ≡ true → d ≡ with_wait (reported (held_drive (drive k))) 0
        → set (sent_up_to k) k d ≡ sent_up_to (k + 1)
    unfolding sent_up_to
    sent_here k d l s e =
        tab_set fresh_drive (length ys) _ _ k d (omega (arith, t.within))
        (e ∙ sent_after_held (drive k) (picked_due k l s) ∙ rw (lt-ltb k n l, s, lt-ltb k (k + 1) (omega arith)))
        (λ i b m. rw (side i k m))

    pub sent_turn : (k r : ℕ) (d : Drive) → k < n → picked k ≡ true → Next chosen (k + 1) n r → d ≡ with_wait (reported (held_drive (drive k))) 0
        → set (sent_up_to k) k d ≡ sent_up_to r
    sent_turn k r d l s next e = sent_here k d l s e ∙ sent_between (k + 1) r next

    pub said_turn : (k x : ℕ) → k < n → picked k ≡ true → x ≡ 65536 + 256 * (held_drive (drive k)).position + status_of (held_drive (drive k))
        → set (said_up_to k) k x ≡ said_up_to (k + 1)
    unfolding said_up_to
    said_turn k x l s e =
        tab_set 0 (length ws) _ _ k x (omega (arith, t.room))
        (e ∙ number_after_held (drive k) (picked_due k l s) ∙ rw (lt-ltb k n l, s, lt-ltb k (k + 1) (omega arith)))
        (λ i b m. rw (side i k m))

    -- at the end the numbers are those of the hall tick
    said_at : (i : ℕ) → i < n → get_or (said_up_to n) i 0 ≡ number_if (drive i) (sends quota ys i)
    unfolding said_up_to
    said_at i l =
        tab_at (length ws) _ 0 i (omega (arith, t.room))
        ∙ rw (lt-ltb i n l, ← (picked_sends i l))
        (cases (picked i)
        (λ s. rw s (sym (number_sent (drive i) (picked_due i l s))))
        (λ s.
        let g : goes (due_by n) n quota i ≡ false = sym (picked_goes i l) ∙ s in
        rw s
        (chosen_at i l
        ∙ cases (due_at ys i)
        (λ d. rw (g, is_due_lem i l, d) (sym (number_held (drive i) d)))
        (λ d. rw (g, is_due_lem i l, d, due_at_lem i l) (sym (number_kept (drive i) i d))))))

    said_past : (i : ℕ) → n ≤ i → i < length ws → get_or (said_up_to n) i 0 ≡ get_or ws i 0
    said_past i l b = said_behind n i l b ∙ chosen_behind i l b

  -- A call that is carried out is a hall tick, and one that is refused changes nothing.
  module _ (m : ℕ) (judged : m ≡ tick_refusal (length ys) quota (length ws)) (stops : n ≡ pick (eqb m 0) (length ys) 0) where
    abbrev pub call : Call
    call = tick quota (length ws)

    pub ticks : Ticks ys ws n
    ticks =
        cases (eqb m 0)
        (λ e.
        let z : n ≡ length ys = stops ∙ rw e in
        let f = ticked_fits (length ys) quota (length ws) (sym judged ∙ eqb-true m 0 e) in
        record { few = omega (arith, z, f.0); room = omega (arith, z, f.1); within = omega arith; all = λ s. sym z })
        (λ e.
        let z : n ≡ 0 = stops ∙ rw e in
        record { few = omega arith; room = omega arith; within = omega arith; all = λ s. absurd (omega arith) })

    pub row_end : sent_up_to n ≡ row_after hall_step ys (turns_of ys call)
    unfolding sent_up_to turns_of call_refusal row_after
    row_end =
        rw (← judged)
        (cases (eqb m 0)
        (λ e.
        let z : n ≡ length ys = stops ∙ rw e in
        rw e
        (tab_same fresh_drive (length ys) _ _
        (λ i l.
        let b : i < n = omega arith in
        rw (lt-ltb i n b, and-true (picked i)) (ap (λ (s : Bool). (hall_ticked s (drive i)).drive) (picked_sends ticks i b)))
        ∙ sym (tick_row (λ i. hall_tick (sends quota ys i)) hall_step ys)))
        (λ e.
        let z : n ≡ 0 = stops ∙ rw e in
        rw e (sym (tab_by fresh_drive ys (length ys) _ refl (λ i l. rw (le-ltb i n (omega arith)))))))

    pub numbers_end : said_up_to n ≡ answers_after hall_step ys call ws
    unfolding turns_of call_refusal turned answers_in answers_after
    numbers_end =
        rw (← judged)
        (cases (eqb m 0)
        (λ e.
        let z : n ≡ length ys = stops ∙ rw e in
        rw e
        (tab_by 0 (said_up_to n) (length ws) _ (said_length n)
        (λ i b.
        cases (ltb i n)
        (λ q. rw (← z, q) (said_at ticks i (ltb-true i n q)))
        (λ q. rw (← z, q) (said_past ticks i (ltb-false i n q) b)))
        ∙ sym (tick_numbers (λ i. hall_tick (sends quota ys i)) hall_step tick_number ys ws (omega (arith, ticks.room)))))
        (λ e.
        let z : n ≡ 0 = stops ∙ rw e in
        rw e (ext_get_or 0 (said_up_to n) ws (said_length n) (λ i b. said_past ticks i (omega arith) (omega (arith, said_length n))))))

-- A call on the whole row of numbers fills the places that stand for drives, and those behind keep their content.

answers_front : (number : Answer → ℕ) (os : List Outcome) (ws : List ℕ) (n : ℕ) → length os ≡ n
    → answers_in number os (take n ws) ++ drop n ws ≡ answers_in number os ws
unfolding answers_in
answers_front number os ws n e =
    let none : drop n (take n ws) ≡ [] = drop_of_length-le (take n ws) (simp length-take (omega arith)) in
    rw (e, none, append-nil (map (λ (o : Outcome). number o.answer) os))

-- its turns, whatever the room
asked : (ys : List Drive) (quota room : ℕ) → tick_refusal (length ys) quota room ≡ 0
    → turns_of ys (tick quota room) ≡ tabulate (length ys) (λ i. turn (hall_tick (sends quota ys i)) i)
unfolding turns_of call_refusal
asked ys quota room e = rw e

module _ (ys : List Drive) (ws : List ℕ) (quota : ℕ) (taken : 0 ≡ tick_refusal (length ys) quota (length ws)) where
  pub front_length : length (front ys ws) ≡ length ys
  front_length = length-take-le (length ys) ws (ticked_fits (length ys) quota (length ws) (sym taken)).1

  front_taken : tick_refusal (length ys) quota (length (front ys ws)) ≡ 0
  front_taken =
      let r = passed (bad_row (length ys)) 14 _ (sym taken) (omega arith) in
      let m = passed (ltb (length ws) (length ys)) 16 _ r.1 (omega arith) in
      let q = passed (bad_quota quota) 18 _ m.1 (omega arith) in
      rw (front_length, r.0, le-ltb (length ys) (length ys) (omega arith), q.0)

  pub front_ticks : Ticks ys (front ys ws) (length ys)
  front_ticks = ticks ys (front ys ws) quota (length ys) 0 (sym front_taken) refl

  same_turns : turns_of ys (tick quota (length (front ys ws))) ≡ turns_of ys (tick quota (length ws))
  same_turns = asked ys quota (length (front ys ws)) front_taken ∙ sym (asked ys quota (length ws) (sym taken))

  pub row_done : sent_up_to ys (front ys ws) quota (length ys) (length ys) ≡ row_after hall_step ys (turns_of ys (tick quota (length ws)))
  row_done = row_end ys (front ys ws) quota (length ys) 0 (sym front_taken) refl ∙ ap (row_after hall_step ys) same_turns

  pub numbers_done : said_up_to ys (front ys ws) quota (length ys) (length ys) ++ drop (length ys) ws
      ≡ answers_after hall_step ys (tick quota (length ws)) ws
  unfolding answers_after
  numbers_done =
      let os = turned hall_step ys (turns_of ys (tick quota (length ws))) in
      let many : length os ≡ length ys =
      turned_length hall_step ys _ ∙ ap length (asked ys quota (length ws) (sym taken)) ∙ tab_length (length ys) (λ i. turn (hall_tick (sends quota ys i)) i) in
      ap (λ (us : List ℕ). us ++ drop (length ys) ws)
      (numbers_end ys (front ys ws) quota (length ys) 0 (sym front_taken) refl
      ∙ ap (λ (ts : List Turn). answers_in tick_number (turned hall_step ys ts) (front ys ws)) same_turns)
      ∙ answers_front tick_number os ws (length ys) many
