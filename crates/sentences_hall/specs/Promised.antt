-- Proofs: what is promised of a drive's own share of the hall's calls, and of lists without repeats.
use Rattle.std.proofs.Math.Path.{◌≡◌, refl, sym, ap, subst}
use Rattle.std.proofs.Common.{◌∙◌, arith, zero-add, zero-mul, mul-zero, one-mul, add-mul, div-add-mod', mod-lt, mul-le-mul_right}
use Rattle.std.specs.Prelude.{◌↔◌, Bool, false, ltb, eqb, length}
use Rattle.std.proofs.Math.Bool.{true, or-true}
use Rattle.std.proofs.lemmas.Bool.{false≢true}
use mathlib.Core.List.{List, [], ◌∷◌, ◌++◌, map, reverse, append-nil, nil≢cons, head-eq_of_cons-eq, tail-eq_of_cons-eq}
use Prim.Native.Nat.{ℕ, zero, suc, ◌+◌, ◌-◌, ◌*◌, ◌/◌, ◌≤◌, ◌<◌, min}
use Rattle.std.proofs.Math.Seq.{append_snoc}
use borrow.Author.Tests.{eqb-true, eqb-false, eq-eqb, ne_eqb, ltb-true, ltb-false, le-leb}
use Rattle.numbers.specs.Laws.{cases, and_left, and_right, and_intro}
use Rattle.numbers.specs.PlaceLaws.{implies_by}
use Rattle.event.specs.declared.Event.{Event}
use Rattle.numbers.specs.Every.{Every}
use Rattle.answer.specs.Answer.{number_of}
use Rattle.answer.specs.declared.Answer.TheVariants.{No, Tick, Report}
use Rattle.damper.specs.declared.Drive.{Drive}
use Rattle.damper.specs.Record.{fresh_drive}
use Rattle.damper.specs.WellFormed.{well_formed}
use Rattle.damper.specs.Tick.{advance, status_of}
use Rattle.damper.specs.Step.{tick_with, refusal_of, step_of}
use Rattle.damper.specs.Carry.{outcomes, drive_after, answers_in}
use Rattle.invariant.specs.Kept.{formed_kept}
use Rattle.hall.specs.Hall.{Call, give, tick, call_refusal, named_in, at}
use Rattle.hall.specs.Quota.{due_now, hall_ticked, sends}
use Rattle.hall.specs.Turns.{Given, bytes, hall_tick, hall_step, turn, bytes_in, turns_of, turned, row_after, answers_after, turns_in, hall_after, shared_out, share, events_for}
use Rattle.hall.specs.Laws.{row_length}
use Rattle.history.specs.Readings.{is_tick, is_restart, travel_in}
use Rattle.history.specs.Claim.{Moment, Trace, moment_of, accepted_as, ticks_in, trace_on}
use Rattle.shares.specs.Shares.{hall_length, share_append, turns_drive, share_drive, share_answers}
use Rattle.shares.specs.WaitLaws.{restart}
use Rattle.shares.specs.Bound as Bound
use Rattle.shares.specs.Bound.{ticks_given, due_at_each, sent_at_one, restarted, quotas_in, quotas_from}
use Rattle.shares.specs.Theorem.{share_trace, share_claim}
use Rattle.shares.specs.Waiting as Waits
use Rattle.shares.specs.Waiting.{Broken, none, at_tick, other, share_finds_due}
use Rattle.shares.specs.Arrival.{tick_given, rate_given, hall_moves, given_settles}
use Rattle.shares.specs.Travelled.{share_travel}
use Rattle.sentences.specs.Words.{◌is◌, ◌exceeds◌, some_of, choose, first_that_fits}
use Rattle.sentences.specs.Paper as P1
use Rattle.sentences.specs.Refusals.{same_refusals}
use Rattle.sentences.specs.Forms.{same_formed, not_formed}
use Rattle.sentences_list.specs.Paper as L
use Rattle.sentences_list.specs.Moves.{capped}
use Rattle.sentences_list.specs.Sentences.{history, travel}
use Rattle.sentences_claim.specs.Paper as S
use Rattle.sentences_claim.specs.Tests as Tests
use Rattle.sentences_claim.specs.Counts.{ticks_clock}
use Rattle.sentences_claim.specs.Holds.{same_waiting}
use Rattle.sentences_claim.specs.Traces.{same_hall_claim}
use Rattle.sentences_claim.specs.Arrives as Arrives
use Rattle.sentences_claim.specs.Arrives.{same_tick, same_write, settles_by}
use Rattle.sentences_hall.specs.Paper as P
use Rattle.sentences_hall.specs.Refused.{same_call, often_twice}
use Rattle.sentences_hall.specs.Senders.{same_due_now, sends_only, whom_it_sends}
use Rattle.sentences_hall.specs.Turns.{same_named}
use Rattle.sentences_hall.specs.Shared as Shared

-- ── W-205: lists without repeats ──

not_twice : (list : List ℕ) → (P.NamedTwice list → ⊥) → some_of list (λ x. P.how_often x list exceeds 1) ≡ false
not_twice list h = cases (some_of list (λ x. P.how_often x list exceeds 1)) (λ e. absurd (h ((often_twice list).0 e))) (λ e. e)

module _ (row : List Drive) (list s answers : List ℕ) (h : P.NamedTwice list → ⊥) where
  abbrev call : Call
  call = give list s (length answers)

  abbrev number : ℕ
  number = first_that_fits (P.up_to16 (length row) list s (length answers))

  pub number_to_16 : call_refusal (length row) call ≡ number
  number_to_16 = same_call (length row) call ∙ rw (not_twice list h)

  turns_given : number ≡ 0 → turns_of row call ≡ map (turn (bytes s)) list
  unfolding turns_of
  turns_given e = rw (number_to_16 ∙ e)

  turns_none : (k : ℕ) → number ≡ suc k → turns_of row call ≡ []
  unfolding turns_of
  turns_none k e = rw (number_to_16 ∙ e, ne_eqb (suc k) 0 (λ z. absurd (omega arith)))

  pub given_in_order : number ≡ 0
      → (row_after hall_step row (turns_of row call) ≡ row_after hall_step row (map (turn (bytes s)) list))
      × (answers_after hall_step row call answers ≡ answers_in number_of (turned hall_step row (map (turn (bytes s)) list)) answers)
  unfolding answers_after
  given_in_order e = (ap (row_after hall_step row) (turns_given e), rw (turns_given e))

  pub nothing_touched : (k : ℕ) → number ≡ suc k
      → (row_after hall_step row (turns_of row call) ≡ row) × (answers_after hall_step row call answers ≡ answers)
  unfolding row_after answers_after turned answers_in
  nothing_touched k e = (rw (turns_none k e), rw (turns_none k e))

-- ── What a drive answers to a hall tick ──

module _ (d : Drive) where
  pub sent_answer : P1.WellFormed d
      → (hall_ticked true d).answer ≡ Report (advance d).drive.position (advance d).rank (advance d).motor (status_of (advance d).drive)
  unfolding hall_ticked tick_with
  sent_answer f = rw ((same_formed d).1 f)

  pub silent_answer : P1.WellFormed d → (hall_ticked false d).answer ≡ Tick (advance d).drive.position (advance d).rank (advance d).motor
  unfolding hall_ticked tick_with
  silent_answer f = rw ((same_formed d).1 f)

  pub unformed_answer : (sent : Bool) → (P1.WellFormed d → ⊥) → (hall_ticked sent d).answer ≡ No 1
  unfolding hall_ticked
  unformed_answer sent f = rw (not_formed d f)

-- ── One call: what it gives the drive at `i` ──

data Own (row : List Drive) (i : ℕ) : Call → List Given → Type 0 where
  refused : (c : Call) (k : ℕ) → P.answer_to (length row) c ≡ suc k → Own row i c []
  not_named : (list s : List ℕ) (room : ℕ) → P.answer_to (length row) (give list s room) ≡ 0 → (P.Listed i list → ⊥) → Own row i (give list s room) []
  named : (list s : List ℕ) (room : ℕ) → P.answer_to (length row) (give list s room) ≡ 0 → P.Listed i list
      → Own row i (give list s room) (bytes s ∷ [])
  ticked : (quota room : ℕ) → P.answer_to (length row) (tick quota room) ≡ 0 → Own row i (tick quota room) (hall_tick (sends quota row i) ∷ [])

-- the row after one call
abbrev after : List Drive → Call → List Drive
after row c = row_after hall_step row (turns_of row c)

after_length : (row : List Drive) (c : Call) → length (after row c) ≡ length row
after_length row c = row_length hall_step row (turns_of row c)

-- what one call gives, alone and before others
abbrev given : List Drive → ℕ → Call → List Given
given row i c = shared_out i (turns_of row c)

alone : (row : List Drive) (i : ℕ) (c : Call) → share row i (c ∷ []) ≡ given row i c
alone row i c = Shared.one_more row i [] c ∙ ap (λ (gs : List Given). given row i c ++ gs) (Shared.no_calls (after row c) i) ∙ append-nil (given row i c)

module _ (row : List Drive) (i : ℕ) (h : i < length row) where
  none_given : (c : Call) → share row i (c ∷ []) ≡ share (after row c) i [] → given row i c ≡ []
  none_given c e = sym (alone row i c) ∙ e ∙ Shared.no_calls (after row c) i

  one_given : (c : Call) (g : Given) → share row i (c ∷ []) ≡ g ∷ share (after row c) i [] → given row i c ≡ g ∷ []
  one_given c g e = sym (alone row i c) ∙ e ∙ ap (λ (gs : List Given). g ∷ gs) (Shared.no_calls (after row c) i)

  refused_given : (c : Call) (k : ℕ) → P.answer_to (length row) c ≡ suc k → given row i c ≡ []
  refused_given c k e = sym (alone row i c) ∙ Shared.refused_share row i [] c k e ∙ Shared.no_calls row i

  own_by : (c : Call) (m : ℕ) → P.answer_to (length row) c ≡ m → Own row i c (given row i c)
  own_by c (suc k) e = subst (Own row i c) (sym (refused_given c k e)) (refused c k e)
  own_by (give list s room) zero e =
      let c = give list s room in
      cases (named_in i list)
      (λ q.
      let l = (same_named i list).0 q in
      subst (Own row i c) (sym (one_given c (bytes s) (Shared.named_share row i [] list s room e l))) (named list s room e l))
      (λ q.
      let l : P.Listed i list → ⊥ = λ x. false≢true (sym q ∙ (same_named i list).1 x) in
      subst (Own row i c) (sym (none_given c (Shared.unnamed_share row i [] list s room e l))) (not_named list s room e l))
  own_by (tick quota room) zero e =
      let c = tick quota room in
      subst (Own row i c) (sym (one_given c (hall_tick (sends quota row i)) (Shared.tick_share row i [] quota room e h))) (ticked quota room e)

  own_of : (c : Call) → Own row i c (given row i c)
  own_of c = own_by c (P.answer_to (length row) c) refl

-- ── The trace of a share ──

trace_snoc : (gs : List Given) (g : Given) (d : Drive) (t : Trace)
    → trace_on t (map bytes_in (gs ++ (g ∷ []))) (outcomes hall_step d (gs ++ (g ∷ [])))
    ≡ moment_of (bytes_in g) (hall_step (drive_after d (outcomes hall_step d gs)) g) ∷ trace_on t (map bytes_in gs) (outcomes hall_step d gs)
unfolding outcomes drive_after trace_on
trace_snoc [] g d t = refl
trace_snoc (x ∷ gs) g d t = trace_snoc gs g (hall_step d x).drive (moment_of (bytes_in x) (hall_step d x) ∷ t)

module _ (row : List Drive) (i : ℕ) (h : i < length row) where
  abbrev traced : List Given → Trace
  traced gs = trace_on [] (map bytes_in gs) (outcomes hall_step (at row i) gs)

  trace_is : (cs : List Call) → share_trace row i cs ≡ traced (share row i cs)
  trace_is cs = rw (share_answers row cs i h)

  trace_start : share_trace row i [] ≡ []
  unfolding turns_in shared_out trace_on
  trace_start = refl

  -- the row after some calls
  abbrev now : List Call → List Drive
  now cs = hall_after row cs

  size : (cs : List Call) → length (now cs) ≡ length row
  size cs = hall_length row cs

  here : (cs : List Call) → i < length (now cs)
  here cs = rw (size cs) h

  -- a call is answered by the number of drives
  answers : (cs : List Call) (c : Call) {k : ℕ} → P.answer_to (length row) c ≡ k → P.answer_to (length (now cs)) c ≡ k
  answers cs c {k} e = subst (λ (n : ℕ). P.answer_to n c ≡ k) (sym (size cs)) e

  trace_last : (cs : List Call) (c : Call) → share_trace row i (cs ++ (c ∷ [])) ≡ traced (share row i cs ++ given (now cs) i c)
  trace_last cs c =
      trace_is (cs ++ (c ∷ []))
      ∙ ap traced (share_append row i cs (c ∷ []) ∙ ap (λ (gs : List Given). share row i cs ++ gs) (alone (now cs) i c))

  trace_none : (cs : List Call) (c : Call) → given (now cs) i c ≡ [] → share_trace row i (cs ++ (c ∷ [])) ≡ share_trace row i cs
  trace_none cs c e =
      trace_last cs c
      ∙ ap traced (ap (λ (gs : List Given). share row i cs ++ gs) e ∙ append-nil (share row i cs))
      ∙ sym (trace_is cs)

  trace_one : (cs : List Call) (c : Call) (g : Given) → given (now cs) i c ≡ g ∷ []
      → share_trace row i (cs ++ (c ∷ [])) ≡ moment_of (bytes_in g) (hall_step (at (now cs) i) g) ∷ share_trace row i cs
  trace_one cs c g e =
      trace_last cs c
      ∙ ap traced (ap (λ (gs : List Given). share row i cs ++ gs) e)
      ∙ trace_snoc (share row i cs) g (at row i) []
      ∙ (λ j. moment_of (bytes_in g) (hall_step (sym (share_drive row cs i h) j) g) ∷ sym (trace_is cs) j)

  grow_by : (cs : List Call) (c : Call) (gs : List Given) → Own (now cs) i c gs → given (now cs) i c ≡ gs
      → P.ShareTrace row i cs (share_trace row i cs) → P.ShareTrace row i (cs ++ (c ∷ [])) (share_trace row i (cs ++ (c ∷ [])))
  grow_by cs c gs (refused x k e) z g = subst (P.ShareTrace row i (cs ++ (c ∷ []))) (sym (trace_none cs c z)) (P.refused g c k (rw (size cs) at e))
  grow_by cs c gs (not_named list s room e l) z g =
      subst (P.ShareTrace row i (cs ++ (give list s room ∷ []))) (sym (trace_none cs (give list s room) z))
      (P.not_named g list s room (rw (size cs) at e) l)
  grow_by cs c gs (named list s room e l) z g =
      subst (P.ShareTrace row i (cs ++ (give list s room ∷ []))) (sym (trace_one cs (give list s room) (bytes s) z))
      (P.named g list s room (rw (size cs) at e) l)
  grow_by cs c gs (ticked quota room e) z g =
      let go = sends quota (now cs) in
      subst (P.ShareTrace row i (cs ++ (tick quota room ∷ []))) (sym (trace_one cs (tick quota room) (hall_tick (go i)) z))
      (P.ticked g quota room (rw (size cs) at e) go (whom_it_sends quota (now cs)))

  grown : (cs ds : List Call) → P.ShareTrace row i cs (share_trace row i cs) → P.ShareTrace row i (cs ++ ds) (share_trace row i (cs ++ ds))
  grown cs [] g = rw (append-nil cs) g
  grown cs (c ∷ ds) g =
      rw (← append_snoc cs c ds) (grown (cs ++ (c ∷ [])) ds (grow_by cs c _ (own_of (now cs) i (here cs) c) refl g))

  only : {cs : List Call} {t : Trace} → P.ShareTrace row i cs t → share_trace row i cs ≡ t
  only P.nothing = trace_start
  only (P.refused {cs} g c k e) = trace_none cs c (refused_given (now cs) i (here cs) c k (answers cs c e)) ∙ only g
  only (P.not_named {cs} g list s room e l) =
      let c = give list s room in
      trace_none cs c (none_given (now cs) i (here cs) c (Shared.unnamed_share (now cs) i [] list s room (answers cs c e) l)) ∙ only g
  only (P.named {cs} g list s room e l) =
      let c = give list s room in
      trace_one cs c (bytes s) (one_given (now cs) i (here cs) c (bytes s) (Shared.named_share (now cs) i [] list s room (answers cs c e) l))
      ∙ ap (λ (t : Trace). moment_of s (step_of (at (now cs) i) s) ∷ t) (only g)
  only (P.ticked {cs} g quota room e goes whom) =
      let c = tick quota room in
      let g' = hall_tick (sends quota (now cs) i) in
      trace_one cs c g' (one_given (now cs) i (here cs) c g' (Shared.tick_share (now cs) i [] quota room (answers cs c e) (here cs)))
      ∙ ap (λ (b : Bool). moment_of (bytes_in (hall_tick b)) (hall_step (at (now cs) i) (hall_tick b)) ∷ share_trace row i cs)
      (sends_only quota (now cs) goes whom i (here cs))
      ∙ ap (λ (t : Trace). moment_of (bytes_in (hall_tick (goes i))) (hall_step (at (now cs) i) (hall_tick (goes i))) ∷ t) (only g)

  pub same_trace : (cs : List Call) (t : Trace) → (share_trace row i cs ≡ t) ↔ P.ShareTrace row i cs t
  same_trace cs t = (
    λ e. subst (P.ShareTrace row i cs) e (grown [] cs (subst (P.ShareTrace row i []) (sym trace_start) P.nothing)),
    only,
  )

-- ── At each hall tick ──

module _ (So : ℕ → List Drive → Type 0) where
  at_none : (row : List Drive) → P.AtEachTick So row []
  at_none row [] quota room after e ok = absurd (nil≢cons e)
  at_none row (b ∷ before) quota room after e ok = absurd (nil≢cons e)

  at_first : (row : List Drive) (cs : List Call) (quota room : ℕ)
      → P.AtEachTick So row (tick quota room ∷ cs) → P.answer_to (length row) (tick quota room) ≡ 0 → So quota row
  at_first row cs quota room f ok = subst (So quota) (Shared.none_after row) (f [] quota room cs refl ok)

  at_later : (row : List Drive) (c : Call) (cs : List Call) → P.AtEachTick So row (c ∷ cs) → P.AtEachTick So (after row c) cs
  at_later row c cs f before quota room rest e ok =
      subst (So quota) (Shared.more_after row c before)
      (f (c ∷ before) quota room rest (ap (λ (l : List Call). c ∷ l) e)
      (subst (λ (m : ℕ). P.answer_to m (tick quota room) ≡ 0) (after_length row c) ok))

  at_each : (row : List Drive) (c : Call) (cs : List Call)
      → ((quota room : ℕ) → c ≡ tick quota room → P.answer_to (length row) (tick quota room) ≡ 0 → So quota row)
      → P.AtEachTick So (after row c) cs → P.AtEachTick So row (c ∷ cs)
  at_each row c cs first later [] quota room rest e ok =
      subst (So quota) (sym (Shared.none_after row)) (first quota room (head-eq_of_cons-eq e) ok)
  at_each row c cs first later (b ∷ before) quota room rest e ok =
      let same : c ≡ b = head-eq_of_cons-eq e in
      subst (So quota) (sym (Shared.more_after row c before) ∙ ap (λ (x : Call). hall_after row (x ∷ before)) same)
      (later before quota room rest (tail-eq_of_cons-eq e)
      (subst (λ (m : ℕ). P.answer_to m (tick quota room) ≡ 0) (sym (after_length row c)) ok))

-- ── "What was promised of one drive's list of events" ──

pub promised : (row : List Drive) (cs : List Call) (i : ℕ) → i < length row → P.drive row i ≡ fresh_drive
    → (t : Trace) → P.ShareTrace row i cs t → S.Everywhere S.HallHolds t
promised row cs i h fresh t g =
    subst (S.Everywhere S.HallHolds) (only row i h g) ((same_hall_claim (share_trace row i cs)).0 (share_claim row cs i h fresh))

-- the quotas of its hall ticks together
pub same_quotas : (n : ℕ) (cs : List Call) → quotas_in n cs ≡ P.quotas n cs
unfolding quotas_in
same_quotas n [] = refl
same_quotas n (give list s room ∷ cs) = zero-add _ ∙ same_quotas n cs
same_quotas n (tick quota room ∷ cs) =
    rw (same_call n (tick quota room), same_quotas n cs) (cases (P.answer_to n (tick quota room) is 0) (λ e. rw e) (λ e. rw e))

-- ── "which replaces the waiting limb for halls" ──
broken_by : (old new : Trace) → P.BrokenThroughout old new → Broken old new
broken_by old [] f = none
broken_by old (m ∷ new) f =
    let here = f [] m new refl in
    let rest = broken_by old new (λ later x earlier e. f (m ∷ later) x earlier (ap (λ (t : Trace). m ∷ t) e)) in
    cases (accepted_as is_tick m (new ++ old))
    (λ q. at_tick q (λ w. here.0 ((Tests.same_tick m (new ++ old)).0 q) ((same_waiting m (new ++ old)).0 w)) rest)
    (λ q.
    other q
    (cases (accepted_as is_restart m (new ++ old)) (λ r. absurd (here.1 ((Tests.same_restart m (new ++ old)).0 r))) (λ r. r))
    rest)

module _ (row : List Drive) (before after : List Call) (i : ℕ) (h : i < length row) (fresh : P.drive row i ≡ fresh_drive) (old new : Trace)
    (g : P.ShareTrace row i before old) (k : P.ShareTrace row i (before ++ after) (new ++ old)) (f : P.BrokenThroughout old new) where
  same : share_trace row i before ≡ old
  same = only row i h g

  whole : share_trace row i (before ++ after) ≡ new ++ share_trace row i before
  whole = only row i h k ∙ ap (λ (t : Trace). new ++ t) (sym same)

  broken : Broken (share_trace row i before) new
  broken = subst (λ (t : Trace). Broken t new) (sym same) (broken_by old new f)

  pub quotas_bound : P.quotas (length row) after < length row
  quotas_bound = rw (← (same_quotas (length row) after)) (Waits.quotas_bound row before after i h fresh new whole broken)

  pub waiting_bound : S.clock (new ++ old) < S.clock old + length row
  waiting_bound =
      let bound : ticks_in new old < length row =
      subst (λ (t : Trace). ticks_in new t < length row) same (Waits.waiting_bound row before after i h fresh new whole broken) in
      omega (arith, bound, ticks_clock new old)

-- ── W-207: it gets there ──
tick_given_lem : (d : Drive) (g : Given) → (tick_given d g ≡ true) ↔ P.TickGiven d g
tick_given_lem d (bytes s) = same_tick d s
tick_given_lem d (hall_tick sent) = same_formed d

rate_given_lem : (d : Drive) (g : Given) → (rate_given d g ≡ true) ↔ P.RateGiven d g
rate_given_lem d (bytes s) = same_write d s
rate_given_lem d (hall_tick sent) = (λ e. false≢true e, λ e. absurd e)

abbrev Find : Drive → List Given → List Drive → Drive → Type 0
Find = S.TicksFind hall_step P.TickGiven

pub some_found : (row : List Drive) (cs : List Call) (i : ℕ) → i < length row
    → (found : List Drive) × Find (at row i) (share row i cs) found (at (hall_after row cs) i)
some_found row cs i h =
    let x =
    Arrives.some_found hall_step tick_given rate_given P.TickGiven P.RateGiven tick_given_lem rate_given_lem hall_moves.formed
    (share row i cs) (at row i) in
    let same =
    (Arrives.same_found hall_step tick_given rate_given P.TickGiven P.RateGiven tick_given_lem rate_given_lem hall_moves.formed x.2).1 in
    (x.0, subst (Find (at row i) (share row i cs) x.0) (sym same ∙ sym (share_drive row cs i h)) x.2)

module _ (row : List Drive) (cs : List Call) (i : ℕ) (h : i < length row) (w : well_formed (at row i) ≡ true) (b : (at row i).position < 256)
  where
    pub settles : (r t : ℕ) (found : List Drive) → (let row' = hall_after row cs in
        Find (at row i) (share row i cs) found (at row' i) → S.Unwritten hall_step P.RateGiven (at row i) (share row i cs)
        → Every (S.Rules r t) found → 255 ≤ length found * P1.Rate (at row i).params
        → ((at row' i).position ≡ t)
        × ((cs' : List Call) (found' : List Drive) → (let row'' = hall_after row' cs' in
        Find (at row' i) (share row' i cs') found' (at row'' i) → Every (S.Rules r t) found' → (at row'' i).position ≡ t)))
    settles r t found g u xs n =
        let row' = hall_after row cs in
        let stands =
        settles_by hall_step tick_given rate_given P.TickGiven P.RateGiven tick_given_lem rate_given_lem hall_moves.formed
        (at row i) (given_settles (at row i) w b) w
        r t (share row i cs) found (at row' i) g u xs n in
        (stands.0, λ cs' found' g' xs'. stands.1 (share row' i cs') found' (at (hall_after row' cs') i) g' xs')

-- ── W-208: its travel ──
pub travelled : (row : List Drive) (cs : List Call) (i : ℕ) → i < length row → P.drive row i ≡ fresh_drive
    → (h : List Event) (n : ℕ) → L.History (reverse (events_for (length row) i cs)) h → L.Travel h n
    → (P.drive (hall_after row cs) i).travel ≡ choose (n exceeds 4294967295) 4294967295 n
travelled row cs i b fresh h n w x =
    let l = events_for (length row) i cs in
    share_travel row cs i b fresh
    ∙ ap (λ (y : ℕ). min y 4294967295) (ap travel_in ((history l h).1 w) ∙ (travel h (reverse l, w) n).1 x)
    ∙ capped n

-- ── "is sent at one of them" ──

-- a call is a hall tick or an event call
abbrev ticks : Call → Bool
ticks (give list s room) = false
ticks (tick quota room) = true

-- a restart that the drive accepts
restart_of : (d : Drive) (s : List ℕ) → (restart d s ≡ true) ↔ S.RestartOf d s
restart_of d s = (
  λ q. (
    sym (same_refusals d s) ∙ eqb-true _ 0 (and_left (eqb (refusal_of d s) 0) _ q),
    eqb-true _ 9 (and_right (eqb (refusal_of d s) 0) _ q),
  ),
  λ r. and_intro (eq-eqb _ 0 (same_refusals d s ∙ r.0)) (eq-eqb _ 9 r.1),
)

-- One call, `gs` being what it gives the drive `d` and `hs` what it is given later.
module _ (row : List Drive) (i : ℕ) where
  abbrev n : ℕ
  n = length row

  -- the hall ticks that it is given
  count_by : (c : Call) (gs : List Given) → Own row i c gs → (cs : List Call) (hs : List Given) → ticks_given hs ≡ P.hall_ticks n cs
      → ticks_given (gs ++ hs) ≡ P.hall_ticks n (c ∷ cs)
  unfolding ticks_given
  count_by c gs (refused (give list s room) k e) cs hs q = q
  count_by c gs (refused (tick quota room) k e) cs hs q =
      let z : ◌≡◌ {A = ℕ} (choose (P.answer_to n (tick quota room) is 0) 1 0) 0 =
      rw (e, ne_eqb (suc k) 0 (λ z. absurd (omega arith))) in
      omega (arith, q, z)
  count_by c gs (not_named list s room e l) cs hs q = q
  count_by c gs (named list s room e l) cs hs q = q
  count_by c gs (ticked quota room e) cs hs q =
      let z : ◌≡◌ {A = ℕ} (choose (P.answer_to n (tick quota room) is 0) 1 0) 1 = rw e in
      omega (arith, q, z)

  -- due at it and later
  abbrev DueNow : Call → Drive → Type 0
  DueNow c d = (quota room : ℕ) → c ≡ tick quota room → P.answer_to n (tick quota room) ≡ 0 → due_now d ≡ true

  due_by : (c : Call) (gs : List Given) (d : Drive) → Own row i c gs → DueNow c d
      → (hs : List Given) → due_at_each (drive_after d (outcomes hall_step d gs)) hs ≡ true → due_at_each d (gs ++ hs) ≡ true
  unfolding due_at_each outcomes drive_after
  due_by c gs d (refused x k e) f hs q = q
  due_by c gs d (not_named list s room e l) f hs q = q
  due_by c gs d (named list s room e l) f hs q = q
  due_by c gs d (ticked quota room e) f hs q = and_intro (f quota room refl e) q

  due_parts : (c : Call) (gs : List Given) (d : Drive) → Own row i c gs → (hs : List Given) → due_at_each d (gs ++ hs) ≡ true
      → DueNow c d × (due_at_each (drive_after d (outcomes hall_step d gs)) hs ≡ true)
  unfolding due_at_each outcomes drive_after
  due_parts c gs d (refused x k e) hs q =
      (λ quota room same ok. let z : suc k ≡ 0 = sym e ∙ ap (P.answer_to n) same ∙ ok in absurd (omega arith), q)
  due_parts c gs d (not_named list s room e l) hs q = (λ quota room same ok. absurd (false≢true (ap ticks same)), q)
  due_parts c gs d (named list s room e l) hs q = (λ quota room same ok. absurd (false≢true (ap ticks same)), q)
  due_parts c gs d (ticked quota room e) hs q = (λ x y same ok. and_left (due_now d) _ q, and_right (due_now d) _ q)

  -- restarted by it or later
  restart_later : (c : Call) (gs : List Given) (d : Drive) → Own row i c gs → (hs : List Given)
      → restarted (drive_after d (outcomes hall_step d gs)) hs ≡ true → restarted d (gs ++ hs) ≡ true
  unfolding restarted outcomes drive_after
  restart_later c gs d (refused x k e) hs q = q
  restart_later c gs d (not_named list s room e l) hs q = q
  restart_later c gs d (named list s room e l) hs q = rw q (or-true (restart d s))
  restart_later c gs d (ticked quota room e) hs q = q

  restart_parts : {X : Type 0} (c : Call) (gs : List Given) (d : Drive) → Own row i c gs → (hs : List Given) → restarted d (gs ++ hs) ≡ true
      → ((list s : List ℕ) (room : ℕ) → c ≡ give list s room → P.answer_to n (give list s room) ≡ 0 → P.Listed i list → S.RestartOf d s → X)
      → (restarted (drive_after d (outcomes hall_step d gs)) hs ≡ true → X) → X
  unfolding restarted outcomes drive_after
  restart_parts c gs d (refused x k e) hs q now later = later q
  restart_parts c gs d (not_named list s room e l) hs q now later = later q
  restart_parts c gs d (named list s room e l) hs q now later =
      cases (restart d s) (λ r. now list s room refl e l ((restart_of d s).0 r)) (λ r. later (rw r at q))
  restart_parts c gs d (ticked quota room e) hs q now later = later q

  -- sent at it or later
  sent_after : (c : Call) (gs : List Given) → Own row i c gs → (hs : List Given) → sent_at_one hs ≡ true → sent_at_one (gs ++ hs) ≡ true
  unfolding sent_at_one
  sent_after c gs (refused x k e) hs q = q
  sent_after c gs (not_named list s room e l) hs q = q
  sent_after c gs (named list s room e l) hs q = q
  sent_after c gs (ticked quota room e) hs q = rw q (or-true (sends quota row i))

  sent_parts : {X : Type 0} (c : Call) (gs : List Given) → Own row i c gs → (hs : List Given) → sent_at_one (gs ++ hs) ≡ true
      → ((quota room : ℕ) → c ≡ tick quota room → P.answer_to n (tick quota room) ≡ 0 → sends quota row i ≡ true → X)
      → (sent_at_one hs ≡ true → X) → X
  unfolding sent_at_one
  sent_parts c gs (refused x k e) hs q now later = later q
  sent_parts c gs (not_named list s room e l) hs q now later = later q
  sent_parts c gs (named list s room e l) hs q now later = later q
  sent_parts c gs (ticked quota room e) hs q now later =
      cases (sends quota row i) (λ b. now quota room refl e b) (λ b. later (rw b at q))

-- Over a list of calls.

after_drive : (row : List Drive) (c : Call) (i : ℕ) → i < length row
    → at (after row c) i ≡ drive_after (at row i) (outcomes hall_step (at row i) (given row i c))
after_drive row c i h = turns_drive row (turns_of row c) i h

pub ticks_counted : (cs : List Call) (row : List Drive) (i : ℕ) → i < length row → ticks_given (share row i cs) ≡ P.hall_ticks (length row) cs
unfolding ticks_given
ticks_counted [] row i h = rw (Shared.no_calls row i)
ticks_counted (c ∷ cs) row i h =
    let size = after_length row c in
    rw (Shared.one_more row i cs c)
    (count_by row i c _ (own_of row i h c) cs (share (after row c) i cs) (ticks_counted cs (after row c) i (rw size h) ∙ rw size))

module _ (i : ℕ) where
  abbrev Due : ℕ → List Drive → Type 0
  Due quota now = P.Due (P.drive now i)

  due_each : (cs : List Call) (row : List Drive) → i < length row → P.DueAtEach row i cs → due_at_each (at row i) (share row i cs) ≡ true
  unfolding due_at_each
  due_each [] row h f = rw (Shared.no_calls row i)
  due_each (c ∷ cs) row h f =
      let later = due_each cs (after row c) (rw (after_length row c) h) (at_later Due row c cs f) in
      rw (Shared.one_more row i cs c)
      (due_by row i c _ (at row i) (own_of row i h c)
      (λ quota room e ok.
      (same_due_now (at row i)).1 (at_first Due row cs quota room (subst (λ (x : Call). P.AtEachTick Due row (x ∷ cs)) e f) ok))
      (share (after row c) i cs) (rw (after_drive row c i h) at later))

  due_back : (cs : List Call) (row : List Drive) → i < length row → due_at_each (at row i) (share row i cs) ≡ true → P.DueAtEach row i cs
  due_back [] row h q = at_none Due row
  due_back (c ∷ cs) row h q =
      let p = due_parts row i c _ (at row i) (own_of row i h c) (share (after row c) i cs) (rw (Shared.one_more row i cs c) at q) in
      at_each Due row c cs
      (λ quota room e ok. (same_due_now (at row i)).0 (p.0 quota room e ok))
      (due_back cs (after row c) (rw (after_length row c) h) (rw (after_drive row c i h) p.1))

  restart_found : (cs : List Call) (row : List Drive) → i < length row → restarted (at row i) (share row i cs) ≡ true → P.Restarted row i cs
  unfolding restarted
  restart_found [] row h q = absurd (false≢true (rw (Shared.no_calls row i) at q))
  restart_found (c ∷ cs) row h q =
      restart_parts row i c _ (at row i) (own_of row i h c) (share (after row c) i cs) (rw (Shared.one_more row i cs c) at q)
      (λ list s room e ok l x.
      record {
        before = [];
        list = list;
        given = s;
        room = room;
        after = cs;
        parts = ap (λ (y : Call). y ∷ cs) e;
        carried = ok;
        named = l;
        restart = subst (λ (y : List Drive). S.RestartOf (P.drive y i) s) (sym (Shared.none_after row)) x;
      })
      (λ later.
      let r = restart_found cs (after row c) (rw (after_length row c) h) (rw (after_drive row c i h) later) in
      record {
        before = c ∷ r.before;
        list = r.list;
        given = r.given;
        room = r.room;
        after = r.after;
        parts = ap (λ (l : List Call). c ∷ l) r.parts;
        carried = subst (λ (m : ℕ). P.answer_to m (give r.list r.given r.room) ≡ 0) (after_length row c) r.carried;
        named = r.named;
        restart =
            subst (λ (x : List Drive). S.RestartOf (P.drive x i) r.given) (sym (Shared.more_after row c r.before)) r.restart;
      })

  restart_back : (before : List Call) (row : List Drive) (list s : List ℕ) (room : ℕ) (rest : List Call) → i < length row
      → P.answer_to (length row) (give list s room) ≡ 0 → P.Listed i list → S.RestartOf (P.drive (hall_after row before) i) s
      → restarted (at row i) (share row i (before ++ (give list s room ∷ rest))) ≡ true
  unfolding restarted
  restart_back [] row list s room rest h ok l r =
      let here : restart (at row i) s ≡ true =
      (restart_of (at row i) s).1 (subst (λ (x : List Drive). S.RestartOf (P.drive x i) s) (Shared.none_after row) r) in
      rw (Shared.named_share row i rest list s room ok l) (rw here)
  restart_back (c ∷ before) row list s room rest h ok l r =
      let size = after_length row c in
      let later =
      restart_back before (after row c) list s room rest (rw size h) (subst (λ (m : ℕ). P.answer_to m (give list s room) ≡ 0) (sym size) ok) l
      (subst (λ (x : List Drive). S.RestartOf (P.drive x i) s) (Shared.more_after row c before) r) in
      rw (Shared.one_more row i (before ++ (give list s room ∷ rest)) c)
      (restart_later row i c _ (at row i) (own_of row i h c) _ (rw (after_drive row c i h) at later))

  sent_found : (cs : List Call) (row : List Drive) → i < length row → sent_at_one (share row i cs) ≡ true → P.SentAtOne row i cs
  unfolding sent_at_one
  sent_found [] row h q = absurd (false≢true (rw (Shared.no_calls row i) at q))
  sent_found (c ∷ cs) row h q =
      sent_parts row i c _ (own_of row i h c) (share (after row c) i cs) (rw (Shared.one_more row i cs c) at q)
      (λ quota room e ok b.
      record {
        before = [];
        quota = quota;
        room = room;
        after = cs;
        parts = ap (λ (y : Call). y ∷ cs) e;
        carried = ok;
        goes = sends quota row;
        whom = subst (λ (x : List Drive). P.Sends quota x (sends quota row)) (sym (Shared.none_after row)) (whom_it_sends quota row);
        sent = b;
      })
      (λ later.
      let r = sent_found cs (after row c) (rw (after_length row c) h) later in
      record {
        before = c ∷ r.before;
        quota = r.quota;
        room = r.room;
        after = r.after;
        parts = ap (λ (l : List Call). c ∷ l) r.parts;
        carried = subst (λ (m : ℕ). P.answer_to m (tick r.quota r.room) ≡ 0) (after_length row c) r.carried;
        goes = r.goes;
        whom = subst (λ (x : List Drive). P.Sends r.quota x r.goes) (sym (Shared.more_after row c r.before)) r.whom;
        sent = r.sent;
      })

  sent_back : (before : List Call) (row : List Drive) (quota room : ℕ) (rest : List Call) (goes : ℕ → Bool) → i < length row
      → P.answer_to (length row) (tick quota room) ≡ 0 → P.Sends quota (hall_after row before) goes → goes i ≡ true
      → sent_at_one (share row i (before ++ (tick quota room ∷ rest))) ≡ true
  unfolding sent_at_one
  sent_back [] row quota room rest goes h ok whom b =
      let here : sends quota row i ≡ true =
      sends_only quota row goes (subst (λ (x : List Drive). P.Sends quota x goes) (Shared.none_after row) whom) i h ∙ b in
      rw (Shared.tick_share row i rest quota room ok h) (rw here)
  sent_back (c ∷ before) row quota room rest goes h ok whom b =
      let size = after_length row c in
      let later =
      sent_back before (after row c) quota room rest goes (rw size h) (subst (λ (m : ℕ). P.answer_to m (tick quota room) ≡ 0) (sym size) ok)
      (subst (λ (x : List Drive). P.Sends quota x goes) (Shared.more_after row c before) whom) b in
      rw (Shared.one_more row i (before ++ (tick quota room ∷ rest)) c) (sent_after row i c _ (own_of row i h c) _ later)

module _ (cs : List Call) (row : List Drive) (i : ℕ) (h : i < length row) where
  pub same_due_each : (due_at_each (at row i) (share row i cs) ≡ true) ↔ P.DueAtEach row i cs
  same_due_each = (due_back i cs row h, due_each i cs row h)

  pub same_restarted : (restarted (at row i) (share row i cs) ≡ true) ↔ P.Restarted row i cs
  same_restarted = (
    restart_found i cs row h,
    λ r.
        subst (λ (l : List Call). restarted (at row i) (share row i l) ≡ true) (sym r.parts)
        (restart_back i r.before row r.list r.given r.room r.after h r.carried r.named r.restart),
  )

  pub same_sent : (sent_at_one (share row i cs) ≡ true) ↔ P.SentAtOne row i cs
  same_sent = (
    sent_found i cs row h,
    λ r.
        subst (λ (l : List Call). sent_at_one (share row i l) ≡ true) (sym r.parts)
        (sent_back i r.before row r.quota r.room r.after r.goes h r.carried r.whom r.sent),
  )

-- "divided by the quota, rounded up"
module _ (n q : ℕ) (p : 1 ≤ q) where
  abbrev up : ℕ
  up = (n + q - 1) / q

  up_reaches : n ≤ up * q
  up_reaches = omega (arith, div-add-mod' (n + q - 1) q, mod-lt (n + q - 1) p)

  up_least : (k : ℕ) → n ≤ k * q → up ≤ k
  up_least k l =
      cases (ltb k up)
      (λ e.
      let less = ltb-true k up e in
      let more : (k + 1) * q ≤ up * q = mul-le-mul_right q (omega arith) in
      let one = add-mul k 1 q in
      let unit = one-mul q in
      let whole = div-add-mod' (n + q - 1) q in
      absurd (omega arith))
      (λ e. ltb-false k up e)

  pub same_rounded : (m : ℕ) → (m ≡ up) ↔ P.RoundedUp n q m
  same_rounded m = (
    λ e. rw e record { reaches = up_reaches; least = up_least },
    λ r. let a = r.least up up_reaches in let b = up_least m r.reaches in omega arith,
  )

-- one quota throughout
one_quota : (cs : List Call) (row : List Drive) (q : ℕ) → P.OneQuota q row cs → quotas_from (length row) q cs ≡ true
unfolding quotas_from
one_quota [] row q one = refl
one_quota (give list s room ∷ cs) row q one =
    let c = give list s room in
    rw (after_length row c) at (one_quota cs (after row c) q (at_later (λ quota now. quota ≡ q) row c cs one))
one_quota (tick quota room ∷ cs) row q one =
    let c = tick quota room in
    and_intro
    (implies_by (eqb (call_refusal (length row) c) 0) _
    (λ e.
    let same = at_first (λ quota now. quota ≡ q) row cs quota room one (sym (same_call (length row) c) ∙ eqb-true _ 0 e) in
    le-leb q quota (omega arith)))
    (rw (after_length row c) at (one_quota cs (after row c) q (at_later (λ quota now. quota ≡ q) row c cs one)))

-- a drive that is due at a hall tick was well formed before
formed_first : (gs : List Given) (d : Drive) → 1 ≤ ticks_given gs → due_at_each d gs ≡ true → well_formed d ≡ true
unfolding ticks_given due_at_each due_now
formed_first [] d l q = absurd (omega arith)
formed_first (bytes s ∷ gs) d l q = sym (formed_kept d s) ∙ formed_first gs (step_of d s).drive l q
formed_first (hall_tick sent ∷ gs) d l q = and_left (well_formed d) _ (and_left (due_now d) _ q)

-- quotas that add up to the number of drives have a hall tick among them
some_tick : (n : ℕ) (cs : List Call) → 1 ≤ P.quotas n cs → 1 ≤ P.hall_ticks n cs
some_tick n [] l = absurd (omega arith)
some_tick n (give list s room ∷ cs) l = some_tick n cs l
some_tick n (tick quota room ∷ cs) l =
    cases (P.answer_to n (tick quota room) is 0)
    (λ e. rw e (omega arith))
    (λ e. let r = some_tick n cs (rw (e, zero-add) at l) in rw e (omega arith))

module _ (row : List Drive) (cs : List Call) (i : ℕ) (h : i < length row) (f : P.DueAtEach row i cs) (r : P.Restarted row i cs → ⊥) where
  abbrev own : List Given
  own = share row i cs

  is_due : due_at_each (at row i) own ≡ true
  is_due = (same_due_each cs row i h).1 f

  unrestarted : restarted (at row i) own ≡ false
  unrestarted = cases (restarted (at row i) own) (λ q. absurd (r ((same_restarted cs row i h).0 q))) (λ q. q)

  well : 1 ≤ P.hall_ticks (length row) cs → well_formed (at row i) ≡ true
  well l = formed_first own (at row i) (rw (ticks_counted cs row i h) l) is_due

  pub sent_in_quotas : length row ≤ P.quotas (length row) cs → P.SentAtOne row i cs
  sent_in_quotas l =
      (same_sent cs row i h).0
      (Bound.sent_in_quotas row cs i h (well (some_tick (length row) cs (omega (arith, h, l)))) (rw (same_quotas (length row) cs) l) is_due unrestarted)

  pub sent_within : (q m : ℕ) → P.OneQuota q row cs → P.RoundedUp (length row) q m → m ≤ P.hall_ticks (length row) cs → P.SentAtOne row i cs
  sent_within q m one up l =
      let some = up.reaches in
      let p : 1 ≤ q = cases (eqb q 0) (λ e. let z = mul-zero m in absurd (omega (arith, h, z, rw (eqb-true q 0 e) at some))) (λ e. let z = eqb-false q 0 e in omega arith) in
      let least : 1 ≤ m = cases (eqb m 0) (λ e. let z = zero-mul q in absurd (omega (arith, h, z, rw (eqb-true m 0 e) at some))) (λ e. let z = eqb-false m 0 e in omega arith) in
      let rounded = (same_rounded (length row) q p m).1 up in
      (same_sent cs row i h).0
      (Bound.sent_rounded_up row cs i q h (well (omega arith)) p (one_quota cs row q one)
      (rw (← rounded, ticks_counted cs row i h) l) is_due unrestarted)

  pub sent_in_time : length row ≤ P.hall_ticks (length row) cs → P.SentAtOne row i cs
  sent_in_time l =
      (same_sent cs row i h).0
      (Bound.sent_in_time row cs i h (well (omega (arith, h, l))) (rw (ticks_counted cs row i h) l) is_due unrestarted)

-- ── "a last tick that breaks that limb always finds its drive due" ──

pub finds_due : (row : List Drive) (cs : List Call) (i quota room : ℕ) → i < length row → P.drive row i ≡ fresh_drive
    → P.answer_to (length row) (tick quota room) ≡ 0
    → (m : Moment) (t : Trace) → P.ShareTrace row i cs t → P.ShareTrace row i (cs ++ (tick quota room ∷ [])) (m ∷ t)
    → (S.Waiting m t → ⊥) → P.Due (P.drive (hall_after row cs) i)
finds_due row cs i quota room h fresh ok m t g k b =
    let taken = same_call (length row) (tick quota room) ∙ ok in
    let r = share_finds_due row cs i quota room h fresh taken in
    let same = sym r.0 ∙ only row i h k in
    (same_due_now (at (hall_after row cs) i)).0
    (r.1 (λ w.
    b (subst (S.Waiting m) (only row i h g)
    (subst (λ (x : Moment). S.Waiting x (share_trace row i cs)) (head-eq_of_cons-eq same) ((same_waiting _ (share_trace row i cs)).0 w)))))
