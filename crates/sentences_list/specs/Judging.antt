-- Proofs: the judgement of a record, and the history that records leave.
use Rattle.std.specs.Prelude.{◌≡◌, refl, ◌↔◌, true, ℕ, zero, suc, ◌+◌, ◌*◌, ◌≤◌, eqb, get_or}
use Rattle.std.proofs.Common.{sym, subst, ◌∙◌, arith, ne_eqb, ltb-false}
use mathlib.Core.List.{List, [], ◌∷◌, ◌++◌, map, reverse, reverse_aux, reverse_aux-eq}
use Rattle.numbers.specs.Numbers.{pick}
use Rattle.numbers.specs.Laws.{passed}
use Rattle.event.specs.declared.Event.{Event}
use Rattle.event.specs.Event as E
use Rattle.event.specs.Laws.{record_passed}
use Rattle.rules.specs.RefusalLaws.{refusal_passed}
use Rattle.history.specs.Readings as R
use Rattle.history.specs.Claim as C
use Rattle.sentences.specs.Words.{first_that_fits}
use Rattle.sentences.specs.Paper as P
use Rattle.sentences.specs.Refusals.{same_refusal}
use Rattle.sentences_list.specs.Paper as L
use Rattle.sentences_list.specs.Latest.{each_left, now_read}
use Rattle.sentences_list.specs.Values.{tool_back, fault_read, forcing_read, has_parameters, parameters_are}
use Rattle.sentences_list.specs.Runs.{run_stands, run_is, has_run}

abbrev number_of : List ℕ → List ℕ → ℕ → ℕ → ℕ → ℕ
number_of s q run fault forcing =
    first_that_fits
    (P.of_the_reader s
    ++ P.of_the_drive q run fault forcing (get_or s 2 0) (get_or s 3 0) (256 * get_or s 4 0 + get_or s 5 0))

same_number : (s : List ℕ) {q q' : List ℕ} {r r' f f' g g' : ℕ} → q ≡ q' → r ≡ r' → f ≡ f' → g ≡ g'
    → number_of s q r f g ≡ number_of s q' r' f' g'
same_number s a b c d = λ i. number_of s (a i) (b i) (c i) (d i)

-- ── the judgement ──
module _ (h : List Event) (s : List ℕ) where
  judged_by : R.judgement h s ≡ number_of s (R.parameters h) (R.run_in h) (R.fault_in h) (R.forcing_in h)
  unfolding R.judgement
  judged_by = same_refusal s (R.parameters h) (R.run_in h) (R.commands_in h)

  pub judgement_is : (n : ℕ) → L.Judged h s n → R.judgement h s ≡ n
  judgement_is n w =
      judged_by
      ∙ same_number s (parameters_are h w.parameters) (run_stands h ∙ run_is 0 h w.run w.run_read)
      ((fault_read h w.now w.after_restart w.fault).1 w.fault_read)
      ((forcing_read h w.now w.after_restart w.forcing).1 w.forcing_read)
      ∙ w.number

  pub has_judgement : (n : ℕ) → R.judgement h s ≡ n → L.Judged h s n
  has_judgement n e =
      let a = (now_read h (R.current h)).0 refl in
      record {
        now = R.current h;
        after_restart = a;
        fault = R.fault_in h;
        forcing = R.forcing_in h;
        run = R.run_in h;
        q = R.parameters h;
        fault_read = (fault_read h (R.current h) a _).0 refl;
        forcing_read = (forcing_read h (R.current h) a _).0 refl;
        run_read = rw (run_stands h) (has_run 0 h);
        parameters = has_parameters h;
        number = sym judged_by ∙ e;
      }

-- ── the history of records, the latest first ──
abbrev pub given : List (List ℕ) → List Event
given [] = []
given (s ∷ l) = let h = given l in pick (eqb (R.judgement h s) 0) (E.event_in s ∷ h) h

pub history_is : {l : List (List ℕ)} {h : List Event} → L.History l h → given l ≡ h
history_is L.start = refl
history_is (L.accepted {h = h} {s = s} w j) = rw (history_is w, judgement_is h s 0 j)
history_is (L.refused {h = h} {s = s} {n = n} w j) =
    rw (history_is w, judgement_is h s (suc n) j, ne_eqb (suc n) 0 (λ e. absurd (omega arith)))

one_more : (l : List (List ℕ)) (s : List ℕ) (h : List Event) → L.History l h → (n : ℕ) → R.judgement h s ≡ n
    → L.History (s ∷ l) (pick (eqb n 0) (E.event_in s ∷ h) h)
one_more l s h w zero e = L.accepted w (has_judgement h s 0 e)
one_more l s h w (suc n) e = rw (ne_eqb (suc n) 0 (λ z. absurd (omega arith))) (L.refused w (has_judgement h s (suc n) e))

pub has_history : (l : List (List ℕ)) → L.History l (given l)
has_history [] = L.start
has_history (s ∷ l) = one_more l s (given l) (has_history l) (R.judgement (given l) s) refl

pub history_read : (l : List (List ℕ)) (h : List Event) → (given l ≡ h) ↔ L.History l h
history_read l h = (λ e. subst (L.History l) e (has_history l), λ w. history_is w)

-- the product's two forms of it: of records in their order, and of a trace, the latest first
pub history_from : (l k : List (List ℕ)) → R.history_from (given k) l ≡ given (reverse_aux l k)
unfolding R.history_from
history_from [] k = refl
history_from (s ∷ l) k = history_from l (s ∷ k)

pub history_on : (k : List (List ℕ)) (old : List Event) → L.History k old → (l : List (List ℕ)) (h : List Event)
    → (R.history_from old l ≡ h) ↔ L.History (reverse l ++ k) h
history_on k old w l h = rw (← (history_is w), history_from l k, reverse_aux-eq l k) (history_read (reverse l ++ k) h)

pub accepted_given : (t : C.Trace) → C.accepted t ≡ given (map (λ (m : C.Moment). m.bytes) t)
unfolding C.accepted
accepted_given [] = refl
accepted_given (m ∷ t) = rw (accepted_given t)

-- ── what is accepted ──
pub before_that : {l : List (List ℕ)} {e : Event} {h : List Event} → L.History l (e ∷ h) → L.Accepted h
before_that (L.accepted {l = l} w j) = (l, w)
before_that (L.refused w j) = before_that w

command_most : (s : List ℕ) (h : List Event) → R.judgement h s ≡ 0 → (E.event_in s).kind ≡ 3 → (E.event_in s).c ≤ 2
unfolding R.judgement E.data_refusal
command_most s h j k =
    let e = E.event_in s in
    let d = (record_passed s (refusal_passed s _ _ _ _ _ j).0).1 in
    let a = (passed (E.bad_kind e.kind) 4 _ d (omega arith)).1 in
    let b = (passed (E.unused_set e) 5 _ a (omega arith)).1 in
    let c = (passed (E.bad_a e.kind e.a) 6 _ b (omega arith)).1 in
    let x = (passed (E.bad_command e.kind e.c) 7 _ c (omega arith)).0 in
    ltb-false 2 e.c (rw k at x)

pub tools : {l : List (List ℕ)} {h : List Event} → L.History l h → L.Each (λ e. R.is_tool e ≡ true → L.Tool e) h
tools L.start = L.none
tools (L.accepted {h = h} {s = s} w j) = L.more (tool_back (E.event_in s) (command_most s h (judgement_is h s 0 j))) (tools w)
tools (L.refused w j) = tools w

pub each_now : {p : Event → Type 0} {h now : List Event} → L.AfterRestart h now → L.Each p h → L.Each p now
each_now {p} (L.never w e) b = subst (L.Each p) e b
each_now {p} {now = now} (L.restarted {r = r} {before = before} w) b = each_left now (r ∷ before) (subst (L.Each p) w.split b)
