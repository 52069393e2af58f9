-- Proofs: each drive's share of a list of calls, call by call.
use Rattle.std.specs.Prelude.{◌≡◌, refl, List, [], ◌∷◌, ◌++◌, ℕ, suc, ◌<◌, length}
use Rattle.std.proofs.Common.{ap, ◌∙◌, arith}
use borrow.Author.Tests.{ne_eqb}
use Rattle.numbers.specs.Numbers.{pick}
use Rattle.damper.specs.declared.Drive.{Drive}
use Rattle.hall.specs.Hall.{Call, give, tick, named_in}
use Rattle.hall.specs.Quota.{sends}
use Rattle.hall.specs.Turns.{Given, bytes, hall_tick, hall_step, turns_asked, turns_of, row_after, turns_in, hall_after, shared_out, share, events_for}
use Rattle.hall.specs.OnceLaws.{once_shared}
use Rattle.hall.specs.TickLaws.{tick_shared}
use Rattle.hall.specs.EventLaws.{given_once}
use Rattle.shares.specs.Shares as Shares
use Rattle.shares.specs.Shares.{shared_append}
use Rattle.sentences_hall.specs.Paper as P
use Rattle.sentences_hall.specs.Refused.{same_call}
use Rattle.sentences_hall.specs.Turns.{not_carried, is_named, is_unnamed}

pub none_after : (row : List Drive) → hall_after row [] ≡ row
unfolding hall_after
none_after row = refl

pub more_after : (row : List Drive) (c : Call) (cs : List Call)
    → hall_after row (c ∷ cs) ≡ hall_after (row_after hall_step row (turns_of row c)) cs
unfolding hall_after
more_after row c cs = refl

pub no_calls : (row : List Drive) (i : ℕ) → share row i [] ≡ []
unfolding turns_in shared_out
no_calls row i = refl

module _ (row : List Drive) (i : ℕ) (cs : List Call) where
  -- the row after one call
  abbrev after : Call → List Drive
  after c = row_after hall_step row (turns_of row c)

  pub one_more : (c : Call) → share row i (c ∷ cs) ≡ shared_out i (turns_of row c) ++ share (after c) i cs
  unfolding turns_in
  one_more c = shared_append i (turns_of row c) (turns_in (after c) cs)

  pub refused_share : (c : Call) (k : ℕ) → P.answer_to (length row) c ≡ suc k → share row i (c ∷ cs) ≡ share row i cs
  refused_share c k e = Shares.refused_share row c (not_carried row c k e) cs i

  asked : (c : Call) → P.answer_to (length row) c ≡ 0 → turns_of row c ≡ turns_asked row c
  unfolding turns_of
  asked c e = rw (same_call (length row) c ∙ e)

  module _ (list s : List ℕ) (room : ℕ) (ok : P.answer_to (length row) (give list s room) ≡ 0) where
    one_event : share row i (give list s room ∷ cs) ≡ pick (named_in i list) (bytes s ∷ []) [] ++ share (after (give list s room)) i cs
    one_event =
        one_more (give list s room)
        ∙ ap (λ (g : List Given). g ++ share (after (give list s room)) i cs)
        (ap (shared_out i) (asked (give list s room) ok)
        ∙ once_shared (λ x. bytes s) i list (given_once (length row) list s room (same_call (length row) (give list s room) ∙ ok)))

    pub named_share : P.Listed i list → share row i (give list s room ∷ cs) ≡ bytes s ∷ share (after (give list s room)) i cs
    named_share l = one_event ∙ rw (is_named i list l)

    pub unnamed_share : (P.Listed i list → ⊥) → share row i (give list s room ∷ cs) ≡ share (after (give list s room)) i cs
    unnamed_share l = one_event ∙ rw (is_unnamed i list l)

  pub tick_share : (quota room : ℕ) → P.answer_to (length row) (tick quota room) ≡ 0 → i < length row
      → share row i (tick quota room ∷ cs) ≡ hall_tick (sends quota row i) ∷ share (after (tick quota room)) i cs
  tick_share quota room ok h =
      one_more (tick quota room)
      ∙ ap (λ (g : List Given). g ++ share (after (tick quota room)) i cs)
      (ap (shared_out i) (asked (tick quota room) ok) ∙ tick_shared (λ x. hall_tick (sends quota row x)) (length row) i h)

-- as event records
pub no_records : (n i : ℕ) → events_for n i [] ≡ []
unfolding events_for
no_records n i = refl

module _ (n i : ℕ) (cs : List Call) where
  pub refused_records : (c : Call) (k : ℕ) → P.answer_to n c ≡ suc k → events_for n i (c ∷ cs) ≡ events_for n i cs
  unfolding events_for
  refused_records c k e = rw (same_call n c ∙ e, ne_eqb (suc k) 0 (λ z. absurd (omega arith)))

  module _ (list s : List ℕ) (room : ℕ) (ok : P.answer_to n (give list s room) ≡ 0) where
    pub named_records : P.Listed i list → events_for n i (give list s room ∷ cs) ≡ s ∷ events_for n i cs
    unfolding events_for
    named_records l = rw (same_call n (give list s room) ∙ ok, is_named i list l)

    pub unnamed_records : (P.Listed i list → ⊥) → events_for n i (give list s room ∷ cs) ≡ events_for n i cs
    unfolding events_for
    unnamed_records l = rw (same_call n (give list s room) ∙ ok, is_unnamed i list l)

  pub tick_records : (quota room : ℕ) → P.answer_to n (tick quota room) ≡ 0
      → events_for n i (tick quota room ∷ cs) ≡ (0x5a ∷ 0xc3 ∷ 1 ∷ 0 ∷ 0 ∷ 0 ∷ []) ∷ events_for n i cs
  unfolding events_for
  tick_records quota room ok = rw (same_call n (tick quota room) ∙ ok)
