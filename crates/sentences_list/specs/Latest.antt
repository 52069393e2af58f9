-- Proofs: the latest of a list, and the events after the last restart.
use Rattle.std.specs.Prelude.{◌≡◌, ◌↔◌, Bool, true, ℕ, eqb}
use Rattle.std.proofs.Math.Path.{refl}
use Rattle.std.proofs.Common.{sym, ap, subst, ◌∙◌, eqb-true, eq-eqb}
use Rattle.std.proofs.Math.Bool.{false≢true}
use mathlib.Core.List.{List, [], ◌∷◌, ◌++◌}
use Rattle.numbers.specs.Numbers.{pick}
use Rattle.numbers.specs.Laws.{cases, pick_elim}
use Rattle.event.specs.declared.Event.{Event}
use Rattle.history.specs.Readings as R
use Rattle.sentences_list.specs.Paper as L

pub each_of : {A : Type 0} {p : A → Type 0} → ((x : A) → p x) → (l : List A) → L.Each p l
each_of f [] = L.none
each_of f (x ∷ l) = L.more (f x) (each_of f l)

pub each_left : {A : Type 0} {p : A → Type 0} (l m : List A) → L.Each p (l ++ m) → L.Each p l
each_left [] m b = L.none
each_left (x ∷ l) m (L.more b bs) = L.more b (each_left l m bs)

-- the product's search, one event more
pub latest_cons : (t : Event → Bool) (e : Event) (l : List Event)
    → R.latest t (e ∷ l) ≡ pick (t e) (R.found [] e l) (R.below e (R.latest t l))
unfolding R.latest
latest_cons t e l = refl

-- `t` is the product's test for what is `p`, at least of the events in hand
module _ (p : Event → Type 0) (t : Event → Bool) (there : (e : Event) → p e → t e ≡ true) where
  abbrev pub Back : Event → Type 0
  Back e = t e ≡ true → p e

  abbrev pub Is : List Event → R.Found → Type 0
  Is l R.nothing = L.Without p l
  Is l (R.found after e before) = L.Latest p l after e before

  is_below : (x : Event) (l : List Event) (f : R.Found) → (p x → ⊥) → Is l f → Is (x ∷ l) (R.below x f)
  is_below x l R.nothing n w = L.more n w
  is_below x l (R.found after e before) n w =
      record { split = ap (λ (k : List Event). x ∷ k) w.split; so = w.so; none_after = L.more n w.none_after }

  -- what the product finds is the latest
  pub is_latest : (l : List Event) → L.Each Back l → Is l (R.latest t l)
  unfolding R.latest
  is_latest [] b = L.none
  is_latest (x ∷ l) (L.more b bs) =
      let rest = is_latest l bs in
      pick_elim (Is (x ∷ l)) (t x)
      (λ q. record { split = refl; so = b q; none_after = L.none })
      (λ q. is_below x l (R.latest t l) (λ y. false≢true (sym q ∙ there x y)) rest)

  -- and what is the latest it finds
  found_at : (after : List Event) (e : Event) (before : List Event) → L.Each Back after → p e → L.Without p after
      → R.latest t (after ++ (e ∷ before)) ≡ R.found after e before
  found_at [] e before b x w = rw (latest_cons t e before, there e x)
  found_at (y ∷ after) e before (L.more b bs) x (L.more n w) =
      cases (t y) (λ q. absurd (n (b q)))
      (λ q. rw (latest_cons t y (after ++ (e ∷ before)), q, found_at after e before bs x w))

  pub found_is : {l after : List Event} {e : Event} {before : List Event} → L.Each Back l → L.Latest p l after e before
      → R.latest t l ≡ R.found after e before
  found_is {l} {after} {e} {before} b w =
      rw w.split (found_at after e before (each_left after (e ∷ before) (subst (L.Each Back) w.split b)) w.so w.none_after)

  nothing_at : (l : List Event) → L.Each Back l → L.Without p l → R.latest t l ≡ R.nothing
  unfolding R.latest
  nothing_at [] b w = refl
  nothing_at (e ∷ l) (L.more b bs) (L.more n w) =
      let rest = nothing_at l bs w in
      cases (t e) (λ q. absurd (n (b q))) (λ q. rw (q, rest))

  pub nothing_is : {l : List Event} → L.Each Back l → L.Without p l → R.latest t l ≡ R.nothing
  nothing_is {l} b w = nothing_at l b w

  -- "as their latest event says, .. and off without one"
  module _ (of says : Event → ℕ) (same : (e : Event) → of e ≡ says e) (off : ℕ) where
    pub says_read : (l : List Event) → L.Each Back l → (v : ℕ) → (R.value_in off of (R.latest t l) ≡ v) ↔ L.LatestSays p says off l v
    says_read l b v = (go (R.latest t l) (is_latest l b), back)
      where
        go : (f : R.Found) → Is l f → R.value_in off of f ≡ v → L.LatestSays p says off l v
        go R.nothing w e = L.without w e
        go (R.found after x before) w e = L.latest w (sym (same x) ∙ e)

        back : L.LatestSays p says off l v → R.value_in off of (R.latest t l) ≡ v
        back (L.latest {e = x} w e) = rw (found_is b w) (same x ∙ e)
        back (L.without w e) = rw (nothing_is b w) e

-- every test of a kind
pub kind_there : (k : ℕ) (e : Event) → L.OfKind k e → eqb e.kind k ≡ true
kind_there k e x = eq-eqb e.kind k x

pub kind_back : (k : ℕ) (e : Event) → eqb e.kind k ≡ true → L.OfKind k e
kind_back k e x = eqb-true e.kind k x

-- "after the last restart"
restarts : (h : List Event) → L.Each (λ e. R.is_restart e ≡ true → L.OfKind 9 e) h
restarts h = each_of (kind_back 9) h

pub now_read : (h now : List Event) → (R.current h ≡ now) ↔ L.AfterRestart h now
unfolding R.current
now_read h now = (go (R.latest R.is_restart h) (is_latest (L.OfKind 9) R.is_restart (kind_there 9) h (restarts h)), back)
  where
    go : (f : R.Found) → Is (L.OfKind 9) R.is_restart (kind_there 9) h f → R.after_in h f ≡ now → L.AfterRestart h now
    go R.nothing w e = L.never w e
    go (R.found after r before) w e =
        L.restarted {r = r} {before = before} (subst (λ (x : List Event). L.Latest (L.OfKind 9) h x r before) e w)

    back : L.AfterRestart h now → R.after_in h (R.latest R.is_restart h) ≡ now
    back (L.restarted w) = rw (found_is (L.OfKind 9) R.is_restart (kind_there 9) (restarts h) w)
    back (L.never w e) = rw (nothing_is (L.OfKind 9) R.is_restart (kind_there 9) (restarts h) w) e
