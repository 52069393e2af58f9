-- What a flag says: something that holds just where it is set.
use Rattle.std.specs.Prelude.{◌≡◌, refl, ◌↔◌, Bool, true, false, not, ◌&&◌, ℕ, ◌<◌, ◌≤◌, leb, ltb, eqb}
use Rattle.std.proofs.Common.{sym, ◌∙◌, leb-true, le-leb, ltb-true, lt-ltb, eqb-true, eq-eqb}
use Rattle.std.proofs.lemmas.Bool.{false≢true}
use Rattle.numbers.specs.Laws.{cases, and_left, and_right, and_intro}

abbrev pub Says : Bool → Type 0 → Type 0
Says b X = (b ≡ true) ↔ X

-- where it is not set
pub unset : (b : Bool) {X : Type 0} → Says b X → (b ≡ false) ↔ (X → ⊥)
unset b e = (λ f x. false≢true (sym f ∙ e.1 x), λ n. cases b (λ q. absurd (n (e.0 q))) (λ q. q))

pub negated : (b : Bool) {X : Type 0} → Says b X → Says (not b) (X → ⊥)
negated true e = (λ f. absurd (false≢true f), λ n. absurd (n (e.0 refl)))
negated false e = (λ f x. false≢true (e.1 x), λ n. refl)

pub both : (b c : Bool) {X Y : Type 0} → Says b X → Says c Y → Says (b && c) (X × Y)
both b c e f = (λ q. (e.0 (and_left b c q), f.0 (and_right b c q)), λ p. and_intro (e.1 p.0) (f.1 p.1))

pub equal : (m n : ℕ) → Says (eqb m n) (m ≡ n)
equal m n = (eqb-true m n, eq-eqb m n)

pub below : (m n : ℕ) → Says (ltb m n) (m < n)
below m n = (ltb-true m n, lt-ltb m n)

pub at_most : (m n : ℕ) → Says (leb m n) (m ≤ n)
at_most m n = (leb-true m n, le-leb m n)

-- two flags are equal just where they say the same, and differ just where they do not
pub same_flags : (b c : Bool) {X Y : Type 0} → Says b X → Says c Y → (b ≡ c) ↔ (X ↔ Y)
same_flags true true e f = (λ q. (λ x. f.0 refl, λ y. e.0 refl), λ q. refl)
same_flags true false e f = (λ q. absurd (false≢true (sym q)), λ q. absurd (false≢true (f.1 (q.0 (e.0 refl)))))
same_flags false true e f = (λ q. absurd (false≢true q), λ q. absurd (false≢true (e.1 (q.1 (f.0 refl)))))
same_flags false false e f = (λ q. (λ x. absurd (false≢true (e.1 x)), λ y. absurd (false≢true (f.1 y))), λ q. refl)
