-- Laws of targets: the one at the ruling rank is that of the source there, and each is a position of a byte.
use Rattle.std.specs.Prelude.{◌≡◌, refl, Bool, List, [], ◌∷◌, map, ℕ, zero, suc, ◌<◌, ◌≤◌, eqb, length, get_or}
use Rattle.std.proofs.Common.{not-suc-le-zero, le_of_suc-le-suc, arith}
use Rattle.numbers.specs.Numbers.{on}
use Rattle.numbers.specs.Laws.{pick_elim}
use Rattle.table.specs.Table.{backup_mode, low, high}
use Rattle.rules.specs.declared.Commands.{Commands}
use Rattle.rules.specs.Rank as R
use Rattle.rules.specs.RankLaws.{ruling_below}

-- what a function makes of the member at a place of a list
map_at : {A B : Type 0} (f : A → B) (l : List A) (i : ℕ) (x : B) (y : A) → i < length l → get_or (map f l) i x ≡ f (get_or l i y)
map_at f [] i x y h = absurd (not-suc-le-zero h)
map_at f (a ∷ l) zero x y h = refl
map_at f (a ∷ l) (suc i) x y h = map_at f l i x y (le_of_suc-le-suc h)

module _ (c : Commands) (r p : ℕ) (q : List ℕ) where
  -- whatever the order of the sources
  pub ruling_target : (b : Bool)
      → (let rank = R.ruling_rank (R.active_byte c r b) in get_or (R.targets c r p q) rank 0 ≡ R.target_of c r p q (R.source_at rank))
  unfolding R.targets
  ruling_target b = map_at (R.target_of c r p q) R.ranking _ 0 R.backup (ruling_below c r b)

  -- from a position of a byte, and Low and High of one
  module _ (position : p < 256) (low_most : low q ≤ 255) (high_most : high q ≤ 255) where
    limited_byte : (v : ℕ) → R.limited q v < 256
    limited_byte v = omega arith

    abbrev Byte : ℕ → Type 0
    Byte t = t < 256

    pub target_byte : (s : R.Source) → R.target_of c r p q s < 256
    unfolding R.backup_target
    target_byte R.backup =
        pick_elim Byte (eqb (backup_mode q) 0) (λ e. limited_byte _) (λ e. pick_elim Byte (on c.stored) (λ e. limited_byte _) (λ e. position))
    target_byte R.bus = limited_byte _
    target_byte R.tool = limited_byte _
    target_byte R.hand = limited_byte _
    target_byte R.run = pick_elim Byte (eqb r 3) (λ e. omega arith) (λ e. omega arith)
    target_byte R.forcing = pick_elim Byte (eqb c.forcing 2) (λ e. omega arith) (λ e. omega arith)
    target_byte R.fault = position
