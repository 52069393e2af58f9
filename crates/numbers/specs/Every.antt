-- What holds of every member of a list.
use Rattle.std.specs.Prelude.{List, [], ◌∷◌, ◌++◌}

pub data Every {A : Type 0} (P : A → Type 0) : List A → Type 0 where
  none : Every P []
  more : {x : A} {l : List A} → P x → Every P l → Every P (x ∷ l)

module _ {A : Type 0} {P : A → Type 0} where
  -- of the first, and of those behind it
  pub every_first : {x : A} {l : List A} → Every P (x ∷ l) → P x
  every_first (more p ps) = p

  pub every_behind : {x : A} {l : List A} → Every P (x ∷ l) → Every P l
  every_behind (more p ps) = ps

  -- what holds of each for another reason
  pub every_by : {Q : A → Type 0} {l : List A} → ((x : A) → P x → Q x) → Every P l → Every Q l
  every_by f none = none
  every_by f (more {x} p ps) = more (f x p) (every_by f ps)

  -- of each of two lists, one behind the other
  pub every_front : (l m : List A) → Every P (l ++ m) → Every P l
  every_front [] m ps = none
  every_front (x ∷ l) m (more p ps) = more p (every_front l m ps)

  pub every_rest : (l m : List A) → Every P (l ++ m) → Every P m
  every_rest [] m ps = ps
  every_rest (x ∷ l) m (more p ps) = every_rest l m ps
