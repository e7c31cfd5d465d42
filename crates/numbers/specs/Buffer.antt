-- What a writer does to a buffer that it is lent, of bytes or of anything else: a list goes over the front of the buffer, or over the buffer from a place on, and the rest stays.
-- `overlay` is the rules' own.
use Rattle.std.specs.Prelude.{◌≡◌, List, [], ◌∷◌, ◌++◌, ℕ, ◌+◌, length, take, drop}
use Rattle.rules.specs.Step.{overlay}

-- the list w over b from the place at on
unfoldable pub overlay_at : {A : Type 0} → ℕ → List A → List A → List A
overlay_at at w b = take at b ++ overlay w (drop at b)

-- w went to the front of the buffer b, which is then b'; r is the length of w
pub record Wrote {A : Type 0} (w b b' : List A) (r : ℕ) : Type 0 where
  pub count : r ≡ length w
  pub bytes : b' ≡ overlay w b

-- w went to the place at of the buffer b, which is then b'; r is the place after it
pub record WroteAt {A : Type 0} (w : List A) (at : ℕ) (b b' : List A) (r : ℕ) : Type 0 where
  pub place : r ≡ at + length w
  pub bytes : b' ≡ overlay_at at w b

-- parts, one after another
abbrev pub flat : {A : Type 0} → List (List A) → List A
flat [] = []
flat (u ∷ us) = u ++ flat us
