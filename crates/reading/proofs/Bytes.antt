-- Bytes and IDs at a place.
use Rattle.std.proofs.Common.{◌≡◌, refl, ap, ◌∙◌, List, [], ◌∷◌, ℕ, zero, suc, ◌+◌, ◌≤◌, ◌<◌, add-one, arith, length, get_or, take, drop, length-drop, drop_of_length-le, drop-cons, drop-drop}
use mathlib.Core.Option.{none, some}
use Rattle.rules.specs.Reader.{and_then, pure, byte, ◌>>=◌, read_bytes}

module _ (s : List ℕ) (at : ℕ) where
  pub byte_here : (d : ℕ) → at < length s → byte (drop at s) ≡ some (get_or s at d, drop (at + 1) s)
  unfolding byte
  byte_here d h = rw (add-one at, drop-cons s at d h)

  pub byte_past : length s ≤ at → byte (drop at s) ≡ none
  unfolding byte
  byte_past h = rw (drop_of_length-le s h)

bytes_all : (n : ℕ) (bytes : List ℕ) → n ≤ length bytes → read_bytes n bytes ≡ some (take n bytes, drop n bytes)
unfolding read_bytes byte ◌>>=◌ and_then pure
bytes_all zero bytes h = refl
bytes_all (suc n) [] h = absurd (omega arith)
bytes_all (suc n) (b ∷ bytes) h = rw (bytes_all n bytes (omega arith))

bytes_cut : (n : ℕ) (bytes : List ℕ) → length bytes < n → read_bytes n bytes ≡ none
unfolding read_bytes byte ◌>>=◌ and_then pure
bytes_cut zero bytes h = absurd (omega arith)
bytes_cut (suc n) [] h = refl
bytes_cut (suc n) (b ∷ bytes) h = rw (bytes_cut n bytes (omega arith))

-- n bytes from a place on
module _ (n : ℕ) (s : List ℕ) (at : ℕ) where
  pub bytes_here : at + n ≤ length s → read_bytes n (drop at s) ≡ some (take n (drop at s), drop (at + n) s)
  bytes_here h = bytes_all n (drop at s) (simp length-drop (omega arith)) ∙ ap (λ (l : List ℕ). some (take n (drop at s), l)) (drop-drop n at s)

  pub bytes_past : 0 < n → length s < at + n → read_bytes n (drop at s) ≡ none
  bytes_past z h = bytes_cut n (drop at s) (simp length-drop (omega arith))
