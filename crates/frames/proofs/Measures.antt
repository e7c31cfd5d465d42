-- The length of a batch, by its first and its second byte.
use Rattle.std.specs.Prelude.{Result, Ok, Err}
use Rattle.std.proofs.Common.{◌≡◌, sym, ap, ◌∙◌, List, ◌∷◌, ℕ, ◌+◌, ◌-◌, ◌*◌, ◌≤◌, ◌<◌, add-one, arith, length, get_or, drop, drop_of_length-le, drop-cons, lt-ltb, le-ltb, le-leb, eq-eqb, ne_eqb}
use borrow.Author.Tests.{lt-leb}
use Rattle.rules.specs.Constants.{batch_limit}
use Rattle.rules.specs.Journal.{read_length, second_group}
use Rattle.frames.specs.Forms.{LengthAt}
use Rattle.frames.specs.declared.NoBatch.{NoBatch}
use Rattle.frames.specs.declared.NoBatch.TheVariants as X

module _ (s : List ℕ) (at : ℕ) where
  pub none_left : length s ≤ at → LengthAt s at (read_length (drop at s)) (Err X.End)
  unfolding read_length
  none_left h = record { is = rw (drop_of_length-le s h); ahead = tt }

  pub cut_second : (low : ℕ) → length s ≤ at → LengthAt s at (second_group low (drop at s)) (Err X.Torn)
  unfolding second_group
  cut_second low h = record { is = rw (drop_of_length-le s h); ahead = tt }

-- the byte b stands at the place
module _ (s : List ℕ) (at b : ℕ) (h : at < length s) (e : b ≡ get_or s at 0) where
  here : drop at s ≡ b ∷ drop (at + 1) s
  here = rw (e, add-one at, drop-cons s at 0 h)

  pub zero_length : b ≡ 0 → LengthAt s at (read_length (drop at s)) (Err X.Bad)
  unfolding read_length
  zero_length z = record { is = sym (ap read_length here ∙ rw (lt-ltb b 128 (omega (arith, z)), eq-eqb b 0 z)); ahead = tt }

  pub short_length : b < 128 → (b ≡ 0 → ⊥) → LengthAt s at (read_length (drop at s)) (Ok (b, at + 1))
  unfolding read_length
  short_length l z = record {
    is = sym (ap read_length here ∙ rw (lt-ltb b 128 l, ne_eqb b 0 z));
    ahead = (omega arith, omega arith, omega arith);
  }

  -- the second group's place is after the first's
  pub long_length : 128 ≤ b → (r : Result (ℕ × ℕ) NoBatch) → LengthAt s (at + 1) (second_group (b - 128) (drop (at + 1) s)) r
      → LengthAt s at (read_length (drop at s)) r
  unfolding read_length
  long_length l (Ok found) a = record {
    is = a.is ∙ sym (ap read_length here ∙ rw (le-ltb b 128 l));
    ahead = (omega (arith, a.ahead.0), a.ahead.1, a.ahead.2);
  }
  long_length l (Err why) a = record { is = a.is ∙ sym (ap read_length here ∙ rw (le-ltb b 128 l)); ahead = tt }

  module _ (low : ℕ) where
    pub third_group : 128 ≤ b → LengthAt s at (second_group low (drop at s)) (Err X.Bad)
    unfolding second_group
    third_group l = record { is = sym (ap (second_group low) here ∙ rw (le-leb 128 b l)); ahead = tt }

    pub for_nothing : b ≡ 0 → LengthAt s at (second_group low (drop at s)) (Err X.Bad)
    unfolding second_group
    for_nothing z = record { is = sym (ap (second_group low) here ∙ rw (lt-leb 128 b (omega (arith, z)), eq-eqb b 0 z)); ahead = tt }

    pub too_long : b < 128 → (b ≡ 0 → ⊥) → batch_limit < b * 128 + low → LengthAt s at (second_group low (drop at s)) (Err X.Bad)
    unfolding second_group
    too_long l z k = record {
      is = sym (ap (second_group low) here ∙ rw (lt-leb 128 b l, ne_eqb b 0 z, lt-ltb batch_limit (b * 128 + low) k));
      ahead = tt;
    }

    pub two_groups : b < 128 → (b ≡ 0 → ⊥) → b * 128 + low ≤ batch_limit → LengthAt s at (second_group low (drop at s)) (Ok (b * 128 + low, at + 1))
    unfolding second_group
    two_groups l z k = record {
      is = sym (ap (second_group low) here ∙ rw (lt-leb 128 b l, ne_eqb b 0 z, le-ltb batch_limit (b * 128 + low) k));
      ahead = (omega arith, omega arith, k);
    }
