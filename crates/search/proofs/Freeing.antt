-- A word with a one for each place that passes: its trailing zeros are the lowest of them.
use Rattle.std.proofs.Common.{◌≡◌, sym, ap, ◌∙◌, Bool, true, false, true≢false, ℕ, ◌+◌, ◌-◌, ◌^◌, ◌≤◌, ◌<◌, arith}
use native.Mathlib.Decide.{dec_lt}
use lib.Count.{count_trailing_zeros}
use Rattle.std.specs.Prelude.{Some}
use Rattle.rules.specs.Constants.{max_members}
use Rattle.slots.specs.Set.{bit}
use Rattle.slots.proofs.Bits.{bit_zero}
use Rattle.slots.proofs.Next.{trailing, trailing_lt}
use Rattle.search.specs.Places.{word_places, FirstPlace, Marks}
use Rattle.search.proofs.Placing.{NoneBelow, none_to}

module _ (f : ℕ → Bool) (from word : ℕ) (marks : Marks f from word) (before : NoneBelow f from) where
  -- as far as the bits of the word are zero
  none_marked : (t : ℕ) → t ≤ word_places → ((i : ℕ) → i < t → bit word i ≡ false) → NoneBelow f (from + t)
  none_marked t most off = none_to (from + t) before off_at
    where
      off_at : (k : ℕ) → from ≤ k → k < from + t → f k ≡ false
      off_at k p q =
          let e : from + (k - from) ≡ k = omega arith in
          ap f (sym e) ∙ sym (marks.here (k - from) (omega arith)) ∙ off (k - from) (omega arith)

  -- a word of zeros
  pub none_free : word ≡ 0 → NoneBelow f (from + word_places)
  none_free z = none_marked word_places (omega arith) (λ i q. ap (λ (w : ℕ). bit w i) z ∙ bit_zero i)

  module _ (fits : word < 2 ^ 64) (some : 0 < word) where
    abbrev lowest : ℕ
    lowest = count_trailing_zeros 64 word

    lowest_on : bit word lowest ≡ true
    lowest_on = (trailing 64 word).1 (trailing_lt 64 word some fits)

    lowest_in : lowest < word_places
    lowest_in = go (dec_lt lowest word_places)
      where
        go : Dec (lowest < word_places) → lowest < word_places
        go (yes h) = h
        go (no h) = absurd (true≢false (sym lowest_on ∙ marks.past lowest (omega arith)))

    pub lowest_free_lem : from + word_places ≤ max_members → FirstPlace f (Some (from + lowest))
    lowest_free_lem room = (
      omega (arith, lowest_in),
      record {
        most = omega (arith, lowest_in);
        before = none_marked lowest (omega (arith, lowest_in)) (trailing 64 word).0;
        there = λ q. sym (marks.here lowest lowest_in) ∙ lowest_on;
      },
    )
