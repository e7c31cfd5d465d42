-- What is stored of an event, as its two parts; and when it is.
use Rattle.std.proofs.Common.{◌≡◌, refl, sym, List, [], ◌∷◌, ◌++◌, append-nil, ℕ, ◌+◌, ◌≤◌, ◌<◌, arith, length, length-append, lt-ltb, le-ltb}
use Rattle.rules.specs.Constants.{batch_limit}
use Rattle.rules.specs.Records.{number}
use Rattle.rules.specs.Step.{overlay}
use Rattle.rules.specs.Journal.{entry}
use Rattle.numbers.specs.Buffer.{Wrote, WroteAt, flat}
use Rattle.numbers.proofs.Writing.{Writing, begin, over_whole, put_at_lem, room₀, ended}
use Rattle.frames.specs.Forms.{framed, if_room}

pub entry_is : (w : List ℕ) → 1 ≤ length w → entry w ≡ number (length w) ++ w
unfolding entry
entry_is [] h = absurd (omega arith)
entry_is (b ∷ w) h = refl

pub entry_parts : (w : List ℕ) → 1 ≤ length w → flat (number (length w) ∷ w ∷ []) ≡ entry w
entry_parts w h = rw append-nil (sym (entry_is w h))

pub entry_length : (w : List ℕ) → 1 ≤ length w → length (entry w) ≡ length (number (length w)) + length w
entry_length w h = rw (entry_is w h) (length-append (number (length w)) w)

-- ---- the two parts, written one after the other

module _ (w b : List ℕ) (some : 1 ≤ length w) (fits : length (entry w) ≤ length b) where
  at_start : Writing (entry w) b b 0 (number (length w) ∷ w ∷ [])
  at_start = begin _ _ _ (entry_parts w some) fits

  pub number_fits : length (number (length w)) ≤ length b
  number_fits = room₀ at_start

  module _ {b₁ : List ℕ} {at : ℕ} (p : Wrote (number (length w)) b b₁ at) where
    pub at_records : Writing (entry w) b b₁ at (w ∷ [])
    at_records = put_at_lem at_start (over_whole _ _ _ _ p)

    pub entry_written : {last : List ℕ} {n : ℕ} → WroteAt w at b₁ last n → Wrote (entry w) b last n
    entry_written q = ended (put_at_lem at_records q) refl

-- ---- what is written

none_written : (b : List ℕ) → Wrote [] b b 0
unfolding overlay
none_written b = record { count = refl; bytes = refl }

pub no_room : (w b : List ℕ) → length b < length w → Wrote (if_room w b) b b 0
unfolding if_room
no_room w b h = rw (lt-ltb (length b) (length w) h) (none_written b)

pub room : (w b : List ℕ) → length w ≤ length b → (b' : List ℕ) (n : ℕ) → Wrote w b b' n → Wrote (if_room w b) b b' n
unfolding if_room
room w b h b' n p = rw (le-ltb (length b) (length w) h) p

pub nothing_stored : (b : List ℕ) → Wrote (if_room [] b) b b 0
nothing_stored b = room [] b (omega arith) b 0 (none_written b)

pub framed_is : (w : List ℕ) → length w ≤ batch_limit → framed w ≡ entry w
unfolding framed
framed_is w h = rw (le-ltb batch_limit (length w) h)

pub framed_large : (w : List ℕ) → batch_limit < length w → framed w ≡ []
unfolding framed
framed_large w h = rw (lt-ltb batch_limit (length w) h)

pub framed_empty : (w : List ℕ) → length w ≡ 0 → framed w ≡ []
unfolding framed entry
framed_empty [] e = refl
framed_empty (x ∷ w) e = absurd (omega arith)
