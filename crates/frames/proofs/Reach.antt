-- What stands where a length would, from the length.
use Rattle.std.proofs.Common.{◌≡◌, sym, ap, ◌∙◌, List, ℕ, ◌+◌, ◌-◌, ◌≤◌, ◌<◌, arith, length, drop, length-drop, drop-drop, lt-ltb, le-ltb}
use Rattle.rules.specs.Journal.{LengthRead, after_length, read_length}
use Rattle.std.specs.Prelude.{Ok, Err}
use Rattle.frames.specs.Forms.{LengthAt, ExtentAt}
use Rattle.frames.specs.declared.NoBatch.{NoBatch}
use Rattle.frames.specs.declared.NoBatch.TheVariants as X

module _ {s : List ℕ} {at : ℕ} where
  -- without a length
  pub no_batch : (why : NoBatch) → LengthAt s at (read_length (drop at s)) (Err why) → ExtentAt s at (Err why)
  unfolding after_length
  no_batch X.End a = record { is = λ t g more. ap (λ (x : LengthRead). after_length x t at g more) a.is; within = tt }
  no_batch X.Torn a = record { is = λ t g more. ap (λ (x : LengthRead). after_length x t at g more) a.is; within = tt }
  no_batch X.Bad a = record { is = λ t g more. ap (λ (x : LengthRead). after_length x t at g more) a.is; within = tt }

  module _ {n start : ℕ} (a : LengthAt s at (read_length (drop at s)) (Ok (n, start))) where
    pub torn : length s - start < n → ExtentAt s at (Err X.Torn)
    unfolding after_length
    torn h = record {
      is = λ t g more. sym (ap (λ (x : LengthRead). after_length x t at g more) (sym a.is) ∙ rw (lt-ltb (length (drop start s)) n (simp length-drop h)));
      within = tt;
    }

    pub batch_at : n ≤ length s - start → ExtentAt s at (Ok (start, start + n))
    unfolding after_length
    batch_at h =
        let k : start + n - start ≡ n = omega arith in
        record {
          is = λ t g more.
              sym (ap (λ (x : LengthRead). after_length x t at g more) (sym a.is)
              ∙ rw (le-ltb (length (drop start s)) n (simp length-drop h), k, drop-drop n start s));
          within = (a.ahead.0, omega arith, omega (arith, a.ahead.1), omega (arith, a.ahead.2));
        }
