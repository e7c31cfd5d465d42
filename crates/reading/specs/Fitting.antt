-- Records read back by the rules, and kept only if each of their numbers is of 32 bits (`fits`): no other is ever written.
use Rattle.std.specs.Prelude.{Bool, List, ℕ, if◌then◌else◌}
use Rattle.std.proofs.Math.Option.{Option, none, some}
use Rattle.rules.specs.Basics.{all, case_of}
use Rattle.rules.specs.Records.{Record, fits}
use Rattle.rules.specs.Reader.{Reader, pure, refuse, ◌>>=◌, read_record, read_all}

-- what was read, if it passes the test
unfoldable pub passing : {A : Type 0} → (A → Bool) → A → Reader A
passing f a = if f a then pure a else refuse

-- the record at the start of the bytes, and the bytes after it
unfoldable pub read_fitting : Reader Record
read_fitting = read_record >>= passing fits

-- all the records of a batch, with nothing left over
unfoldable pub read_fitting_all : List ℕ → Option (List Record)
read_fitting_all bytes = case_of (read_all bytes) none (λ rs. if all fits rs then some rs else none)
