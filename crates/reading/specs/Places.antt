-- Reading at a place of the bytes, where a cursor stands.
use Rattle.std.specs.Prelude.{ℕ, ◌≤◌, ◌<◌, ◌≡◌, List, length, drop, Option, None, Some}
use Rattle.std.proofs.Math.Option.{none, some}
use Rattle.rules.specs.Reader.{Reader}
use Rattle.reading.specs.declared.fields.Cursor.{Cursor}

-- the bytes from the cursor on
abbrev pub ahead : Cursor → List ℕ
ahead c = drop c.at c.bytes.now

-- at the cursor the reader finds nothing, or what r is, and leaves the cursor at the place after it, which is of the bytes or their end and further on
abbrev pub Finds : {A B : Type 0} → Reader A → (B → A) → Cursor → Option B → Cursor → Type 0
Finds m view c None c' = m (ahead c) ≡ none
Finds m view c (Some r) c' = (m (ahead c) ≡ some (view r, ahead c')) × (c'.bytes ≡ c.bytes) × (c.at < c'.at) × (c'.at ≤ length c'.bytes.now)
