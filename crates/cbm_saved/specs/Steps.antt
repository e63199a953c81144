-- Steps of reading, of which each may find nothing.
use Rattle.std.specs.Prelude.{Option, Some, None}

-- the next step, where the one before it found something
infixl 10 ◌>>=◌
abbrev pub ◌>>=◌ : {A B : Type 0} → Option A → (A → Option B) → Option B
None >>= f = None
(Some x) >>= f = f x
