-- Reading from left to right, up to the first thing that has not come yet or does not agree.

use Rattle.std.specs.Option.{ok_or}
use Rattle.std.specs.Prelude.{Err, List, Ok, Result, ℕ, ◌≡◌}
use Rattle.zq_fields.specs.Fields.{byte_field, bytes_field}
use Rattle.zq_wire.specs.declared.stop.Stop.{Stop}
use Rattle.zq_wire.specs.declared.stop.Stop.TheVariants.{Short}

-- what a reader returned, seen by view, is what reading gives
abbrev pub Gives : {X Y : Type 0} → (X → Y) → Result X Stop → Result Y Stop → Type 0
Gives view (Ok x) read = read ≡ Ok (view x)
Gives view (Err stop) read = read ≡ Err stop

infixl 10 ◌>>=◌
abbrev pub ◌>>=◌ : {X Y : Type 0} → Result X Stop → (X → Result Y Stop) → Result Y Stop
(Ok x) >>= f = f x
(Err stop) >>= f = Err stop

-- a byte and what follows
abbrev pub byte_at : List ℕ → Result (ℕ × List ℕ) Stop
byte_at bytes = ok_or (byte_field bytes) Short

-- this many bytes and what follows
abbrev pub bytes_at : ℕ → List ℕ → Result (List ℕ × List ℕ) Stop
bytes_at n bytes = ok_or (bytes_field n bytes) Short
