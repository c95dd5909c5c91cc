-- What a box contains.
use Rattle.std.specs.Prelude.{Option, Some, None, IsSome}
use Rattle.std.proofs.lemmas.Bool.{false≢true}

-- the value of an option that has one
abbrev pub the_value : {T : Type 0} → (o : Option T) → IsSome o → T
the_value (Some x) some = x
the_value None some = absurd (false≢true some)
