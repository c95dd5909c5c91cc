-- What comes of a request.
use Rattle.std.specs.Prelude.{◌≡◌, ℕ, List, Option, None, Some, Result, Ok, Err}
use Rattle.std.specs.declared.alloc.Global.{Global}
use Rattle.std.specs.declared.vec.Vec.{Vec}
use Rattle.zq_dialect.specs.Said.{Saying}
use Rattle.zq_words.specs.Words.{Word, views}
use Rattle.zq_words.specs.declared.refused.Refused.{Refused}
use Rattle.zq_words.specs.declared.refused.Refused.TheVariants.{NoMemory}

-- A refusal is that of the words. Memory lacks only where other words are to be made.
abbrev pub Refuses : Refused → List Word → Saying → Type 0
Refuses NoMemory old new = new ≡ Ok old → ⊥
Refuses refused old new = new ≡ Err refused

-- other words, or none where they stay as they are
abbrev pub Rewrites : Result (Option (List Word)) Refused → List Word → Saying → Type 0
Rewrites (Ok None) old new = new ≡ Ok old
Rewrites (Ok (Some words)) old new = new ≡ Ok words
Rewrites (Err refused) old new = Refuses refused old new

-- the same of words in memory
abbrev pub Gives : Result (Option (Vec (Vec ℕ Global) Global)) Refused → List Word → Saying →
    Type 0
Gives (Ok None) old new = new ≡ Ok old
Gives (Ok (Some words)) old new = new ≡ Ok (views words.items)
Gives (Err refused) old new = Refuses refused old new

-- words that are always made, unless they are refused
abbrev pub Spells : Result (Vec (Vec ℕ Global) Global) Refused → Saying → Type 0
Spells (Ok words) new = new ≡ Ok (views words.items)
Spells (Err NoMemory) new = Unit {0}
Spells (Err refused) new = new ≡ Err refused
