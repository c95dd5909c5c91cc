-- Laws of further requests: how they stand beside commands.
use Rattle.std.specs.Prelude.{Err, IsTrue, List, None, Ok, Some, [], codes, false, length, true, ◌<◌, ◌∷◌, ◌≡◌}
use Rattle.zq_dialect.specs.Further.{Finding, call_of, further_of}
use Rattle.zq_dialect.specs.Said.{said_of}
use Rattle.zq_dialect.specs.Spelled.{plain_bound}
use Rattle.zq_dialect.specs.declared.further.Further.{Further}
use Rattle.zq_dialect.specs.declared.further.Further.TheVariants as further
use Rattle.zq_words.specs.Calls.{PopLast, RemoveRange}
use Rattle.zq_words.specs.Command.{Reading, Zpopmin, Zrange, command_of, name_of as command_named}
use Rattle.zq_words.specs.Words.{Word, is}

-- No word names both.
abbrev pub NamesApart : Type 0
NamesApart = (word : Word) (known : Further) → further_of word ≡ Some known →
    command_named word ≡ None

-- A bound of the scores that are removed becomes the next whole one inside the range.
abbrev pub BoundsInward : Type 0
BoundsInward =
    (word key a b : Word) (words : List Word) → IsTrue (is word (codes "ZREMRANGEBYSCORE")) →
    said_of (word ∷ key ∷ a ∷ b ∷ words)
    ≡ Ok (word ∷ key ∷ plain_bound true a ∷ plain_bound false b ∷ words)

-- Where it has too few words they stay.
abbrev pub FewBoundsStay : Type 0
FewBoundsStay =
    (word : Word) (words : List Word) → IsTrue (is word (codes "ZREMRANGEBYSCORE")) →
    length words < 3 → said_of (word ∷ words) ≡ Ok (word ∷ words)

-- The words of the others stay. So a count and a place are read as those of a command.
abbrev pub FurtherStay : Type 0
FurtherStay =
    (word : Word) (words : List Word) (known : Further) → further_of word ≡ Some known →
    (known ≡ further.Zremrangebyscore → ⊥) →
    said_of (word ∷ words) ≡ Ok (word ∷ words)

-- the range that a command takes is removed
abbrev pub removal_of : Reading → Finding
removal_of (Ok (Zrange key range is_turned with_scores)) = Ok (Some (RemoveRange key range))
removal_of (Ok command) = Ok None
removal_of (Err why) = Err why

-- What is removed is the range that ZRANGE takes by these words.
abbrev pub ScoresRemoved : Type 0
ScoresRemoved =
    (word key a b : Word) → IsTrue (is word (codes "ZREMRANGEBYSCORE")) →
    call_of (word ∷ key ∷ a ∷ b ∷ [])
    ≡ removal_of (command_of (codes "ZRANGE" ∷ key ∷ a ∷ b ∷ codes "BYSCORE" ∷ []))

abbrev pub PlacesRemoved : Type 0
PlacesRemoved =
    (word key a b : Word) → IsTrue (is word (codes "ZREMRANGEBYRANK")) →
    call_of (word ∷ key ∷ a ∷ b ∷ [])
    ≡ removal_of (command_of (codes "ZRANGE" ∷ key ∷ a ∷ b ∷ []))

-- so many pairs are popped at the other end
abbrev pub last_of : Reading → Finding
last_of (Ok (Zpopmin key count)) = Ok (Some (PopLast key count))
last_of (Ok command) = Ok None
last_of (Err why) = Err why

-- ZPOPMAX pops as many of the last pairs as ZPOPMIN of the first, and is refused where it is.
abbrev pub LastPopped : Type 0
LastPopped =
    (word : Word) (words : List Word) → IsTrue (is word (codes "ZPOPMAX")) →
    call_of (word ∷ words) ≡ last_of (command_of (codes "ZPOPMIN" ∷ words))
