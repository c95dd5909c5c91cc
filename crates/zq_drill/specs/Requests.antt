-- The request that a caller's words make.

use Rattle.std.specs.Fmt.{signed_decimal}
use Rattle.std.specs.Prelude.{List, [], codes, decimal, if◌then◌else◌, neg_ℤ, pos, ℕ, ℤ, ◌%◌, ◌++◌, ◌+ℤ◌, ◌==◌, ◌∷◌}
use Rattle.zq_drill.specs.declared.draws.Draw.{Draw}

-- a score or an increment, -100 to 100
abbrev pub amount_of : ℕ → ℤ
amount_of word = pos (word % 201) +ℤ neg_ℤ (pos 100)

-- a member, m0 to m15
abbrev pub member_of : ℕ → List ℕ
member_of word = codes "m" ++ decimal (word % 16)

-- the words of the command of this number, which is below 4
abbrev pub words_of : ℕ → List ℕ → List ℕ → List (List ℕ)
words_of number amount member =
    if number == 0 then codes "ZADD" ∷ codes "q" ∷ amount ∷ member ∷ [] else
    if number == 1 then codes "ZINCRBY" ∷ codes "q" ∷ amount ∷ member ∷ [] else
    if number == 2 then codes "ZREM" ∷ codes "q" ∷ member ∷ [] else
    codes "ZPOPNEAR" ∷ codes "q" ∷ []

abbrev pub request_of : Draw → List (List ℕ)
request_of draw = words_of (draw.verb % 4) (signed_decimal (amount_of draw.amount))
    (member_of draw.member)
