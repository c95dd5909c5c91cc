-- The fields of texts in chunks, as texts.

use Rattle.std.specs.Prelude.{List, drop, length, sum_by, ℕ, ◌+◌, ◌++◌, ◌-◌, ◌<◌, ◌^◌, ◌≡◌, ◌≤◌}
use Rattle.zq_backlog.specs.Chunks.{AreJoined, first_of, texts_in}
use Rattle.zq_backlog.specs.declared.texts.Texts.TheInside.{Inside}

-- the texts from the oldest one on that stands
abbrev pub texts_of : Inside → List (List ℕ)
texts_of t = drop (t.first - first_of t.older.items t.newest.first)
    (texts_in t.older.items ++ t.newest.texts)

-- the number of the next text
abbrev pub end_of : Inside → ℕ
end_of t = t.newest.first + length t.newest.texts

-- The chunks follow each other, the oldest text that stands is in them, and so many bytes stand.
pub record AreChunked (t : Inside) : Type 0 where
  pub joined : AreJoined t.older.items t.newest.first
  pub from : first_of t.older.items t.newest.first ≤ t.first
  pub to : t.first ≤ end_of t
  pub few : end_of t < 2 ^ 63
  pub bytes : t.bytes ≡ sum_by length (texts_of t)
  pub small : t.bytes < 2 ^ 63
