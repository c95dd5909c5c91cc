-- How many threads accept peers.

use Rattle.std.specs.Prelude.{Bool, min, nat_lt, ℕ, ◌&&◌, ◌+◌, ◌-◌, ◌==◌, ◌^◌}
use Rattle.zq_site.specs.declared.hiring.Crew.{Crew}

abbrev pub one_more : ℕ → ℕ
one_more n = min (n + 1) (2 ^ 64 - 1)

abbrev pub joined : Crew → Crew
joined crew = record { all = one_more crew.all; free = one_more crew.free }

abbrev pub left : Crew → Crew
left crew = record { all = crew.all - 1; free = crew.free - 1 }

abbrev pub taken : Crew → Crew
taken crew = record { all = crew.all; free = crew.free - 1 }

abbrev pub freed : Crew → Crew
freed crew = record { all = crew.all; free = one_more crew.free }

-- none has nobody, and there are fewer than so many
abbrev pub wants : Crew → ℕ → Bool
wants crew most = (crew.free == 0) && nat_lt crew.all most
