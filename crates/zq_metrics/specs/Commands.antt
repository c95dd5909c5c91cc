-- The commands that are counted.

use Rattle.std.specs.Prelude.{Bool, List, [], bit_or, codes, if◌then◌else◌, nat_le, true, ℕ, ◌&&◌, ◌==◌, ◌∷◌}
use Rattle.std.specs.Str.{str_eq_ignore_ascii_case}
use Rattle.zq_metrics.specs.declared.command.Command.{Command}
use Rattle.zq_metrics.specs.declared.command.Command.TheVariants.{Del, Other, Ping, Zadd, Zcard, Zcount, Zincrby, Zpopmin, Zpopnear, Zrange, Zrank, Zrem, Zrevrank, Zscore}

-- a word is this name, without regard to ASCII case
abbrev pub is : List ℕ → List ℕ → Bool
is word name = str_eq_ignore_ascii_case word name

-- a byte with the bit in which a small letter differs from its great one
abbrev pub small : ℕ → ℕ
small byte = bit_or byte 32

-- these are small letters alone
abbrev pub are_small : List ℕ → Bool
are_small [] = true
are_small (letter ∷ letters) = nat_le 97 letter && nat_le letter 122 && are_small letters

-- the command of this name
abbrev pub command_of : List ℕ → Command
command_of name =
    if is name (codes "PING") then Ping
    else if is name (codes "ZADD") then Zadd
    else if is name (codes "ZINCRBY") then Zincrby
    else if is name (codes "ZREM") then Zrem
    else if is name (codes "ZSCORE") then Zscore
    else if is name (codes "ZCARD") then Zcard
    else if is name (codes "ZCOUNT") then Zcount
    else if is name (codes "ZRANK") then Zrank
    else if is name (codes "ZREVRANK") then Zrevrank
    else if is name (codes "ZRANGE") then Zrange
    else if is name (codes "ZPOPMIN") then Zpopmin
    else if is name (codes "ZPOPNEAR") then Zpopnear
    else if is name (codes "DEL") then Del
    else Other

-- the name of the command at a place, in small letters
unfoldable pub label_at : ℕ → List ℕ
label_at place =
    if place == 0 then codes "ping"
    else if place == 1 then codes "zadd"
    else if place == 2 then codes "zincrby"
    else if place == 3 then codes "zrem"
    else if place == 4 then codes "zscore"
    else if place == 5 then codes "zcard"
    else if place == 6 then codes "zcount"
    else if place == 7 then codes "zrank"
    else if place == 8 then codes "zrevrank"
    else if place == 9 then codes "zrange"
    else if place == 10 then codes "zpopmin"
    else if place == 11 then codes "zpopnear"
    else if place == 12 then codes "del"
    else codes "other"

-- its place among all
abbrev pub place_of : Command → ℕ
place_of Ping = 0
place_of Zadd = 1
place_of Zincrby = 2
place_of Zrem = 3
place_of Zscore = 4
place_of Zcard = 5
place_of Zcount = 6
place_of Zrank = 7
place_of Zrevrank = 8
place_of Zrange = 9
place_of Zpopmin = 10
place_of Zpopnear = 11
place_of Del = 12
place_of Other = 13
