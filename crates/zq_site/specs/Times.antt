-- How long things take at most, in nanoseconds, and how many bytes a frame has.

use Rattle.std.specs.Prelude.{Bool, List, length, max, min, nat_lt, ℕ, ◌*◌, ◌+◌, ◌^◌}

abbrev pub seconds : ℕ → ℕ
seconds n = n * 1_000_000_000

-- a dialled peer may take so long to accept, and a peer to open a link
abbrev pub connecting : ℕ
connecting = 800 * 1_000_000

abbrev pub opening : ℕ
opening = seconds 5

-- a read of an opening waits so long before it is looked whether the site ends
abbrev pub looking : ℕ
looking = 100 * 1_000_000

-- a peer that is let go may take so long to close its end
abbrev pub parting : ℕ
parting = seconds 1

-- the site tells its peers what it has so often, where nobody calls it
abbrev pub telling : ℕ
telling = seconds 5

-- the link thread is told so often that a beat has gone by
abbrev pub beat : ℕ
beat = seconds 1

-- the thread that drains the heaps is called so often while they are looked at
abbrev pub stepping : ℕ
stepping = 4 * 1_000_000

-- calls are gathered for so long before their operations are pushed, where so many links are up
abbrev pub gathering : ℕ → ℕ
gathering links = max 1 (min links 4) * 1_000_000

-- behind a piece of each heap it is waited for so long, where one call made more
abbrev pub spreading : ℕ → ℕ
spreading heaps = 5 * heaps * 1_000_000

-- where nothing came to be sent over a link for so long a heartbeat is sent
abbrev pub heartbeat : ℕ
heartbeat = seconds 6

-- nothing may come over a link for so long: a peer that is not silent tells what it has four times
-- meanwhile
abbrev pub silence : ℕ
silence = 4 * telling

-- the site waits so long where a connection could not be accepted
abbrev pub not_accepted : ℕ
not_accepted = 100 * 1_000_000

-- clients are told for so long that another run used the site's number
abbrev pub fencing : ℕ
fencing = 300 * 1_000_000

-- a site whose number another run used is waited for so long, in which its clients are told
abbrev pub leaving : ℕ
leaving = fencing + 400 * 1_000_000

-- a frame that goes over a link has a gibibyte at most
abbrev pub most_frame : ℕ
most_frame = 2 ^ 30

abbrev pub is_too_long : List ℕ → Bool
is_too_long frame = nat_lt most_frame (length frame)
