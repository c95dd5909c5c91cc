-- Reading what follows the kind of a control frame, with the first fault that is met.

use Rattle.std.specs.Prelude.{Bool, List, None, Ok, Option, Some, if◌then◌else◌, ℕ, ◌==◌}
use Rattle.zq_fields.specs.Reading.{Read, byte_in, heap_at, rule_at, sparse_at, ◌>>=◌}
use Rattle.zq_links.specs.Control.{At, Control, OfAt, OfBehind, OfFetch, OfRoutes}
use Rattle.zq_links.specs.Numbers.{u64_at}
use Rattle.zq_links.specs.Steps.{step_at}
use Rattle.zq_links.specs.declared.control.Behind.{Behind}
use Rattle.zq_links.specs.declared.control.Fetch.{Fetch}
use Rattle.zq_links.specs.declared.control.Resume.{Resume}
use Rattle.zq_links.specs.declared.control.Routes.{Routes}
use Rattle.zq_links.specs.declared.control.kind.ControlKind.{ControlKind}
use Rattle.zq_links.specs.declared.control.kind.ControlKind.TheVariants as kind

-- three numbers of eight bytes each
unfoldable pub three_at : List ℕ → Read (ℕ × ℕ × ℕ)
three_at bytes = do
  a ← u64_at bytes
  b ← u64_at a.1
  c ← u64_at b.1
  Ok ((a.0, b.0, c.0), c.1)

-- the sites that can be reached, those that are asked for, and those that are far
unfoldable pub routes_at : List ℕ → Read Routes
routes_at bytes = do
  n ← three_at bytes
  Ok (record { reach = n.0.0; ask = n.0.1; far = n.0.2 }, n.1)

-- the flags, of which there is one
unfoldable pub open_at : ℕ → List ℕ → Read Bool
open_at whole bytes = byte_in whole 0 2 bytes >>= λ b. Ok (b.0 == 1, b.1)

-- the number of heaps, the heap, the rule, the flags, three numbers, the routes and the vector
unfoldable pub at_at : ℕ → List ℕ → Read At
at_at whole bytes = do
  heap ← heap_at whole bytes
  rule ← rule_at whole heap.1
  is_open ← open_at whole rule.1
  n ← three_at is_open.1
  routes ← routes_at n.1
  vector ← sparse_at whole None routes.1
  Ok (
    record {
      heaps = heap.0.heaps;
      heap = heap.0.heap;
      rule = rule.0;
      is_open = is_open.0;
      turn = n.0.0;
      echo = n.0.1;
      window = n.0.2;
      routes = routes.0;
      vector = vector.0;
    },
    vector.1,
  )

-- the number of heaps, the heap and the vector
unfoldable pub behind_at : ℕ → List ℕ → Read Behind
behind_at whole bytes = do
  heap ← heap_at whole bytes
  vector ← sparse_at whole None heap.1
  Ok (record { heaps = heap.0.heaps; heap = heap.0.heap; vector = vector.0 }, vector.1)

-- where the stream stands, and the vector
unfoldable pub resume_at : ℕ → List ℕ → Read Resume
resume_at whole bytes = do
  step ← step_at bytes
  vector ← sparse_at whole None step.1
  Ok (
    record { life = step.0.0; number = step.0.1; next = step.0.2; vector = vector.0 },
    vector.1,
  )

-- what a stage stands at, where the form is 1
abbrev pub resume_of : ℕ → ℕ → List ℕ → Read (Option Resume)
resume_of whole form bytes =
    if form == 1 then (resume_at whole bytes >>= λ r. Ok (Some r.0, r.1)) else Ok (None, bytes)

-- the form, and what a stage stands at
unfoldable pub form_at : ℕ → List ℕ → Read (Option Resume)
form_at whole bytes = byte_in whole 0 2 bytes >>= λ form. resume_of whole form.0 form.1

-- the number of heaps, the heap and the form
unfoldable pub fetch_at : ℕ → List ℕ → Read Fetch
fetch_at whole bytes = do
  heap ← heap_at whole bytes
  resume ← form_at whole heap.1
  Ok (record { heaps = heap.0.heaps; heap = heap.0.heap; resume = resume.0 }, resume.1)

-- what follows the kind, in a frame of so many bytes
abbrev pub body_at : ControlKind → ℕ → List ℕ → Read Control
body_at kind.Routes whole bytes = routes_at bytes >>= λ r. Ok (OfRoutes r.0, r.1)
body_at kind.At whole bytes = at_at whole bytes >>= λ a. Ok (OfAt a.0, a.1)
body_at kind.Behind whole bytes = behind_at whole bytes >>= λ b. Ok (OfBehind b.0, b.1)
body_at kind.Fetch whole bytes = fetch_at whole bytes >>= λ f. Ok (OfFetch f.0, f.1)
