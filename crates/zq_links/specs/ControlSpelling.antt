-- The one spelling of each control frame.

use Rattle.std.specs.Int.{to_be_bytes, w64}
use Rattle.std.specs.Prelude.{Bool, List, None, Option, Some, false, true, [], ℕ, ◌++◌, ◌∷◌}
use Rattle.zq_fields.specs.Spelling.{rule_byte, sparse}
use Rattle.zq_links.specs.Control.{At, Control, OfAt, OfBehind, OfFetch, OfRoutes}
use Rattle.zq_links.specs.ControlKind.{kind_byte}
use Rattle.zq_links.specs.Steps.{step_bytes}
use Rattle.zq_links.specs.declared.control.Behind.{Behind}
use Rattle.zq_links.specs.declared.control.Fetch.{Fetch}
use Rattle.zq_links.specs.declared.control.Resume.{Resume}
use Rattle.zq_links.specs.declared.control.Routes.{Routes}
use Rattle.zq_links.specs.declared.control.kind.ControlKind.TheVariants as kind

-- three numbers of eight bytes each
unfoldable pub three_bytes : ℕ → ℕ → ℕ → List ℕ
three_bytes a b c = to_be_bytes w64 a ++ (to_be_bytes w64 b ++ to_be_bytes w64 c)

-- the sites that can be reached, those that are asked for, and those that are far
unfoldable pub routes_bytes : Routes → List ℕ
routes_bytes r = three_bytes r.reach r.ask r.far

-- the flags: bit 0 says that the heap is open
abbrev pub open_byte : Bool → ℕ
open_byte false = 0
open_byte true = 1

-- the number of heaps, the heap, the rule, the flags, three numbers, the routes and the vector
unfoldable pub at_bytes : At → List ℕ
at_bytes a =
    a.heaps ∷ a.heap ∷ rule_byte a.rule ∷ open_byte a.is_open
    ∷ (three_bytes a.turn a.echo a.window ++ (routes_bytes a.routes ++ sparse a.vector))

-- the number of heaps, the heap and the vector
unfoldable pub behind_bytes : Behind → List ℕ
behind_bytes b = b.heaps ∷ b.heap ∷ sparse b.vector

-- where the stream stands, and the vector
unfoldable pub resume_bytes : Resume → List ℕ
resume_bytes r = step_bytes r.life r.number r.next ++ sparse r.vector

-- the form: 0, or 1 and what a stage stands at
abbrev pub form_bytes : Option Resume → List ℕ
form_bytes None = 0 ∷ []
form_bytes (Some r) = 1 ∷ resume_bytes r

-- the number of heaps, the heap and the form
unfoldable pub fetch_bytes : Fetch → List ℕ
fetch_bytes f = f.heaps ∷ f.heap ∷ form_bytes f.resume

-- the kind, and what it is of
abbrev pub control_spelling : Control → List ℕ
control_spelling (OfRoutes r) = kind_byte kind.Routes ∷ routes_bytes r
control_spelling (OfAt a) = kind_byte kind.At ∷ at_bytes a
control_spelling (OfBehind b) = kind_byte kind.Behind ∷ behind_bytes b
control_spelling (OfFetch f) = kind_byte kind.Fetch ∷ fetch_bytes f
