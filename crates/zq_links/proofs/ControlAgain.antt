-- Control frames that were written are read again.

use Rattle.std.proofs.Common.{ap, append_assoc, append-nil, arith, length, List, None, Ok, refl, sym, [], ℕ, ◌++◌, ◌∙◌, ◌∷◌, ◌≡◌}
use Rattle.std.specs.Int.{to_be_bytes, w64}
use Rattle.std.specs.Prelude.{Bool, IfSome, Option, Result, Some, false, true}
use Rattle.zq_fields.proofs.Counters.{limits}
use Rattle.zq_fields.proofs.Entries.{sparse_again}
use Rattle.zq_fields.proofs.PartsAgain.{byte_in_again, heap_read, rule_read}
use Rattle.zq_fields.specs.Reading.{byte_in, heap_at, rule_at, sparse_at}
use Rattle.zq_fields.specs.Spelling.{rule_byte, sparse}
use Rattle.zq_links.proofs.StepsAgain.{step_again, u64_again}
use Rattle.zq_links.specs.Control.{At, Control, IsAt, IsBehind, IsControl, IsFetch, IsResume, IsRoutes, OfAt, OfBehind, OfFetch, OfRoutes}
use Rattle.zq_links.specs.ControlKind.{kind_byte}
use Rattle.zq_links.specs.ControlParts.{at_at, behind_at, body_at, fetch_at, form_at, open_at, resume_at, resume_of, routes_at, three_at}
use Rattle.zq_links.specs.ControlReading.{control_at, kind_at, rest_at}
use Rattle.zq_links.specs.ControlSpelling.{at_bytes, behind_bytes, control_spelling, fetch_bytes, form_bytes, open_byte, resume_bytes, routes_bytes, three_bytes}
use Rattle.zq_links.specs.Numbers.{IsNumber, u64_at}
use Rattle.zq_links.specs.Reading.{of_part, ◌>>=◌}
use Rattle.zq_links.specs.Steps.{step_at, step_bytes}
use Rattle.zq_links.specs.declared.control.Behind.{Behind}
use Rattle.zq_links.specs.declared.control.Fetch.{Fetch}
use Rattle.zq_links.specs.declared.control.Resume.{Resume}
use Rattle.zq_links.specs.declared.control.Routes.{Routes}
use Rattle.zq_links.specs.declared.control.kind.ControlKind.{ControlKind}
use Rattle.zq_links.specs.declared.control.kind.ControlKind.TheVariants as kind
use Rattle.zq_links.specs.declared.frame_fault.FrameFault.{FrameFault}

-- ---- fields

three_of : (a b c : ℕ) (b0 b1 b2 b3 : List ℕ) → u64_at b0 ≡ Ok (a, b1) →
    u64_at b1 ≡ Ok (b, b2) → u64_at b2 ≡ Ok (c, b3) → three_at b0 ≡ Ok ((a, b, c), b3)
unfolding three_at
three_of a b c b0 b1 b2 b3 first second third = rw (first, second, third) refl

three_again : (a b c : ℕ) (rest : List ℕ) → IsNumber a → IsNumber b → IsNumber c →
    three_at (three_bytes a b c ++ rest) ≡ Ok ((a, b, c), rest)
unfolding three_bytes
three_again a b c rest fits_a fits_b fits_c =
    let x = to_be_bytes w64 a in
    let y = to_be_bytes w64 b in
    let z = to_be_bytes w64 c in
    ap three_at (append_assoc x (y ++ z) rest ∙ ap (λ bytes. x ++ bytes) (append_assoc y z rest))
    ∙ three_of a b c (x ++ (y ++ (z ++ rest))) (y ++ (z ++ rest)) (z ++ rest) rest
    (u64_again a (y ++ (z ++ rest)) fits_a) (u64_again b (z ++ rest) fits_b)
    (u64_again c rest fits_c)

routes_of : (r : Routes) (b0 b1 : List ℕ) → three_at b0 ≡ Ok ((r.reach, r.ask, r.far), b1) →
    routes_at b0 ≡ Ok (r, b1)
unfolding routes_at
routes_of r b0 b1 three = rw three refl

routes_again : (r : Routes) (rest : List ℕ) → IsRoutes r →
    routes_at (routes_bytes r ++ rest) ≡ Ok (r, rest)
unfolding routes_bytes
routes_again r rest sound =
    routes_of r (three_bytes r.reach r.ask r.far ++ rest) rest
    (three_again r.reach r.ask r.far rest sound.reach sound.ask sound.far)

open_again : (whole : ℕ) (is_open : Bool) (rest : List ℕ) →
    open_at whole (open_byte is_open ∷ rest) ≡ Ok (is_open, rest)
unfolding open_at
open_again whole false rest = rw (byte_in_again whole 0 2 0 rest (omega arith) (omega arith)) refl
open_again whole true rest = rw (byte_in_again whole 0 2 1 rest (omega arith) (omega arith)) refl

-- ---- bodies

at_from : (whole : ℕ) (a : At) (b0 b1 b2 b3 b4 b5 b6 : List ℕ) →
    heap_at whole b0 ≡ Ok (record { heap = a.heap; heaps = a.heaps }, b1) →
    rule_at whole b1 ≡ Ok (a.rule, b2) → open_at whole b2 ≡ Ok (a.is_open, b3) →
    three_at b3 ≡ Ok ((a.turn, a.echo, a.window), b4) → routes_at b4 ≡ Ok (a.routes, b5) →
    sparse_at whole None b5 ≡ Ok (a.vector, b6) → at_at whole b0 ≡ Ok (a, b6)
unfolding at_at
at_from whole a b0 b1 b2 b3 b4 b5 b6 heap rule is_open three routes vector =
    rw (heap, rule, is_open, three, routes, vector) refl

at_again : (whole : ℕ) (a : At) (rest : List ℕ) → IsAt a →
    at_at whole (at_bytes a ++ rest) ≡ Ok (a, rest)
unfolding at_bytes
at_again whole a rest sound =
    let three = three_bytes a.turn a.echo a.window in
    let routes = routes_bytes a.routes in
    let b5 = sparse a.vector ++ rest in
    let b4 = routes ++ b5 in
    let b3 = three ++ b4 in
    let b2 = open_byte a.is_open ∷ b3 in
    let b1 = rule_byte a.rule ∷ b2 in
    let heap = heap_read whole (record { heap = a.heap; heaps = a.heaps }) b1 sound.heap.0
    sound.heap.1 in
    let numbers = three_again a.turn a.echo a.window b4 sound.turn sound.echo sound.window in
    let vector = sparse_again whole None a.vector rest sound.vector (limits a.vector sound.vector)
    in
    let inner = append_assoc routes (sparse a.vector) rest in
    let whole_of = λ (bytes : List ℕ).
    a.heaps ∷ (a.heap ∷ (rule_byte a.rule ∷ (open_byte a.is_open ∷ bytes))) in
    ap (λ bytes. at_at whole (whole_of bytes))
    (append_assoc three (routes ++ sparse a.vector) rest ∙ ap (λ bytes. three ++ bytes) inner)
    ∙ at_from whole a (a.heaps ∷ (a.heap ∷ b1)) b1 b2 b3 b4 b5 rest heap (rule_read whole a.rule b2)
    (open_again whole a.is_open b3) numbers (routes_again a.routes b5 sound.routes) vector

behind_from : (whole : ℕ) (b : Behind) (b0 b1 b2 : List ℕ) →
    heap_at whole b0 ≡ Ok (record { heap = b.heap; heaps = b.heaps }, b1) →
    sparse_at whole None b1 ≡ Ok (b.vector, b2) → behind_at whole b0 ≡ Ok (b, b2)
unfolding behind_at
behind_from whole b b0 b1 b2 heap vector = rw (heap, vector) refl

behind_again : (whole : ℕ) (b : Behind) (rest : List ℕ) → IsBehind b →
    behind_at whole (behind_bytes b ++ rest) ≡ Ok (b, rest)
unfolding behind_bytes
behind_again whole b rest sound =
    let b1 = sparse b.vector ++ rest in
    let heap = heap_read whole (record { heap = b.heap; heaps = b.heaps }) b1 sound.heap.0
    sound.heap.1 in
    let vector = sparse_again whole None b.vector rest sound.vector (limits b.vector sound.vector)
    in
    behind_from whole b (b.heaps ∷ (b.heap ∷ b1)) b1 rest heap vector

resume_from : (whole : ℕ) (r : Resume) (b0 b1 b2 : List ℕ) →
    step_at b0 ≡ Ok ((r.life, r.number, r.next), b1) → sparse_at whole None b1 ≡ Ok (r.vector, b2) →
    resume_at whole b0 ≡ Ok (r, b2)
unfolding resume_at
resume_from whole r b0 b1 b2 step vector = rw (step, vector) refl

resume_again : (whole : ℕ) (r : Resume) (rest : List ℕ) → IsResume r →
    resume_at whole (resume_bytes r ++ rest) ≡ Ok (r, rest)
unfolding resume_bytes
resume_again whole r rest sound =
    let step = step_bytes r.life r.number r.next in
    let b1 = sparse r.vector ++ rest in
    let vector = sparse_again whole None r.vector rest sound.vector (limits r.vector sound.vector)
    in
    ap (resume_at whole) (append_assoc step (sparse r.vector) rest)
    ∙ resume_from whole r (step ++ b1) b1 rest (step_again r.life r.number r.next b1 sound.step)
    vector

form_from : (whole form : ℕ) (resume : Option Resume) (b0 b1 b2 : List ℕ) →
    byte_in whole 0 2 b0 ≡ Ok (form, b1) → resume_of whole form b1 ≡ Ok (resume, b2) →
    form_at whole b0 ≡ Ok (resume, b2)
unfolding form_at
form_from whole form resume b0 b1 b2 byte rest = rw byte rest

some_resume : (whole : ℕ) (r : Resume) (b0 b1 : List ℕ) → resume_at whole b0 ≡ Ok (r, b1) →
    resume_of whole 1 b0 ≡ Ok (Some r, b1)
some_resume whole r b0 b1 e = rw e refl

form_again : (whole : ℕ) (resume : Option Resume) (rest : List ℕ) → IfSome resume IsResume →
    form_at whole (form_bytes resume ++ rest) ≡ Ok (resume, rest)
form_again whole None rest sound =
    form_from whole 0 None (0 ∷ rest) rest rest
    (byte_in_again whole 0 2 0 rest (omega arith) (omega arith)) refl
form_again whole (Some r) rest sound =
    let b1 = resume_bytes r ++ rest in
    form_from whole 1 (Some r) (1 ∷ b1) b1 rest
    (byte_in_again whole 0 2 1 b1 (omega arith) (omega arith))
    (some_resume whole r b1 rest (resume_again whole r rest sound))

fetch_from : (whole : ℕ) (f : Fetch) (b0 b1 b2 : List ℕ) →
    heap_at whole b0 ≡ Ok (record { heap = f.heap; heaps = f.heaps }, b1) →
    form_at whole b1 ≡ Ok (f.resume, b2) → fetch_at whole b0 ≡ Ok (f, b2)
unfolding fetch_at
fetch_from whole f b0 b1 b2 heap form = rw (heap, form) refl

fetch_again : (whole : ℕ) (f : Fetch) (rest : List ℕ) → IsFetch f →
    fetch_at whole (fetch_bytes f ++ rest) ≡ Ok (f, rest)
unfolding fetch_bytes
fetch_again whole f rest sound =
    let b1 = form_bytes f.resume ++ rest in
    let heap = heap_read whole (record { heap = f.heap; heaps = f.heaps }) b1 sound.heap.0
    sound.heap.1 in
    fetch_from whole f (f.heaps ∷ (f.heap ∷ b1)) b1 rest heap
    (form_again whole f.resume rest sound.resume)

-- ---- control frames

-- what follows the kind is read, whatever follows it
abbrev pub IsRead : ControlKind → Control → List ℕ → Type 0
IsRead k c body = (whole : ℕ) (rest : List ℕ) → body_at k whole (body ++ rest) ≡ Ok (c, rest)

routes_body : (whole : ℕ) (r : Routes) (b0 b1 : List ℕ) → routes_at b0 ≡ Ok (r, b1) →
    body_at kind.Routes whole b0 ≡ Ok (OfRoutes r, b1)
routes_body whole r b0 b1 e = rw e refl

at_body : (whole : ℕ) (a : At) (b0 b1 : List ℕ) → at_at whole b0 ≡ Ok (a, b1) →
    body_at kind.At whole b0 ≡ Ok (OfAt a, b1)
at_body whole a b0 b1 e = rw e refl

behind_body : (whole : ℕ) (b : Behind) (b0 b1 : List ℕ) → behind_at whole b0 ≡ Ok (b, b1) →
    body_at kind.Behind whole b0 ≡ Ok (OfBehind b, b1)
behind_body whole b b0 b1 e = rw e refl

fetch_body : (whole : ℕ) (f : Fetch) (b0 b1 : List ℕ) → fetch_at whole b0 ≡ Ok (f, b1) →
    body_at kind.Fetch whole b0 ≡ Ok (OfFetch f, b1)
fetch_body whole f b0 b1 e = rw e refl

routes_read : (r : Routes) → IsRoutes r → IsRead kind.Routes (OfRoutes r) (routes_bytes r)
routes_read r sound =
    λ whole rest. routes_body whole r (routes_bytes r ++ rest) rest (routes_again r rest sound)

at_read : (a : At) → IsAt a → IsRead kind.At (OfAt a) (at_bytes a)
at_read a sound =
    λ whole rest. at_body whole a (at_bytes a ++ rest) rest (at_again whole a rest sound)

behind_read : (b : Behind) → IsBehind b → IsRead kind.Behind (OfBehind b) (behind_bytes b)
behind_read b sound =
    λ whole rest. behind_body whole b (behind_bytes b ++ rest) rest
    (behind_again whole b rest sound)

fetch_read : (f : Fetch) → IsFetch f → IsRead kind.Fetch (OfFetch f) (fetch_bytes f)
fetch_read f sound =
    λ whole rest. fetch_body whole f (fetch_bytes f ++ rest) rest (fetch_again whole f rest sound)

kind_again : (k : ControlKind) (rest : List ℕ) → kind_at (kind_byte k ∷ rest) ≡ Ok (k, rest)
kind_again kind.Routes rest = refl
kind_again kind.At rest = refl
kind_again kind.Behind rest = refl
kind_again kind.Fetch rest = refl

control_by : (k : ControlKind) (c : Control) (b0 b1 : List ℕ) → kind_at b0 ≡ Ok (k, b1) →
    rest_at k (length b0) b1 ≡ Ok c → control_at b0 ≡ Ok c
control_by k c b0 b1 first rest = rw (first) rest

rest_by : (k : ControlKind) (whole : ℕ) (c : Control) (bytes : List ℕ) →
    body_at k whole bytes ≡ Ok (c, []) → rest_at k whole bytes ≡ Ok c
rest_by k whole c bytes e = rw e refl

again_by : (k : ControlKind) (c : Control) (body : List ℕ) → IsRead k c body →
    control_at (kind_byte k ∷ body) ≡ Ok c
again_by k c body reads =
    let b0 = kind_byte k ∷ body in
    let alone = ap (body_at k (length b0)) (sym (append-nil body)) ∙ reads (length b0) [] in
    control_by k c b0 body (kind_again k body) (rest_by k (length b0) c body alone)

-- a spelling is read as its control frame
pub control_again : (c : Control) → IsControl c → control_at (control_spelling c) ≡ Ok c
control_again (OfRoutes r) sound =
    again_by kind.Routes (OfRoutes r) (routes_bytes r) (routes_read r sound)
control_again (OfAt a) sound = again_by kind.At (OfAt a) (at_bytes a) (at_read a sound)
control_again (OfBehind b) sound =
    again_by kind.Behind (OfBehind b) (behind_bytes b) (behind_read b sound)
control_again (OfFetch f) sound =
    again_by kind.Fetch (OfFetch f) (fetch_bytes f) (fetch_read f sound)

-- and so it is where it was appended to nothing
pub written_again : (c : Control) (front bytes : List ℕ) → front ≡ [] →
    bytes ≡ front ++ control_spelling c → IsControl c → control_at bytes ≡ Ok c
written_again c front bytes none is sound =
    ap control_at (is ∙ ap (λ b. b ++ control_spelling c) none) ∙ control_again c sound

-- ---- what follows a control frame

-- the control frame at the front of the bytes, and what follows it
front_at : List ℕ → Result (Control × List ℕ) FrameFault
front_at bytes = kind_at bytes >>= λ k. of_part (body_at k.0 0 k.1)

front_by : (k : ControlKind) (c : Control) (body x : List ℕ) → IsRead k c body →
    front_at (kind_byte k ∷ (body ++ x)) ≡ Ok (c, x)
unfolding front_at
front_by k c body x reads = rw (kind_again k (body ++ x), reads 0 x) refl

front_again : (c : Control) (x : List ℕ) → IsControl c →
    front_at (control_spelling c ++ x) ≡ Ok (c, x)
front_again (OfRoutes r) x sound =
    front_by kind.Routes (OfRoutes r) (routes_bytes r) x (routes_read r sound)
front_again (OfAt a) x sound = front_by kind.At (OfAt a) (at_bytes a) x (at_read a sound)
front_again (OfBehind b) x sound =
    front_by kind.Behind (OfBehind b) (behind_bytes b) x (behind_read b sound)
front_again (OfFetch f) x sound =
    front_by kind.Fetch (OfFetch f) (fetch_bytes f) x (fetch_read f sound)

-- equal bytes that begin with spellings begin with the same one
pub control_same : (c d : Control) (x y : List ℕ) → IsControl c → IsControl d →
    control_spelling c ++ x ≡ control_spelling d ++ y → (c ≡ d) × (x ≡ y)
control_same c d x y sound_c sound_d same =
    let p : Control × List ℕ = (c, x) in
    let q : Control × List ℕ = (d, y) in
    let both : ◌≡◌ {A = Result (Control × List ℕ) FrameFault} (Ok p) (Ok q) = sym
    (front_again c x sound_c) ∙ (ap front_at same ∙ front_again d y sound_d) in
    let pair : p ≡ q = cc in
    (λ i. (pair i).0, λ i. (pair i).1)
