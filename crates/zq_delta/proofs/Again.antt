-- What is written is read again, whatever follows it.

use Rattle.std.proofs.Common.{ap, append_assoc, arith, get_or, length, List, Ok, refl, Some, subst, sym, take, ℕ, ℤ, ◌++◌, ◌-◌, ◌<◌, ◌∷◌, ◌≡◌, ◌∙◌}
use Rattle.std.proofs.lemmas.Bool.Decides.{nat_tests}
use Rattle.std.proofs.lemmas.List.{length-append, take_at}
use Rattle.std.specs.Int.{w64}
use Rattle.std.specs.Prelude.{Result}
use Rattle.zq_delta.specs.Fields.{act_at, fields_at, head_at, placed, vector_at}
use Rattle.zq_delta.specs.Reading.{found_at, of_part, op_at}
use Rattle.zq_delta.specs.Spelling.{act_bytes, fields, op_spelling, vector}
use Rattle.zq_delta.specs.Version.{HasSpelling, HasVector, sites, version_byte}
use Rattle.zq_delta.specs.declared.fault.OpFault.{OpFault}
use Rattle.zq_delta.specs.declared.head.Head.{Head}
use Rattle.zq_delta.specs.declared.version.Version.{Version}
use Rattle.zq_delta.specs.declared.version.Version.TheVariants.{One, Two}
use Rattle.zq_dots.proofs.Counters.{last_is}
use Rattle.zq_dots.specs.Placed.{IsRanged, Placed}
use Rattle.zq_fields.specs.Fields.{signed, text}
use Rattle.zq_model.specs.Operation.{Act, Bump, Drop, IsAct, Put}
use Rattle.zq_model.specs.Sets.{IsCounters, IsHeaps, LAST}
use Rattle.zq_fields.proofs.PartsAgain.{byte_in_again, heap_read, score_read, text_read}
use Rattle.zq_fields.proofs.Counters.{dense_again}
use Rattle.zq_fields.proofs.Entries.{sparse_again}
use Rattle.zq_fields.specs.Reading.{byte_in, score_at, text_at}
use Rattle.zq_fields.specs.Vectors.{IsWithinLimits}

head_again : (v : Version) (whole : ℕ) (head : Head) (rest : List ℕ) → IsHeaps head.heap.heaps → head.heap.heap < head.heap.heaps → head.site < sites v → head_at v whole (head.heap.heaps ∷ head.heap.heap ∷ head.site ∷ rest) ≡ Ok (head, rest)
unfolding head_at
head_again v whole head rest heaps heap site =
    rw (heap_read whole head.heap (head.site ∷ rest) heaps heap, byte_in_again whole 0 (sites v) head.site rest (omega arith) site) refl

-- counters of which the site's own is not the last are within their limits
limits : (own : ℕ) (seen : List ℕ) → IsCounters seen → get_or seen own 0 < LAST → IsWithinLimits (Some own) seen
limits own seen counters unworn t = let bounded = counters.bounded t in grind (arith, nat_tests)

-- within its limits a site's own counter is not the last
pub unworn : (own : ℕ) (seen : List ℕ) → IsWithinLimits (Some own) seen → get_or seen own 0 < LAST
unworn own seen within = let small = within own in let last = last_is in grind (arith, nat_tests)

vector_again : (v : Version) (whole own : ℕ) (seen rest : List ℕ) → HasVector v seen → IsCounters seen → get_or seen own 0 < LAST → vector_at v whole (Some own) (vector v seen ++ rest) ≡ Ok (seen, rest)
vector_again One whole own seen rest few counters unworn = dense_again whole (Some own) seen rest counters few (limits own seen counters unworn)
vector_again Two whole own seen rest few counters unworn = sparse_again whole (Some own) seen rest counters (limits own seen counters unworn)

put_of : (whole : ℕ) (z : ℤ) (b0 b1 b2 : List ℕ) → byte_in whole 0 3 b0 ≡ Ok (0, b1) → score_at b1 ≡ Ok (z, b2) → act_at whole b0 ≡ Ok (Put z, b2)
unfolding act_at
put_of whole z b0 b1 b2 kind score = rw (kind, score) refl

bump_of : (whole : ℕ) (z : ℤ) (b0 b1 b2 : List ℕ) → byte_in whole 0 3 b0 ≡ Ok (1, b1) → score_at b1 ≡ Ok (z, b2) → act_at whole b0 ≡ Ok (Bump z, b2)
unfolding act_at
bump_of whole z b0 b1 b2 kind score = rw (kind, score) refl

drop_of : (whole : ℕ) (b0 b1 : List ℕ) → byte_in whole 0 3 b0 ≡ Ok (2, b1) → act_at whole b0 ≡ Ok (Drop, b1)
unfolding act_at
drop_of whole b0 b1 kind = rw kind refl

act_again : (whole : ℕ) (act : Act) (rest : List ℕ) → IsAct act → act_at whole (act_bytes act ++ rest) ≡ Ok (act, rest)
act_again whole (Put z) rest within =
    put_of whole z (0 ∷ (signed w64 z ++ rest)) (signed w64 z ++ rest) rest (byte_in_again whole 0 3 0 (signed w64 z ++ rest) (omega arith) (omega arith)) (score_read z rest within)
act_again whole (Bump z) rest within =
    bump_of whole z (1 ∷ (signed w64 z ++ rest)) (signed w64 z ++ rest) rest (byte_in_again whole 0 3 1 (signed w64 z ++ rest) (omega arith) (omega arith)) (score_read z rest within)
act_again whole Drop rest within = drop_of whole (2 ∷ rest) rest (byte_in_again whole 0 3 2 rest (omega arith) (omega arith))

-- the fields one after the other
fields_of : (v : Version) (whole : ℕ) (head : Head) (act : Act) (b0 b1 b2 b3 b4 b5 seen key member : List ℕ) → head_at v whole b0 ≡ Ok (head, b1) → vector_at v whole (Some head.site) b1 ≡ Ok (seen, b2) → act_at whole b2 ≡ Ok (act, b3) → text_at b3 ≡ Ok (key, b4) → text_at b4 ≡ Ok (member, b5) → fields_at v whole b0 ≡ Ok (placed head seen act key member, b5)
unfolding fields_at
fields_of v whole head act b0 b1 b2 b3 b4 b5 seen key member e0 e1 e2 e3 e4 = rw (e0, e1, e2, e3, e4) refl

regroup : (a b c d rest : List ℕ) → (a ++ (b ++ (c ++ d))) ++ rest ≡ a ++ (b ++ (c ++ (d ++ rest)))
regroup a b c d rest = simp append_assoc

fields_again : (v : Version) (whole : ℕ) (o : Placed) (rest : List ℕ) → IsRanged o → HasSpelling v o → fields_at v whole (fields v o ++ rest) ≡ Ok (o, rest)
unfolding fields
fields_again v whole o rest sound known =
    let op = o.operation in
    let head : Head = record { heap = record { heap = op.heap; heaps = o.heaps }; site = op.site } in
    let b4 = text op.member ++ rest in
    let b3 = text op.key ++ b4 in
    let b2 = act_bytes op.act ++ b3 in
    let b1 = vector v op.seen ++ b2 in
    let next = sound.next in
    let bounded = sound.bounded in
    let e0 = ap (λ x. head_at v whole (o.heaps ∷ op.heap ∷ op.site ∷ x)) (regroup (vector v op.seen) (act_bytes op.act) (text op.key) (text op.member) rest) ∙ head_again v whole head b1 sound.heaps sound.heap known.0 in
    fields_of v whole head op.act (fields v o ++ rest) b1 b2 b3 b4 rest op.seen op.key op.member e0 (vector_again v whole op.site op.seen b2 known.1 sound.seen (omega arith)) (act_again whole op.act b3 sound.act) (text_read op.key b4 sound.key) (text_read op.member rest sound.member)
    ∙ ap (λ n. Ok (record o { operation = record op { n = n } }, rest)) (sym next)

op_again : (v : Version) (o : Placed) (rest : List ℕ) → IsRanged o → HasSpelling v o → op_at (op_spelling v o ++ rest) ≡ Ok (o, rest)
unfolding op_at
op_again One o rest sound known = ap of_part (fields_again One (length (op_spelling One o ++ rest)) o rest sound known)
op_again Two o rest sound known = ap of_part (fields_again Two (length (op_spelling Two o ++ rest)) o rest sound known)

found_of : (bytes rest : List ℕ) (o : Placed) → op_at bytes ≡ Ok (o, rest) → found_at bytes ≡ Ok (o, length bytes - length rest)
found_of bytes rest o read = rw read refl

-- a spelling is read as its operation, with its own bytes
pub found_again : (v : Version) (o : Placed) (rest : List ℕ) → IsRanged o → HasSpelling v o → found_at (op_spelling v o ++ rest) ≡ Ok (o, length (op_spelling v o))
found_again v o rest sound known =
    let used : length (op_spelling v o ++ rest) - length rest ≡ length (op_spelling v o) = omega (arith, length-append (op_spelling v o) rest) in
    subst (λ n. found_at (op_spelling v o ++ rest) ≡ Ok (o, n)) used (found_of (op_spelling v o ++ rest) rest o (op_again v o rest sound known))

same_value : (v w : Version) (a b : Placed) (x y : List ℕ) → IsRanged a → HasSpelling v a → IsRanged b → HasSpelling w b → op_spelling v a ++ x ≡ op_spelling w b ++ y → (a ≡ b) × (x ≡ y)
same_value v w a b x y sa ia sb ib same =
    let p : Placed × List ℕ = (a, x) in
    let q : Placed × List ℕ = (b, y) in
    let both : ◌≡◌ {A = Result (Placed × List ℕ) OpFault} (Ok p) (Ok q) = sym (op_again v a x sa ia) ∙ (ap op_at same ∙ op_again w b y sb ib) in
    let pair : p ≡ q = cc in
    (λ i. (pair i).0, λ i. (pair i).1)

same_version : (v w : Version) (a b : Placed) (x y : List ℕ) → op_spelling v a ++ x ≡ op_spelling w b ++ y → v ≡ w
same_version One One a b x y same = refl
same_version Two Two a b x y same = refl
same_version One Two a b x y same = cc
same_version Two One a b x y same = cc

-- equal bytes that begin with spellings begin with the same one
pub same_again : (v w : Version) (a b : Placed) (x y : List ℕ) → IsRanged a → HasSpelling v a → IsRanged b → HasSpelling w b → op_spelling v a ++ x ≡ op_spelling w b ++ y → (v ≡ w) × ((a ≡ b) × (x ≡ y))
same_again v w a b x y sa ia sb ib same = (same_version v w a b x y same, same_value v w a b x y sa ia sb ib same)

-- what was read is a spelling, and stands at the front of the bytes
pub found_front : (v : Version) (o p : Placed) (bytes b1 b2 : List ℕ) → bytes ≡ version_byte v ∷ b1 → b1 ≡ fields v p ++ b2 → o ≡ p → HasSpelling v p → (x : Version) × HasSpelling x o × (take (length bytes - length b2) bytes ≡ op_spelling x o)
found_front v o p bytes b1 b2 first second same known =
    let all : bytes ≡ op_spelling v p ++ b2 = first ∙ ap (λ x. version_byte v ∷ x) second in
    let used : length (op_spelling v p) ≡ length bytes - length b2 = omega (arith, ap length all, length-append (op_spelling v p) b2) in
    let front : take (length bytes - length b2) bytes ≡ op_spelling v p = ap (take (length bytes - length b2)) all ∙ take_at (op_spelling v p) b2 (length bytes - length b2) used in
    (v, subst (HasSpelling v) (sym same) known, front ∙ ap (op_spelling v) (sym same))
