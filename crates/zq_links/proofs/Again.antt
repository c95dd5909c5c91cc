-- Frames that were written are read again.

use Rattle.std.proofs.Common.{ap, append_assoc, append-nil, arith, drop, length, List, map, None, Ok, refl, Some, sym, [], ℕ, ◌++◌, ◌<◌, ◌^◌, ◌∙◌, ◌∷◌, ◌≡◌}
use Rattle.std.proofs.lemmas.List.{drop_at, length-map}
use Rattle.std.proofs.lemmas.List.Elements.{All-cons, All-head, All-nil, All-tail}
use Rattle.std.specs.Int.{to_be_bytes, w32}
use Rattle.std.specs.List.{All, flat_map}
use Rattle.zq_delta.proofs.Again.{found_again}
use Rattle.zq_delta.specs.Reading.{found_at}
use Rattle.zq_dots.specs.Placed.{IsRanged, Placed}
use Rattle.zq_fields.proofs.Again.{u32_read}
use Rattle.zq_fields.specs.Fields.{number_field}
use Rattle.zq_links.proofs.Repeated.{ops_more, ops_none}
use Rattle.zq_links.specs.Frame.{Frame, Have, IsFrame, IsHave, OfHave, OfOps, OfState}
use Rattle.zq_links.specs.Have.{have_at, rule_at, vector_at}
use Rattle.zq_links.specs.Kind.{kind_byte}
use Rattle.zq_links.specs.Reading.{body_at, frame_at, kind_at, more_ops_at, op_in, ops_at}
use Rattle.zq_links.specs.Spelling.{HasHave, HasOp, HasSpelling, HaveIn, OpsIn, Spelled, SpelledOp, StateIn, frame_spelling, have_bytes, op_bytes, op_of, ops_bytes, value_of}
use Rattle.zq_links.specs.declared.kind.Kind.{Kind}
use Rattle.zq_links.specs.declared.kind.Kind.TheVariants as kind
use Rattle.zq_merge.proofs.AgainStates.{state_again}
use Rattle.zq_merge.specs.Spelling.{rule_bytes, vector_bytes}
use Rattle.zq_merge.specs.State.{state_at, state_spelling}
use Rattle.zq_merge.specs.Version.{HasRule, HasVector, sites}
use Rattle.zq_merge.specs.declared.version.Version.{Version}
use Rattle.zq_merge.specs.declared.version.Version.TheVariants.{One, Three, Two}
use Rattle.zq_model.specs.Rule.{Rule}
use Rattle.zq_model.specs.Sets.{IsCounters}
use Rattle.zq_fields.proofs.PartsAgain.{byte_in_again, heap_read, rule_read}
use Rattle.zq_fields.proofs.Counters.{dense_again, limits}
use Rattle.zq_fields.proofs.Entries.{sparse_again}
use Rattle.zq_fields.specs.Reading.{byte_in, heap_at}
use Rattle.zq_shard.specs.Shard.{HeapImage}

-- ---- what a site has

rule_again : (v : Version) (whole : ℕ) (rule : Rule) (rest : List ℕ) → HasRule v rule → rule_at v whole (rule_bytes v rule ++ rest) ≡ Ok (rule, rest)
rule_again One whole rule rest is = ap (λ r. Ok (r, rest)) (sym is)
rule_again Two whole rule rest is = ap (λ r. Ok (r, rest)) (sym is)
rule_again Three whole rule rest is = rule_read whole rule rest

vector_again : (v : Version) (whole : ℕ) (vector rest : List ℕ) → HasVector v vector → IsCounters vector → vector_at v whole (vector_bytes v vector ++ rest) ≡ Ok (vector, rest)
vector_again One whole vector rest few counters = dense_again whole None vector rest counters few (limits vector counters)
vector_again Two whole vector rest few counters = sparse_again whole None vector rest counters (limits vector counters)
vector_again Three whole vector rest few counters = sparse_again whole None vector rest counters (limits vector counters)

have_of : (v : Version) (whole : ℕ) (h : Have) (b0 b1 b2 b3 b4 : List ℕ) → heap_at whole b0 ≡ Ok (record { heap = h.heap; heaps = h.heaps }, b1) → byte_in whole 0 (sites v) b1 ≡ Ok (h.from, b2) → rule_at v whole b2 ≡ Ok (h.rule, b3) → vector_at v whole b3 ≡ Ok (h.vector, b4) → have_at v whole b0 ≡ Ok (h, b4)
unfolding have_at
have_of v whole h b0 b1 b2 b3 b4 heap from rule vector = rw (heap, from, rule, vector) refl

-- a spelling, whatever follows it, is read as what the site has
pub have_again : (v : Version) (whole : ℕ) (h : Have) (rest : List ℕ) → IsHave h → HasHave v h → have_at v whole (have_bytes v h ++ rest) ≡ Ok (h, rest)
unfolding have_bytes
have_again v whole h rest sound has =
    let b3 = vector_bytes v h.vector ++ rest in
    let b2 = rule_bytes v h.rule ++ b3 in
    ap (λ b. have_at v whole (h.heaps ∷ (h.heap ∷ (h.from ∷ b)))) (append_assoc (rule_bytes v h.rule) (vector_bytes v h.vector) rest)
    ∙ have_of v whole h (h.heaps ∷ (h.heap ∷ (h.from ∷ b2))) (h.from ∷ b2) b2 b3 rest (heap_read whole (record { heap = h.heap; heaps = h.heaps }) (h.from ∷ b2) sound.heaps sound.heap) (byte_in_again whole 0 (sites v) h.from b2 (omega arith) has.from) (rule_again v whole h.rule b3 has.rule) (vector_again v whole h.vector rest has.vector sound.vector)

-- ---- operations

op_in_of : (i n : ℕ) (o : Placed) (bytes rest : List ℕ) → found_at bytes ≡ Ok (o, n) → drop n bytes ≡ rest → op_in i bytes ≡ Ok (o, rest)
op_in_of i n o bytes rest e left = rw (e, left) refl

op_again : (i : ℕ) (o : SpelledOp) (rest : List ℕ) → IsRanged (op_of o) → HasOp o → op_in i (op_bytes o ++ rest) ≡ Ok (op_of o, rest)
op_again i o rest ranged has =
    op_in_of i (length (op_bytes o)) (op_of o) (op_bytes o ++ rest) rest (found_again o.0 o.1 rest ranged has) (drop_at (op_bytes o) rest (length (op_bytes o)) refl)

more_again : (before : List Placed) (os : List SpelledOp) (rest : List ℕ) → All (λ o. IsRanged (op_of o)) os → All HasOp os → more_ops_at (length os) before (flat_map op_bytes os ++ rest) ≡ Ok (before ++ map op_of os, rest)
more_again before [] rest ranged has = ops_none before rest ∙ ap (λ ops. Ok (ops, rest)) (sym (append-nil before))
more_again before (o ∷ os) rest ranged has =
    let first = All-head (λ p. IsRanged (op_of p)) o os ranged in
    let later = All-tail (λ p. IsRanged (op_of p)) o os ranged in
    let b1 = flat_map op_bytes os ++ rest in
    let one = ap (op_in (length before)) (append_assoc (op_bytes o) (flat_map op_bytes os) rest) ∙ op_again (length before) o b1 first (All-head HasOp o os has) in
    ops_more (length os) before (op_of o) (flat_map op_bytes (o ∷ os) ++ rest) b1 one
    ∙ (more_again (before ++ op_of o ∷ []) os rest later (All-tail HasOp o os has) ∙ ap (λ ops. Ok (ops, rest)) (append_assoc before (op_of o ∷ []) (map op_of os)))

ops_of : (n : ℕ) (ops : List Placed) (b0 b1 b2 : List ℕ) → number_field w32 b0 ≡ Some (n, b1) → more_ops_at n [] b1 ≡ Ok (ops, b2) → ops_at b0 ≡ Ok (ops, b2)
unfolding ops_at
ops_of n ops b0 b1 b2 count each = rw (count, each) refl

pub ranged_ops : (os : List SpelledOp) → All IsRanged (map op_of os) → All (λ o. IsRanged (op_of o)) os
ranged_ops [] all = All-nil (λ o. IsRanged (op_of o))
ranged_ops (o ∷ os) all =
    All-cons (λ p. IsRanged (op_of p)) o os (All-head IsRanged (op_of o) (map op_of os) all) (ranged_ops os (All-tail IsRanged (op_of o) (map op_of os) all))

pub few_ops : (os : List SpelledOp) → length (map op_of os) < 2 ^ 32 → length os < 2 ^ 32
few_ops os few = let same = length-map os op_of in omega (arith, same)

-- a spelling, whatever follows it, is read as its operations
pub ops_again : (os : List SpelledOp) (rest : List ℕ) → IsFrame (OfOps (map op_of os)) → All HasOp os → ops_at (ops_bytes os ++ rest) ≡ Ok (map op_of os, rest)
unfolding ops_bytes
ops_again os rest sound has =
    let b1 = flat_map op_bytes os ++ rest in
    let count = ap (number_field w32) (append_assoc (to_be_bytes w32 (length os)) (flat_map op_bytes os) rest) ∙ u32_read (length os) b1 (few_ops os sound.1) in
    ops_of (length os) (map op_of os) (ops_bytes os ++ rest) b1 rest count (more_again [] os rest (ranged_ops os sound.0) has)

-- ---- frames

pub kind_again : (k : Kind) (rest : List ℕ) → kind_at (kind_byte k ∷ rest) ≡ Ok (k, rest)
kind_again (kind.Have One) rest = refl
kind_again (kind.Have Two) rest = refl
kind_again (kind.Have Three) rest = refl
kind_again kind.Ops rest = refl
kind_again kind.State rest = refl

frame_by : (k : Kind) (f : Frame) (b0 b1 : List ℕ) → kind_at b0 ≡ Ok (k, b1) → body_at k (length b0) b1 ≡ Ok f → frame_at b0 ≡ Ok f
frame_by k f b0 b1 first body = rw (first) body

have_body : (v : Version) (whole : ℕ) (h : Have) (bytes : List ℕ) → have_at v whole bytes ≡ Ok (h, []) → body_at (kind.Have v) whole bytes ≡ Ok (OfHave h)
have_body v whole h bytes e = rw e refl

ops_body : (whole : ℕ) (ops : List Placed) (bytes : List ℕ) → ops_at bytes ≡ Ok (ops, []) → body_at kind.Ops whole bytes ≡ Ok (OfOps ops)
ops_body whole ops bytes e = rw e refl

state_body : (whole : ℕ) (s : HeapImage) (bytes : List ℕ) → state_at bytes ≡ Ok s → body_at kind.State whole bytes ≡ Ok (OfState s)
state_body whole s bytes e = rw e refl

-- a spelling is read as its frame
pub frame_again : (s : Spelled) → IsFrame (value_of s) → HasSpelling s → frame_at (frame_spelling s) ≡ Ok (value_of s)
frame_again (HaveIn v h) sound has =
    let b0 = frame_spelling (HaveIn v h) in
    frame_by (kind.Have v) (OfHave h) b0 (have_bytes v h) (kind_again (kind.Have v) (have_bytes v h))
    (have_body v (length b0) h (have_bytes v h) (ap (have_at v (length b0)) (sym (append-nil (have_bytes v h))) ∙ have_again v (length b0) h [] sound has))
frame_again (OpsIn os) sound has =
    let b0 = frame_spelling (OpsIn os) in
    frame_by kind.Ops (OfOps (map op_of os)) b0 (ops_bytes os) (kind_again kind.Ops (ops_bytes os))
    (ops_body (length b0) (map op_of os) (ops_bytes os) (ap ops_at (sym (append-nil (ops_bytes os))) ∙ ops_again os [] sound has))
frame_again (StateIn v s) sound has =
    let b0 = frame_spelling (StateIn v s) in
    frame_by kind.State (OfState s) b0 (state_spelling v s) (kind_again kind.State (state_spelling v s))
    (state_body (length b0) s (state_spelling v s) (state_again v s sound has))
