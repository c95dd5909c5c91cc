-- Equal bytes that begin with spellings of frames begin with the same one.

use Rattle.std.proofs.Common.{ap, append_assoc, arith, length, List, map, Ok, Option, refl, Some, sym, [], ℕ, ◌++◌, ◌∙◌, ◌∷◌, ◌≡◌}
use Rattle.std.proofs.lemmas.List.Elements.{All-head, All-map, All-tail, All-weaker}
use Rattle.std.specs.Int.{to_be_bytes, w32}
use Rattle.std.specs.List.{All, flat_map}
use Rattle.std.specs.Prelude.{Result}
use Rattle.zq_delta.proofs.Again as delta
use Rattle.zq_dots.specs.Placed.{IsRanged, Placed}
use Rattle.zq_fields.proofs.Again.{u32_read}
use Rattle.zq_fields.specs.Fields.{number_field}
use Rattle.zq_links.proofs.Again.{few_ops, have_again, kind_again, ranged_ops}
use Rattle.zq_links.specs.Frame.{Frame, Have, IsFrame, IsHave, OfHave, OfOps, OfState}
use Rattle.zq_links.specs.Have.{have_at}
use Rattle.zq_links.specs.Kind.{kind_byte}
use Rattle.zq_links.specs.Reading.{kind_at}
use Rattle.zq_links.specs.Spelling.{HasHave, HasOp, HasSpelling, HaveIn, OpsIn, Spelled, SpelledOp, StateIn, frame_spelling, have_bytes, newest, newest_op, op_bytes, op_of, ops_bytes, value_of}
use Rattle.zq_links.specs.declared.frame_fault.FrameFault.{FrameFault}
use Rattle.zq_links.specs.declared.kind.Kind.{Kind}
use Rattle.zq_links.specs.declared.kind.Kind.TheVariants as kind
use Rattle.zq_merge.proofs.AgainStates as merge
use Rattle.zq_merge.specs.State.{state_spelling}
use Rattle.zq_merge.specs.declared.version.Version.{Version}
use Rattle.zq_fields.specs.declared.fault.PartFault.{PartFault}

first_same : (k l : Kind) (a b : List ℕ) → kind_byte k ∷ a ≡ kind_byte l ∷ b → (k ≡ l) × (a ≡ b)
first_same k l a b same =
    let p : Kind × List ℕ = (k, a) in
    let q : Kind × List ℕ = (l, b) in
    let both : ◌≡◌ {A = Result (Kind × List ℕ) FrameFault} (Ok p) (Ok q) = sym (kind_again k a) ∙ (ap kind_at same ∙ kind_again l b) in
    let pair : p ≡ q = cc in
    (λ i. (pair i).0, λ i. (pair i).1)

have_same : (v w : Version) (a b : Have) (x y : List ℕ) → v ≡ w → IsHave a → HasHave v a → IsHave b → HasHave w b → have_bytes v a ++ x ≡ have_bytes w b ++ y → (HaveIn v a ≡ HaveIn w b) × (x ≡ y)
have_same v w a b x y e sa ha sb hb same =
    let p : Have × List ℕ = (a, x) in
    let q : Have × List ℕ = (b, y) in
    let both : ◌≡◌ {A = Result (Have × List ℕ) PartFault} (Ok p) (Ok q) =
    sym (have_again v 0 a x sa ha) ∙ (ap (have_at v 0) same ∙ (ap (λ u. have_at u 0 (have_bytes w b ++ y)) e ∙ have_again w 0 b y sb hb)) in
    let pair : p ≡ q = cc in
    (λ i. HaveIn (e i) ((pair i).0), λ i. (pair i).1)

each_same : (os ps : List SpelledOp) (x y : List ℕ) → length os ≡ length ps → All (λ o. IsRanged (op_of o)) os → All HasOp os → All (λ o. IsRanged (op_of o)) ps → All HasOp ps → flat_map op_bytes os ++ x ≡ flat_map op_bytes ps ++ y → (os ≡ ps) × (x ≡ y)
each_same [] [] x y count ro ho rp hp same = (refl, same)
each_same [] (p ∷ ps) x y count ro ho rp hp same = absurd (omega (arith, count))
each_same (o ∷ os) [] x y count ro ho rp hp same = absurd (omega (arith, count))
each_same (o ∷ os) (p ∷ ps) x y count ro ho rp hp same =
    let R : SpelledOp → Type 0 = λ q. IsRanged (op_of q) in
    let a = flat_map op_bytes os ++ x in
    let b = flat_map op_bytes ps ++ y in
    let heads : op_bytes o ++ a ≡ op_bytes p ++ b = sym (append_assoc (op_bytes o) (flat_map op_bytes os) x) ∙ (same ∙ append_assoc (op_bytes p) (flat_map op_bytes ps) y) in
    let first = delta.same_again o.0 p.0 o.1 p.1 a b (All-head R o os ro) (All-head HasOp o os ho) (All-head R p ps rp) (All-head HasOp p ps hp) heads in
    let few : length os ≡ length ps = omega (arith, count) in
    let rest = each_same os ps x y few (All-tail R o os ro) (All-tail HasOp o os ho) (All-tail R p ps rp) (All-tail HasOp p ps hp) first.1.1 in
    (λ i. (first.0 i, first.1.0 i) ∷ rest.0 i, rest.1)

ops_same : (os ps : List SpelledOp) (x y : List ℕ) → IsFrame (OfOps (map op_of os)) → All HasOp os → IsFrame (OfOps (map op_of ps)) → All HasOp ps → ops_bytes os ++ x ≡ ops_bytes ps ++ y → (OpsIn os ≡ OpsIn ps) × (x ≡ y)
unfolding ops_bytes
ops_same os ps x y so ho sp hp same =
    let a = flat_map op_bytes os ++ x in
    let b = flat_map op_bytes ps ++ y in
    let p : ℕ × List ℕ = (length os, a) in
    let q : ℕ × List ℕ = (length ps, b) in
    let whole : to_be_bytes w32 (length os) ++ a ≡ to_be_bytes w32 (length ps) ++ b = sym (append_assoc (to_be_bytes w32 (length os)) (flat_map op_bytes os) x) ∙ (same ∙ append_assoc (to_be_bytes w32 (length ps)) (flat_map op_bytes ps) y) in
    let both : ◌≡◌ {A = Option (ℕ × List ℕ)} (Some p) (Some q) = sym (u32_read (length os) a (few_ops os so.1)) ∙ (ap (number_field w32) whole ∙ u32_read (length ps) b (few_ops ps sp.1)) in
    let pair : p ≡ q = cc in
    let each = each_same os ps x y (λ i. (pair i).0) (ranged_ops os so.0) ho (ranged_ops ps sp.0) hp (λ i. (pair i).1) in
    (ap OpsIn each.0, each.1)

-- equal bytes that begin with spellings begin with the same one
pub same_again : (s t : Spelled) (x y : List ℕ) → IsFrame (value_of s) → HasSpelling s → IsFrame (value_of t) → HasSpelling t → frame_spelling s ++ x ≡ frame_spelling t ++ y → (s ≡ t) × (x ≡ y)
same_again (HaveIn v a) (HaveIn w b) x y sa ha sb hb same =
    let first = first_same (kind.Have v) (kind.Have w) (have_bytes v a ++ x) (have_bytes w b ++ y) same in
    let kinds : kind.Have v ≡ kind.Have w = first.0 in
    let version : v ≡ w = cc in
    have_same v w a b x y version sa ha sb hb first.1
same_again (OpsIn os) (OpsIn ps) x y sa ha sb hb same =
    ops_same os ps x y sa ha sb hb ((first_same kind.Ops kind.Ops (ops_bytes os ++ x) (ops_bytes ps ++ y) same).1)
same_again (StateIn v a) (StateIn w b) x y sa ha sb hb same =
    let all = merge.same_again v w a b x y sa ha sb hb ((first_same kind.State kind.State (state_spelling v a ++ x) (state_spelling w b ++ y) same).1) in
    (λ i. StateIn (all.0 i) (all.1.0 i), all.1.1)
same_again (HaveIn v a) (OpsIn ps) x y sa ha sb hb same =
    let apart : kind.Have v ≡ kind.Ops = (first_same (kind.Have v) kind.Ops (have_bytes v a ++ x) (ops_bytes ps ++ y) same).0 in absurd (cc)
same_again (HaveIn v a) (StateIn w b) x y sa ha sb hb same =
    let apart : kind.Have v ≡ kind.State = (first_same (kind.Have v) kind.State (have_bytes v a ++ x) (state_spelling w b ++ y) same).0 in absurd (cc)
same_again (OpsIn os) (HaveIn w b) x y sa ha sb hb same =
    let apart : kind.Ops ≡ kind.Have w = (first_same kind.Ops (kind.Have w) (ops_bytes os ++ x) (have_bytes w b ++ y) same).0 in absurd (cc)
same_again (OpsIn os) (StateIn w b) x y sa ha sb hb same =
    let apart : kind.Ops ≡ kind.State = (first_same kind.Ops kind.State (ops_bytes os ++ x) (state_spelling w b ++ y) same).0 in absurd (cc)
same_again (StateIn v a) (HaveIn w b) x y sa ha sb hb same =
    let apart : kind.State ≡ kind.Have w = (first_same kind.State (kind.Have w) (state_spelling v a ++ x) (have_bytes w b ++ y) same).0 in absurd (cc)
same_again (StateIn v a) (OpsIn ps) x y sa ha sb hb same =
    let apart : kind.State ≡ kind.Ops = (first_same kind.State kind.Ops (state_spelling v a ++ x) (ops_bytes ps ++ y) same).0 in absurd (cc)

-- ---- the newest versions

newest_ops : (ops : List Placed) → map op_of (map newest_op ops) ≡ ops
newest_ops [] = refl
newest_ops (o ∷ ops) = ap (λ rest. o ∷ rest) (newest_ops ops)

-- the newest versions have a spelling of each frame
pub has_newest : (f : Frame) → IsFrame f → HasSpelling (newest f)
has_newest (OfHave h) sound = record { from = sound.from; rule = tt; vector = tt }
has_newest (OfOps ops) sound = All-map HasOp newest_op ops (All-weaker IsRanged (λ o. HasOp (newest_op o)) (λ o ranged. (ranged.site, tt)) ops sound.0)
has_newest (OfState s) sound = (tt, tt)

-- and it is the frame's
pub newest_value : (f : Frame) → value_of (newest f) ≡ f
newest_value (OfHave h) = refl
newest_value (OfOps ops) = ap OfOps (newest_ops ops)
newest_value (OfState s) = refl
