use Rattle.std.proofs.Common.{arith, length, bit_xor, ℕ, ◌<◌, get_or}
use Rattle.std.proofs.lemmas.List.{length-set, map_more, take_all, take_more_set}
use Rattle.zq_wire.proofs.hmac.masked_by.Goals as goal

pub loop-index-preserved : goal.loop-index-preserved
loop-index-preserved c =
    let kept = c.loop-index.invariant in
    let mask : ℕ = c.args.mask in
    let byte : ℕ = get_or c.args.block.now c.loop-index.index 0 in
    let inside : c.loop-index.index < length c.loop-index.out = omega arith in
    let read : c.loop-index.index < length c.args.block.now = omega arith in
    let written = take_more_set c.loop-index.out c.loop-index.index (bit_xor byte mask) inside in
    let more = map_more (λ b. bit_xor b mask) c.args.block.now c.loop-index.index 0 read in
    record { done = cc; len = omega (arith, length-set {A = ℕ}); block_len = omega arith }

pub returns : goal.returns
returns c =
    let kept = c.loop-index.invariant in
    let whole = take_all c.loop-index.index c.loop-index.out (omega arith) in
    let all = take_all c.loop-index.index c.args.block.now (omega arith) in
    cc
