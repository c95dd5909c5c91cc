use Rattle.std.proofs.Common.{List, ap, arith, get_or, length, ltb, slice_set, sym, ℕ, ◌&&◌, ◌++◌, ◌+◌, ◌<◌, ◌∙◌, ◌∷◌, ◌≡◌}
use Rattle.std.proofs.lemmas.List.{get_or_default}
use Rattle.std.specs.Int.{to_be_bytes, w32}
use Rattle.std.specs.List.{flat_map}
use Rattle.std.specs.Prelude.{Vec}
use Rattle.std.specs.declared.alloc.Global.{Global}
use Rattle.zq_backlog.proofs.Chosen.{IsCopied, copied_passed, copied_taken, taken_in}
use Rattle.zq_backlog.proofs.Frames.{frame_is}
use Rattle.zq_backlog.specs.Batch.{MOST_LOOKED, is_of, is_wanted}
use Rattle.zq_backlog.specs.Written.{dot_of, nothing, spelling}
use Rattle.zq_dots.specs.Placed.{Placed}
use Rattle.zq_dots.specs.declared.dot.Dot.{Dot}
use Rattle.zq_backlog.proofs.backlog.Backlog.copy.Goals as goal
use Rattle.zq_backlog.proofs.backlog.Backlog.copy.Goals.{then-is_wanted+in_ok-copy_at, else-is_wanted}

pub loop-number-preserved : goal.loop-number-preserved
loop-number-preserved c =
    let ops = c.args.self.now.ops in
    let from = c.args.from in
    let class = c.args.class.now in
    let sent = c.args.sent.now in
    let i = c.loop-number.number in
    let frame = c.loop-number.frame.items in
    let after = c.loop-number.after in
    let inv = c.loop-number.invariant in
    let head : List ℕ = 2 ∷ to_be_bytes w32 c.args.choice.now.count in
    let few : i < MOST_LOOKED = omega (arith, c.loop-number-test.true, c.requires.looked) in
    let in' : from + i < length ops = omega (arith, c.loop-number-test.true, c.requires.within) in
    let o : Placed = get_or ops (from + i) nothing in
    let own : o ≡ get_or ops (from + i) o = get_or_default ops (from + i) nothing o in' in
    let dot : c.dot_at-site.result ≡ dot_of o = c.dot_at-site.ensures.dot o own in
    let want : c.is_wanted.result ≡ is_wanted class after o = c.is_wanted.ensures ∙ ap (λ (d : Dot). is_of class d.site && ltb (get_or after d.site 0) d.n) dot in
    let copied : IsCopied class sent ops from i head frame after = record { frame = inv.frame; after = inv.after } in
    let next : IsCopied class sent ops from (i + 1) head c.if-is_wanted.frame.items c.if-is_wanted.after = elim c.if-is_wanted.branch [
      | then-is_wanted+in_ok-copy_at w ↦
          let t = copied_taken class sent ops from i head frame after o copied few in' own (sym want ∙ w.if-is_wanted.true) in
          record {
            frame = ap (λ (v : Vec ℕ Global). v.items) w.frame-is ∙ w.in_ok-copy_at.ensures o own ∙ t.frame;
            after = w.after-is ∙ w.set.ensures ∙ ap (λ (d : Dot). slice_set after d.site d.n) dot ∙ t.after;
          }
      | else-is_wanted w ↦
          let p = copied_passed class sent ops from i head frame after o copied few in' own (sym want ∙ w.if-is_wanted.false) in
          record {
            frame = ap (λ (v : Vec ℕ Global). v.items) w.frame-is ∙ p.frame;
            after = w.after-is ∙ p.after;
          }
    ] in
    record { frame = next.frame; after = next.after }

pub returns : goal.returns
returns c =
    let taken = taken_in c.args.class.now c.args.sent.now c.args.self.now.ops c.args.from c.args.choice.now.looked in
    let same : c.loop-number.number ≡ c.args.choice.now.looked = omega (arith, c.loop-number-test.false, c.loop-number.auto.number-end) in (
      λ none. c.if-choice-eq0.false (c.requires.count ∙ ap length none),
      c.loop-number.invariant.frame
          ∙ ap (λ k. (2 ∷ to_be_bytes w32 c.args.choice.now.count) ++ flat_map spelling (taken_in c.args.class.now c.args.sent.now c.args.self.now.ops c.args.from k)) same
          ∙ ap (λ n. 2 ∷ (to_be_bytes w32 n ++ flat_map spelling taken)) c.requires.count
          ∙ frame_is taken,
    )
