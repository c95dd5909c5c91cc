use Rattle.std.proofs.Common.{◌<◌, ◌∙◌, ap, arith}
use Rattle.zq_tally.specs.Words.{passes_of}
use Rattle.zq_tally.proofs.Seatings.{leaves, steps_on, gathers}
use Rattle.zq_tally.proofs.tally.Tally.step.Goals as goal

pub split_seat-place-requires : goal.split_seat-place-requires
split_seat-place-requires c =
    let seat = c.args.count.now.place in
    let words : 0 < c.args.self.now.table.shared.table_id.words = omega (arith, c.args.self.now.sized) in
    (c.requires.own.0, words, leaves seat.id seat.me.0)

pub split_seat-place-requires-2 : goal.split_seat-place-requires-2
split_seat-place-requires-2 c =
    let total = c.look.new.total in
    let words : 0 < c.args.self.now.table.shared.table_id.words = omega (arith, c.args.self.now.sized) in (
      c.look.ensures.stays.0 ∙ c.join.ensures.stays.0 ∙ c.requires.own.1,
      words,
      steps_on total.place.id c.args.count.now.steps total.steps (passes_of c.args.total.now) total.place.me.0
          (c.look.ensures.stays.3 ∙ c.join.ensures.joined) total.counted,
    )

pub join_seat-requires : goal.join_seat-requires
join_seat-requires c =
    let words : 0 < c.args.self.now.table.shared.table_id.words = omega (arith, c.args.self.now.sized) in
    let left = c.split_seat-place in
    let back = c.split_seat-place-2 in (
      left.ensures.0 ∙ c.requires.own.0,
      back.ensures.3 ∙ c.look.ensures.stays.0 ∙ c.join.ensures.stays.0 ∙ c.requires.own.1,
      ap (λ m. m.1) back.ensures.4,
      words,
      gathers left.new.seat.id back.result.id left.new.seat.me.0 back.result.me.0 (ap (λ m. m.0.total) back.ensures.4),
    )
