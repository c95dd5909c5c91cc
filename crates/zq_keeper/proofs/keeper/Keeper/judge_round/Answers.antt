use Rattle.std.proofs.Common.{ap, subst, sym}
use Rattle.std.specs.Option.{is_some}
use Rattle.zq_keeper.proofs.Noting.{each_covers, each_whole}
use Rattle.zq_keeper.specs.Operations.{TakesEach}
use Rattle.zq_keeper.proofs.keeper.Keeper.judge_round.Goals as goal

pub returns-clause-turn : goal.returns-clause-turn
returns-clause-turn g c =
    let k = c.args.self.now in
    let batches = c.args.batches.now in
    let new = c.in_ok-entry.heaps.items in
    let takes = subst (λ xs. TakesEach k.identity batches xs new) c.deref.ensures.value
    c.in_ok-entry.ensures.noted in
    let start = c.in_ok-start.ensures.start in
    record {
      entry = c.in_ok-entry.ensures.entry;
      turns = record { opens = (ap is_some start, sym start); says = takes };
      whole = each_whole k.identity batches k.heaps.items new takes;
      covers = each_covers k.identity batches k.heaps.items new takes;
    }
