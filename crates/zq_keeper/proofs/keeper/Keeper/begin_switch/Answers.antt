use Rattle.std.proofs.Common.{[], ap, subst, sym, ◌++◌, ◌∷◌}
use Rattle.zq_keeper.proofs.Turning.{begin_counted, begin_read}
use Rattle.zq_keeper.specs.Read.{IsReadAs}
use Rattle.zq_wal.specs.Format.{payload_over, recovered}
use Rattle.zq_keeper.proofs.keeper.Keeper.begin_switch.Goals as goal

pub returns-in_err-share-clause-any_moment : goal.returns-in_err-share-clause-any_moment
returns-in_err-share-clause-any_moment g c = λ going.
    c.stand.ensures (c.requires going) (recovered (g.D.Disk.seen c.args.self.now.wal.disk))

pub keep_next-requires-clause-read : goal.keep_next-requires-clause-read
keep_next-requires-clause-read g c =
    let k = c.args.self.now in
    let is = c.requires c.in_ok-share.ensures.going in
    let staged = recovered (g.D.Disk.staged c.open_next.new.self.wal.disk) in
    let s = c.in_ok-share.share in
    let still = c.open_next.ensures.still in
    subst (λ i. IsReadAs i (staged ++ payload_over 0 s.entry.items ∷ []) c.open_next.new.self.start
    s.next.heaps.items) (sym still.site.identity)
    (subst (λ t. IsReadAs k.identity (staged ++ payload_over 0 s.entry.items ∷ []) t
    s.next.heaps.items) (sym still.site.start)
    (begin_read k.identity k.start (recovered (g.D.Disk.seen k.wal.disk)) staged k.heaps.items
    s.entry.items s.next (ap recovered c.in_ok-open_next.ensures.staged)
    (is.start c.in_ok-share.ensures.begun) is.read c.in_ok-share.ensures.entry
    c.in_ok-share.ensures.next))

pub keep_next-requires-clause-counted : goal.keep_next-requires-clause-counted
keep_next-requires-clause-counted g c =
    begin_counted c.args.self.now.identity c.in_ok-share.share.next c.in_ok-share.ensures.next
