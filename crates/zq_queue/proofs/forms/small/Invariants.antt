use Rattle.std.specs.Prelude.{map, ◌++◌, ◌≡◌}
use Rattle.zq_posheap.specs.Listing.{IsListing}
use Rattle.zq_queue.specs.Built.{row_pair}
use Rattle.zq_queue.specs.Few.{names_in, rows_of}
use Rattle.zq_queue.specs.Queued.{entries_of}
use Rattle.zq_queue.proofs.forms.small.Given as goal

abbrev pub invariant-loop-member : goal.invariant-loop-member
invariant-loop-member l = record {
  lists : IsListing (entries_of l.many.held) (rows_of l.list.items ++ map row_pair l.member-iterator);
  places : names_in l.list.items ++ map (λ row. row.1) l.member-iterator ≡ l.many.places;
}
