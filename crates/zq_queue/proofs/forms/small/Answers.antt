use Rattle.std.proofs.Common.{ap, refl, subst, sym, ◌∙◌, ◌≡◌}
use Rattle.std.proofs.lemmas.List.{append-nil, map-append}
use Rattle.std.specs.FinMap.{len}
use Rattle.std.specs.Prelude.{List, [], map, ◌++◌, ◌∷◌}
use Rattle.zq_model.specs.Image.{Entry}
use Rattle.zq_posheap.specs.Listing.{IsListing, Row}
use Rattle.zq_queue.proofs.Fews.{is_map, length-few}
use Rattle.zq_queue.proofs.Helds.{len-entries_of}
use Rattle.zq_queue.proofs.Placed.{next_name, no_name_left}
use Rattle.zq_queue.proofs.Rowed.{entries_listing}
use Rattle.zq_queue.specs.Built.{row_pair}
use Rattle.zq_queue.specs.Entries.{Entries}
use Rattle.zq_queue.specs.Few.{names_in, row_of, rows_of}
use Rattle.zq_queue.specs.Queued.{entries_of}
use Rattle.zq_queue.specs.declared.few.Member.{Member}
use Rattle.zq_queue.proofs.forms.small.Goals as goal

done : (m : Entries) (list : List Member) (left : List (Row Entry)) → left ≡ [] → IsListing m (rows_of list ++ map row_pair left) → IsListing m (rows_of list)
done m list left none lists = subst (IsListing m) ((λ k. rows_of list ++ map row_pair (none k)) ∙ append-nil (rows_of list)) lists

pub loop-member-init : goal.loop-member-init
loop-member-init c = rw (c.in_ok-list.ensures.items, c.into_iter-member-iterator.ensures.into_iter_gives) (record {
  lists = entries_listing c.args.many.now.held _ c.iter-member-items.ensures.lists;
  places = c.iter-member-items.ensures.places;
})

pub loop-member-preserved : goal.loop-member-preserved
loop-member-preserved c =
    let list = c.loop-member.list.items in
    let left = c.loop-member.member-iterator in
    let rest = c.next.new.self in
    let name = c.in_ok-name.name in
    let entry = c.in_ok-entry.entry in
    let new : Member = record { name = name; entry = entry } in
    let steps = c.in-Some.ensures.steps in
    let one : row_pair ((c.in-Some.field-0-0-0, c.in-Some.entry.now), c.in-Some.member.now) ≡ row_of new = λ k. (sym c.in_ok-entry.ensures k, sym c.in_ok-name.ensures k) in
    record {
      lists = subst (IsListing (entries_of c.args.many.now.held))
          (sym (next_name (rows_of list) (rows_of c.push.new.self.items) (map row_pair left) (map row_pair rest) _ (row_of new) (ap rows_of c.in_ok-push.ensures.items ∙ map-append row_of list (new ∷ []))
          (ap (map row_pair) steps ∙ ap (λ x. x ∷ map row_pair rest) one) refl)) c.loop-member.invariant.lists;
      places = next_name (names_in list) (names_in c.push.new.self.items) (map (λ row. row.1) left) (map (λ row. row.1) rest) c.args.many.now.places c.in-Some.member.now
          (ap names_in c.in_ok-push.ensures.items ∙ map-append (λ (m : Member). m.name) list (new ∷ []) ∙ ap (λ n. names_in list ++ n ∷ []) c.in_ok-name.ensures)
          (ap (map (λ row. row.1)) steps) c.loop-member.invariant.places;
    }

pub returns-clause-entries : goal.returns-clause-entries
returns-clause-entries c =
    is_map (entries_of c.args.many.now.held) c.loop-member.list.items (done (entries_of c.args.many.now.held) c.loop-member.list.items c.loop-member.member-iterator c.in-None.ensures.steps.0 c.loop-member.invariant.lists)

pub returns-clause-len : goal.returns-clause-len
returns-clause-len c =
    let all = entries_of c.args.many.now.held in
    let lists = done all c.loop-member.list.items c.loop-member.member-iterator c.in-None.ensures.steps.0 c.loop-member.invariant.lists in
    length-few c.loop-member.list.items lists.once ∙ ap len (is_map all c.loop-member.list.items lists) ∙ len-entries_of c.args.many.now.held

pub returns-clause-places : goal.returns-clause-places
returns-clause-places c =
    no_name_left (names_in c.loop-member.list.items) (map (λ row. row.1) c.loop-member.member-iterator) c.args.many.now.places (ap (map (λ row. row.1)) c.in-None.ensures.steps.0)
    c.loop-member.invariant.places
