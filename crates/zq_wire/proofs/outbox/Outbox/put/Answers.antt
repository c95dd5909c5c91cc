use Rattle.std.proofs.Common.{◌≡◌, [], ◌∷◌, ◌<◌, length, map, refl, ap, subst, arith, ◌∙◌, sym}
use Rattle.std.proofs.lemmas.List.{length-append, length-map, map-append}
use Rattle.zq_wire.specs.declared.parcel.Parcel.{Parcel}
use Rattle.zq_wire.specs.Outbox.{AreParcels, parcel_of, put_in}
use Rattle.zq_wire.specs.Topic.{heap_of}
use Rattle.zq_wire.proofs.Parcels.{few, put_keeps, put_last}
use Rattle.zq_wire.proofs.Places.{absent, placed}
use Rattle.zq_wire.proofs.outbox.Outbox.put.Goals as goal

pub invariant_of-self : goal.invariant_of-self
invariant_of-self c =
    let room = c.self.invariant.room in
    let own = c.self.inside in
    let heaps : own.heaps ≡ c.args.self.now.heaps = ap (λ w. w.heaps) c.self.view_is in
    let below : heap_of c.args.topic < own.heaps = rw heaps c.requires in
    let new : Parcel = record { topic = c.args.topic; frame = c.args.frame } in
    let is = ap (map parcel_of) c.replace.ensures.items ∙ placed c.args.topic new own.waiting.items c.in-Some.place refl (sym c.in-Some.ensures) in
    record {
      parcels = subst (AreParcels own.heaps) (sym is) (put_keeps own.heaps c.args.topic c.args.frame.items (map parcel_of own.waiting.items) below c.self.invariant.parcels);
      room = omega (arith, c.replace.ensures.capacity);
    }

pub push_back_reserved-requires : goal.push_back_reserved-requires
push_back_reserved-requires c =
    let room = c.self.invariant.room in
    let own = c.self.inside in
    let parcels = map parcel_of own.waiting.items in
    let heaps : own.heaps ≡ c.args.self.now.heaps = ap (λ w. w.heaps) c.self.view_is in
    let below : heap_of c.args.topic < own.heaps = rw heaps c.requires in
    let none = absent c.args.topic own.waiting.items (sym c.in-None.ensures) in
    let longer = ap length (put_last c.args.topic c.args.frame.items parcels none) ∙ length-append parcels ((c.args.topic, c.args.frame.items) ∷ []) in
    let bound = few own.heaps (put_in c.args.topic c.args.frame.items parcels) (put_keeps own.heaps c.args.topic c.args.frame.items parcels below c.self.invariant.parcels) in
    omega (arith, length-map own.waiting.items parcel_of)

pub invariant_of-self-in-None : goal.invariant_of-self-in-None
invariant_of-self-in-None c =
    let room = c.self.invariant.room in
    let own = c.self.inside in
    let heaps : own.heaps ≡ c.args.self.now.heaps = ap (λ w. w.heaps) c.self.view_is in
    let below : heap_of c.args.topic < own.heaps = rw heaps c.requires in
    let new : Parcel = record { topic = c.args.topic; frame = c.args.frame } in
    let none = absent c.args.topic own.waiting.items (sym c.in-None.ensures) in
    let is = ap (map parcel_of) c.push_back_reserved.ensures.items ∙ (map-append parcel_of own.waiting.items (new ∷ []) ∙ sym (put_last c.args.topic c.args.frame.items (map parcel_of own.waiting.items) none)) in
    record {
      parcels = subst (AreParcels own.heaps) (sym is) (put_keeps own.heaps c.args.topic c.args.frame.items (map parcel_of own.waiting.items) below c.self.invariant.parcels);
      room = omega (arith, c.push_back_reserved.ensures.capacity);
    }

pub returns-in-Some-clause-put : goal.returns-in-Some-clause-put
returns-in-Some-clause-put c =
    let own = c.self.inside in
    let new : Parcel = record { topic = c.args.topic; frame = c.args.frame } in
    let parcels = ap (λ w. w.parcels) c.self.view_is in
    ap (map parcel_of) c.replace.ensures.items ∙ (placed c.args.topic new own.waiting.items c.in-Some.place refl (sym c.in-Some.ensures)
    ∙ ap (put_in c.args.topic c.args.frame.items) parcels)

pub returns-in-None-clause-put : goal.returns-in-None-clause-put
returns-in-None-clause-put c =
    let own = c.self.inside in
    let new : Parcel = record { topic = c.args.topic; frame = c.args.frame } in
    let parcels = ap (λ w. w.parcels) c.self.view_is in
    let none = absent c.args.topic own.waiting.items (sym c.in-None.ensures) in
    ap (map parcel_of) c.push_back_reserved.ensures.items ∙ (map-append parcel_of own.waiting.items (new ∷ [])
    ∙ (sym (put_last c.args.topic c.args.frame.items (map parcel_of own.waiting.items) none) ∙ ap (put_in c.args.topic c.args.frame.items) parcels))
