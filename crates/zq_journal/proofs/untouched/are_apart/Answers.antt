use Rattle.std.proofs.Common.{List, [], ap, arith, drop, false, sym, ℕ, ◌+◌, ◌∙◌, ◌≡◌}
use Rattle.std.proofs.lemmas.List.{drop_all}
use Rattle.std.specs.Prelude.{◌&&◌}
use Rattle.zq_journal.proofs.Apart.{apart_at, apart_is, are_apart, harm}
use Rattle.zq_journal.specs.Untouched.{is_among, keys_of}
use Rattle.zq_journal.specs.declared.records.Record as code
use Rattle.zq_journal.proofs.untouched.are_apart.Goals as goal

pub returns-then-is_among : goal.returns-then-is_among
returns-then-is_among c = λ h K seen.
    let v : List ℕ = c.args.vector.now in
    let keys : List (List ℕ) = keys_of c.args.keys.now in
    let items : List code.Record = c.args.tail.now.items in
    let place : ℕ = c.loop-place.place in
    let r : code.Record = c.index.result.now in
    let lacked = sym (c.is_new_to.ensures 0 0 []) ∙ c.if-is_new_to.true in
    let among = ap (is_among keys) (sym (c.key.ensures 0 0 [])) ∙ sym c.is_among.ensures ∙ c.if-is_among.true in
    let here : are_apart v keys (drop place items) ≡ false =
    apart_at v keys items place r (omega arith) c.index.ensures ∙ ap (λ b. b && are_apart v keys (drop (place + 1) items)) (harm v keys r.what lacked among) in
    sym here ∙ c.loop-place.invariant ∙ apart_is h K v seen keys (drop c.args.start items)

pub returns : goal.returns
returns c = λ h K seen.
    let v : List ℕ = c.args.vector.now in
    let keys : List (List ℕ) = keys_of c.args.keys.now in
    let items : List code.Record = c.args.tail.now.items in
    let none : drop c.loop-place.place items ≡ [] = drop_all c.loop-place.place items (omega arith) in
    sym (ap (are_apart v keys) none) ∙ c.loop-place.invariant ∙ apart_is h K v seen keys (drop c.args.start items)
