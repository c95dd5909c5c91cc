use Rattle.std.proofs.Common.{[], Bor, List, None, Option, Some, ap, arith, drop, get_or, length, map, option_map, refl, rules, slice_get, suc, sym, zero, ◌++◌, ◌+◌, ◌-◌, ◌<◌, ◌∙◌, ◌∷◌, ◌≡◌, ◌≤◌, ℕ, ℤ}
use Rattle.std.proofs.lemmas.List.{length-map, map-append}
use Rattle.std.proofs.lemmas.Option.{slice_get-get_or, slice_get-map}
use Rattle.std.specs.Prelude.{IfSome, MatchOption}
use Rattle.zq_commands.proofs.Woven.{weave_enough, weave_left, weave_out, weave_right}
use Rattle.zq_commands.specs.FirstPairs.{lent_pair}
use Rattle.zq_commands.specs.Weaving.{is_next, woven}
use Rattle.zq_commands.proofs.merging.weave.Goals as goal
use Rattle.zq_commands.proofs.merging.weave.Goals.{else-is_left_next+then-right-second+in_ok-push-2, else-loop-rest-test, then-is_left_next+in_ok-push, then-loop-rest-test+else-is_left_next+else-right-second}

past : {X : Type 0} (xs : List X) (i : ℕ) → length xs ≤ i → slice_get xs i ≡ None
past [] i out = refl
past (x ∷ xs) zero out = absurd (omega (arith, out))
past (x ∷ xs) (suc i) out = past xs i (omega (arith, out))

abbrev pair : Type 0
pair = ℤ × Bor (List ℕ)

-- the pair at a place
at : (xs : List pair) (i : ℕ) (d : pair) → i < length xs → slice_get (map lent_pair xs) i ≡ Some (lent_pair (get_or xs i d))
at xs i d within = slice_get-map lent_pair xs i ∙ ap (option_map lent_pair) (slice_get-get_or xs i d within)

got : (P : Bor pair → Type 0) (xs : List pair) (i : ℕ) (r : Option (Bor pair)) → IfSome r (λ x. x.now ≡ get_or xs i x.now) → MatchOption r (length xs ≤ i) (λ x. (i < length xs) × P x) →
    option_map (λ (p : Bor pair). lent_pair p.now) r ≡ slice_get (map lent_pair xs) i
got P xs i None reads match = sym (slice_get-map lent_pair xs i ∙ ap (option_map lent_pair) (past xs i match))
got P xs i (Some x) reads match = ap (λ y. Some (lent_pair y)) reads ∙ sym (at xs i x.now match.0)

pub loop-rest-preserved : goal.loop-rest-preserved
loop-rest-preserved c =
    let xs = c.args.first.now in
    let ys = c.args.second.now in
    let t = c.args.is_turned in
    let i = c.loop-rest.left in
    let j = c.loop-rest.right in
    let one = got _ xs i c.get.result c.get.ensures.lookup.1 c.get.ensures.lookup.3 in
    let other = got _ ys j c.get-in-loop-rest.result c.get-in-loop-rest.ensures.lookup.1 c.get-in-loop-rest.ensures.lookup.3 in
    let next : c.is_left_next.result ≡ is_next t (slice_get (map lent_pair xs) i) (slice_get (map lent_pair ys) j)
    = c.is_left_next.ensures.next ∙ ap (λ p. is_next t p (option_map (λ (q : Bor pair). lent_pair q.now) c.get-in-loop-rest.result)) one ∙ ap (is_next t (slice_get (map lent_pair xs) i)) other in
    let rest : c.loop-rest.rest ≡ suc (c.loop-rest.rest - 1) = omega (arith, c.loop-rest-test.true) in
    elim c.if-is_left_next.branch [
      | then-is_left_next+in_ok-push w ↦
          let within : i < length xs = search rules in
          let left : c.if-is_left_next.left ≡ i + 1 = w.left-is in
          let right : c.if-is_left_next.right ≡ j = w.right-is in
          let items = ap (λ v. map lent_pair v.items) w.pairs-is ∙ ap (map lent_pair) w.in_ok-push.ensures.items ∙ map-append lent_pair c.loop-rest.pairs.items _ in
          record {
            woven =
                weave_left t c.args.most c.loop-rest.rest (c.loop-rest.rest - 1) (map lent_pair xs) (map lent_pair ys) (map lent_pair c.loop-rest.pairs.items) i j c.loop-rest.invariant.woven
                _ rest (at xs i _ within) (sym next ∙ w.if-is_left_next.true)
                ∙ ap (λ ps. ps ++ woven t (c.loop-rest.rest - 1) (drop (i + 1) (map lent_pair xs)) (drop j (map lent_pair ys))) (sym items)
                ∙ ap (λ n. map lent_pair c.if-is_left_next.pairs.items ++ woven t (c.loop-rest.rest - 1) (drop n (map lent_pair xs)) (drop j (map lent_pair ys))) (sym left)
                ∙ ap (λ n. map lent_pair c.if-is_left_next.pairs.items ++ woven t (c.loop-rest.rest - 1) (drop c.if-is_left_next.left (map lent_pair xs)) (drop n (map lent_pair ys))) (sym right);
            left = omega (arith, left, within);
            right = omega (arith, right, c.loop-rest.invariant.right);
          }
      | else-is_left_next+then-right-second+in_ok-push-2 w ↦
          let within : j < length ys = search rules in
          let left : c.if-is_left_next.left ≡ i = w.left-is in
          let right : c.if-is_left_next.right ≡ j + 1 = w.right-is in
          let items = ap (λ v. map lent_pair v.items) w.pairs-is ∙ ap (map lent_pair) w.in_ok-push-2.ensures.items ∙ map-append lent_pair c.loop-rest.pairs.items _ in
          record {
            woven =
                weave_right t c.args.most c.loop-rest.rest (c.loop-rest.rest - 1) (map lent_pair xs) (map lent_pair ys) (map lent_pair c.loop-rest.pairs.items) i j c.loop-rest.invariant.woven
                _ rest (at ys j _ within) (sym next ∙ w.if-is_left_next.false)
                ∙ ap (λ ps. ps ++ woven t (c.loop-rest.rest - 1) (drop i (map lent_pair xs)) (drop (j + 1) (map lent_pair ys))) (sym items)
                ∙ ap (λ n. map lent_pair c.if-is_left_next.pairs.items ++ woven t (c.loop-rest.rest - 1) (drop n (map lent_pair xs)) (drop (j + 1) (map lent_pair ys))) (sym left)
                ∙ ap (λ n. map lent_pair c.if-is_left_next.pairs.items ++ woven t (c.loop-rest.rest - 1) (drop c.if-is_left_next.left (map lent_pair xs)) (drop n (map lent_pair ys))) (sym right);
            left = omega (arith, left, c.loop-rest.invariant.left);
            right = omega (arith, right, within);
          }
    ]

pub returns : goal.returns
returns c =
    let xs = c.args.first.now in
    let ys = c.args.second.now in
    let t = c.args.is_turned in
    let i = c.loop-rest.left in
    let j = c.loop-rest.right in
    elim c.loop-rest-test.branch [
      | else-loop-rest-test w ↦
          weave_enough t c.args.most c.loop-rest.rest 0 (map lent_pair xs) (map lent_pair ys) (map lent_pair c.loop-rest.pairs.items) i j c.loop-rest.invariant.woven (omega (arith, w.loop-rest-test.false))
      | then-loop-rest-test+else-is_left_next+else-right-second w ↦
          let one = got _ xs i w.get.result w.get.ensures.lookup.1 w.get.ensures.lookup.3 in
          let other = got _ ys j w.get-in-loop-rest.result w.get-in-loop-rest.ensures.lookup.1 w.get-in-loop-rest.ensures.lookup.3 in
          let next : w.is_left_next.result ≡ is_next t (slice_get (map lent_pair xs) i) (slice_get (map lent_pair ys) j)
          = w.is_left_next.ensures.next ∙ ap (λ p. is_next t p (option_map (λ (q : Bor pair). lent_pair q.now) w.get-in-loop-rest.result)) one ∙ ap (is_next t (slice_get (map lent_pair xs) i)) other in
          weave_out t c.args.most c.loop-rest.rest 0 (map lent_pair xs) (map lent_pair ys) (map lent_pair c.loop-rest.pairs.items) i j c.loop-rest.invariant.woven
          (omega (arith, w.if-right-second.false, length-map ys lent_pair)) (sym next ∙ w.if-is_left_next.false)
    ]
