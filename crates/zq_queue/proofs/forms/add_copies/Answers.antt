use Rattle.std.proofs.Common.{ap, arith, refl, subst, sym, true≢false, ◌∙◌, ◌≡◌}
use Rattle.std.proofs.lemmas.List.{drop_all, drop_more}
use Rattle.std.specs.FinMap.{get, insert}
use Rattle.std.specs.Prelude.{List, Some, [], drop, get_or, is_none, length, true, ◌+◌, ◌++◌, ◌<◌, ◌∷◌, ℕ}
use Rattle.zq_dots.specs.Rule.{rule_of}
use Rattle.zq_model.specs.Score.{score_of}
use Rattle.zq_queue.proofs.Built.{all_built, copied_row, copy_begins, each, not_yet, one_more, row_there}
use Rattle.zq_queue.proofs.Changing.{handed_on, written_is_set}
use Rattle.zq_queue.proofs.Fews.{lists_few}
use Rattle.zq_queue.proofs.Helds.{absent_held, entries_of-empty, same_at_each, scored-empty, scored-insert}
use Rattle.zq_queue.proofs.Placed.{next_name, no_name_left}
use Rattle.zq_queue.specs.Built.{IsBuilt}
use Rattle.zq_queue.specs.Few.{entries_by, names_in, row_of, rows_of}
use Rattle.zq_queue.specs.Queued.{AreScored, entries_of}
use Rattle.zq_queue.specs.declared.few.Member.{Member}
use Rattle.zq_queue.proofs.forms.add_copies.Goals.{in-Some+in_ok-copy+in_ok-insert, in_default}
use Rattle.zq_queue.proofs.forms.add_copies.Goals as goal

next_named : (list : List Member) (i : ℕ) (m : Member) → i < length list → m ≡ get_or list i m → names_in (drop i list) ≡ m.name ∷ names_in (drop (i + 1) list)
next_named list i m within at = ap names_in (drop_more list i m within ∙ ap (λ x. x ∷ drop (i + 1) list) (sym at))

next : (list : List Member) (i : ℕ) (m : Member) → i < length list → m ≡ get_or list i m → rows_of (drop i list) ≡ row_of m ∷ rows_of (drop (i + 1) list)
next list i m within at = ap rows_of (drop_more list i m within ∙ ap (λ x. x ∷ drop (i + 1) list) (sym at))

pub loop-member-init : goal.loop-member-init
loop-member-init c = record {
  scored = subst (AreScored (rule_of c.args.rule)) (sym c.requires.empty) (scored-empty (rule_of c.args.rule));
  places = ap (λ ps. ps ++ names_in c.args.list.now) c.requires.no_places;
  built = copy_begins (entries_by c.args.list.now) (rows_of c.args.list.now) (lists_few c.args.list.now c.requires.few.apart) (entries_of c.args.many.now.held)
      (ap entries_of c.requires.empty ∙ entries_of-empty) (rows_of c.args.list.now) refl;
}

pub insert-requires : goal.insert-requires
insert-requires c =
    let list = c.args.list.now in
    let i = c.loop-member.member-index in
    let m = c.member-item.result in
    let all = entries_by list in
    let held = c.loop-member.many.held in
    ap (get held) c.as_slice.ensures
    ∙ absent_held held m.name (not_yet all each (get all) (rows_of (drop i list)) (rows_of (drop (i + 1) list)) (row_of m) (next list i m c.loop-member-test.true c.member-item.is) (entries_of held) c.loop-member.invariant.built refl)

pub loop-member-preserved : goal.loop-member-preserved
loop-member-preserved c =
    let list = c.args.list.now in
    let i = c.loop-member.member-index in
    let m = c.member-item.result in
    let all = entries_by list in
    let held = c.loop-member.many.held in
    let rule = rule_of c.args.rule in
    let on = next list i m c.loop-member-test.true c.member-item.is in
    let built = c.loop-member.invariant.built in
    let there : get all m.name ≡ Some m.entry = row_there all each (get all) (rows_of (drop i list)) (rows_of (drop (i + 1) list)) (row_of m) on (entries_of held) built in
    elim c.match-score.branch [
      | in-Some+in_ok-copy+in_ok-insert w ↦
          let x = w.in-Some.score in
          let e = w.in_ok-copy.field-0 in
          let new = w.insert.new.self in
          let score : score_of rule e ≡ Some x = ap (score_of rule) w.in_ok-copy.ensures ∙ sym w.in-Some.ensures.preferred in
          let done : new.held ≡ insert held m.name (x, e)
          = w.in_ok-insert.ensures.done ∙ (λ k. insert held (w.as_slice.ensures k) (handed_on x w.in-Some.ensures.within k, e)) in
          record {
            scored = subst (λ y. AreScored rule y.held) (sym w.many-is) (subst (AreScored rule) (sym done) (scored-insert rule held m.name x e c.loop-member.invariant.scored score));
            places = next_name c.loop-member.many.places _ (names_in (drop i list)) (names_in (drop (i + 1) list)) (names_in list) m.name
                (ap (λ y. y.places) w.many-is ∙ w.in_ok-insert.ensures.places ∙ ap (λ name. c.loop-member.many.places ++ name ∷ []) w.as_slice.ensures)
                (next_named list i m c.loop-member-test.true c.member-item.is) c.loop-member.invariant.places;
            built = subst (λ y. IsBuilt all (λ _. true) (get all) (rows_of (drop (i + 1) list)) (entries_of y.held)) (sym w.many-is)
                (one_more all each (get all) (rows_of (drop i list)) (rows_of (drop (i + 1) list)) (row_of m) on (entries_of held) built e refl
                (copied_row all (row_of m) c.requires.few.stand there e w.in_ok-copy.ensures) (entries_of new.held) (ap entries_of done ∙ written_is_set rule held m.name e x score));
          }
      | in_default w ↦ absurd (true≢false (sym (ap is_none w.in_default.is) ∙ c.score.ensures.none ∙ c.requires.few.stand m.name m.entry there))
    ]

pub returns-clause-entries : goal.returns-clause-entries
returns-clause-entries c =
    let list = c.args.list.now in
    let i = c.loop-member.member-index in
    let all = entries_by list in
    same_at_each (entries_of c.loop-member.many.held) all (all_built all each (get all) (rows_of (drop i list)) (entries_of c.loop-member.many.held)
    (ap rows_of (drop_all i list (omega (arith, c.loop-member-test.false)))) c.loop-member.invariant.built)

pub returns-clause-places : goal.returns-clause-places
returns-clause-places c =
    let list = c.args.list.now in
    let i = c.loop-member.member-index in
    no_name_left c.loop-member.many.places (names_in (drop i list)) (names_in list) (ap names_in (drop_all i list (omega (arith, c.loop-member-test.false)))) c.loop-member.invariant.places
