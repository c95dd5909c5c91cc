-- Runs of sites that crash and begin again.

use Rattle.std.proofs.Common.{ap, arith, inl, inr, subst, suc, sym, zero, ◌∙◌}
use Rattle.std.proofs.lemmas.Bool.{cases_eq}
use Rattle.std.proofs.lemmas.List.{append_assoc, length-append}
use Rattle.std.specs.Prelude.{List, [], length, ℕ, ◌+◌, ◌++◌, ◌∷◌, ◌≡◌, ◌≤◌}
use Rattle.zq_model.specs.Rule.{Rule}
use Rattle.zq_notes.proofs.FromCalls.{over_call}
use Rattle.zq_notes.proofs.ReadOff.{AreScoresMeant}
use Rattle.zq_notes.proofs.RunMoves.{apart_is, here_is}
use Rattle.zq_notes.specs.Gathered.{AreOfIn}
use Rattle.zq_notes.specs.Notes.{Books}
use Rattle.zq_notes.specs.Sites.{Event}
use Rattle.zq_notes.specs.Thread.{IsNoteOver, IsOneThread, left_by}
use Rattle.zq_restarts.proofs.Brought.{brought_of}
use Rattle.zq_restarts.proofs.CallsOver.{stands_next}
use Rattle.zq_restarts.proofs.InOrder.{last_of, notes_apart, notes_here, reached-append}
use Rattle.zq_restarts.proofs.Read.{linked_call}
use Rattle.zq_restarts.proofs.Restarts.{stands_again}
use Rattle.zq_restarts.proofs.Standings.{goes_on, hold_same, makes_new}
use Rattle.zq_restarts.specs.Linked.{IsLinkedCall, IsLinkedRun}
use Rattle.zq_restarts.specs.Reached.{AreAfter, IsAfter, IsCallAfter}
use Rattle.zq_restarts.specs.Runs.{Called, Happening, Restarted, RunsOn, State, after, left_after, notes_in, reached}
use Rattle.zq_restarts.specs.Standing.{IsStanding}
use Rattle.zq_spread.specs.Calls.{heaps_of}

module _ (rule : Rule) (K : ℕ) (two : 2 ≤ K) (meant : AreScoresMeant) (opening : State) where
  note_over : (before : List Happening) (e : Event) → IsCallAfter rule K opening before e → IsNoteOver rule K e.site ((reached opening before).books e.site) e.call.note
  note_over before e at =
      let books : Books = (reached opening before).books e.site in
      subst (λ n. IsNoteOver rule K n books e.call.note) at.number
      (subst (λ k. IsNoteOver rule k at.site.number books e.call.note) at.heaps
      (subst (λ r. IsNoteOver r (heaps_of at.site) at.site.number books e.call.note) at.ruled (over_call at.site books e.call at.call)))

  module _ (before : List Happening) (earlier : (past later : List Happening) → before ≡ past ++ later → IsStanding rule K (reached opening past)) (stands : IsStanding rule K (reached opening before)) where
    of_call : (e : Event) → IsCallAfter rule K opening before e → AreOfIn (left_after e (reached opening before)) e.call.note.heaps e.call.note.steps
    of_call e at = brought_of rule K opening before earlier e.site e.call.note.heaps e.call.note.steps at.brought

    call_is : (e : Event) → IsCallAfter rule K opening before e → IsLinkedCall rule K (reached opening before) e
    call_is e at = linked_call rule K two meant (reached opening before) stands e (note_over before e at) (of_call e at)

    pub stands_after : (x : Happening) → IsAfter rule K opening before x → IsStanding rule K (after x (reached opening before))
    stands_after (Called e) at = stands_next rule K two meant (reached opening before) stands e (note_over before e at) (of_call e at)
    stands_after (Restarted r) is = stands_again rule K (reached opening before) stands r is

  module _ (begins : IsStanding rule K opening) (happenings : List Happening) (are : AreAfter rule K opening happenings) where
    cut_in : (before past later : List Happening) (x : Happening) (rest : List Happening) → happenings ≡ before ++ x ∷ rest → before ≡ past ++ later → happenings ≡ past ++ (later ++ x ∷ rest)
    cut_in before past later x rest is split = is ∙ ap (λ l. l ++ x ∷ rest) split ∙ append_assoc past later (x ∷ rest)

    -- a part of it, and one more
    one_longer : (before : List Happening) (x : Happening) (rest : List Happening) → happenings ≡ before ++ x ∷ rest → happenings ≡ (before ++ x ∷ []) ++ rest
    one_longer before x rest is = is ∙ sym (append_assoc before (x ∷ []) rest)

    -- after each part of it the sites stand
    standing : (k : ℕ) (p rest : List Happening) → happenings ≡ p ++ rest → length p ≤ k → IsStanding rule K (reached opening p)
    standing zero p rest is few = elim (last_of p) [
      | inl none ↦ subst (λ q. IsStanding rule K (reached opening q)) (sym none) begins
      | inr some ↦ (
          let longer : length p ≡ length some.0 + 1 = ap length some.2 ∙ length-append some.0 (some.1 ∷ []) in
          absurd (omega (arith, longer, few)))
    ]
    standing (suc k) p rest is few = elim (last_of p) [
      | inl none ↦ subst (λ q. IsStanding rule K (reached opening q)) (sym none) begins
      | inr some ↦ (
          let before : List Happening = some.0 in
          let x : Happening = some.1 in
          let split : happenings ≡ before ++ x ∷ rest = is ∙ ap (λ l. l ++ rest) some.2 ∙ append_assoc before (x ∷ []) rest in
          let longer : length p ≡ length before + 1 = ap length some.2 ∙ length-append before (x ∷ []) in
          subst (λ q. IsStanding rule K (reached opening q)) (sym some.2)
          (subst (IsStanding rule K) (sym (reached-append opening before (x ∷ [])))
          (stands_after before
          (λ past later cut.
          let shorter : length before ≡ length past + length later = ap length cut ∙ length-append past later in
          standing k past (later ++ x ∷ rest) (cut_in before past later x rest split cut) (omega (arith, longer, shorter, few)))
          (standing k before (x ∷ rest) split (omega (arith, longer, few))) x (are before x rest split))))
    ]

    stands_at : (p rest : List Happening) → happenings ≡ p ++ rest → IsStanding rule K (reached opening p)
    stands_at p rest is = standing (length p) p rest is (omega arith)

    call_at : (before : List Happening) (e : Event) (later : List Happening) → happenings ≡ before ++ Called e ∷ later → IsLinkedCall rule K (reached opening before) e
    call_at before e later is =
        call_is before (λ past rest cut. stands_at past (rest ++ Called e ∷ later) (cut_in before past rest (Called e) later is cut)) (stands_at before (Called e ∷ later) is) e (are before (Called e) later is)

    -- a site's calls from one start to the next
    thread_at : (s : ℕ) (before between later : List Happening) → happenings ≡ before ++ (between ++ later) → RunsOn s between → IsOneThread rule K s ((reached opening before).books s) (notes_in s between)
    thread_at s before [] later is on = tt
    thread_at s before (Restarted r ∷ between) later is on =
        let now : State = reached opening before in
        let more = thread_at s (before ++ Restarted r ∷ []) between later (one_longer before (Restarted r) (between ++ later) is) on.1 in
        let rest : IsOneThread rule K s ((after (Restarted r) now).books s) (notes_in s between) =
        subst (λ (st : State). IsOneThread rule K s (st.books s) (notes_in s between)) (reached-append opening before (Restarted r ∷ [])) more in
        subst (λ books. IsOneThread rule K s books (notes_in s between)) (apart_is now.books r.site r.books s (λ at. on.0 (sym at))) rest
    thread_at s before (Called e ∷ between) later is on =
        let now : State = reached opening before in
        let more = thread_at s (before ++ Called e ∷ []) between later (one_longer before (Called e) (between ++ later) is) on in
        let rest : IsOneThread rule K s ((after (Called e) now).books s) (notes_in s between) =
        subst (λ (st : State). IsOneThread rule K s (st.books s) (notes_in s between)) (reached-append opening before (Called e ∷ [])) more in
        elim (cases_eq e.site s) [
          | inl same ↦ subst (IsOneThread rule K s (now.books s)) (sym (notes_here s e between same)) (
            subst (λ t. IsNoteOver rule K t (now.books t) e.call.note) same (call_at before e (between ++ later) is).over,
            subst (λ books. IsOneThread rule K s books (notes_in s between))
                (subst (λ t. (after (Called e) now).books t ≡ left_by e.call.note (now.books t)) same (here_is now.books e.site (left_by e.call.note (now.books e.site)))) rest,
          )
          | inr apart ↦ subst (IsOneThread rule K s (now.books s)) (sym (notes_apart s e between apart))
              (subst (λ books. IsOneThread rule K s books (notes_in s between)) (apart_is now.books e.site (left_by e.call.note (now.books e.site)) s (λ at. apart (sym at))) rest)
        ]

    pub linked_run : IsLinkedRun rule K opening happenings
    linked_run = record {
      stands = stands_at;
      goes_on = λ before later is s. goes_on rule K (reached opening before) (stands_at before later is) s;
      makes_new = λ before later is. makes_new rule K (reached opening before) (stands_at before later is);
      converges = λ s t before later past since is was same.
          let one = stands_at before later is in
          let other = stands_at past since was in
          hold_same rule K (reached opening before).left (reached opening past).left ((reached opening before).has s) ((reached opening past).has t)
          ((reached opening before).books s) ((reached opening past).books t) one.world (one.images s) (other.images t) same;
      calls = call_at;
      thread = thread_at;
    }
