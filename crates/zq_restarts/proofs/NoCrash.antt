-- Calls of linked sites, of which none crashed, are a run too.

use Rattle.std.proofs.Common.{ap, arith, inl, inr, subst, suc, sym, zero, ◌∙◌}
use Rattle.std.proofs.lemmas.Bool.{cases_eq}
use Rattle.std.proofs.lemmas.List.{append_assoc, length-append, map-append}
use Rattle.std.specs.Prelude.{List, [], length, map, refl, ℕ, ◌+◌, ◌++◌, ◌∷◌, ◌≡◌, ◌≤◌, ◌⊎◌}
use Rattle.zq_model.specs.Books.{Change, HandedOn, Made, Merged, Recorded, Step, Took, TookOver}
use Rattle.zq_model.specs.Image.{Image, join}
use Rattle.zq_model.specs.Limits.{TailLimits}
use Rattle.zq_model.specs.Rule.{Rule}
use Rattle.zq_model.specs.Sets.{IsIn}
use Rattle.zq_notes.proofs.OfSites.{in_later, notes_apart, notes_here}
use Rattle.zq_notes.proofs.ReadOff.{AreScoresMeant}
use Rattle.zq_notes.proofs.RunMoves.{apart_is, here_is}
use Rattle.zq_notes.specs.Calls.{IsCallOver}
use Rattle.zq_notes.specs.Notes.{Books}
use Rattle.zq_notes.specs.Sites as linked
use Rattle.zq_notes.specs.Sites.{AreEventsOf, Event, IsEventAfter, books_at, made_from, made_of, notes_at}
use Rattle.zq_notes.specs.Thread.{left_by, left_by_all}
use Rattle.zq_restarts.proofs.InOrder.{reached-append}
use Rattle.zq_restarts.proofs.Happened.{stands_after}
use Rattle.zq_restarts.proofs.Standings.{new_stand}
use Rattle.zq_restarts.specs.Reached.{AreAfter, AreBrought, AreBroughtIn, IsAfter, IsCallAfter, IsSent, WasHad}
use Rattle.zq_restarts.specs.Runs.{Called, Happening, State, after_call, new_sites, reached}
use Rattle.zq_restarts.specs.Standing.{IsStanding}
use Rattle.zq_spread.specs.declared.site.Site.{Site}

abbrev called : List Event → List Happening
called events = map Called events

pub left_is : (now : State) (events : List Event) → (reached now (called events)).left ≡ made_from events now.left
left_is now [] = refl
left_is now (e ∷ events) = left_is (after_call e now) events

pub books_are : (now : State) (s : ℕ) (events : List Event) → (reached now (called events)).books s ≡ left_by_all (notes_at s events) (now.books s)
books_are now s [] = refl
books_are now s (e ∷ events) = books_are (after_call e now) s events ∙ elim (cases_eq e.site s) [
  | inl same ↦ ap (left_by_all (notes_at s events)) (subst (λ t. (after_call e now).books t ≡ left_by e.call.note (now.books t)) same (here_is now.books e.site (left_by e.call.note (now.books e.site))))
      ∙ ap (λ notes. left_by_all notes (now.books s)) (sym (notes_here s e events same))
  | inr apart ↦ ap (left_by_all (notes_at s events)) (apart_is now.books e.site (left_by e.call.note (now.books e.site)) s (λ at. apart (sym at)))
      ∙ ap (λ notes. left_by_all notes (now.books s)) (sym (notes_apart s e events apart))
]

-- ---- calls that are cut in two

same_first : (x y : Happening) (xs ys : List Happening) → x ∷ xs ≡ y ∷ ys → x ≡ y
same_first x y xs ys e = cc

same_rest : (x y : Happening) (xs ys : List Happening) → x ∷ xs ≡ y ∷ ys → xs ≡ ys
same_rest x y xs ys e = cc

not_none : (x : Happening) (xs : List Happening) → [] ≡ x ∷ xs → ⊥
not_none x xs e = cc

record IsCut (events : List Event) (xs ys : List Happening) : Type 0 where
  pub past : List Event
  pub later : List Event
  pub split : events ≡ past ++ later
  pub first : xs ≡ called past
  pub second : ys ≡ called later

cut : (events : List Event) (xs ys : List Happening) → called events ≡ xs ++ ys → IsCut events xs ys
cut events [] ys is = record { past = []; later = events; split = refl; first = refl; second = sym is }
cut [] (x ∷ xs) ys is = absurd (not_none x (xs ++ ys) is)
cut (e ∷ events) (x ∷ xs) ys is =
    let rest = cut events xs ys (same_rest (Called e) x (called events) (xs ++ ys) is) in
    record {
      past = e ∷ rest.past;
      later = rest.later;
      split = ap (λ l. e ∷ l) rest.split;
      first = (λ i. sym (same_first (Called e) x (called events) (xs ++ ys) is) i ∷ rest.first i);
      second = rest.second;
    }

last_event : (p : List Event) → (p ≡ []) ⊎ ((before : List Event) × (e : Event) × (p ≡ before ++ e ∷ []))
last_event [] = inl refl
last_event (x ∷ p) = elim (last_event p) [
  | inl none ↦ inr ([], x, ap (λ l. x ∷ l) none)
  | inr some ↦ inr (x ∷ some.0, some.1, ap (λ l. x ∷ l) some.2)
]

module _ (limits : ℕ → TailLimits) (rule : Rule) (K : ℕ) where
  abbrev opening : State
  opening = new_sites limits rule K

  abbrev at : List Event → State
  at before = reached opening (called before)

  pub left_at : (before : List Event) → (at before).left ≡ made_of before
  left_at before = left_is opening before

  pub books_there : (s : ℕ) (before : List Event) → (at before).books s ≡ books_at limits rule K s before
  books_there s before = books_are opening s before

  -- ---- one call

  module _ (before : List Event) (earlier : (past later : List Event) → before ≡ past ++ later → IsStanding rule K (at past)) where
    was_had : (h t : ℕ) (past later : List Event) (a : Image) → before ≡ past ++ later → a ≡ (books_at limits rule K t past h).state → WasHad opening (called before) h a
    was_had h t past later a split same = record {
      site = t;
      past = called past;
      later = called later;
      split = ap called split ∙ map-append Called past later;
      image = same ∙ ap (λ (b : Books). (b h).state) (sym (books_there t past));
      left = λ o i here. subst (IsIn o) (sym (left_at before)) (in_later o before past later split (subst (IsIn o) (left_at past) (((earlier past later split).images t).within o i)));
    }

    sent : (c : Change) → linked.IsSent before c → IsSent (at before) c
    sent (Made o) is = tt
    sent (Took o) is = subst (IsIn o) (sym (left_at before)) is

    brought : (s h : ℕ) (steps : List Step) → linked.AreBrought limits rule K before s h steps → AreBrought opening (called before) s h steps
    brought s h [] are = tt
    brought s h (Recorded r ∷ steps) are = (sent r.change are.0, brought s h steps are.1)
    brought s h (Merged stamp other ∷ steps) are = let from = are.0 in (was_had h from.0 from.1 from.2 other from.3 from.4, brought s h steps are.1)
    brought s h (HandedOn stamp handed ∷ steps) are = (tt, brought s h steps are.1)
    brought s h (TookOver stamp other ∷ steps) are =
        let from = are.0 in
        let a : Image = (books_at limits rule K from.0 from.1 h).state in
        ((a, was_had h from.0 from.1 from.2 a from.3 refl, from.4 ∙ ap (λ (b : Books). join (b h).state a) (sym (books_there s before))), brought s h steps are.1)

    brought_in : (s : ℕ) (heaps : List ℕ) (steps : List (List Step)) → linked.AreBroughtIn limits rule K before s heaps steps → AreBroughtIn opening (called before) s heaps steps
    brought_in s [] steps are = tt
    brought_in s (h ∷ heaps) [] are = tt
    brought_in s (h ∷ heaps) (ss ∷ steps) are = (brought s h ss are.0, brought_in s heaps steps are.1)

    call_after : (sites : ℕ → Site) (e : Event) → IsEventAfter limits rule K sites before e → IsCallAfter rule K opening (called before) e
    call_after sites e is = record {
      site = sites e.site;
      number = is.number;
      heaps = is.heaps;
      ruled = is.ruled;
      call = subst (λ books. IsCallOver (sites e.site) books e.call) (sym (books_there e.site before)) is.call;
      brought = brought_in e.site e.call.note.heaps e.call.note.steps is.brought;
    }

    -- in the words of what happens
    earlier_too : (xs ys : List Happening) → called before ≡ xs ++ ys → IsStanding rule K (reached opening xs)
    earlier_too xs ys is = let parts = cut before xs ys is in subst (λ l. IsStanding rule K (reached opening l)) (sym parts.first) (earlier parts.past parts.later parts.split)

  -- ---- all of them

  module _ (two : 2 ≤ K) (meant : AreScoresMeant) (sites : ℕ → Site) (events : List Event) (are : AreEventsOf limits rule K sites events) where
    cut_at : (before past later : List Event) (e : Event) (rest : List Event) → events ≡ before ++ e ∷ rest → before ≡ past ++ later → events ≡ past ++ (later ++ e ∷ rest)
    cut_at before past later e rest is split = is ∙ ap (λ l. l ++ e ∷ rest) split ∙ append_assoc past later (e ∷ rest)

    standing : (k : ℕ) (p rest : List Event) → events ≡ p ++ rest → length p ≤ k → IsStanding rule K (at p)
    standing zero p rest is few = elim (last_event p) [
      | inl none ↦ subst (λ q. IsStanding rule K (at q)) (sym none) (new_stand limits rule K)
      | inr some ↦ (
          let longer : length p ≡ length some.0 + 1 = ap length some.2 ∙ length-append some.0 (some.1 ∷ []) in
          absurd (omega (arith, longer, few)))
    ]
    standing (suc k) p rest is few = elim (last_event p) [
      | inl none ↦ subst (λ q. IsStanding rule K (at q)) (sym none) (new_stand limits rule K)
      | inr some ↦ (
          let before : List Event = some.0 in
          let e : Event = some.1 in
          let split : events ≡ before ++ e ∷ rest = is ∙ ap (λ l. l ++ rest) some.2 ∙ append_assoc before (e ∷ []) rest in
          let longer : length p ≡ length before + 1 = ap length some.2 ∙ length-append before (e ∷ []) in
          let earlier : (past later : List Event) → before ≡ past ++ later → IsStanding rule K (at past) =
          (λ past later split_again.
          let shorter : length before ≡ length past + length later = ap length split_again ∙ length-append past later in
          standing k past (later ++ e ∷ rest) (cut_at before past later e rest split split_again) (omega (arith, longer, shorter, few))) in
          subst (λ q. IsStanding rule K (at q)) (sym some.2)
          (subst (λ l. IsStanding rule K (reached opening l)) (sym (map-append Called before (e ∷ [])))
          (subst (IsStanding rule K) (sym (reached-append opening (called before) (Called e ∷ [])))
          (stands_after rule K two meant opening (called before) (earlier_too before earlier) (standing k before (e ∷ rest) split (omega (arith, longer, few)))
          (Called e) (call_after before earlier sites e (are before e rest split))))))
    ]

    stands_at : (p rest : List Event) → events ≡ p ++ rest → IsStanding rule K (at p)
    stands_at p rest is = standing (length p) p rest is (omega arith)

    after_at : (before : List Happening) (x : Happening) (later : List Happening) (past rest : List Event) → events ≡ past ++ rest → before ≡ called past → x ∷ later ≡ called rest →
        IsAfter rule K opening before x
    after_at before x later past [] is first second = absurd (not_none x later (sym second))
    after_at before x later past (e ∷ rest) is first second =
        subst (λ l. IsAfter rule K opening l x) (sym first)
        (subst (IsAfter rule K opening (called past)) (sym (same_first x (Called e) later (called rest) second))
        (call_after past (λ a b split. stands_at a (b ++ e ∷ rest) (cut_at past a b e rest is split)) sites e (are past e rest is)))

    pub are_after : AreAfter rule K opening (called events)
    are_after before x later is = let parts = cut events before (x ∷ later) is in after_at before x later parts.past parts.later parts.split parts.first parts.second
