-- What an entry makes of the stages is determined, and so is what records make of them.

use Rattle.std.proofs.Common.{List, Ok, Option, Some, [], ap, arith, inl, inr, length, refl, subst, suc, sym, zero, ℕ, ◌∙◌, ◌∷◌, ◌≡◌}
use Rattle.std.proofs.lemmas.Option.{same_Some}
use Rattle.std.specs.Prelude.{Result, slice_get, slice_set, ◌⊎◌}
use Rattle.zq_dots.specs.Placed.{Placed}
use Rattle.zq_dots.specs.Rule.{rule_of}
use Rattle.zq_dots.specs.declared.rule.Rule as rules
use Rattle.zq_dots.specs.declared.rule.Rule.TheVariants as rule
use Rattle.zq_entries.specs.Entry as entries
use Rattle.zq_entries.specs.Entry.{Entry, OfPiece, OfRest, OfRound, OfSealed, OfStart, start_of}
use Rattle.zq_entries.specs.declared.fault.EntryFault.{EntryFault}
use Rattle.zq_entries.specs.declared.start.Start.{Start}
use Rattle.zq_keeper.specs.Read.{AreBlank, Does, Opens, Takes, TakesAll}
use Rattle.zq_links.specs.declared.piece.Piece.{Piece}
use Rattle.zq_recovery.specs.Step as step
use Rattle.zq_recovery.specs.declared.opening.Identity.{Identity}
use Rattle.zq_stage.specs.Piece.{Staged}

-- ---- one entry

one_op : (p : Placed) (old new other : List Staged) → step.TakesOne p old new →
    step.TakesOne p old other → new ≡ other
one_op p old new other a b =
    let h = p.operation.heap in
    let same : a.before ≡ b.before = same_Some a.before b.before (sym a.there ∙ b.there) in
    let after : a.after ≡ b.after =
    a.takes.stage ∙ ap (step.took p.operation) same ∙ sym b.takes.stage in
    a.stages ∙ ap (slice_set old h) after ∙ sym b.stages

all_ops : (ops : List Placed) (old new other : List Staged) → step.TakesAll ops old new →
    step.TakesAll ops old other → new ≡ other
all_ops [] old new other a b = a ∙ sym b
all_ops (p ∷ ops) old new other a b =
    let first : a.0 ≡ b.0 = one_op p old a.0 b.0 a.1 b.1 in
    all_ops ops b.0 new other (subst (λ s. step.TakesAll ops s new) first a.2) b.2

each_batch : (batches : List (List Placed)) (old new other : List Staged) →
    step.TakesEach batches old new → step.TakesEach batches old other → new ≡ other
each_batch [] old new other a b = a ∙ sym b
each_batch (ops ∷ batches) old new other a b =
    let first : a.0 ≡ b.0 = all_ops ops old a.0 b.0 a.1 b.1 in
    each_batch batches b.0 new other (subst (λ s. step.TakesEach batches s new) first a.2) b.2

-- a piece is the first of a stream or not
one_piece : (p : Piece) (old new other : Staged) → step.Begins p old new ⊎ step.GoesOn p old new →
    step.Begins p old other ⊎ step.GoesOn p old other → new ≡ other
one_piece p old new other (inl a) (inl b) = a.stage ∙ sym b.stage
one_piece p old new other (inl a) (inr b) = absurd (b.later a.first)
one_piece p old new other (inr a) (inl b) = absurd (a.later b.first)
one_piece p old new other (inr a) (inr b) = a.stage ∙ sym b.stage

in_place : (p : Piece) (old new other : List Staged) → step.Comes p old new →
    step.Comes p old other → new ≡ other
in_place p old new other a b =
    let h = p.part.heap in
    let same : a.before ≡ b.before = same_Some a.before b.before (sym a.there ∙ b.there) in
    let after : a.after ≡ b.after = one_piece p b.before a.after b.after
    (subst (λ s. step.Begins p s a.after ⊎ step.GoesOn p s a.after) same a.comes) b.comes in
    a.stages ∙ ap (slice_set old h) after ∙ sym b.stages

pub does_one : (e : Entry) (old new other : List Staged) → Does e old new → Does e old other →
    new ≡ other
does_one (OfStart s) old new other a b = a ∙ sym b
does_one (OfRound batches) old new other a b = each_batch batches old new other a b
does_one (OfPiece p) old new other a b = in_place p old new other a b
does_one (OfSealed w) old new other a b = a.1 ∙ sym b.1
does_one OfRest old new other a b = a.1 ∙ sym b.1

-- ---- starts

same_rule : (a b : rules.Rule) → rule_of a ≡ rule_of b → a ≡ b
same_rule rule.High rule.High is = refl
same_rule rule.High rule.Low is = absurd (cc)
same_rule rule.Low rule.High is = absurd (cc)
same_rule rule.Low rule.Low is = refl

same_start : (s t : Start) → start_of s ≡ start_of t → s ≡ t
same_start s t is =
    let same : s.rule ≡ t.rule =
    same_rule s.rule t.rule (ap (λ (x : entries.Start). x.rule) is) in
    let site : s.site ≡ t.site = ap (λ (x : entries.Start). x.site) is in
    let heaps : s.heaps ≡ t.heaps = ap (λ (x : entries.Start). x.heaps) is in
    let folder : s.folder ≡ t.folder = ap (λ (x : entries.Start). x.folder) is in
    let number : s.number ≡ t.number = ap (λ (x : entries.Start). x.number) is in
    λ k. record {
      site = site k;
      heaps = heaps k;
      rule = same k;
      folder = folder k;
      number = number k;
    }

pub opens_one : (i : Identity) (e : Entry) (old new other : Option Start) → Opens i e old new →
    Opens i e old other → new ≡ other
opens_one i (OfStart s) old new other a b =
    a.2.noted ∙ ap Some (same_start a.0 b.0 (a.1 ∙ sym b.1)) ∙ sym b.2.noted
opens_one i (OfRound batches) old new other a b = a.1 ∙ sym b.1
opens_one i (OfPiece p) old new other a b = a.1 ∙ sym b.1
opens_one i (OfSealed w) old new other a b = a.1 ∙ sym b.1
opens_one i OfRest old new other a b = a.1 ∙ sym b.1

-- ---- records

-- what was read of the site
pub record Same (s t : Option Start) (a b : List Staged) : Type 0 where
  pub start : s ≡ t
  pub stages : a ≡ b

same_entry : (d e : Entry) → ◌≡◌ {A = Result Entry EntryFault} (Ok d) (Ok e) → d ≡ e
same_entry d e is = cc

takes_one : (i : Identity) (payload : List ℕ) (s t u : Option Start) (old new other : List Staged) →
    Takes i payload s old t new → Takes i payload s old u other → Same t u new other
takes_one i payload s t u old new other a b =
    let same : a.entry ≡ b.entry = same_entry a.entry b.entry (sym a.read ∙ b.read) in
    record {
      start = opens_one i b.entry s t u (subst (λ e. Opens i e s t) same a.opens) b.opens;
      stages = does_one b.entry old new other (subst (λ e. Does e old new) same a.does) b.does;
    }

pub takes_all : (i : Identity) (payloads : List (List ℕ)) (s t u : Option Start)
    (old new other : List Staged) → TakesAll i payloads s old t new →
    TakesAll i payloads s old u other → Same t u new other
takes_all i [] s t u old new other a b = record {
  start = a.0 ∙ sym b.0;
  stages = a.1 ∙ sym b.1;
}
takes_all i (payload ∷ payloads) s t u old new other a b =
    let first = takes_one i payload s a.0 b.0 old a.1 b.1 a.2 b.2 in
    takes_all i payloads b.0 t u b.1 new other
    (subst (λ x. TakesAll i payloads x b.1 t new) first.start
    (subst (λ x. TakesAll i payloads a.0 x t new) first.stages a.3)) b.3

-- ---- the beginning

-- two lists with the same at each place
same_lists : (xs ys : List Staged) → length xs ≡ length ys →
    ((h : ℕ) (x y : Staged) → slice_get xs h ≡ Some x → slice_get ys h ≡ Some y → x ≡ y) →
    xs ≡ ys
same_lists [] [] long same = refl
same_lists [] (y ∷ ys) long same = absurd (omega (arith, long))
same_lists (x ∷ xs) [] long same = absurd (omega (arith, long))
same_lists (x ∷ xs) (y ∷ ys) long same =
    let head : x ≡ y = same zero x y refl refl in
    let tail : xs ≡ ys = same_lists xs ys (omega (arith, long)) (λ h a b is its. same (suc h) a b is its) in
    λ k. head k ∷ tail k

pub same_blank : (i : Identity) (a b : List Staged) → AreBlank i a → AreBlank i b → a ≡ b
same_blank i a b is its =
    same_lists a b (is.number ∙ sym its.number)
    (λ h x y here there. is.empty h x here ∙ sym (its.empty h y there))
