use Rattle.std.proofs.Common.{[], ap, arith, length, subst, sym, ◌++◌, ◌+◌, ◌-◌, ◌∙◌, ◌∷◌, ◌≡◌, ◌≤◌}
use Rattle.std.proofs.lemmas.List.{length-map}
use Rattle.std.specs.List.{take-map}
use Rattle.zq_model.specs.Books.{Book, HandedOn, IsBook, Record, handed_on, operation_of, operations_of}
use Rattle.zq_model.specs.Reach.{IsWorked, cut_of}
use Rattle.zq_model.specs.Tail.{lacking}
use Rattle.zq_journal.proofs.Oldest.{lacking-older}
use Rattle.zq_journal.specs.BookView.{book_of}
use Rattle.zq_journal.proofs.book.Book.hand_on.Goals as goal

pub invariant_of-self : goal.invariant_of-self
invariant_of-self c =
    let stamp_is : c.self.inside.stamp ≡ c.args.self.now.stamp = ap (λ b. b.stamp) c.self.view_is in
    let count_is : c.self.inside.count ≡ c.args.self.now.count = ap (λ b. b.count) c.self.view_is in
    let rises : c.self.inside.stamp ≤ c.args.stamp = omega (arith, stamp_is, c.requires.stamp) in
    let touched = c.keeping.ensures.touch (book_of c.self.inside) c.args.stamp rises c.self.invariant.standing.book in
    let many = touched.count in
    record {
      standing = record {
        book = record { steps = touched.steps; replay = touched.replay; stamps = touched.stamps; count = omega (arith, many) };
        kept = c.self.invariant.standing.kept;
        bounded = c.self.invariant.standing.bounded;
        each = c.self.invariant.standing.each;
        last_stamp = c.requires.bounded;
        last_count = omega (arith, count_is, c.requires.count);
      };
      bytes = c.self.invariant.bytes;
    }

pub returns-clause-same : goal.returns-clause-same
returns-clause-same c = ap (λ (q : Book). handed_on q c.args.stamp (q.count + 1 - c.args.newest)) c.self.view_is

pub returns-clause-worked : goal.returns-clause-worked
returns-clause-worked c = λ a steps is.
    let handed = c.args.self.now.count + 1 - c.args.newest in
    subst (λ (q : Book). IsWorked q a c.args.stamp (steps ++ HandedOn c.args.stamp handed ∷ [])) (sym (returns-clause-same c))
    (c.working.ensures.hands_on c.args.self.now a c.args.stamp handed steps is)

pub returns-clause-spared : goal.returns-clause-spared
returns-clause-spared c = λ v n newest most.
    let b : Book = c.args.self.now in
    let kept : IsBook b = subst IsBook c.self.view_is c.self.invariant.standing.book in
    let few : length b.tail ≤ b.count = kept.count in
    let cut : n ≤ cut_of (handed_on b c.args.stamp (b.count + 1 - c.args.newest)) = subst (λ (q : Book). n ≤ cut_of q) (returns-clause-same c) most in
    let older : n ≤ length b.tail - c.args.newest = omega (arith, cut, few) in
    let long : length (operations_of b.tail) ≡ length b.tail = length-map b.tail (λ (r : Record). operation_of r.change) in
    ap (lacking v) (sym (take-map (λ (r : Record). operation_of r.change) n b.tail))
    ∙ lacking-older v (operations_of b.tail) n (omega (arith, older, long, newest, c.requires.newest))
