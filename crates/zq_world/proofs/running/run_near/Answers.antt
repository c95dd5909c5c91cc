use Rattle.std.proofs.Common.{List, Some, [], ap, arith, false, inl, inr, length, refl, subst, sym, ◌++◌, ◌∙◌, ◌∷◌, ◌≡◌, ◌≤◌}
use Rattle.std.proofs.lemmas.List.{set-set}
use Rattle.std.proofs.lemmas.Option.{slice_get_read}
use Rattle.std.specs.Prelude.{slice_get}
use Rattle.zq_commands.specs.Commands.{IsRunOver}
use Rattle.zq_commands.specs.Lending.{queues_in}
use Rattle.zq_model.specs.Books.{Book}
use Rattle.zq_model.specs.Sets.{IsIn}
use Rattle.zq_model.proofs.Read.{in_place}
use Rattle.zq_semantics.specs.Plan.{plan_of}
use Rattle.zq_semantics.specs.Run.{cut_reply, takes_of}
use Rattle.zq_resp.specs.Reply.{reply_bytes}
use Rattle.zq_world.proofs.RanBooks.{number_left}
use Rattle.zq_world.specs.Told.{KeepsHeaps, lending_told}
use Rattle.zq_world.proofs.running.run_near.Goals as goal
use Rattle.zq_world.proofs.running.run_near.Goals.{After-pop, After-push_reserved}

-- the book that is popped, and it alone
stands : (c : After-push_reserved) → slice_get c.args.books.items c.nearest-place.result ≡ Some c.index_mut.result.now
stands c = slice_get_read c.args.books.items (length c.args.books.items) c.nearest-place.result c.index_mut.result.now refl c.nearest-place.ensures.inside c.index_mut.ensures.value

alone : (c : After-push_reserved) → c.push_reserved.new.self.items ≡ c.index_mut.result.now ∷ []
alone c =
    c.push_reserved.ensures.items ∙ ap (λ (xs : List Book). xs ++ c.replace.result ∷ []) (c.reserve.ensures.items ∙ c.new-near.ensures.items) ∙ ap (λ (b : Book). b ∷ []) c.replace.ensures.value

pub run_over-requires-clause-dated : goal.run_over-requires-clause-dated
run_over-requires-clause-dated c =
    let d = (goal.at.run_over-requires-clause-dated c).After-push_reserved in
    let old = c.index_mut.result.now in (
      c.requires.dated.0,
      λ book here. elim (subst (IsIn book) (alone d) here) [
        | inl same ↦ subst (λ (b : Book). b.stamp ≤ c.args.stamp) same (c.requires.dated.1 old (in_place c.args.books.items c.nearest-place.result old (stands d)))
        | inr none ↦ absurd none
      ],
    )

-- one book is left
one_left : (c : After-pop) → c.push_reserved.new.self.items ≡ c.index_mut.result.now ∷ [] → length c.in_ok-left.left.books.items ≡ 1
one_left c before =
    let lent = lending_told c.push_reserved.new.self.items c.args.made.items in
    number_left c.args.site c.args.stamp (takes_of c.args.command.now (queues_in lent)) (plan_of c.args.command.now (queues_in lent)) (cut_reply c.args.command.now (queues_in lent)) lent
    (lending_told c.in_ok-left.left.books.items c.in_ok-left.left.made.items) (reply_bytes c.in_ok-left.left.reply) false c.in_ok-left.ensures.ran.run
    ∙ ap length before

pub unreachable-requires : goal.unreachable-requires
unreachable-requires c =
    let d = goal.at.unreachable-requires c in
    let one = one_left d.After-pop (alone d.After-push_reserved) in
    let none = c.in_default.ensures.cases.0 in
    omega (arith, one, none, c.in_ok-left.left.books.ok.0)

last_one : (xs : List Book) (b : Book) → length (xs ++ b ∷ []) ≡ 1 → xs ++ b ∷ [] ≡ b ∷ []
last_one [] b one = refl
last_one (x ∷ []) b one = absurd (omega (arith, one))
last_one (x ∷ y ∷ xs) b one = absurd (omega (arith, one))

pub returns-clause-ran : goal.returns-clause-ran
returns-clause-ran c =
    let d = goal.at.returns-clause-ran c in
    let at = stands d.After-push_reserved in
    let books = c.args.books.items in
    let place = c.nearest-place.result in
    let old = c.index_mut.result.now in
    let new = c.in-Some.book in
    let made = c.args.made.items in
    let told = c.in_ok-left.left.made.items in
    let bytes = reply_bytes c.in_ok-left.left.reply in
    let before = alone d.After-push_reserved in
    let items = c.in-Some.ensures.items in
    let after : c.in_ok-left.left.books.items ≡ new ∷ [] = items ∙ last_one c.pop.new.self.items new (sym (ap length items) ∙ one_left d.After-pop before) in
    let ran = c.in_ok-left.ensures.ran in
    record {
      place = place;
      old = old;
      new = new;
      found = at;
      left_is = set-set books place c.replace.new.dest new;
      run = subst (λ (xs : List Book). IsRunOver c.args.site c.args.stamp c.args.command.now (lending_told xs made) (lending_told (new ∷ []) told) bytes false) before
          (subst (λ (ys : List Book). IsRunOver c.args.site c.args.stamp c.args.command.now (lending_told c.push_reserved.new.self.items made) (lending_told ys told) bytes false) after ran.run);
      heaps = subst (λ (xs : List Book). KeepsHeaps xs made (new ∷ []) told) before (subst (λ (ys : List Book). KeepsHeaps c.push_reserved.new.self.items made ys told) after ran.heaps);
      first = λ low high at_low at_high. c.nearest-place.ensures.first low high old at_low at_high at;
    }
