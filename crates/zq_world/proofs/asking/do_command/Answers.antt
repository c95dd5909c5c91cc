use Rattle.std.proofs.Common.{List, Some, Vec, ap, arith, length, refl, subst, sym, ℕ, ◌+◌, ◌∙◌, ◌≡◌}
use Rattle.std.proofs.lemmas.List.{set-set}
use Rattle.std.proofs.lemmas.Option.{same_Some, slice_get_read}
use Rattle.std.specs.Prelude.{slice_get}
use Rattle.std.specs.declared.alloc.Global.{Global}
use Rattle.zq_commands.proofs.SitePlaces.{site_homes, site_lending}
use Rattle.zq_dots.specs.Placed.{Placed}
use Rattle.zq_model.specs.Books.{Book}
use Rattle.zq_semantics.specs.Books.{AreUnworn, greatest_stamp}
use Rattle.zq_semantics.specs.Doing.{is_ping, queues_for}
use Rattle.zq_world.proofs.Commanded.{commanded, dated, many, no_ping, not_commanded, of_its}
use Rattle.zq_world.specs.Outcomes.{RanBy}
use Rattle.zq_world.specs.Play.{run_of}
use Rattle.zq_world.proofs.asking.do_command.Goals as goal
use Rattle.zq_world.proofs.asking.do_command.Goals.{After-replace-made}

pub read_over-requires-clause-lent : goal.read_over-requires-clause-lent
read_over-requires-clause-lent c =
    let sites = c.args.player.now.sites.items in
    let at = slice_get_read sites (length sites) c.args.site c.index.result.now refl c.requires.inside c.index.ensures in
    site_lending c.index.result.now.items (of_its c.requires.held.0 c.args.player.now c.requires.held.1 c.args.site c.index.result.now at)

pub returns-then-stamp-eq-LAST_COUNT-clause-done : goal.returns-then-stamp-eq-LAST_COUNT-clause-done
returns-then-stamp-eq-LAST_COUNT-clause-done c = λ played held.
    let sites = c.args.player.now.sites.items in
    let at = slice_get_read sites (length sites) c.args.site c.index-2.result.now refl c.requires.inside c.index-2.ensures in
    let command = c.args.command.now in
    let st = (run_of played).now in
    let last = sym (c.greatest_stamp-stamp.ensures.greatest ∙ ap greatest_stamp c.deref.ensures.value) ∙ c.if-stamp-eq-LAST_COUNT.true in
    not_commanded played c.args.player.now held c.args.site c.index-2.result.now at c.args.words.0 c.args.words.1 command
    (queues_for played.rule played.heaps (st.sets c.args.site) c.args.words.0 c.args.words.1 command) c.cut_reply.result
    (ap is_ping (sym c.kind.ensures.kind) ∙ no_ping c.kind.result.now c.in_default.not-Ping) last c.cut_reply.ensures.bytes

-- the books of the site, and their greatest stamp
its_at : (c : After-replace-made) → slice_get c.args.player.now.sites.items c.args.site ≡ Some c.replace-books.result
its_at c =
    let sites = c.args.player.now.sites.items in
    slice_get_read sites (length sites) c.args.site c.index_mut.result.now refl c.requires.inside c.index_mut.ensures.value ∙ ap (λ (v : Vec Book Global). Some v) (sym c.replace-books.ensures.value)

stamp_is : (c : After-replace-made) → c.greatest_stamp-stamp.result ≡ greatest_stamp c.replace-books.result.items
stamp_is c =
    let sites = c.args.player.now.sites.items in
    let seen = slice_get_read sites (length sites) c.args.site c.index-2.result.now refl c.requires.inside c.index-2.ensures in
    c.greatest_stamp-stamp.ensures.greatest ∙ ap greatest_stamp c.deref.ensures.value
    ∙ ap (λ (v : Vec Book Global). greatest_stamp v.items) (same_Some c.index-2.result.now c.replace-books.result (sym seen ∙ its_at c))

pub run_by-requires-clause-lent : goal.run_by-requires-clause-lent
run_by-requires-clause-lent c =
    let d = (goal.at.run_by-requires-clause-lent c).After-replace-made in
    site_lending c.replace-books.result.items (of_its c.requires.held.0 c.args.player.now c.requires.held.1 c.args.site c.replace-books.result (its_at d))

pub run_by-requires-clause-dated : goal.run_by-requires-clause-dated
run_by-requires-clause-dated c =
    let d = (goal.at.run_by-requires-clause-dated c).After-replace-made in
    dated c.requires.held.0 c.args.player.now c.requires.held.1 c.args.site c.replace-books.result (its_at d) c.greatest_stamp-stamp.result (stamp_is d)
    (omega (arith, c.greatest_stamp-stamp.ensures.bounded, c.if-stamp-eq-LAST_COUNT.false))

pub run_by-requires-clause-homes : goal.run_by-requires-clause-homes
run_by-requires-clause-homes c =
    let d = (goal.at.run_by-requires-clause-homes c).After-replace-made in
    site_homes c.replace-books.result.items (of_its c.requires.held.0 c.args.player.now c.requires.held.1 c.args.site c.replace-books.result (its_at d)) c.args.command.now

pub run_by-requires-clause-some : goal.run_by-requires-clause-some
run_by-requires-clause-some c =
    let d = (goal.at.run_by-requires-clause-some c).After-replace-made in
    (many c.requires.held.0 c.args.player.now c.requires.held.1 c.args.site c.replace-books.result (its_at d)).0

pub run_by-requires-clause-few : goal.run_by-requires-clause-few
run_by-requires-clause-few c =
    let d = (goal.at.run_by-requires-clause-few c).After-replace-made in
    (many c.requires.held.0 c.args.player.now c.requires.held.1 c.args.site c.replace-books.result (its_at d)).1

pub returns-clause-done : goal.returns-clause-done
returns-clause-done c = λ played held.
    let d = (goal.at.returns-clause-done c).After-replace-made in
    let old = c.args.player.now in
    let books = c.replace-books.result in
    let left = c.in_ok-left.left in
    let command = c.args.command.now in
    let is = stamp_is d in
    let stamp = c.greatest_stamp-stamp.result + 1 in
    let unworn = subst AreUnworn c.deref-2.ensures.value c.look_at.ensures in
    let ran = subst (λ (xs : List Placed). RanBy c.args.site stamp command c.args.words.0 c.args.words.1 books.items xs left) (ap (λ (v : Vec Placed Global). v.items) c.replace-made.ensures.value)
    (subst (λ (s : ℕ). RanBy s stamp command c.args.words.0 c.args.words.1 books.items c.replace-made.result.items left) c.in-Some.ensures.1 c.in_ok-left.ensures.ran) in
    commanded played old held c.args.site books (its_at d) c.args.words.0 c.args.words.1 stamp left unworn command
    (ap is_ping (sym c.kind.ensures.kind) ∙ no_ping c.kind.result.now c.in_default.not-Ping) (omega (arith, is)) (omega (arith, c.greatest_stamp-stamp.ensures.bounded, c.if-stamp-eq-LAST_COUNT.false))
    c.kind.ensures.limits ran _ (set-set old.sites.items c.args.site c.replace-books.new.dest left.books) refl
